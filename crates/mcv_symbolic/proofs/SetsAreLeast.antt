-- The legs that count as acknowledged, and those that can be read, are no more than must be.
use Rattle.std.proofs.Common.{◌≡◌, ◌≢◌, ◌⊎◌, ◌↔◌, cond, inl, inr, ⊎_elim, ℕ, Bool, true, false, List, [], ◌∷◌, ◌++◌, Option, Some, None, refl, sym, ap, ap₂, ◌∙◌, subst}
use Rattle.std.specs.Prelude.{if◌then◌else◌}
use Rattle.std.proofs.lemmas.Bool.{cases_Bool}
use Rattle.mcv_base.specs.Reply.{is_error, is_missed, worse}
use Rattle.mcv_base.specs.declared.reply.Outcome.{Outcome}
use Rattle.mcv_base.specs.declared.reply.Outcome.TheVariants.{Good, Soft, Error}
use Rattle.mcv_route.specs.Outcomes.{Outcomes, Choice, History, outcomes, is_same}
use Rattle.mcv_rules.specs.Plan.{Leg, Plan, Send, Reply, Both, Beside, OnError, OnMiss, OnHit, Shadowed, both, on_error, on_miss, reply, IsMissed, HitAt}
use Rattle.mcv_rules.specs.Soundness.{positions, In, AreApart, IsApart, IsHonest, IsForDelete}
use Rattle.mcv_rules.proofs.Sending.{Sends, IsReachable}
use Rattle.mcv_rules.proofs.Basics
use Rattle.mcv_rules.proofs.Orders
use Rattle.mcv_symbolic.specs.ShownAnswers.{answers}
use Rattle.mcv_symbolic.specs.Structure.{nothing, after_error, after_miss, if_all, Counts, Acknowledged, Hits}
use Rattle.mcv_symbolic.proofs.RepliesSaySent

-- what follows an error, and what follows a miss
abbrev if_error : Outcome → History → History
if_error x es = if is_error x then es else []

abbrev if_missed : Outcome → History → History
if_missed x es = if is_missed x then es else []

-- the outcomes of the legs are those of the list
abbrev pub Agrees : Plan → History → Outcomes → Type 0
Agrees t es o = (p : List ℕ) → In (positions t) p → o p ≡ outcomes es p

-- a reply is there that isn't an error
abbrev pub IsDone : Plan → Outcomes → Type 0
IsDone t o = (x : Outcome) × (reply t o ≡ Some x) × (x ≢ Error)

-- ---- lists of outcomes, one behind the other

pub behind : (es fs : History) (p : List ℕ) → outcomes es p ≡ None → outcomes (es ++ fs) p ≡ outcomes fs p
behind [] fs p e = refl
behind (f ∷ es) fs p e =
    elim (cases_Bool (is_same f.0 p)) [
      | inl s ↦ Basics.none_some (sym e ∙ Orders.cond_at_true (is_same f.0 p) (Some f.1) (outcomes es p) s)
      | inr s ↦ Orders.cond_at_false (is_same f.0 p) (Some f.1) (outcomes (es ++ fs) p) s ∙ behind es fs p (sym (Orders.cond_at_false (is_same f.0 p) (Some f.1) (outcomes es p) s) ∙ e)
    ]

pub before : (es fs : History) (p : List ℕ) → outcomes fs p ≡ None → outcomes (es ++ fs) p ≡ outcomes es p
before [] fs p e = e
before (f ∷ es) fs p e = ap (λ r. cond (is_same f.0 p) (Some f.1) r) (before es fs p e)

pub either : (es fs : History) (p : List ℕ) (x : Outcome) → outcomes (es ++ fs) p ≡ Some x → (outcomes es p ≡ Some x) ⊎ (outcomes fs p ≡ Some x)
either [] fs p x e = inr e
either (f ∷ es) fs p x e =
    elim (cases_Bool (is_same f.0 p)) [
      | inl s ↦ inl (Orders.cond_at_true (is_same f.0 p) (Some f.1) (outcomes es p) s ∙ sym (Orders.cond_at_true (is_same f.0 p) (Some f.1) (outcomes (es ++ fs) p) s) ∙ e)
      | inr s ↦
          ⊎_elim
          (λ h. inl (Orders.cond_at_false (is_same f.0 p) (Some f.1) (outcomes es p) s ∙ h))
          (λ h. inr h)
          (either es fs p x (sym (Orders.cond_at_false (is_same f.0 p) (Some f.1) (outcomes (es ++ fs) p) s) ∙ e))
    ]

-- the list names only positions of the route
abbrev pub Inside : Plan → History → Type 0
Inside t es = (p : List ℕ) → (In (positions t) p → ⊥) → outcomes es p ≡ None

inside_both : (t u v : Plan) (es fs : History) → positions v ≡ positions t ++ positions u → Inside t es → Inside u fs → Inside v (es ++ fs)
inside_both t u v es fs w h k p n =
    let left = h p (λ i. n (subst (λ ps. In ps p) (sym w) (Orders.in_left (positions t) (positions u) p i))) in
    behind es fs p left ∙ k p (λ i. n (subst (λ ps. In ps p) (sym w) (Orders.in_right (positions t) (positions u) p i)))

inside_first : (t u v : Plan) (es : History) → positions v ≡ positions t ++ positions u → Inside t es → Inside v es
inside_first t u v es w h p n = h p (λ i. n (subst (λ ps. In ps p) (sym w) (Orders.in_left (positions t) (positions u) p i)))

inside_if : (b : Bool) (u : Plan) (es : History) → Inside u es → Inside u (if b then es else [])
inside_if true u es h p n = h p n
inside_if false u es h p n = refl

inside_send : (l : Leg) (x : Outcome) → Inside (Send l) ((l.position, x) ∷ [])
inside_send l x p n =
    elim (cases_Bool (is_same l.position p)) [
      | inl s ↦ absurd (n (inl (Orders.same_is l.position p s)))
      | inr s ↦ Orders.cond_at_false (is_same l.position p) (Some x) None s
    ]

pub answers_inside : (x : Outcome) (t : Plan) → Inside t (answers x t)
answers_inside x (Send l) = inside_send l x
answers_inside x (Reply y) = λ p n. refl
answers_inside x (Both t u) = inside_both t u (Both t u) (answers x t) (answers x u) refl (answers_inside x t) (answers_inside x u)
answers_inside x (Beside t u) = inside_first t u (Beside t u) (answers x t) refl (answers_inside x t)
answers_inside x (OnError t u) = inside_both t u (OnError t u) (answers x t) (if_error (if_all x t) (answers x u)) refl (answers_inside x t) (inside_if (is_error (if_all x t)) u (answers x u) (answers_inside x u))
answers_inside x (OnMiss t u) = inside_both t u (OnMiss t u) (answers x t) (if_missed (if_all x t) (answers x u)) refl (answers_inside x t) (inside_if (is_missed (if_all x t)) u (answers x u) (answers_inside x u))
answers_inside x (OnHit t u) = inside_first t u (OnHit t u) (answers x t) refl (answers_inside x t)
answers_inside x (Shadowed s a b t u) = inside_first t u (Shadowed s a b t u) (answers x t) refl (answers_inside x t)

-- ---- from a route to its parts

agrees_left : (t u v : Plan) (es fs : History) (o : Outcomes) → positions v ≡ positions t ++ positions u → AreApart t u → Inside u fs → Agrees v (es ++ fs) o → Agrees t es o
agrees_left t u v es fs o w a k g p i =
    g p (subst (λ ps. In ps p) (sym w) (Orders.in_left (positions t) (positions u) p i)) ∙ before es fs p (k p (λ j. a p i j))

agrees_right : (t u v : Plan) (es fs : History) (o : Outcomes) → positions v ≡ positions t ++ positions u → AreApart t u → Inside t es → Agrees v (es ++ fs) o → Agrees u fs o
agrees_right t u v es fs o w a k g p i =
    g p (subst (λ ps. In ps p) (sym w) (Orders.in_right (positions t) (positions u) p i)) ∙ behind es fs p (k p (λ j. a p j i))

agrees_first : (t u v : Plan) (es : History) (o : Outcomes) → positions v ≡ positions t ++ positions u → Agrees v es o → Agrees t es o
agrees_first t u v es o w g p i = g p (subst (λ ps. In ps p) (sym w) (Orders.in_left (positions t) (positions u) p i))

-- the second part knows nothing where the list is of the first
agrees_none : (t u v : Plan) (es : History) (o : Outcomes) → positions v ≡ positions t ++ positions u → AreApart t u → Inside t es → Agrees v es o → Agrees u [] o
agrees_none t u v es o w a k g p i = g p (subst (λ ps. In ps p) (sym w) (Orders.in_right (positions t) (positions u) p i)) ∙ k p (λ j. a p j i)

-- ---- only the route's own positions count

pub reply_local : (t : Plan) (o o2 : Outcomes) → ((p : List ℕ) → In (positions t) p → o p ≡ o2 p) → reply t o ≡ reply t o2
reply_local (Send l) o o2 h = h l.position (inl refl)
reply_local (Reply x) o o2 h = refl
reply_local (Both t u) o o2 h = ap₂ both (reply_local t o o2 (λ p i. h p (Orders.in_left (positions t) (positions u) p i))) (reply_local u o o2 (λ p i. h p (Orders.in_right (positions t) (positions u) p i)))
reply_local (Beside t u) o o2 h = reply_local t o o2 (λ p i. h p (Orders.in_left (positions t) (positions u) p i))
reply_local (OnError t u) o o2 h = ap₂ on_error (reply_local t o o2 (λ p i. h p (Orders.in_left (positions t) (positions u) p i))) (reply_local u o o2 (λ p i. h p (Orders.in_right (positions t) (positions u) p i)))
reply_local (OnMiss t u) o o2 h = ap₂ on_miss (reply_local t o o2 (λ p i. h p (Orders.in_left (positions t) (positions u) p i))) (reply_local u o o2 (λ p i. h p (Orders.in_right (positions t) (positions u) p i)))
reply_local (OnHit t u) o o2 h = reply_local t o o2 (λ p i. h p (Orders.in_left (positions t) (positions u) p i))
reply_local (Shadowed s a b t u) o o2 h = reply_local t o o2 (λ p i. h p (Orders.in_left (positions t) (positions u) p i))

pub counts_nothing : (t : Plan) (o : Outcomes) (l : Leg) → Agrees t [] o → Counts t o l → Counts t nothing l
counts_nothing (Send k) o l h e = e
counts_nothing (Reply x) o l h e = e
counts_nothing (Both t u) o l h (inl e) = inl (counts_nothing t o l (λ p i. h p (Orders.in_left (positions t) (positions u) p i)) e)
counts_nothing (Both t u) o l h (inr e) = inr (counts_nothing u o l (λ p i. h p (Orders.in_right (positions t) (positions u) p i)) e)
counts_nothing (Beside t u) o l h (inl e) = inl (counts_nothing t o l (λ p i. h p (Orders.in_left (positions t) (positions u) p i)) e)
counts_nothing (Beside t u) o l h (inr e) = inr (counts_nothing u o l (λ p i. h p (Orders.in_right (positions t) (positions u) p i)) e)
counts_nothing (OnError t u) o l h (inl e) = inl (counts_nothing t o l (λ p i. h p (Orders.in_left (positions t) (positions u) p i)) e)
counts_nothing (OnError t u) o l h (inr e) = inr (sym (reply_local t o nothing (λ p i. h p (Orders.in_left (positions t) (positions u) p i))) ∙ e.0, counts_nothing u o l (λ p i. h p (Orders.in_right (positions t) (positions u) p i)) e.1)
counts_nothing (OnMiss t u) o l h (inl e) = inl (counts_nothing t o l (λ p i. h p (Orders.in_left (positions t) (positions u) p i)) e)
counts_nothing (OnMiss t u) o l h (inr e) = inr (subst IsMissed (reply_local t o nothing (λ p i. h p (Orders.in_left (positions t) (positions u) p i))) e.0, counts_nothing u o l (λ p i. h p (Orders.in_right (positions t) (positions u) p i)) e.1)
counts_nothing (OnHit t u) o l h (inl e) = inl (counts_nothing t o l (λ p i. h p (Orders.in_left (positions t) (positions u) p i)) e)
counts_nothing (OnHit t u) o l h (inr e) = inr (sym (reply_local t o nothing (λ p i. h p (Orders.in_left (positions t) (positions u) p i))) ∙ e.0, counts_nothing u o l (λ p i. h p (Orders.in_right (positions t) (positions u) p i)) e.1)
counts_nothing (Shadowed s a b t u) o l h e = counts_nothing t o l (λ p i. h p (Orders.in_left (positions t) (positions u) p i)) e

-- ---- every needed leg answers x

if_error_at : (x : Outcome) (es : History) → x ≡ Error → if_error x es ≡ es
if_error_at x es e = ap (λ y. if_error y es) e

after_error_reply : (y z : Outcome) (b : Option Outcome) → (y ≡ Error → b ≡ Some z) → on_error (Some y) b ≡ Some (after_error y z)
after_error_reply Good z b h = refl
after_error_reply Soft z b h = refl
after_error_reply Error z b h = h refl

after_miss_reply : (y z : Outcome) (b : Option Outcome) → (y ≢ Good → b ≡ Some z) → on_miss (Some y) b ≡ Some (after_miss y z)
after_miss_reply Good z b h = refl
after_miss_reply Soft z b h = h (λ e. absurd cc)
after_miss_reply Error z b h = h (λ e. absurd cc)

if_missed_at : (x : Outcome) (es : History) → x ≢ Good → if_missed x es ≡ es
if_missed_at Good es e = absurd (e refl)
if_missed_at Soft es e = refl
if_missed_at Error es e = refl

pub answers_reply : (x : Outcome) (t : Plan) (o : Outcomes) → IsApart t → Agrees t (answers x t) o → reply t o ≡ Some (if_all x t)
answers_reply x (Send l) o a g = g l.position (inl refl) ∙ Orders.newest l.position x []
answers_reply x (Reply y) o a g = refl
answers_reply x (Both t u) o a g =
    ap₂ both
    (answers_reply x t o a.0 (agrees_left t u (Both t u) (answers x t) (answers x u) o refl a.2 (answers_inside x u) g))
    (answers_reply x u o a.1 (agrees_right t u (Both t u) (answers x t) (answers x u) o refl a.2 (answers_inside x t) g))
answers_reply x (Beside t u) o a g = answers_reply x t o a.0 (agrees_first t u (Beside t u) (answers x t) o refl g)
answers_reply x (OnError t u) o a g =
    let rest = if_error (if_all x t) (answers x u) in
    let r = answers_reply x t o a.0 (agrees_left t u (OnError t u) (answers x t) rest o refl a.2 (inside_if (is_error (if_all x t)) u (answers x u) (answers_inside x u)) g) in
    let k = agrees_right t u (OnError t u) (answers x t) rest o refl a.2 (answers_inside x t) g in
    ap (λ y. on_error y (reply u o)) r
    ∙ after_error_reply (if_all x t) (if_all x u) (reply u o) (λ e. answers_reply x u o a.1 (subst (λ es. Agrees u es o) (if_error_at (if_all x t) (answers x u) e) k))
answers_reply x (OnMiss t u) o a g =
    let rest = if_missed (if_all x t) (answers x u) in
    let r = answers_reply x t o a.0 (agrees_left t u (OnMiss t u) (answers x t) rest o refl a.2 (inside_if (is_missed (if_all x t)) u (answers x u) (answers_inside x u)) g) in
    let k = agrees_right t u (OnMiss t u) (answers x t) rest o refl a.2 (answers_inside x t) g in
    ap (λ y. on_miss y (reply u o)) r
    ∙ after_miss_reply (if_all x t) (if_all x u) (reply u o) (λ e. answers_reply x u o a.1 (subst (λ es. Agrees u es o) (if_missed_at (if_all x t) (answers x u) e) k))
answers_reply x (OnHit t u) o a g = answers_reply x t o a.0 (agrees_first t u (OnHit t u) (answers x t) o refl g)
answers_reply x (Shadowed s i j t u) o a g = answers_reply x t o a.0 (agrees_first t u (Shadowed s i j t u) (answers x t) o refl g)

if_error_some : (x : Outcome) (es : History) (p : List ℕ) (y : Outcome) → outcomes (if_error x es) p ≡ Some y → (x ≡ Error) × (outcomes es p ≡ Some y)
if_error_some Good es p y e = Basics.none_some e
if_error_some Soft es p y e = Basics.none_some e
if_error_some Error es p y e = (refl, e)

if_missed_some : (x : Outcome) (es : History) (p : List ℕ) (y : Outcome) → outcomes (if_missed x es) p ≡ Some y → (x ≢ Good) × IsMissed (Some x) × (outcomes es p ≡ Some y)
if_missed_some Good es p y e = Basics.none_some e
if_missed_some Soft es p y e = ((λ w. absurd cc), inl refl, e)
if_missed_some Error es p y e = ((λ w. absurd cc), inr refl, e)

-- the outcome is of a leg that is sent
abbrev pub IsOfSent : Plan → Choice → Outcomes → List ℕ → Type 0
IsOfSent t c o p = (l : Leg) × (l.position ≡ p) × Sends t c o l

send_sent : (k : Leg) (c : Choice) (o : Outcomes) (x : Outcome) (p : List ℕ) (y : Outcome) → outcomes ((k.position, x) ∷ []) p ≡ Some y → IsOfSent (Send k) c o p
send_sent k c o x p y e =
    elim (cases_Bool (is_same k.position p)) [
      | inl s ↦ (k, Orders.same_is k.position p s, refl)
      | inr s ↦ Basics.none_some (sym (Orders.cond_at_false (is_same k.position p) (Some x) None s) ∙ e)
    ]

pub answers_sent : (x : Outcome) (t : Plan) (c : Choice) (o : Outcomes) → IsApart t → Agrees t (answers x t) o → (p : List ℕ) (y : Outcome) → outcomes (answers x t) p ≡ Some y → IsOfSent t c o p
answers_sent x (Send k) c o a g p y e = send_sent k c o x p y e
answers_sent x (Reply z) c o a g p y e = Basics.none_some e
answers_sent x (Both t u) c o a g p y e =
    elim (either (answers x t) (answers x u) p y e) [
      | inl f ↦ let s = answers_sent x t c o a.0 (agrees_left t u (Both t u) (answers x t) (answers x u) o refl a.2 (answers_inside x u) g) p y f in (s.0, s.1, inl s.2)
      | inr f ↦ let s = answers_sent x u c o a.1 (agrees_right t u (Both t u) (answers x t) (answers x u) o refl a.2 (answers_inside x t) g) p y f in (s.0, s.1, inr s.2)
    ]
answers_sent x (Beside t u) c o a g p y e = let s = answers_sent x t c o a.0 (agrees_first t u (Beside t u) (answers x t) o refl g) p y e in (s.0, s.1, inl s.2)
answers_sent x (OnError t u) c o a g p y e =
    let rest = if_error (if_all x t) (answers x u) in
    let left = agrees_left t u (OnError t u) (answers x t) rest o refl a.2 (inside_if (is_error (if_all x t)) u (answers x u) (answers_inside x u)) g in
    let right = agrees_right t u (OnError t u) (answers x t) rest o refl a.2 (answers_inside x t) g in
    elim (either (answers x t) rest p y e) [
      | inl f ↦ let s = answers_sent x t c o a.0 left p y f in (s.0, s.1, inl s.2)
      | inr f ↦
          let w = if_error_some (if_all x t) (answers x u) p y f in
          let s = answers_sent x u c o a.1 (subst (λ es. Agrees u es o) (if_error_at (if_all x t) (answers x u) w.0) right) p y w.1 in
          (s.0, s.1, inr (answers_reply x t o a.0 left ∙ ap Some w.0, s.2))
    ]
answers_sent x (OnMiss t u) c o a g p y e =
    let rest = if_missed (if_all x t) (answers x u) in
    let left = agrees_left t u (OnMiss t u) (answers x t) rest o refl a.2 (inside_if (is_missed (if_all x t)) u (answers x u) (answers_inside x u)) g in
    let right = agrees_right t u (OnMiss t u) (answers x t) rest o refl a.2 (answers_inside x t) g in
    elim (either (answers x t) rest p y e) [
      | inl f ↦ let s = answers_sent x t c o a.0 left p y f in (s.0, s.1, inl s.2)
      | inr f ↦
          let w = if_missed_some (if_all x t) (answers x u) p y f in
          let s = answers_sent x u c o a.1 (subst (λ es. Agrees u es o) (if_missed_at (if_all x t) (answers x u) w.0) right) p y w.2 in
          (s.0, s.1, inr (subst IsMissed (sym (answers_reply x t o a.0 left)) w.1, s.2))
    ]
answers_sent x (OnHit t u) c o a g p y e = let s = answers_sent x t c o a.0 (agrees_first t u (OnHit t u) (answers x t) o refl g) p y e in (s.0, s.1, inl s.2)
answers_sent x (Shadowed i j k t u) c o a g p y e = let s = answers_sent x t c o a.0 (agrees_first t u (Shadowed i j k t u) (answers x t) o refl g) p y e in (s.0, s.1, inl s.2)

-- ---- acknowledged legs

pub counts_acknowledged : (t : Plan) (o : Outcomes) (l : Leg) → IsForDelete t → IsApart t → Agrees t (answers Good t) o → Counts t o l → Acknowledged t l
counts_acknowledged (Send k) o l d a g e = e
counts_acknowledged (Reply x) o l d a g e = e
counts_acknowledged (Both t u) o l d a g (inl e) = inl (counts_acknowledged t o l d.0 a.0 (agrees_left t u (Both t u) (answers Good t) (answers Good u) o refl a.2 (answers_inside Good u) g) e)
counts_acknowledged (Both t u) o l d a g (inr e) = inr (counts_acknowledged u o l d.1 a.1 (agrees_right t u (Both t u) (answers Good t) (answers Good u) o refl a.2 (answers_inside Good t) g) e)
counts_acknowledged (Beside t u) o l d a g (inl e) = inl (counts_acknowledged t o l d.0 a.0 (agrees_first t u (Beside t u) (answers Good t) o refl g) e)
counts_acknowledged (Beside t u) o l d a g (inr e) = inr (counts_nothing u o l (agrees_none t u (Beside t u) (answers Good t) o refl a.2 (answers_inside Good t) g) e)
counts_acknowledged (OnError t u) o l d a g (inl e) =
    inl (counts_acknowledged t o l d.0 a.0 (agrees_left t u (OnError t u) (answers Good t) (if_error (if_all Good t) (answers Good u)) o refl a.2 (inside_if (is_error (if_all Good t)) u (answers Good u) (answers_inside Good u)) g) e)
counts_acknowledged (OnError t u) o l d a g (inr e) =
    let rest = if_error (if_all Good t) (answers Good u) in
    let left = agrees_left t u (OnError t u) (answers Good t) rest o refl a.2 (inside_if (is_error (if_all Good t)) u (answers Good u) (answers_inside Good u)) g in
    let right = agrees_right t u (OnError t u) (answers Good t) rest o refl a.2 (answers_inside Good t) g in
    let w = Basics.some_same (sym (answers_reply Good t o a.0 left) ∙ e.0) in
    inr (w, counts_acknowledged u o l d.1 a.1 (subst (λ es. Agrees u es o) (if_error_at (if_all Good t) (answers Good u) w) right) e.1)
counts_acknowledged (OnMiss t u) o l d a g e = absurd d
counts_acknowledged (OnHit t u) o l d a g e = absurd d
counts_acknowledged (Shadowed i j k t u) o l d a g e = counts_acknowledged t o l d a.0 (agrees_first t u (Shadowed i j k t u) (answers Good t) o refl g) e

pub answers_reachable : (x : Outcome) (t : Plan) (c : Choice) → IsApart t → IsReachable t c (outcomes (answers x t))
answers_reachable x t c a = Orders.closed_reachable t c (outcomes (answers x t)) (λ p y e. answers_sent x t c (outcomes (answers x t)) a (λ q i. refl) p y e)

pub acknowledged_is_least : (t : Plan) (c : Choice) → IsForDelete t → IsApart t → (o : Outcomes) × IsReachable t c o × (reply t o ≡ Some (if_all Good t)) × ((l : Leg) → Counts t o l → Acknowledged t l)
acknowledged_is_least t c d a =
    let o = outcomes (answers Good t) in
    (o, answers_reachable Good t c a, answers_reply Good t o a (λ p i. refl), λ l e. counts_acknowledged t o l d a (λ p i. refl) e)

pub can_be_done : (t : Plan) (c : Choice) → IsForDelete t → IsApart t → ((o : Outcomes) × IsReachable t c o × IsDone t o) ↔ (if_all Good t ≢ Error)
can_be_done t c d a = (
  λ h w. h.2.2 (RepliesSaySent.always_error t h.0 h.2.0 d w h.2.1),
  λ w. (outcomes (answers Good t), answers_reachable Good t c a, (if_all Good t, answers_reply Good t (outcomes (answers Good t)) a (λ p i. refl), w)),
)

-- ---- hits

after_error_good : (y z : Outcome) → after_error y z ≡ Good → (y ≡ Good) ⊎ (z ≡ Good)
after_error_good Good z e = inl refl
after_error_good Soft z e = absurd cc
after_error_good Error z e = inr e

after_miss_good : (y z : Outcome) → after_miss y z ≡ Good → (y ≡ Good) ⊎ (z ≡ Good)
after_miss_good Good z e = inl refl
after_miss_good Soft z e = inr e
after_miss_good Error z e = inr e

pub not_good : (x : Outcome) (t : Plan) → x ≢ Good → IsHonest t → if_all x t ≢ Good
not_good x (Send l) n h e = n e
not_good x (Reply y) n h e = h e
not_good x (Both t u) n h e = not_good x t n h.0 (Basics.worse_good (if_all x t) (if_all x u) e).0
not_good x (Beside t u) n h e = not_good x t n h.0 e
not_good x (OnError t u) n h e = ⊎_elim (not_good x t n h.0) (not_good x u n h.1) (after_error_good (if_all x t) (if_all x u) e)
not_good x (OnMiss t u) n h e = ⊎_elim (not_good x t n h.0) (not_good x u n h.1) (after_miss_good (if_all x t) (if_all x u) e)
not_good x (OnHit t u) n h e = not_good x t n h.0 e
not_good x (Shadowed i j k t u) n h e = not_good x t n h.0 e

after_miss_at : (y z : Outcome) → y ≢ Good → after_miss y z ≡ z
after_miss_at Good z n = absurd (n refl)
after_miss_at Soft z n = refl
after_miss_at Error z n = refl

error≢good : Error ≢ Good
error≢good e = cc

pub soft≢good : Soft ≢ Good
soft≢good e = cc

-- a reply that is an error can be had by errors alone
fails : (t : Plan) (o : Outcomes) → IsHonest t → reply t o ≡ Some Error → if_all Error t ≡ Error
fails (Send l) o h e = refl
fails (Reply y) o h e = Basics.some_same e
fails (Both t u) o h e =
    let s = Basics.both_some (reply t o) (reply u o) Error e in
    elim (Basics.worse_error s.0 s.1 s.4) [
      | inl w ↦ ap (λ y. worse y (if_all Error u)) (fails t o h.0 (s.2 ∙ ap Some w))
      | inr w ↦ ap (λ z. worse (if_all Error t) z) (fails u o h.1 (s.3 ∙ ap Some w)) ∙ Basics.error_worse (if_all Error t)
    ]
fails (Beside t u) o h e = fails t o h.0 e
fails (OnError t u) o h e =
    elim (Basics.on_error_some (reply t o) (reply u o) Error e) [
      | inl s ↦ absurd (s.1 refl)
      | inr s ↦ ap (λ y. after_error y (if_all Error u)) (fails t o h.0 s.0) ∙ fails u o h.1 s.1
    ]
fails (OnMiss t u) o h e =
    elim (Basics.on_miss_some (reply t o) (reply u o) Error e) [
      | inl s ↦ absurd (error≢good s.1)
      | inr s ↦ after_miss_at (if_all Error t) (if_all Error u) (not_good Error t error≢good h.0) ∙ fails u o h.1 s.1
    ]
fails (OnHit t u) o h e = fails t o h.0 e
fails (Shadowed i j k t u) o h e = fails t o h.0 e

good_hits : (t : Plan) (o : Outcomes) → IsHonest t → reply t o ≡ Some Good → (m : Leg) × Hits t m
good_hits (Send l) o h e = (l, refl)
good_hits (Reply y) o h e = absurd (h (Basics.some_same e))
good_hits (Both t u) o h e =
    let s = Basics.both_some (reply t o) (reply u o) Good e in
    let w = Basics.worse_good s.0 s.1 s.4 in
    let a = good_hits t o h.0 (s.2 ∙ ap Some w.0) in
    let b = good_hits u o h.1 (s.3 ∙ ap Some w.1) in
    (a.0, (a, b, inl a.1))
good_hits (Beside t u) o h e = good_hits t o h.0 e
good_hits (OnError t u) o h e =
    elim (Basics.on_error_some (reply t o) (reply u o) Good e) [
      | inl s ↦ let a = good_hits t o h.0 s.0 in (a.0, inl a.1)
      | inr s ↦ let a = good_hits u o h.1 s.1 in (a.0, inr (fails t o h.0 s.0, a.1))
    ]
good_hits (OnMiss t u) o h e =
    elim (Basics.on_miss_some (reply t o) (reply u o) Good e) [
      | inl s ↦ let a = good_hits t o h.0 s.0 in (a.0, inl a.1)
      | inr s ↦ let a = good_hits u o h.1 s.1 in (a.0, inr a.1)
    ]
good_hits (OnHit t u) o h e = good_hits t o h.0 e
good_hits (Shadowed i j k t u) o h e = good_hits t o h.0 e

hit_can_be : (t : Plan) (o : Outcomes) (l : Leg) → IsHonest t → HitAt t o l → Hits t l
hit_can_be (Send k) o l h e = e.0
hit_can_be (Reply x) o l h e = e
hit_can_be (Both t u) o l h e = (good_hits t o h.0 e.0, good_hits u o h.1 e.1, ⊎_elim (λ f. inl (hit_can_be t o l h.0 f)) (λ f. inr (hit_can_be u o l h.1 f)) e.2)
hit_can_be (Beside t u) o l h e = hit_can_be t o l h.0 e
hit_can_be (OnError t u) o l h (inl e) = inl (hit_can_be t o l h.0 e)
hit_can_be (OnError t u) o l h (inr e) = inr (fails t o h.0 e.0, hit_can_be u o l h.1 e.1)
hit_can_be (OnMiss t u) o l h (inl e) = inl (hit_can_be t o l h.0 e)
hit_can_be (OnMiss t u) o l h (inr e) = inr (hit_can_be u o l h.1 e.1)
hit_can_be (OnHit t u) o l h e = hit_can_be t o l h.0 e
hit_can_be (Shadowed i j k t u) o l h e = hit_can_be t o l h.0 e

-- the list leads to a hit of the leg
pub record Shows (t : Plan) (l : Leg) (es : History) : Type 0 where
  pub inside : Inside t es
  pub hit : (o : Outcomes) → Agrees t es o → HitAt t o l
  pub good : (o : Outcomes) → Agrees t es o → reply t o ≡ Some Good
  pub sent : (c : Choice) (o : Outcomes) → Agrees t es o → (p : List ℕ) (y : Outcome) → outcomes es p ≡ Some y → IsOfSent t c o p

pub shows_both : (t u : Plan) (l m n : Leg) (es fs : History) → AreApart t u → Shows t m es → Shows u n fs → ((o : Outcomes) → HitAt t o m → HitAt u o n → HitAt t o l ⊎ HitAt u o l) → Shows (Both t u) l (es ++ fs)
shows_both t u l m n es fs a x y f =
    record {
      inside = inside_both t u (Both t u) es fs refl x.inside y.inside;
      hit = λ o g. let i = agrees_left t u (Both t u) es fs o refl a y.inside g in let j = agrees_right t u (Both t u) es fs o refl a x.inside g in (x.good o i, y.good o j, f o (x.hit o i) (y.hit o j));
      good = λ o g. ap₂ both (x.good o (agrees_left t u (Both t u) es fs o refl a y.inside g)) (y.good o (agrees_right t u (Both t u) es fs o refl a x.inside g));
      sent = λ c o g p z e. elim (either es fs p z e) [
        | inl w ↦ let s = x.sent c o (agrees_left t u (Both t u) es fs o refl a y.inside g) p z w in (s.0, s.1, inl s.2)
        | inr w ↦ let s = y.sent c o (agrees_right t u (Both t u) es fs o refl a x.inside g) p z w in (s.0, s.1, inr s.2)
      ];
    }

abbrev Shown : Plan → Leg → Type 0
Shown t l = (es : History) × Shows t l es

pub shows_on_error : (t u : Plan) (l : Leg) (fs : History) → AreApart t u → IsApart t → if_all Error t ≡ Error → Shows u l fs → Shows (OnError t u) l (answers Error t ++ fs)
shows_on_error t u l fs a at w y =
    let left : (o : Outcomes) → Agrees (OnError t u) (answers Error t ++ fs) o → Agrees t (answers Error t) o = λ o g. agrees_left t u (OnError t u) (answers Error t) fs o refl a y.inside g in
    let right : (o : Outcomes) → Agrees (OnError t u) (answers Error t ++ fs) o → Agrees u fs o = λ o g. agrees_right t u (OnError t u) (answers Error t) fs o refl a (answers_inside Error t) g in
    let failed : (o : Outcomes) → Agrees (OnError t u) (answers Error t ++ fs) o → reply t o ≡ Some Error = λ o g. answers_reply Error t o at (left o g) ∙ ap Some w in
    record {
      inside = inside_both t u (OnError t u) (answers Error t) fs refl (answers_inside Error t) y.inside;
      hit = λ o g. inr (failed o g, y.hit o (right o g));
      good = λ o g. Basics.on_error_second (reply t o) (reply u o) (failed o g) ∙ y.good o (right o g);
      sent = λ c o g p z e. elim (either (answers Error t) fs p z e) [
        | inl v ↦ let s = answers_sent Error t c o at (left o g) p z v in (s.0, s.1, inl s.2)
        | inr v ↦ let s = y.sent c o (right o g) p z v in (s.0, s.1, inr (failed o g, s.2))
      ];
    }

missed_at : (y : Outcome) → y ≢ Good → IsMissed (Some y)
missed_at Good n = absurd (n refl)
missed_at Soft n = inl refl
missed_at Error n = inr refl

pub shows_on_miss : (t u : Plan) (l : Leg) (fs : History) → AreApart t u → IsApart t → IsHonest t → Shows u l fs → Shows (OnMiss t u) l (answers Soft t ++ fs)
shows_on_miss t u l fs a at h y =
    let left : (o : Outcomes) → Agrees (OnMiss t u) (answers Soft t ++ fs) o → Agrees t (answers Soft t) o = λ o g. agrees_left t u (OnMiss t u) (answers Soft t) fs o refl a y.inside g in
    let right : (o : Outcomes) → Agrees (OnMiss t u) (answers Soft t ++ fs) o → Agrees u fs o = λ o g. agrees_right t u (OnMiss t u) (answers Soft t) fs o refl a (answers_inside Soft t) g in
    let missed : (o : Outcomes) → Agrees (OnMiss t u) (answers Soft t ++ fs) o → IsMissed (reply t o) = λ o g. subst IsMissed (sym (answers_reply Soft t o at (left o g))) (missed_at (if_all Soft t) (not_good Soft t soft≢good h)) in
    record {
      inside = inside_both t u (OnMiss t u) (answers Soft t) fs refl (answers_inside Soft t) y.inside;
      hit = λ o g. inr (missed o g, y.hit o (right o g));
      good = λ o g. Basics.on_miss_second (reply t o) (reply u o) (missed o g) ∙ y.good o (right o g);
      sent = λ c o g p z e. elim (either (answers Soft t) fs p z e) [
        | inl v ↦ let s = answers_sent Soft t c o at (left o g) p z v in (s.0, s.1, inl s.2)
        | inr v ↦ let s = y.sent c o (right o g) p z v in (s.0, s.1, inr (missed o g, s.2))
      ];
    }

-- what leads to a hit in the first part leads to one in the whole
shows_first : (t u v : Plan) (l : Leg) (es : History) → positions v ≡ positions t ++ positions u
    → ((o : Outcomes) → HitAt t o l → HitAt v o l) → ((o : Outcomes) → reply t o ≡ Some Good → reply v o ≡ Some Good) → ((c : Choice) (o : Outcomes) (m : Leg) → Sends t c o m → Sends v c o m)
    → Shows t l es → Shows v l es
shows_first t u v l es w f g h x =
    record {
      inside = inside_first t u v es w x.inside;
      hit = λ o k. f o (x.hit o (agrees_first t u v es o w k));
      good = λ o k. g o (x.good o (agrees_first t u v es o w k));
      sent = λ c o k p z e. let s = x.sent c o (agrees_first t u v es o w k) p z e in (s.0, s.1, h c o s.0 s.2);
    }

module _ (t u : Plan) (l : Leg) (es : History) (x : Shows t l es) where
  pub in_beside : Shows (Beside t u) l es
  in_beside = shows_first t u (Beside t u) l es refl (λ o e. e) (λ o e. e) (λ c o m s. inl s) x

  pub in_on_error : Shows (OnError t u) l es
  in_on_error = shows_first t u (OnError t u) l es refl (λ o e. inl e) (λ o e. Basics.on_error_first (reply t o) (reply u o) Good e Basics.good≢error) (λ c o m s. inl s) x

  pub in_on_miss : Shows (OnMiss t u) l es
  in_on_miss = shows_first t u (OnMiss t u) l es refl (λ o e. inl e) (λ o e. Basics.on_miss_first (reply t o) (reply u o) e) (λ c o m s. inl s) x

  pub in_on_hit : Shows (OnHit t u) l es
  in_on_hit = shows_first t u (OnHit t u) l es refl (λ o e. e) (λ o e. e) (λ c o m s. inl s) x

  pub in_shadowed : (n b d : ℕ) → Shows (Shadowed n b d t u) l es
  in_shadowed n b d = shows_first t u (Shadowed n b d t u) l es refl (λ o e. e) (λ o e. e) (λ c o m s. inl s) x

pub shows_send : (k : Leg) → Shows (Send k) k ((k.position, Good) ∷ [])
shows_send k = record {
  inside = inside_send k Good;
  hit = λ o g. (refl, g k.position (inl refl) ∙ Orders.newest k.position Good []);
  good = λ o g. g k.position (inl refl) ∙ Orders.newest k.position Good [];
  sent = λ c o g p y e. send_sent k c o Good p y e;
}

shown : (t : Plan) (l : Leg) → IsApart t → IsHonest t → Hits t l → Shown t l
shown (Send k) l a h i = ((k.position, Good) ∷ [], subst (λ m. Shows (Send k) m ((k.position, Good) ∷ [])) i (shows_send k))
shown (Reply x) l a h i = absurd i
shown (Both t u) l a h i =
    elim i.2 [
      | inl e ↦ let x = shown t l a.0 h.0 e in let y = shown u i.1.0 a.1 h.1 i.1.1 in (x.0 ++ y.0, shows_both t u l l i.1.0 x.0 y.0 a.2 x.1 y.1 (λ o f g. inl f))
      | inr e ↦ let x = shown t i.0.0 a.0 h.0 i.0.1 in let y = shown u l a.1 h.1 e in (x.0 ++ y.0, shows_both t u l i.0.0 l x.0 y.0 a.2 x.1 y.1 (λ o f g. inr g))
    ]
shown (Beside t u) l a h i = let x = shown t l a.0 h.0 i in (x.0, in_beside t u l x.0 x.1)
shown (OnError t u) l a h (inl i) = let x = shown t l a.0 h.0 i in (x.0, in_on_error t u l x.0 x.1)
shown (OnError t u) l a h (inr i) = let y = shown u l a.1 h.1 i.1 in (answers Error t ++ y.0, shows_on_error t u l y.0 a.2 a.0 i.0 y.1)
shown (OnMiss t u) l a h (inl i) = let x = shown t l a.0 h.0 i in (x.0, in_on_miss t u l x.0 x.1)
shown (OnMiss t u) l a h (inr i) = let y = shown u l a.1 h.1 i in (answers Soft t ++ y.0, shows_on_miss t u l y.0 a.2 a.0 h.0 y.1)
shown (OnHit t u) l a h i = let x = shown t l a.0 h.0 i in (x.0, in_on_hit t u l x.0 x.1)
shown (Shadowed n b d t u) l a h i = let x = shown t l a.0 h.0 i in (x.0, in_shadowed t u l x.0 x.1 n b d)

pub hits_are_exact : (t : Plan) (c : Choice) (l : Leg) → IsApart t → IsHonest t → ((o : Outcomes) × IsReachable t c o × HitAt t o l) ↔ Hits t l
hits_are_exact t c l a h = (
  λ e. hit_can_be t e.0 l h e.2,
  λ i. let x = shown t l a h i in
      let o = outcomes x.0 in
      (o, Orders.closed_reachable t c o (λ p y e. x.1.sent c o (λ q j. refl) p y e), x.1.hit o (λ q j. refl)),
)
