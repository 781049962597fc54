-- Outcomes that are each of a sent leg can come in some order.
use Rattle.std.proofs.Common.{◌≡◌, ◌⊎◌, cond, inl, inr, ⊎_elim, ℕ, suc, zero, ◌+◌, ◌≤◌, ◌<◌, Bool, true, false, nat_eq, List, [], ◌∷◌, ◌++◌, Option, Some, None, refl, sym, ap, ap₂, ◌∙◌, subst, arith}
use Rattle.std.proofs.lemmas.Bool.{and_parts, eqb-true, eq-eqb, cases_Bool, and_from}
use Rattle.mcv_base.specs.declared.reply.Outcome.{Outcome}
use Rattle.mcv_base.specs.declared.reply.Outcome.TheVariants.{Good, Soft, Error}
use Rattle.mcv_rules.specs.Plan.{Leg, Plan, Send, Reply, Both, Beside, OnError, OnMiss, OnHit, Shadowed, both, on_error, on_miss, reply, IsMissed}
use Rattle.mcv_route.specs.Outcomes.{Outcomes, Choice, is_same, History, outcomes}
use Rattle.mcv_rules.proofs.Sending.{Sends, IsLegal, IsReachable}
use Rattle.mcv_rules.specs.Soundness.{positions}
use Rattle.mcv_rules.proofs.Sending.{IsClosed, ReachableIsClosed}
use Rattle.mcv_rules.specs.Laws.{Extends}
use Rattle.mcv_rules.specs.Soundness.{In}
use Rattle.mcv_rules.proofs.Basics
use Rattle.mcv_rules.proofs.RepliesAndLegsStay

-- ---- positions

pub same_is : (p q : List ℕ) → is_same p q ≡ true → p ≡ q
same_is [] [] e = refl
same_is [] (j ∷ q) e = absurd cc
same_is (i ∷ p) [] e = absurd cc
same_is (i ∷ p) (j ∷ q) e = let s = and_parts (nat_eq i j) (is_same p q) e in ap₂ ◌∷◌ (eqb-true i j s.0) (same_is p q s.1)

pub same_self : (p : List ℕ) → is_same p p ≡ true
same_self [] = refl
same_self (i ∷ p) = and_from (nat_eq i i) (is_same p p) (eq-eqb i i refl) (same_self p)

pub in_left : (ps qs : List (List ℕ)) (p : List ℕ) → In ps p → In (ps ++ qs) p
in_left [] qs p h = absurd h
in_left (q ∷ ps) qs p (inl e) = inl e
in_left (q ∷ ps) qs p (inr h) = inr (in_left ps qs p h)

pub in_right : (ps qs : List (List ℕ)) (p : List ℕ) → In qs p → In (ps ++ qs) p
in_right [] qs p h = h
in_right (q ∷ ps) qs p h = inr (in_right ps qs p h)

pub sent_in : (t : Plan) (c : Choice) (o : Outcomes) (l : Leg) → Sends t c o l → In (positions t) l.position
sent_in (Send k) c o l e = inl (ap (λ m. m.position) e)
sent_in (Reply y) c o l e = absurd e
sent_in (Both t u) c o l (inl e) = in_left (positions t) (positions u) l.position (sent_in t c o l e)
sent_in (Both t u) c o l (inr e) = in_right (positions t) (positions u) l.position (sent_in u c o l e)
sent_in (Beside t u) c o l (inl e) = in_left (positions t) (positions u) l.position (sent_in t c o l e)
sent_in (Beside t u) c o l (inr e) = in_right (positions t) (positions u) l.position (sent_in u c o l e)
sent_in (OnError t u) c o l (inl e) = in_left (positions t) (positions u) l.position (sent_in t c o l e)
sent_in (OnError t u) c o l (inr e) = in_right (positions t) (positions u) l.position (sent_in u c o l e.1)
sent_in (OnMiss t u) c o l (inl e) = in_left (positions t) (positions u) l.position (sent_in t c o l e)
sent_in (OnMiss t u) c o l (inr e) = in_right (positions t) (positions u) l.position (sent_in u c o l e.1)
sent_in (OnHit t u) c o l (inl e) = in_left (positions t) (positions u) l.position (sent_in t c o l e)
sent_in (OnHit t u) c o l (inr e) = in_right (positions t) (positions u) l.position (sent_in u c o l e.1)
sent_in (Shadowed s a b t u) c o l (inl e) = in_left (positions t) (positions u) l.position (sent_in t c o l e)
sent_in (Shadowed s a b t u) c o l (inr e) = in_right (positions t) (positions u) l.position (sent_in u c o l e.2)

-- ---- the next outcome

-- a leg that is sent at o, without an outcome there, which has one in o2
abbrev Next : Plan → Choice → Outcomes → Outcomes → Type 0
Next t c o o2 = (l : Leg) × Sends t c o l × (o l.position ≡ None) × ((x : Outcome) × (o2 l.position ≡ Some x))

leg_next : (k : Leg) (c : Choice) (o o2 : Outcomes) (a b : Option Outcome) → Extends o o2 → o k.position ≡ a → o2 k.position ≡ b → (o k.position ≡ o2 k.position) ⊎ Next (Send k) c o o2
leg_next k c o o2 None None h e f = inl (e ∙ sym f)
leg_next k c o o2 None (Some x) h e f = inr (k, refl, e, (x, f))
leg_next k c o o2 (Some x) b h e f = inl (e ∙ sym (h k.position x e))

error_or_not : (r : Option Outcome) → (r ≡ Some Error) ⊎ ((y z : Option Outcome) → on_error r y ≡ on_error r z)
error_or_not None = inr (λ y z. refl)
error_or_not (Some Good) = inr (λ y z. refl)
error_or_not (Some Soft) = inr (λ y z. refl)
error_or_not (Some Error) = inl refl

missed_or_not : (r : Option Outcome) → IsMissed r ⊎ ((y z : Option Outcome) → on_miss r y ≡ on_miss r z)
missed_or_not None = inr (λ y z. refl)
missed_or_not (Some Good) = inr (λ y z. refl)
missed_or_not (Some Soft) = inl (inl refl)
missed_or_not (Some Error) = inl (inr refl)

lift : (t u : Plan) (c : Choice) (o o2 : Outcomes) → ((l : Leg) → Sends t c o l → Sends u c o l) → Next t c o o2 → Next u c o o2
lift t u c o o2 f n = (n.0, f n.0 n.1, n.2, n.3)

-- more outcomes leave the reply as it is, or one of them can come next
same_or_next : (t : Plan) (c : Choice) (o o2 : Outcomes) → Extends o o2 → (reply t o ≡ reply t o2) ⊎ Next t c o o2
same_or_next (Send k) c o o2 h = leg_next k c o o2 (o k.position) (o2 k.position) h refl refl
same_or_next (Reply x) c o o2 h = inl refl
same_or_next (Both t u) c o o2 h =
    elim (same_or_next t c o o2 h) [
      | inl e ↦ elim (same_or_next u c o o2 h) [ inl f ↦ inl (ap₂ both e f) | inr n ↦ inr (lift u (Both t u) c o o2 (λ l s. inr s) n) ]
      | inr n ↦ inr (lift t (Both t u) c o o2 (λ l s. inl s) n)
    ]
same_or_next (Beside t u) c o o2 h = ⊎_elim (λ e. inl e) (λ n. inr (lift t (Beside t u) c o o2 (λ l s. inl s) n)) (same_or_next t c o o2 h)
same_or_next (OnError t u) c o o2 h =
    elim (same_or_next t c o o2 h) [
      | inl e ↦ elim (error_or_not (reply t o)) [
        | inl w ↦ elim (same_or_next u c o o2 h) [ inl f ↦ inl (ap₂ on_error e f) | inr n ↦ inr (lift u (OnError t u) c o o2 (λ l s. inr (w, s)) n) ]
        | inr w ↦ inl (w (reply u o) (reply u o2) ∙ ap (λ r. on_error r (reply u o2)) e)
      ]
      | inr n ↦ inr (lift t (OnError t u) c o o2 (λ l s. inl s) n)
    ]
same_or_next (OnMiss t u) c o o2 h =
    elim (same_or_next t c o o2 h) [
      | inl e ↦ elim (missed_or_not (reply t o)) [
        | inl w ↦ elim (same_or_next u c o o2 h) [ inl f ↦ inl (ap₂ on_miss e f) | inr n ↦ inr (lift u (OnMiss t u) c o o2 (λ l s. inr (w, s)) n) ]
        | inr w ↦ inl (w (reply u o) (reply u o2) ∙ ap (λ r. on_miss r (reply u o2)) e)
      ]
      | inr n ↦ inr (lift t (OnMiss t u) c o o2 (λ l s. inl s) n)
    ]
same_or_next (OnHit t u) c o o2 h = ⊎_elim (λ e. inl e) (λ n. inr (lift t (OnHit t u) c o o2 (λ l s. inl s) n)) (same_or_next t c o o2 h)
same_or_next (Shadowed s a b t u) c o o2 h = ⊎_elim (λ e. inl e) (λ n. inr (lift t (Shadowed s a b t u) c o o2 (λ l s. inl s) n)) (same_or_next t c o o2 h)

-- a leg that is sent at more outcomes and has one there: one of them can come next
some_next : (t : Plan) (c : Choice) (o o2 : Outcomes) (l : Leg) (x : Outcome) → Extends o o2 → Sends t c o2 l → o l.position ≡ None → o2 l.position ≡ Some x → Next t c o o2
some_next (Send k) c o o2 l x h s n e = (l, s, n, (x, e))
some_next (Reply y) c o o2 l x h s n e = absurd s
some_next (Both t u) c o o2 l x h (inl s) n e = lift t (Both t u) c o o2 (λ l s. inl s) (some_next t c o o2 l x h s n e)
some_next (Both t u) c o o2 l x h (inr s) n e = lift u (Both t u) c o o2 (λ l s. inr s) (some_next u c o o2 l x h s n e)
some_next (Beside t u) c o o2 l x h (inl s) n e = lift t (Beside t u) c o o2 (λ l s. inl s) (some_next t c o o2 l x h s n e)
some_next (Beside t u) c o o2 l x h (inr s) n e = lift u (Beside t u) c o o2 (λ l s. inr s) (some_next u c o o2 l x h s n e)
some_next (OnError t u) c o o2 l x h (inl s) n e = lift t (OnError t u) c o o2 (λ l s. inl s) (some_next t c o o2 l x h s n e)
some_next (OnError t u) c o o2 l x h (inr s) n e =
    elim (same_or_next t c o o2 h) [
      | inl f ↦ lift u (OnError t u) c o o2 (λ l v. inr (f ∙ s.0, v)) (some_next u c o o2 l x h s.1 n e)
      | inr m ↦ lift t (OnError t u) c o o2 (λ l v. inl v) m
    ]
some_next (OnMiss t u) c o o2 l x h (inl s) n e = lift t (OnMiss t u) c o o2 (λ l s. inl s) (some_next t c o o2 l x h s n e)
some_next (OnMiss t u) c o o2 l x h (inr s) n e =
    elim (same_or_next t c o o2 h) [
      | inl f ↦ lift u (OnMiss t u) c o o2 (λ l v. inr (subst IsMissed (sym f) s.0, v)) (some_next u c o o2 l x h s.1 n e)
      | inr m ↦ lift t (OnMiss t u) c o o2 (λ l v. inl v) m
    ]
some_next (OnHit t u) c o o2 l x h (inl s) n e = lift t (OnHit t u) c o o2 (λ l s. inl s) (some_next t c o o2 l x h s n e)
some_next (OnHit t u) c o o2 l x h (inr s) n e =
    elim (same_or_next t c o o2 h) [
      | inl f ↦ lift u (OnHit t u) c o o2 (λ l v. inr (f ∙ s.0, v)) (some_next u c o o2 l x h s.1 n e)
      | inr m ↦ lift t (OnHit t u) c o o2 (λ l v. inl v) m
    ]
some_next (Shadowed y a b t u) c o o2 l x h (inl s) n e = lift t (Shadowed y a b t u) c o o2 (λ l s. inl s) (some_next t c o o2 l x h s n e)
some_next (Shadowed y a b t u) c o o2 l x h (inr s) n e = lift u (Shadowed y a b t u) c o o2 (λ l v. inr (s.0, s.1, v)) (some_next u c o o2 l x h s.2 n e)

-- ---- how many are missing

gap : Option Outcome → Option Outcome → ℕ
gap None None = 0
gap None (Some x) = 1
gap (Some y) b = 0

missing : Outcomes → Outcomes → List (List ℕ) → ℕ
missing o o2 [] = 0
missing o o2 (p ∷ ps) = gap (o p) (o2 p) + missing o o2 ps

gap_less : (a b r : Option Outcome) → ((x : Outcome) → a ≡ Some x → b ≡ Some x) → gap b r ≤ gap a r
unfolding gap
gap_less None None None h = omega arith
gap_less None None (Some x) h = omega arith
gap_less None (Some y) None h = omega arith
gap_less None (Some y) (Some x) h = omega arith
gap_less (Some y) b r h = subst (λ z. gap z r ≤ 0) (sym (h y refl)) (omega arith)

missing_less : (o o' o2 : Outcomes) (ps : List (List ℕ)) → Extends o o' → missing o' o2 ps ≤ missing o o2 ps
unfolding missing
missing_less o o' o2 [] h = omega arith
missing_less o o' o2 (p ∷ ps) h = omega (arith, gap_less (o p) (o' p) (o2 p) (h p), missing_less o o' o2 ps h)

gap_closes : (a b r : Option Outcome) (x y : Outcome) → a ≡ None → b ≡ Some x → r ≡ Some y → gap b r < gap a r
unfolding gap
gap_closes a b r x y e f g = subst (λ z. gap b r < gap z r) (sym e) (subst (λ z. gap z r < gap None r) (sym f) (subst (λ z. 0 < gap None z) (sym g) (omega arith)))

missing_falls : (o o' o2 : Outcomes) (ps : List (List ℕ)) (p : List ℕ) (x y : Outcome) → Extends o o' → In ps p → o p ≡ None → o' p ≡ Some x → o2 p ≡ Some y → missing o' o2 ps < missing o o2 ps
unfolding missing
missing_falls o o' o2 [] p x y h i e f g = absurd i
missing_falls o o' o2 (q ∷ ps) p x y h (inl i) e f g =
    omega (arith, gap_closes (o q) (o' q) (o2 q) x y (ap o i ∙ e) (ap o' i ∙ f) (ap o2 i ∙ g), missing_less o o' o2 ps h)
missing_falls o o' o2 (q ∷ ps) p x y h (inr i) e f g =
    omega (arith, gap_less (o q) (o' q) (o2 q) (h q), missing_falls o o' o2 ps p x y h i e f g)

no_gap : (o o2 : Outcomes) (ps : List (List ℕ)) (p : List ℕ) → missing o o2 ps ≡ 0 → In ps p → gap (o p) (o2 p) ≡ 0
unfolding missing
no_gap o o2 [] p e i = absurd i
no_gap o o2 (q ∷ ps) p e (inl i) = let z : gap (o q) (o2 q) ≡ 0 = omega arith in subst (λ r. gap (o r) (o2 r) ≡ 0) i z
no_gap o o2 (q ∷ ps) p e (inr i) = no_gap o o2 ps p (omega arith) i

gap_cases : (a b : Option Outcome) → (gap a b ≡ 0) ⊎ ((a ≡ None) × ((x : Outcome) × (b ≡ Some x)))
unfolding gap
gap_cases None None = inl refl
gap_cases None (Some x) = inr (refl, (x, refl))
gap_cases (Some y) b = inl refl

missing_cases : (o o2 : Outcomes) (ps : List (List ℕ)) → (missing o o2 ps ≡ 0) ⊎ ((p : List ℕ) × (o p ≡ None) × ((x : Outcome) × (o2 p ≡ Some x)))
unfolding missing
missing_cases o o2 [] = inl refl
missing_cases o o2 (p ∷ ps) =
    elim (gap_cases (o p) (o2 p)) [
      | inl e ↦ elim (missing_cases o o2 ps) [ inl f ↦ inl (omega arith) | inr h ↦ inr h ]
      | inr h ↦ inr (p, h.0, h.1)
    ]

-- ---- lists of outcomes

pub cond_at_true : {A : Type 0} (b : Bool) (x y : A) → b ≡ true → cond b x y ≡ x
cond_at_true b x y e = ap (λ t. cond t x y) e

pub cond_at_false : {A : Type 0} (b : Bool) (x y : A) → b ≡ false → cond b x y ≡ y
cond_at_false b x y e = ap (λ t. cond t x y) e

pub newest : (p : List ℕ) (x : Outcome) (es : History) → outcomes ((p, x) ∷ es) p ≡ Some x
newest p x es = cond_at_true (is_same p p) (Some x) (outcomes es p) (same_self p)

pub one_more : (p : List ℕ) (x : Outcome) (es : History) → outcomes es p ≡ None → Extends (outcomes es) (outcomes ((p, x) ∷ es))
one_more p x es n q y e =
    elim (cases_Bool (is_same p q)) [
      | inl s ↦ Basics.none_some (sym n ∙ ap (outcomes es) (same_is p q s) ∙ e)
      | inr s ↦ cond_at_false (is_same p q) (Some x) (outcomes es q) s ∙ e
    ]

one_within : (p : List ℕ) (x : Outcome) (es : History) (o : Outcomes) → Extends (outcomes es) o → o p ≡ Some x → Extends (outcomes ((p, x) ∷ es)) o
one_within p x es o h f q y e =
    elim (cases_Bool (is_same p q)) [
      | inl s ↦ ap o (sym (same_is p q s)) ∙ f ∙ sym (cond_at_true (is_same p q) (Some x) (outcomes es q) s) ∙ e
      | inr s ↦ h q y (sym (cond_at_false (is_same p q) (Some x) (outcomes es q) s) ∙ e)
    ]

pub legal_closed : (t : Plan) (c : Choice) (es : History) → IsLegal t c es → IsClosed t c (outcomes es)
legal_closed t c [] h p x e = Basics.none_some e
legal_closed t c (f ∷ es) h p x e =
    let more = one_more f.0 f.1 es h.1 in
    elim (cases_Bool (is_same f.0 p)) [
      | inl s ↦ (h.0.0, h.0.1 ∙ same_is f.0 p s, sent_up t c es f more h.0.0 h.0.2)
      | inr s ↦ let r = legal_closed t c es h.2 p x (sym (cond_at_false (is_same f.0 p) (Some f.1) (outcomes es p) s) ∙ e) in (r.0, r.1, sent_up t c es f more r.0 r.2)
    ]
  where
    sent_up : (t : Plan) (c : Choice) (es : History) (f : List ℕ × Outcome) → Extends (outcomes es) (outcomes (f ∷ es)) → (l : Leg) → Sends t c (outcomes es) l → Sends t c (outcomes (f ∷ es)) l
    sent_up t c es f more l s = RepliesAndLegsStay.sent_stays t c (outcomes es) (outcomes (f ∷ es)) l more s

one_is_none : (a b : Option Outcome) (x : Outcome) → a ≡ None → b ≡ Some x → gap a b ≡ 0 → ⊥
unfolding gap
one_is_none a b x e f g =
    let h : gap a b ≡ 1 = subst (λ z. gap z b ≡ 1) (sym e) (subst (λ z. gap None z ≡ 1) (sym f) refl) in
    omega (arith, h, g)

is_all : (t : Plan) (c : Choice) (es : History) (o : Outcomes) → IsClosed t c o → Extends (outcomes es) o → missing (outcomes es) o (positions t) ≡ 0 → (p : List ℕ) (a b : Option Outcome) → outcomes es p ≡ a → o p ≡ b → outcomes es p ≡ o p
is_all t c es o k h z p None None e f = e ∙ sym f
is_all t c es o k h z p None (Some x) e f =
    let s = k p x f in
    let i = subst (λ q. In (positions t) q) s.1 (sent_in t c o s.0 s.2) in
    absurd (one_is_none (outcomes es p) (o p) x e f (no_gap (outcomes es) o (positions t) p z i))
is_all t c es o k h z p (Some y) b e f = e ∙ sym (h p y e)

build : (t : Plan) (c : Choice) (o : Outcomes) → IsClosed t c o → (n : ℕ) (es : History) → IsLegal t c es → Extends (outcomes es) o → missing (outcomes es) o (positions t) ≤ n → IsReachable t c o
build t c o k zero es g h le = (es, g, λ p. is_all t c es o k h (omega arith) p (outcomes es p) (o p) refl refl)
build t c o k (suc n) es g h le =
    elim (missing_cases (outcomes es) o (positions t)) [
      | inl z ↦ (es, g, λ p. is_all t c es o k h z p (outcomes es p) (o p) refl refl)
      | inr m ↦
          let s = k m.0 m.2.0 m.2.1 in
          let x = some_next t c (outcomes es) o s.0 m.2.0 h s.2 (ap (outcomes es) s.1 ∙ m.1) (ap o s.1 ∙ m.2.1) in
          let p = x.0.position in
          let y = x.3.0 in
          let g' : IsLegal t c ((p, y) ∷ es) = ((x.0, refl, x.1), x.2, g) in
          let less = missing_falls (outcomes es) (outcomes ((p, y) ∷ es)) o (positions t) p y y (one_more p y es x.2) (sent_in t c (outcomes es) x.0 x.1) x.2 (newest p y es) x.3.1 in
          build t c o k n ((p, y) ∷ es) g' (one_within p y es o h x.3.1) (omega (arith, le, less))
    ]

pub closed_reachable : (t : Plan) (c : Choice) (o : Outcomes) → IsClosed t c o → IsReachable t c o
closed_reachable t c o k = build t c o k (missing (outcomes []) o (positions t)) [] tt (λ p x e. Basics.none_some e) (omega arith)

pub reachable_closed : (t : Plan) (c : Choice) (o : Outcomes) → IsReachable t c o → IsClosed t c o
reachable_closed t c o r p x e =
    let s = legal_closed t c r.0 r.1 p x (r.2 p ∙ e) in
    (s.0, s.1, RepliesAndLegsStay.sent_stays t c (outcomes r.0) o s.0 (λ q y f. sym (r.2 q) ∙ f) s.2)

pub reachable_is_closed : ReachableIsClosed
reachable_is_closed t c o = (reachable_closed t c o, closed_reachable t c o)
