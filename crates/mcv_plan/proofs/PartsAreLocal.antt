-- What a part of a plan has answered and sent depends on the outcomes of its own legs alone.
use Rattle.std.proofs.Common.{◌≡◌, ◌⊎◌, inl, inr, cond, ℕ, Bool, true, false, ◌||◌, nat_eq, List, [], ◌∷◌, ◌++◌, map, Option, Some, refl, sym, ap, ap₂, ◌∙◌, arith}
use Rattle.mcv_route.specs.Children.{joined}
use Rattle.mcv_rules.specs.declared.arrival.After.{After}
use Rattle.mcv_plan.specs.ReachedAnswers.{Own, Reached, nothing, put, answer_of, all_answered, goes_on_after, is_hit, prevails, search_answered, searched, stop, waits, first_answered}
use Rattle.mcv_plan.specs.State.{State, States, send, reply, all, in_turn, beside, on_hit, none, more, Either, IsUnheard, Reflects, ReflectEach, ReflectTurn, entries, entries_each, holds, plan, plan_each, sends, sends_each, answered, answered_each}

-- ---- lists of numbers

pub or_left : (a b : Bool) → a ≡ true → (a || b) ≡ true
or_left true b e = refl
or_left false b e = absurd (cc)

pub or_right : (a b : Bool) → b ≡ true → (a || b) ≡ true
or_right true b e = refl
or_right false b e = e

pub or_cases : (a b : Bool) → (a || b) ≡ true → (a ≡ true) ⊎ (b ≡ true)
or_cases true b e = inl refl
or_cases false b e = inr e

pub or_off : (a b : Bool) → (a || b) ≡ false → (a ≡ false) × (b ≡ false)
or_off true b e = absurd (cc)
or_off false b e = (refl, e)

pub holds_left : (k : ℕ) (xs ys : List ℕ) → holds k xs ≡ true → holds k (xs ++ ys) ≡ true
holds_left k [] ys h = absurd (cc)
holds_left k (x ∷ xs) ys h = elim (or_cases (nat_eq x k) (holds k xs) h) as (λ _. (nat_eq x k || holds k (xs ++ ys)) ≡ true) [
  | inl e ↦ or_left (nat_eq x k) (holds k (xs ++ ys)) e
  | inr e ↦ or_right (nat_eq x k) (holds k (xs ++ ys)) (holds_left k xs ys e)
]

pub holds_right : (k : ℕ) (xs ys : List ℕ) → holds k ys ≡ true → holds k (xs ++ ys) ≡ true
holds_right k [] ys h = h
holds_right k (x ∷ xs) ys h = or_right (nat_eq x k) (holds k (xs ++ ys)) (holds_right k xs ys h)

pub holds_cases : (k : ℕ) (xs ys : List ℕ) → holds k (xs ++ ys) ≡ true → (holds k xs ≡ true) ⊎ (holds k ys ≡ true)
holds_cases k [] ys h = inr h
holds_cases k (x ∷ xs) ys h = elim (or_cases (nat_eq x k) (holds k (xs ++ ys)) h) as (λ _. ((nat_eq x k || holds k xs) ≡ true) ⊎ (holds k ys ≡ true)) [
  | inl e ↦ inl (or_left (nat_eq x k) (holds k xs) e)
  | inr e ↦ elim (holds_cases k xs ys e) as (λ _. ((nat_eq x k || holds k xs) ≡ true) ⊎ (holds k ys ≡ true)) [
    | inl f ↦ inl (or_right (nat_eq x k) (holds k xs) f)
    | inr f ↦ inr f
  ]
]

-- ---- outcomes that agree

abbrev pub Agree : Own → Own → List ℕ → Type 0
Agree o q ks = (k : ℕ) → holds k ks ≡ true → o k ≡ q k

pub agree_left : (o q : Own) (xs ys : List ℕ) → Agree o q (xs ++ ys) → Agree o q xs
agree_left o q xs ys a = λ k h. a k (holds_left k xs ys h)

pub agree_right : (o q : Own) (xs ys : List ℕ) → Agree o q (xs ++ ys) → Agree o q ys
agree_right o q xs ys a = λ k h. a k (holds_right k xs ys h)

along_eq : (x : Option Reached) (r : Reached) (b : Bool) → b ≡ false → x ≡ cond b (Some r) x
along_eq x r true e = absurd (cc)
along_eq x r false e = refl

same_holds : (e k : ℕ) (ks : List ℕ) → nat_eq e k ≡ true → holds k ks ≡ true → holds e ks ≡ true
same_holds e k ks f h = let is : e ≡ k = grind arith in rw is h

other_eq : (e k : ℕ) (ks : List ℕ) (b : Bool) → nat_eq e k ≡ b → holds e ks ≡ false → holds k ks ≡ true → b ≡ false
other_eq e k ks true is off h = let on = same_holds e k ks is h in absurd (cc)
other_eq e k ks false is off h = refl

-- the outcome of a leg that isn't among them
pub agree_put : (o : Own) (e : ℕ) (r : Reached) (ks : List ℕ) → holds e ks ≡ false → Agree o (put o e r) ks
agree_put o e r ks off = λ k h. along_eq (o k) r (nat_eq e k) (other_eq e k ks (nat_eq e k) refl off h)

-- none has an outcome
pub agree_unheard : (o : Own) (ks : List ℕ) → IsUnheard o ks → Agree nothing o ks
agree_unheard o ks u = λ k h. sym (u k h)

pub unheard_local : (o q : Own) (ks : List ℕ) → Agree o q ks → IsUnheard o ks → IsUnheard q ks
unheard_local o q ks a u = λ k h. sym (a k h) ∙ u k h

pub agree_sym : (o q : Own) (ks : List ℕ) → Agree o q ks → Agree q o ks
agree_sym o q ks a = λ k h. sym (a k h)

-- ---- what is answered

mutual
  pub answered_local : (o q : Own) (s : State) → Agree o q (entries s) → answered o s ≡ answered q s
  answered_local o q (send e) a = a e (or_left (nat_eq e e) false (grind arith))
  answered_local o q (reply f) a = refl
  answered_local o q (all ends ss waiting worst) a = ap all_answered (answered_local_each o q ss a)
  answered_local o q (in_turn w ends ss current) a = ap (search_answered w) (answered_local_each o q ss a)
  answered_local o q (beside ends ss) a = ap first_answered (answered_local_each o q ss a)
  answered_local o q (on_hit s end u) a = answered_local o q s (agree_left o q (entries s) (entries u) a)

  pub answered_local_each : (o q : Own) (ss : States) → Agree o q (joined (entries_each ss)) → answered_each o ss ≡ answered_each q ss
  answered_local_each o q none a = refl
  answered_local_each o q (more s ss) a =
      ap₂ (λ x xs. x ∷ xs) (answered_local o q s (agree_left o q (entries s) (joined (entries_each ss)) a)) (answered_local_each o q ss (agree_right o q (entries s) (joined (entries_each ss)) a))

mutual
  pub answered_plan : (o : Own) (s : State) → answered o (plan s) ≡ answered o s
  answered_plan o (send e) = refl
  answered_plan o (reply f) = refl
  answered_plan o (all ends ss waiting worst) = ap all_answered (answered_plan_each o ss)
  answered_plan o (in_turn w ends ss current) = ap (search_answered w) (answered_plan_each o ss)
  answered_plan o (beside ends ss) = ap first_answered (answered_plan_each o ss)
  answered_plan o (on_hit s end u) = answered_plan o s

  pub answered_plan_each : (o : Own) (ss : States) → answered_each o (plan_each ss) ≡ answered_each o ss
  answered_plan_each o none = refl
  answered_plan_each o (more s ss) = ap₂ (λ x xs. x ∷ xs) (answered_plan o s) (answered_plan_each o ss)

mutual
  pub entries_plan : (s : State) → entries (plan s) ≡ entries s
  entries_plan (send e) = refl
  entries_plan (reply f) = refl
  entries_plan (all ends ss waiting worst) = ap joined (entries_plan_each ss)
  entries_plan (in_turn w ends ss current) = ap joined (entries_plan_each ss)
  entries_plan (beside ends ss) = ap joined (entries_plan_each ss)
  entries_plan (on_hit s end u) = ap₂ (λ xs ys. xs ++ ys) (entries_plan s) (entries_plan u)

  pub entries_plan_each : (ss : States) → entries_each (plan_each ss) ≡ entries_each ss
  entries_plan_each none = refl
  entries_plan_each (more s ss) = ap₂ (λ x xs. x ∷ xs) (entries_plan s) (entries_plan_each ss)

-- ---- what is sent

mutual
  pub sends_local : (o q : Own) (s : State) → Agree o q (entries s) → sends o s ≡ sends q s
  sends_local o q (send e) a = refl
  sends_local o q (reply f) a = refl
  sends_local o q (all ends ss waiting worst) a = ap joined (sends_local_each o q ss a)
  sends_local o q (in_turn w ends ss current) a = ap₂ (λ xs ls. searched w (map answer_of xs) ls) (answered_local_each o q ss a) (sends_local_each o q ss a)
  sends_local o q (beside ends ss) a = ap joined (sends_local_each o q ss a)
  sends_local o q (on_hit s end u) a =
      let before = agree_left o q (entries s) (entries u) a in
      let behind = agree_right o q (entries s) (entries u) a in
      ap₂ (λ xs ys. xs ++ ys) (sends_local o q s before) (ap₂ (λ x ys. cond (is_hit (answer_of x)) ys []) (answered_local o q s before) (sends_local o q u behind))

  pub sends_local_each : (o q : Own) (ss : States) → Agree o q (joined (entries_each ss)) → sends_each o ss ≡ sends_each q ss
  sends_local_each o q none a = refl
  sends_local_each o q (more s ss) a =
      ap₂ (λ x xs. x ∷ xs) (sends_local o q s (agree_left o q (entries s) (joined (entries_each ss)) a)) (sends_local_each o q ss (agree_right o q (entries s) (joined (entries_each ss)) a))

mutual
  pub sends_plan : (o : Own) (s : State) → sends o (plan s) ≡ sends o s
  sends_plan o (send e) = refl
  sends_plan o (reply f) = refl
  sends_plan o (all ends ss waiting worst) = ap joined (sends_plan_each o ss)
  sends_plan o (in_turn w ends ss current) = ap₂ (λ xs ls. searched w (map answer_of xs) ls) (answered_plan_each o ss) (sends_plan_each o ss)
  sends_plan o (beside ends ss) = ap joined (sends_plan_each o ss)
  sends_plan o (on_hit s end u) = ap₂ (λ xs ys. xs ++ ys) (sends_plan o s) (ap₂ (λ x ys. cond (is_hit (answer_of x)) ys []) (answered_plan o s) (sends_plan o u))

  pub sends_plan_each : (o : Own) (ss : States) → sends_each o (plan_each ss) ≡ sends_each o ss
  sends_plan_each o none = refl
  sends_plan_each o (more s ss) = ap₂ (λ x xs. x ∷ xs) (sends_plan o s) (sends_plan_each o ss)

-- ---- what the state reflects

pub either_map : (b : Bool) (P Q R S : Type 0) → (P → R) → (Q → S) → Either b P Q → Either b R S
either_map true P Q R S f g e = f e
either_map false P Q R S f g e = g e

mutual
  pub reflects_local : (o q : Own) (s : State) → Agree o q (entries s) → Reflects o s → Reflects q s
  reflects_local o q (send e) a s = s
  reflects_local o q (reply f) a s = s
  reflects_local o q (all ends ss waiting worst) a s =
      let same = answered_local_each o q ss a in
      (s.0 ∙ ap waits same, s.1 ∙ ap (λ xs. answer_of (prevails xs)) same, reflect_local_each o q ss a s.2)
  reflects_local o q (in_turn w ends ss current) a s = (s.0 ∙ ap (λ xs. stop w (map answer_of xs)) (answered_local_each o q ss a), reflect_local_turn w o q ss a s.1)
  reflects_local o q (beside ends ss) a s = reflect_local_each o q ss a s
  reflects_local o q (on_hit s end u) a f =
      let before = agree_left o q (entries s) (entries u) a in
      let behind = agree_right o q (entries s) (entries u) a in (
        reflects_local o q s before f.0,
        rw (← answered_local o q s before) (either_map (is_hit (answer_of (answered o s))) (Reflects o u) (Reflects nothing u × IsUnheard o (entries u)) (Reflects q u) (Reflects nothing u × IsUnheard q (entries u))
            (λ g. reflects_local o q u behind g) (λ g. (g.0, unheard_local o q (entries u) behind g.1)) f.1),
      )

  pub reflect_local_each : (o q : Own) (ss : States) → Agree o q (joined (entries_each ss)) → ReflectEach o ss → ReflectEach q ss
  reflect_local_each o q none a f = f
  reflect_local_each o q (more s ss) a f =
      (reflects_local o q s (agree_left o q (entries s) (joined (entries_each ss)) a) f.0, reflect_local_each o q ss (agree_right o q (entries s) (joined (entries_each ss)) a) f.1)

  pub reflect_local_turn : (w : After) (o q : Own) (ss : States) → Agree o q (joined (entries_each ss)) → ReflectTurn w o ss → ReflectTurn w q ss
  reflect_local_turn w o q none a f = f
  reflect_local_turn w o q (more s ss) a f =
      let before = agree_left o q (entries s) (joined (entries_each ss)) a in
      let behind = agree_right o q (entries s) (joined (entries_each ss)) a in (
        reflects_local o q s before f.0,
        rw (← answered_local o q s before) (either_map (goes_on_after w (answer_of (answered o s))) (ReflectTurn w o ss) (ReflectEach nothing ss × IsUnheard o (joined (entries_each ss))) (ReflectTurn w q ss) (ReflectEach nothing ss × IsUnheard q (joined (entries_each ss)))
            (λ g. reflect_local_turn w o q ss behind g) (λ g. (g.0, unheard_local o q (joined (entries_each ss)) behind g.1)) f.1),
      )

-- before any outcome all children of a search are taken in
pub turn_reflects : (w : After) (ss : States) → ReflectTurn w nothing ss → ReflectEach nothing ss
turn_reflects w none f = f
turn_reflects w (more s ss) f = (f.0, rest (goes_on_after w (answer_of (answered nothing s))) (λ g. turn_reflects w ss g) f.1)
  where
    rest : (b : Bool) → (ReflectTurn w nothing ss → ReflectEach nothing ss) → Either b (ReflectTurn w nothing ss) (ReflectEach nothing ss × IsUnheard nothing (joined (entries_each ss))) → ReflectEach nothing ss
    rest true g f = g f
    rest false g f = f.0
