-- Things by number, and the legs of a call as numbered legs.
use Rattle.std.proofs.Common.{◌≡◌, ◌⊎◌, ◌||◌, not, cond, is_none, inl, inr, ⊎_elim, ℕ, suc, ◌+◌, ◌<◌, Bool, true, false, List, [], ◌∷◌, length, Option, Some, None, refl, sym, ap, ◌∙◌, subst, arith, true≢false}
use Rattle.std.specs.List.{list_any}
use Rattle.std.proofs.lemmas.Bool.{cases_Bool, cases_eq, eq-eqb, ne_eqb}
use Rattle.mcv_route.specs.declared.launch.Launch.{Launch}
use Rattle.mcv_route.specs.Outcomes.{is_same}
use Rattle.mcv_rules.proofs.ListMembers.{Among}
use Rattle.mcv_rules.proofs.Orders.{same_is}
use Rattle.mcv_world.specs.World.{Leg, put}
use Rattle.mcv_world.specs.Moves.{queued, queue, is_new, is_other_era, fresh}

pub same_some : {A : Type 0} {x y : A} → Some x ≡ Some y → x ≡ y
same_some e = cc

pub no_some : {A B : Type 0} {x : A} → None ≡ Some x → B
no_some e = absurd cc

pub none_when : {A : Type 0} (o : Option A) → is_none o ≡ true → o ≡ None
none_when None e = refl
none_when (Some x) e = absurd (true≢false (sym e))

pub other_era : (a b : Option ℕ) → (b ≡ a → ⊥) → is_other_era a b ≡ true
other_era None None other = absurd (other refl)
other_era None (Some b) other = refl
other_era (Some a) None other = refl
other_era (Some a) (Some b) other = ap not (ne_eqb a b (λ e. other (ap (λ (k : ℕ). Some k) (sym e))))

-- ---- at a number

pub put_same : {A : Type 0} (f : ℕ → Option A) (n : ℕ) (w : Option A) → put f n w n ≡ w
put_same f n w = ap (λ b. cond b w (f n)) (eq-eqb n n refl)

pub put_other : {A : Type 0} (f : ℕ → Option A) (n m : ℕ) (w : Option A) → (n ≡ m → ⊥) → put f n w m ≡ f m
put_other f n m w ne = ap (λ b. cond b w (f m)) (ne_eqb n m ne)

pub put_cases : {A : Type 0} (f : ℕ → Option A) (n m : ℕ) (w : Option A) (y : A) → put f n w m ≡ Some y → ((n ≡ m) × (w ≡ Some y)) ⊎ ((n ≡ m → ⊥) × (f m ≡ Some y))
put_cases f n m w y e =
    elim (cases_eq n m) [
      | inl q ↦ inl (q, sym (put_same f n w) ∙ subst (λ k. put f n w k ≡ Some y) (sym q) e)
      | inr ne ↦ inr (ne, sym (put_other f n m w ne) ∙ e)
    ]

-- ---- numbered legs

pub queue_old : (legs : ℕ → Option Leg) (n k m : ℕ) (rest : List ℕ) (ls : List Launch) → m < n → queue legs n k rest ls m ≡ legs m
queue_old legs n k m rest [] lt = refl
queue_old legs n k m rest (l ∷ ls) lt =
    let ne : n ≡ m → ⊥ = λ e. omega (arith, lt, e) in
    queue_old (put legs n (Some (queued k rest l))) (suc n) k m rest ls (omega (arith, lt)) ∙ put_other legs n m (Some (queued k rest l)) ne

pub queue_new : (legs : ℕ → Option Leg) (n k : ℕ) (rest : List ℕ) (ls : List Launch) (l : Launch) → Among ls l → (m : ℕ) × (queue legs n k rest ls m ≡ Some (queued k rest l))
queue_new legs n k rest [] l h = absurd h
queue_new legs n k rest (x ∷ ls) l (inl e) =
    (n, queue_old (put legs n (Some (queued k rest x))) (suc n) k n rest ls (omega arith) ∙ put_same legs n (Some (queued k rest x)) ∙ ap (λ y. Some (queued k rest y)) e)
queue_new legs n k rest (x ∷ ls) l (inr h) = queue_new (put legs n (Some (queued k rest x))) (suc n) k rest ls l h

pub queue_back : (legs : ℕ → Option Leg) (n k : ℕ) (rest : List ℕ) (ls : List Launch) (m : ℕ) (s : Leg) → queue legs n k rest ls m ≡ Some s
    → (legs m ≡ Some s) ⊎ ((l : Launch) × Among ls l × (queued k rest l ≡ s) × (m < n + length ls))
queue_back legs n k rest [] m s e = inl e
queue_back legs n k rest (x ∷ ls) m s e =
    elim (queue_back (put legs n (Some (queued k rest x))) (suc n) k rest ls m s e) [
      | inl f ↦
          elim (put_cases legs n m (Some (queued k rest x)) s f) [
            | inl w ↦ inr (x, inl refl, same_some w.1, omega (arith, w.0))
            | inr w ↦ inl w.1
          ]
      | inr r ↦ inr (r.0, inr r.1, r.2, omega (arith, r.3))
    ]

-- ---- what was launched since

some_at : List Launch → List ℕ → Bool
some_at ks p = list_any (λ k. is_same k.position p) ks

pub at_some : (p : List ℕ) (ks : List Launch) → list_any (λ k. is_same k.position p) ks ≡ true → (m : Launch) × Among ks m × (m.position ≡ p)
at_some p [] e = absurd (true≢false (sym e))
at_some p (k ∷ ks) e =
    elim (cases_Bool (is_same k.position p)) [
      | inl s ↦ (k, inl refl, same_is k.position p s)
      | inr s ↦ let r = at_some p ks (sym (ap (λ b. b || list_any (λ k. is_same k.position p) ks) s) ∙ e) in (r.0, inr r.1, r.2)
    ]

among_kept : (b : Bool) (n : Launch) (ls : List Launch) (l : Launch) → Among ls l → Among (cond b (n ∷ ls) ls) l
among_kept true n ls l h = inr h
among_kept false n ls l h = h

kept_among : (b : Bool) (n : Launch) (ls : List Launch) (l : Launch) → Among (cond b (n ∷ ls) ls) l → (n ≡ l) ⊎ Among ls l
kept_among true n ls l h = h
kept_among false n ls l h = inr h

head_kept : (b : Bool) (n : Launch) (ls : List Launch) (l : Launch) → b ≡ true → n ≡ l → Among (cond b (n ∷ ls) ls) l
head_kept true n ls l e h = inl h
head_kept false n ls l e h = absurd (true≢false (sym e))

-- a leg is new, or one at its position was there
pub new_or_old : (ks ls : List Launch) (l : Launch) → Among ls l → Among (fresh ks ls) l ⊎ ((m : Launch) × Among ks m × (m.position ≡ l.position))
new_or_old ks [] l h = absurd h
new_or_old ks (n ∷ ls) l (inl e) =
    elim (cases_Bool (list_any (λ k. is_same k.position n.position) ks)) [
      | inl s ↦ let r = at_some n.position ks s in inr (r.0, r.1, r.2 ∙ ap (λ m. m.position) e)
      | inr s ↦ inl (head_kept (is_new ks n) n (fresh ks ls) l (ap not s) e)
    ]
new_or_old ks (n ∷ ls) l (inr h) = ⊎_elim (λ r. inl (among_kept (is_new ks n) n (fresh ks ls) l r)) (λ r. inr r) (new_or_old ks ls l h)

pub new_is : (ks ls : List Launch) (l : Launch) → Among (fresh ks ls) l → Among ls l
new_is ks [] l h = h
new_is ks (n ∷ ls) l h = ⊎_elim (λ e. inl e) (λ r. inr (new_is ks ls l r)) (kept_among (is_new ks n) n (fresh ks ls) l h)
