-- Which leg alone has a server.
use Rattle.std.proofs.Common.{◌≡◌, ◌<◌, ◌+◌, ◌⊎◌, inl, inr, ⊎_elim, ℕ, zero, suc, Bool, true, false, cond, nat_eq, List, [], ◌∷◌, ◌++◌, length, get_or, Option, Some, None, refl, sym, ap, ◌∙◌, subst, arith}
use Rattle.std.specs.Prelude.{slice_get}
use Rattle.std.specs.List.{Contains, list_any}
use Rattle.std.proofs.lemmas.Bool.{cases_Bool, eq-eqb, eqb-false, eqb-true}
use Rattle.std.proofs.lemmas.Option.{slice_get_within}
use Rattle.mcv_judge.specs.Reason.{LegValue}
use Rattle.mcv_gaps.specs.Least.{HasIt, Owns, owner_of}

-- the same ones have it, or fewer
pub owns_still : (Has Had : ℕ → Type 0) (o : Option (Option ℕ)) → ((k : ℕ) → Has k → Had k) → Owns Had o → Owns Has o
owns_still Has Had None f own = λ k h. own k (f k h)
owns_still Has Had (Some None) f own = tt
owns_still Has Had (Some (Some n)) f own = λ k h. own k (f k h)

-- and one more
pub owns_more : (Has Had : ℕ → Type 0) (n : ℕ) (o : Option (Option ℕ)) → ((k : ℕ) → Has k → Had k ⊎ (k ≡ n)) → Owns Had o → Owns Has (Some (owner_of n o))
owns_more Has Had n None f own = λ k h. ⊎_elim (λ g. absurd (own k g)) (λ e. e) (f k h)
owns_more Has Had n (Some None) f own = tt
owns_more Has Had n (Some (Some m)) f own = elim (cases_Bool (nat_eq m n)) [
  | inl is ↦ let e = eqb-true m n is in rw is (λ k h. ⊎_elim (λ g. own k g ∙ e) (λ i. i) (f k h))
  | inr isnt ↦ rw isnt tt
]

-- once more makes no difference
pub owner_again : (n : ℕ) (o : Option (Option ℕ)) → owner_of n (Some (owner_of n o)) ≡ owner_of n o
owner_again n None = rw (same n) refl
  where
    same : (m : ℕ) → nat_eq m m ≡ true
    same m = eq-eqb m m refl
owner_again n (Some None) = refl
owner_again n (Some (Some m)) = elim (cases_Bool (nat_eq m n)) [
  | inl is ↦ rw (is, eq-eqb n n refl) refl
  | inr isnt ↦ rw isnt refl
]

-- the last of the legs, or one before it
pub last_or_before : (legs : List LegValue) (d e : LegValue) (k : ℕ) → slice_get (legs ++ d ∷ []) k ≡ Some e → (slice_get legs k ≡ Some e) ⊎ ((k ≡ length legs) × (d ≡ e))
last_or_before [] d e zero h = inr (refl, (cc))
last_or_before [] d e (suc k) h = absurd cc
last_or_before (l ∷ legs) d e zero h = inl h
last_or_before (l ∷ legs) d e (suc k) h = ⊎_elim (λ g. inl g) (λ g. inr (ap suc g.0, g.1)) (last_or_before legs d e k h)

module _ (legs : List LegValue) (d : LegValue) (x : ℕ) where
  -- a further leg that hasn't the server
  pub without : (Contains d.servers x → ⊥) → (k : ℕ) → HasIt (legs ++ d ∷ []) x k → HasIt legs x k
  without none k h = ⊎_elim (λ g. (h.0, g, h.2)) (λ g. absurd (none (subst (λ (e : LegValue). Contains e.servers x) (sym g.1) h.2))) (last_or_before legs d h.0 k h.1)

  -- any further leg
  pub besides : (k : ℕ) → HasIt (legs ++ d ∷ []) x k → HasIt legs x k ⊎ (k ≡ length legs)
  besides k h = ⊎_elim (λ g. inl (h.0, g, h.2)) (λ g. inr g.0) (last_or_before legs d h.0 k h.1)

  -- what is kept of a server, one leg further
  pub owned : (n : ℕ) (o : Option (Option ℕ)) → n ≡ length legs → Owns (HasIt legs x) o → Owns (HasIt (legs ++ d ∷ []) x) (cond (list_any (nat_eq x) d.servers) (Some (owner_of n o)) o)
  owned n o e own = elim (cases_Bool (list_any (nat_eq x) d.servers)) [
    | inl is ↦ rw is (owns_more (HasIt (legs ++ d ∷ []) x) (HasIt legs x) n o (λ k h. ⊎_elim (λ g. inl g) (λ g. inr (g ∙ sym e)) (besides k h)) own)
    | inr isnt ↦ rw isnt (owns_still (HasIt (legs ++ d ∷ []) x) (HasIt legs x) o (without (λ at. absurd (no_member d.servers at.0 at.1 at.2 isnt))) own)
  ]
    where
      no_member : (ys : List ℕ) (k : ℕ) → k < length ys → get_or ys k x ≡ x → list_any (nat_eq x) ys ≡ false → ⊥
      no_member [] k lt e none = absurd (omega arith)
      no_member (y ∷ ys) zero lt e none =
          let own_one : nat_eq x y ≡ true = eq-eqb x y (sym e) in
          let there : ◌≡◌ {A = Bool} true false = rw own_one at none in
          absurd cc
      no_member (y ∷ ys) (suc k) lt e none = elim (cases_Bool (nat_eq x y)) [
        | inl was ↦ absurd (let there : ◌≡◌ {A = Bool} true false = rw was at none in cc)
        | inr wasnt ↦ no_member ys k (omega arith) e (rw wasnt at none)
      ]

-- the same, by what the table has then
pub owned_by : (legs : List LegValue) (d : LegValue) (x n : ℕ) (o new : Option (Option ℕ)) (more : List LegValue) → n ≡ length legs → more ≡ legs ++ d ∷ [] → new ≡ cond (list_any (nat_eq x) d.servers) (Some (owner_of n o)) o
    → Owns (HasIt legs x) o → Owns (HasIt more x) new
owned_by legs d x n o new more count e is own =
    let P : List LegValue → Option (Option ℕ) → Type 0 = λ ls k. Owns (HasIt ls x) k in
    subst (λ (ls : List LegValue). P ls new) (sym e) (subst (P (legs ++ d ∷ [])) (sym is) (owned legs d x n o count own))

-- a server kept once more
pub kept_more : (x y n : ℕ) (ys : List ℕ) (old o : Option (Option ℕ)) → o ≡ cond (list_any (nat_eq x) ys) (Some (owner_of n old)) old
    → cond (nat_eq x y) (Some (owner_of n o)) o ≡ cond (list_any (nat_eq x) (ys ++ y ∷ [])) (Some (owner_of n old)) old
kept_more x y n ys old o h = by (nat_eq x y) (list_any (nat_eq x) ys) (list_any (nat_eq x) (ys ++ y ∷ [])) (any_more ys) h
  where
    any_more : (zs : List ℕ) → list_any (nat_eq x) (zs ++ y ∷ []) ≡ cond (nat_eq x y) true (list_any (nat_eq x) zs)
    any_more [] = elim (cases_Bool (nat_eq x y)) [ inl is ↦ rw is refl | inr isnt ↦ rw isnt refl ]
    any_more (z ∷ zs) = elim (cases_Bool (nat_eq x z)) [
      | inl is ↦ rw is (elim (cases_Bool (nat_eq x y)) [ inl i ↦ rw i refl | inr i ↦ rw i refl ])
      | inr isnt ↦ rw isnt (any_more zs)
    ]

    by : (b any more : Bool) → more ≡ cond b true any → o ≡ cond any (Some (owner_of n old)) old → cond b (Some (owner_of n o)) o ≡ cond more (Some (owner_of n old)) old
    by true true more e f = rw (e, f, owner_again n old) refl
    by true false more e f = rw (e, f) refl
    by false any more e f = rw (e, f) refl

-- a server put in
pub one_owner : (x y n : ℕ) (f : ℕ → Option (Option ℕ)) (v : Option ℕ) (b : Bool) → b ≡ nat_eq y x → v ≡ owner_of n (f y) → cond b (Some v) (f x) ≡ cond (nat_eq x y) (Some (owner_of n (f x))) (f x)
one_owner x y n f v b e is = elim (cases_Bool (nat_eq y x)) [
  | inl same ↦
      let one = eqb-true y x same in
      rw (e, same, eq-eqb x y (sym one), is, one) refl
  | inr isnt ↦ elim (cases_Bool (nat_eq x y)) [
    | inl same ↦ absurd (eqb-false y x isnt (sym (eqb-true x y same)))
    | inr other ↦ rw (e, isnt, other) refl
  ]
]
