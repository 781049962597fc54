-- The symbol with the least number, out of the first legs of all classes.
use Rattle.std.proofs.Common.{◌≡◌, ◌≤◌, ◌&&◌, ℕ, Bool, true, false, cond, nat_eq, nat_lt, List, [], ◌∷◌, ◌++◌, get_or, Option, Some, None, inl, inr, refl, sym, ap, ◌∙◌, subst, arith, ◌⊎◌}
use Rattle.std.specs.Prelude.{All, IsSomeAnd, find, is_some}
use Rattle.std.specs.Option.{option_and_then}
use Rattle.std.proofs.lemmas.Bool.{and_parts, cases_Bool, eqb-true, ltb-true, ltb-false}
use Rattle.std.proofs.lemmas.List.Elements.{All-append, All-cons, All-head, All-nil, All-tail}
use Rattle.mcv_judge.specs.Reason.{LegValue, is_same_server, server_at}
use Rattle.mcv_picks.specs.Picks.{each_with, filling, first_with}
use Rattle.mcv_picks.specs.Tables.{IsLeast, FindTheSame, is_at, is_filled_by, is_lesser, least}
use Rattle.mcv_picks.proofs.TwinsAreEqual.{is_at-twins}
use Rattle.mcv_picks.proofs.SearchResults.{none_there}

-- what is kept for a server once some legs were seen: a symbol that fills, and none of theirs that fills is less
abbrev pub IsKept : List LegValue → (server : ℕ) → Option ℕ → Type 0
IsKept legs x None = Unit {0}
IsKept legs x (Some s) = is_some (filling legs s x) ≡ true

abbrev pub IsNoLess : List LegValue → (server : ℕ) → Option ℕ → LegValue → Type 0
IsNoLess legs x kept d = is_filled_by legs x d ≡ true → IsSomeAnd kept (λ s. s ≤ d.symbol)

least_own : (o : Option ℕ) (s : ℕ) → least o s ≤ s
least_own None s = omega arith
least_own (Some t) s = elim (cases_Bool (nat_lt s t)) [
  | inl h ↦ rw h (omega arith)
  | inr h ↦ let a = ltb-false s t h in rw h (omega (arith, a))
]

least_old : (t s : ℕ) → least (Some t) s ≤ t
least_old t s = elim (cases_Bool (nat_lt s t)) [
  | inl h ↦ let a = ltb-true s t h in rw h (omega (arith, a))
  | inr h ↦ rw h (omega arith)
]

module _ (legs : List LegValue) (x : ℕ) where
  kept_lesser : (old : Option ℕ) (s : ℕ) → is_some (filling legs s x) ≡ true → IsKept legs x old → IsKept legs x (Some (least old s))
  kept_lesser None s fills kept = fills
  kept_lesser (Some t) s fills kept = elim (cases_Bool (nat_lt s t)) [ inl h ↦ rw h fills | inr h ↦ rw h kept ]

  filled_parts : (d : LegValue) → is_filled_by legs x d ≡ true → is_some (filling legs d.symbol x) ≡ true
  filled_parts d h = (and_parts (is_same_server (server_at d 0) (Some x)) (is_some (filling legs d.symbol x)) h).1

  -- what is kept once a further leg was seen
  abbrev pub with_leg : Option ℕ → LegValue → Option ℕ
  with_leg old d = cond (is_filled_by legs x d) (Some (least old d.symbol)) old

  pub kept_more : (old : Option ℕ) (d : LegValue) → IsKept legs x old → IsKept legs x (with_leg old d)
  kept_more old d kept = elim (cases_Bool (is_filled_by legs x d)) [
    | inl h ↦ rw h (kept_lesser old d.symbol (filled_parts d h) kept)
    | inr h ↦ rw h kept
  ]

  le_more : (old : Option ℕ) (d e : LegValue) → IsNoLess legs x old e → IsNoLess legs x (with_leg old d) e
  le_more old d e before filled = elim (cases_Bool (is_filled_by legs x d)) [
    | inl h ↦ rw h (lesser old (before filled))
    | inr h ↦ rw h (before filled)
  ]
    where
      lesser : (o : Option ℕ) → IsSomeAnd o (λ s. s ≤ e.symbol) → IsSomeAnd (Some (least o d.symbol)) (λ s. s ≤ e.symbol)
      lesser None h = absurd h
      lesser (Some t) h = let a = least_old t d.symbol in omega (arith, a, h)

  le_own : (old : Option ℕ) (d : LegValue) → IsNoLess legs x (with_leg old d) d
  le_own old d filled = rw filled (least_own old d.symbol)

  pub no_less_more : (old : Option ℕ) (xs : List LegValue) (d : LegValue) → All (IsNoLess legs x old) xs → All (IsNoLess legs x (with_leg old d)) (xs ++ d ∷ [])
  no_less_more old xs d before =
      All-append (IsNoLess legs x (with_leg old d)) xs (d ∷ []) (λ k e l. le_more old d (get_or xs k e) (before k e l))
      (All-cons (IsNoLess legs x (with_leg old d)) d [] (le_own old d) (All-nil (IsNoLess legs x (with_leg old d))))

  own_server : (d : LegValue) (y : ℕ) → server_at d 0 ≡ Some y → is_filled_by legs x d ≡ (nat_eq y x && is_some (filling legs d.symbol x))
  own_server d y is = ap (λ o. is_same_server o (Some x) && is_some (filling legs d.symbol x)) is

  lesser_is : (old : Option ℕ) (s : ℕ) → is_lesser old s ≡ true → least old s ≡ s
  lesser_is None s h = refl
  lesser_is (Some t) s h = rw h refl

  no_lesser : (old : Option ℕ) (s : ℕ) → is_lesser old s ≡ false → Some (least old s) ≡ old
  no_lesser None s h = absurd cc
  no_lesser (Some t) s h = rw h refl

  -- the leg's symbol goes in for its server
  pub inserted : (d : LegValue) (y : ℕ) (old : Option ℕ) (b : Bool) → b ≡ nat_eq y x → server_at d 0 ≡ Some y → (y ≡ x → is_some (filling legs d.symbol x) ≡ true) → (y ≡ x → is_lesser old d.symbol ≡ true) → cond b (Some d.symbol) old ≡ with_leg old d
  inserted d y old true e is fills lesser =
      let one = eqb-true y x (sym e) in
      rw (own_server d y is, ← e, fills one, lesser_is old d.symbol (lesser one)) refl
  inserted d y old false e is fills lesser = rw (own_server d y is, ← e) refl

  -- it doesn't
  pub left : (d : LegValue) (y : ℕ) (old : Option ℕ) → server_at d 0 ≡ Some y → (y ≡ x → (is_lesser old d.symbol ≡ false) ⊎ (is_some (filling legs d.symbol x) ≡ false)) → old ≡ with_leg old d
  left d y old is why = elim (cases_Bool (nat_eq y x)) [
    | inl e ↦ elim (why (eqb-true y x e)) [
      | inl more ↦ elim (cases_Bool (is_some (filling legs d.symbol x))) [
        | inl f ↦ rw (own_server d y is, e, f) (sym (no_lesser old d.symbol more))
        | inr f ↦ rw (own_server d y is, e, f) refl
      ]
      | inr f ↦ rw (own_server d y is, e, f) refl
    ]
    | inr e ↦ rw (own_server d y is, e) refl
  ]

  and_then_some : {X Y : Type 0} (f : X → Option Y) (o : Option X) → is_some (option_and_then f o) ≡ true → is_some o ≡ true
  and_then_some f None h = absurd cc
  and_then_some f (Some y) h = refl

  found_in : (p : LegValue → Bool) (Q : LegValue → Type 0) (xs : List LegValue) → is_some (find p xs) ≡ true → All Q xs → (d : LegValue) × (p d ≡ true) × Q d
  found_in p Q [] h all = absurd cc
  found_in p Q (d ∷ xs) h all = elim (cases_Bool (p d)) [
    | inl is ↦ (d, is, All-head Q d xs all)
    | inr isnt ↦ found_in p Q xs (rw isnt at h) (All-tail Q d xs all)
  ]

  module _ (firsts : List LegValue) (find_same : FindTheSame firsts legs) where
    -- a symbol that fills isn't less than what is kept
    at_most : (o : Option ℕ) → All (IsNoLess legs x o) firsts → (t : ℕ) → is_some (filling legs t x) ≡ true → IsSomeAnd o (λ s. s ≤ t)
    at_most o all t fills =
        let there = and_then_some (λ d. each_with legs t x 0 d.servers) (first_with legs t x 0) fills in
        let first = ap is_some (find_same (is_at (t, 0, x)) (is_at-twins (t, 0, x))) ∙ there in
        let found = found_in (is_at (t, 0, x)) (IsNoLess legs x o) firsts first all in
        let both = and_parts (nat_eq found.0.symbol t) (is_same_server (server_at found.0 0) (Some x)) found.1 in
        let symbol = eqb-true found.0.symbol t both.0 in
        let filled : is_filled_by legs x found.0 ≡ true = rw (both.1, symbol) fills in
        subst (λ n. IsSomeAnd o (λ s. s ≤ n)) symbol (found.2 filled)

    pub is_least : (o : Option ℕ) → IsKept legs x o → All (IsNoLess legs x o) firsts → IsLeast legs x o
    is_least None kept all = λ t. elim (cases_Bool (is_some (filling legs t x))) [
      | inl h ↦ absurd (at_most None all t h)
      | inr h ↦ none_there (filling legs t x) h
    ]
    is_least (Some s) kept all = (
      kept,
      λ t l. elim (cases_Bool (is_some (filling legs t x))) [
        | inl h ↦ let a = at_most (Some s) all t h in absurd (omega (arith, a, l))
        | inr h ↦ none_there (filling legs t x) h
      ],
    )
