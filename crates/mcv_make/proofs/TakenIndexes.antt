-- Indexes that are taken, as the code keeps them.
use Rattle.std.proofs.Common.{◌≡◌, ◌≢◌, ◌+◌, ◌-◌, ◌<◌, ◌≤◌, ◌&&◌, ◌||◌, ℕ, suc, Bool, true, false, cond, nat_eq, nat_lt, List, [], ◌∷◌, ◌++◌, length, Some, inl, inr, refl, sym, ap, ◌∙◌, arith}
use Rattle.std.specs.Prelude.{if◌then◌else◌, slice_get}
use Rattle.std.specs.Ordering.{is_eq, nat_cmp, ordering_then}
use Rattle.std.specs.declared.cmp.Ordering.{Ordering}
use Rattle.std.specs.declared.cmp.Ordering.TheVariants.{Less, Equal, Greater}
use Rattle.std.specs.List.{list_any}
use Rattle.std.proofs.lemmas.Bool.{cases_Bool, eqb-true, eqb-false, lt-ltb, le-ltb, ltb-true, ltb-false}
use Rattle.std.proofs.lemmas.Bool.Decides.{nat_tests}
use Rattle.std.proofs.lemmas.List.Folds.{list_any-append}
use Rattle.std.proofs.lemmas.Option.{slice_get_past}
use Rattle.mcv_judge.specs.Reason.{LegValue, has_server}
use Rattle.mcv_pools.specs.Symbol.{SymbolValue}
use Rattle.mcv_rules.specs.declared.plan.PlannedLeg.{PlannedLeg}
use Rattle.mcv_make.specs.FreeIndexes.{Slot, free_index, free_indexes, least_free, slot_cmp}

-- ---- slots of a leg

then_eq : (a b : Ordering) → is_eq (ordering_then a b) ≡ (is_eq a && is_eq b)
then_eq Less b = refl
then_eq Equal b = refl
then_eq Greater b = refl

nat_level : (x y : ℕ) → is_eq (nat_cmp x y) ≡ nat_eq x y
nat_level x y = grind (arith, nat_tests)

slot_level : (j k : Slot) → is_eq (slot_cmp j k) ≡ (nat_eq j.0 k.0 && nat_eq j.1 k.1)
slot_level j k = then_eq (nat_cmp j.0 k.0) (nat_cmp j.1 k.1) ∙ rw (nat_level j.0 k.0, nat_level j.1 k.1) refl

later : (j i : ℕ) → i ≢ j → nat_lt j (i + 1) ≡ nat_lt j i
later j i n = elim (cases_Bool (nat_lt j i)) [
  | inl h ↦ let a = ltb-true j i h in lt-ltb j (i + 1) (omega arith) ∙ sym h
  | inr h ↦ let a = ltb-false j i h in le-ltb j (i + 1) (omega (arith, a, n)) ∙ sym h
]

put_there : (b o : Bool) → cond (b && true) true (o || false) ≡ (o || b)
put_there true true = refl
put_there true false = refl
put_there false true = refl
put_there false false = refl

and_false : (b : Bool) → (b && false) ≡ false
and_false true = refl
and_false false = refl

and_true : (b : Bool) → (b && true) ≡ b
and_true true = refl
and_true false = refl

pub or_false : (b : Bool) → (b || false) ≡ b
or_false true = refl
or_false false = refl

-- the server at one of the first indexes
abbrev pub among : LegValue → (server count : ℕ) → Slot → Bool
among d x i q = nat_lt q.1 i && has_server q.0 (Some x) q.1 d

module _ (d : LegValue) (x i y : ℕ) (there : slice_get d.servers i ≡ Some y) where
  at_index : (q : Slot) → q.1 ≡ i → has_server q.0 (Some x) q.1 d ≡ (nat_eq d.symbol q.0 && nat_eq y x)
  at_index q e = rw (e, there) refl

  module _ (table old : Slot → Bool) (before : (q : Slot) → table q ≡ (old q || among d x i q)) where
    pub put : nat_eq y x ≡ true → (q : Slot) → cond (is_eq (slot_cmp (d.symbol, i) q)) true (table q) ≡ (old q || among d x (i + 1) q)
    put same q =
        ap (λ b. cond b true (table q)) (slot_level (d.symbol, i) q) ∙ ap (cond (nat_eq d.symbol q.0 && nat_eq i q.1) true) (before q)
        ∙ elim (cases_Bool (nat_eq i q.1)) [
          | inl e ↦
              let is = eqb-true i q.1 e in
              let has : has_server q.0 (Some x) q.1 d ≡ nat_eq d.symbol q.0 = at_index q (sym is) ∙ ap (λ b. nat_eq d.symbol q.0 && b) same ∙ and_true (nat_eq d.symbol q.0) in
              let past : nat_lt q.1 i ≡ false = le-ltb q.1 i (omega (arith, is)) in
              let low : nat_lt q.1 (i + 1) ≡ true = lt-ltb q.1 (i + 1) (omega (arith, is)) in
              rw (e, past, low, has) (put_there (nat_eq d.symbol q.0) (old q))
          | inr n ↦ rw (n, and_false (nat_eq d.symbol q.0), later q.1 i (eqb-false i q.1 n)) refl
        ]

    pub left : nat_eq y x ≡ false → (q : Slot) → table q ≡ (old q || among d x (i + 1) q)
    left other q =
        before q
        ∙ elim (cases_Bool (nat_eq i q.1)) [
          | inl e ↦
              let is = eqb-true i q.1 e in
              let has : has_server q.0 (Some x) q.1 d ≡ false = at_index q (sym is) ∙ ap (λ b. nat_eq d.symbol q.0 && b) other ∙ and_false (nat_eq d.symbol q.0) in
              rw (has, and_false (nat_lt q.1 i), and_false (nat_lt q.1 (i + 1))) refl
          | inr n ↦ rw (later q.1 i (eqb-false i q.1 n)) refl
        ]

pub all_among : (d : LegValue) (x n : ℕ) → n ≡ length d.servers → (q : Slot) → among d x n q ≡ has_server q.0 (Some x) q.1 d
all_among d x n e q = elim (cases_Bool (nat_lt q.1 n)) [
  | inl h ↦ rw h refl
  | inr h ↦
      let past = slice_get_past d.servers q.1 (let a = ltb-false q.1 n h in omega (arith, a, e)) in
      let no : has_server q.0 (Some x) q.1 d ≡ false = rw past (and_false (nat_eq d.symbol q.0)) in
      rw (h, no) refl
]

pub none_among : (b : Bool) (d : LegValue) (x : ℕ) (q : Slot) → b ≡ (b || among d x 0 q)
none_among b d x q = sym (ap (λ c. b || (c && has_server q.0 (Some x) q.1 d)) (le-ltb q.1 0 (omega arith)) ∙ or_false b)

-- one more leg
pub one_more : {A : Type 0} (p : A → Bool) (xs : List A) (x : A) → list_any p (xs ++ x ∷ []) ≡ (list_any p xs || p x)
one_more p xs x = list_any-append p xs (x ∷ []) ∙ ap (λ b. list_any p xs || b) (or_false (p x))

-- ---- the least free index of a symbol

module _ (taken : ℕ → Bool) (i n : ℕ) (low : i < n) where
  split : n - i ≡ suc (n - (i + 1))
  split = omega (arith, low)

  opened : least_free taken i (n - i) ≡ (if taken i then least_free taken (suc i) (n - (i + 1)) else i)
  opened = ap (least_free taken i) split

  pub next-free : taken i ≡ true → least_free taken i (n - i) ≡ least_free taken (i + 1) (n - (i + 1))
  next-free h = let same : suc i ≡ i + 1 = omega arith in opened ∙ ap (λ b. if b then least_free taken (suc i) (n - (i + 1)) else i) h ∙ ap (λ k. least_free taken k (n - (i + 1))) same

  pub here-free : taken i ≡ false → i ≡ least_free taken i (n - i)
  here-free h = sym (opened ∙ ap (λ b. if b then least_free taken (suc i) (n - (i + 1)) else i) h)

pub none-free : (taken : ℕ → Bool) (i n : ℕ) → n ≤ i → 0 ≡ least_free taken i (n - i)
none-free taken i n past = let none : n - i ≡ 0 = omega (arith, past) in sym (ap (least_free taken i) none)

-- ---- the indexes of all symbols

pub indexes-append : (legs : List PlannedLeg) (x own at k : ℕ) (xs : List SymbolValue) (s : SymbolValue) → free_indexes legs x own at k (xs ++ s ∷ []) ≡ free_indexes legs x own at k xs ++ free_index legs x own at (k + length xs) s.n ∷ []
indexes-append legs x own at k [] s = let same : k ≡ k + 0 = omega arith in ap (λ i. free_index legs x own at i s.n ∷ []) same
indexes-append legs x own at k (y ∷ xs) s =
    let same : suc k + length xs ≡ k + suc (length xs) = omega arith in
    ap (λ r. free_index legs x own at k y.n ∷ r) (indexes-append legs x own at (suc k) xs s ∙ ap (λ i. free_indexes legs x own at (suc k) xs ++ free_index legs x own at i s.n ∷ []) same)
