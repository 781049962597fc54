-- The legs that wait, as the rows of the map show them.
use Rattle.std.proofs.Common.{◌≡◌, ◌<◌, ◌≤◌, ◌+◌, ◌&&◌, ◌||◌, inl, inr, not, ℕ, suc, Bool, true, false, nat_eq, List, [], ◌∷◌, cond, length, Option, Some, None, refl, sym, ap, subst, ◌∙◌}
use native.Mathlib.Omega.{arith}
use Rattle.std.specs.Prelude.{option_map}
use Rattle.std.specs.Cmp.{nat_eq_equiv}
use Rattle.std.specs.HashMap as hash
use Rattle.std.specs.List.{IsDistinct, filter}
use Rattle.std.specs.Map.{keys_of, lookup, values_of}
use Rattle.std.proofs.lemmas.Bool.{and_from, cases_Bool, cases_eq, eq-eqb, ne_eqb}
use Rattle.std.proofs.lemmas.Map.{lookup-none}
use Rattle.std.proofs.lemmas.Map.Entries.{length-values_of, lookup_head, lookup_tail, none_past_head}
use Rattle.std.proofs.lemmas.Map.Keys.{IsDistinct-tail}
use Rattle.mcv_queues.specs.declared.rows.Row.{Row}
use Rattle.mcv_queues.specs.declared.rows.Rows.{Rows}
use Rattle.mcv_queues.specs.Flights.{AreWaiting, are_apart, lists}
use Rattle.mcv_queues.specs.Legs.{waits_for}
use Rattle.mcv_queues.specs.Rows.{leg_of, legs, row_waits_for}

-- the numbers of the entries that pass a test
abbrev picked : {X : Type 0} → (X → Bool) → List (ℕ × X) → List ℕ
picked p [] = []
picked p (e ∷ es) = cond (p e.1) (e.0 ∷ picked p es) (picked p es)

abbrev passes : {X : Type 0} → (X → Bool) → Option X → Bool
passes p None = false
passes p (Some x) = p x

-- behind the first entry its number comes no more
none_behind : {X : Type 0} (p : X → Bool) (e : ℕ × X) (es : List (ℕ × X)) (n : ℕ) → IsDistinct nat_eq (keys_of (e ∷ es)) → n ≡ e.0 → passes p (lookup (nat_eq n) es) ≡ false
none_behind p e es n d q = ap (passes p) (lookup-none (nat_eq n) es (none_past_head nat_eq_equiv n e es d (eq-eqb n e.0 q)))

-- they are those at which the map has what passes
picked_listed : {X : Type 0} (p : X → Bool) (es : List (ℕ × X)) → IsDistinct nat_eq (keys_of es) → (n : ℕ) → lists (picked p es) n ≡ passes p (lookup (nat_eq n) es)
picked_listed p [] d n = refl
picked_listed p (e ∷ es) d n = let later = picked_listed p es (IsDistinct-tail nat_eq e.0 (keys_of es) d) n in elim (cases_eq n e.0) [
  | inl q ↦ elim (cases_Bool (p e.1)) [
    | inl t ↦ ap (λ b. lists (cond b (e.0 ∷ picked p es) (picked p es)) n) t ∙ ap (λ b. b || lists (picked p es) n) (eq-eqb e.0 n (sym q)) ∙ sym (ap (passes p) (lookup_head (nat_eq n) e es (eq-eqb n e.0 q)) ∙ t)
    | inr f ↦ ap (λ b. lists (cond b (e.0 ∷ picked p es) (picked p es)) n) f ∙ later ∙ none_behind p e es n d q ∙ sym (ap (passes p) (lookup_head (nat_eq n) e es (eq-eqb n e.0 q)) ∙ f)
  ]
  | inr nq ↦ elim (cases_Bool (p e.1)) [
    | inl t ↦ ap (λ b. lists (cond b (e.0 ∷ picked p es) (picked p es)) n) t ∙ ap (λ b. b || lists (picked p es) n) (ne_eqb e.0 n (λ z. nq (sym z))) ∙ later ∙ sym (ap (passes p) (lookup_tail (nat_eq n) e es (ne_eqb n e.0 nq)))
    | inr f ↦ ap (λ b. lists (cond b (e.0 ∷ picked p es) (picked p es)) n) f ∙ later ∙ sym (ap (passes p) (lookup_tail (nat_eq n) e es (ne_eqb n e.0 nq)))
  ]
]

picked_apart : {X : Type 0} (p : X → Bool) (es : List (ℕ × X)) → IsDistinct nat_eq (keys_of es) → are_apart (picked p es) ≡ true
picked_apart p [] d = refl
picked_apart p (e ∷ es) d = let tail = IsDistinct-tail nat_eq e.0 (keys_of es) d in elim (cases_Bool (p e.1)) [
  | inl t ↦ ap (λ b. are_apart (cond b (e.0 ∷ picked p es) (picked p es))) t ∙ and_from (not (lists (picked p es) e.0)) (are_apart (picked p es)) (ap not (picked_listed p es tail e.0 ∙ none_behind p e es e.0 d refl)) (picked_apart p es tail)
  | inr f ↦ ap (λ b. are_apart (cond b (e.0 ∷ picked p es) (picked p es))) f ∙ picked_apart p es tail
]

picked_length : {X : Type 0} (p : X → Bool) (es : List (ℕ × X)) → length (picked p es) ≡ length (filter p (values_of es))
picked_length p [] = refl
picked_length p (e ∷ es) = elim (cases_Bool (p e.1)) [
  | inl t ↦ ap (λ b. length (cond b (e.0 ∷ picked p es) (picked p es))) t ∙ ap suc (picked_length p es) ∙ sym (ap (λ b. length (cond b (e.1 ∷ filter p (values_of es)) (filter p (values_of es)))) t)
  | inr f ↦ ap (λ b. length (cond b (e.0 ∷ picked p es) (picked p es))) f ∙ picked_length p es ∙ sym (ap (λ b. length (cond b (e.1 ∷ filter p (values_of es)) (filter p (values_of es)))) f)
]

row_leg : {T : Type 0} (s : ℕ) (r : Option (Row T)) → passes (row_waits_for s) r ≡ waits_for s (option_map leg_of r)
row_leg s None = refl
row_leg s (Some r) = refl

-- as many legs wait as there are rows that say so
pub rows_waiting : {T : Type 0} (t : Rows T) (s count : ℕ) → hash.IsUnique nat_eq t.rows → count ≡ length (filter (row_waits_for s) (hash.values t.rows)) → AreWaiting (legs t) s count
rows_waiting t s count d e = record {
  numbers = picked (row_waits_for s) t.rows.entries;
  these = λ n. picked_listed (row_waits_for s) t.rows.entries d n ∙ row_leg s (lookup (nat_eq n) t.rows.entries);
  apart = picked_apart (row_waits_for s) t.rows.entries d;
  counted = picked_length (row_waits_for s) t.rows.entries ∙ sym e;
}

filter_shorter : {X : Type 0} (p : X → Bool) (xs : List X) → length (filter p xs) ≤ length xs
filter_shorter p [] = omega (arith)
filter_shorter p (x ∷ xs) = let shorter = filter_shorter p xs in elim (cases_Bool (p x)) [
  | inl t ↦ subst (λ b. length (cond b (x ∷ filter p xs) (filter p xs)) ≤ suc (length xs)) (sym t) (omega (arith, shorter))
  | inr f ↦ subst (λ b. length (cond b (x ∷ filter p xs) (filter p xs)) ≤ suc (length xs)) (sym f) (omega (arith, shorter))
]

few : (count left all rows : ℕ) → count + left ≡ all → all ≤ rows → rows < 9223372036854775808 → count + 1 < 18446744073709551616
few count left all rows e le lt = omega (arith, e, le, lt)

-- what has been counted is less than there are rows
pub counts_fit : {T : Type 0} (t : Rows T) (s count left : ℕ) → hash.hash_map_len t.rows < 9223372036854775808 → count + left ≡ length (filter (row_waits_for s) (hash.values t.rows)) → count + 1 < 18446744073709551616
counts_fit t s count left fits e = few count left (length (filter (row_waits_for s) (hash.values t.rows))) (hash.hash_map_len t.rows) e (subst (λ n. length (filter (row_waits_for s) (hash.values t.rows)) ≤ n) (length-values_of t.rows.entries) (filter_shorter (row_waits_for s) (hash.values t.rows))) fits

-- once no row is left all are counted
pub all_counted : {T : Type 0} (t : Rows T) (s count : ℕ) (left : List (Row T)) → hash.IsUnique nat_eq t.rows → left ≡ [] → count + length (filter (row_waits_for s) left) ≡ length (filter (row_waits_for s) (hash.values t.rows)) → AreWaiting (legs t) s count
all_counted t s count left d none e = rows_waiting t s count d (let all = subst (λ l. count + length (filter (row_waits_for s) l) ≡ length (filter (row_waits_for s) (hash.values t.rows))) none e in omega (arith, all))
