-- The first entry that passes a test is at the first place that does.
use Rattle.std.proofs.Common.{◌≡◌, ◌∙◌, ℕ, zero, suc, ◌≤◌, Bool, true, false, nat_lt, List, [], ◌∷◌, length, Some, None, slice_get, refl, ap, arith, cond, find}
use Rattle.std.specs.Prelude.{position}
use Rattle.std.specs.List.{position_or_len}
use Rattle.std.proofs.lemmas.Bool.Decides.{nat_tests}
use Rattle.std.proofs.lemmas.List.Folds.{find_at}

the_place : (b : Bool) (n i : ℕ) → cond b (Some n) None ≡ Some i → n ≡ i
the_place true n i is = cc
the_place false n i is = absurd (cc)

no_place : (b : Bool) (n : ℕ) → cond b (Some n) None ≡ None → b ≡ false
no_place true n is = absurd (cc)
no_place false n is = refl

past_end : {X : Type 0} (xs : List X) (i : ℕ) → length xs ≤ i → slice_get xs i ≡ None
past_end [] i le = refl
past_end (x ∷ xs) zero le = absurd (omega arith)
past_end (x ∷ xs) (suc i) le = past_end xs i (omega arith)

high : (n m : ℕ) → nat_lt n m ≡ false → m ≤ n
high n m is = grind (arith, nat_tests)

pub found_at : {X : Type 0} (p : X → Bool) (xs : List X) (i : ℕ) → position p xs ≡ Some i → find p xs ≡ slice_get xs i
found_at p xs i is = find_at p xs ∙ ap (slice_get xs) (the_place (nat_lt (position_or_len p xs) (length xs)) (position_or_len p xs) i is)

pub not_found : {X : Type 0} (p : X → Bool) (xs : List X) → position p xs ≡ None → find p xs ≡ None
not_found p xs is =
    find_at p xs ∙ past_end xs (position_or_len p xs) (high _ _ (no_place (nat_lt (position_or_len p xs) (length xs)) (position_or_len p xs) is))
