-- Words that are joined are those words again.
use Rattle.std.proofs.Common.{◌≡◌, ◌∙◌, ℕ, ◌<◌, ◌^◌, false, ◌==◌, List, [], ◌∷◌, ◌++◌, get_or, refl, ap, arith, map, append-nil}
use Rattle.std.specs.Prelude.{codes, decimal}
use Rattle.std.specs.List.{All, flat_map, join_with_byte, slice_split}
use Rattle.std.proofs.lemmas.Bool.{ne_eqb}
use Rattle.std.proofs.lemmas.List.Splits.{slice_split_none, slice_split_at}
use Rattle.std.proofs.lemmas.List.Elements.{All-head, All-tail, All-from_get_or}
use Rattle.std.proofs.lemmas.Fmt.{decimal_is_IsNumeral}
use Rattle.std.proofs.lemmas.Str.Parse.{digit_at}
use Rattle.mcv_base.specs.Position.{position_text}
use Rattle.mcv_cert.specs.Fits.{FitsPosition}
use Rattle.mcv_cert.proofs.Clean.{AreClean, bare}

pub first_is : (x y : List ℕ) (xs ys : List (List ℕ)) → x ∷ xs ≡ y ∷ ys → x ≡ y
first_is x y xs ys is = cc

pub others_are : (x y : List ℕ) (xs ys : List (List ℕ)) → x ∷ xs ≡ y ∷ ys → xs ≡ ys
others_are x y xs ys is = cc

abbrev pub first_of : List ℕ → ℕ
first_of xs = get_or xs 0 0

-- reasons are distinguished by the first byte of their words
abbrev pub first_byte : List (List ℕ) → ℕ
first_byte [] = 0
first_byte (w ∷ ws) = first_of w

pub split_joined : (w : List ℕ) (ws : List (List ℕ)) → AreClean (w ∷ ws) → slice_split (λ b. b == 32) (join_with_byte 32 (w ∷ ws)) ≡ w ∷ ws
split_joined w [] clean = slice_split_none (λ b. b == 32) w (bare 32 w (omega arith) clean.0)
split_joined w (v ∷ ws) clean =
    slice_split_at (λ b. b == 32) w 32 (join_with_byte 32 (v ∷ ws)) (bare 32 w (omega arith) clean.0) refl
    ∙ ap (λ t. w ∷ t) (split_joined v ws clean.1)

-- a number has no dot
undotted : (n : ℕ) → n < 2 ^ 64 → All (λ b. (b == 46) ≡ false) (decimal n)
undotted n l =
    let is = decimal_is_IsNumeral n l in
    All-from_get_or (λ b. (b == 46) ≡ false) (decimal n) 0 (λ i below. let d = digit_at (decimal n) i is.0.1 below in ne_eqb (get_or (decimal n) i 0) 46 (λ e. omega (arith, d)))

steps_split : (n : ℕ) (ns : List ℕ) → n < 2 ^ 64 → FitsPosition ns → slice_split (λ b. b == 46) (decimal n ++ flat_map (λ m. codes "." ++ decimal m) ns) ≡ decimal n ∷ map decimal ns
steps_split n [] l fits = ap (slice_split (λ b. b == 46)) (append-nil (decimal n)) ∙ slice_split_none (λ b. b == 46) (decimal n) (undotted n l)
steps_split n (m ∷ ns) l fits =
    let next = All-head (λ n. n < 2 ^ 64) m ns fits in
    slice_split_at (λ b. b == 46) (decimal n) 46 (decimal m ++ flat_map (λ m. codes "." ++ decimal m) ns) (undotted n l) refl
    ∙ ap (λ t. decimal n ∷ t) (steps_split m ns next (All-tail (λ n. n < 2 ^ 64) m ns fits))

-- the text of a position other than the root, cut at its dots
pub position_split : (n : ℕ) (ns : List ℕ) → FitsPosition (n ∷ ns) → slice_split (λ b. b == 46) (position_text (n ∷ ns)) ≡ map decimal (n ∷ ns)
position_split n ns fits = steps_split n ns (All-head (λ n. n < 2 ^ 64) n ns fits) (All-tail (λ n. n < 2 ^ 64) n ns fits)
