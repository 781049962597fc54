-- The words of a line have no byte up to 32: no space, and no end of a line.
use Rattle.std.proofs.Common.{◌≡◌, ℕ, zero, suc, ◌/◌, ◌%◌, ◌^◌, ◌<◌, ◌≤◌, true, false, not, ◌&&◌, ◌==◌, nat_le, nat_lt, List, [], ◌∷◌, ◌++◌, refl, ap, arith, inl, inr, map}
use Rattle.std.specs.Prelude.{codes, decimal}
use Rattle.std.specs.List.{All, AllByRecursion, flat_map, join_with_byte}
use Rattle.std.proofs.lemmas.Bool.{cases_Bool, and_parts, leb-true, ne_eqb}
use Rattle.std.proofs.lemmas.List.Elements.{All-head, All-tail, All-append, All-cons, All-nil, All-from_get_or, All-from_recursion, All-weaker}
use Rattle.std.proofs.lemmas.Fmt.{decimal_is_IsNumeral}
use Rattle.std.proofs.lemmas.Str.Parse.{digit_at}
use Rattle.mcv_base.specs.Key.{lacks}
use Rattle.mcv_base.specs.Position.{position_text}
use Rattle.mcv_base.proofs.Cuts.{joined, lacks-append}
use Rattle.mcv_cert.specs.Escape.{escaped, escaped_byte, hex_digit, is_plain}
use Rattle.mcv_cert.specs.Fits.{FitsPosition, FitsReason, FitsSpot}
use Rattle.mcv_cert.specs.Pair.{IsPair, PairValue, ReasonValue, SpotValue, never, twin, same, all}
use Rattle.mcv_cert.specs.Text.{era_words, pair_text, pair_words, reason_words}

abbrev pub IsClean : List ℕ → Type 0
IsClean word = All (λ b. 32 < b) word

abbrev pub AreClean : List (List ℕ) → Type 0
AreClean words = AllByRecursion IsClean words

pub clean_decimal : (n : ℕ) → n < 2 ^ 64 → IsClean (decimal n)
clean_decimal n l =
    let is = decimal_is_IsNumeral n l in
    All-from_get_or (λ b. 32 < b) (decimal n) 0 (λ i below. let d = digit_at (decimal n) i is.0.1 below in omega (arith, d))

clean_steps : (ns : List ℕ) → FitsPosition ns → IsClean (flat_map (λ m. codes "." ++ decimal m) ns)
clean_steps [] fits = All-nil (λ b. 32 < b)
clean_steps (m ∷ ns) fits =
    All-append (λ b. 32 < b) (codes "." ++ decimal m) (flat_map (λ m. codes "." ++ decimal m) ns)
    (All-cons (λ b. 32 < b) 46 (decimal m) (omega arith) (clean_decimal m (All-head (λ n. n < 2 ^ 64) m ns fits)))
    (clean_steps ns (All-tail (λ n. n < 2 ^ 64) m ns fits))

pub clean_position : (p : List ℕ) → FitsPosition p → IsClean (position_text p)
clean_position [] fits = All-cons (λ b. 32 < b) 45 [] (omega arith) (All-nil (λ b. 32 < b))
clean_position (n ∷ ns) fits =
    All-append (λ b. 32 < b) (decimal n) (flat_map (λ m. codes "." ++ decimal m) ns)
    (clean_decimal n (All-head (λ n. n < 2 ^ 64) n ns fits)) (clean_steps ns (All-tail (λ n. n < 2 ^ 64) n ns fits))

pub clean_positions : (ps : List (List ℕ)) → All FitsPosition ps → AreClean (map position_text ps)
clean_positions [] fits = tt
clean_positions (p ∷ ps) fits = (clean_position p (All-head FitsPosition p ps fits), clean_positions ps (All-tail FitsPosition p ps fits))

clean_digit : (d : ℕ) → 32 < hex_digit d
clean_digit d = elim (cases_Bool (nat_lt d 10)) [
  | inl p ↦ rw p (omega arith)
  | inr p ↦ rw p (omega arith)
]

plain_above : (b : ℕ) → is_plain b ≡ true → 32 < b
plain_above b p = omega (arith, leb-true 33 b (and_parts (nat_le 33 b) (nat_le b 126) (and_parts (nat_le 33 b && nat_le b 126) (not (b == 37)) p).0).0)

clean_byte : (b : ℕ) → IsClean (escaped_byte b)
clean_byte b = elim (cases_Bool (is_plain b)) [
  | inl p ↦ rw p (All-from_recursion (λ b. 32 < b) (b ∷ []) (plain_above b p, tt))
  | inr p ↦ rw p (All-from_recursion (λ b. 32 < b) (37 ∷ hex_digit (b / 16) ∷ hex_digit (b % 16) ∷ []) (omega arith, (clean_digit (b / 16), (clean_digit (b % 16), tt))))
]

pub clean_escaped : (w : List ℕ) → IsClean (escaped w)
clean_escaped [] = All-nil (λ b. 32 < b)
clean_escaped (b ∷ w) = All-append (λ b. 32 < b) (escaped_byte b) (escaped w) (clean_byte b) (clean_escaped w)

clean_reason : (r : ReasonValue) → FitsReason r → AreClean (reason_words r)
clean_reason never fits = (All-from_recursion (λ b. 32 < b) (codes "never") (omega arith, (omega arith, (omega arith, (omega arith, (omega arith, tt))))), tt)
clean_reason (twin leg) fits = (All-from_recursion (λ b. 32 < b) (codes "twin") (omega arith, (omega arith, (omega arith, (omega arith, tt)))), (clean_position leg fits, tt))
clean_reason (same index leg) fits =
    (All-from_recursion (λ b. 32 < b) (codes "same") (omega arith, (omega arith, (omega arith, (omega arith, tt)))), (clean_decimal index fits.0, (clean_position leg fits.1, tt)))
clean_reason (all index legs) fits =
    (All-from_recursion (λ b. 32 < b) (codes "all") (omega arith, (omega arith, (omega arith, tt))), (clean_decimal index fits.0, clean_positions legs fits.1))

clean_eras : (w : ℕ) (s : SpotValue) (more : List (List ℕ)) → FitsSpot s → AreClean more → AreClean (era_words w s more)
clean_eras zero s more fits clean = (clean_decimal s.era fits.era, clean)
clean_eras (suc w) s more fits clean = (clean_decimal s.era fits.era, (clean_decimal s.get_era fits.get_era, clean))

pub clean_words : (w : ℕ) (p : PairValue) → IsPair w p → AreClean (pair_words w p)
clean_words w p is = (
  clean_decimal p.place.spot.route is.fits.spot.route,
  (
    All-cons (λ b. 32 < b) 61 (escaped p.place.spot.class) (omega arith) (clean_escaped p.place.spot.class),
    clean_eras w p.place.spot (position_text p.place.leaf ∷ reason_words p.reason) is.fits.spot (clean_position p.place.leaf is.fits.leaf, clean_reason p.reason is.fits.reason),
  ),
)

-- ---- what a clean word lacks

pub bare : (c : ℕ) (w : List ℕ) → c ≤ 32 → IsClean w → All (λ b. (b == c) ≡ false) w
bare c w low clean = All-weaker (λ b. 32 < b) (λ b. (b == c) ≡ false) (λ b above. ne_eqb b c (λ e. omega arith)) w clean

not_line_feed : (b : ℕ) → 32 < b → not (b == 10) ≡ true
not_line_feed b above = ap not (ne_eqb b 10 (λ e. omega arith))

clean_lacks : (w : List ℕ) → IsClean w → lacks 10 w ≡ true
clean_lacks [] clean = refl
clean_lacks (b ∷ w) clean =
    joined (not (b == 10)) (lacks 10 w) (not_line_feed b (All-head (λ b. 32 < b) b w clean)) (clean_lacks w (All-tail (λ b. 32 < b) b w clean))

-- no end of a line in words with spaces between them
joined_lacks : (ws : List (List ℕ)) → AreClean ws → lacks 10 (join_with_byte 32 ws) ≡ true
joined_lacks [] clean = refl
joined_lacks (w ∷ []) clean = clean_lacks w clean.0
joined_lacks (w ∷ v ∷ ws) clean = lacks-append 10 w (32 ∷ join_with_byte 32 (v ∷ ws)) (clean_lacks w clean.0) (joined_lacks (v ∷ ws) clean.1)

pub text_lacks : (w : ℕ) (p : PairValue) → IsPair w p → lacks 10 (pair_text w p) ≡ true
unfolding pair_text
text_lacks w p is = joined_lacks (pair_words w p) (clean_words w p is)

-- a number has no end of a line
pub number_lacks : (n : ℕ) → n < 2 ^ 64 → lacks 10 (decimal n) ≡ true
number_lacks n small = clean_lacks (decimal n) (clean_decimal n small)
