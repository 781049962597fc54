-- A line of a pair is the line of one pair.
use Rattle.std.proofs.Common.{◌≡◌, ◌≢◌, ◌∙◌, ℕ, zero, suc, true, eqb-true, ◌<◌, ◌^◌, ◌==◌, List, [], ◌∷◌, ◌++◌, length, get_or, drop, refl, sym, ap, ap₂, arith, map, append_assoc}
use Rattle.std.specs.Prelude.{codes, decimal}
use Rattle.std.specs.List.{All, slice_split}
use Rattle.std.proofs.lemmas.List.Elements.{All-head, All-tail}
use Rattle.std.proofs.lemmas.Fmt.{decimal_injective, decimal_is_IsNumeral}
use Rattle.std.proofs.lemmas.Str.Parse.{digit_at}
use Rattle.mcv_base.specs.Position.{position_text}
use Rattle.mcv_base.specs.Key.{lacks}
use Rattle.mcv_base.proofs.Cuts.{lacks-append}
use Rattle.mcv_base.proofs.Prefixes.{one_cut}
use Rattle.mcv_cert.specs.Fits.{FitsPosition, FitsReason, FitsSpot}
use Rattle.mcv_cert.specs.Pair.{IsPair, PairValue, ReasonValue, SpotValue, has_eras, never, twin, same, all}
use Rattle.mcv_cert.specs.Escape.{escaped}
use Rattle.mcv_cert.specs.Text.{era_words, first_line, first_text, last_line, pair_line, pair_text, pair_words, reason_words}
use Rattle.mcv_cert.proofs.Clean.{clean_words, number_lacks, text_lacks}
use Rattle.mcv_cert.proofs.Escapes.{escaped_one}
use Rattle.mcv_cert.proofs.Joined.{first_byte, first_is, first_of, others_are, position_split, split_joined}

-- ---- words

numbers_one : (ms ns : List ℕ) → FitsPosition ms → FitsPosition ns → map decimal ms ≡ map decimal ns → ms ≡ ns
numbers_one [] [] f g e = refl
numbers_one [] (n ∷ ns) f g e = cc
numbers_one (m ∷ ms) [] f g e = cc
numbers_one (m ∷ ms) (n ∷ ns) f g e =
    ap₂ (λ (x : ℕ) (xs : List ℕ). x ∷ xs)
    (decimal_injective m n (All-head (λ n. n < 2 ^ 64) m ms f) (All-head (λ n. n < 2 ^ 64) n ns g) (first_is (decimal m) (decimal n) (map decimal ms) (map decimal ns) e))
    (numbers_one ms ns (All-tail (λ n. n < 2 ^ 64) m ms f) (All-tail (λ n. n < 2 ^ 64) n ns g) (others_are (decimal m) (decimal n) (map decimal ms) (map decimal ns) e))

front_first : (xs ys : List ℕ) → 0 < length xs → first_of (xs ++ ys) ≡ first_of xs
front_first [] ys some = absurd (let h : ⊥ = omega arith in h)
front_first (x ∷ xs) ys some = refl

-- a number doesn't begin with a dash
digit_first : (n : ℕ) (more : List ℕ) → n < 2 ^ 64 → codes "-" ≢ decimal n ++ more
digit_first n more l e =
    let is = decimal_is_IsNumeral n l in
    let d = digit_at (decimal n) 0 is.0.1 is.0.0 in
    let same_byte : 45 ≡ get_or (decimal n) 0 0 = ap first_of e ∙ front_first (decimal n) more is.0.0 in
    omega (arith, d, same_byte)

pub position_one : (p q : List ℕ) → FitsPosition p → FitsPosition q → position_text p ≡ position_text q → p ≡ q
position_one [] [] f g e = refl
position_one [] (n ∷ ns) f g e = absurd (digit_first n _ (All-head (λ n. n < 2 ^ 64) n ns g) e)
position_one (m ∷ ms) [] f g e = absurd (digit_first m _ (All-head (λ n. n < 2 ^ 64) m ms f) (sym e))
position_one (m ∷ ms) (n ∷ ns) f g e =
    numbers_one (m ∷ ms) (n ∷ ns) f g (sym (position_split m ms f) ∙ ap (slice_split (λ b. b == 46)) e ∙ position_split n ns g)

positions_one : (ps qs : List (List ℕ)) → All FitsPosition ps → All FitsPosition qs → map position_text ps ≡ map position_text qs → ps ≡ qs
positions_one [] [] f g e = refl
positions_one [] (q ∷ qs) f g e = cc
positions_one (p ∷ ps) [] f g e = cc
positions_one (p ∷ ps) (q ∷ qs) f g e =
    ap₂ (λ (x : List ℕ) (xs : List (List ℕ)). x ∷ xs)
    (position_one p q (All-head FitsPosition p ps f) (All-head FitsPosition q qs g) (first_is (position_text p) (position_text q) (map position_text ps) (map position_text qs) e))
    (positions_one ps qs (All-tail FitsPosition p ps f) (All-tail FitsPosition q qs g) (others_are (position_text p) (position_text q) (map position_text ps) (map position_text qs) e))

-- ---- reasons

apart : {G : Type 0} (m n : ℕ) → m ≡ n → (m ≡ n → ⊥) → G
apart m n e ne = absurd (ne e)

reason_one : (r s : ReasonValue) → FitsReason r → FitsReason s → reason_words r ≡ reason_words s → r ≡ s
reason_one never never f g e = refl
reason_one never (twin q) f g e = apart 110 116 (ap first_byte e) (λ h. omega (arith, h))
reason_one never (same j q) f g e = apart 110 115 (ap first_byte e) (λ h. omega (arith, h))
reason_one never (all j qs) f g e = apart 110 97 (ap first_byte e) (λ h. omega (arith, h))
reason_one (twin p) never f g e = apart 116 110 (ap first_byte e) (λ h. omega (arith, h))
reason_one (twin p) (twin q) f g e =
    let words = others_are (codes "twin") (codes "twin") (position_text p ∷ []) (position_text q ∷ []) e in
    ap twin (position_one p q f g (first_is (position_text p) (position_text q) [] [] words))
reason_one (twin p) (same j q) f g e = apart 116 115 (ap first_byte e) (λ h. omega (arith, h))
reason_one (twin p) (all j qs) f g e = apart 116 97 (ap first_byte e) (λ h. omega (arith, h))
reason_one (same i p) never f g e = apart 115 110 (ap first_byte e) (λ h. omega (arith, h))
reason_one (same i p) (twin q) f g e = apart 115 116 (ap first_byte e) (λ h. omega (arith, h))
reason_one (same i p) (same j q) f g e =
    let words = others_are (codes "same") (codes "same") (decimal i ∷ position_text p ∷ []) (decimal j ∷ position_text q ∷ []) e in
    let leg = others_are (decimal i) (decimal j) (position_text p ∷ []) (position_text q ∷ []) words in
    ap₂ same
    (decimal_injective i j f.0 g.0 (first_is (decimal i) (decimal j) (position_text p ∷ []) (position_text q ∷ []) words))
    (position_one p q f.1 g.1 (first_is (position_text p) (position_text q) [] [] leg))
reason_one (same i p) (all j qs) f g e = apart 115 97 (ap first_byte e) (λ h. omega (arith, h))
reason_one (all i ps) never f g e = apart 97 110 (ap first_byte e) (λ h. omega (arith, h))
reason_one (all i ps) (twin q) f g e = apart 97 116 (ap first_byte e) (λ h. omega (arith, h))
reason_one (all i ps) (same j q) f g e = apart 97 115 (ap first_byte e) (λ h. omega (arith, h))
reason_one (all i ps) (all j qs) f g e =
    let words = others_are (codes "all") (codes "all") (decimal i ∷ map position_text ps) (decimal j ∷ map position_text qs) e in
    ap₂ all
    (decimal_injective i j f.0 g.0 (first_is (decimal i) (decimal j) (map position_text ps) (map position_text qs) words))
    (positions_one ps qs f.1 g.1 (others_are (decimal i) (decimal j) (map position_text ps) (map position_text qs) words))

-- ---- pairs

-- the eras of two pairs, and what comes behind them
eras_one : (w : ℕ) (s t : SpotValue) (more others : List (List ℕ)) → FitsSpot s → FitsSpot t → has_eras w s ≡ true → has_eras w t ≡ true → era_words w s more ≡ era_words w t others → (s.era ≡ t.era) × (s.get_era ≡ t.get_era) × (more ≡ others)
eras_one zero s t more others f g a b e =
    let era = decimal_injective s.era t.era f.era g.era (first_is (decimal s.era) (decimal t.era) more others e) in
    (era, eqb-true s.get_era s.era a ∙ era ∙ sym (eqb-true t.get_era t.era b), others_are (decimal s.era) (decimal t.era) more others e)
eras_one (suc w) s t more others f g a b e =
    let era = decimal_injective s.era t.era f.era g.era (first_is (decimal s.era) (decimal t.era) (decimal s.get_era ∷ more) (decimal t.get_era ∷ others) e) in
    let rest = others_are (decimal s.era) (decimal t.era) (decimal s.get_era ∷ more) (decimal t.get_era ∷ others) e in
    let get_era = decimal_injective s.get_era t.get_era f.get_era g.get_era (first_is (decimal s.get_era) (decimal t.get_era) more others rest) in
    (era, get_era, others_are (decimal s.get_era) (decimal t.get_era) more others rest)

words_one : (w : ℕ) (p q : PairValue) → IsPair w p → IsPair w q → pair_words w p ≡ pair_words w q → p ≡ q
words_one w p q f g e =
    let behind_route = others_are (decimal p.place.spot.route) (decimal q.place.spot.route) _ _ e in
    let behind_class = others_are (codes "=" ++ escaped p.place.spot.class) (codes "=" ++ escaped q.place.spot.class) _ _ behind_route in
    let eras = eras_one w p.place.spot q.place.spot (position_text p.place.leaf ∷ reason_words p.reason) (position_text q.place.leaf ∷ reason_words q.reason) f.fits.spot g.fits.spot f.eras g.eras behind_class in
    let behind_era = eras.2 in
    let behind_leaf = others_are (position_text p.place.leaf) (position_text q.place.leaf) _ _ behind_era in
    let route = decimal_injective p.place.spot.route q.place.spot.route f.fits.spot.route g.fits.spot.route (first_is (decimal p.place.spot.route) (decimal q.place.spot.route) _ _ e) in
    let class = escaped_one p.place.spot.class q.place.spot.class (behind_sign (escaped p.place.spot.class) (escaped q.place.spot.class) (first_is (codes "=" ++ escaped p.place.spot.class) (codes "=" ++ escaped q.place.spot.class) _ _ behind_route)) in
    let era = eras.0 in
    let get_era = eras.1 in
    let leaf = position_one p.place.leaf q.place.leaf f.fits.leaf g.fits.leaf (first_is (position_text p.place.leaf) (position_text q.place.leaf) _ _ behind_era) in
    let reason = reason_one p.reason q.reason f.fits.reason g.fits.reason behind_leaf in
    λ i. record { place = record { spot = record { route = route i; class = class i; era = era i; get_era = get_era i }; leaf = leaf i }; reason = reason i }
  where
    behind_sign : (xs ys : List ℕ) → codes "=" ++ xs ≡ codes "=" ++ ys → xs ≡ ys
    behind_sign xs ys is = ap (drop 1) is

-- what comes before the end of a line, and the end
pub line_cut : (w : ℕ) (p : PairValue) (more : List ℕ) → pair_line w p ++ more ≡ pair_text w p ++ 10 ∷ more
line_cut w p more = append_assoc (pair_text w p) (10 ∷ []) more

pub text_words : (w : ℕ) (p : PairValue) → IsPair w p → slice_split (λ b. b == 32) (pair_text w p) ≡ pair_words w p
unfolding pair_text
text_words w p is = split_joined (decimal p.place.spot.route) _ (clean_words w p is)

-- no two pairs have one text
pub text_one : (w : ℕ) (p q : PairValue) → IsPair w p → IsPair w q → pair_text w p ≡ pair_text w q → p ≡ q
text_one w p q f g e = words_one w p q f g (sym (text_words w p f) ∙ ap (slice_split (λ b. b == 32)) e ∙ text_words w q g)

-- nor one line, nor does the line of one begin that of another
pub line_one : (w : ℕ) (p q : PairValue) (xs ys : List ℕ) → IsPair w p → IsPair w q → pair_line w p ++ xs ≡ pair_line w q ++ ys → (p ≡ q) × (xs ≡ ys)
line_one w p q xs ys f g e =
    let cut = one_cut 10 (pair_text w p) xs (pair_text w q) ys (text_lacks w p f) (text_lacks w q g) (sym (line_cut w p xs) ∙ e ∙ line_cut w q ys) in
    (text_one w p q f g cut.0, cut.1)

-- the last line is no pair's
pub not_last : (w : ℕ) (p : PairValue) (xs ys : List ℕ) → IsPair w p → last_line ++ xs ≢ pair_line w p ++ ys
not_last w p xs ys f e =
    let cut = one_cut 10 (codes "end") xs (pair_text w p) ys refl (text_lacks w p f) (e ∙ line_cut w p ys) in
    digit_not_e p.place.spot.route f.fits.spot.route (first_is (codes "end") (decimal p.place.spot.route) [] _ (ap (slice_split (λ b. b == 32)) cut.0 ∙ text_words w p f))
  where
    digit_not_e : (n : ℕ) → n < 2 ^ 64 → codes "end" ≢ decimal n
    digit_not_e n l is =
        let d = decimal_is_IsNumeral n l in
        let digit = digit_at (decimal n) 0 d.0.1 d.0.0 in
        let same_byte : 101 ≡ get_or (decimal n) 0 0 = ap first_of is in
        omega (arith, digit, same_byte)

-- ---- first lines

pub first_lacks : (w : ℕ) → w < 2 ^ 64 → lacks 10 (first_text w) ≡ true
first_lacks zero small = refl
first_lacks (suc w) small = lacks-append 10 (codes "mcv-cert 2 ") (decimal (suc w)) refl (number_lacks (suc w) small)

pub first_cut : (w : ℕ) (more : List ℕ) → first_line w ++ more ≡ first_text w ++ 10 ∷ more
first_cut w more = append_assoc (first_text w) (10 ∷ []) more

pub first_one : (w v : ℕ) → w < 2 ^ 64 → v < 2 ^ 64 → first_text w ≡ first_text v → w ≡ v
first_one zero zero f g e = refl
first_one zero (suc v) f g e = apart 49 50 (ap (λ xs. get_or xs 9 0) e) (λ h. omega (arith, h))
first_one (suc w) zero f g e = apart 50 49 (ap (λ xs. get_or xs 9 0) e) (λ h. omega (arith, h))
first_one (suc w) (suc v) f g e = decimal_injective (suc w) (suc v) f g (ap (drop 11) e)

-- a text begins with one first line
pub head_one : (w v : ℕ) (xs ys : List ℕ) → w < 2 ^ 64 → v < 2 ^ 64 → first_line w ++ xs ≡ first_line v ++ ys → (w ≡ v) × (xs ≡ ys)
head_one w v xs ys f g e =
    let cut = one_cut 10 (first_text w) xs (first_text v) ys (first_lacks w f) (first_lacks v g) (sym (first_cut w xs) ∙ e ∙ first_cut v ys) in
    (first_one w v f g cut.0, cut.1)

-- a first line that isn't the one of no window has a number at its end
pub first_digits : (w : ℕ) → first_text w ≢ codes "mcv-cert 1" → first_text w ≡ codes "mcv-cert 2 " ++ decimal w
first_digits zero other = absurd (other refl)
first_digits (suc w) other = refl
