-- The text of a certificate (own).
use Rattle.std.specs.Prelude.{ℕ, zero, suc, List, [], ◌∷◌, ◌++◌, codes, decimal, map}
use Rattle.std.specs.List.{flat_map, join_with_byte}
use Rattle.mcv_base.specs.Position.{position_text}
use Rattle.mcv_cert.specs.Escape.{escaped}
use Rattle.mcv_cert.specs.Pair.{ReasonValue, never, twin, same, all, PairValue, SpotValue}

abbrev pub reason_words : ReasonValue → List (List ℕ)
reason_words never = codes "never" ∷ []
reason_words (twin leg) = codes "twin" ∷ position_text leg ∷ []
reason_words (same index leg) = codes "same" ∷ decimal index ∷ position_text leg ∷ []
reason_words (all index legs) = codes "all" ∷ decimal index ∷ map position_text legs

-- the era of the delete, and with a window that of the get
abbrev pub era_words : ℕ → SpotValue → List (List ℕ) → List (List ℕ)
era_words zero s more = decimal s.era ∷ more
era_words (suc w) s more = decimal s.era ∷ decimal s.get_era ∷ more

-- `<route> =<class> <era> <leaf> <reason>`; with a window two eras
abbrev pub pair_words : ℕ → PairValue → List (List ℕ)
pair_words w p = decimal p.place.spot.route ∷ (codes "=" ++ escaped p.place.spot.class) ∷ era_words w p.place.spot (position_text p.place.leaf ∷ reason_words p.reason)

-- the words with single spaces between them
unfoldable pub pair_text : ℕ → PairValue → List ℕ
pair_text w p = join_with_byte 32 (pair_words w p)

abbrev pub pair_line : ℕ → PairValue → List ℕ
pair_line w p = pair_text w p ++ codes "\n"

-- the first line without its end
abbrev pub first_text : ℕ → List ℕ
first_text zero = codes "mcv-cert 1"
first_text (suc w) = codes "mcv-cert 2 " ++ decimal (suc w)

abbrev pub first_line : ℕ → List ℕ
first_line w = first_text w ++ codes "\n"

abbrev pub last_line : List ℕ
last_line = codes "end\n"

abbrev pub certificate_text : ℕ → List PairValue → List ℕ
certificate_text w ps = first_line w ++ (flat_map (pair_line w) ps ++ last_line)
