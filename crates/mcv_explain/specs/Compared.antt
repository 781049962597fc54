-- What a certificate compared, in numbers, as a sentence (own).
use Rattle.std.specs.Prelude.{ℕ, ◌+◌, ◌==◌, ◌&&◌, Bool, true, false, List, [], ◌∷◌, Option, Some, None, bytes_eq, codes, decimal, if◌then◌else◌, length}
use Rattle.mcv_cert.specs.Pair.{CertificateValue, PairValue}
use Rattle.mcv_cert.specs.Place.{PlaceValue, SpotValue}
use Rattle.mcv_route.specs.Children.{joined}

-- of one route and class
abbrev pub is_same_class : SpotValue → SpotValue → Bool
is_same_class s t = s.route == t.route && bytes_eq s.class t.class

-- of one leaf of one route, class, era of the delete and era of the get
abbrev pub is_same_leaf : PlaceValue → PlaceValue → Bool
is_same_leaf p q = is_same_class p.spot q.spot && p.spot.era == q.spot.era && p.spot.get_era == q.spot.get_era && bytes_eq p.leaf q.leaf

-- the place is the same as the one before in this sense
abbrev pub is_as_before : (PlaceValue → PlaceValue → Bool) → Option PlaceValue → PlaceValue → Bool
is_as_before same None p = false
is_as_before same (Some before) p = same before p

-- how many pairs differ in this sense from the one before. The pairs of a certificate are sorted, so this many places there are
abbrev pub places : (PlaceValue → PlaceValue → Bool) → Option PlaceValue → List PairValue → ℕ
places same before [] = 0
places same before (p ∷ ps) = (if is_as_before same before p.place then 0 else 1) + places same (Some p.place) ps

abbrev pub leaf_count : List PairValue → ℕ
leaf_count ps = places is_same_leaf None ps

abbrev pub class_count : List PairValue → ℕ
class_count ps = places (λ p q. is_same_class p.spot q.spot) None ps

-- in what a leaf is counted once: the delete and the get have an era each where there is a window
unfoldable pub counted_words : (window : ℕ) → List ℕ
counted_words window = if window == 0 then codes "; a leaf is counted once for each class and era.\n" else codes "; a leaf is counted once for each class, era of the delete and era of the get.\n"

unfoldable pub compared_words : (leaves classes eras counted : List ℕ) → List ℕ
compared_words leaves classes eras counted = joined (codes "\nCompared: readable leaves " ∷ leaves ∷ codes ", classes " ∷ classes ∷ codes ", eras " ∷ eras ∷ counted ∷ [])

-- the table has the moments at which what migrations do changes: there is one era more
abbrev pub compared : CertificateValue → (table : List ℕ) → List ℕ
compared c table = compared_words (decimal (leaf_count c.pairs)) (decimal (class_count c.pairs)) (decimal (length table + 1)) (counted_words c.window)
