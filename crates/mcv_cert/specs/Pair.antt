-- Pairs of a certificate, and their order (own).
use Rattle.std.specs.Prelude.{◌≡◌, ◌==◌, ◌||◌, not, ℕ, Bool, true, List, AllPairs, All}
use Rattle.std.specs.List.{list_all}
use Rattle.std.specs.Ordering.{is_lt, nat_cmp, ordering_then}
use Rattle.std.specs.declared.cmp.Ordering.{Ordering}
use Rattle.std.specs.declared.cmp.Ordering.TheVariants.{Less}
use Rattle.mcv_cert.specs.declared.pair.Pair.{Pair}
pub use Rattle.mcv_cert.specs.Place.{SpotValue, PlaceValue, place_of, list_cmp, spot_cmp}
unfoldable pub use Rattle.mcv_cert.specs.Place.{place_cmp}
pub use Rattle.mcv_cert.specs.Reason.{ReasonValue, never, twin, same, all, reason_of, index_of, names_legs}
use Rattle.mcv_cert.specs.Fits.{FitsPair}

-- a leaf that can be read, at one index or at all, and why a delete reaches its server
pub record PairValue : Type 0 where
  pub place : PlaceValue
  pub reason : ReasonValue

-- what the code's value means
abbrev pub pair_of : Pair → PairValue
pair_of p = record { place = place_of p.place; reason = reason_of p.reason }

-- ---- order

-- an index at a place: by place, then by index
abbrev pub index_cmp : PlaceValue → ℕ → PlaceValue → ℕ → Ordering
index_cmp p i q j = ordering_then (place_cmp p q) (nat_cmp i j)

abbrev pub pair_cmp : PairValue → PairValue → Ordering
pair_cmp p q = index_cmp p.place (index_of p.reason) q.place (index_of q.reason)

-- each pair comes before all later ones
abbrev pub AreRising : List PairValue → Type 0
AreRising ps = AllPairs (λ (p q : PairValue). pair_cmp p q ≡ Less) ps

-- the pair comes behind all of them
abbrev pub is_behind : List PairValue → PairValue → Bool
is_behind ps p = list_all (λ (q : PairValue). is_lt (pair_cmp q p)) ps

-- ---- which pairs there are

abbrev pub NamesLegs : PairValue → Type 0
NamesLegs p = names_legs p.reason ≡ true

-- with no window both eras are one
abbrev pub has_eras : ℕ → SpotValue → Bool
has_eras w s = not (w == 0) || (s.get_era == s.era)

abbrev pub HasEras : ℕ → PairValue → Type 0
HasEras w p = has_eras w p.place.spot ≡ true

-- the window that a certificate is for, in seconds, and its pairs
pub record CertificateValue : Type 0 where
  pub window : ℕ
  pub pairs : List PairValue

-- what every certificate is
pub record IsCertificate (c : CertificateValue) : Type 0 where
  pub rising : AreRising c.pairs
  pub legs : All NamesLegs c.pairs
  pub eras : All (HasEras c.window) c.pairs

-- a pair of a certificate of this window: its numbers have 64 bits, it names a leg where it has to, and its eras are those of the window. Such pairs have a text
pub record IsPair (w : ℕ) (p : PairValue) : Type 0 where
  pub fits : FitsPair p.place p.reason
  pub legs : NamesLegs p
  pub eras : HasEras w p
