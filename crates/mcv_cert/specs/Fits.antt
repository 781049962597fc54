-- What the types of a pair's numbers say: 64 bits, and 8 of a byte (own).
use Rattle.std.specs.Prelude.{ℕ, ◌<◌, ◌^◌, List, All}
use Rattle.std.specs.Coded.{×_prop, Π_prop, Unit-prop, le_prop}
use Rattle.mcv_cert.specs.Place.{PlaceValue, SpotValue}
use Rattle.mcv_cert.specs.Reason.{ReasonValue, never, twin, same, all}

-- a position's numbers have 64 bits
abbrev pub FitsPosition : List ℕ → Type 0
FitsPosition position = All (λ n. n < 2 ^ 64) position

abbrev pub FitsReason : ReasonValue → Type 0
FitsReason never = Unit {0}
FitsReason (twin leg) = FitsPosition leg
FitsReason (same index leg) = (index < 2 ^ 64) × FitsPosition leg
FitsReason (all index legs) = (index < 2 ^ 64) × All FitsPosition legs

-- a spot whose numbers have 64 bits, and its class bytes
pub record FitsSpot (s : SpotValue) : Type 0 where
  pub route : s.route < 2 ^ 64
  pub class : All (λ b. b < 256) s.class
  pub era : s.era < 2 ^ 64
  pub get_era : s.get_era < 2 ^ 64

-- a leaf's place and a reason for it, whose numbers have 64 bits
pub record FitsPair (place : PlaceValue) (why : ReasonValue) : Type 0 where
  pub spot : FitsSpot place.spot
  pub leaf : FitsPosition place.leaf
  pub reason : FitsReason why

-- ---- each has one proof at most, as a fact in a type must

All-prop : {X : Type 0} (P : X → Type 0) → ((x : X) → IsProp (P x)) → (xs : List X) → IsProp (All P xs)
All-prop P each xs = Π_prop (λ k. Π_prop (λ d. Π_prop (λ _. each _)))

FitsPosition-prop : (position : List ℕ) → IsProp (FitsPosition position)
FitsPosition-prop position = All-prop (λ n. n < 2 ^ 64) (λ n. le_prop) position

FitsReason-prop : (r : ReasonValue) → IsProp (FitsReason r)
FitsReason-prop never = Unit-prop
FitsReason-prop (twin leg) = FitsPosition-prop leg
FitsReason-prop (same index leg) = ×_prop le_prop (FitsPosition-prop leg)
FitsReason-prop (all index legs) = ×_prop le_prop (All-prop FitsPosition FitsPosition-prop legs)

FitsSpot-prop : (s : SpotValue) → IsProp (FitsSpot s)
FitsSpot-prop s x y = λ i. record {
  route = le_prop x.route y.route i;
  class = All-prop (λ b. b < 256) (λ b. le_prop) s.class x.class y.class i;
  era = le_prop x.era y.era i;
  get_era = le_prop x.get_era y.get_era i;
}

pub FitsPair-prop : (place : PlaceValue) (why : ReasonValue) → IsProp (FitsPair place why)
FitsPair-prop place why x y = λ i. record {
  spot = FitsSpot-prop place.spot x.spot y.spot i;
  leaf = FitsPosition-prop place.leaf x.leaf y.leaf i;
  reason = FitsReason-prop why x.reason y.reason i;
}
