-- Pairs that are added at the end (own).
use Rattle.std.specs.Prelude.{◌≡◌, ◌++◌, List}
use Rattle.mcv_cert.specs.Pair.{PairValue, ReasonValue}
use Rattle.mcv_judge.specs.Faults.{place_required, require}
use Rattle.mcv_judge.specs.Reason.{BlockValue, LegValue}

-- the new list is the old one, and behind it pairs with the property
pub record Adds (P : List PairValue → Type 0) (old new : List PairValue) : Type 0 where
  pub pairs : List PairValue
  pub added : new ≡ old ++ pairs
  pub have : P pairs

-- the pair that gives a leaf of a block this reason
abbrev pub pair_with : BlockValue → LegValue → ReasonValue → PairValue
pair_with b leaf reason = record { place = place_required (require b leaf); reason = reason }
