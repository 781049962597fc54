-- Which legs the deletes of a class of keys need beside their own (own).
use Rattle.std.specs.Prelude.{◌≡◌, ◌<◌, ℕ, true, List, ◌++◌, length, remove}
use Rattle.std.specs.List.{Contains}
use Rattle.mcv_blocks.specs.Blocks.{IsBlockOf}
use Rattle.mcv_gaps.specs.Gaps.{IsMissed}
use Rattle.mcv_judge.specs.Reason.{BlockValue, LegValue}
use Rattle.mcv_route.specs.Routes.{RoutesValue}
use Rattle.mcv_symbolic.specs.CoveredRoutes.{sizes_of}

-- a delete can be acknowledged, and where these legs are sent beside the acknowledged ones no symbol answers for some leaf that can be read, at some index of it
pub record HasGapIn (sizes : List ℕ) (b : BlockValue) (legs : List LegValue) : Type 0 where
  pub can : b.can_be_acknowledged ≡ true
  pub leaf : LegValue
  pub read : Contains b.readable leaf
  pub missed : IsMissed sizes (b.acknowledged ++ legs) leaf

-- where these legs are sent too, a block of the class has a gap
pub record HasGapWith (r : RoutesValue) (route : ℕ) (word : List ℕ) (legs : List LegValue) : Type 0 where
  pub block : BlockValue
  pub is : IsBlockOf r block
  pub of_route : block.spot.route ≡ route
  pub of_class : block.spot.class ≡ word
  pub gap : HasGapIn (sizes_of r) block legs

-- with these legs the class has no gap, and without any one of them it has one
pub record AreLeast (r : RoutesValue) (route : ℕ) (word : List ℕ) (legs : List LegValue) : Type 0 where
  pub enough : HasGapWith r route word legs → ⊥
  pub each : (k : ℕ) → k < length legs → HasGapWith r route word (remove legs k)

-- legs that the deletes of a class need
pub record NeedValue : Type 0 where
  pub route : ℕ
  pub word : List ℕ
  pub legs : List LegValue

abbrev pub IsLeastNeed : RoutesValue → NeedValue → Type 0
IsLeastNeed r need = AreLeast r need.route need.word need.legs
