-- Which reasons a certificate names (own).
use Rattle.mcv_cert.specs.Pair.{PairValue}
use Rattle.mcv_judge.specs.Reason.{BlockValue}
use Rattle.mcv_route.specs.Routes.{RoutesValue}
use Rattle.mcv_blocks.specs.Blocks.{IsBlockOf}
use Rattle.mcv_pairs.specs.Reasons.{IsPickedIn}

-- the pair is at a readable leaf of a block of the routes, and its reason is the first for it in the order never, twin, same and all, with the least positions
abbrev pub IsPickedOf : RoutesValue → PairValue → Type 0
IsPickedOf r p = (b : BlockValue) × IsBlockOf r b × IsPickedIn b p
