-- What pairs and blocks in memory mean.
use Rattle.std.specs.Prelude.{ℕ, List, map}
use Rattle.mcv_base.specs.declared.request.ServerId.{ServerId}
use Rattle.mcv_cert.specs.Pair.{PairValue, SpotValue, pair_of}
use Rattle.mcv_judge.specs.Reason.{LegValue, BlockValue}
use Rattle.mcv_cert.specs.declared.pair.Pair.{Pair}
use Rattle.mcv_judge.specs.declared.block.Leg.{Leg}
use Rattle.mcv_judge.specs.declared.block.Block.{Block}
use Rattle.mcv_judge.specs.declared.block.Spot.{Spot}

abbrev pub pairs_of : List Pair → List PairValue
pairs_of rs = map pair_of rs

-- servers by their numbers
abbrev pub numbers : List ServerId → List ℕ
numbers servers = map (λ (s : ServerId). s.0) servers

abbrev pub leg_of : Leg → LegValue
leg_of l = record { position = l.position.now; symbol = l.symbol; servers = numbers l.servers.now }

abbrev pub legs_of : List Leg → List LegValue
legs_of ls = map leg_of ls

abbrev pub spot_of : Spot → SpotValue
spot_of s = record { route = s.route; class = s.class.now; era = s.era; get_era = s.get_era }

abbrev pub block_of : Block → BlockValue
block_of b = record { spot = spot_of b.spot; readable = legs_of b.readable.now; acknowledged = legs_of b.acknowledged.now; can_be_acknowledged = b.can_be_acknowledged }
