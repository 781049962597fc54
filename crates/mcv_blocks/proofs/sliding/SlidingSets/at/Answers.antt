use Rattle.std.proofs.Common.{◌<◌, ◌-◌, length, arith, sym, ◌∙◌}
use Rattle.mcv_blocks.specs.SetsInEras.{AreSetsOf}
use Rattle.mcv_blocks.proofs.SetsEraByEra.{each_at}
use Rattle.mcv_blocks.proofs.sliding.SlidingSets.at.Goals as goal

pub index-requires : goal.index-requires
index-requires c =
    let count = c.args.self.now.sets.ok.0 in
    let low = c.requires.low in
    let high = c.requires.high in
    omega (arith, count, low, high)

pub returns : goal.returns
returns c = λ r class are.
    let sets = c.args.self.now.sets.items in
    let first = c.args.self.now.first in
    let low = c.requires.low in
    let high = c.requires.high in
    let within : c.args.era - first < length sets = omega (arith, low, high) in
    each_at (AreSetsOf r class) first c.args.era sets c.index.result.now low within c.index.ensures are
