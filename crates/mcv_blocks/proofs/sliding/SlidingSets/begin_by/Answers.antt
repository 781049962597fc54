use Rattle.mcv_blocks.specs.SetsInEras.{AreSetsOf}
use Rattle.mcv_blocks.proofs.SetsEraByEra.{each_none}
use Rattle.mcv_blocks.proofs.sliding.SlidingSets.begin_by.Goals as goal

pub returns-clause-sets : goal.returns-clause-sets
returns-clause-sets c = λ r class are. each_none (AreSetsOf r class) c.args.first c.clear.new.self.items c.clear.ensures.items
