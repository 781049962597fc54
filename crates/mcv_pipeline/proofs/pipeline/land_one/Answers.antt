use Rattle.mcv_pipeline.proofs.pipeline.land_one.Goals as goal

pub returns-clause-lands : goal.returns-clause-lands
returns-clause-lands c = record { leg = c.in-Some.leg; legs = c.in-Some.ensures.items; landed = c.push_reserved.ensures.items }
