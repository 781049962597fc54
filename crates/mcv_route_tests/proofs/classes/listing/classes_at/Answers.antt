use Rattle.mcv_route_tests.proofs.Numbers.{number_within}
use Rattle.mcv_route_tests.proofs.classes.listing.classes_at.Goals as goal

pub classes-requires : goal.classes-requires
classes-requires g c = number_within c.args.routes.now c.args.number _ c.in-Some.ensures
