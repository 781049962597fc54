use Rattle.mcv_route_tests.proofs.Numbers.{number_within}
use Rattle.mcv_route_tests.proofs.classes.listing.class_at.Goals as goal

pub class_of-requires : goal.class_of-requires
class_of-requires g c = number_within c.args.routes.now c.args.number _ c.in-Some.ensures
