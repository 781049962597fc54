-- All legs that a call can ever launch: those of its plan under its choice, by its route, operation, rest and era (own).
use Rattle.std.specs.Prelude.{◌&&◌, List, [], ◌∷◌, ◌++◌, if◌then◌else◌, map, nat_le}
use Rattle.mcv_route.specs.declared.launch.Launch.{Launch}
use Rattle.mcv_route.specs.Outcomes.{Choice}
use Rattle.mcv_route.specs.Routes.{RoutesValue}
use Rattle.mcv_route.specs.Situation.{Situation}
use Rattle.mcv_route.specs.Tree.{Tree}
use Rattle.mcv_rules.specs.Plan.{Leg, Plan, Send, Reply, Both, Beside, OnError, OnMiss, OnHit, Shadowed}
use Rattle.mcv_rules.specs.Plans.{launch_of, plan}
use Rattle.mcv_world.specs.World.{Call, choice_of, situation_of, tree_of}

-- the legs of all parts, in order; those of a shadow only where its range holds the index
abbrev pub all_legs : Plan → Choice → List Leg
all_legs (Send l) c = l ∷ []
all_legs (Reply x) c = []
all_legs (Both t u) c = all_legs t c ++ all_legs u c
all_legs (Beside t u) c = all_legs t c ++ all_legs u c
all_legs (OnError t u) c = all_legs t c ++ all_legs u c
all_legs (OnMiss t u) c = all_legs t c ++ all_legs u c
all_legs (OnHit t u) c = all_legs t c ++ all_legs u c
all_legs (Shadowed s first last t u) c = all_legs t c ++ (if nat_le first (c s) && nat_le (c s) last then all_legs u c else [])

-- those of a route's plan, each to its server
abbrev pub planned_legs : Tree → Situation → Choice → List Launch
planned_legs t s c = map (launch_of c) (all_legs (plan t s) c)

-- those of the call's
unfoldable pub legs_of_call : RoutesValue → Call → List Launch
legs_of_call r call = planned_legs (tree_of r call.route) (situation_of call) (choice_of call)
