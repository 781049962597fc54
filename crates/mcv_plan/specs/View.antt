-- The state that a `Course` reflects for.
use Rattle.std.specs.Prelude.{List, map}
use Rattle.mcv_plan.specs.declared.course.Course.{Course}
use Rattle.mcv_plan.specs.declared.course.Course.TheOpen.{Course-F}
use Rattle.mcv_plan.specs.declared.course.Course.TheFolds.{fold-Course}
use Rattle.mcv_plan.specs.State.{State, send, reply, all, in_turn, beside, on_hit, States, states_of}

abbrev pub view_step : Course-F State → State
view_step (Course-F.Send e) = send e
view_step (Course-F.Reply f) = reply f
view_step (Course-F.All ends children waiting worst) = all ends.items (states_of children.items) waiting worst
view_step (Course-F.InTurn w ends children current) = in_turn w ends.items (states_of children.items) current
view_step (Course-F.Beside ends children) = beside ends.items (states_of children.items)
view_step (Course-F.OnHit first end second) = on_hit first.value end second.value

abbrev pub view : Course → State
view = fold-Course State view_step

abbrev pub seen : List Course → States
seen courses = states_of (map view courses)
