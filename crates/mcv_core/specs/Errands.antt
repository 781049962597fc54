-- What a leg does (own).
use Rattle.std.specs.Prelude.{ℕ, List, Option, option_map}
use Rattle.std.specs.Arc.{arc_value}
use Rattle.mcv_base.specs.declared.request.Request.{Request}
use Rattle.mcv_route.specs.declared.launch.Launch.{Launch}
use Rattle.mcv_core.specs.CallProgress.{launch_at}
use Rattle.mcv_core.specs.declared.errand.Errand.{Errand}
use Rattle.mcv_core.specs.declared.errand.Laid.{Laid}

abbrev pub launches_of : Errand → List Launch
launches_of e = (arc_value e.laid).launches.items

-- its position, server, operation and mark
abbrev pub launch_of : Errand → Launch
launch_of e = launch_at (launches_of e) e.entry

abbrev pub rest_of : Errand → List ℕ
rest_of e = arc_value (arc_value e.laid).rest

-- what the client asked whose call has these legs
abbrev pub laid_request : Laid → Option Request
laid_request laid = option_map arc_value laid.request

-- an errand, without where what it shares lies in memory
pub record ErrandView : Type 0 where
  pub call : Option ℕ
  pub laid : Laid
  pub entry : ℕ

abbrev pub errand_view : Errand → ErrandView
errand_view e = record { call = e.call; laid = arc_value e.laid; entry = e.entry }

abbrev pub launch_in : ErrandView → Launch
launch_in v = launch_at v.laid.launches.items v.entry
