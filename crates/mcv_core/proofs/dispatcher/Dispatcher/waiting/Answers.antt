use Rattle.std.proofs.Common.{ℕ, ◌≤◌, length, subst, sym}
use Rattle.std.specs.Prelude.{IfSome, slice_get}
use Rattle.std.proofs.lemmas.Option.{IfSome_then}
use Rattle.std.proofs.lemmas.Result.{IfOk-weaker}
use Rattle.mcv_core.specs.Flights.{AreWaiting}
use Rattle.mcv_core.specs.View.{core_view}
use Rattle.mcv_core.proofs.FlightsAreCounted.{waiting_are_counted}
use Rattle.mcv_core.proofs.dispatcher.Dispatcher.waiting.Goals as goal

pub returns-clause-servers : goal.returns-clause-servers
returns-clause-servers c = IfOk-weaker c.waiting.result _ _ (λ counts len. subst (λ n. length (core_view c.args.self.now).routes.servers ≤ n) (sym len) c.args.self.now.sound.known) c.waiting.ensures.servers

pub returns-clause-counted : goal.returns-clause-counted
returns-clause-counted c = IfOk-weaker c.waiting.result _ (λ counts. (s : ℕ) → IfSome (slice_get counts.items s) (λ count. ∥ AreWaiting (core_view c.args.self.now).rows s count ∥₁)) (λ counts all s. IfSome_then (slice_get counts.items s) (all s) (waiting_are_counted c.args.self.now s)) c.waiting.ensures.counted
