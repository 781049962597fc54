-- Deletes are kept: what the proxy promises of each delete that it answered (own).
use Rattle.std.specs.Prelude.{◌≡◌, ◌≢◌, ◌⊎◌, ℕ, true, Some}
use Rattle.mcv_base.specs.declared.operation.Op.TheVariants.{Delete}
use Rattle.mcv_base.specs.declared.reply.Outcome.TheVariants.{Error}
use Rattle.mcv_base.specs.Operation.{is_counting}
use Rattle.mcv_base.specs.Reply.{ReplyValue, outcome_of}
use Rattle.mcv_route.specs.Routes.{RoutesValue}
use Rattle.mcv_route.specs.Verdict.{IsReadableNear}
use Rattle.mcv_world.specs.World.{Queued, Performed, Spooled, Call, Leg, World, tree_of, choice_of, reply_of}

-- call k has a delete leg of its own to server x that lies under no shadow, and the server performed it, or it is
-- queued, or it is spooled
pub record KeepsLeg (w : World) (k x : ℕ) : Type 0 where
  pub number : ℕ
  pub leg : Leg
  pub there : w.legs number ≡ Some leg
  pub own : leg.call ≡ Some k
  pub server : leg.launch.server.0 ≡ x
  pub deletes : leg.launch.op ≡ Delete
  pub counts : is_counting leg.launch.mark ≡ true
  pub state : (leg.state ≡ Performed) ⊎ (leg.state ≡ Queued) ⊎ (leg.state ≡ Spooled)

-- each delete that has a reply that isn't an error, taken or not, keeps a leg to each server that a get, gets, incr or
-- decr of its rest could be answered by, by its route, in an era near its own and under its choice, whatever the servers
-- reply
abbrev pub Kept : RoutesValue → World → Type 0
Kept r w =
    (k : ℕ) (call : Call) (reply : ReplyValue) → w.calls k ≡ Some call → call.op ≡ Delete → reply_of r call ≡ Some reply → outcome_of reply ≢ Error
    → (x : ℕ) → IsReadableNear r (tree_of r call.route) call.rest call.since (choice_of call) x → KeepsLeg w k x
