use Rattle.std.proofs.Common.{◌≡◌, ◌++◌, List, length, map}
use Rattle.mcv_base.specs.declared.reply.Reply.{Reply}
use Rattle.mcv_base.specs.Reply.{reply_value}
use Rattle.mcv_reply.specs.Flight.{IsFlight, held_in}
use Rattle.mcv_reply.proofs.FlightSteps.{LeadsOn}
use Rattle.mcv_reply.proofs.replies.read_replies.Given as goal

abbrev pub invariant-loop-left : goal.invariant-loop-left
invariant-loop-left l = record {
  flight : IsFlight l.legs.items l.progress;
  given : (given : List Reply) × (l.replies.items ≡ l.fn.replies.items ++ given) × LeadsOn l.fn.legs.items (held_in l.fn.progress ++ l.fn.piece) (map reply_value given) l.legs.items (held_in l.progress ++ l.left);
}

abbrev pub decreases-loop-left : goal.decreases-loop-left
decreases-loop-left l = length l.left
