use Rattle.std.proofs.Common.{◌≡◌, ℕ, ◌<◌, Some}
use Rattle.std.specs.Prelude.{slice_get}
use Rattle.mcv_text.specs.Request.{request_value}
use Rattle.mcv_hub.specs.declared.seat.TakenReply.{TakenReply}
use Rattle.mcv_turn.specs.Answers.{IsFor}
use Rattle.mcv_turn.proofs.keys.are_for.Given as goal

-- the replies so far are for their keys
abbrev pub invariant-loop-key : goal.invariant-loop-key
invariant-loop-key l = (k : ℕ) (t : TakenReply) → k < l.key → slice_get l.taken k ≡ Some t → IsFor l.routes (request_value l.request) k t
