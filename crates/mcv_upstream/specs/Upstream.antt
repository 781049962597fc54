-- A connection to a server, with the bytes that are to be written to it (own).
-- A get of a is sent as leg 4 where nothing was: leg 4 is in flight, and `get a` CR LF is to be written.
use Rattle.std.specs.Prelude.{◌≡◌, ◌++◌, ℕ, List, [], Result, Ok, Err}
use Rattle.std.specs.Arc.{arc_value}
use Rattle.mcv_base.specs.declared.request.LegId.{LegId}
use Rattle.mcv_base.specs.declared.request.LegRequest.{LegRequest}
use Rattle.mcv_pipeline.specs.Pipeline.{PipelineValue, SendsLeg}
use Rattle.mcv_reply.specs.declared.fault.ReplyFault.{ReplyFault}
use Rattle.mcv_reply.specs.Replies.{Leg, Open}

pub record UpstreamValue : Type 0 where
  pub legs : PipelineValue  -- the legs in flight, by number
  pub output : List ℕ  -- what is to be written

-- a connection over which nothing was sent yet
abbrev pub unused : UpstreamValue
unused = record { legs = record { legs = []; connection = Open [] [] }; output = [] }

-- by what a leg's reply is read
abbrev pub asked_leg : LegRequest → Leg
asked_leg request = record { op = request.op; key = arc_value request.rest }

abbrev pub output_sent : List ℕ → List ℕ → Result Unit ReplyFault → List ℕ
output_sent output text (Ok done) = output ++ text
output_sent output text (Err fault) = output

-- a leg of this number and text is sent
pub record SendsText (old : UpstreamValue) (number : LegId) (leg : Leg) (text : List ℕ) (result : Result Unit ReplyFault) (new : UpstreamValue) : Type 0 where
  pub sends : SendsLeg old.legs number leg result new.legs
  pub output : new.output ≡ output_sent old.output text result

-- nothing is to be written to a connection that was closed by a fault
abbrev pub output_after : Result Unit ReplyFault → List ℕ → List ℕ
output_after (Ok done) output = output
output_after (Err fault) output = []
