-- What a server says to a leg (memcached, protocol.txt), and what that amounts to.
use Rattle.std.specs.Prelude.{ℕ, List, Option, Some, None, Bool, true, false, ◌||◌, codes}
use Rattle.std.specs.Arc.{arc_value}
use Rattle.mcv_base.specs.Operation.{is_adjusting, is_delete, is_reading, is_same_op, is_storing}
use Rattle.mcv_base.specs.declared.operation.Op.{Op}
use Rattle.mcv_base.specs.declared.operation.Op.TheVariants.{Get, Gets, Cas, Touch}
use Rattle.mcv_base.specs.declared.reply.Outcome.{Outcome}
use Rattle.mcv_base.specs.declared.reply.Outcome.TheVariants.{Good, Soft, Error}
use Rattle.mcv_base.specs.declared.reply.Reply.{Reply}
use Rattle.mcv_base.specs.declared.reply.Reply.TheVariants as replies
use Rattle.mcv_base.specs.declared.reply.FixedReply.{FixedReply}
use Rattle.mcv_base.specs.declared.reply.FixedReply.TheVariants as fixed_replies
use Rattle.mcv_base.specs.declared.reply.Part.{Part}
use Rattle.mcv_base.specs.declared.reply.Part.TheVariants as parts

-- a reply, without where it lies in memory
pub data ReplyValue : Type 0 where
  hit : (flags : ℕ) → (cas : Option ℕ) → (body : List ℕ) → ReplyValue
  miss : ReplyValue
  stored : ReplyValue
  not_stored : ReplyValue
  exists : ReplyValue
  not_found : ReplyValue
  deleted : ReplyValue
  touched : ReplyValue
  number : (value : ℕ) → ReplyValue
  fault : (line : List ℕ) → ReplyValue

-- a hit, a number or what was done is Good, a miss or what was not done Soft, an error line Error (own)
abbrev pub outcome_of : ReplyValue → Outcome
outcome_of (hit flags cas body) = Good
outcome_of miss = Soft
outcome_of stored = Good
outcome_of not_stored = Soft
outcome_of exists = Soft
outcome_of not_found = Soft
outcome_of deleted = Good
outcome_of touched = Good
outcome_of (number value) = Good
outcome_of (fault line) = Error

-- which replies a server gives which operations (protocol.txt, "Retrieval command", "Storage commands", "Deletion", "Increment/Decrement", "Touch" and, for faults, "Error strings"); only gets is answered the unique number of a value
abbrev pub may_answer : Op → ReplyValue → Bool
may_answer op (hit flags None body) = is_same_op op Get
may_answer op (hit flags (Some cas) body) = is_same_op op Gets
may_answer op miss = is_reading op
may_answer op stored = is_storing op
may_answer op not_stored = is_storing op
may_answer op exists = is_same_op op Cas
may_answer op not_found = is_same_op op Cas || is_delete op || is_same_op op Touch || is_adjusting op
may_answer op deleted = is_delete op
may_answer op touched = is_same_op op Touch
may_answer op (number value) = is_adjusting op
may_answer op (fault line) = true

abbrev pub reply_value : Reply → ReplyValue
reply_value (replies.Hit flags cas body) = hit flags cas (arc_value body).items
reply_value replies.Miss = miss
reply_value replies.Stored = stored
reply_value replies.NotStored = not_stored
reply_value replies.Exists = exists
reply_value replies.NotFound = not_found
reply_value replies.Deleted = deleted
reply_value replies.Touched = touched
reply_value (replies.Number value) = number value
reply_value (replies.Fault line) = fault line.items

-- what ErrorRoute replies (own)
abbrev pub error_route_line : List ℕ
error_route_line = codes "SERVER_ERROR error route"

-- what a leg whose server can't be reached is taken to reply (own)
abbrev pub lost_line : List ℕ
lost_line = codes "SERVER_ERROR destination failed"

abbrev pub fixed_value : FixedReply → ReplyValue
fixed_value fixed_replies.Miss = miss
fixed_value fixed_replies.Stored = stored
fixed_value fixed_replies.NotStored = not_stored
fixed_value fixed_replies.Exists = exists
fixed_value fixed_replies.NotFound = not_found
fixed_value fixed_replies.Deleted = deleted
fixed_value fixed_replies.Touched = touched
fixed_value (fixed_replies.Number value) = number value
fixed_value fixed_replies.ErrorRoute = fault error_route_line
fixed_value fixed_replies.Lost = fault lost_line

abbrev pub part_value : Part → ReplyValue
part_value (parts.Fixed reply) = fixed_value reply
part_value (parts.Owned reply) = reply_value (arc_value reply)

-- neither a value nor a line of a server's own has to be kept
abbrev pub is_small : ReplyValue → Bool
is_small (hit flags cas body) = false
is_small miss = true
is_small stored = true
is_small not_stored = true
is_small exists = true
is_small not_found = true
is_small deleted = true
is_small touched = true
is_small (number value) = true
is_small (fault line) = false

abbrev pub is_error : Outcome → Bool
is_error Good = false
is_error Soft = false
is_error Error = true

abbrev pub is_missed : Outcome → Bool
is_missed Good = false
is_missed Soft = true
is_missed Error = true

abbrev pub is_good : Outcome → Bool
is_good Good = true
is_good Soft = false
is_good Error = false

-- Error is worse than Soft, and Soft than Good
abbrev pub badness : Outcome → ℕ
badness Good = 0
badness Soft = 1
badness Error = 2

abbrev pub worse : Outcome → Outcome → Outcome
worse Good y = y
worse Soft Good = Soft
worse Soft Soft = Soft
worse Soft Error = Error
worse Error y = Error
