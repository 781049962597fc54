-- How many bytes the history of a chapter holds (own).
use Rattle.std.specs.Prelude.{ℕ, ◌+◌, zero, suc, List, sum_by, vec_len}
use Rattle.std.specs.Arc.{arc_value}
use Rattle.mcv_base.specs.declared.reply.Part.{Part}
use Rattle.mcv_base.specs.declared.reply.Part.TheVariants as parts
use Rattle.mcv_base.specs.declared.reply.Reply.{Reply}
use Rattle.mcv_base.specs.declared.reply.Reply.TheVariants as replies
use Rattle.mcv_base.specs.declared.request.Request.{Request}
use Rattle.mcv_base.specs.declared.request.Request.TheVariants.{Ask, Version, Quit}
use Rattle.mcv_plan.specs.Counts.{capped}
use Rattle.mcv_hub.specs.declared.entry.Entry.{Entry}
use Rattle.mcv_hub.specs.declared.entry.Entry.TheVariants as entries

-- an entry by itself
abbrev pub entry_bytes : ℕ
entry_bytes = 128

-- the key words of a request, and what it stores
abbrev pub request_bytes : Request → ℕ
request_bytes (Ask ask) = sum_by (λ word. vec_len word) ask.keys.items + vec_len (arc_value ask.body)
request_bytes Version = 0
request_bytes Quit = 0

-- the value of a hit, or the line of an error
abbrev pub reply_bytes : Reply → ℕ
reply_bytes (replies.Hit flags cas body) = vec_len (arc_value body)
reply_bytes replies.Miss = 0
reply_bytes replies.Stored = 0
reply_bytes replies.NotStored = 0
reply_bytes replies.Exists = 0
reply_bytes replies.NotFound = 0
reply_bytes replies.Deleted = 0
reply_bytes replies.Touched = 0
reply_bytes (replies.Number value) = 0
reply_bytes (replies.Fault line) = vec_len line

-- where it is owned
abbrev pub part_bytes : Part → ℕ
part_bytes (parts.Fixed reply) = 0
part_bytes (parts.Owned reply) = reply_bytes (arc_value reply)

-- a request counts with the call for its first key; those for its other keys share it
abbrev pub began_bytes : Request → ℕ → ℕ
began_bytes request zero = request_bytes request
began_bytes request (suc key) = 0

abbrev pub weight : Entry → ℕ
weight (entries.Began request key) = entry_bytes + began_bytes (arc_value request) key
weight (entries.Answered leg reply) = entry_bytes + part_bytes reply
weight (entries.Spooled leg) = entry_bytes
weight (entries.Refused leg) = entry_bytes
weight (entries.Performed leg) = entry_bytes
weight (entries.EraBegan era) = entry_bytes
weight (entries.Taken call) = entry_bytes

-- those of all entries together, as a `u64`: 2^64 - 1 where it is more
unfoldable pub bytes_of : List Entry → ℕ
bytes_of history = capped (sum_by weight history)
