-- How many bytes the values of an answer have (own).
use Rattle.std.specs.Prelude.{ℕ, vec_len}
use Rattle.std.specs.Arc.{arc_value}
use Rattle.mcv_base.specs.declared.reply.Part.{Part}
use Rattle.mcv_base.specs.declared.reply.Part.TheVariants as parts
use Rattle.mcv_base.specs.declared.reply.Reply.{Reply}
use Rattle.mcv_base.specs.declared.reply.Reply.TheVariants as replies

-- a hit has a value; what else a server says has none
abbrev pub hit_bytes : Reply → ℕ
hit_bytes (replies.Hit flags cas body) = vec_len (arc_value body)
hit_bytes replies.Miss = 0
hit_bytes replies.Stored = 0
hit_bytes replies.NotStored = 0
hit_bytes replies.Exists = 0
hit_bytes replies.NotFound = 0
hit_bytes replies.Deleted = 0
hit_bytes replies.Touched = 0
hit_bytes (replies.Number value) = 0
hit_bytes (replies.Fault line) = 0

abbrev pub value_bytes : Part → ℕ
value_bytes (parts.Fixed reply) = 0
value_bytes (parts.Owned reply) = hit_bytes (arc_value reply)
