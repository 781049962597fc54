-- Whether a call has its reply, and by which reply.
use Rattle.std.specs.Prelude.{List, Option, Some, None, slice_get, option_map}
use Rattle.mcv_base.specs.declared.operation.Op.{Op}
use Rattle.mcv_base.specs.declared.operation.Op.TheVariants.{Get, Gets, Set, Add, Replace, Append, Prepend, Cas, Delete, Touch, Incr, Decr}
use Rattle.mcv_base.specs.declared.reply.Outcome.{Outcome}
use Rattle.mcv_base.specs.declared.reply.FixedReply.{FixedReply}
use Rattle.mcv_base.specs.declared.reply.FixedReply.TheVariants.{Miss, NotFound, NotStored, ErrorRoute}
use Rattle.mcv_base.specs.Reply.{outcome_of, fixed_value, part_value}
use Rattle.mcv_route.specs.declared.launch.Answered.{Answered}
use Rattle.mcv_route.specs.Replies.{Answer, leg, fixed, refusal}
use Rattle.mcv_route.specs.Replies as replies
use Rattle.mcv_rules.specs.History.{place_of}
use Rattle.mcv_rules.specs.declared.status.Source.{Source}
use Rattle.mcv_rules.specs.declared.status.Source.TheVariants as sources
use Rattle.mcv_rules.specs.declared.status.Status.{Status}
use Rattle.mcv_rules.specs.declared.status.Status.TheVariants.{Waits, Replied}

-- a miss, or that nothing was found or stored (own; get, set and delete: mcrouter wiki, NullRoute)
abbrev pub default_reply : Op → FixedReply
default_reply Get = Miss
default_reply Gets = Miss
default_reply Set = NotStored
default_reply Add = NotStored
default_reply Replace = NotStored
default_reply Append = NotStored
default_reply Prepend = NotStored
default_reply Cas = NotStored
default_reply Delete = NotFound
default_reply Touch = NotFound
default_reply Incr = NotFound
default_reply Decr = NotFound

-- the reply recorded at the leg's position, the default reply, or ErrorRoute's
abbrev pub source_of : Op → List Answered → replies.Source → Source
source_of op answered (leg p) = sources.Outcome (place_of answered p)
source_of op answered fixed = sources.Fixed (default_reply op)
source_of op answered refusal = sources.Fixed ErrorRoute

abbrev pub status_of : Op → List Answered → Option Answer → Status
status_of op answered None = Waits
status_of op answered (Some a) = Replied (source_of op answered a.source)

-- what a reply amounts to
abbrev pub source_outcome : List Answered → Source → Option Outcome
source_outcome answered (sources.Outcome place) = option_map (λ a. outcome_of (part_value a.reply)) (slice_get answered place)
source_outcome answered (sources.Fixed reply) = Some (outcome_of (fixed_value reply))

abbrev pub status_outcome : List Answered → Status → Option Outcome
status_outcome answered Waits = None
status_outcome answered (Replied source) = source_outcome answered source
