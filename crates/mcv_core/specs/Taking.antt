-- A call's reply is taken (own).
use Rattle.std.specs.Prelude.{◌≡◌, ◌||◌, ℕ, Option, Some, None, Vec, cond, is_some, map, option_and_then, option_map, vec_capacity}
use Rattle.std.specs.declared.alloc.Global.{Global}
use Rattle.mcv_base.specs.declared.reply.Part.{Part}
use Rattle.mcv_base.specs.Reply.{ReplyValue, fixed_value, part_value}
use Rattle.mcv_plan.specs.declared.answer.Source.{Source}
use Rattle.mcv_plan.specs.declared.answer.Source.TheVariants.{Entry, Fixed}
use Rattle.mcv_world.specs.World.{put}
use Rattle.mcv_core.specs.declared.call.Call.{Call}
use Rattle.mcv_core.specs.declared.call.Recorded.{Recorded}
use Rattle.mcv_core.specs.declared.take.Taking.{Taking}
use Rattle.mcv_core.specs.Launching.{places_of}
use Rattle.mcv_core.specs.Recordings.{has_ended_by}
use Rattle.mcv_core.specs.Rows.{taken_at}

-- what a call keeps of what it has recorded, whether its reply was taken or not
abbrev pub kept_of : Recorded → ℕ × Part
kept_of h = (h.entry, h.outcome)

pub record AreKept (old new : Vec Recorded Global) : Type 0 where
  pub items : map kept_of new.items ≡ map kept_of old.items
  pub capacity : vec_capacity new ≡ vec_capacity old

-- the reply of a source, while it wasn't taken
abbrev pub source_reply : Call → Source → Option ReplyValue
source_reply c (Fixed f) = Some (fixed_value f)
source_reply c (Entry e) = option_and_then (taken_at c.recorded.items) (places_of c.entries.items e)

-- the reply is handed out where it is there and wasn't taken; else nothing changes
pub record HasTaken (old new : Call) (result : Option Part) : Type 0 where
  pub same : new ≡ record old { recorded = new.recorded; taken = new.taken }
  pub kept : AreKept old.recorded new.recorded
  pub taken_is : new.taken ≡ (old.taken || is_some result)
  pub value : option_map part_value result ≡ cond old.taken None (option_and_then (λ a. source_reply old a.source) old.state.reply)
  pub none : result ≡ None → new ≡ old

-- the call at the number is this one then
pub record IsTakenAt (old new : ℕ → Option Call) (number : ℕ) (c : Call) (result : Taking) : Type 0 where
  pub call : Call
  pub part : Option Part
  pub at : new ≡ put old number (Some call)
  pub took : HasTaken c call part
  pub is : result ≡ record { part = part; left = call.left; ended = has_ended_by call }
