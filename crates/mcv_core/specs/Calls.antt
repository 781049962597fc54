-- Calls by number.
use Rattle.std.specs.Prelude.{◌≡◌, ℕ, Option, Some, nat_eq}
use Rattle.std.specs.HashMap as hash
use Rattle.mcv_base.specs.declared.reply.Part.{Part}
use Rattle.mcv_base.specs.Reply.{part_value}
use Rattle.mcv_core.specs.CallProgress.{launch_at}
use Rattle.mcv_queues.specs.declared.leg.Leg.{Leg}
use Rattle.mcv_route.specs.Routes.{RoutesValue}
use Rattle.mcv_world.specs.World.{put}
use Rattle.mcv_events.specs.Rows.{CanRecord, IsCore, Rows}
use Rattle.mcv_core.specs.declared.call.Call.{Call}
use Rattle.mcv_core.specs.declared.call.Recording.{Recording}
use Rattle.mcv_core.specs.declared.calls.Calls.{Calls}
use Rattle.mcv_core.specs.declared.errand.Errand.{Errand}
use Rattle.mcv_core.specs.Recordings.{CanNote, HasRecorded}
use Rattle.mcv_core.specs.Rows.{call_row, entries_of, IsRunning}

abbrev pub calls_at : Calls → ℕ → Option Call
calls_at c = hash.get nat_eq c.calls

-- how many more calls there is room for
abbrev pub room : Calls → ℕ
room c = hash.spare c.calls

pub record CanNoteAt (calls : ℕ → Option Call) (number entry : ℕ) (legs : ℕ → Option (Leg Errand)) (room servers next : ℕ) : Type 0 where
  pub call : Call
  pub there : calls number ≡ Some call
  pub can : CanNote call entry legs room servers next

-- the call at the number has recorded the reply
pub record IsRecordedAt (old new : ℕ → Option Call) (number : ℕ) (c : Call) (entry : ℕ) (outcome taken : Part) (next : ℕ) (legs after : ℕ → Option (Leg Errand)) (result : Recording) : Type 0 where
  pub call : Call
  pub at : new ≡ put old number (Some call)
  pub recorded : (r : RoutesValue) (w : Rows) → IsCore r w → CanRecord r w number (call_row c) entry (launch_at (entries_of c) entry) → IsRunning r number c → w.next_leg ≡ next
      → part_value taken ≡ part_value outcome → HasRecorded r w number c call entry (part_value outcome) legs after result
