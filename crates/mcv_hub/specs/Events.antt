-- Each event under the lock: it is the core's, and this is what it does to the history, the chapter and the books (own).
use Rattle.std.specs.Prelude.{◌≡◌, ◌+◌, ◌<◌, ◌≤◌, ◌^◌, ◌⊎◌, [], ◌∷◌, ◌++◌, ℕ, Option, None, Result, Ok, Err, length, option_map}
use Rattle.std.specs.Arc.{arc_value}
use Rattle.std.specs.declared.alloc.Global.{Global}
use Rattle.std.specs.declared.sync.Arc.{Arc}
use Rattle.mcv_base.specs.Reply.{part_value}
use Rattle.mcv_base.specs.declared.reply.Part.{Part}
use Rattle.mcv_base.specs.declared.request.CallId.{CallId}
use Rattle.mcv_base.specs.declared.request.Request.{Request}
use Rattle.mcv_world.specs.Moves.{Move}
use Rattle.mcv_world.specs.World.{World}
use Rattle.mcv_events.specs.Rows.{world_of}
use Rattle.mcv_core.specs.Chapters.{CanTurn}
use Rattle.mcv_core.specs.CoreView.{CoreView}
use Rattle.mcv_core.specs.Events.{Turns}
use Rattle.mcv_core.specs.View.{core_view}
use Rattle.mcv_core.specs.declared.fault.CoreFault.{CoreFault}
use Rattle.mcv_core.specs.declared.fault.CoreFault.TheVariants.{Busy}
use Rattle.mcv_hub.specs.History.{IsHistoryFrom, Writes, begun_by, taken_by}
use Rattle.mcv_hub.specs.State.{HubView, IsCallOf, IsSame, IsSameChapter, Replies}
use Rattle.mcv_hub.specs.declared.entry.Entry.TheVariants as entries
use Rattle.mcv_hub.specs.declared.seat.TakenReply.{TakenReply}

-- the history leads from this world to the core
abbrev pub LeadsFrom : HubView → World → Type 0
LeadsFrom v opening = IsHistoryFrom (core_view v.core).routes opening (world_of (core_view v.core).rows) v.history

-- the core's event; its entry is written, where it is a move, the books count it, and it is of the same chapter, whose opening world
-- stays
pub record IsHubEvent (Event : Option Move → CoreView → Type 0) (old new : HubView) : Type 0 where
  pub move : Option Move
  pub event : Event move (core_view new.core)
  pub writes : Writes (core_view old.core).routes old.history move new.history
  pub begun : new.begun ≡ old.begun + begun_by move
  pub taken : new.taken ≡ old.taken + taken_by move
  pub chapter : IsSameChapter old new
  pub opening : (world : World) → LeadsFrom old world → LeadsFrom new world

-- ---- a call begins

-- its entry has the request and the key
pub record IsRequested (old new : HubView) (request : Arc Request Global) (key : ℕ) : Type 0 where
  pub shared : Arc Request Global
  pub same : arc_value shared ≡ arc_value request
  pub entry : new.history ≡ old.history ++ entries.Began shared key ∷ []

-- ---- a reply is taken

-- what the core answers
abbrev pub taken_part : Result (Option TakenReply) CoreFault → Result (Option Part) CoreFault
taken_part (Ok o) = Ok (option_map (λ t. t.reply) o)
taken_part (Err fault) = Err fault

-- the receipt names the hub, the call, and the entry that is written; what is handed out is the call's
pub record IsReceived (v : HubView) (call : CallId) (t : TakenReply) : Type 0 where
  pub hub : t.receipt.hub ≡ v.hub
  pub chapter : t.receipt.chapter ≡ v.chapter
  pub entry : t.receipt.entry ≡ length v.history
  pub call_is : t.receipt.call ≡ call
  pub asked : IsCallOf v call.0 t.asked.op t.asked.route t.asked.rest
  pub reply : Replies v call.0 (part_value t.reply)

-- ---- chapters

-- a new chapter begins with an empty history, which opens with the legs in the spool, the era and the next numbers; the books go on
pub record BeginsChapter (old new : HubView) : Type 0 where
  pub turns : Turns (core_view old.core) None (core_view new.core)
  pub history : new.history ≡ []
  pub opening : LeadsFrom new (world_of (core_view old.core).rows)
  pub hub : new.hub ≡ old.hub
  pub chapter : new.chapter ≡ old.chapter + 1
  pub entries_before : new.entries_before ≡ (core_view new.core).entries
  pub begun : new.begun ≡ old.begun
  pub taken : new.taken ≡ old.taken
  pub begun_before : new.begun_before ≡ old.begun
  pub taken_before : new.taken_before ≡ old.taken
  pub few_begun : old.begun < 2 ^ 63
  pub few_taken : old.taken < 2 ^ 63

-- or none, where the core can't turn or a book has 2^63 already
pub record IsBusyChapter (old new : HubView) (fault : CoreFault) : Type 0 where
  pub busy : fault ≡ Busy
  pub cause : CanTurn (core_view old.core) → (2 ^ 63 ≤ old.begun) ⊎ (2 ^ 63 ≤ old.taken)
  pub same : IsSame old new
