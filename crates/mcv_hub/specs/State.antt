-- What contracts see of the hub's state, and what holds of it whenever the lock is free (own).
use Rattle.std.specs.Prelude.{◌≡◌, ◌+◌, ◌<◌, ◌≤◌, ◌^◌, ℕ, List, Some, count_by}
use Rattle.mcv_base.specs.Reply.{ReplyValue}
use Rattle.mcv_base.specs.declared.operation.Op.{Op}
use Rattle.mcv_symbolic.specs.CoveredRoutes.{AreCovered}
use Rattle.mcv_world.specs.World.{World}
use Rattle.mcv_world.specs.Laws.{HasReply, IsWorld}
use Rattle.mcv_world.specs.LiveWorld.{live_of}
use Rattle.mcv_world.specs.Moves.{run}
use Rattle.mcv_events.specs.Rows.{CallRow, world_of}
use Rattle.mcv_core.specs.CoreView.{CoreView}
use Rattle.mcv_core.specs.KeptDeletes.{KeepsDeletes}
use Rattle.mcv_core.specs.View.{core_view}
use Rattle.mcv_core.specs.declared.dispatcher.Dispatcher.{Dispatcher}
use Rattle.mcv_hub.specs.History.{IsHistory, IsHistoryFrom, is_began, is_taken}
use Rattle.mcv_hub.specs.declared.entry.Entry.{Entry}

pub record HubView : Type 0 where
  pub core : Dispatcher
  -- of this chapter
  pub history : List Entry
  -- the numbers of the hub and of the chapter
  pub hub : ℕ
  pub chapter : ℕ
  -- how many entries its legs in the spool might write when the chapter began
  pub entries_before : ℕ
  -- the books of calls begun and of replies taken
  pub begun : ℕ
  pub taken : ℕ
  -- and what they were when the chapter began
  pub begun_before : ℕ
  pub taken_before : ℕ

-- the routes are covered, the history is legal and leads to the core, and the books count its entries
pub record IsHub (v : CoreView) (history : List Entry) (chapter begun taken begun_before taken_before : ℕ) : Type 0 where
  pub covered : AreCovered v.routes
  pub legal : IsHistory v.routes (world_of v.rows) history
  pub chapter_is : chapter ≡ v.chapter
  pub begun_is : begun ≡ begun_before + count_by is_began history
  pub taken_is : taken ≡ taken_before + count_by is_taken history
  pub begun_small : begun_before < 2 ^ 63
  pub taken_small : taken_before < 2 ^ 63

-- the history is legal, and deletes are kept in the world that it leads to, in which a call stays that the core has forgotten
pub record HistoryKeepsDeletes (v : CoreView) (history : List Entry) : Type 0 where
  pub legal : IsHistory v.routes (world_of v.rows) history
  pub keeps : KeepsDeletes v (run v.routes legal.opening legal.from.moves)

-- the hub is the one that was opened with this core: it has its routes and its limit of legs in flight, and in its first chapter a
-- history that leads from there
pub record IsOpenedAs (opened v : CoreView) (history : List Entry) (chapter : ℕ) : Type 0 where
  pub routes : v.routes ≡ opened.routes
  pub limit : v.limit ≡ opened.limit
  pub from : chapter ≡ 0 → IsHistoryFrom v.routes (world_of opened.rows) (world_of v.rows) history

-- the entries that the core may still write have their places, and all of them can be counted
pub record HasRoom (len capacity places may_write : ℕ) : Type 0 where
  pub within : len + may_write ≤ places
  pub kept : places ≤ capacity
  pub small : places ≤ 2 ^ 62

-- the state is of the hub that was opened with this core
abbrev pub IsOf : CoreView → HubView → Type 0
IsOf opened v = IsOpenedAs opened (core_view v.core) v.history v.chapter

-- ---- what an event leaves

-- the same chapter of the same hub
pub record IsSameChapter (old new : HubView) : Type 0 where
  pub hub : new.hub ≡ old.hub
  pub chapter : new.chapter ≡ old.chapter
  pub entries_before : new.entries_before ≡ old.entries_before
  pub begun_before : new.begun_before ≡ old.begun_before
  pub taken_before : new.taken_before ≡ old.taken_before

-- no call was begun and no reply taken
pub record IsSameBooks (old new : HubView) : Type 0 where
  pub begun : new.begun ≡ old.begun
  pub taken : new.taken ≡ old.taken
  pub same : IsSameChapter old new

-- nothing that callers see has changed
pub record IsSame (old new : HubView) : Type 0 where
  pub core : core_view new.core ≡ core_view old.core
  pub history : new.history ≡ old.history
  pub books : IsSameBooks old new

-- ---- calls

-- the call runs, and asks this operation of this route and rest
pub record IsCallOf (v : HubView) (k : ℕ) (op : Op) (route : ℕ) (rest : List ℕ) : Type 0 where
  pub row : CallRow
  pub there : (core_view v.core).rows.calls k ≡ Some row
  pub op_is : op ≡ row.call.op
  pub route_is : route ≡ row.call.route
  pub rest_is : rest ≡ row.call.rest

-- in each world of which the core's is what is left, and so in the replay of the history, this is the reply of the call
abbrev pub Replies : HubView → ℕ → ReplyValue → Type 0
Replies v k x =
    (w : World) → IsWorld (core_view v.core).routes w → live_of (core_view v.core).routes w ≡ world_of (core_view v.core).rows → HasReply (core_view v.core).routes (w.calls k) x
