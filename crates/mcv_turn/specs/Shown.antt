-- What a turn tells of the hub at its end (own).
use Rattle.std.specs.Prelude.{◌≡◌, ◌≤◌, ◌++◌, ◌∷◌, [], ℕ, Bool, true, false, List, Option, None, Some, IfSome, length, slice_get}
use Rattle.std.specs.List.{All, Contains}
use Rattle.mcv_base.specs.declared.request.ServerId.{ServerId}
use Rattle.mcv_core.specs.Flights.{AreWaiting}
use Rattle.mcv_core.specs.View.{core_view}
use Rattle.mcv_hub.specs.State.{HubView}
use Rattle.mcv_hub.specs.Weights.{bytes_of}
use Rattle.mcv_hub.specs.declared.gate.Gate.{Gate}
use Rattle.mcv_hub.specs.declared.gate.Gate.TheVariants as gates
use Rattle.mcv_watch.specs.declared.Load.{Load}
use Rattle.mcv_turn.specs.Flights.{is_marked}
use Rattle.mcv_turn.specs.Refusals.{one_more}
use Rattle.mcv_turn.specs.Runs.{Runs}
use Rattle.mcv_turn.specs.Steps.{WasPerformed}
use Rattle.mcv_turn.specs.declared.arrival.Arrival.{Arrival}
use Rattle.mcv_turn.specs.declared.came.Marked.{Marked}
use Rattle.mcv_turn.specs.declared.came.Performed.{Performed}
use Rattle.mcv_turn.specs.declared.servers.Servers.{Servers}
use Rattle.mcv_turn.specs.declared.servers.Standing.{Standing}

-- ---- how full it is

-- the number of the chapter behind the gate, as a `u64`
abbrev pub chapter_behind : Gate → ℕ → ℕ
chapter_behind gates.Open chapter = chapter
chapter_behind (gates.Turned past) chapter = one_more chapter
chapter_behind gates.Closed chapter = chapter

-- the chapter has this number, its calls and spooled legs may write so many entries, and its history holds so many bytes
pub record IsLoad (chapter : ℕ) (v : HubView) (load : Load) : Type 0 where
  pub chapter_is : load.chapter ≡ chapter
  pub entries_are : load.entries ≡ (core_view v.core).entries
  pub bytes_are : load.bytes ≡ bytes_of v.history

-- so many legs wait for each server, and each server is there
pub record AreCounts (v : HubView) (counts : List ℕ) : Type 0 where
  pub servers : length (core_view v.core).routes.servers ≤ length counts
  pub counted : (server : ℕ) → IfSome (slice_get counts server) (λ count. ∥ AreWaiting (core_view v.core).rows server count ∥₁)

-- ---- marks

-- the server's mark is so
abbrev pub IsMarkedSo : HubView → Marked → Type 0
IsMarkedSo v m = m.is_marked ≡ is_marked v m.server

-- further marks are told, each as it is
pub record TellsMarks (v : HubView) (before after : List Marked) : Type 0 where
  pub more : List Marked
  pub are : after ≡ before ++ more
  pub each : All (IsMarkedSo v) more

-- whether a server is marked so is told where it was told otherwise last
abbrev pub told_of : (server : ServerId) (was is : Bool) → List Marked
told_of server true true = []
told_of server true false = record { server = server; is_marked = false } ∷ []
told_of server false true = record { server = server; is_marked = true } ∷ []
told_of server false false = []

-- a desk knows of it that it is marked
abbrev pub is_marked_there : Option Standing → Bool
is_marked_there None = false
is_marked_there (Some s) = s.is_marked

abbrev pub is_known_marked : Servers → ServerId → Bool
is_known_marked servers server = is_marked_there (slice_get servers.all.items server.0)

-- ---- records that are done

-- in a run from this state an arrival was reported by which its server has performed the leg of the record
pub record IsDoneBy (start : HubView) (arrivals : List Arrival) (p : Performed) : Type 0 where
  pub arrival : Arrival
  pub one : Contains arrivals arrival
  pub server : p.server ≡ arrival.server
  pub before : List Arrival
  pub old : HubView
  pub so_far : Runs start before [] old
  pub new : HubView
  pub performed : WasPerformed p.number arrival old new

-- further ones are told, each of an arrival
pub record TellsPerformed (start : HubView) (arrivals : List Arrival) (before after : List Performed) : Type 0 where
  pub more : List Performed
  pub are : after ≡ before ++ more
  pub each : All (IsDoneBy start arrivals) more
