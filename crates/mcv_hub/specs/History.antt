-- What an event writes into the history, and which histories are legal (own).
use Rattle.std.specs.Prelude.{◌≡◌, ℕ, ◌++◌, [], ◌∷◌, Bool, true, false, List, Option, Some, None, Result, Ok, Err, option_map}
use Rattle.std.specs.Arc.{arc_value}
use Rattle.mcv_base.specs.Reply.{part_value}
use Rattle.mcv_base.specs.declared.operation.Op.{Op}
use Rattle.mcv_base.specs.declared.reply.Part.{Part}
use Rattle.mcv_base.specs.declared.request.LegId.{LegId}
use Rattle.mcv_base.specs.declared.request.Request.{Request}
use Rattle.mcv_pools.specs.Hash.{fnv_index}
use Rattle.mcv_route.specs.Routes.{RoutesValue}
use Rattle.mcv_world.specs.World.{World}
use Rattle.mcv_world.specs.Moves.{Move, Began, Answered, WasSpooled, WasRefused, WasPerformed, EraBegan, Taken, run}
use Rattle.mcv_world.specs.LiveWorld.{live_of}
use Rattle.mcv_world.specs.PossibleMoves.{IsOpening, ArePossible}
use Rattle.mcv_core.specs.Asking.{IsAsked}
use Rattle.mcv_core.specs.declared.fault.CoreFault.{CoreFault}
use Rattle.mcv_core.specs.declared.step.Change.{Change}
use Rattle.mcv_core.specs.declared.step.Change.TheVariants as changes
use Rattle.mcv_core.specs.declared.step.Step.{Step}
use Rattle.mcv_core.specs.declared.turn.Era.{Era}
use Rattle.mcv_hub.specs.declared.entry.Entry.{Entry}
use Rattle.mcv_hub.specs.declared.entry.Entry.TheVariants as entries

-- the move begins the call that is asked for the key of the request, with the servers that the shipped hash picks
pub record Begins (r : RoutesValue) (request : Request) (key : ℕ) (m : Move) : Type 0 where
  pub op : Op
  pub route : ℕ
  pub rest : List ℕ
  pub choice : List ℕ
  pub asked : IsAsked r fnv_index request key op route rest choice
  pub is : m ≡ Began op route rest choice

-- the entry is the move
abbrev pub IsMoveOf : RoutesValue → Entry → Move → Type 0
IsMoveOf r (entries.Began request key) m = Begins r (arc_value request) key m
IsMoveOf r (entries.Answered leg reply) m = m ≡ Answered leg.0 (part_value reply)
IsMoveOf r (entries.Spooled leg) m = m ≡ WasSpooled leg.0
IsMoveOf r (entries.Refused leg) m = m ≡ WasRefused leg.0
IsMoveOf r (entries.Performed leg) m = m ≡ WasPerformed leg.0
IsMoveOf r (entries.EraBegan era) m = m ≡ EraBegan (option_map (λ t. t.0) era.since)
IsMoveOf r (entries.Taken call) m = m ≡ Taken call.0

-- the entries are these moves, one for each
pub data AreMovesOf (r : RoutesValue) : List Entry → List Move → Type 0 where
  none : AreMovesOf r [] []
  more : (es : List Entry) (ms : List Move) (e : Entry) (m : Move) → AreMovesOf r es ms → IsMoveOf r e m → AreMovesOf r (es ++ e ∷ []) (ms ++ m ∷ [])

abbrev pub is_began : Entry → Bool
is_began (entries.Began request key) = true
is_began (entries.Answered leg reply) = false
is_began (entries.Spooled leg) = false
is_began (entries.Refused leg) = false
is_began (entries.Performed leg) = false
is_began (entries.EraBegan era) = false
is_began (entries.Taken call) = false

abbrev pub is_taken : Entry → Bool
is_taken (entries.Began request key) = false
is_taken (entries.Answered leg reply) = false
is_taken (entries.Spooled leg) = false
is_taken (entries.Refused leg) = false
is_taken (entries.Performed leg) = false
is_taken (entries.EraBegan era) = false
is_taken (entries.Taken call) = true

-- from this world on, which has no calls and spooled legs alone, each entry is a move that is possible after those before it, and
-- this is what is left of the world after them
pub record IsHistoryFrom (r : RoutesValue) (opening live : World) (history : List Entry) : Type 0 where
  pub moves : List Move
  pub are : AreMovesOf r history moves
  pub opens : IsOpening r opening
  pub legal : ArePossible r opening moves
  pub replays : live_of r (run r opening moves) ≡ live

-- from some world on
pub record IsHistory (r : RoutesValue) (live : World) (history : List Entry) : Type 0 where
  pub opening : World
  pub from : IsHistoryFrom r opening live history

-- ---- what an event writes

-- the history with the entry at its end, where there is one
abbrev pub with_entry : List Entry → Option Entry → List Entry
with_entry history None = history
with_entry history (Some e) = history ++ e ∷ []

abbrev pub entries_in : Option Entry → ℕ
entries_in None = 0
entries_in (Some e) = 1

-- an event on a leg that had this reply writes the entry of its move
abbrev pub leg_entry : LegId → Part → Change → Option Entry
leg_entry leg reply changes.Nothing = None
leg_entry leg reply changes.Answered = Some (entries.Answered leg reply)
leg_entry leg reply changes.Spooled = Some (entries.Spooled leg)
leg_entry leg reply changes.Refused = Some (entries.Refused leg)
leg_entry leg reply changes.Performed = Some (entries.Performed leg)

-- the change that the core answers; none where it refuses
abbrev pub answer_change : Result Step CoreFault → Change
answer_change (Ok step) = step.change
answer_change (Err fault) = changes.Nothing

-- the era that it answers
abbrev pub answer_era : Result (Option Era) CoreFault → Option Era
answer_era (Ok era) = era
answer_era (Err fault) = None

abbrev pub era_entry : Option Era → Option Entry
era_entry None = None
era_entry (Some era) = Some (entries.EraBegan era)

-- ---- what a move writes

-- the history is one entry longer: the move's
pub record WritesOne (r : RoutesValue) (old : List Entry) (m : Move) (new : List Entry) : Type 0 where
  pub entry : Entry
  pub is : IsMoveOf r entry m
  pub at_end : new ≡ old ++ entry ∷ []

-- an event that may be a move writes the move's entry, or nothing where it is none
abbrev pub Writes : RoutesValue → List Entry → Option Move → List Entry → Type 0
Writes r old None new = new ≡ old
Writes r old (Some m) new = WritesOne r old m new

abbrev pub written : Option Move → ℕ
written None = 0
written (Some m) = 1

-- how many calls begin with it
abbrev pub begins_one : Move → ℕ
begins_one (Began op route rest choice) = 1
begins_one (Answered n reply) = 0
begins_one (WasSpooled n) = 0
begins_one (WasRefused n) = 0
begins_one (WasPerformed n) = 0
begins_one (EraBegan since) = 0
begins_one (Taken k) = 0

abbrev pub begun_by : Option Move → ℕ
begun_by None = 0
begun_by (Some m) = begins_one m

-- and how many replies are taken
abbrev pub takes_one : Move → ℕ
takes_one (Began op route rest choice) = 0
takes_one (Answered n reply) = 0
takes_one (WasSpooled n) = 0
takes_one (WasRefused n) = 0
takes_one (WasPerformed n) = 0
takes_one (EraBegan since) = 0
takes_one (Taken k) = 1

abbrev pub taken_by : Option Move → ℕ
taken_by None = 0
taken_by (Some m) = takes_one m
