-- Routes beside other routes: what they send and reply, but for positions and the numbers of servers and symbols (own).
use Rattle.std.specs.Prelude.{◌≡◌, ◌≢◌, ◌<◌, ℕ, true, List, ◌++◌, [], All, length, map, option_map, slice_get, slice_index, slice_index_or, unwrap_or}
use Rattle.std.specs.List.{zip}
use Rattle.mcv_base.specs.Operation.{is_counting}
use Rattle.mcv_base.specs.declared.operation.Mark.{Mark}
use Rattle.mcv_base.specs.declared.operation.Op.{Op}
use Rattle.mcv_base.specs.declared.operation.Op.TheVariants.{Delete}
use Rattle.mcv_base.specs.declared.reply.Outcome.TheVariants.{Error}
use Rattle.mcv_judge.specs.Reason.{LegValue}
use Rattle.mcv_pools.specs.Symbol.{SymbolValue}
use Rattle.mcv_route.specs.Launched.{launched}
use Rattle.mcv_route.specs.Outcomes.{Choice, Outcomes}
use Rattle.mcv_route.specs.Replies.{Answer, Source, fixed, leg, refusal, replies}
use Rattle.mcv_route.specs.Routes.{RoutesValue}
use Rattle.mcv_route.specs.Situation.{Situation}
use Rattle.mcv_route.specs.Tree.{Tree}
use Rattle.mcv_route.specs.Verdict.{Has}
use Rattle.mcv_route.specs.declared.launch.Launch.{Launch}

-- an index for each symbol, below its number of servers
abbrev pub IsHash : (SymbolValue → ℕ) → Type 0
IsHash h = (v : SymbolValue) → 0 < v.n → h v < v.n

-- the choice of routes by a hash
abbrev pub chosen_by : (SymbolValue → ℕ) → RoutesValue → Choice
chosen_by h r s = unwrap_or (option_map h (slice_get r.symbols s)) 0

-- a leg by the text of its server
pub record Seen : Type 0 where
  pub position : List ℕ
  pub server : List ℕ
  pub op : Op
  pub mark : Mark

abbrev pub server_text : RoutesValue → ℕ → List ℕ
server_text r x = slice_index_or r.servers x []

-- where a leg at a position is in the second tree
abbrev pub Move : Type 0
Move = List ℕ → List ℕ

abbrev pub seen : RoutesValue → Move → Launch → Seen
seen r move l = record { position = move l.position; server = server_text r l.server.0; op = l.op; mark = l.mark }

-- what a tree of the routes has sent, by positions in the second tree, once the outcomes of the legs there are known
abbrev pub sent_by : RoutesValue → Tree → Situation → Move → (SymbolValue → ℕ) → Outcomes → List Seen
sent_by r t s move h o = map (seen r move) (launched t s (chosen_by h r) (λ p. o (move p)))

abbrev pub moved_source : Move → Source → Source
moved_source move (leg p) = leg (move p)
moved_source move fixed = fixed
moved_source move refusal = refusal

abbrev pub moved : Move → Answer → Answer
moved move a = record { outcome = a.outcome; source = moved_source move a.source }

-- the second tree sends and replies what the first one does
pub record DoesAlike (r n : RoutesValue) (t u : Tree) (s : Situation) : Type 0 where
  pub move : Move
  pub sends : (h : SymbolValue → ℕ) (o : Outcomes) → IsHash h → sent_by n u s (λ p. p) h o ≡ sent_by r t s move h o
  pub replies : (o : Outcomes) → replies u s o ≡ map (moved move) (replies t s (λ p. o (move p)))

-- a place in the second tree, and the mark of the leg there
abbrev pub Place : Type 0
Place = List ℕ × Mark

-- the delete that a leg adds, at its place
abbrev pub added : RoutesValue → (SymbolValue → ℕ) → LegValue × Place → Seen
added r h a = record { position = a.1.0; server = server_text r (slice_index a.0.servers (chosen_by h r a.0.symbol)); op = Delete; mark = a.1.1 }

-- asked for a delete, the second tree sends what the first one does and, at once, these legs, all counted; it is done only where the first one is
pub record DeletesMore (r n : RoutesValue) (t u : Tree) (s : Situation) (legs : List LegValue) : Type 0 where
  pub move : Move
  pub places : List Place
  pub own : length places ≡ length legs
  pub counted : All (λ p. is_counting p.1 ≡ true) places
  pub sends : (h : SymbolValue → ℕ) (o : Outcomes) → IsHash h → sent_by n u s (λ p. p) h o ≡ sent_by r t s move h o ++ map (added r h) (zip legs places)
  pub done : (o : Outcomes) → Has (replies u s o) (λ a. a.outcome ≢ Error) → Has (replies t s (λ p. o (move p))) (λ a. a.outcome ≢ Error)
