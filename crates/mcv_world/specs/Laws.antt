-- What holds of every world that moves can lead to, and what follows for deletes (own).
use Rattle.std.specs.Prelude.{◌≡◌, ◌≢◌, ◌<◌, ℕ, true, List, Option, Some, is_some, map, slice_index}
use Rattle.std.specs.List.{All}
use Rattle.mcv_base.specs.declared.operation.Op.TheVariants.{Delete}
use Rattle.mcv_base.specs.declared.reply.Outcome.TheVariants.{Error}
use Rattle.mcv_base.specs.Reply.{ReplyValue, outcome_of}
use Rattle.mcv_pools.specs.Choice.{chosen_each}
use Rattle.mcv_pools.specs.Symbol.{SymbolValue}
use Rattle.mcv_route.specs.declared.launch.Launch.{Launch}
use Rattle.mcv_route.specs.Eras.{IsEra, breaks_of, since_at}
use Rattle.mcv_route.specs.Outcomes.{IsChoice, outcomes}
use Rattle.mcv_route.specs.Routes.{RoutesValue}
use Rattle.mcv_route.specs.Verdict.{Has, IsLegal, IsReachable, IsReadableNear, IsSent}
use Rattle.mcv_symbolic.specs.CoveredRoutes.{AreCovered}
use Rattle.mcv_world.specs.World.{Gone, Call, Leg, World, tree_of, situation_of, choice_of, history_of, launched_by, reply_of, is_counted_delete}
use Rattle.mcv_world.specs.Moves.{Move, is_move, after, run}
use Rattle.mcv_world.specs.PossibleMoves.{CanBegin, IsPossible, ArePossible, IsOpening}
use Rattle.mcv_world.specs.LiveWorld.{live_of}
use Rattle.mcv_world.specs.KeptLegs.{Kept}

-- ---- what moves keep

-- the call has launched the leg
abbrev pub Launches : RoutesValue → Call → Launch → Type 0
Launches r call l = Has (launched_by r call) (λ m. m ≡ l)

-- of each call: it began as a call can, each outcome that it recorded is of a leg that it had launched and that had
-- none, and its reply was taken only once it was there
pub record IsCall (r : RoutesValue) (call : Call) : Type 0 where
  pub began : CanBegin r call.route call.rest call.choice
  pub era : IsEra r call.since
  pub legal : IsLegal (tree_of r call.route) (situation_of call) (choice_of call) (history_of call.recorded)
  pub taken : call.taken ≡ true → is_some (reply_of r call) ≡ true

-- the world has a leg of the call for this launch
pub record HasLeg (w : World) (k : ℕ) (call : Call) (l : Launch) : Type 0 where
  pub number : ℕ
  pub leg : Leg
  pub there : w.legs number ≡ Some leg
  pub own : leg.call ≡ Some k
  pub launch : leg.launch ≡ l
  pub rest : leg.rest ≡ call.rest

pub record IsWorld (r : RoutesValue) (w : World) : Type 0 where
  pub calls : (k : ℕ) (call : Call) → w.calls k ≡ Some call → (k < w.next_call) × IsCall r call
  -- each leg that a call has launched is there
  pub has : (k : ℕ) (call : Call) (l : Launch) → w.calls k ≡ Some call → Launches r call l → HasLeg w k call l
  -- and a call has no other legs
  pub sent : (n : ℕ) (s : Leg) (k : ℕ) (call : Call) → w.legs n ≡ Some s → s.call ≡ Some k → w.calls k ≡ Some call → Launches r call s.launch
  -- no counted delete leg is Gone
  pub counted : (n : ℕ) (s : Leg) → w.legs n ≡ Some s → is_counted_delete s ≡ true → s.state ≢ Gone
  pub number : (n : ℕ) (s : Leg) → w.legs n ≡ Some s → n < w.next_leg
  pub owner : (n : ℕ) (s : Leg) (k : ℕ) → w.legs n ≡ Some s → s.call ≡ Some k → k < w.next_call
  pub era : IsEra r w.since

abbrev pub OpeningIsWorld : Type 0
OpeningIsWorld = (r : RoutesValue) (w : World) → IsOpening r w → IsWorld r w

abbrev pub MovesKeepWorlds : Type 0
MovesKeepWorlds = (r : RoutesValue) (w : World) (m : Move) → IsWorld r w → IsPossible r w m → IsWorld r (after r w m)

-- ---- nothing launched is lost

-- each call's outcomes are reachable, each leg that they launch is there, and no counted delete leg is Gone
pub record LosesNothing (r : RoutesValue) (w : World) : Type 0 where
  pub reachable : (k : ℕ) (call : Call) → w.calls k ≡ Some call → IsReachable (tree_of r call.route) (situation_of call) (choice_of call) (outcomes (history_of call.recorded))
  pub legs : (k : ℕ) (call : Call) (l : Launch) → w.calls k ≡ Some call → Launches r call l → HasLeg w k call l
  pub counted : (n : ℕ) (s : Leg) → w.legs n ≡ Some s → is_counted_delete s ≡ true → s.state ≢ Gone

abbrev pub NothingLaunchedIsLost : Type 0
NothingLaunchedIsLost = (r : RoutesValue) (w : World) (ms : List Move) → IsOpening r w → ArePossible r w ms → LosesNothing r (run r w ms)

-- ---- coverage puts readable servers among the launched

-- where the routes are covered and a delete has a reply that isn't an error, a leg of it that lies under no shadow was launched to each server that could answer
abbrev pub ReadableIsLaunched : Type 0
ReadableIsLaunched = (r : RoutesValue) (w : World) (k : ℕ) (call : Call) (reply : ReplyValue) → AreCovered r → IsWorld r w → w.calls k ≡ Some call → call.op ≡ Delete → reply_of r call ≡ Some reply → outcome_of reply ≢ Error
    → (x : ℕ) → IsReadableNear r (tree_of r call.route) call.rest call.since (choice_of call) x → IsSent (tree_of r call.route) call.rest call.since (choice_of call) (outcomes (history_of call.recorded)) x

-- ---- deletes are kept

-- where the routes are covered, after every list of possible moves
abbrev pub CoveredIsKept : Type 0
CoveredIsKept = (r : RoutesValue) (w : World) (ms : List Move) → AreCovered r → IsOpening r w → ArePossible r w ms → Kept r (run r w ms)

-- and in every world that moves can lead to, so one move at a time
abbrev pub CoveredWorldsAreKept : Type 0
CoveredWorldsAreKept = (r : RoutesValue) (w : World) → AreCovered r → IsWorld r w → Kept r w

abbrev pub MovesKeepDeletes : Type 0
MovesKeepDeletes = (r : RoutesValue) (w : World) (m : Move) → AreCovered r → IsWorld r w → IsPossible r w m → Kept r (after r w m)

-- ---- what has ended can be forgotten

-- what was forgotten makes no difference to later moves
abbrev pub ForgetsSafely : Type 0
ForgetsSafely = (r : RoutesValue) (w : World) (m : Move) → IsWorld r w → live_of r (after r w m) ≡ live_of r (after r (live_of r w) m)

-- nor to which moves there are
abbrev pub MovesAreLive : Type 0
MovesAreLive = (r : RoutesValue) (w : World) (m : Move) → IsWorld r w → is_move r w m ≡ is_move r (live_of r w) m

-- where a move leads from what is left of one world to the new one, it does so from every world of which that is left
abbrev pub MovesOfEveryWorld : Type 0
MovesOfEveryWorld =
    (r : RoutesValue) (m : Move) (old new : World) → new ≡ live_of r (after r old m) → (w : World) → IsWorld r w → live_of r w ≡ old → live_of r (after r w m) ≡ new

-- ---- what stays

-- the leg is there, whatever its state
pub record IsSameLeg (there : Option Leg) (s : Leg) : Type 0 where
  pub leg : Leg
  pub is : there ≡ Some leg
  pub call : leg.call ≡ s.call
  pub launch : leg.launch ≡ s.launch
  pub rest : leg.rest ≡ s.rest

-- a leg keeps its number, its call and what it sends
abbrev pub LegsStay : Type 0
LegsStay = (r : RoutesValue) (w : World) (m : Move) → IsWorld r w → (n : ℕ) (s : Leg) → w.legs n ≡ Some s → IsSameLeg ((after r w m).legs n) s

-- the call is there, and this is its reply
pub record HasReply (r : RoutesValue) (there : Option Call) (x : ReplyValue) : Type 0 where
  pub call : Call
  pub is : there ≡ Some call
  pub reply : reply_of r call ≡ Some x

-- a call that has its reply keeps it
abbrev pub RepliesStay : Type 0
RepliesStay = (r : RoutesValue) (w : World) (m : Move) → IsWorld r w → (k : ℕ) (x : ReplyValue) → HasReply r (w.calls k) x → HasReply r ((after r w m).calls k) x

-- ---- choices and eras

-- a hash that keeps its law, an index below the number of servers, chooses an index for each symbol
abbrev pub ChosenIsChoice : Type 0
ChosenIsChoice =
    (chosen : SymbolValue → List ℕ → ℕ) (symbols : List SymbolValue) (part : List ℕ) → ((symbol : SymbolValue) → 0 < symbol.n → chosen symbol part < symbol.n) → All (λ s. 0 < s.n) symbols
    → IsChoice (map (λ s. s.n) symbols) (slice_index (chosen_each chosen symbols part))

-- a moment's era is one of the routes'
abbrev pub MomentsHaveEras : Type 0
MomentsHaveEras = (r : RoutesValue) (moment : ℕ) → IsEra r (since_at (breaks_of r) moment)
