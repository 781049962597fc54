-- The entries of a call: all legs that it can ever launch, laid out once, when it begins (own).
use Rattle.std.specs.Prelude.{◌≡◌, ℕ, ◌+◌, Bool, not, ◌&&◌, ◌||◌, List, [], ◌∷◌, ◌++◌, Option, Some, length, map, filter, is_some}
use Rattle.std.specs.List.{AllPairs, list_all, list_any}
use Rattle.mcv_base.specs.Reply.{ReplyValue}
use Rattle.mcv_route.specs.declared.launch.Launch.{Launch}
use Rattle.mcv_route.specs.Launched.{launched}
use Rattle.mcv_route.specs.Outcomes.{Outcomes, is_same, outcomes}
use Rattle.mcv_route.specs.Routes.{RoutesValue}
use Rattle.mcv_route.specs.Verdict.{Has}
use Rattle.mcv_rules.specs.Rows.{ComesBefore}
use Rattle.mcv_world.specs.World.{Call, Leg, tree_of, situation_of, choice_of, history_of, launched_by, is_settled, put}
use Rattle.mcv_world.specs.Moves.{queue, queued, with_reply, launched_since}

-- one of the legs has the position
abbrev pub has_leg_at : List Launch → List ℕ → Bool
has_leg_at ls p = list_any (λ k. is_same k.position p) ls

-- what the call launches under some outcomes
abbrev pub launches_under : RoutesValue → Call → Outcomes → List Launch
launches_under r call o = launched (tree_of r call.route) (situation_of call) (choice_of call) o

-- the entries of the call: in the order of their positions, and under any outcomes it launches those of them whose
-- positions are launched
pub record IsLaidOut (r : RoutesValue) (call : Call) (es : List Launch) : Type 0 where
  pub all : (o : Outcomes) → launches_under r call o ≡ filter (λ l. has_leg_at (launches_under r call o) l.position) es
  pub rising : AllPairs ComesBefore (map (λ l. l.position) es)

-- the call has launched the entry
abbrev pub is_launched : RoutesValue → Call → Launch → Bool
is_launched r call l = has_leg_at (launched_by r call) l.position

-- the second call has launched the entry, and the first, which has recorded less, hasn't
abbrev pub is_due : RoutesValue → Call → Call → Launch → Bool
is_due r call more l = is_launched r more l && not (is_launched r call l)

-- the entry isn't launched, or has its outcome
abbrev pub is_done_with : RoutesValue → Call → Launch → Bool
is_done_with r call l = not (is_launched r call l) || is_some (outcomes (history_of call.recorded) l.position)

-- ---- laws

-- legs in order, among which is each that the call launches under some outcomes, are its entries
abbrev pub LaidOutByMembers : Type 0
LaidOutByMembers =
    (r : RoutesValue) (call : Call) (es : List Launch) → AllPairs ComesBefore (map (λ l. l.position) es)
    → ((o : Outcomes) (l : Launch) → Has (launches_under r call o) (λ m. m ≡ l) → Has es (λ m. m ≡ l)) → IsLaidOut r call es

-- each call has entries
abbrev pub CallsAreLaidOut : Type 0
CallsAreLaidOut = (r : RoutesValue) (call : Call) → (es : List Launch) × IsLaidOut r call es

-- what it has launched
abbrev pub LaunchedAreEntries : Type 0
LaunchedAreEntries = (r : RoutesValue) (call : Call) (es : List Launch) → IsLaidOut r call es → launched_by r call ≡ filter (is_launched r call) es

-- what a further reply launches
abbrev pub FreshAreEntries : Type 0
FreshAreEntries =
    (r : RoutesValue) (call : Call) (es : List Launch) (p : List ℕ) (x : ReplyValue) → IsLaidOut r call es
    → launched_since r call p x ≡ filter (is_due r call (with_reply call p x)) es

-- whether each leg that it has launched has an outcome
abbrev pub SettledByEntries : Type 0
SettledByEntries = (r : RoutesValue) (call : Call) (es : List Launch) → IsLaidOut r call es → is_settled r call ≡ list_all (is_done_with r call) es

-- legs can be queued one by one
abbrev pub QueuedOneByOne : Type 0
QueuedOneByOne =
    (legs : ℕ → Option Leg) (n k : ℕ) (rest : List ℕ) (ls : List Launch) (l : Launch)
    → queue legs n k rest (ls ++ l ∷ []) ≡ put (queue legs n k rest ls) (n + length ls) (Some (queued k rest l))
