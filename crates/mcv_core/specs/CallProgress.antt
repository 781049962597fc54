-- How far a call has come, by the definitions of its route (own).
use Rattle.std.specs.Prelude.{◌≡◌, ◌<◌, ℕ, suc, Bool, true, List, [], ◌∷◌, None, cond, length}
use Rattle.std.specs.List.{list_any}
use Rattle.mcv_route.specs.declared.launch.Launch.{Launch}
use Rattle.mcv_route.specs.Launched.{launched}
use Rattle.mcv_route.specs.Outcomes.{Choice, History, Outcomes, is_same, outcomes}
use Rattle.mcv_route.specs.Situation.{Situation}
use Rattle.mcv_route.specs.Tree.{Tree}
use Rattle.mcv_route.specs.Verdict.{Has}
use Rattle.mcv_plan.specs.declared.state.EvalState.{EvalState}
use Rattle.mcv_plan.specs.Evaluation.{IsAfter, leg_at, legs_count, shape}
use Rattle.mcv_plan.specs.Laws.{Evaluates, IsLaidOut, history_at}
use Rattle.mcv_plan.specs.PastOutcomes.{IsLegal}
pub use Rattle.mcv_plan.specs.PastOutcomes.{Past}
use Rattle.mcv_core.specs.PlannedLegs.{planned_legs}

-- ---- entries

-- the entry of a number
abbrev pub launch_at : List Launch → ℕ → Launch
launch_at = leg_at

-- those that pass a test, by their numbers from e on
abbrev pub places_from : ℕ → (Launch → Bool) → List Launch → List ℕ
places_from e test [] = []
places_from e test (l ∷ es) = cond (test l) (e ∷ places_from (suc e) test es) (places_from (suc e) test es)

-- under any outcomes, what is launched goes to a server of the table
abbrev pub GoesToServers : ℕ → Tree → Situation → Choice → Type 0
GoesToServers servers t s c = (o : Outcomes) (l : Launch) → Has (launched t s c o) (λ m. m ≡ l) → l.server.0 < servers

-- ---- outcomes by entry, the newest first

abbrev pub history_by : List Launch → Past → History
history_by = history_at

-- a leg at the position of this one is launched
abbrev pub is_sent : Tree → Situation → Choice → History → Launch → Bool
is_sent t s c h l = list_any (λ k. is_same k.position l.position) (launched t s c (outcomes h))

-- the entry is launched, and has no outcome
pub record CanAdvance (t : Tree) (s : Situation) (c : Choice) (es : List Launch) (past : Past) (entry : ℕ) : Type 0 where
  pub known : entry < length es
  pub launched : is_sent t s c (history_by es past) (launch_at es entry) ≡ true
  pub unheard : outcomes (history_by es past) (launch_at es entry).position ≡ None

-- ---- the state of a call with these entries and outcomes

abbrev pub count : EvalState → ℕ
count = legs_count

abbrev pub fresh : EvalState → List ℕ
fresh state = state.fresh.items

pub record IsAt (t : Tree) (s : Situation) (c : Choice) (es : List Launch) (past : Past) (state : EvalState) : Type 0 where
  pub evaluates : Evaluates t s c es (shape state)
  pub legal : IsLegal (shape state) past
  pub after : IsAfter past state

abbrev pub IsTracked : Tree → Situation → Choice → List Launch → Past → EvalState → Type 0
IsTracked t s c es past state = ∥ IsAt t s c es past state ∥₁

-- a call's plan is laid out, and its state is that before any outcome
pub record HasOpened (t : Tree) (s : Situation) (c : Choice) (es : List Launch) (state : EvalState) : Type 0 where
  pub planned : es ≡ planned_legs t s c
  pub laid : IsLaidOut t s c es
  pub counted : count state ≡ length es
  pub tracked : IsTracked t s c es [] state
  pub fresh_is : fresh state ≡ places_from 0 (is_sent t s c []) es
