-- How far a call has come, by the outcomes of its legs.
use Rattle.std.specs.Prelude.{◌≡◌, ℕ, zero, suc, true, List, [], ◌∷◌, length, None}
use Rattle.mcv_base.specs.declared.operation.Op.TheVariants.{Get}
use Rattle.mcv_base.specs.declared.operation.Mark.TheVariants.{Plain}
use Rattle.mcv_route.specs.declared.launch.Launch.{Launch}
use Rattle.mcv_plan.specs.declared.state.EvalState.{EvalState}
use Rattle.mcv_plan.specs.PastOutcomes.{Past, own_of}
use Rattle.mcv_plan.specs.ReachedAnswers.{answer_of}
use Rattle.mcv_plan.specs.State.{Reflects, State, answered, entries, holds, plan, sends}
use Rattle.mcv_plan.specs.View.{view}

-- the course without what its legs have answered
abbrev pub shape : EvalState → State
shape e = plan (view e.course)

-- how many legs it can launch
abbrev pub legs_count : EvalState → ℕ
legs_count e = length (entries (shape e))

-- exactly these outcomes have come, and the reply is the course's
pub record IsAfter (es : Past) (e : EvalState) : Type 0 where
  pub reflects : Reflects (own_of es) (view e.course)
  pub reply : e.reply ≡ answer_of (answered (own_of es) (shape e))

-- the leg is launched and has no outcome
pub record IsAwaited (es : Past) (entry : ℕ) (s : State) : Type 0 where
  pub launched : holds entry (sends (own_of es) s) ≡ true
  pub none : own_of es entry ≡ None

abbrev pub no_leg : Launch
no_leg = record { position = []; server = record { 0 = 0 }; op = Get; mark = Plain }

-- the leg with this number
abbrev pub leg_at : List Launch → ℕ → Launch
leg_at [] k = no_leg
leg_at (l ∷ ls) zero = l
leg_at (l ∷ ls) (suc k) = leg_at ls k
