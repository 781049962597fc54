-- A call after a list of outcomes.
use Rattle.std.specs.Prelude.{◌≡◌, ◌≤◌, ℕ, zero, suc, false, true, ⊤, List, [], ◌∷◌, if◌then◌else◌, length, None, vec_capacity, Vec}
use Rattle.std.specs.declared.alloc.Global.{Global}
use Rattle.mcv_base.specs.declared.reply.Outcome.{Outcome}
use Rattle.mcv_plan.specs.declared.course.Course.{Course}
use Rattle.mcv_plan.specs.Entries.{numbers}
use Rattle.mcv_plan.specs.ReachedAnswers.{Own, nothing, put, reached}
use Rattle.mcv_plan.specs.State.{State, entries, holds, is_placed, sends}
use Rattle.mcv_plan.specs.View.{view}

-- the legs' numbers with their outcomes, the newest first
abbrev pub Past : Type 0
Past = List (ℕ × Outcome)

abbrev pub own_of : Past → Own
own_of [] = nothing
own_of (e ∷ es) = put (own_of es) e.0 (reached e.0 e.1 (suc (length es)))

-- each outcome is of a leg that was sent and had none
abbrev pub IsLegal : State → Past → Type 0
IsLegal s [] = Unit {0}
IsLegal s (e ∷ es) = (own_of es e.0 ≡ None) × (holds e.0 (sends (own_of es) s) ≡ true) × IsLegal s es

-- the legs are numbered in order, each part knows where its children's end, and there is room for all
pub record IsKept (c : Course) (fresh : Vec ℕ Global) : Type 0 where
  pub placed : is_placed (view c) ≡ true
  pub numbered : entries (view c) ≡ numbers zero (length (entries (view c)))
  pub room : length (entries (view c)) ≤ vec_capacity fresh

-- ---- the fresh legs

-- no number occurs twice
abbrev pub IsOnce : List ℕ → Type 0
IsOnce [] = ⊤
IsOnce (k ∷ ks) = (holds k ks ≡ false) × IsOnce ks

-- those of the second that aren't among the first
abbrev pub new_of : List ℕ → List ℕ → List ℕ
new_of a [] = []
new_of a (k ∷ ks) = if holds k a then new_of a ks else k ∷ new_of a ks
