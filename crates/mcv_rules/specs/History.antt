-- The list of what came of a call's legs, as the definitions read it.
use Rattle.std.specs.Prelude.{ℕ, zero, suc, List, [], ◌∷◌, fold, is_none, if◌then◌else◌}
use Rattle.mcv_base.specs.Reply.{outcome_of, part_value}
use Rattle.mcv_base.specs.declared.reply.Outcome.{Outcome}
use Rattle.mcv_route.specs.declared.launch.Answered.{Answered}
use Rattle.mcv_route.specs.Outcomes.{History, is_same, outcomes}

abbrev pub entry_of : Answered → List ℕ × Outcome
entry_of a = (a.position, outcome_of (part_value a.reply))

-- with one entry more: a leg has one outcome, its first
abbrev pub heard : History → Answered → History
heard es a = if is_none (outcomes es a.position) then entry_of a ∷ es else es

-- the first reply at each position as its outcome, the newest first
abbrev pub history_of : List Answered → History
history_of answered = fold heard [] answered

-- the place in the list of the first entry at the position, and past the end where there is none
abbrev pub place_of : List Answered → List ℕ → ℕ
place_of [] p = zero
place_of (a ∷ answered) p = if is_same a.position p then zero else suc (place_of answered p)
