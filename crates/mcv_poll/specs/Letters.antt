-- What a loop and the spool's thread leave for each other (own).
use Rattle.std.specs.Prelude.{ℕ, ◌≡◌, ◌⊎◌, Bool, true, false, List, [], ◌∷◌, ◌++◌, map, Option, Some, None}
use Rattle.mcv_poll.specs.declared.letters.Record.{Record}
use Rattle.mcv_poll.specs.declared.letters.Task.{Task}
use Rattle.mcv_poll.specs.declared.letters.Task.TheVariants as task

-- all that the spool's thread is to do, in its order: records are written first; of each kind what was left first comes first
abbrev pub tasks : List Record → List ℕ → List Task
tasks records performed = map task.Write records ++ map task.Finish performed

-- the first of what is to be done is taken; where there is none, the end is, where it was asked for
abbrev pub TakesTask : (old : List Task) → (ends : Bool) → Option Task → (new : List Task) → Type 0
TakesTask old ends None new = (old ≡ []) × (new ≡ []) × (ends ≡ false)
TakesTask old ends (Some t) new = (old ≡ t ∷ new) ⊎ ((old ≡ []) × (new ≡ []) × (ends ≡ true) × (t ≡ task.End))
