-- What the code's operations mean.
use Rattle.std.specs.Prelude.{ℕ, List, Option, Some, None, map, option_map}
use Rattle.serde_json.specs.Data.{Data}
use Rattle.serde_json.specs.View.{view}
use Rattle.mcv_patch.specs.Patch.{Change, Step, add, index, key, replace}
use Rattle.mcv_patch.specs.declared.operation.Operation.{Operation}
use Rattle.mcv_patch.specs.declared.operation.Step as code
use Rattle.mcv_patch.specs.declared.operation.Step.TheVariants as code_steps

abbrev pub step_of : code.Step → Step
step_of (code_steps.Key k) = key k.now
step_of (code_steps.Index i) = index i

abbrev pub path_of : List code.Step → List Step
path_of steps = map step_of steps

abbrev pub change_at : List Step → Option (List ℕ) → (value : Data) → Change
change_at path None v = replace path v
change_at path (Some k) v = add path k v

abbrev pub change_of : Operation → Change
change_of o = change_at (path_of o.path.items) (option_map (λ k. k.now) o.added) (view o.value.now)
