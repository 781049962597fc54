use Rattle.std.proofs.Common.{◌≡◌, ◌<◌, ◌+◌, ◌++◌, ℕ, List, drop, drop-cons, add-one, get_or, length, refl}
use Rattle.mcv_patch.specs.Operations.{path_of, step_of}
use Rattle.mcv_patch.specs.Pointer.{pointer, pointer_step}
use Rattle.mcv_patch.specs.declared.operation.Step.{Step}
use Rattle.mcv_patch.proofs.Pieces.{one_more_piece}
use Rattle.mcv_patch.proofs.pointer.push_path.Goals as goal

next_step : (path : List Step) (n : ℕ) (s d : Step) → n < length path → s ≡ get_or path n d → pointer (path_of (drop n path)) ≡ pointer_step (step_of s) ++ pointer (path_of (drop (n + 1) path))
next_step path n s d low is = rw (add-one, drop-cons path n d, ← is) refl

pub loop-step-preserved : goal.loop-step-preserved
loop-step-preserved c =
    one_more_piece _ _ _ _ _ _ c.loop-step.invariant (next_step c.args.path.now c.loop-step.step-index _ _ c.loop-step-test.true refl) c.in_ok-push_step.ensures
