use Rattle.std.proofs.Common.{◌≡◌, ◌++◌, drop, string_bytes}
use Rattle.mcv_patch.specs.Operations.{path_of}
use Rattle.mcv_patch.specs.Pointer.{pointer}
use Rattle.mcv_patch.proofs.pointer.push_path.Given as goal

abbrev pub invariant-loop-step : goal.invariant-loop-step
invariant-loop-step l = string_bytes l.text ++ pointer (path_of (drop l.step-index l.path)) ≡ string_bytes l.fn.text ++ pointer (path_of l.fn.path)
