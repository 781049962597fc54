use Rattle.std.proofs.Common.{◌≡◌, ◌==◌, List, ℕ, length, map, take}
use Rattle.std.specs.Prelude.{decimal}
use Rattle.std.specs.List.{slice_split}
use Rattle.mcv_cert.specs.Fits.{FitsPosition}
use Rattle.mcv_cert.proofs.parse.read_steps.Given as goal

abbrev pub invariant-loop-part : goal.invariant-loop-part
invariant-loop-part l = record {
  can : (goal.iterator-loop-part).can_next l.part-iterator;
  finite : (goal.iterator-loop-part).is_finite l.part-iterator;
  meant : (ns : List ℕ) → FitsPosition ns → slice_split (λ b. b == 46) l.word ≡ map decimal ns → l.steps.items ≡ take (length l.yielded) ns;
}
