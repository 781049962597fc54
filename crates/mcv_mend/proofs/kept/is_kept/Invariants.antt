use Rattle.std.proofs.Common.{◌≤◌, drop, length}
use Rattle.mcv_mend.specs.Kept.{IsKeptIn}
use Rattle.mcv_mend.proofs.kept.is_kept.Given as goal

-- where what is left is kept in what is left, all is
abbrev pub invariant-loop-byte : goal.invariant-loop-byte
invariant-loop-byte l = record {
  low : l.kept ≤ length l.input;
  leads : IsKeptIn (drop l.kept l.input) (drop l.byte-index l.text) → IsKeptIn l.input l.text;
}
