use Rattle.std.proofs.Common.{◌≡◌, ◌+◌, ◌≤◌, drop, length}
use Rattle.mcv_lines.specs.Lost.{texts_length}
use Rattle.mcv_lines.proofs.sent.count_unwritten.Given as goal

-- the legs from this place on are unwritten, and so many bytes before them
abbrev pub invariant-loop-place : goal.invariant-loop-place
invariant-loop-place l = record {
  few : l.place ≤ length l.sent.items;
  so_far : texts_length (drop l.place l.sent.items) + l.left ≡ l.bytes;
}
