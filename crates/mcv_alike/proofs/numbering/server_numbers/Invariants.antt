use Rattle.std.proofs.Common.{◌≡◌, length}
use Rattle.mcv_alike.specs.Numbers.{AreServerNumbers}
use Rattle.mcv_alike.proofs.numbering.server_numbers.Given as goal

-- the table so far, an entry for each number so far
abbrev pub invariant-loop-number : goal.invariant-loop-number
invariant-loop-number l = record {
  are : AreServerNumbers l.old l.new l.table.items;
  many : length l.table.items ≡ l.number;
}
