use Rattle.std.proofs.Common.{◌≡◌, length}
use Rattle.mcv_alike.specs.Numbers.{AreSymbolNumbers}
use Rattle.mcv_alike.proofs.numbering.symbol_numbers.Given as goal

-- the table so far, an entry for each number so far
abbrev pub invariant-loop-number : goal.invariant-loop-number
invariant-loop-number l = record {
  are : AreSymbolNumbers l.old l.new l.table.items;
  many : length l.table.items ≡ l.number;
}
