use Rattle.std.proofs.Common.{◌≡◌, ◌++◌, drop}
use Rattle.mcv_witness.specs.Text.{index_lines}
use Rattle.mcv_witness.proofs.text.push_indexes.Given as goal

-- what is written, and the lines that are left, are the whole
abbrev pub invariant-loop-number : goal.invariant-loop-number
invariant-loop-number l = l.text.items ++ index_lines l.choice l.number (drop l.number l.symbols) ≡ l.fn.text.items ++ index_lines l.choice 0 l.symbols
