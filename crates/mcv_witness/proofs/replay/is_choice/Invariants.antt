use Rattle.std.proofs.Common.{◌≡◌, drop}
use Rattle.mcv_witness.specs.Confirm.{has_indexes}
use Rattle.mcv_witness.proofs.replay.is_choice.Given as goal

-- the symbols that are left decide the whole
abbrev pub invariant-loop-number : goal.invariant-loop-number
invariant-loop-number l = has_indexes l.choice l.number (drop l.number l.symbols) ≡ has_indexes l.choice 0 l.symbols
