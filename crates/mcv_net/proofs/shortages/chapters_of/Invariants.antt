use Rattle.std.proofs.Common.{◌≡◌, length}
use Rattle.mcv_net.proofs.shortages.chapters_of.Given as goal

-- the chapters of each hub so far
abbrev pub invariant-loop-hub : goal.invariant-loop-hub
invariant-loop-hub l = length l.chapters.items ≡ l._hub
