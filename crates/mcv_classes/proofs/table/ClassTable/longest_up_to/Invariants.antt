use Rattle.std.proofs.Common.{◌<◌, length}
use Rattle.mcv_classes.proofs.Links.{AreBelow}
use Rattle.mcv_classes.proofs.table.ClassTable.longest_up_to.Given as goal

-- the place is one of the table's, and each word with which the bytes begin is one with which the word there begins
abbrev pub invariant-loop-self : goal.invariant-loop-self
invariant-loop-self l = record {
  inside : l.place < length l.self;
  below : AreBelow l.self l.bytes l.place;
}

abbrev pub decreases-loop-self : goal.decreases-loop-self
decreases-loop-self l = l.place
