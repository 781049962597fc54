use Rattle.mcv_classes.proofs.ClassLists.{AreListed}
use Rattle.mcv_classes.proofs.table.ClassTable.classes.Given as goal

-- the classes of the words so far are there
abbrev pub invariant-loop-word : goal.invariant-loop-word
invariant-loop-word l = AreListed l.self l.word-index l.classes.items
