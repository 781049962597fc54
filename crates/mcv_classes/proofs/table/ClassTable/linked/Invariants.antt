use Rattle.mcv_classes.specs.Table.{bytes_of}
use Rattle.mcv_classes.proofs.TableOfWords.{IsMade}
use Rattle.mcv_classes.proofs.table.ClassTable.linked.Given as goal

-- the words so far are in the table, and those that are left come after them
abbrev pub invariant-loop-word : goal.invariant-loop-word
invariant-loop-word l = IsMade (bytes_of l.yielded) l.table (bytes_of l.word-iterator.rest.items)
