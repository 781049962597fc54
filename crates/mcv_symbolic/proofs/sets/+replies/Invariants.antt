use Rattle.std.proofs.Common.{◌≡◌, ◌+◌, ◌*◌, map, suc, take}
use Rattle.mcv_rules.specs.NormalForm.{all_of, turns_of, whole_of}
use Rattle.mcv_symbolic.specs.Structure.{if_all}
use Rattle.mcv_symbolic.proofs.sets.+replies.Given as goal

-- the reply of the children so far
abbrev pub invariant-worst_if_all-loop-child : goal.invariant-worst_if_all-loop-child
invariant-worst_if_all-loop-child l = l.reply ≡ if_all l.answer (all_of (map whole_of (take (suc l.child-index) l.fn.children)))

abbrev pub invariant-last_if_all-loop-child : goal.invariant-last_if_all-loop-child
invariant-last_if_all-loop-child l = l.reply ≡ if_all l.answer (turns_of l.after (map whole_of (take (suc l.child-index) l.fn.children)))

abbrev pub decreases-reply_if_all : goal.decreases-reply_if_all
decreases-reply_if_all l = 2 * goal.size-reply_if_all l

abbrev pub decreases-worst_if_all : goal.decreases-worst_if_all
decreases-worst_if_all l = 2 * goal.size-worst_if_all l + 1

abbrev pub decreases-first_if_all : goal.decreases-first_if_all
decreases-first_if_all l = 2 * goal.size-first_if_all l + 1

abbrev pub decreases-last_if_all : goal.decreases-last_if_all
decreases-last_if_all l = 2 * goal.size-last_if_all l + 1
