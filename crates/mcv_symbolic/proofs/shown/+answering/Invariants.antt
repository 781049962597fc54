use Rattle.std.proofs.Common.{◌≡◌, ◌++◌, ◌+◌, ◌*◌, map, suc, take}
use Rattle.mcv_rules.specs.NormalForm.{all_of, turns_of, whole_of}
use Rattle.mcv_symbolic.specs.ShownAnswers.{answers, history_of}
use Rattle.mcv_symbolic.specs.Structure.{if_all}
use Rattle.mcv_symbolic.proofs.shown.+answering.Given as goal

-- the answers and the reply of the children so far
abbrev pub invariant-push_answers_of_all-loop-child : goal.invariant-push_answers_of_all-loop-child
invariant-push_answers_of_all-loop-child l =
    let so_far = all_of (map whole_of (take (suc l.child-index) l.fn.children)) in
    record {
      legs : history_of l.legs.items ≡ history_of l.fn.legs.items ++ answers l.answer so_far;
      reply : l.reply ≡ if_all l.answer so_far;
    }

abbrev pub invariant-push_answers_in_turn-loop-child : goal.invariant-push_answers_in_turn-loop-child
invariant-push_answers_in_turn-loop-child l =
    let so_far = turns_of l.after (map whole_of (take (suc l.child-index) l.fn.children)) in
    record {
      legs : history_of l.legs.items ≡ history_of l.fn.legs.items ++ answers l.answer so_far;
      reply : l.reply ≡ if_all l.answer so_far;
    }

abbrev pub decreases-push_answers : goal.decreases-push_answers
decreases-push_answers l = 2 * goal.size-push_answers l

abbrev pub decreases-push_answers_of_all : goal.decreases-push_answers_of_all
decreases-push_answers_of_all l = 2 * goal.size-push_answers_of_all l + 1

abbrev pub decreases-push_answers_of_first : goal.decreases-push_answers_of_first
decreases-push_answers_of_first l = 2 * goal.size-push_answers_of_first l + 1

abbrev pub decreases-push_answers_in_turn : goal.decreases-push_answers_in_turn
decreases-push_answers_in_turn l = 2 * goal.size-push_answers_in_turn l + 1
