use Rattle.std.proofs.Common.{◌+◌, ◌*◌, map, suc, take}
use Rattle.mcv_rules.specs.NormalForm.{all_of, turns_of, whole_of}
use Rattle.mcv_symbolic.specs.ShownAnswers.{first_hit, history_of}
use Rattle.mcv_symbolic.specs.HitSearch.{IsTried}
use Rattle.mcv_symbolic.proofs.TriedHits.{IsAddedIn}
use Rattle.mcv_symbolic.proofs.shown.+hits.Given as goal

-- the hit of the children so far
abbrev pub invariant-push_all_hits-loop-child : goal.invariant-push_all_hits-loop-child
invariant-push_all_hits-loop-child l = IsTried (first_hit (all_of (map whole_of (take (suc l.child-index) l.fn.children)))) l.found (history_of l.fn.legs.items) (history_of l.legs.items)

-- the hit of the children so far, or the answers by which they pass the search on
abbrev pub invariant-push_hit_in_turn-loop-child : goal.invariant-push_hit_in_turn-loop-child
invariant-push_hit_in_turn-loop-child l = IsAddedIn first_hit l.after (turns_of l.after (map whole_of (take (suc l.child-index) l.fn.children))) l.added (history_of l.fn.legs.items) (history_of l.legs.items)

abbrev pub decreases-push_first_hit : goal.decreases-push_first_hit
decreases-push_first_hit l = 2 * goal.size-push_first_hit l

abbrev pub decreases-push_all_hits : goal.decreases-push_all_hits
decreases-push_all_hits l = 2 * goal.size-push_all_hits l + 1

abbrev pub decreases-push_hit_of_first : goal.decreases-push_hit_of_first
decreases-push_hit_of_first l = 2 * goal.size-push_hit_of_first l + 1

abbrev pub decreases-push_hit_or_answers : goal.decreases-push_hit_or_answers
decreases-push_hit_or_answers l = 2 * goal.size-push_hit_or_answers l

abbrev pub decreases-push_hit_or_answers_of_first : goal.decreases-push_hit_or_answers_of_first
decreases-push_hit_or_answers_of_first l = 2 * goal.size-push_hit_or_answers_of_first l + 1

abbrev pub decreases-push_hit_in_turn : goal.decreases-push_hit_in_turn
decreases-push_hit_in_turn l = 2 * goal.size-push_hit_in_turn l + 1
