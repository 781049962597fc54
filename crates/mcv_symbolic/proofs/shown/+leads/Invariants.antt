use Rattle.std.proofs.Common.{◌+◌, ◌*◌, map, suc, take}
use Rattle.mcv_rules.specs.NormalForm.{all_of, turns_of, whole_of}
use Rattle.mcv_symbolic.specs.ShownAnswers.{first_hit, history_of, leaf_hit}
use Rattle.mcv_symbolic.specs.HitSearch.{IsLead}
use Rattle.mcv_symbolic.proofs.TriedHits.{IsAddedIn}
use Rattle.mcv_symbolic.proofs.shown.+leads.Given as goal

-- the leg's hit, or any, of the children so far
abbrev pub invariant-push_all_leads-loop-child : goal.invariant-push_all_leads-loop-child
invariant-push_all_leads-loop-child l =
    let so_far = all_of (map whole_of (take (suc l.child-index) l.fn.children)) in
    IsLead (leaf_hit l.leaf so_far) (first_hit so_far) l.lead (history_of l.fn.legs.items) (history_of l.legs.items)

-- the leg's hit of the children so far, or the answers by which they pass the search on
abbrev pub invariant-push_leaf_hit_in_turn-loop-child : goal.invariant-push_leaf_hit_in_turn-loop-child
invariant-push_leaf_hit_in_turn-loop-child l = IsAddedIn (leaf_hit l.leaf) l.after (turns_of l.after (map whole_of (take (suc l.child-index) l.fn.children))) l.added (history_of l.fn.legs.items) (history_of l.legs.items)

abbrev pub decreases-push_lead : goal.decreases-push_lead
decreases-push_lead l = 3 * goal.size-push_lead l

abbrev pub decreases-push_lead_of_first : goal.decreases-push_lead_of_first
decreases-push_lead_of_first l = 3 * goal.size-push_lead_of_first l + 1

abbrev pub decreases-push_all_leads : goal.decreases-push_all_leads
decreases-push_all_leads l = 3 * goal.size-push_all_leads l + 2

abbrev pub decreases-push_next_lead : goal.decreases-push_next_lead
decreases-push_next_lead l = 3 * goal.size-push_next_lead l + 1

abbrev pub decreases-push_leaf_hit : goal.decreases-push_leaf_hit
decreases-push_leaf_hit l = 3 * goal.size-push_leaf_hit l

abbrev pub decreases-push_leaf_hit_of_first : goal.decreases-push_leaf_hit_of_first
decreases-push_leaf_hit_of_first l = 3 * goal.size-push_leaf_hit_of_first l + 1

abbrev pub decreases-push_leaf_hit_in_turn : goal.decreases-push_leaf_hit_in_turn
decreases-push_leaf_hit_in_turn l = 3 * goal.size-push_leaf_hit_in_turn l + 1
