use Rattle.std.proofs.Common.{◌≡◌, ◌++◌, [], cond, drop, map}
use Rattle.std.specs.Prelude.{fold, slice_index}
use Rattle.mcv_route.specs.Children.{joined}
use Rattle.mcv_rules.specs.Arrivals.{goes_on_after, known_at, outcome_in}
use Rattle.mcv_rules.specs.PlanInMemory.{legs_each, next_reply, replies_each, searched, sent}
use Rattle.mcv_rules.specs.Plan.{both}
use Rattle.mcv_rules.proofs.legs.+sending.Given as goal

-- the legs found and those of the plans that are left are all legs; so with the worst reply
abbrev pub invariant-send_all-loop-plan : goal.invariant-send_all-loop-plan
invariant-send_all-loop-plan l =
    let each = map (sent (slice_index l.choice) (outcome_in (known_at l.known))) in
    record {
      legs : l.found.items ++ joined (legs_each (each (drop l.plan-index l.others))) ≡ l.initial.found.items ++ joined (legs_each (each l.others));
      reply : fold both l.worst (replies_each (each (drop l.plan-index l.others))) ≡ fold both l.initial.worst (replies_each (each l.others));
    }

abbrev pub invariant-send_beside-loop-plan : goal.invariant-send_beside-loop-plan
invariant-send_beside-loop-plan l =
    let each = map (sent (slice_index l.choice) (outcome_in (known_at l.known))) in
    l.found.items ++ joined (legs_each (each (drop l.plan-index l.others))) ≡ l.initial.found.items ++ joined (legs_each (each l.others))

-- the legs found and, if the search goes on, those of the plans that are left are all legs
abbrev pub invariant-send_in_turn-loop-plan : goal.invariant-send_in_turn-loop-plan
invariant-send_in_turn-loop-plan l =
    let each = map (sent (slice_index l.choice) (outcome_in (known_at l.known))) in
    record {
      legs : l.found.items ++ cond (goes_on_after l.after l.reply) (searched l.after (each (drop l.plan-index l.others))) []
          ≡ l.initial.found.items ++ cond (goes_on_after l.after l.initial.reply) (searched l.after (each l.others)) [];
      reply : fold (next_reply l.after) l.reply (replies_each (each (drop l.plan-index l.others))) ≡ fold (next_reply l.after) l.initial.reply (replies_each (each l.others));
    }
