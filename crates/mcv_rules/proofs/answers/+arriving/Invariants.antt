use Rattle.std.proofs.Common.{◌≡◌, drop, map, max}
use Rattle.std.specs.Prelude.{fold}
use Rattle.mcv_rules.specs.Arrivals.{known_at, later, next_arrived}
use Rattle.mcv_rules.specs.PlanInMemory.{arrived}
use Rattle.mcv_rules.proofs.answers.+arriving.Given as goal

-- what is left, taken up from what was found, gives what all give
abbrev pub invariant-arrive_all-loop-plan : goal.invariant-arrive_all-loop-plan
invariant-arrive_all-loop-plan l =
    let each = map (arrived (known_at l.known)) in
    record {
      answer : fold later l.prevails (each (drop l.plan-index l.others)) ≡ fold later l.initial.prevails (each l.others);
      came : fold max l.came (map (λ b. b.came) (each (drop l.plan-index l.others))) ≡ fold max l.initial.prevails.came (map (λ b. b.came) (each l.others));
      since : l.initial.came ≡ l.initial.prevails.came;
    }

abbrev pub invariant-arrive_in_turn-loop-plan : goal.invariant-arrive_in_turn-loop-plan
invariant-arrive_in_turn-loop-plan l =
    let each = map (arrived (known_at l.known)) in
    fold (next_arrived l.after) l.answer (each (drop l.plan-index l.others)) ≡ fold (next_arrived l.after) l.initial.answer (each l.others)
