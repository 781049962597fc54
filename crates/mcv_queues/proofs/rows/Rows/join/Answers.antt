use Rattle.std.proofs.Common.{rules, ◌≡◌, ◌<◌, Some}
use Rattle.mcv_queues.specs.Rows.{links}
use Rattle.mcv_queues.proofs.MeldsAreForests
use Rattle.mcv_queues.proofs.rows.Rows.join.Goals as goal

pub returns-then-first-second-clause-joined : goal.returns-then-first-second-clause-joined
returns-then-first-second-clause-joined g c = λ w k i a b d.
    let one : c.args.first ≡ Some c.in-Some-Some.first = search rules in
    let two : c.args.second ≡ Some c.in-Some-Some.second = search rules in
    let lt : c.in-Some-Some.first < c.in-Some-Some.second = search rules in
    MeldsAreForests.join_first w (links c.args.self.now) (links c.meld.new.self) c.args.first c.args.second k _ _ one two (λ j e. c.meld.ensures.joined w k lt j e) i b

pub returns-else-first-second-clause-joined : goal.returns-else-first-second-clause-joined
returns-else-first-second-clause-joined g c = λ w k i a b d.
    let one : c.args.first ≡ Some c.in-Some-Some.first = search rules in
    let two : c.args.second ≡ Some c.in-Some-Some.second = search rules in
    let ge : c.in-Some-Some.first < c.in-Some-Some.second → ⊥ = search rules in
    MeldsAreForests.join_second w (links c.args.self.now) (links c.meld-else-first-second.new.self) c.args.first c.args.second k _ _ one two (λ lt j e. c.meld-else-first-second.ensures.joined w k lt j e) ge a i d
