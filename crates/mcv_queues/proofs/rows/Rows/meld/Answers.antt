use Rattle.std.proofs.Common.{rules, ◌≡◌, ◌∙◌, ap, sym, Some, None}
use Rattle.mcv_queues.specs.Rows.{links}
use Rattle.mcv_queues.specs.Heap.{stepped}
use Rattle.mcv_queues.proofs.MeldsAreForests
use Rattle.mcv_queues.proofs.rows.Rows.meld.Goals as goal

pub loop-step-preserved : goal.loop-step-preserved
loop-step-preserved g c = record {
  melds = λ w k lt i b. MeldsAreForests.melded_more w (links c.args.self.now) (links c.loop-step.self) (links c.step.new.self) c.args.root c.loop-step.upper c.loop-step.lower k c.in-Some.step (c.loop-step.invariant.melds w k lt i b) (sym c.step.ensures.step ∙ c.in-Some.is) (c.step.ensures.links ∙ ap (λ s. stepped (links c.loop-step.self) c.loop-step.upper c.loop-step.lower s) c.in-Some.is);
  same_legs = c.step.ensures.legs ∙ c.loop-step.invariant.same_legs;
  same_room = c.step.ensures.room ∙ c.loop-step.invariant.same_room;
}

pub returns-clause-joined : goal.returns-clause-joined
returns-clause-joined g c = λ w k lt i b.
    let none : c.step.result ≡ None = search rules in
    MeldsAreForests.melded_last w (links c.args.self.now) (links c.loop-step.self) (links c.step.new.self) c.args.root c.loop-step.upper c.loop-step.lower (Some c.args.other) k (c.loop-step.invariant.melds w k lt i b) (sym c.step.ensures.step ∙ none) (c.step.ensures.links ∙ ap (λ s. stepped (links c.loop-step.self) c.loop-step.upper c.loop-step.lower s) none)
