use Rattle.std.proofs.Common.{◌≡◌, ap, ◌∙◌}
use Rattle.std.proofs.lemmas.Result.{IfOk-weaker}
use Rattle.mcv_judge.specs.PairsInMemory.{legs_of}
use Rattle.mcv_blocks.specs.Blocks.{AreLeavesAt, IsAcknowledgedAt}
use Rattle.mcv_blocks.specs.MergedLegs.{leaves_of}
use Rattle.mcv_blocks.proofs.Parts.{acknowledged_legs}
use Rattle.mcv_blocks.proofs.sets.Sets.acknowledged.Goals as goal

pub returns : goal.returns
returns c =
    let own = c.self.inside in
    let value = c.args.self.now in
    IfOk-weaker c.all_borrowed.result (λ all. legs_of all.items ≡ leaves_of c.as_slice.result.now) (λ all. AreLeavesAt value.tree (IsAcknowledgedAt value.tree value.rest value.since) (legs_of all.items))
    (λ all is. acknowledged_legs value own.delete own.get own.gets own.incr own.decr c.self.invariant c.self.view_is c.in_ok-legs.legs.items c.in_ok-legs.ensures (legs_of all.items) (is ∙ ap leaves_of c.as_slice.ensures.value)) c.all_borrowed.ensures
