use Rattle.std.proofs.Common.{arith, sym, ◌∙◌}
use Rattle.mcv_base.specs.Key.{begins_with}
use Rattle.mcv_classes.proofs.Links.{walks-down}
use Rattle.mcv_classes.proofs.table.ClassTable.longest_up_to.Goals as goal

pub loop-self-preserved : goal.loop-self-preserved
loop-self-preserved c =
    let next = walks-down c.args.self.now c.self.inside.words.items c.args.bytes.now c.as_slice.result.now c.loop-self.place c.index.result.now c.index-in-loop-self.result.now
    c.self.view_is c.self.invariant c.loop-self.invariant.inside c.index.ensures c.as_slice.ensures.value (sym c.begins_with.ensures ∙ c.loop-self-test.true) c.index-in-loop-self.ensures c.loop-self.invariant.below in
    record { inside = omega (arith, next.down, c.loop-self.invariant.inside); below = next.below }
