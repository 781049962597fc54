use Rattle.std.proofs.Common.{option_map, sym, ap, ◌∙◌}
use Rattle.mcv_base.specs.declared.operation.Op.TheVariants.{Delete}
use Rattle.mcv_route.specs.Situation.{asked}
use Rattle.mcv_route.specs.View.{view}
use Rattle.mcv_witness.specs.Breaks.{chosen}
use Rattle.mcv_witness.specs.Confirm.{are_rising, missed_seen}
use Rattle.mcv_witness.specs.Finding.{finding_of, outcomes_of}
use Rattle.mcv_witness.specs.Walk.{pass}
use Rattle.mcv_witness.proofs.BreakDecision.{misses, unsorted_deletes}
use Rattle.mcv_witness.proofs.replay.is_missed.Goals as goal

pub returns-then-not-are_rising : goal.returns-then-not-are_rising
returns-then-not-are_rising c =
    let scene = c.args.scene.now in
    unsorted_deletes (finding_of c.args.finding.now) (view scene.route.now) scene.rest (option_map (λ m. m.0) scene.since)
    (sym (c.are_rising.ensures ∙ ap (λ x. are_rising (outcomes_of x)) c.as_slice.ensures.value) ∙ c.if-not-are_rising.true)

pub returns : goal.returns
returns c =
    let scene = c.args.scene.now in
    let finding = c.args.finding.now in
    let f = finding_of finding in
    let t = view scene.route.now in
    let since = option_map (λ m. m.0) scene.since in
    misses f t scene.rest since c.is_past.result (sym (c.are_rising.ensures ∙ ap (λ x. are_rising (outcomes_of x)) c.as_slice.ensures.value) ∙ c.if-not-are_rising.false)
    (c.is_past.ensures ∙ ap missed_seen (c.seen.ensures ∙ ap (λ x. pass f.place.leaf f.server (chosen f) t (asked Delete scene.rest since) (record { legs = outcomes_of x; depth = 0 })) c.as_slice-2.ensures.value))
