use Rattle.std.proofs.Common.{option_map, sym, ap, ◌∙◌}
use Rattle.mcv_route.specs.Situation.{asked}
use Rattle.mcv_route.specs.View.{view}
use Rattle.mcv_witness.specs.Breaks.{chosen}
use Rattle.mcv_witness.specs.Confirm.{are_rising, hit_seen}
use Rattle.mcv_witness.specs.Finding.{finding_of, outcomes_of}
use Rattle.mcv_witness.specs.Walk.{pass}
use Rattle.mcv_witness.proofs.BreakDecision.{no_get, reads, unsorted_gets}
use Rattle.mcv_witness.proofs.replay.is_read.Goals as goal

pub returns-then-not-shows_value : goal.returns-then-not-shows_value
returns-then-not-shows_value c =
    let scene = c.args.scene.now in
    no_get (finding_of c.args.finding.now) (view scene.route.now) scene.rest (option_map (λ m. m.0) scene.read) (sym c.shows_value.ensures ∙ c.if-not-shows_value.true)

pub returns-then-not-are_rising : goal.returns-then-not-are_rising
returns-then-not-are_rising c =
    let scene = c.args.scene.now in
    unsorted_gets (finding_of c.args.finding.now) (view scene.route.now) scene.rest (option_map (λ m. m.0) scene.read)
    (sym (c.are_rising.ensures ∙ ap (λ x. are_rising (outcomes_of x)) c.as_slice.ensures.value) ∙ c.if-not-are_rising.true)

pub returns : goal.returns
returns c =
    let scene = c.args.scene.now in
    let finding = c.args.finding.now in
    let f = finding_of finding in
    let t = view scene.route.now in
    let read = option_map (λ m. m.0) scene.read in
    reads f t scene.rest read c.is_hit.result (sym c.shows_value.ensures ∙ c.if-not-shows_value.false)
    (sym (c.are_rising.ensures ∙ ap (λ x. are_rising (outcomes_of x)) c.as_slice.ensures.value) ∙ c.if-not-are_rising.false)
    (c.is_hit.ensures ∙ ap hit_seen (c.seen.ensures ∙ ap (λ x. pass f.place.leaf f.server (chosen f) t (asked f.op scene.rest read) (record { legs = outcomes_of x; depth = 0 })) c.as_slice-2.ensures.value))
