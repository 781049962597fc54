use Rattle.std.proofs.Common.{◌∙◌, option_map, ap, sym}
use Rattle.std.specs.declared.alloc.Global.{Global}
use Rattle.std.specs.declared.vec.Vec.{Vec}
use Rattle.mcv_base.specs.declared.request.Moment.{Moment}
use Rattle.mcv_route.specs.View.{view}
use Rattle.mcv_witness.specs.Finding.{outcomes_of}
use Rattle.mcv_witness.specs.declared.finding.LegOutcome.{LegOutcome}
use Rattle.mcv_make.proofs.GetOutcomes.{decr_first, get_first, gets_first, incr_first, one-reads}
use Rattle.mcv_make.proofs.scene.Scene.reading.Goals as goal

pub unreachable-requires : goal.unreachable-requires
unreachable-requires c =
    let s = c.args.self.now in
    let outcomes = option_map (λ (v : Vec LegOutcome Global). outcomes_of v.items) in
    one-reads (view s.route.now) s.rest.now (option_map (λ (m : Moment). m.0) s.read) c.args.leaf.now (sym c.in_ok-legs.ensures ∙ ap outcomes c.in_default.is) (sym c.in_ok-legs-2.ensures ∙ ap outcomes c.in_default-2.is)
    (sym c.in_ok-legs-3.ensures ∙ ap outcomes c.in_default-3.is) (sym c.in_ok-legs-4.ensures ∙ ap outcomes c.in_default-4.is) c.requires

pub returns-in-Some-clause-first : goal.returns-in-Some-clause-first
returns-in-Some-clause-first c =
    let s = c.args.self.now in
    get_first (view s.route.now) s.rest.now (option_map (λ (m : Moment). m.0) s.read) c.args.leaf.now

pub returns-in-Some-2-clause-first : goal.returns-in-Some-2-clause-first
returns-in-Some-2-clause-first c =
    let s = c.args.self.now in
    let outcomes = option_map (λ (v : Vec LegOutcome Global). outcomes_of v.items) in
    gets_first (view s.route.now) s.rest.now (option_map (λ (m : Moment). m.0) s.read) c.args.leaf.now (sym c.in_ok-legs.ensures ∙ ap outcomes c.in_default.is)

pub returns-in-Some-3-clause-first : goal.returns-in-Some-3-clause-first
returns-in-Some-3-clause-first c =
    let s = c.args.self.now in
    let outcomes = option_map (λ (v : Vec LegOutcome Global). outcomes_of v.items) in
    incr_first (view s.route.now) s.rest.now (option_map (λ (m : Moment). m.0) s.read) c.args.leaf.now (sym c.in_ok-legs.ensures ∙ ap outcomes c.in_default.is) (sym c.in_ok-legs-2.ensures ∙ ap outcomes c.in_default-2.is)

pub returns-clause-first : goal.returns-clause-first
returns-clause-first c =
    let s = c.args.self.now in
    let outcomes = option_map (λ (v : Vec LegOutcome Global). outcomes_of v.items) in
    decr_first (view s.route.now) s.rest.now (option_map (λ (m : Moment). m.0) s.read) c.args.leaf.now (sym c.in_ok-legs.ensures ∙ ap outcomes c.in_default.is) (sym c.in_ok-legs-2.ensures ∙ ap outcomes c.in_default-2.is)
    (sym c.in_ok-legs-3.ensures ∙ ap outcomes c.in_default-3.is)
