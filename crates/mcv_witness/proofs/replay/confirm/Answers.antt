use Rattle.std.proofs.Common.{◌≡◌, false, option_map, sym, ap, ◌∙◌}
use Rattle.std.proofs.lemmas.Bool.{false≢true}
use Rattle.mcv_route.specs.View.{view}
use Rattle.mcv_witness.specs.Confirm.{has_indexes}
use Rattle.mcv_witness.specs.Finding.{finding_of}
use Rattle.mcv_witness.proofs.BreakDecision.{all_but_missed, choice_indexes, indexes_choice, no_choice, no_leaf, not_read, nowhere}
use Rattle.mcv_witness.proofs.replay.confirm.Goals as goal

pub returns-in_default : goal.returns-in_default
returns-in_default c = nowhere c.args.routes.now (finding_of c.args.finding.now) c.in_default.ensures

pub returns-then-not-is_choice : goal.returns-then-not-is_choice
returns-then-not-is_choice c =
    let routes = c.args.routes.now in
    let f = finding_of c.args.finding.now in
    let scene = c.in-Some.scene in
    let tests : has_indexes f.choice 0 routes.symbols ≡ false = sym (c.is_choice.ensures ∙ ap (λ x. has_indexes f.choice 0 x) (c.as_slice.ensures.value ∙ c.symbols.ensures.value)) ∙ c.if-not-is_choice.true in
    no_choice routes f (view scene.route.now) scene.rest (option_map (λ m. m.0) scene.since) (option_map (λ m. m.0) scene.read) c.in-Some.ensures (λ h. false≢true (sym tests ∙ choice_indexes f.choice routes.symbols h))

pub returns-then-not-has_leaf : goal.returns-then-not-has_leaf
returns-then-not-has_leaf c =
    let scene = c.in-Some.scene in
    let placed = c.in-Some.ensures in
    no_leaf c.args.routes.now (finding_of c.args.finding.now) (view scene.route.now) scene.rest (option_map (λ m. m.0) scene.since) (option_map (λ m. m.0) scene.read) placed c.has_leaf.result c.if-not-has_leaf.true (c.has_leaf.ensures (view scene.route.now) placed.route)

pub returns-then-not-is_read : goal.returns-then-not-is_read
returns-then-not-is_read c =
    let scene = c.in-Some.scene in
    not_read c.args.routes.now (finding_of c.args.finding.now) (view scene.route.now) scene.rest (option_map (λ m. m.0) scene.since) (option_map (λ m. m.0) scene.read) c.in-Some.ensures c.is_read.result c.if-not-is_read.true c.is_read.ensures

pub returns : goal.returns
returns c =
    let routes = c.args.routes.now in
    let f = finding_of c.args.finding.now in
    let scene = c.in-Some.scene in
    let placed = c.in-Some.ensures in
    let tests = sym (c.is_choice.ensures ∙ ap (λ x. has_indexes f.choice 0 x) (c.as_slice.ensures.value ∙ c.symbols.ensures.value)) ∙ c.if-not-is_choice.false in
    all_but_missed routes f (view scene.route.now) scene.rest (option_map (λ m. m.0) scene.since) (option_map (λ m. m.0) scene.read) placed (indexes_choice f.choice routes.symbols tests)
    ((c.has_leaf.ensures (view scene.route.now) placed.route).0 c.if-not-has_leaf.false) (c.is_read.ensures.0 c.if-not-is_read.false) c.is_missed.result c.is_missed.ensures
