use Rattle.std.proofs.Common.{◌≡◌, ◌↔◌, List, Some, map, sym, ap, subst, ◌∙◌}
use Rattle.std.specs.Prelude.{IsTrue, slice_get}
use Rattle.mcv_base.specs.declared.request.ServerId.{ServerId}
use Rattle.mcv_route.specs.View.{pool_view}
use Rattle.mcv_witness.specs.Finding.{finding_of}
use Rattle.mcv_witness.proofs.BreakDecision.{at_leaf, no_pool, other_index}
use Rattle.mcv_witness.proofs.replay.has_leaf.Goals as goal

pub returns-in_default : goal.returns-in_default
returns-in_default c = λ t is. no_pool c.args.routes.now (finding_of c.args.finding.now) t is c.in_default.ensures

pub returns-then-index-finding : goal.returns-then-index-finding
returns-then-index-finding c = λ t is.
    other_index c.args.routes.now (finding_of c.args.finding.now) t is (pool_view c.in-Some.leaf.now) c.in-Some.ensures (λ e. c.if-index-finding.true (c.index.ensures ∙ e))

pub returns : goal.returns
returns c = λ t is.
    let f = finding_of c.args.finding.now in
    let decides = subst (λ (xs : List ServerId). IsTrue c.holds_at.result ↔ (slice_get (map (λ s. s.0) xs) f.at ≡ Some f.server)) (c.deref-2.ensures.value ∙ ap (λ v. v.items) c.deref.ensures) c.holds_at.ensures in
    at_leaf c.args.routes.now f t is (pool_view c.in-Some.leaf.now) c.holds_at.result c.in-Some.ensures (sym c.index.ensures ∙ c.if-index-finding.false) decides
