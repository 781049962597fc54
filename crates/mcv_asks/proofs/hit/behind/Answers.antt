use Rattle.std.proofs.Common.{None, Some, ◌∙◌, ap, sym}
use Rattle.std.proofs.lemmas.Bool.Decides.{Decides-eqb}
use Rattle.std.proofs.lemmas.Slice.Eq.{strip_prefix_is}
use Rattle.mcv_asks.specs.Hits.{behind}
use Rattle.mcv_asks.proofs.PositionTails.{behind_append, behind_none}
use Rattle.mcv_asks.proofs.hit.behind.Goals as goal

pub returns-in-Some : goal.returns-in-Some
returns-in-Some c =
    let is = strip_prefix_is Decides-eqb c.args.position.now c.args.place.now (Some c.in-Some.others) c.in-Some.ensures.cases in
    sym (ap (behind c.args.place.now) is ∙ behind_append c.args.place.now c.in-Some.others.now)

pub returns-in-None : goal.returns-in-None
returns-in-None c = sym (behind_none c.args.place.now c.args.position.now (strip_prefix_is Decides-eqb c.args.position.now c.args.place.now None c.in-None.ensures.cases))
