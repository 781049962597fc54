use Rattle.std.proofs.Common.{sym, subst}
use Rattle.std.proofs.lemmas.Result.{IfOk-weaker}
use Rattle.mcv_blocks.specs.SetsInEras.{AreSetsOf}
use Rattle.mcv_blocks.proofs.sliding.sets_of.Goals as goal

pub returns : goal.returns
returns c =
    let r = c.args.routes.now in
    let class = c.args.class.now in
    IfOk-weaker c.new.result _ (AreSetsOf r class c.args.era)
    (λ s same. subst (AreSetsOf r class c.args.era) (sym same) (record { tree = c.in-Some.ensures; member = c.requires.member; opened = c.opened.ensures.some })) c.new.ensures
