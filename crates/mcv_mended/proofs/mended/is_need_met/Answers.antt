use Rattle.std.proofs.Common.{◌≡◌, List, subst, sym}
use Rattle.std.proofs.lemmas.Result.{IfOk-weaker}
use Rattle.mcv_alike.specs.Numbers.{legs_value}
use Rattle.mcv_alike.specs.declared.needed.NeededLeg.{NeededLeg}
use Rattle.mcv_route.specs.View.{view}
use Rattle.mcv_mended.specs.Members.{IsMemberMended}
use Rattle.mcv_mended.proofs.NeedMet.{need_met}
use Rattle.mcv_mended.proofs.mended.is_need_met.Goals as goal

pub returns : goal.returns
returns c =
    let r = c.args.old.now in
    let n = c.args.new.now in
    let t = view c.in-Some-route.before.now in
    let u = view c.in-Some-route-2.after.now in
    let member = c.in-Some.member in
    IfOk-weaker c.is_member_mended.result _ _
    (λ met fine. λ on. need_met r n c.args.need.now t u member c.requires.class c.requires.classes c.in-Some-route.ensures c.in-Some-route-2.ensures c.in-Some.ensures c.as_bytes.ensures.rest
    (subst (λ (xs : List NeededLeg). IsMemberMended r n t u member (legs_value xs)) c.as_slice.ensures.value (fine n c.requires.numbering on)))
    c.is_member_mended.ensures
