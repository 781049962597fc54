use Rattle.std.proofs.Common.{◌≡◌, List, Some, slice_get, subst, sym}
use Rattle.std.specs.Arc.{arc_value}
use Rattle.std.specs.declared.alloc.Global.{Global}
use Rattle.std.specs.declared.sync.Arc.{Arc}
use Rattle.mcv_base.specs.declared.request.Request.{Request}
use Rattle.mcv_text.specs.Request.{request_value}
use Rattle.mcv_desks.specs.Mixed.{IsKeyAlone, MixedRequest, MixedView}
use Rattle.mcv_desks.proofs.MixedReplies.{item_there, its_key, memory_ran_out}
use Rattle.mcv_desks.proofs.mixed.Mixed.next_key.Goals as goal

pub invariant_of-self-in-Err : goal.invariant_of-self-in-Err
invariant_of-self-in-Err g c =
    let m = c.self.inside in
    let q : MixedRequest = record { serial = m.serial; number = m.number; hubs = m.hubs; asked = arc_value m.request } in
    memory_ran_out g.F.HubNames.opened_of q m.of_keys.items m.replies.items m.parts m.answered m.fault c.self.invariant

pub returns-in-Ok-clause-key : goal.returns-in-Ok-clause-key
returns-in-Ok-clause-key g c =
    let m = c.self.inside in
    let q : MixedRequest = record { serial = m.serial; number = m.number; hubs = m.hubs; asked = arc_value m.request } in
    let alone = c.in-Some.alone.now in
    let there = subst (λ (rs : List (Arc Request Global)). slice_get rs m.asked ≡ Some alone) c.as_slice.ensures.value (item_there c.as_slice.result.now m.asked c.in-Some.alone c.in-Some.ensures.lookup) in
    let its : IsKeyAlone q m.asked (request_value (arc_value alone)) = its_key g.F.HubNames.opened_of q m.of_keys.items m.replies.items m.parts m.answered m.fault c.self.invariant m.asked alone there in
    let is : IsKeyAlone q m.asked (request_value (arc_value c.in-Ok.request)) = subst (λ (r : Request). IsKeyAlone q m.asked (request_value r)) (sym c.in-Ok.ensures) its in
    subst (λ (v : MixedView). IsKeyAlone v.request m.asked (request_value (arc_value c.in-Ok.request))) c.self.view_is is
