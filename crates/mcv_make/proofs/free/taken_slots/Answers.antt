use Rattle.std.proofs.Common.{◌≡◌, ◌∙◌, ◌||◌, ◌++◌, ◌∷◌, [], List, Some, map, take, ap, sym}
use Rattle.std.specs.Borrow.{Bor}
use Rattle.std.specs.BTreeSet.{contains}
use Rattle.std.specs.declared.alloc.Global.{Global}
use Rattle.std.specs.declared.vec.Vec.{Vec}
use Rattle.mcv_base.specs.declared.request.ServerId.{ServerId}
use Rattle.mcv_judge.specs.PairsInMemory.{numbers}
use Rattle.mcv_judge.specs.Reason.{has_server}
use Rattle.std.proofs.lemmas.List.{map_more}
use Rattle.mcv_rules.specs.declared.plan.PlannedLeg.{PlannedLeg}
use Rattle.mcv_make.specs.FreeIndexes.{is_taken, slot_cmp, takes}
use Rattle.mcv_make.proofs.TakenIndexes.{one_more}
use Rattle.mcv_make.proofs.free.taken_slots.Goals as goal

pub loop-leg-preserved : goal.loop-leg-preserved
loop-leg-preserved c = λ q.
    let legs = c.args.legs.now in
    let i = c.loop-leg.leg-index in
    let x = c.args.server.0 in
    let p = takes x q.0 q.1 in
    let before = map (λ (l : Bor PlannedLeg). l.now) (take i legs) in
    let item = c.leg-item.result.now in
    let more = map_more (λ (l : Bor PlannedLeg). l.now) legs i c.leg-item.result c.loop-leg-test.true ∙ ap (λ (l : Bor PlannedLeg). before ++ l.now ∷ []) (sym c.leg-item.is) in
    let servers : c.deref-in-loop-leg.result.now ≡ item.servers.value.items = c.deref-in-loop-leg.ensures.value ∙ ap (λ (v : Vec ServerId Global). v.items) c.deref.ensures in
    c.in_ok-insert_slots.ensures q
    ∙ ap (λ (ys : List ServerId). contains slot_cmp c.loop-leg.taken q || has_server q.0 (Some x) q.1 (record { position = []; symbol = item.symbol; servers = numbers ys })) servers
    ∙ ap (λ b. b || p item) (c.loop-leg.invariant q)
    ∙ sym (one_more p before item)
    ∙ ap (λ ls. is_taken ls x q.0 q.1) (sym more)
