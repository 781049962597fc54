use Rattle.std.proofs.Common.{◌≡◌, List, Bor, ap, ◌∙◌}
use Rattle.std.proofs.lemmas.Result.{IfOk-weaker}
use Rattle.mcv_judge.specs.PairsInMemory.{legs_of}
use Rattle.mcv_rules.specs.declared.plan.PlannedLeg.{PlannedLeg}
use Rattle.mcv_symbolic.specs.JustifiedRoutes.{IsReadableAt}
use Rattle.mcv_blocks.specs.Blocks.{AreLeavesAt}
use Rattle.mcv_blocks.specs.MergedLegs.{leaves_of, merge}
use Rattle.mcv_blocks.proofs.Parts.{readable_legs}
use Rattle.mcv_blocks.proofs.sets.Sets.readable.Goals as goal

-- the slices are the lists
merged-of : (xs ys ks ls : List (Bor PlannedLeg)) → xs ≡ ks → ys ≡ ls → merge (leaves_of xs) (leaves_of ys) ≡ merge (leaves_of ks) (leaves_of ls)
merged-of xs ys ks ls e f = ap (λ zs. merge (leaves_of zs) (leaves_of ys)) e ∙ ap (λ zs. merge (leaves_of ks) (leaves_of zs)) f

pub returns : goal.returns
returns c =
    let own = c.self.inside in
    let value = c.args.self.now in
    let get = c.in_ok-get.get.items in
    let gets = c.in_ok-gets.gets.items in
    let incr = c.in_ok-incr.incr.items in
    let decr = c.in_ok-decr.decr.items in
    let read : leaves_of c.in_ok-read.read.items ≡ merge (leaves_of get) (leaves_of gets) = c.in_ok-read.ensures ∙ merged-of _ _ get gets c.as_slice.ensures.value c.as_slice-2.ensures.value in
    let adjusted : leaves_of c.in_ok-adjusted.adjusted.items ≡ merge (leaves_of incr) (leaves_of decr) = c.in_ok-adjusted.ensures ∙ merged-of _ _ incr decr c.as_slice-3.ensures.value c.as_slice-4.ensures.value in
    let four : leaves_of c.in_ok-all.all.items ≡ merge (merge (leaves_of get) (leaves_of gets)) (merge (leaves_of incr) (leaves_of decr)) =
    c.in_ok-all.ensures
    ∙ merged-of _ _ c.in_ok-read.read.items c.in_ok-adjusted.adjusted.items c.as_slice-5.ensures.value c.as_slice-6.ensures.value
    ∙ ap (λ ks. merge ks (leaves_of c.in_ok-adjusted.adjusted.items)) read
    ∙ ap (merge (merge (leaves_of get) (leaves_of gets))) adjusted in
    IfOk-weaker c.all_borrowed.result (λ legs. legs_of legs.items ≡ leaves_of c.as_slice-7.result.now) (λ legs. AreLeavesAt value.tree (IsReadableAt value.tree value.rest value.since) (legs_of legs.items))
    (λ legs is. readable_legs value own.delete own.get own.gets own.incr own.decr c.self.invariant c.self.view_is get gets incr decr c.in_ok-get.ensures c.in_ok-gets.ensures c.in_ok-incr.ensures c.in_ok-decr.ensures (legs_of legs.items)
    (is ∙ ap leaves_of c.as_slice-7.ensures.value ∙ four)) c.all_borrowed.ensures
