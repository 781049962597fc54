use Rattle.std.proofs.Common.{List, subst, sym}
use Rattle.std.specs.List.{All}
use Rattle.std.proofs.lemmas.List.Sorted.{All-permutation}
use Rattle.std.proofs.lemmas.Result.{IfOk-weaker}
use Rattle.mcv_gaps.specs.Gaps.{wanteds_of}
use Rattle.mcv_gaps.specs.Least.{AreEnough, IsMissingOf, legs_missing}
use Rattle.mcv_gaps.specs.declared.missing.Missing.{Missing}
use Rattle.mcv_gaps.proofs.Needed.{enough_sorted}
use Rattle.mcv_gaps.proofs.least.least_legs.Goals as goal

pub needed_of-requires : goal.needed_of-requires
needed_of-requires c =
    let ws = wanteds_of c.args.wanted.now in
    subst (λ (ms : List Missing). All (IsMissingOf ws) ms) (sym c.as_slice.ensures.value)
    (All-permutation (IsMissingOf ws) c.in_ok-missing.missing.items c.sort_by_key.new.self.items c.in_ok-sort_by_key.ensures.permutation c.in_ok-missing.ensures.only)

pub returns : goal.returns
returns c =
    let ws = wanteds_of c.args.wanted.now in
    IfOk-weaker c.needed_of.result _ _
    (λ legs least. λ sizes sized. least sizes sized (subst (λ (ms : List Missing). AreEnough sizes ws (legs_missing ms)) (sym c.as_slice.ensures.value)
    (enough_sorted sizes ws c.in_ok-missing.missing.items c.sort_by_key.new.self.items c.in_ok-sort_by_key.ensures.permutation (c.in_ok-missing.ensures.all sizes sized))))
    c.needed_of.ensures
