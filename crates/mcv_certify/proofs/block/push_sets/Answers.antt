use Rattle.std.proofs.Common.{refl, ap}
use Rattle.std.proofs.lemmas.Result.{IfErr-weaker, on_ok_weaker}
use Rattle.mcv_judge.specs.PairsInMemory.{legs_of, spot_of}
use Rattle.mcv_judge.specs.Reason.{BlockValue}
use Rattle.mcv_blocks.specs.Spots.{IsBlockWith}
use Rattle.mcv_blocks.proofs.BlockOfSets.{block_with}
use Rattle.mcv_certify.specs.Gap.{IfLost}
use Rattle.mcv_certify.specs.BlockSteps.{ReportsGapOf, ReportsGapWith}
use Rattle.mcv_certify.proofs.GapReports.{if_lost, on_ok_both}
use Rattle.mcv_certify.proofs.block.push_sets.Goals as goal

pub push_or_report-requires : goal.push_or_report-requires
push_or_report-requires c =
    let at = spot_of c.args.spot.now in
    let block : BlockValue = record { spot = at; readable = legs_of c.as_slice.result.now; acknowledged = legs_of c.as_slice-2.result.now; can_be_acknowledged = c.can_be_acknowledged.result } in
    let is : IsBlockWith c.args.deletes.now c.args.gets.now at block = block_with c.args.deletes.now c.args.gets.now at block (legs_of c.in_ok-readable.readable.items) (legs_of c.in_ok-acknowledged.acknowledged.items) refl
    (ap legs_of c.as_slice.ensures.value) (ap legs_of c.as_slice-2.ensures.value) c.in_ok-readable.ensures c.in_ok-acknowledged.ensures c.can_be_acknowledged.ensures in
    record { rising = is.acknowledged.rising; sized = c.requires (legs_of c.as_slice-2.result.now) is.acknowledged }

pub returns-clause-added : goal.returns-clause-added
returns-clause-added c =
    let at = spot_of c.args.spot.now in
    let block : BlockValue = record { spot = at; readable = legs_of c.as_slice.result.now; acknowledged = legs_of c.as_slice-2.result.now; can_be_acknowledged = c.can_be_acknowledged.result } in
    let is : IsBlockWith c.args.deletes.now c.args.gets.now at block = block_with c.args.deletes.now c.args.gets.now at block (legs_of c.in_ok-readable.readable.items) (legs_of c.in_ok-acknowledged.acknowledged.items) refl
    (ap legs_of c.as_slice.ensures.value) (ap legs_of c.as_slice-2.ensures.value) c.in_ok-readable.ensures c.in_ok-acknowledged.ensures c.can_be_acknowledged.ensures in
    on_ok_weaker c.push_or_report.result (λ both. record { block = block; is = is; adds = both.0; picked = both.1 }) (on_ok_both c.push_or_report.result _ _ c.push_or_report.ensures.added c.push_or_report.ensures.picked)

pub returns-clause-lost : goal.returns-clause-lost
returns-clause-lost c =
    let at = spot_of c.args.spot.now in
    let block : BlockValue = record { spot = at; readable = legs_of c.as_slice.result.now; acknowledged = legs_of c.as_slice-2.result.now; can_be_acknowledged = c.can_be_acknowledged.result } in
    let is : IsBlockWith c.args.deletes.now c.args.gets.now at block = block_with c.args.deletes.now c.args.gets.now at block (legs_of c.in_ok-readable.readable.items) (legs_of c.in_ok-acknowledged.acknowledged.items) refl
    (ap legs_of c.as_slice.ensures.value) (ap legs_of c.as_slice-2.ensures.value) c.in_ok-readable.ensures c.in_ok-acknowledged.ensures c.can_be_acknowledged.ensures in
    IfErr-weaker c.push_or_report.result (λ e. IfLost e (ReportsGapOf block)) (λ e. IfLost e (ReportsGapWith c.args.deletes.now c.args.gets.now at))
    (λ e h. if_lost e (ReportsGapOf block) (ReportsGapWith c.args.deletes.now c.args.gets.now at) (λ f reports. record { block = block; is = is; reports = reports }) h) c.push_or_report.ensures.lost
