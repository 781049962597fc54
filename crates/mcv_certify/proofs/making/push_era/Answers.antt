use Rattle.std.proofs.Common.{◌+◌, ◌-◌, [], ◌∷◌}
use Rattle.std.proofs.lemmas.Result.{err_from_is_err_and}
use Rattle.mcv_judge.specs.PairsInMemory.{pairs_of}
use Rattle.mcv_blocks.specs.Spots.{gets_from, in_eras}
use Rattle.mcv_blocks.proofs.SpotsInTurn.{gets_done, gets_next}
use Rattle.mcv_certify.specs.BlockSteps.{ReportsGapAt, ReportsGapIn}
use Rattle.mcv_certify.proofs.GapReports.{if_lost}
use Rattle.mcv_certify.proofs.SpotBySpot.{adds_all, adds_next, adds_start, reports_next, reports_one}
use Rattle.mcv_certify.proofs.making.push_era.Goals as goal

pub push_in_eras-requires : goal.push_in_eras-requires
push_in_eras-requires c = record { sound = c.requires.sound; sets = c.requires.sets; first = c.loop-get_era.auto.get_era; end = c.loop-get_era-test.true }

pub loop-get_era-init : goal.loop-get_era-init
loop-get_era-init c =
    let at = c.args.at.now in
    adds_start c.args.routes.now (gets_from at.class.now at.era at.near.first (at.near.end - at.near.first)) (pairs_of c.args.pairs.now.items)

pub loop-get_era-preserved : goal.loop-get_era-preserved
loop-get_era-preserved c =
    let at = c.args.at.now in
    let k = c.loop-get_era.get_era in
    adds_next c.args.routes.now (gets_from at.class.now at.era at.near.first (at.near.end - at.near.first)) (pairs_of c.args.pairs.now.items) (in_eras at.class.now at.era k ∷ []) (gets_from at.class.now at.era (k + 1) (at.near.end - (k + 1)))
    (gets_from at.class.now at.era k (at.near.end - k)) (pairs_of c.loop-get_era.pairs.items) (pairs_of c.push_in_eras.new.pairs.items) (gets_next at.class.now at.era k at.near.end c.loop-get_era-test.true) c.loop-get_era.invariant c.in_ok-push_in_eras.ensures.added

pub returns-in_err-push_in_eras-clause-lost : goal.returns-in_err-push_in_eras-clause-lost
returns-in_err-push_in_eras-clause-lost c =
    let r = c.args.routes.now in
    let at = c.args.at.now in
    let k = c.loop-get_era.get_era in
    let all = gets_from at.class.now at.era at.near.first (at.near.end - at.near.first) in
    let reported = if_lost _ (ReportsGapAt r (in_eras at.class.now at.era k)) (ReportsGapIn r all)
    (λ f h. reports_next r all (pairs_of c.args.pairs.now.items) (in_eras at.class.now at.era k ∷ []) (gets_from at.class.now at.era (k + 1) (at.near.end - (k + 1))) (gets_from at.class.now at.era k (at.near.end - k)) (pairs_of c.loop-get_era.pairs.items) f
    (gets_next at.class.now at.era k at.near.end c.loop-get_era-test.true) c.loop-get_era.invariant (reports_one r (in_eras at.class.now at.era k) f h)) c.in_err-push_in_eras.ensures.lost in
    let p = err_from_is_err_and c.from_residual.result c.from_residual.ensures.1 in
    rw (p.1, p.2) reported

pub returns-clause-added : goal.returns-clause-added
returns-clause-added c =
    let at = c.args.at.now in
    let k = c.loop-get_era.get_era in
    adds_all c.args.routes.now (gets_from at.class.now at.era at.near.first (at.near.end - at.near.first)) (pairs_of c.args.pairs.now.items) (gets_from at.class.now at.era k (at.near.end - k)) (pairs_of c.loop-get_era.pairs.items)
    (gets_done at.class.now at.era k at.near.end c.loop-get_era-test.false) c.loop-get_era.invariant
