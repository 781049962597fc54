use Rattle.std.proofs.Common.{◌+◌, ◌-◌, drop, get_or}
use Rattle.std.proofs.lemmas.List.{get_or_default}
use Rattle.std.proofs.lemmas.Option.{slice_get-get_or}
use Rattle.std.proofs.lemmas.Result.{err_from_is_err_and}
use Rattle.mcv_judge.specs.PairsInMemory.{pairs_of}
use Rattle.mcv_blocks.specs.SetsInEras.{AreSetsOf}
use Rattle.mcv_blocks.specs.Spots.{eras_near, gets_from}
use Rattle.mcv_blocks.proofs.SetsEraByEra.{each_none}
use Rattle.mcv_blocks.proofs.SpotsInTurn.{eras_done, eras_next}
use Rattle.mcv_route.specs.declared.eras.NearEras.{NearEras}
use Rattle.mcv_certify.specs.BlockSteps.{ReportsGapIn}
use Rattle.mcv_certify.proofs.GapReports.{if_lost}
use Rattle.mcv_certify.proofs.SpotBySpot.{adds_all, adds_next, adds_start, reports_next}
use Rattle.mcv_certify.proofs.making.push_class.Goals as goal

pub slide-requires : goal.slide-requires
slide-requires c =
    let xs = c.args.nears.now in
    let k = c.loop-era.era in
    let nothing : NearEras = record { first = 0; end = 0 } in
    record {
      class = c.requires.class;
      member = c.in-Some.ensures;
      near = c.requires.nears.each k (get_or xs k nothing) (slice_get-get_or xs k nothing c.loop-era-test.true);
      sets = c.loop-era.invariant.sets;
    }

pub push_era-requires : goal.push_era-requires
push_era-requires c = record { sound = c.requires.sound; sets = c.in_ok-slide.ensures }

pub loop-era-init : goal.loop-era-init
loop-era-init c = record {
  sets = each_none (AreSetsOf c.args.routes.now c.args.class.now) c.new-sets.result.first c.new-sets.result.sets.items c.new-sets.ensures;
  so_far = adds_start c.args.routes.now (eras_near c.args.class.now 0 c.args.nears.now) (pairs_of c.args.pairs.now.items);
}

pub loop-era-preserved : goal.loop-era-preserved
loop-era-preserved c =
    let r = c.args.routes.now in
    let class = c.args.class.now in
    let xs = c.args.nears.now in
    let k = c.loop-era.era in
    let nothing : NearEras = record { first = 0; end = 0 } in
    let x = get_or xs k nothing in
    record {
      sets = c.in_ok-slide.ensures.sets;
      so_far = adds_next r (eras_near class 0 xs) (pairs_of c.args.pairs.now.items) (gets_from class k x.first (x.end - x.first)) (eras_near class (k + 1) (drop (k + 1) xs)) (eras_near class k (drop k xs)) (pairs_of c.loop-era.pairs.items)
          (pairs_of c.push_era.new.pairs.items) (eras_next class xs k x c.loop-era-test.true (get_or_default xs k nothing x c.loop-era-test.true)) c.loop-era.invariant.so_far c.in_ok-push_era.ensures.added;
    }

pub returns-in_err-push_era-clause-lost : goal.returns-in_err-push_era-clause-lost
returns-in_err-push_era-clause-lost c =
    let r = c.args.routes.now in
    let class = c.args.class.now in
    let xs = c.args.nears.now in
    let k = c.loop-era.era in
    let nothing : NearEras = record { first = 0; end = 0 } in
    let x = get_or xs k nothing in
    let reported = if_lost _ (ReportsGapIn r (gets_from class k x.first (x.end - x.first))) (ReportsGapIn r (eras_near class 0 xs))
    (λ f h. reports_next r (eras_near class 0 xs) (pairs_of c.args.pairs.now.items) (gets_from class k x.first (x.end - x.first)) (eras_near class (k + 1) (drop (k + 1) xs)) (eras_near class k (drop k xs)) (pairs_of c.loop-era.pairs.items) f
    (eras_next class xs k x c.loop-era-test.true (get_or_default xs k nothing x c.loop-era-test.true)) c.loop-era.invariant.so_far h) c.in_err-push_era.ensures.lost in
    let p = err_from_is_err_and c.from_residual-in_err-push_era.result c.from_residual-in_err-push_era.ensures.1 in
    rw (p.1, p.2) reported

pub returns-clause-added : goal.returns-clause-added
returns-clause-added c =
    let class = c.args.class.now in
    let xs = c.args.nears.now in
    let k = c.loop-era.era in
    adds_all c.args.routes.now (eras_near class 0 xs) (pairs_of c.args.pairs.now.items) (eras_near class k (drop k xs)) (pairs_of c.loop-era.pairs.items) (eras_done class xs k c.loop-era-test.false) c.loop-era.invariant.so_far
