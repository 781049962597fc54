use Rattle.std.proofs.Common.{◌+◌, ◌-◌, drop, get_or}
use Rattle.std.proofs.lemmas.List.{get_or_default}
use Rattle.std.proofs.lemmas.Option.{slice_get-get_or}
use Rattle.std.proofs.lemmas.Result.{err_from_is_err_and}
use Rattle.mcv_blocks.specs.SetsInEras.{AreSetsOf}
use Rattle.mcv_blocks.specs.Spots.{eras_near, gets_from}
use Rattle.mcv_blocks.proofs.SetsEraByEra.{each_none}
use Rattle.mcv_blocks.proofs.SpotsInTurn.{eras_done, eras_next}
use Rattle.mcv_judge.specs.PairsInMemory.{pairs_of}
use Rattle.mcv_route.specs.declared.eras.NearEras.{NearEras}
use Rattle.mcv_check.proofs.SpotBySpot.{from_first, next_stops, past_all, past_next}
use Rattle.mcv_check.proofs.judging.judge_class.Goals as goal

pub slide-requires : goal.slide-requires
slide-requires c =
    let xs = c.args.nears.now in
    let k = c.loop-era.era in
    let nothing : NearEras = record { first = 0; end = 0 } in
    let x = get_or xs k nothing in
    record {
      class = c.requires.class;
      member = c.in-Some.ensures;
      near = c.requires.nears.each k x (slice_get-get_or xs k nothing c.loop-era-test.true);
      sets = c.loop-era.invariant.sets;
    }

pub judge_era-requires : goal.judge_era-requires
judge_era-requires c = record { sound = c.requires.sound; sets = c.in_ok-slide.ensures; pairs = c.loop-era.invariant.rising }

pub loop-era-init : goal.loop-era-init
loop-era-init c = record {
  rising = c.requires.pairs;
  sets = each_none (AreSetsOf c.args.routes.now c.args.class.now) c.new-sets.result.first c.new-sets.result.sets.items c.new-sets.ensures;
  so_far = from_first c.args.routes.now (eras_near c.args.class.now 0 c.args.nears.now) (pairs_of c.args.pairs.now);
}

pub loop-era-preserved : goal.loop-era-preserved
loop-era-preserved c =
    let r = c.args.routes.now in
    let class = c.args.class.now in
    let xs = c.args.nears.now in
    let k = c.loop-era.era in
    let nothing : NearEras = record { first = 0; end = 0 } in
    let x = get_or xs k nothing in
    record {
      rising = c.in_ok-rest.ensures.rising;
      sets = c.in_ok-slide.ensures.sets;
      so_far = past_next r (eras_near class 0 xs) (pairs_of c.args.pairs.now) (gets_from class k x.first (x.end - x.first)) (eras_near class (k + 1) (drop (k + 1) xs)) (eras_near class k (drop k xs)) (pairs_of c.loop-era.rest.now) (pairs_of c.in_ok-rest.rest.now)
          (eras_next class xs k x c.loop-era-test.true (get_or_default xs k nothing x c.loop-era-test.true)) c.loop-era.invariant.so_far c.in_ok-rest.ensures.left;
    }

pub returns-in_err-rest-clause-fault : goal.returns-in_err-rest-clause-fault
returns-in_err-rest-clause-fault c =
    let r = c.args.routes.now in
    let class = c.args.class.now in
    let xs = c.args.nears.now in
    let k = c.loop-era.era in
    let nothing : NearEras = record { first = 0; end = 0 } in
    let x = get_or xs k nothing in
    let stops = next_stops r (eras_near class 0 xs) (pairs_of c.args.pairs.now) (gets_from class k x.first (x.end - x.first)) (eras_near class (k + 1) (drop (k + 1) xs)) (eras_near class k (drop k xs)) (pairs_of c.loop-era.rest.now)
    (eras_next class xs k x c.loop-era-test.true (get_or_default xs k nothing x c.loop-era-test.true)) c.loop-era.invariant.so_far c.in_err-rest.field-0.0 c.in_err-rest.ensures.fault in
    let p = err_from_is_err_and c.from_residual-in_err-rest.result c.from_residual-in_err-rest.ensures.1 in
    rw (p.1, p.2) stops

pub returns-clause-left : goal.returns-clause-left
returns-clause-left c =
    let class = c.args.class.now in
    let xs = c.args.nears.now in
    let k = c.loop-era.era in
    past_all c.args.routes.now (eras_near class 0 xs) (pairs_of c.args.pairs.now) (eras_near class k (drop k xs)) (pairs_of c.loop-era.rest.now) (eras_done class xs k c.loop-era-test.false) c.loop-era.invariant.so_far
