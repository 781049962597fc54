use Rattle.std.proofs.Common.{◌+◌, ◌-◌, [], ◌∷◌}
use Rattle.std.proofs.lemmas.Result.{err_from_is_err_and}
use Rattle.mcv_blocks.specs.Spots.{gets_from, in_eras}
use Rattle.mcv_blocks.proofs.SpotsInTurn.{gets_done, gets_next}
use Rattle.mcv_judge.specs.PairsInMemory.{pairs_of}
use Rattle.mcv_check.proofs.SpotBySpot.{from_first, next_stops, past_all, past_next}
use Rattle.mcv_check.proofs.judging.judge_era.Goals as goal

pub judge_in_eras-requires : goal.judge_in_eras-requires
judge_in_eras-requires c = record {
  sound = c.requires.sound;
  sets = c.requires.sets;
  first = c.loop-get_era.auto.get_era;
  end = c.loop-get_era-test.true;
  pairs = c.loop-get_era.invariant.rising;
}

pub loop-get_era-init : goal.loop-get_era-init
loop-get_era-init c =
    let at = c.args.at.now in
    record { rising = c.requires.pairs; so_far = from_first c.args.routes.now (gets_from at.class.now at.era at.near.first (at.near.end - at.near.first)) (pairs_of c.args.pairs.now) }

pub loop-get_era-preserved : goal.loop-get_era-preserved
loop-get_era-preserved c =
    let at = c.args.at.now in
    let k = c.loop-get_era.get_era in
    record {
      rising = c.in_ok-rest.ensures.rising;
      so_far = past_next c.args.routes.now (gets_from at.class.now at.era at.near.first (at.near.end - at.near.first)) (pairs_of c.args.pairs.now) (in_eras at.class.now at.era k ∷ []) (gets_from at.class.now at.era (k + 1) (at.near.end - (k + 1)))
          (gets_from at.class.now at.era k (at.near.end - k)) (pairs_of c.loop-get_era.rest.now) (pairs_of c.in_ok-rest.rest.now) (gets_next at.class.now at.era k at.near.end c.loop-get_era-test.true) c.loop-get_era.invariant.so_far c.in_ok-rest.ensures.left;
    }

pub returns-in_err-rest-clause-fault : goal.returns-in_err-rest-clause-fault
returns-in_err-rest-clause-fault c =
    let at = c.args.at.now in
    let k = c.loop-get_era.get_era in
    let stops = next_stops c.args.routes.now (gets_from at.class.now at.era at.near.first (at.near.end - at.near.first)) (pairs_of c.args.pairs.now) (in_eras at.class.now at.era k ∷ []) (gets_from at.class.now at.era (k + 1) (at.near.end - (k + 1)))
    (gets_from at.class.now at.era k (at.near.end - k)) (pairs_of c.loop-get_era.rest.now) (gets_next at.class.now at.era k at.near.end c.loop-get_era-test.true) c.loop-get_era.invariant.so_far c.in_err-rest.field-0.0 c.in_err-rest.ensures.fault in
    let p = err_from_is_err_and c.from_residual.result c.from_residual.ensures.1 in
    rw (p.1, p.2) stops

pub returns-clause-left : goal.returns-clause-left
returns-clause-left c =
    let at = c.args.at.now in
    let k = c.loop-get_era.get_era in
    past_all c.args.routes.now (gets_from at.class.now at.era at.near.first (at.near.end - at.near.first)) (pairs_of c.args.pairs.now) (gets_from at.class.now at.era k (at.near.end - k)) (pairs_of c.loop-get_era.rest.now)
    (gets_done at.class.now at.era k at.near.end c.loop-get_era-test.false) c.loop-get_era.invariant.so_far
