use Rattle.std.proofs.Common.{◌≡◌, sym, ap, subst, [], ◌∷◌, List, ℕ}
use Rattle.std.proofs.lemmas.Result.{IfErr-weaker, IfOk-weaker}
use Rattle.mcv_judge.specs.PairsInMemory.{pairs_of}
use Rattle.mcv_blocks.specs.Spots.{in_eras, spot_in}
use Rattle.mcv_cert.specs.Pair.{SpotValue}
use Rattle.mcv_check.specs.Judgements.{IsInOrderWith, Leaves, LeavesWith, Stops, StopsWith}
use Rattle.mcv_check.proofs.JudgedSets.{sets_in_order, sets_leave, sets_stop}
use Rattle.mcv_check.proofs.judging.judge_in_eras.Goals as goal

pub judge_sets-requires : goal.judge_sets-requires
judge_sets-requires c =
    let r = c.args.routes.now in
    let at = c.args.at.now in
    let are = c.at-deletes.ensures r at.class.now c.requires.sets.sets in
    let reads = c.at-gets.ensures r at.class.now c.requires.sets.sets in
    let order = sets_in_order r c.requires.sound at c.args.sets.now c.requires.sets c.args.get_era c.requires.first c.requires.end c.at-deletes.result.now c.at-gets.result.now are reads in
    record {
      order = subst (λ (w : List ℕ). IsInOrderWith c.at-deletes.result.now c.at-gets.result.now (record { route = at.class.now.route; class = w; era = at.era; get_era = c.args.get_era })) (sym c.word.ensures) order;
      pairs = c.requires.pairs;
    }

pub returns-clause-left : goal.returns-clause-left
returns-clause-left c =
    let r = c.args.routes.now in
    let at = c.args.at.now in
    let s = c.at-deletes.result.now in
    let g = c.at-gets.result.now in
    let are = c.at-deletes.ensures r at.class.now c.requires.sets.sets in
    let reads = c.at-gets.ensures r at.class.now c.requires.sets.sets in
    let spot : SpotValue = record { route = at.class.now.route; class = c.word.result.now; era = at.era; get_era = c.args.get_era } in
    let same : spot ≡ spot_in at.class.now at.era c.args.get_era = ap (λ (w : List ℕ). record { route = at.class.now.route; class = w; era = at.era; get_era = c.args.get_era }) c.word.ensures in
    IfOk-weaker c.judge_sets.result (λ rest. LeavesWith s g spot (pairs_of c.args.pairs.now) (pairs_of rest.now)) (λ rest. Leaves r (pairs_of c.args.pairs.now) (in_eras at.class.now at.era c.args.get_era ∷ []) (pairs_of rest.now))
    (λ rest h. sets_leave r c.requires.sound at c.args.sets.now c.requires.sets c.args.get_era c.requires.first c.requires.end s g are reads (pairs_of c.args.pairs.now) (pairs_of rest.now)
    (subst (λ (p : SpotValue). LeavesWith s g p (pairs_of c.args.pairs.now) (pairs_of rest.now)) same h)) c.judge_sets.ensures.left

pub returns-clause-fault : goal.returns-clause-fault
returns-clause-fault c =
    let r = c.args.routes.now in
    let at = c.args.at.now in
    let s = c.at-deletes.result.now in
    let g = c.at-gets.result.now in
    let are = c.at-deletes.ensures r at.class.now c.requires.sets.sets in
    let reads = c.at-gets.ensures r at.class.now c.requires.sets.sets in
    let spot : SpotValue = record { route = at.class.now.route; class = c.word.result.now; era = at.era; get_era = c.args.get_era } in
    let same : spot ≡ spot_in at.class.now at.era c.args.get_era = ap (λ (w : List ℕ). record { route = at.class.now.route; class = w; era = at.era; get_era = c.args.get_era }) c.word.ensures in
    IfErr-weaker c.judge_sets.result (StopsWith s g spot (pairs_of c.args.pairs.now)) (Stops r (pairs_of c.args.pairs.now) (in_eras at.class.now at.era c.args.get_era ∷ []))
    (λ fault h. sets_stop r c.requires.sound at c.args.sets.now c.requires.sets c.args.get_era c.requires.first c.requires.end s g are reads (pairs_of c.args.pairs.now) fault
    (subst (λ (p : SpotValue). StopsWith s g p (pairs_of c.args.pairs.now) fault) same h)) c.judge_sets.ensures.fault
