use Rattle.std.proofs.Common.{◌≡◌, List, ℕ, ap, subst}
use Rattle.std.proofs.lemmas.Result.{IfErr-weaker, on_ok_weaker}
use Rattle.mcv_cert.specs.Pair.{SpotValue}
use Rattle.mcv_judge.specs.PairsInMemory.{pairs_of}
use Rattle.mcv_blocks.specs.Spots.{in_eras, spot_in}
use Rattle.mcv_certify.specs.Gap.{IfLost}
use Rattle.mcv_certify.specs.BlockSteps.{AddsWith, ReportsGapAt, ReportsGapWith}
use Rattle.mcv_certify.proofs.GapReports.{if_lost}
use Rattle.mcv_certify.proofs.MadeOfSets.{adds_with, reports_with, sets_sized}
use Rattle.mcv_certify.proofs.making.push_in_eras.Goals as goal

pub push_sets-requires : goal.push_sets-requires
push_sets-requires c =
    let r = c.args.routes.now in
    let at = c.args.at.now in
    let are = c.at-deletes.ensures r at.class.now c.requires.sets.sets in
    sets_sized r at c.args.sets.now c.requires.sets c.at-deletes.result.now are c.requires.sound

pub returns-clause-added : goal.returns-clause-added
returns-clause-added c =
    let r = c.args.routes.now in
    let at = c.args.at.now in
    let s = c.at-deletes.result.now in
    let g = c.at-gets.result.now in
    let are = c.at-deletes.ensures r at.class.now c.requires.sets.sets in
    let reads = c.at-gets.ensures r at.class.now c.requires.sets.sets in
    let spot : SpotValue = record { route = at.class.now.route; class = c.word.result.now; era = at.era; get_era = c.args.get_era } in
    let same : spot ≡ spot_in at.class.now at.era c.args.get_era = ap (λ (w : List ℕ). record { route = at.class.now.route; class = w; era = at.era; get_era = c.args.get_era }) c.word.ensures in
    let old = pairs_of c.args.pairs.now.items in
    let new = pairs_of c.push_sets.new.pairs.items in
    on_ok_weaker c.push_sets.result (λ h. adds_with r at c.args.sets.now c.requires.sets c.args.get_era c.requires.first c.requires.end s g are reads old new (subst (λ (p : SpotValue). AddsWith s g p old new) same h)) c.push_sets.ensures.added

pub returns-clause-lost : goal.returns-clause-lost
returns-clause-lost c =
    let r = c.args.routes.now in
    let at = c.args.at.now in
    let s = c.at-deletes.result.now in
    let g = c.at-gets.result.now in
    let are = c.at-deletes.ensures r at.class.now c.requires.sets.sets in
    let reads = c.at-gets.ensures r at.class.now c.requires.sets.sets in
    let spot : SpotValue = record { route = at.class.now.route; class = c.word.result.now; era = at.era; get_era = c.args.get_era } in
    let same : spot ≡ spot_in at.class.now at.era c.args.get_era = ap (λ (w : List ℕ). record { route = at.class.now.route; class = w; era = at.era; get_era = c.args.get_era }) c.word.ensures in
    IfErr-weaker c.push_sets.result (λ e. IfLost e (ReportsGapWith s g spot)) (λ e. IfLost e (ReportsGapAt r (in_eras at.class.now at.era c.args.get_era)))
    (λ e h. if_lost e (ReportsGapWith s g spot) (ReportsGapAt r (in_eras at.class.now at.era c.args.get_era))
    (λ f reported. reports_with r at c.args.sets.now c.requires.sets c.args.get_era c.requires.first c.requires.end s g are reads f (subst (λ (p : SpotValue). ReportsGapWith s g p f) same reported)) h) c.push_sets.ensures.lost
