use Rattle.std.proofs.Common.{cond, Some, None, ◌∷◌, [], ◌++◌, map, take, ap, sym, ◌∙◌}
use Rattle.std.specs.Option.{option_or}
use Rattle.std.specs.Prelude.{find}
use Rattle.std.proofs.lemmas.List.{map_more}
use Rattle.mcv_picks.specs.Picks.{borrowed}
use Rattle.mcv_picks.specs.Tables.{is_at}
use Rattle.mcv_picks.proofs.SearchResults.{last}
use Rattle.mcv_picks.proofs.slots.slots.Goals as goal

pub loop-leg-preserved : goal.loop-leg-preserved
loop-leg-preserved c =
    let legs = c.args.legs.now in
    let i = c.loop-leg.leg-index in
    let d = borrowed c.leg-item.result in
    let more = map_more borrowed legs i c.leg-item.result c.loop-leg-test.true ∙ ap (λ x. map borrowed (take i legs) ++ borrowed x ∷ []) (sym c.leg-item.is) in
    λ q.
    c.in_ok-insert_servers.ensures q
    ∙ ap (λ o. option_or o (cond (is_at q d) (Some d) None)) (c.loop-leg.invariant q)
    ∙ sym (last (is_at q) (map borrowed (take i legs)) d)
    ∙ ap (find (is_at q)) (sym more)
