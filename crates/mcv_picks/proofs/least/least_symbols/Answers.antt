use Rattle.std.proofs.Common.{◌∷◌, [], ◌++◌, map, take, ap, sym, subst, ◌∙◌}
use Rattle.std.specs.BTreeMap.{get}
use Rattle.std.specs.Ordering.{nat_cmp}
use Rattle.std.specs.Prelude.{All}
use Rattle.std.proofs.lemmas.List.{map_more, take_all}
use Rattle.mcv_picks.specs.Picks.{borrowed}
use Rattle.mcv_picks.proofs.LeastSymbol.{IsKept, IsNoLess, kept_more, no_less_more, is_least}
use Rattle.mcv_picks.proofs.least.least_symbols.Goals as goal

pub loop-leg-preserved : goal.loop-leg-preserved
loop-leg-preserved c =
    let firsts = c.args.firsts.now in
    let i = c.loop-leg.leg-index in
    let d = borrowed c.leg-item.result in
    let legs = c.args.tables.now in
    let more = map_more borrowed firsts i c.leg-item.result c.loop-leg-test.true ∙ ap (λ y. map borrowed (take i firsts) ++ borrowed y ∷ []) (sym c.leg-item.is) in
    record {
      kept = λ x. subst (IsKept legs x) (sym (c.in_ok-keep.ensures x)) (kept_more legs x (get nat_cmp c.loop-leg.table x) d (c.loop-leg.invariant.kept x));
      no_less = λ x.
          subst (λ ds. All (IsNoLess legs x (get nat_cmp c.keep.new.table x)) ds) (sym more)
          (subst (λ o. All (IsNoLess legs x o) (map borrowed (take i firsts) ++ d ∷ [])) (sym (c.in_ok-keep.ensures x))
          (no_less_more legs x (get nat_cmp c.loop-leg.table x) (map borrowed (take i firsts)) d (c.loop-leg.invariant.no_less x)));
    }

pub returns : goal.returns
returns c =
    let firsts = c.args.firsts.now in
    let whole = take_all c.loop-leg.leg-index firsts c.loop-leg-test.false in
    λ x.
    is_least c.args.tables.now x (map borrowed firsts) c.requires (get nat_cmp c.loop-leg.table x) (c.loop-leg.invariant.kept x)
    (subst (λ ds. All (IsNoLess c.args.tables.now x (get nat_cmp c.loop-leg.table x)) (map borrowed ds)) whole (c.loop-leg.invariant.no_less x))
