use Rattle.std.proofs.Common.{◌≡◌, false, true, map, take, sym, ap, ◌∙◌}
use Rattle.std.specs.BTreeMap.{get}
use Rattle.std.specs.Option.{option_map}
use Rattle.std.specs.Prelude.{find, is_some}
use Rattle.std.proofs.lemmas.List.{map-append}
use Rattle.mcv_judge.specs.PairsInMemory.{leg_of, legs_of}
use Rattle.mcv_judge.specs.Reason.{is_twin}
use Rattle.mcv_picks.specs.Picks.{borrowed}
use Rattle.mcv_picks.specs.Tables.{twin_cmp}
use Rattle.mcv_picks.proofs.TwinsAreEqual.{twin_level}
use Rattle.mcv_picks.proofs.SearchResults.{firsts_more, firsts_still, mapped_cond, mapped_some, table_more, table_still}
use Rattle.mcv_picks.proofs.classes.classes.Goals as goal
use Rattle.mcv_picks.proofs.classes.classes.Goals.{then-not-contains_key+in_ok-insert+in_ok-push, else-not-contains_key}

pub loop-leg-preserved : goal.loop-leg-preserved
loop-leg-preserved c =
    let legs = c.args.legs.now in
    let i = c.loop-leg.leg-index in
    let leg = c.leg-item.result in
    let l = c.loop-leg-test.true in
    let is = c.leg-item.is in
    let xs = legs_of (take i legs) in
    elim c.if-not-contains_key.branch [
      | then-not-contains_key+in_ok-insert+in_ok-push w ↦
          let h = w.if-not-contains_key.true in
          let absent : is_some (find (is_twin (leg_of leg)) xs) ≡ false =
          ap is_some (sym (c.loop-leg.invariant.by_class (leg.symbol, leg.servers))) ∙ mapped_some borrowed (get twin_cmp c.loop-leg.table (leg.symbol, leg.servers)) ∙ sym c.contains_key.ensures ∙ h in
          record {
            by_class = λ k.
                ap (λ t. option_map borrowed (get twin_cmp t k)) w.table-is
                ∙ ap (option_map borrowed) (w.in_ok-insert.ensures.updates.0 k)
                ∙ mapped_cond borrowed _ _ _
                ∙ table_more legs i leg l is k _ (option_map borrowed (get twin_cmp c.loop-leg.table k)) (twin_level (leg.symbol, leg.servers) k) absent (c.loop-leg.invariant.by_class k);
            firsts = λ test alike.
                ap (λ v. find test (map borrowed v.items)) w.firsts-is
                ∙ ap (λ v. find test (map borrowed v)) w.in_ok-push.ensures.items
                ∙ ap (find test) (map-append borrowed c.loop-leg.firsts.items _)
                ∙ firsts_more legs i leg l is (map borrowed c.loop-leg.firsts.items) c.loop-leg.invariant.firsts test alike;
          }
      | else-not-contains_key w ↦
          let h = w.if-not-contains_key.false in
          let found : is_some (find (is_twin (leg_of leg)) xs) ≡ true =
          ap is_some (sym (c.loop-leg.invariant.by_class (leg.symbol, leg.servers))) ∙ mapped_some borrowed (get twin_cmp c.loop-leg.table (leg.symbol, leg.servers)) ∙ sym c.contains_key.ensures ∙ h in
          record {
            by_class = λ k. ap (λ t. option_map borrowed (get twin_cmp t k)) w.table-is ∙ c.loop-leg.invariant.by_class k ∙ table_still legs i leg l is k found;
            firsts = λ test alike. ap (λ v. find test (map borrowed v.items)) w.firsts-is ∙ firsts_still legs i leg l is (map borrowed c.loop-leg.firsts.items) found c.loop-leg.invariant.firsts test alike;
          }
    ]
