use Rattle.std.proofs.Common.{◌≡◌, ◌∙◌, ◌++◌, ◌∷◌, [], List, ap, refl, subst, sym}
use Rattle.std.specs.List.{All}
use Rattle.std.proofs.lemmas.List.{map-append}
use Rattle.mcv_judge.specs.PairsInMemory.{leg_of}
use Rattle.mcv_judge.specs.Reason.{LegValue}
use Rattle.mcv_gaps.specs.Least.{HasTwin, IsMissingOf, TellsTwins, leg_missing, legs_missing}
use Rattle.mcv_gaps.specs.declared.missing.Missing.{Missing}
use Rattle.mcv_gaps.proofs.Inserted.{is_unsent, one_missing_more, own_twin, still_twin, tells_more}
use Rattle.mcv_gaps.proofs.missing.insert_missing.Goals as goal

pub returns-then-contains : goal.returns-then-contains
returns-then-contains c = record {
  only = λ w ws at read have all. all;
  tells = λ h. h;
  kept = λ d t. t;
  twin = λ tells.
      let t = tells (c.args.leaf.now.symbol, c.args.leaf.now.servers) (sym c.contains.ensures ∙ c.if-contains.true) in
      record { twin = t.twin; listed = t.listed; symbol = t.symbol; servers = t.servers };
}

pub returns : goal.returns
returns c =
    let m : Missing = record { leg = c.args.leaf.now; unsent = c.in_ok-unsent.unsent } in
    let old = c.args.found.now.missing.items in
    let items : c.push.new.self.items ≡ old ++ m ∷ [] = c.in_ok-push.ensures.items in
    let legs : legs_missing c.push.new.self.items ≡ legs_missing old ++ leg_missing m ∷ [] = ap legs_missing items ∙ map-append leg_missing old (m ∷ []) in
    record {
      only = λ w ws at read have all. subst (λ (ms : List Missing). All (IsMissingOf ws) ms) (sym items) (one_missing_more ws old m all (w, at, is_unsent w m c.args.sent.now read have c.in_ok-unsent.ensures));
      tells = λ tells. subst (TellsTwins c.insert.new.self) (sym legs) (tells_more old m c.args.found.now.seen c.insert.new.self (c.args.leaf.now.symbol, c.args.leaf.now.servers) refl refl c.in_ok-insert.ensures.updates.0 tells);
      kept = λ d t. subst (λ (ls : List LegValue). HasTwin ls d) (sym legs) (still_twin old m d t);
      twin = λ tells. subst (λ (ls : List LegValue). HasTwin ls (leg_of c.args.leaf.now)) (sym legs) (own_twin old m);
    }
