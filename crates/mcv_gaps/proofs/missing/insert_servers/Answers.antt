use Rattle.std.proofs.Common.{◌≡◌, ◌∙◌, ℕ, List, ⊎_elim, get_or, subst, take}
use Rattle.std.specs.List.{Contains}
use Rattle.std.proofs.lemmas.List.{map_more}
use Rattle.std.proofs.lemmas.List.Elements.{Contains-push_cases}
use Rattle.mcv_base.specs.declared.request.ServerId.{ServerId}
use Rattle.mcv_judge.specs.PairsInMemory.{numbers}
use Rattle.mcv_picks.proofs.TwinsAreEqual.{nat_level}
use Rattle.mcv_gaps.proofs.Inserted.{put_in}
use Rattle.mcv_gaps.proofs.missing.insert_servers.Goals as goal

pub loop-server-preserved : goal.loop-server-preserved
loop-server-preserved c =
    let servers = c.args.leg.now.servers.now in
    let i = c.loop-server.server-index in
    let y = (get_or servers i (record { 0 = 0 })).0 in
    let more = map_more (λ (s : ServerId). s.0) servers i (record { 0 = 0 }) c.loop-server-test.true in
    record {
      kept = λ x was. (put_in x y _ _ _ (nat_level y x) (c.in_ok-insert.ensures.updates.0 x)).0 (c.loop-server.invariant.kept x was);
      own = λ x at. ⊎_elim
          (λ h. (put_in x y _ _ _ (nat_level y x) (c.in_ok-insert.ensures.updates.0 x)).0 (c.loop-server.invariant.own x h))
          (λ e. (put_in x y _ _ _ (nat_level y x) (c.in_ok-insert.ensures.updates.0 x)).1 e)
          (Contains-push_cases (numbers (take i servers)) y x (subst (λ (ys : List ℕ). Contains ys x) more at));
    }
