use Rattle.std.proofs.Common.{◌≡◌, false, true, Some, inl, inr, ap, subst, sym, ◌∙◌}
use Rattle.std.specs.BTreeMap.{get}
use Rattle.std.specs.Option.{option_map}
use Rattle.std.specs.Ordering.{nat_cmp}
use Rattle.std.specs.Prelude.{is_some}
use Rattle.mcv_judge.specs.PairsInMemory.{leg_of}
use Rattle.mcv_judge.specs.Reason.{server_at}
use Rattle.mcv_judge.proofs.Servers.{server_of}
use Rattle.mcv_picks.specs.Picks.{filling}
use Rattle.mcv_picks.specs.Tables.{is_lesser}
use Rattle.mcv_picks.proofs.TwinsAreEqual.{nat_level}
use Rattle.mcv_picks.proofs.LeastSymbol.{inserted, left}
use Rattle.mcv_picks.proofs.least.keep.Goals as goal
use Rattle.mcv_picks.proofs.least.keep.Goals.{else-is_less-via-then-is_less+else-fills, else-is_less-via-else-is_less}

pub returns-in_ok-insert : goal.returns-in_ok-insert
returns-in_ok-insert c =
    let legs = c.args.tables.now in
    let d = leg_of c.args.leg.now in
    let y = c.in-Some.server.now.0 in
    let own : server_at d 0 ≡ Some y = server_of c.args.leg.now.servers.now 0 ∙ ap (option_map (λ s. s.0)) (sym c.in-Some.ensures.value) in
    let kept = c.copied.ensures ∙ c.get.ensures.value in
    λ x.
    c.in_ok-insert.ensures.updates.0 x
    ∙ inserted legs x d y (get nat_cmp c.args.table.now x) _ (nat_level y x) own
    (λ e. subst (λ n. is_some (filling legs d.symbol n) ≡ true) e (sym c.fills.ensures ∙ c.if-fills.true))
    (λ e. subst (λ n. is_lesser (get nat_cmp c.args.table.now n) d.symbol ≡ true) e (ap (λ o. is_lesser o d.symbol) (sym kept) ∙ sym c.is_less.ensures ∙ c.if-is_less.true))

pub returns-else-is_less : goal.returns-else-is_less
returns-else-is_less c =
    let legs = c.args.tables.now in
    let d = leg_of c.args.leg.now in
    let y = c.in-Some.server.now.0 in
    let own : server_at d 0 ≡ Some y = server_of c.args.leg.now.servers.now 0 ∙ ap (option_map (λ s. s.0)) (sym c.in-Some.ensures.value) in
    let kept = c.copied.ensures ∙ c.get.ensures.value in
    λ x.
    left legs x d y (get nat_cmp c.args.table.now x) own
    (λ e. elim c.else-is_less.branch [
      | else-is_less-via-then-is_less+else-fills w ↦ inr (subst (λ n. is_some (filling legs d.symbol n) ≡ false) e (sym w.fills.ensures ∙ w.if-fills.false))
      | else-is_less-via-else-is_less w ↦ inl (subst (λ n. is_lesser (get nat_cmp c.args.table.now n) d.symbol ≡ false) e (ap (λ o. is_lesser o d.symbol) (sym kept) ∙ sym c.is_less.ensures ∙ w.if-is_less.false))
    ])
