use Rattle.std.proofs.Common.{◌≡◌, ◌∙◌}
use Rattle.std.specs.BTreeMap.{get}
use Rattle.std.specs.Ordering.{nat_cmp}
use Rattle.mcv_picks.proofs.TwinsAreEqual.{nat_level}
use Rattle.mcv_gaps.specs.Least.{owner_of}
use Rattle.mcv_gaps.proofs.Owners.{one_owner}
use Rattle.mcv_gaps.proofs.least.own_server.Goals as goal

pub returns : goal.returns
returns c = λ x.
    let y = c.args.server.0 in
    c.in_ok-insert.ensures.updates.0 x
    ∙ one_owner x y c.args.number (get nat_cmp c.args.owners.now) _ _ (nat_level y x) (c.owner_with.ensures ∙ (λ i. owner_of c.args.number ((c.copied-kept.ensures ∙ c.get.ensures.value) i)))
