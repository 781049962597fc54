use Rattle.std.proofs.Common.{refl, subst}
use Rattle.mcv_desks.specs.Asked.{desks_view, mixed_at, questions_at}
use Rattle.mcv_desks.specs.Open.{AreSameRequests, DesksView}
use Rattle.mcv_desks.proofs.AskedAtHubs.{desks_turned}
use Rattle.mcv_desks.proofs.OpenDesks.{all_same, in_place_open}
use Rattle.mcv_desks.proofs.desks.LoopDesks.turn.Goals as goal

pub invariant_of-self : goal.invariant_of-self
invariant_of-self g c = let d = c.self.inside in desks_turned d.choice.now d.next (mixed_at d.mixed) (questions_at d.desks) (questions_at c.turn.new.self) c.turn.ensures c.self.invariant

pub returns : goal.returns
returns g c =
    let d = c.self.inside in
    let old = desks_view d.choice.now d.most d.mixed d.desks in
    let new = desks_view d.choice.now d.most d.mixed c.turn.new.self in
    subst (λ (v : DesksView). AreSameRequests v new) c.self.view_is (in_place_open old new (all_same old new refl refl (λ place. refl) c.turn.ensures))
