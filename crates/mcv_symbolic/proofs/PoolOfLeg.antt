-- Each leg of a plan is of the pool that is at its position.
use Rattle.std.proofs.Common.{◌≡◌, inl, inr, ⊎_elim, [], Some, subst}
use Rattle.mcv_route.specs.Outcomes.{Outcomes}
use Rattle.mcv_route.specs.Places.{pool_at_position}
use Rattle.mcv_route.specs.Situation.{Situation}
use Rattle.mcv_route.specs.Tree.{Tree}
use Rattle.mcv_rules.specs.Plan.{Leg, Plan, Send, Reply, Both, Beside, OnError, OnMiss, OnHit, Shadowed}
use Rattle.mcv_rules.specs.Plans.{plan}
use Rattle.mcv_rules.proofs.Leaves.{IsOf, placed, pool_at}
pub use Rattle.mcv_rules.proofs.Leaves.{leaf_of}
use Rattle.mcv_rules.proofs.EachLeg.{AllLegs}
use Rattle.mcv_symbolic.specs.Structure.{nothing, Counts, Acknowledged, Hits}

-- ---- what all legs of a plan have

module _ (P : Leg → Type 0) where
  all-counted : (t : Plan) (o : Outcomes) (l : Leg) → AllLegs P t → Counts t o l → P l
  all-counted (Send k) o l h e = subst P e h
  all-counted (Reply x) o l h e = absurd e
  all-counted (Both t u) o l h (inl e) = all-counted t o l h.0 e
  all-counted (Both t u) o l h (inr e) = all-counted u o l h.1 e
  all-counted (Beside t u) o l h (inl e) = all-counted t o l h.0 e
  all-counted (Beside t u) o l h (inr e) = all-counted u o l h.1 e
  all-counted (OnError t u) o l h (inl e) = all-counted t o l h.0 e
  all-counted (OnError t u) o l h (inr e) = all-counted u o l h.1 e.1
  all-counted (OnMiss t u) o l h (inl e) = all-counted t o l h.0 e
  all-counted (OnMiss t u) o l h (inr e) = all-counted u o l h.1 e.1
  all-counted (OnHit t u) o l h (inl e) = all-counted t o l h.0 e
  all-counted (OnHit t u) o l h (inr e) = all-counted u o l h.1 e.1
  all-counted (Shadowed s a b t u) o l h e = all-counted t o l h.0 e

  all-acknowledged : (t : Plan) (l : Leg) → AllLegs P t → Acknowledged t l → P l
  all-acknowledged (Send k) l h e = subst P e h
  all-acknowledged (Reply x) l h e = absurd e
  all-acknowledged (Both t u) l h (inl e) = all-acknowledged t l h.0 e
  all-acknowledged (Both t u) l h (inr e) = all-acknowledged u l h.1 e
  all-acknowledged (Beside t u) l h (inl e) = all-acknowledged t l h.0 e
  all-acknowledged (Beside t u) l h (inr e) = all-counted u nothing l h.1 e
  all-acknowledged (OnError t u) l h (inl e) = all-acknowledged t l h.0 e
  all-acknowledged (OnError t u) l h (inr e) = all-acknowledged u l h.1 e.1
  all-acknowledged (OnMiss t u) l h e = absurd e
  all-acknowledged (OnHit t u) l h e = absurd e
  all-acknowledged (Shadowed s a b t u) l h e = all-acknowledged t l h.0 e

  all-hits : (t : Plan) (l : Leg) → AllLegs P t → Hits t l → P l
  all-hits (Send k) l h e = subst P e h
  all-hits (Reply x) l h e = absurd e
  all-hits (Both t u) l h e = ⊎_elim (λ i. all-hits t l h.0 i) (λ i. all-hits u l h.1 i) e.2
  all-hits (Beside t u) l h e = all-hits t l h.0 e
  all-hits (OnError t u) l h (inl e) = all-hits t l h.0 e
  all-hits (OnError t u) l h (inr e) = all-hits u l h.1 e.1
  all-hits (OnMiss t u) l h (inl e) = all-hits t l h.0 e
  all-hits (OnMiss t u) l h (inr e) = all-hits u l h.1 e
  all-hits (OnHit t u) l h e = all-hits t l h.0 e
  all-hits (Shadowed s a b t u) l h e = all-hits t l h.0 e

pub acknowledged_are_there : (t : Tree) (s : Situation) (l : Leg) → s.position ≡ [] → Acknowledged (plan t s) l → pool_at_position t l.position ≡ Some (leaf_of l)
acknowledged_are_there t s l root h = pool_at t l (subst (λ p. IsOf t p l) root (all-acknowledged (IsOf t s.position) (plan t s) l (placed t s) h))

pub hits_are_there : (t : Tree) (s : Situation) (l : Leg) → s.position ≡ [] → Hits (plan t s) l → pool_at_position t l.position ≡ Some (leaf_of l)
hits_are_there t s l root h = pool_at t l (subst (λ p. IsOf t p l) root (all-hits (IsOf t s.position) (plan t s) l (placed t s) h))
