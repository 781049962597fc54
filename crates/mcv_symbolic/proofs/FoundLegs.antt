-- The legs that the walks find are those of the sets.
use Rattle.std.proofs.Common.{◌≡◌, inl, inr, ℕ, List, [], ◌∷◌, map, Option, Some, refl, sym, ap, ◌∙◌, subst, arith}
use Rattle.std.specs.List.{All, AllPairs, Contains}
use Rattle.std.proofs.lemmas.List.Elements.{All-cons, All-head, All-nil, All-tail, Contains-append_right}
use Rattle.mcv_base.specs.declared.operation.Op.{Op}
use Rattle.mcv_base.specs.declared.operation.Op.TheVariants.{Delete}
use Rattle.mcv_classes.specs.Class.{IsBefore}
use Rattle.mcv_route.specs.Outcomes.{Choice}
use Rattle.mcv_route.specs.Places.{pool_at_position}
use Rattle.mcv_route.specs.Situation.{asked}
use Rattle.mcv_route.specs.Tree.{Tree}
use Rattle.mcv_rules.specs.Plan.{Leg}
use Rattle.mcv_rules.specs.Plans.{plan}
use Rattle.mcv_rules.specs.declared.plan.PlannedLeg.{PlannedLeg}
use Rattle.mcv_rules.proofs.ListMembers.{Among}
use Rattle.mcv_rules.proofs.LegsRise.{IsRising, pairs, places}
use Rattle.mcv_rules.specs.NormalForm.{leg_of}
use Rattle.mcv_symbolic.specs.SetLists.{acknowledged, hits}
use Rattle.mcv_symbolic.specs.Sets.{AreLegsAt, CanHitAt, IsAcknowledged, positions_of}
use Rattle.mcv_symbolic.proofs.Exactness.{acknowledged_is_exact, hits_are_exact}
use Rattle.mcv_symbolic.proofs.Marks as marks
use Rattle.mcv_symbolic.proofs.PoolOfLeg.{leaf_of, acknowledged_are_there, hits_are_there}
use Rattle.mcv_symbolic.proofs.SetsRise.{acknowledged_rise, hits_rise}

-- ---- lists

shown-places : (legs : List PlannedLeg) → places (map leg_of legs) ≡ positions_of legs
shown-places [] = refl
shown-places (l ∷ legs) = ap (λ ps. l.position ∷ ps) (shown-places legs)

-- what all legs have that are shown in a list
all-shown : (P : Leg → Type 0) (legs : List PlannedLeg) → ((l : Leg) → Among (map leg_of legs) l → P l) → All (λ l. P (leg_of l)) legs
all-shown P [] h = All-nil (λ l. P (leg_of l))
all-shown P (l ∷ legs) h = All-cons (λ k. P (leg_of k)) l legs (h (leg_of l) (inl refl)) (all-shown P legs (λ k i. h k (inr i)))

all-places : (P : List ℕ → Type 0) (legs : List PlannedLeg) → All (λ l. P l.position) legs → All P (positions_of legs)
all-places P [] h = All-nil P
all-places P (l ∷ legs) h = All-cons P l.position (positions_of legs) (All-head (λ k. P k.position) l legs h) (all-places P legs (All-tail (λ k. P k.position) l legs h))

place-of : (legs : List PlannedLeg) (l : Leg) (p : List ℕ) → Among (map leg_of legs) l → l.position ≡ p → Contains (positions_of legs) p
place-of [] l p i e = absurd i
place-of (k ∷ legs) l p (inl same) e = (0, omega arith, ap (λ m. m.position) same ∙ e)
place-of (k ∷ legs) l p (inr i) e = Contains-append_right (k.position ∷ []) (positions_of legs) p (place-of legs l p i e)

-- ---- the sets

module _ (t : Tree) (P : List ℕ → Type 0) (legs : List PlannedLeg) (all : List Leg) (found : map leg_of legs ≡ all) where
  pub legs-at : IsRising (places all) → ((l : Leg) → Among all l → (pool_at_position t l.position ≡ Some (leaf_of l)) × P l.position) → ((p : List ℕ) → P p → (l : Leg) × Among all l × (l.position ≡ p)) → AreLegsAt t P legs
  legs-at rise only every =
      let own : (l : Leg) → Among (map leg_of legs) l → (pool_at_position t l.position ≡ Some (leaf_of l)) × P l.position = λ l i. only l (subst (λ ls. Among ls l) found i) in
      record {
        pools = all-shown (λ l. pool_at_position t l.position ≡ Some (leaf_of l)) legs (λ l i. (own l i).0);
        rising = subst (AllPairs IsBefore) (shown-places legs) (pairs (places (map leg_of legs)) (subst (λ ls. IsRising (places ls)) (sym found) rise));
        only = all-places P legs (all-shown (λ l. P l.position) legs (λ l i. (own l i).1));
        all = λ p h. let l = every p h in place-of legs l.0 p (subst (λ ls. Among ls l.0) (sym found) l.1) l.2;
      }

pub found_hits : (t : Tree) (op : Op) (rest : List ℕ) (since : Option ℕ) (legs : List PlannedLeg) → map leg_of legs ≡ hits (plan t (asked op rest since)) → (c : Choice) → AreLegsAt t (CanHitAt t (asked op rest since) c) legs
found_hits t op rest since legs found c =
    let s = asked op rest since in
    legs-at t (CanHitAt t s c) legs (hits (plan t s)) found (hits_rise t s)
    (λ l i. let h = marks.hits_are (plan t s) l i in (hits_are_there t s l refl h, (hits_are_exact t op rest since c l.position).1 (l, h, refl)))
    (λ p h. let k = (hits_are_exact t op rest since c p).0 h in (k.0, marks.are_hits (plan t s) k.0 k.1, k.2))

pub found_acknowledged : (t : Tree) (rest : List ℕ) (since : Option ℕ) (legs : List PlannedLeg) → map leg_of legs ≡ acknowledged (plan t (asked Delete rest since)) → (c : Choice) → AreLegsAt t (IsAcknowledged t rest since c) legs
found_acknowledged t rest since legs found c =
    let s = asked Delete rest since in
    legs-at t (IsAcknowledged t rest since c) legs (acknowledged (plan t s)) found (acknowledged_rise t s)
    (λ l i. let h = marks.acknowledged_is (plan t s) l i in (acknowledged_are_there t s l refl h, (acknowledged_is_exact t rest since c l.position).1 (l, h, refl)))
    (λ p h. let k = (acknowledged_is_exact t rest since c p).0 h in (k.0, marks.is_acknowledged (plan t s) k.0 k.1, k.2))
