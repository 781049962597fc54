-- Legs of a plan have positions of their own, so one move takes each to its place in the plan that does the same.
use Rattle.std.proofs.Common.{◌≡◌, ◌≢◌, ◌⊎◌, inl, inr, cond, Bool, true, false, ℕ, List, [], ◌∷◌, ◌++◌, refl, sym, ap, ◌∙◌, subst, append_assoc}
use Rattle.std.specs.Prelude.{⊤}
use Rattle.mcv_route.specs.Outcomes.{is_same}
use Rattle.mcv_route.specs.Routes.{RoutesValue}
use Rattle.mcv_rules.specs.Plan.{Leg, Plan, Send, Reply, Both, Beside, OnError, OnMiss, OnHit, Shadowed}
use Rattle.mcv_rules.specs.Soundness.{AreApart, In, IsApart, positions}
use Rattle.mcv_rules.proofs.Orders.{same_is, same_self, in_left, in_right}
use Rattle.mcv_alike.specs.Alike.{Move}
use Rattle.mcv_alike.specs.Plans.{AreOnePlan}
use Rattle.mcv_alike.proofs.Moves.{IsMoved}

-- positions, each with the one to which it is moved
abbrev pub Steps : Type 0
Steps = List (List ℕ × List ℕ)

abbrev pub move_by : Steps → Move
move_by [] p = p
move_by (e ∷ es) p = cond (is_same e.0 p) e.1 (move_by es p)

abbrev pub steps : Plan → Plan → Steps
steps (Send k) (Send l) = (k.position, l.position) ∷ []
steps (Both t u) (Both v w) = steps t v ++ steps u w
steps (Beside t u) (Beside v w) = steps t v ++ steps u w
steps (OnError t u) (OnError v w) = steps t v ++ steps u w
steps (OnMiss t u) (OnMiss v w) = steps t v ++ steps u w
steps (OnHit t u) (OnHit v w) = steps t v ++ steps u w
steps (Shadowed s a b t u) (Shadowed z c d v w) = steps t v ++ steps u w
steps t u = []

-- none of the steps is from the position
abbrev pub IsFree : Steps → List ℕ → Type 0
IsFree [] p = ⊤
IsFree (e ∷ es) p = (is_same e.0 p ≡ false) × IsFree es p

free_both : (es fs : Steps) (p : List ℕ) → IsFree es p → IsFree fs p → IsFree (es ++ fs) p
free_both [] fs p a b = b
free_both (e ∷ es) fs p a b = (a.0, free_both es fs p a.1 b)

past : (es fs : Steps) (p : List ℕ) → IsFree es p → move_by (es ++ fs) p ≡ move_by fs p
past [] fs p free = refl
past (e ∷ es) fs p free = ap (λ b. cond b e.1 (move_by (es ++ fs) p)) free.0 ∙ past es fs p free.1

not_same : (q p : List ℕ) → (q ≡ p → ⊥) → is_same q p ≡ false
not_same q p h = by (is_same q p) refl
  where
    by : (b : Bool) → is_same q p ≡ b → b ≡ false
    by true e = absurd (h (same_is q p e))
    by false e = refl

either : (t u v w : Plan) (p : List ℕ) → ((In (positions t) p → ⊥) → IsFree (steps t v) p) → ((In (positions u) p → ⊥) → IsFree (steps u w) p)
    → (In (positions t ++ positions u) p → ⊥) → IsFree (steps t v ++ steps u w) p
either t u v w p f g h = free_both (steps t v) (steps u w) p (f (λ i. h (in_left (positions t) (positions u) p i))) (g (λ i. h (in_right (positions t) (positions u) p i)))

module _ (r n : RoutesValue) where
  -- no step is from where no leg is
  unstepped : (t u : Plan) → AreOnePlan r n t u → (p : List ℕ) → (In (positions t) p → ⊥) → IsFree (steps t u) p
  unstepped (Send k) (Send l) one p h = (not_same k.position p (λ e. h (inl e)), tt)
  unstepped (Reply x) (Reply y) one p h = tt
  unstepped (Both t u) (Both v w) one p h = either t u v w p (unstepped t v one.0 p) (unstepped u w one.1 p) h
  unstepped (Beside t u) (Beside v w) one p h = either t u v w p (unstepped t v one.0 p) (unstepped u w one.1 p) h
  unstepped (OnError t u) (OnError v w) one p h = either t u v w p (unstepped t v one.0 p) (unstepped u w one.1 p) h
  unstepped (OnMiss t u) (OnMiss v w) one p h = either t u v w p (unstepped t v one.0 p) (unstepped u w one.1 p) h
  unstepped (OnHit t u) (OnHit v w) one p h = either t u v w p (unstepped t v one.0 p) (unstepped u w one.1 p) h
  unstepped (Shadowed s a b t u) (Shadowed z c d v w) one p h = either t u v w p (unstepped t v one.3 p) (unstepped u w one.4 p) h
  unstepped t u one p h = absurd one

-- that a move by these steps, between others, takes each leg to its place
abbrev Finds : Plan → Plan → Type 0
Finds t u = (before behind : Steps) → ((p : List ℕ) → In (positions t) p → IsFree before p) → IsMoved (move_by (before ++ (steps t u ++ behind))) t u

-- those of two plans one behind the other
in_parts : (t u v w : Plan) → AreApart t u → ((p : List ℕ) → (In (positions t) p → ⊥) → IsFree (steps t v) p) → Finds t v → Finds u w
    → (before behind : Steps) → ((p : List ℕ) → In (positions t ++ positions u) p → IsFree before p)
    → IsMoved (move_by (before ++ ((steps t v ++ steps u w) ++ behind))) t v × IsMoved (move_by (before ++ ((steps t v ++ steps u w) ++ behind))) u w
in_parts t u v w apart un f g before behind free =
    let first = f before (steps u w ++ behind) (λ p i. free p (in_left (positions t) (positions u) p i)) in
    let second = g (before ++ steps t v) behind (λ p i. free_both before (steps t v) p (free p (in_right (positions t) (positions u) p i)) (un p (λ j. apart p j i))) in (
      subst (λ es. IsMoved (move_by (before ++ es)) t v) (sym (append_assoc (steps t v) (steps u w) behind)) first,
      subst (λ es. IsMoved (move_by es) u w) (append_assoc before (steps t v) (steps u w ++ behind) ∙ ap (λ es. before ++ es) (sym (append_assoc (steps t v) (steps u w) behind))) second,
    )

module _ (r n : RoutesValue) where
  finds : (t u : Plan) → AreOnePlan r n t u → IsApart t → Finds t u
  finds (Send k) (Send l) one apart before behind free =
      past before ((k.position, l.position) ∷ behind) k.position (free k.position (inl refl)) ∙ ap (λ b. cond b l.position (move_by behind k.position)) (same_self k.position)
  finds (Reply x) (Reply y) one apart before behind free = tt
  finds (Both t u) (Both v w) one apart before behind free = in_parts t u v w apart.2 (unstepped r n t v one.0) (finds t v one.0 apart.0) (finds u w one.1 apart.1) before behind free
  finds (Beside t u) (Beside v w) one apart before behind free = in_parts t u v w apart.2 (unstepped r n t v one.0) (finds t v one.0 apart.0) (finds u w one.1 apart.1) before behind free
  finds (OnError t u) (OnError v w) one apart before behind free = in_parts t u v w apart.2 (unstepped r n t v one.0) (finds t v one.0 apart.0) (finds u w one.1 apart.1) before behind free
  finds (OnMiss t u) (OnMiss v w) one apart before behind free = in_parts t u v w apart.2 (unstepped r n t v one.0) (finds t v one.0 apart.0) (finds u w one.1 apart.1) before behind free
  finds (OnHit t u) (OnHit v w) one apart before behind free = in_parts t u v w apart.2 (unstepped r n t v one.0) (finds t v one.0 apart.0) (finds u w one.1 apart.1) before behind free
  finds (Shadowed s a b t u) (Shadowed z c d v w) one apart before behind free = in_parts t u v w apart.2 (unstepped r n t v one.3) (finds t v one.3 apart.0) (finds u w one.4 apart.1) before behind free
  finds t u one apart before behind free = absurd one

  pub move_exists : (t u : Plan) → AreOnePlan r n t u → IsApart t → (m : Move) × IsMoved m t u
  move_exists t u one apart = (move_by (steps t u ++ []), finds t u one apart [] [] (λ p i. tt))
