-- What holds of plans by their structure, said by the sets.
use Rattle.std.proofs.Common.{◌≡◌, ◌≢◌, ◌⊎◌, inl, inr, ℕ, ◌<◌, ◌≤◌, true, List, [], length, arith, Option, Some, refl, sym, ap, ◌∙◌, subst}
use Rattle.std.specs.Prelude.{slice_index}
use Rattle.std.proofs.lemmas.Bool.{cases_lt}
use Rattle.std.proofs.lemmas.Option.{same_Some}
use Rattle.mcv_base.specs.declared.operation.Mark.TheVariants.{Plain}
use Rattle.mcv_base.specs.Operation.{shows_value}
use Rattle.mcv_base.specs.declared.operation.Op.{Op}
use Rattle.mcv_base.specs.declared.operation.Op.TheVariants.{Get, Delete}
use Rattle.mcv_base.specs.declared.reply.Outcome.TheVariants.{Good, Error}
use Rattle.mcv_symbolic.specs.Sets.{CanHitAt}
use Rattle.mcv_route.specs.Outcomes.{Choice}
use Rattle.mcv_route.specs.Places.{pool_at_position}
use Rattle.mcv_route.specs.Situation.{asked}
use Rattle.mcv_route.specs.Tree.{Pool, Tree}
use Rattle.mcv_rules.specs.Plan.{Leg, Plan}
use Rattle.mcv_rules.specs.Plans.{plan}
use Rattle.mcv_rules.proofs.PlansAreSound
use Rattle.mcv_symbolic.specs.JustifiedRoutes as sets
use Rattle.mcv_symbolic.specs.JustifiedRoutes.{IsAcknowledgedPool, IsNeverAcknowledged, IsReadableAt, SymbolsAreIndependent}
use Rattle.mcv_symbolic.specs.Laws.{CoveredIsJustified}
use Rattle.mcv_symbolic.specs.Structure.{if_all, Acknowledged, Hits}
use Rattle.mcv_symbolic.proofs.CoveredPlans.{error_or_not}
use Rattle.mcv_symbolic.proofs.Exactness.{acknowledged_is_exact, done_is_exact, hits_are_exact}
use Rattle.mcv_symbolic.proofs.Marks
use Rattle.mcv_symbolic.proofs.JustifiedPlans as plans
use Rattle.mcv_symbolic.proofs.PoolOfLeg.{leaf_of, acknowledged_are_there, hits_are_there}
use Rattle.mcv_symbolic.proofs.RouteByPlan.{covered_by_plans, reading}
use Rattle.mcv_symbolic.proofs.Symbols

any_choice : Choice
any_choice s = 0

-- a leg of the pool, at no place
abbrev leg_of : Pool → Leg
leg_of p = record { position = []; symbol = p.symbol; servers = p.servers; op = Get; mark = Plain }

module _ (sizes : List ℕ) (t : Tree) (rest : List ℕ) (since : Option ℕ) where
  abbrev delete : Plan
  delete = plan t (asked Delete rest since)

  -- ---- acknowledged pools

  leg-pool : (m : Leg) → Acknowledged delete m → IsAcknowledgedPool t rest since (leaf_of m)
  leg-pool m h = (m.position, acknowledged_are_there t (asked Delete rest since) m refl h, λ c. (acknowledged_is_exact t rest since c m.position).1 (m, h, refl))

  pool-leg : (m : Pool) → IsAcknowledgedPool t rest since m → (l : Leg) × Acknowledged delete l × (leaf_of l ≡ m)
  pool-leg m h =
      let k = (acknowledged_is_exact t rest since any_choice h.0).0 (h.2 any_choice) in
      (k.0, k.1, same_Some (leaf_of k.0) m (sym (acknowledged_are_there t (asked Delete rest since) k.0 refl k.1) ∙ ap (pool_at_position t) k.2 ∙ h.1))

  answered-sets : (leaf : Leg) (i : ℕ) → plans.IsAnswered sizes delete leaf i → sets.IsAnswered sizes t rest since (leaf_of leaf) i
  answered-sets leaf i h = (h.0, h.1, λ j lt may. let m = h.2 j lt may in (leaf_of m.0, leg-pool m.0 m.1, m.2, m.3))

  answered-plans : (leaf : Leg) (i : ℕ) → sets.IsAnswered sizes t rest since (leaf_of leaf) i → plans.IsAnswered sizes delete leaf i
  answered-plans leaf i h = (
    h.0,
    h.1,
    λ j lt may.
        let m = h.2 j lt may in
        let l = pool-leg m.0 m.1 in
        (l.0, l.1, ap (λ p. p.symbol) l.2 ∙ m.2, ap (λ p. slice_index p.servers j) l.2 ∙ m.3),
  )

  always-sets : (leaf : Leg) (i : ℕ) → plans.IsAlwaysAnswered sizes delete leaf i → sets.IsAlwaysAnswered sizes t rest since (leaf_of leaf) i
  always-sets leaf i h c is own = let m = h c is own in (leaf_of m.0, leg-pool m.0 m.1, m.2)

  always-plans : (leaf : Leg) (i : ℕ) → sets.IsAlwaysAnswered sizes t rest since (leaf_of leaf) i → plans.IsAlwaysAnswered sizes delete leaf i
  always-plans leaf i h c is own =
      let m = h c is own in
      let l = pool-leg m.0 m.1 in
      (l.0, l.1, ap (λ p. slice_index p.servers (c p.symbol)) l.2 ∙ m.2)

  -- ---- justified

  never-sets : if_all Good delete ≡ Error → IsNeverAcknowledged t rest since
  never-sets e c can = (done_is_exact t rest since c).0 can e

  never-plans : IsNeverAcknowledged t rest since → if_all Good delete ≡ Error
  never-plans never =
      elim (error_or_not (if_all Good delete)) [
        | inl e ↦ e
        | inr ne ↦ absurd (never any_choice ((done_is_exact t rest since any_choice).1 ne))
      ]

  module _ (read : Option ℕ) where
    abbrev CanRead : Leg → Type 0
    CanRead l = (op : Op) × (shows_value op ≡ true) × Hits (reading t rest read op) l

    readable-leg : (p : List ℕ) (leaf : Pool) → IsReadableAt t rest read p → pool_at_position t p ≡ Some leaf → (l : Leg) × CanRead l × (leaf_of l ≡ leaf)
    readable-leg p leaf h at =
        let k = (hits_are_exact t h.0 rest read h.2 p).0 h.3 in
        (k.0, (h.0, h.1, k.1), same_Some (leaf_of k.0) leaf (sym (hits_are_there t (asked h.0 rest read) k.0 refl k.1) ∙ ap (pool_at_position t) k.2 ∙ at))

    leg-readable : (l : Leg) → CanRead l → IsReadableAt t rest read l.position × (pool_at_position t l.position ≡ Some (leaf_of l))
    leg-readable l g = ((g.0, g.1, any_choice, (hits_are_exact t g.0 rest read any_choice l.position).1 (l, g.2, refl)), hits_are_there t (asked g.0 rest read) l refl g.2)

    abbrev IsJustifiedByPlans : Type 0
    IsJustifiedByPlans = plans.IsJustified sizes (reading t rest read) delete

    justified-sets : IsJustifiedByPlans → sets.IsJustified sizes t rest since read
    justified-sets (inl e) = inl (never-sets e)
    justified-sets (inr all) = inr (λ p leaf i readable at lt.
        let l = readable-leg p leaf readable at in
        let size : i < slice_index sizes l.0.symbol = subst (λ q. i < slice_index sizes q.symbol) (sym l.2) lt in
        subst (λ q. sets.IsAnswered sizes t rest since q i) l.2 (answered-sets l.0 i (all l.0 i l.1.0 l.1.1 l.1.2 size)))

    justified-plans : sets.IsJustified sizes t rest since read → IsJustifiedByPlans
    justified-plans (inl never) = inl (never-plans never)
    justified-plans (inr all) = inr (λ l i op shows hit lt. let k = leg-readable l (op, shows, hit) in answered-plans l i (all l.position (leaf_of l) i k.0 k.1 lt))

-- ---- one choice, and each symbol by itself

module _ (sizes : List ℕ) (t : Tree) (rest : List ℕ) (since : Option ℕ) (leaf : Pool) (i : ℕ) where
  abbrev Misses : ℕ → ℕ → Type 0
  Misses s j = (m : Pool) → IsAcknowledgedPool t rest since m → m.symbol ≡ s → slice_index m.servers j ≢ slice_index leaf.servers i

  -- an index that serves for this symbol
  abbrev Serves : ℕ → ℕ → Type 0
  Serves s j = (j < slice_index sizes s) × (s ≡ leaf.symbol → j ≡ i) × Misses s j

  by-each : sets.IsEverMissed sizes t rest since leaf i → sets.IsMissedByEach sizes t rest since leaf i
  by-each h s low = (h.0 s, h.1 s low, (λ e. ap h.0 e ∙ h.2), λ m is own same. h.3 m is (ap (λ k. slice_index m.servers (h.0 k)) own ∙ same))

  module _ (each : sets.IsMissedByEach sizes t rest since leaf i) where
    abbrev index : (s : ℕ) → (s < length sizes) ⊎ (length sizes ≤ s) → ℕ
    index s (inl low) = (each s low).0
    index s (inr high) = 0

    serves : (s : ℕ) (at : (s < length sizes) ⊎ (length sizes ≤ s)) → s < length sizes → Serves s (index s at)
    serves s (inl low) h = let e = each s low in (e.1, e.2, e.3)
    serves s (inr high) h = absurd (omega (arith, high, h))

    abbrev chosen : Choice
    chosen s = index s (cases_lt s (length sizes))

    one-choice : leaf.symbol < length sizes → ((m : Pool) → IsAcknowledgedPool t rest since m → m.symbol < length sizes) → sets.IsEverMissed sizes t rest since leaf i
    one-choice size known = (
      chosen,
      (λ s low. (serves s (cases_lt s (length sizes)) low).0),
      (serves leaf.symbol (cases_lt leaf.symbol (length sizes)) size).1 refl,
      λ m is. (serves m.symbol (cases_lt m.symbol (length sizes)) (known m is)).2 m is refl,
    )

pub symbols_are_independent : SymbolsAreIndependent
symbols_are_independent sizes t rest since leaf i w size lt =
    let sized = (PlansAreSound.plan_sound sizes t Delete rest since w).0 in
    let law = Symbols.symbols_are_independent sizes (delete sizes t rest since) (leg_of leaf) i sized size lt in
    let known : (m : Pool) → IsAcknowledgedPool t rest since m → m.symbol < length sizes =
    λ m is. let l = pool-leg sizes t rest since m is in subst (λ p. p.symbol < length sizes) l.2 (Marks.acknowledged_sized sizes (delete sizes t rest since) l.0 sized l.1) in (
      (
        λ always. answered-sets sizes t rest since (leg_of leaf) i (law.0 (always-plans sizes t rest since (leg_of leaf) i always)),
        λ answered. always-sets sizes t rest since (leg_of leaf) i (law.1 (answered-plans sizes t rest since (leg_of leaf) i answered)),
      ),
      (by-each sizes t rest since leaf i, λ each. one-choice sizes t rest since leaf i each size known),
    )

pub covered_is_justified : CoveredIsJustified
covered_is_justified sizes t rest since read w =
    let law = covered_by_plans sizes t rest since read w in
    (λ h. justified-sets sizes t rest since read (law.0 h), λ h. law.1 (justified-plans sizes t rest since read h))
