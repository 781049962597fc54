-- The outcomes that are shown of a get: its answer can be the leaf's hit.
use Rattle.std.proofs.Common.{◌≡◌, ◌<◌, ◌≤◌, ℕ, true, List, Option, Some, None, refl, sym, ◌∙◌, arith}
use Rattle.std.proofs.lemmas.Option.{none-some}
use Rattle.mcv_base.specs.Operation.{op_number, shows_value}
use Rattle.mcv_base.specs.declared.operation.Op.{Op}
use Rattle.mcv_base.specs.declared.operation.Op.TheVariants.{Get, Gets, Incr, Decr}
use Rattle.mcv_route.proofs.Readings.{each_of_four}
use Rattle.mcv_route.specs.Outcomes.{Choice, History, outcomes}
use Rattle.mcv_route.specs.Situation.{asked}
use Rattle.mcv_route.specs.Tree.{Tree}
use Rattle.mcv_route.specs.Verdict.{IsHit, IsReachable}
use Rattle.mcv_rules.specs.Plan.{Plan}
use Rattle.mcv_rules.specs.Plans.{plan}
use Rattle.mcv_rules.specs.Soundness.{positions}
use Rattle.mcv_rules.proofs.Orders
use Rattle.mcv_rules.proofs.LegsRise.{plan_rises}
use Rattle.mcv_rules.proofs.PlansAreSound
use Rattle.mcv_rules.proofs.Verdicts
use Rattle.mcv_symbolic.specs.JustifiedRoutes.{IsReadableAt}
use Rattle.mcv_symbolic.specs.Sets.{CanHitAt}
use Rattle.mcv_symbolic.proofs.Exactness.{hits_are_exact}
use Rattle.mcv_symbolic.proofs.SizesOfTrees.{formed, sizes_for}
use Rattle.mcv_witness.specs.Breaks.{AreRising}
use Rattle.mcv_symbolic.specs.ShownAnswers.{leaf_hit}
use Rattle.mcv_make.proofs.ShownHits.{HasHitAt, leaf_hit_right, shown}
use Rattle.mcv_make.proofs.OutcomeOrder.{are-rising}

module _ (t : Tree) (op : Op) (rest : List ℕ) (since : Option ℕ) (p : List ℕ) where
  abbrev get : Plan
  get = plan t (asked op rest since)

  -- where the leaf can hit, outcomes are shown
  pub is-shown : (c : Choice) → CanHitAt t (asked op rest since) c p → (es : History) × (leaf_hit p get ≡ Some es)
  is-shown c h = let k = (hits_are_exact t op rest since c p).0 h in shown p get k.0 (PlansAreSound.plan_sound (sizes_for t) t op rest since (formed t)).3 k.2 k.1

  -- where none are shown, it can't
  pub cannot : (c : Choice) → leaf_hit p get ≡ None → CanHitAt t (asked op rest since) c p → ⊥
  cannot c none h = let s = is-shown c h in none-some s.0 (sym none ∙ s.1)

  module _ (es : History) (led : leaf_hit p get ≡ Some es) where
    has : HasHitAt p get es
    has = let s = PlansAreSound.plan_sound (sizes_for t) t op rest since (formed t) in leaf_hit_right p get es s.2 s.3 led

    pub reached : (c : Choice) → IsReachable t (asked op rest since) c (outcomes es)
    reached c = Verdicts.planned_reachable t (asked op rest since) c (outcomes es) (Orders.closed_reachable get c (outcomes es) (λ q y e. has.shows.sent c (outcomes es) (λ r j. refl) q y e))

    pub hits : IsHit t (asked op rest since) (outcomes es) p
    hits = (Verdicts.hit_is_planned t (asked op rest since) (outcomes es) p).1 (has.leg, has.shows.hit (outcomes es) (λ r j. refl), has.at)

    pub rises : AreRising es
    rises = are-rising (positions get) es (plan_rises t (asked op rest since)) has.ordered

module _ (t : Tree) (rest : List ℕ) (since : Option ℕ) (p : List ℕ) where
  abbrev NoneShown : Op → Type 0
  NoneShown op = leaf_hit p (plan t (asked op rest since)) ≡ None

  -- a leaf that can be read is shown to hit by get, gets, incr or decr
  pub one-reads : NoneShown Get → NoneShown Gets → NoneShown Incr → NoneShown Decr → IsReadableAt t rest since p → ⊥
  one-reads get gets incr decr h =
      each_of_four (λ op. CanHitAt t (asked op rest since) h.2 p → ⊥) (cannot t Get rest since p h.2 get) (cannot t Gets rest since p h.2 gets) (cannot t Incr rest since p h.2 incr) (cannot t Decr rest since p h.2 decr) h.0 h.1 h.3

  -- the operation can't be answered from the leaf, if its number is less than n
  abbrev CannotBelow : ℕ → Op → Type 0
  CannotBelow n op = op_number op < n → (c : Choice) → CanHitAt t (asked op rest since) c p → ⊥

  none : (n : ℕ) (op : Op) → NoneShown op → CannotBelow n op
  none n op is low c = cannot t op rest since p c is

  later : (n : ℕ) (op : Op) → n ≤ op_number op → CannotBelow n op
  later n op high low c h = absurd (omega (arith, high, low))

  -- the first of the four at which the leaf is shown to hit
  pub get_first : (op : Op) → shows_value op ≡ true → CannotBelow 0 op
  get_first = each_of_four (CannotBelow 0) (later 0 Get (omega arith)) (later 0 Gets (omega arith)) (later 0 Incr (omega arith)) (later 0 Decr (omega arith))

  pub gets_first : NoneShown Get → (op : Op) → shows_value op ≡ true → CannotBelow 1 op
  gets_first get = each_of_four (CannotBelow 1) (none 1 Get get) (later 1 Gets (omega arith)) (later 1 Incr (omega arith)) (later 1 Decr (omega arith))

  pub incr_first : NoneShown Get → NoneShown Gets → (op : Op) → shows_value op ≡ true → CannotBelow 10 op
  incr_first get gets = each_of_four (CannotBelow 10) (none 10 Get get) (none 10 Gets gets) (later 10 Incr (omega arith)) (later 10 Decr (omega arith))

  pub decr_first : NoneShown Get → NoneShown Gets → NoneShown Incr → (op : Op) → shows_value op ≡ true → CannotBelow 11 op
  decr_first get gets incr = each_of_four (CannotBelow 11) (none 11 Get get) (none 11 Gets gets) (none 11 Incr incr) (later 11 Decr (omega arith))
