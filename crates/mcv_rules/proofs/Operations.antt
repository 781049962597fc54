-- The operation of each leg.
use Rattle.std.proofs.Common.{◌≡◌, ◌⊎◌, inl, inr, ℕ, suc, true, refl, sym, ◌∙◌, true≢false}
use Rattle.mcv_base.specs.declared.operation.Op.{Op}
use Rattle.mcv_base.specs.declared.operation.Op.TheVariants.{Add}
use Rattle.mcv_base.specs.Operation.{is_reading}
use Rattle.mcv_route.specs.Children.{way_of, policy_of, prefix_policy}
use Rattle.mcv_route.specs.Launched.{launched}
use Rattle.mcv_route.specs.Situation.{Situation, under, adding, asynchronous, shadowed}
use Rattle.mcv_route.specs.Tree.{Tree, Trees, pool, null, error, many, warm_up, migrate, prefix_selector, operation_selector, none, child}
use Rattle.mcv_rules.specs.Plan.{Leg, Send, Both, OnMiss, OnHit}
use Rattle.mcv_rules.specs.Plans.{leg_of, plan, plan_each}
use Rattle.mcv_rules.specs.Rows.{LegsHaveTheOperation, OwnOperation}
use Rattle.mcv_rules.proofs.EachLeg.{AllLegs, AllLegsEach, all_among, all_chosen, all_many, all_shadows, all_so, all_way, all_when, launches_have}

-- the operation that is asked, or the add of a warm-up
abbrev HasOperation : Op → Op → Type 0
HasOperation asked op = (op ≡ asked) ⊎ ((is_reading asked ≡ true) × (op ≡ Add))

abbrev HaveOperation : Op → Leg → Type 0
HaveOperation asked l = HasOperation asked l.op

-- what is sent for the add is an add
added : (asked : Op) → is_reading asked ≡ true → (l : Leg) → HaveOperation Add l → HaveOperation asked l
added asked reads l (inl e) = inr (reads, e)
added asked reads l (inr q) = absurd (true≢false (sym q.0))

mutual
  operation_of : (t : Tree) (s : Situation) → AllLegs (HaveOperation s.op) (plan t s)
  operation_of (pool p ranges targets) s =
      all_shadows (HaveOperation s.op) p.symbol 0 (Send (leg_of p s)) ranges (plan_each 0 targets (shadowed s)) (inl refl) (operation_of_each 0 targets (shadowed s))
  operation_of null s = tt
  operation_of error s = tt
  operation_of (many kind ts) s = all_many (HaveOperation s.op) kind ts s (operation_of_each 0 ts s) (operation_of_each 0 ts (asynchronous s))
  operation_of (warm_up cold warm exptime) s =
      let filling = plan cold (under 2 (adding s)) in
      all_when (HaveOperation s.op) (is_reading s.op) (OnMiss (plan cold (under 0 s)) (OnHit (plan warm (under 1 s)) filling)) (plan cold (under 0 s))
      (λ reads. (operation_of cold (under 0 s), (operation_of warm (under 1 s), all_so (HaveOperation Add) (HaveOperation s.op) (added s.op reads) filling (operation_of cold (under 2 (adding s))))))
      (operation_of cold (under 0 s))
  operation_of (migrate from to start interval) s =
      let first = operation_of from (under 0 s) in
      let second = operation_of to (under 1 s) in
      all_way (HaveOperation s.op) (way_of s start interval) (plan from (under 0 s)) (plan to (under 1 s)) (Both (plan from (under 0 s)) (plan to (under 1 s))) first second (first, second)
  operation_of (prefix_selector prefixes ts) s = all_chosen (HaveOperation s.op) 0 (prefix_policy s.rest prefixes) (plan_each 0 ts s) (operation_of_each 0 ts s)
  operation_of (operation_selector ops ts) s = all_chosen (HaveOperation s.op) 0 (policy_of s.op ops) (plan_each 0 ts s) (operation_of_each 0 ts s)

  operation_of_each : (k : ℕ) (ts : Trees) (s : Situation) → AllLegsEach (HaveOperation s.op) k (plan_each k ts s)
  operation_of_each k none s = tt
  operation_of_each k (child t ts) s = (operation_of t (under k s), operation_of_each (suc k) ts s)

pub legs_have_the_operation : LegsHaveTheOperation
legs_have_the_operation t s c o l h =
    all_among (λ m. HasOperation s.op m.op) (launched t s c o) l (launches_have (HaveOperation s.op) (λ m. HasOperation s.op m.op) t s c o (λ k e. e) (operation_of t s)) h

pub own_operation : OwnOperation
own_operation t s c o l writes h =
    elim (legs_have_the_operation t s c o l h) [
      | inl e ↦ e
      | inr q ↦ absurd (true≢false (sym q.0 ∙ writes))
    ]
