-- A plan in memory, one level at a time.
use Rattle.std.proofs.Common.{◌≡◌, ℕ, [], ◌∷◌, ◌++◌, map, cond, Some, None, Vec, Box, Global, List, rules}
use Rattle.mcv_base.specs.declared.reply.FixedReply.{FixedReply}
use Rattle.mcv_base.specs.declared.reply.FixedReply.TheVariants.{ErrorRoute}
use Rattle.mcv_base.specs.declared.reply.Outcome.TheVariants.{Error}
use Rattle.mcv_base.specs.Reply.{outcome_of, fixed_value}
use Rattle.mcv_route.specs.Outcomes.{Choice, Outcomes}
use Rattle.mcv_route.specs.Children.{joined, child_or, together, is_within}
use Rattle.mcv_rules.specs.Arrivals.{arrived_at_once, all_arrived, next_arrived}
use Rattle.mcv_rules.specs.PlanInMemory.{launch_of, legs_each, replies_each, searched, next_reply, is_hit, sent, arrived}
use Rattle.mcv_rules.specs.Plan.{both}
use Rattle.mcv_rules.specs.declared.arrival.After.{After}
use Rattle.mcv_rules.specs.declared.arrival.Arrival.{Arrival}
use Rattle.mcv_rules.specs.declared.plan.PlannedLeg.{PlannedLeg}
use Rattle.mcv_rules.specs.declared.plan.Plan.{Plan, Send, Reply, All, Beside, InTurn, OnHit, Shadowed, the_lemmas}

module _ (c : Choice) (o : Outcomes) where
  pub sent-Send : (l : PlannedLeg) → sent c o (Send l) ≡ record { legs = launch_of c l ∷ []; reply = o l.position }
  sent-Send l = search (rules, the_lemmas)

  pub sent-Reply : (f : FixedReply) → sent c o (Reply f) ≡ record { legs = []; reply = Some (outcome_of (fixed_value f)) }
  sent-Reply f = search (rules, the_lemmas)

  pub sent-All : (v : Vec Plan Global) → sent c o (All v) ≡ record { legs = joined (legs_each (map (sent c o) v.items)); reply = together both (Some Error) (replies_each (map (sent c o) v.items)) }
  sent-All v = search (rules, the_lemmas)

  pub sent-Beside : (v : Vec Plan Global) → sent c o (Beside v) ≡ record { legs = joined (legs_each (map (sent c o) v.items)); reply = child_or (Some Error) 0 (replies_each (map (sent c o) v.items)) }
  sent-Beside v = search (rules, the_lemmas)

  pub sent-InTurn : (w : After) (v : Vec Plan Global) → sent c o (InTurn w v) ≡ record { legs = searched w (map (sent c o) v.items); reply = together (next_reply w) (Some Error) (replies_each (map (sent c o) v.items)) }
  sent-InTurn w v = search (rules, the_lemmas)

  pub sent-OnHit : (p q : Box Plan Global) → sent c o (OnHit p q) ≡ record { legs = (sent c o p.value).legs ++ cond (is_hit (sent c o p.value).reply) (sent c o q.value).legs []; reply = (sent c o p.value).reply }
  sent-OnHit p q = search (rules, the_lemmas)

  pub sent-Shadowed : (s a b : ℕ) (p : Box Plan Global) → sent c o (Shadowed s a b p) ≡ record { legs = cond (is_within (record { first = a; last = b }) (c s)) (sent c o p.value).legs []; reply = None }
  sent-Shadowed s a b p = search (rules, the_lemmas)

module _ (own : List ℕ → Arrival) where
  pub arrived-Send : (l : PlannedLeg) → arrived own (Send l) ≡ own l.position
  arrived-Send l = search (rules, the_lemmas)

  pub arrived-Reply : (f : FixedReply) → arrived own (Reply f) ≡ arrived_at_once f
  arrived-Reply f = search (rules, the_lemmas)

  pub arrived-All : (v : Vec Plan Global) → arrived own (All v) ≡ all_arrived (map (arrived own) v.items)
  arrived-All v = search (rules, the_lemmas)

  pub arrived-Beside : (v : Vec Plan Global) → arrived own (Beside v) ≡ child_or (arrived_at_once ErrorRoute) 0 (map (arrived own) v.items)
  arrived-Beside v = search (rules, the_lemmas)

  pub arrived-InTurn : (w : After) (v : Vec Plan Global) → arrived own (InTurn w v) ≡ together (next_arrived w) (arrived_at_once ErrorRoute) (map (arrived own) v.items)
  arrived-InTurn w v = search (rules, the_lemmas)

  pub arrived-OnHit : (p q : Box Plan Global) → arrived own (OnHit p q) ≡ arrived own p.value
  arrived-OnHit p q = search (rules, the_lemmas)
