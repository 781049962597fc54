-- The plan of a call in memory, and that it does what the route's handles say.
use Rattle.std.specs.Prelude.{◌≡◌, ℕ, suc, ⊤, Bool, true, false, List, [], ◌∷◌, ◌++◌, Option, Some, None, map, option_map, slice_index, nat_le, if◌then◌else◌}
use Rattle.mcv_base.specs.declared.operation.Op.{Op}
use Rattle.mcv_base.specs.declared.reply.Outcome.{Outcome}
use Rattle.mcv_base.specs.declared.reply.Outcome.TheVariants.{Error}
use Rattle.mcv_base.specs.declared.reply.FixedReply.TheVariants.{ErrorRoute}
use Rattle.mcv_base.specs.Reply.{outcome_of, fixed_value, is_good}
use Rattle.mcv_route.specs.declared.launch.Answered.{Answered}
use Rattle.mcv_route.specs.declared.launch.Launch.{Launch}
use Rattle.mcv_route.specs.declared.tree.Route.{Route}
use Rattle.mcv_route.specs.declared.tree.OperationPolicy.{OperationPolicy}
use Rattle.mcv_route.specs.declared.tree.PrefixPolicy.{PrefixPolicy}
use Rattle.mcv_route.specs.declared.tree.Shadow.{Shadow}
use Rattle.mcv_route.specs.Outcomes.{Outcomes, Choice}
use Rattle.mcv_route.specs.Tree.{Range, Tree, Trees}
use Rattle.mcv_route.specs.View.{trees_of, view, operation_view, prefix_view, shadow_view}
use Rattle.mcv_route.specs.Situation.{Situation, under}
use Rattle.mcv_route.specs.Children as children
use Rattle.mcv_route.specs.Children.{joined, child_or, together, is_within}
use Rattle.mcv_route.specs.Launched.{launched}
use Rattle.mcv_route.specs.Replies.{replies as replies_of, outcome_of as outcome_of_all}
use Rattle.mcv_route.specs.Reply.{reply, came, arrival}
use Rattle.mcv_rules.specs.Arrivals.{seen, own_arrived, arrived_at_once, all_arrived, goes_on_after, next_arrived}
use Rattle.mcv_rules.specs.History.{history_of}
use Rattle.mcv_rules.specs.Plan.{both}
use Rattle.mcv_rules.specs.Plans.{plan}
use Rattle.mcv_rules.specs.Soundness.{positions}
use Rattle.mcv_rules.specs.Places.{is_plain, kind_of, places_of}
use Rattle.mcv_rules.specs.NormalForm.{part, part_of}
use Rattle.mcv_rules.specs.declared.arrival.After.{After}
use Rattle.mcv_rules.specs.declared.arrival.Arrival.{Arrival}
use Rattle.mcv_rules.specs.declared.asked.Asked.{Asked}
use Rattle.mcv_rules.specs.declared.asked.Way.{Way}
use Rattle.mcv_rules.specs.declared.asked.Way.TheVariants as ways
use Rattle.mcv_rules.specs.declared.plan.PlannedLeg.{PlannedLeg}
use Rattle.mcv_rules.specs.declared.plan.Plan.{Plan}
use Rattle.mcv_rules.specs.declared.plan.Plan.TheOpen.{Plan-F}
use Rattle.mcv_rules.specs.declared.plan.Plan.TheFolds.{fold-Plan}

-- the children of a handle that has a list of them
abbrev pub children_of : List Route → Trees
children_of routes = trees_of (map view routes)

-- the operations of policies
abbrev pub operations_of : List OperationPolicy → List (Option Op)
operations_of policies = map (λ p. p.0) (map operation_view policies)

-- the prefixes of policies
abbrev pub prefixes_of : List PrefixPolicy → List (List ℕ)
prefixes_of policies = map (λ p. p.0) (map prefix_view policies)

-- of the longest prefix so far, by its policy's number and its length, and one more the longer, and the last of equals
abbrev pub longer_of : Option (ℕ × ℕ) → ℕ × ℕ → Option (ℕ × ℕ)
longer_of None b = Some b
longer_of (Some a) b = if nat_le a.1 b.1 then Some b else Some a

-- the ranges of shadows, and their targets
abbrev pub ranges_of : List Shadow → List Range
ranges_of shadows = map (λ s. s.0) (map shadow_view shadows)

abbrev pub targets_of : List Shadow → Trees
targets_of shadows = trees_of (map (λ s. s.1) (map shadow_view shadows))

abbrev pub situation_at : Asked → List ℕ → Situation
situation_at a position = record { op = a.op; rest = a.rest.now; since = option_map (λ m. m.0) a.since; mark = a.mark; position = position }

abbrev pub way_seen : Way → children.Way
way_seen ways.From = children.to_from
way_seen ways.To = children.to_to
way_seen ways.Both = children.to_both

-- ---- what a plan sends

-- the leg under a choice
abbrev pub launch_of : Choice → PlannedLeg → Launch
launch_of c l = record { position = l.position; server = record { 0 = slice_index (map (λ s. s.0) l.servers.value.items) (c l.symbol) }; op = l.op; mark = l.mark }

-- what a plan has sent, and what its reply amounts to, if it is there
pub record Sent : Type 0 where
  pub legs : List Launch
  pub reply : Option Outcome

abbrev pub legs_each : List Sent → List (List Launch)
legs_each sent = map (λ x. x.legs) sent

abbrev pub replies_each : List Sent → List (Option Outcome)
replies_each sent = map (λ x. x.reply) sent

-- the legs of each plan before which the search goes on after all
abbrev pub searched : After → List Sent → List Launch
searched w [] = []
searched w (x ∷ more) = x.legs ++ (if goes_on_after w x.reply then searched w more else [])

-- the first reply, or where the search goes on the second
abbrev pub next_reply : After → Option Outcome → Option Outcome → Option Outcome
next_reply w x y = if goes_on_after w x then y else x

abbrev pub is_hit : Option Outcome → Bool
is_hit None = false
is_hit (Some x) = is_good x

abbrev pub sent_step : Choice → Outcomes → Plan-F Sent → Sent
sent_step c o (Plan-F.Send l) = record { legs = launch_of c l ∷ []; reply = o l.position }
sent_step c o (Plan-F.Reply f) = record { legs = []; reply = Some (outcome_of (fixed_value f)) }
sent_step c o (Plan-F.All plans) = record { legs = joined (legs_each plans.items); reply = together both (Some Error) (replies_each plans.items) }
sent_step c o (Plan-F.Beside plans) = record { legs = joined (legs_each plans.items); reply = child_or (Some Error) 0 (replies_each plans.items) }
sent_step c o (Plan-F.InTurn w plans) = record { legs = searched w plans.items; reply = together (next_reply w) (Some Error) (replies_each plans.items) }
sent_step c o (Plan-F.OnHit first after) = record { legs = first.value.legs ++ (if is_hit first.value.reply then after.value.legs else []); reply = first.value.reply }
sent_step c o (Plan-F.Shadowed symbol first last target) =
    record { legs = if is_within (record { first = first; last = last }) (c symbol) then target.value.legs else []; reply = None }

-- what the plan has sent under the choice, once exactly these outcomes are known
abbrev pub sent : Choice → Outcomes → Plan → Sent
sent c o = fold-Plan Sent (sent_step c o)

-- ---- what a plan answers

-- by the answer of each position's leg
abbrev pub arrived_step : (List ℕ → Arrival) → Plan-F Arrival → Arrival
arrived_step own (Plan-F.Send l) = own l.position
arrived_step own (Plan-F.Reply f) = arrived_at_once f
arrived_step own (Plan-F.All plans) = all_arrived plans.items
arrived_step own (Plan-F.Beside plans) = child_or (arrived_at_once ErrorRoute) 0 plans.items
arrived_step own (Plan-F.InTurn w plans) = together (next_arrived w) (arrived_at_once ErrorRoute) plans.items
arrived_step own (Plan-F.OnHit first after) = first.value
arrived_step own (Plan-F.Shadowed symbol first last target) = target.value

-- the plan's answer, and when it came
abbrev pub arrived : (List ℕ → Arrival) → Plan → Arrival
arrived own = fold-Plan Arrival (arrived_step own)

-- ---- that it serves a tree

-- the plan sends and answers as the route does in the situation, by legs at the same positions
pub record Serves (p : Plan) (t : Tree) (s : Situation) : Type 0 where
  pub sends : (c : Choice) (o : Outcomes) → (sent c o p).legs ≡ launched t s c o
  pub replies : (c : Choice) (o : Outcomes) → (sent c o p).reply ≡ outcome_of_all (replies_of t s o)
  -- a shadow is nowhere but beside what it shadows
  pub kind : is_plain (kind_of p) ≡ true
  -- its legs have the positions of the normal form's, in order
  pub places : places_of p ≡ positions (plan t s)
  -- it is the normal form
  pub whole : part_of p ≡ part (plan t s)
  pub answers : (xs : List Answered) → arrived (own_arrived xs) p ≡ seen s.op xs (arrival (reply t s (history_of xs)) (came t s (history_of xs)))

-- each plan serves the child with its number, the first of which is k
abbrev pub ServeEach : ℕ → List Plan → List Tree → Situation → Type 0
ServeEach k [] [] s = ⊤
ServeEach k [] (t ∷ ts) s = ⊥
ServeEach k (p ∷ ps) [] s = ⊥
ServeEach k (p ∷ ps) (t ∷ ts) s = Serves p t (under k s) × ServeEach (suc k) ps ts s
