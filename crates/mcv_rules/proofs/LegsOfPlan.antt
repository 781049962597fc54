-- The legs by handle are those of the plan, in the same order.
use Rattle.std.proofs.Common.{◌≡◌, cond, ℕ, suc, Bool, true, false, List, [], ◌∷◌, ◌++◌, map, Option, Some, None, refl, sym, ap, ap₂, ◌∙◌, append_assoc, append-nil}
use Rattle.std.proofs.lemmas.List.{map-append}
use Rattle.std.specs.Prelude.{fold}
use Rattle.mcv_base.specs.declared.reply.Outcome.{Outcome}
use Rattle.mcv_base.specs.declared.reply.Outcome.TheVariants.{Good, Soft, Error}
use Rattle.mcv_rules.specs.Plan.{Leg, Plan, Send, Reply, Both, Beside, OnError, OnMiss, OnHit, Shadowed, on_error, on_miss, reply}
use Rattle.mcv_route.specs.Outcomes.{Outcomes, Choice}
use Rattle.mcv_base.specs.Reply.{is_error, is_missed, is_good}
use Rattle.mcv_rules.specs.Plan.{on_reply}
use Rattle.mcv_rules.specs.Plan as planned
use Rattle.mcv_route.specs.Tree.{Range, Tree, Trees, pool, null, error, many, AllSync, AllInitial, AllAsync, Failover, MissFailover, warm_up, migrate, prefix_selector, operation_selector, none, child}
use Rattle.mcv_route.specs.Situation.{Situation, under, asynchronous, shadowed, adding}
use Rattle.mcv_base.specs.Operation.{is_reading}
use Rattle.mcv_route.specs.Children.{joined, child_or, rest_of, together, is_within, of_those_holding, policy_of, prefix_policy, way_of}
use Rattle.mcv_route.specs.Replies.{Answer, outcome_of, replies, replies_each}
use Rattle.mcv_route.specs.declared.launch.Launch.{Launch}
use Rattle.mcv_route.specs.Launched.{once, in_turn, launched, launched_each}
use Rattle.mcv_rules.specs.Plans.{leg_of, with_shadows, plan, plan_each, launch_of, legs_of}
use Rattle.mcv_rules.proofs.RelatedLists
use Rattle.mcv_rules.proofs.AnswersOfPlan

-- the legs, if the reply is there and passes the test
abbrev when : (Outcome → Bool) → Option Outcome → List Launch → List Launch
when test None ls = []
when test (Some x) ls = cond (test x) ls []

if_map : (b : Bool) (c : Choice) (ls : List Leg) → map (launch_of c) (cond b ls []) ≡ cond b (map (launch_of c) ls) []
if_map true c ls = refl
if_map false c ls = refl

reply_map : (test : Outcome → Bool) (r : Option Outcome) (c : Choice) (ls : List Leg) → map (launch_of c) (on_reply test r ls) ≡ when test r (map (launch_of c) ls)
reply_map test None c ls = refl
reply_map test (Some x) c ls = if_map (test x) c ls

once_when : (test : Outcome → Bool) (r : List Answer) (ls : List Launch) → once test r ls ≡ when test (outcome_of r) ls
once_when test [] ls = refl
once_when test (a ∷ more) ls = refl

if_nil : (b : Bool) → cond {A = List Launch} b [] [] ≡ []
if_nil true = refl
if_nil false = refl

when_nil : (test : Outcome → Bool) (r : Option Outcome) → when test r [] ≡ []
when_nil test None = refl
when_nil test (Some x) = if_nil (test x)

-- the list is what the plan sends
abbrev Gives : Choice → Outcomes → List Launch → Plan → Type 0
Gives c o ls t = ls ≡ legs_of t c o

-- ---- both at once

-- two plans are sent at once
abbrev AtOnce : Choice → Outcomes → (Plan → Plan → Plan) → Type 0
AtOnce c o join = (t u : Plan) → legs_of (join t u) c o ≡ legs_of t c o ++ legs_of u c o

both_at_once : (c : Choice) (o : Outcomes) → AtOnce c o Both
both_at_once c o t u = map-append (launch_of c) (planned.launched t c o) (planned.launched u c o)

beside_at_once : (c : Choice) (o : Outcomes) → AtOnce c o Beside
beside_at_once c o t u = map-append (launch_of c) (planned.launched t c o) (planned.launched u c o)

fold_joined : (c : Choice) (o : Outcomes) (join : Plan → Plan → Plan) → AtOnce c o join → (t : Plan) (lss : List (List Launch)) (us : List Plan) → RelatedLists.Related (Gives c o) lss us → legs_of t c o ++ joined lss ≡ legs_of (fold join t us) c o
fold_joined c o join h t [] [] r = append-nil (legs_of t c o)
fold_joined c o join h t [] (u ∷ us) r = absurd r
fold_joined c o join h t (ls ∷ lss) [] r = absurd r
fold_joined c o join h t (ls ∷ lss) (u ∷ us) r =
    ap (λ ms. legs_of t c o ++ (ms ++ joined lss)) r.0
    ∙ sym (append_assoc (legs_of t c o) (legs_of u c o) (joined lss))
    ∙ ap (λ ms. ms ++ joined lss) (sym (h t u))
    ∙ fold_joined c o join h (join t u) lss us r.1

all_joined : (c : Choice) (o : Outcomes) (lss : List (List Launch)) (us : List Plan) → RelatedLists.Related (Gives c o) lss us → joined lss ≡ legs_of (together Both (Reply Error) us) c o
all_joined c o [] [] r = refl
all_joined c o [] (u ∷ us) r = absurd r
all_joined c o (ls ∷ lss) [] r = absurd r
all_joined c o (ls ∷ lss) (u ∷ us) r = ap (λ ms. ms ++ joined lss) r.0 ∙ fold_joined c o Both (both_at_once c o) u lss us r.1

-- ---- one after the other

-- the second plan is sent once the first has replied so that it passes the test, and then is heard too
pub record IsAfter (c : Choice) (o : Outcomes) (test : Outcome → Bool) (join : Plan → Plan → Plan) : Type 0 where
  pub sends : (t u : Plan) → legs_of (join t u) c o ≡ legs_of t c o ++ when test (reply t o) (legs_of u c o)
  pub goes_on : (t u : Plan) (ls ms : List Launch) → when test (reply t o) ls ++ when test (reply (join t u) o) ms ≡ when test (reply t o) (ls ++ when test (reply u o) ms)

error_goes_on : (q r : Option Outcome) (ls ms : List Launch) → when is_error q ls ++ when is_error (on_error q r) ms ≡ when is_error q (ls ++ when is_error r ms)
error_goes_on None r ls ms = refl
error_goes_on (Some Good) r ls ms = refl
error_goes_on (Some Soft) r ls ms = refl
error_goes_on (Some Error) r ls ms = refl

miss_goes_on : (q r : Option Outcome) (ls ms : List Launch) → when is_missed q ls ++ when is_missed (on_miss q r) ms ≡ when is_missed q (ls ++ when is_missed r ms)
miss_goes_on None r ls ms = refl
miss_goes_on (Some Good) r ls ms = refl
miss_goes_on (Some Soft) r ls ms = refl
miss_goes_on (Some Error) r ls ms = refl

after_sends : (c : Choice) (o : Outcomes) (test : Outcome → Bool) (t u : Plan) → map (launch_of c) (planned.launched t c o ++ on_reply test (reply t o) (planned.launched u c o)) ≡ legs_of t c o ++ when test (reply t o) (legs_of u c o)
after_sends c o test t u =
    map-append (launch_of c) (planned.launched t c o) (on_reply test (reply t o) (planned.launched u c o))
    ∙ ap (λ ms. legs_of t c o ++ ms) (reply_map test (reply t o) c (planned.launched u c o))

after_error : (c : Choice) (o : Outcomes) → IsAfter c o is_error OnError
after_error c o = record { sends = λ t u. after_sends c o is_error t u; goes_on = λ t u ls ms. error_goes_on (reply t o) (reply u o) ls ms }

after_miss : (c : Choice) (o : Outcomes) → IsAfter c o is_missed OnMiss
after_miss c o = record { sends = λ t u. after_sends c o is_missed t u; goes_on = λ t u ls ms. miss_goes_on (reply t o) (reply u o) ls ms }

fold_in_turn : (c : Choice) (o : Outcomes) (test : Outcome → Bool) (join : Plan → Plan → Plan) → IsAfter c o test join → (t : Plan) (rs : List (List Answer)) (lss : List (List Launch)) (us : List Plan)
    → RelatedLists.Related (AnswersOfPlan.Matches o) rs us → RelatedLists.Related (Gives c o) lss us → legs_of t c o ++ when test (reply t o) (in_turn test rs lss) ≡ legs_of (fold join t us) c o
fold_in_turn c o test join h t [] lss [] q r = ap (λ ms. legs_of t c o ++ ms) (when_nil test (reply t o)) ∙ append-nil (legs_of t c o)
fold_in_turn c o test join h t [] lss (u ∷ us) q r = absurd q
fold_in_turn c o test join h t (rep ∷ rs) lss [] q r = absurd q
fold_in_turn c o test join h t (rep ∷ rs) [] (u ∷ us) q r = absurd r
fold_in_turn c o test join h t (rep ∷ rs) (ls ∷ lss) (u ∷ us) q r =
    ap (λ ms. legs_of t c o ++ when test (reply t o) ms) (ap₂ ◌++◌ r.0 (once_when test rep (in_turn test rs lss) ∙ ap (λ x. when test x (in_turn test rs lss)) q.0.outcome))
    ∙ ap (λ ms. legs_of t c o ++ ms) (sym (h.goes_on t u (legs_of u c o) (in_turn test rs lss)))
    ∙ sym (append_assoc (legs_of t c o) (when test (reply t o) (legs_of u c o)) (when test (reply (join t u) o) (in_turn test rs lss)))
    ∙ ap (λ ms. ms ++ when test (reply (join t u) o) (in_turn test rs lss)) (sym (h.sends t u))
    ∙ fold_in_turn c o test join h (join t u) rs lss us q.1 r.1

all_in_turn : (c : Choice) (o : Outcomes) (test : Outcome → Bool) (join : Plan → Plan → Plan) → IsAfter c o test join → (rs : List (List Answer)) (lss : List (List Launch)) (us : List Plan)
    → RelatedLists.Related (AnswersOfPlan.Matches o) rs us → RelatedLists.Related (Gives c o) lss us → in_turn test rs lss ≡ legs_of (together join (Reply Error) us) c o
all_in_turn c o test join h [] lss [] q r = refl
all_in_turn c o test join h [] lss (u ∷ us) q r = absurd q
all_in_turn c o test join h (rep ∷ rs) lss [] q r = absurd q
all_in_turn c o test join h (rep ∷ rs) [] (u ∷ us) q r = absurd r
all_in_turn c o test join h (rep ∷ rs) (ls ∷ lss) (u ∷ us) q r =
    ap₂ ◌++◌ r.0 (once_when test rep (in_turn test rs lss) ∙ ap (λ x. when test x (in_turn test rs lss)) q.0.outcome)
    ∙ fold_in_turn c o test join h u rs lss us q.1 r.1

-- ---- shadows

shadow_sends : (c : Choice) (o : Outcomes) (symbol : ℕ) (r : Range) (t u : Plan) → legs_of (Shadowed symbol r.first r.last t u) c o ≡ legs_of t c o ++ cond (is_within r (c symbol)) (legs_of u c o) []
shadow_sends c o symbol r t u =
    map-append (launch_of c) (planned.launched t c o) (cond (is_within r (c symbol)) (planned.launched u c o) [])
    ∙ ap (λ ms. legs_of t c o ++ ms) (if_map (is_within r (c symbol)) c (planned.launched u c o))

shadows_send : (c : Choice) (o : Outcomes) (symbol : ℕ) (t : Plan) (rs : List Range) (lss : List (List Launch)) (us : List Plan) → RelatedLists.Related (Gives c o) lss us
    → legs_of t c o ++ of_those_holding (c symbol) rs lss ≡ legs_of (with_shadows symbol t rs us) c o
shadows_send c o symbol t [] lss us q = append-nil (legs_of t c o)
shadows_send c o symbol t (r ∷ rs) [] [] q = append-nil (legs_of t c o)
shadows_send c o symbol t (r ∷ rs) [] (u ∷ us) q = absurd q
shadows_send c o symbol t (r ∷ rs) (ls ∷ lss) [] q = absurd q
shadows_send c o symbol t (r ∷ rs) (ls ∷ lss) (u ∷ us) q =
    ap (λ ms. legs_of t c o ++ (cond (is_within r (c symbol)) ms [] ++ of_those_holding (c symbol) rs lss)) q.0
    ∙ sym (append_assoc (legs_of t c o) (cond (is_within r (c symbol)) (legs_of u c o) []) (of_those_holding (c symbol) rs lss))
    ∙ ap (λ ms. ms ++ of_those_holding (c symbol) rs lss) (sym (shadow_sends c o symbol r t u))
    ∙ shadows_send c o symbol (Shadowed symbol r.first r.last t u) rs lss us q.1

-- ---- each handle

warm_up_sends : (s : Situation) (c : Choice) (o : Outcomes) (cold warm : List Answer) (first second add : List Launch) (t u v : Plan)
    → AnswersOfPlan.Matches o cold t → AnswersOfPlan.Matches o warm u → Gives c o first t → Gives c o second u → Gives c o add v
    → first ++ once is_missed cold (second ++ once is_good warm add) ≡ legs_of (OnMiss t (OnHit u v)) c o
warm_up_sends s c o cold warm first second add t u v m n e f g =
    ap₂ (λ ls ms. ls ++ ms) e (
    once_when is_missed cold (second ++ once is_good warm add)
    ∙ ap₂ (λ x ls. when is_missed x ls) m.outcome (
    ap₂ (λ ls ms. ls ++ ms) f (once_when is_good warm add ∙ ap₂ (λ x ls. when is_good x ls) n.outcome g)
    ∙ sym (after_sends c o is_good u v)))
    ∙ sym (after_sends c o is_missed t (OnHit u v))

mutual
  pub sent : (t : Tree) (s : Situation) (c : Choice) (o : Outcomes) → launched t s c o ≡ legs_of (plan t s) c o
  sent (pool p ranges targets) s c o = shadows_send c o p.symbol (Send (leg_of p s)) ranges (launched_each 0 targets (shadowed s) c o) (plan_each 0 targets (shadowed s)) (sent_each 0 targets (shadowed s) c o)
  sent null s c o = refl
  sent error s c o = refl
  sent (many AllSync ts) s c o = all_joined c o (launched_each 0 ts s c o) (plan_each 0 ts s) (sent_each 0 ts s c o)
  sent (many AllInitial ts) s c o =
      ap (λ ls. ls ++ joined (rest_of (launched_each 0 ts (asynchronous s) c o))) (RelatedLists.child_related (Gives c o) [] (Reply Error) 0 (launched_each 0 ts s c o) (plan_each 0 ts s) refl (sent_each 0 ts s c o))
      ∙ fold_joined c o Beside (beside_at_once c o) (child_or (Reply Error) 0 (plan_each 0 ts s)) (rest_of (launched_each 0 ts (asynchronous s) c o)) (rest_of (plan_each 0 ts (asynchronous s)))
      (RelatedLists.rest_related (Gives c o) (launched_each 0 ts (asynchronous s) c o) (plan_each 0 ts (asynchronous s)) (sent_each 0 ts (asynchronous s) c o))
  sent (many AllAsync ts) s c o = fold_joined c o Beside (beside_at_once c o) (Reply Soft) (launched_each 0 ts (asynchronous s) c o) (plan_each 0 ts (asynchronous s)) (sent_each 0 ts (asynchronous s) c o)
  sent (many Failover ts) s c o = all_in_turn c o is_error OnError (after_error c o) (replies_each 0 ts s o) (launched_each 0 ts s c o) (plan_each 0 ts s) (AnswersOfPlan.replied_each 0 ts s o) (sent_each 0 ts s c o)
  sent (many MissFailover ts) s c o =
      RelatedLists.if_related (Gives c o) (is_reading s.op)
      (in_turn is_missed (replies_each 0 ts s o) (launched_each 0 ts s c o)) (child_or [] 0 (launched_each 0 ts s c o))
      (together OnMiss (Reply Error) (plan_each 0 ts s)) (child_or (Reply Error) 0 (plan_each 0 ts s))
      (all_in_turn c o is_missed OnMiss (after_miss c o) (replies_each 0 ts s o) (launched_each 0 ts s c o) (plan_each 0 ts s) (AnswersOfPlan.replied_each 0 ts s o) (sent_each 0 ts s c o))
      (RelatedLists.child_related (Gives c o) [] (Reply Error) 0 (launched_each 0 ts s c o) (plan_each 0 ts s) refl (sent_each 0 ts s c o))
  sent (warm_up cold warm exptime) s c o =
      RelatedLists.if_related (Gives c o) (is_reading s.op)
      (launched cold (under 0 s) c o ++ once is_missed (replies cold (under 0 s) o) (launched warm (under 1 s) c o ++ once is_good (replies warm (under 1 s) o) (launched cold (under 2 (adding s)) c o)))
      (launched cold (under 0 s) c o)
      (OnMiss (plan cold (under 0 s)) (OnHit (plan warm (under 1 s)) (plan cold (under 2 (adding s))))) (plan cold (under 0 s))
      (warm_up_sends s c o (replies cold (under 0 s) o) (replies warm (under 1 s) o) (launched cold (under 0 s) c o) (launched warm (under 1 s) c o) (launched cold (under 2 (adding s)) c o)
      (plan cold (under 0 s)) (plan warm (under 1 s)) (plan cold (under 2 (adding s))) (AnswersOfPlan.replied cold (under 0 s) o) (AnswersOfPlan.replied warm (under 1 s) o) (sent cold (under 0 s) c o) (sent warm (under 1 s) c o) (sent cold (under 2 (adding s)) c o))
      (sent cold (under 0 s) c o)
  sent (migrate from to start interval) s c o =
      RelatedLists.way_related (Gives c o) (way_of s start interval)
      (launched from (under 0 s) c o) (launched to (under 1 s) c o) (launched from (under 0 s) c o ++ launched to (under 1 s) c o)
      (plan from (under 0 s)) (plan to (under 1 s)) (Both (plan from (under 0 s)) (plan to (under 1 s)))
      (sent from (under 0 s) c o) (sent to (under 1 s) c o)
      (ap₂ ◌++◌ (sent from (under 0 s) c o) (sent to (under 1 s) c o) ∙ sym (both_at_once c o (plan from (under 0 s)) (plan to (under 1 s))))
  sent (prefix_selector prefixes ts) s c o =
      RelatedLists.child_related (Gives c o) [] (Reply Error) (prefix_policy s.rest prefixes) (launched_each 0 ts s c o) (plan_each 0 ts s) refl (sent_each 0 ts s c o)
  sent (operation_selector ops ts) s c o =
      RelatedLists.child_related (Gives c o) [] (Reply Error) (policy_of s.op ops) (launched_each 0 ts s c o) (plan_each 0 ts s) refl (sent_each 0 ts s c o)

  pub sent_each : (k : ℕ) (ts : Trees) (s : Situation) (c : Choice) (o : Outcomes) → RelatedLists.Related (Gives c o) (launched_each k ts s c o) (plan_each k ts s)
  sent_each k none s c o = tt
  sent_each k (child t ts) s c o = (sent t (under k s) c o, sent_each (suc k) ts s c o)
