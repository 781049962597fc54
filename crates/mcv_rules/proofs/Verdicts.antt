-- What holds of the plan holds of the route.
use Rattle.std.proofs.Common.{◌≡◌, inl, inr, List, [], ◌∷◌, map, refl, sym, subst}
use Rattle.mcv_route.specs.declared.launch.Launch.{Launch}
use Rattle.mcv_route.specs.Outcomes.{Outcomes, Choice, History, outcomes}
use Rattle.mcv_route.specs.Tree.{Tree}
use Rattle.mcv_route.specs.Situation.{Situation}
use Rattle.mcv_route.specs.Launched.{launched}
use Rattle.mcv_route.specs.Verdict.{Has, IsLegal, IsReachable, IsHit}
use Rattle.mcv_rules.specs.Plan as planned
use Rattle.mcv_rules.specs.Plan.{Leg}
use Rattle.mcv_rules.specs.Plans.{plan, launch_of}
use Rattle.mcv_rules.specs.Laws.{LaunchedIsPlanned, ReplyIsPlanned, RepliesAreAlike, HitIsPlanned, SentStays, ReachableIsClosed}
use Rattle.mcv_rules.proofs.Sending as plans
use Rattle.mcv_rules.proofs.Sending.{Sends}
use Rattle.mcv_rules.proofs.ListMembers
use Rattle.mcv_rules.proofs.Launches
use Rattle.mcv_rules.proofs.Orders
use Rattle.mcv_rules.proofs.RepliesAndLegsStay
use Rattle.mcv_rules.proofs.AnswersOfPlan
use Rattle.mcv_rules.proofs.LegsOfPlan

-- ---- launched legs

map_has : (c : Choice) (ls : List Leg) (P : Launch → Type 0) → Has (map (launch_of c) ls) P → (l : Leg) × ListMembers.Among ls l × P (launch_of c l)
map_has c [] P h = absurd h
map_has c (l ∷ ls) P (inl h) = (l, inl refl, h)
map_has c (l ∷ ls) P (inr h) = let k = map_has c ls P h in (k.0, inr k.1, k.2)

has_map : (c : Choice) (ls : List Leg) (P : Launch → Type 0) (l : Leg) → ListMembers.Among ls l → P (launch_of c l) → Has (map (launch_of c) ls) P
has_map c [] P l h p = absurd h
has_map c (k ∷ ls) P l (inl e) p = inl (subst (λ m. P (launch_of c m)) (sym e) p)
has_map c (k ∷ ls) P l (inr h) p = inr (has_map c ls P l h p)

-- a launched leg is one that the plan sends
pub has_sends : (t : Tree) (s : Situation) (c : Choice) (o : Outcomes) (P : Launch → Type 0) → Has (launched t s c o) P → (l : Leg) × Sends (plan t s) c o l × P (launch_of c l)
has_sends t s c o P h =
    let k = map_has c (planned.launched (plan t s) c o) P (subst (λ ls. Has ls P) (LegsOfPlan.sent t s c o) h) in
    (k.0, Launches.launched_is (plan t s) c o k.0 k.1, k.2)

pub sends_has : (t : Tree) (s : Situation) (c : Choice) (o : Outcomes) (P : Launch → Type 0) (l : Leg) → Sends (plan t s) c o l → P (launch_of c l) → Has (launched t s c o) P
sends_has t s c o P l h p =
    subst (λ ls. Has ls P) (sym (LegsOfPlan.sent t s c o)) (has_map c (planned.launched (plan t s) c o) P l (Launches.is_launched (plan t s) c o l h) p)

pub launched_is_planned : LaunchedIsPlanned
launched_is_planned t s c o = LegsOfPlan.sent t s c o

pub sent_stays : SentStays
sent_stays t s c o o2 l h m =
    let k = has_sends t s c o (λ n. n ≡ l) m in
    sends_has t s c o2 (λ n. n ≡ l) k.0 (RepliesAndLegsStay.sent_stays (plan t s) c o o2 k.0 h k.1) k.2

-- ---- replies

pub reply_is_planned : ReplyIsPlanned
reply_is_planned t s o = (AnswersOfPlan.replied t s o).outcome

pub replies_are_alike : RepliesAreAlike
replies_are_alike t s o a h = (AnswersOfPlan.replied t s o).same a h

pub hit_is_planned : HitIsPlanned
hit_is_planned t s o p = (
  λ h. (AnswersOfPlan.replied t s o).hits p h,
  λ h. subst (λ q. IsHit t s o q) h.2 ((AnswersOfPlan.replied t s o).back h.0 h.1),
)

-- ---- reachable outcomes

legal_planned : (t : Tree) (s : Situation) (c : Choice) (es : History) → IsLegal t s c es → plans.IsLegal (plan t s) c es
legal_planned t s c [] h = h
legal_planned t s c (e ∷ es) h =
    let k = has_sends t s c (outcomes es) (λ l. l.position ≡ e.0) h.0 in
    ((k.0, k.2, k.1), h.1, legal_planned t s c es h.2)

planned_legal : (t : Tree) (s : Situation) (c : Choice) (es : History) → plans.IsLegal (plan t s) c es → IsLegal t s c es
planned_legal t s c [] h = h
planned_legal t s c (e ∷ es) h = (sends_has t s c (outcomes es) (λ l. l.position ≡ e.0) h.0.0 h.0.2 h.0.1, h.1, planned_legal t s c es h.2)

pub reachable_planned : (t : Tree) (s : Situation) (c : Choice) (o : Outcomes) → IsReachable t s c o → plans.IsReachable (plan t s) c o
reachable_planned t s c o h = (h.0, legal_planned t s c h.0 h.1, h.2)

pub planned_reachable : (t : Tree) (s : Situation) (c : Choice) (o : Outcomes) → plans.IsReachable (plan t s) c o → IsReachable t s c o
planned_reachable t s c o h = (h.0, planned_legal t s c h.0 h.1, h.2)

pub reachable_is_closed : ReachableIsClosed
reachable_is_closed t s c o = (
  λ h p x e. let k = (Orders.reachable_is_closed (plan t s) c o).0 (reachable_planned t s c o h) p x e in sends_has t s c o (λ l. l.position ≡ p) k.0 k.2 k.1,
  λ h. planned_reachable t s c o ((Orders.reachable_is_closed (plan t s) c o).1 (λ p x e. let k = has_sends t s c o (λ l. l.position ≡ p) (h p x e) in (k.0, k.2, k.1))),
)
