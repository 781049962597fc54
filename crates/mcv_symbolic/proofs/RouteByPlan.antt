-- What holds of the plan holds of the route: replies, hits and coverage.
use Rattle.std.proofs.Common.{◌≡◌, ◌≢◌, ◌↔◌, inl, inr, ⊎_elim, ℕ, true, List, [], ◌∷◌, Option, Some, None, refl, sym, ap, ◌∙◌}
use Rattle.mcv_base.specs.declared.operation.Op.{Op}
use Rattle.mcv_base.specs.declared.operation.Op.TheVariants.{Delete}
use Rattle.mcv_base.specs.Operation.{is_counting}
use Rattle.mcv_base.specs.declared.reply.Outcome.{Outcome}
use Rattle.mcv_base.specs.declared.reply.Outcome.TheVariants.{Error}
use Rattle.mcv_route.specs.Outcomes.{Outcomes, Choice}
use Rattle.mcv_route.specs.Tree.{Tree}
use Rattle.mcv_route.specs.WellFormedTrees.{IsWellFormed}
use Rattle.mcv_route.specs.Situation.{Situation, asked}
use Rattle.mcv_route.specs.Replies.{Answer, outcome_of, replies}
use Rattle.mcv_route.specs.Verdict.{Has, IsHit, CanHit, IsSent, IsDone, IsCovered}
use Rattle.mcv_rules.specs.Plan.{Leg, Plan, Send, Reply, Both, Beside, OnError, OnMiss, OnHit, Shadowed, HitAt, server}
use Rattle.mcv_rules.specs.Plans.{plan}
use Rattle.mcv_rules.specs.Soundness.{IsApart}
use Rattle.mcv_rules.proofs.ListMembers.{Among}
use Rattle.mcv_rules.proofs.Basics
use Rattle.mcv_rules.proofs.AnswersOfPlan
use Rattle.mcv_rules.proofs.Sending.{Sends}
use Rattle.mcv_rules.proofs.PlansAreSound
use Rattle.mcv_rules.proofs.Verdicts
use Rattle.mcv_symbolic.proofs.JustifiedPlans.{IsJustified}
use Rattle.mcv_symbolic.proofs.CoveredPlans as plans
use Rattle.mcv_symbolic.proofs.SetsAreLeast as exact
use Rattle.mcv_symbolic.proofs.OneLegAtPosition.{unique}

first_answer : (r : List Answer) (x : Outcome) → outcome_of r ≡ Some x → x ≢ Error → Has r (λ a. a.outcome ≢ Error)
first_answer [] x e w = absurd (let f : None ≡ Some x = e in cc)
first_answer (a ∷ more) x e w = inl (λ f. w (sym (Basics.some_same e) ∙ f))

has_outcome : (r : List Answer) (P : Answer → Type 0) → Has r P → (a : Answer) × Among r a × P a
has_outcome [] P h = absurd h
has_outcome (a ∷ more) P (inl h) = (a, inl refl, h)
has_outcome (a ∷ more) P (inr h) = let k = has_outcome more P h in (k.0, inr k.1, k.2)

pub done_planned : (t : Tree) (rest : List ℕ) (since : Option ℕ) (o : Outcomes) → IsDone t rest since o → exact.IsDone (plan t (asked Delete rest since)) o
done_planned t rest since o h =
    let k = has_outcome (replies t (asked Delete rest since) o) (λ a. a.outcome ≢ Error) h in
    (k.0.outcome, Verdicts.replies_are_alike t (asked Delete rest since) o k.0 k.1, k.2)

pub planned_done : (t : Tree) (rest : List ℕ) (since : Option ℕ) (o : Outcomes) → exact.IsDone (plan t (asked Delete rest since)) o → IsDone t rest since o
planned_done t rest since o h = first_answer (replies t (asked Delete rest since) o) h.0 (Verdicts.reply_is_planned t (asked Delete rest since) o ∙ h.1) h.2

-- ---- readable servers

hit_sent : (t : Plan) (c : Choice) (o : Outcomes) (l : Leg) → HitAt t o l → Sends t c o l
hit_sent (Send k) c o l h = h.0
hit_sent (Reply x) c o l h = h
hit_sent (Both t u) c o l h = ⊎_elim (λ i. inl (hit_sent t c o l i)) (λ i. inr (hit_sent u c o l i)) h.2
hit_sent (Beside t u) c o l h = inl (hit_sent t c o l h)
hit_sent (OnError t u) c o l (inl h) = inl (hit_sent t c o l h)
hit_sent (OnError t u) c o l (inr h) = inr (h.0, hit_sent u c o l h.1)
hit_sent (OnMiss t u) c o l (inl h) = inl (hit_sent t c o l h)
hit_sent (OnMiss t u) c o l (inr h) = inr (h.0, hit_sent u c o l h.1)
hit_sent (OnHit t u) c o l h = inl (hit_sent t c o l h)
hit_sent (Shadowed s a b t u) c o l h = inl (hit_sent t c o l h)

pub can_planned : (t : Tree) (s : Situation) (c : Choice) (x : ℕ) → IsApart (plan t s) → CanHit t s c x → plans.IsReadable (plan t s) c x
can_planned t s c x a h =
    let k = Verdicts.has_sends t s c h.0 (λ l. (l.server.0 ≡ x) × IsHit t s h.0 l.position) h.2 in
    let m = (Verdicts.hit_is_planned t s h.0 k.0.position).0 k.2.1 in
    let same : m.0 ≡ k.0 = unique (plan t s) c h.0 h.0 m.0 k.0 a (hit_sent (plan t s) c h.0 m.0 m.1) k.1 m.2 in
    (h.0, m.0, Verdicts.reachable_planned t s c h.0 h.1, m.1, ap (server c) same ∙ k.2.0)

planned_can : (t : Tree) (s : Situation) (c : Choice) (x : ℕ) → plans.IsReadable (plan t s) c x → CanHit t s c x
planned_can t s c x h = (
  h.0,
  Verdicts.planned_reachable t s c h.0 h.2,
  Verdicts.sends_has t s c h.0 (λ l. (l.server.0 ≡ x) × IsHit t s h.0 l.position) h.1 (hit_sent (plan t s) c h.0 h.1 h.3) (h.4, (AnswersOfPlan.replied t s h.0).back h.1 h.3),
)

-- ---- coverage

sent_planned : (t : Tree) (rest : List ℕ) (since : Option ℕ) (c : Choice) (o : Outcomes) (x : ℕ) → IsSent t rest since c o x → plans.IsSent (plan t (asked Delete rest since)) c o x
sent_planned t rest since c o x h =
    let k = Verdicts.has_sends t (asked Delete rest since) c o (λ l. (l.server.0 ≡ x) × (is_counting l.mark ≡ true)) h in (k.0, k.1, k.2.1, k.2.0)

planned_sent : (t : Tree) (rest : List ℕ) (since : Option ℕ) (c : Choice) (o : Outcomes) (x : ℕ) → plans.IsSent (plan t (asked Delete rest since)) c o x → IsSent t rest since c o x
planned_sent t rest since c o x h = Verdicts.sends_has t (asked Delete rest since) c o (λ l. (l.server.0 ≡ x) × (is_counting l.mark ≡ true)) h.0 h.1 (h.3, h.2)

-- what the route does when it is asked for an operation
abbrev pub reading : Tree → List ℕ → Option ℕ → Op → Plan
reading t rest since op = plan t (asked op rest since)

-- coverage by handle is that of the plans
covered_planned : (sizes : List ℕ) (t : Tree) (rest : List ℕ) (since read : Option ℕ) → IsWellFormed sizes t →
    IsCovered sizes t rest since read ↔ plans.IsCovered sizes (reading t rest read) (plan t (asked Delete rest since))
covered_planned sizes t rest since read w = (
  λ h c o i r d x op shows g. sent_planned t rest since c o x (h c o i (Verdicts.planned_reachable t (asked Delete rest since) c o r) (planned_done t rest since o d) x
      (op, shows, planned_can t (asked op rest read) c x g)),
  λ h c o i r d x q. planned_sent t rest since c o x (h c o i (Verdicts.reachable_planned t (asked Delete rest since) c o r) (done_planned t rest since o d) x
      q.0 q.1 (can_planned t (asked q.0 rest read) c x (PlansAreSound.plan_sound sizes t q.0 rest read w).2 q.2)),
)

-- coverage is the comparison of the plans
pub covered_by_plans : (sizes : List ℕ) (t : Tree) (rest : List ℕ) (since read : Option ℕ) → IsWellFormed sizes t →
    IsCovered sizes t rest since read ↔ IsJustified sizes (reading t rest read) (plan t (asked Delete rest since))
covered_by_plans sizes t rest since read w =
    let here = covered_planned sizes t rest since read w in
    let there = plans.covered_on_plans sizes (reading t rest read) (plan t (asked Delete rest since))
    (λ op. PlansAreSound.plan_sound sizes t op rest read w) (PlansAreSound.plan_sound sizes t Delete rest since w) (PlansAreSound.plan_for_delete sizes t rest since w) in
    (λ h. there.0 (here.0 h), λ h. here.1 (there.1 h))
