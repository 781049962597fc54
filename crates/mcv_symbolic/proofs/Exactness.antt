-- The sets that the checker compares, over routes.
use Rattle.std.proofs.Common.{◌≡◌, ◌≢◌, true, List, [], ◌∷◌, Some, None, refl, sym, ◌∙◌}
use Rattle.mcv_base.specs.declared.operation.Op.TheVariants.{Delete}
use Rattle.mcv_base.specs.Operation.{is_counting}
use Rattle.mcv_base.specs.declared.reply.Outcome.{Outcome}
use Rattle.mcv_base.specs.declared.reply.Outcome.TheVariants.{Good}
use Rattle.mcv_route.specs.Situation.{asked}
use Rattle.mcv_route.specs.Replies.{Answer, outcome_of, replies}
use Rattle.mcv_rules.specs.Plans.{plan}
use Rattle.mcv_rules.proofs.PlansAreSound
use Rattle.mcv_rules.proofs.Verdicts
use Rattle.mcv_symbolic.specs.Laws.{HitsAreExact, DoneIsExact, AcknowledgedIsExact, AcknowledgedIsLeast, HitsIgnoreTheChoice, DoneIgnoresTheChoice, AcknowledgedIgnoresTheChoice}
use Rattle.mcv_symbolic.specs.Structure.{if_all}
use Rattle.mcv_symbolic.proofs.SetsAreLeast
use Rattle.mcv_symbolic.proofs.RepliesSaySent
use Rattle.mcv_symbolic.proofs.Marks
use Rattle.mcv_symbolic.proofs.RouteByPlan
use Rattle.mcv_symbolic.proofs.SizesOfTrees.{formed, sizes_for}

pub hits_are_exact : HitsAreExact
hits_are_exact t op rest since c p =
    let s = asked op rest since in
    let sound = PlansAreSound.plan_sound (sizes_for t) t op rest since (formed t) in (
      λ h. let k = (Verdicts.hit_is_planned t s h.0 p).0 h.2 in
          (k.0, (SetsAreLeast.hits_are_exact (plan t s) c k.0 sound.2 sound.3).0 (h.0, Verdicts.reachable_planned t s c h.0 h.1, k.1), k.2),
      λ h. let k = (SetsAreLeast.hits_are_exact (plan t s) c h.0 sound.2 sound.3).1 h.1 in
          (k.0, Verdicts.planned_reachable t s c k.0 k.1, (Verdicts.hit_is_planned t s k.0 p).1 (h.0, k.2, h.2)),
    )

pub done_is_exact : DoneIsExact
done_is_exact t rest since c =
    let s = asked Delete rest since in
    let sound = PlansAreSound.plan_sound (sizes_for t) t Delete rest since (formed t) in
    let law = SetsAreLeast.can_be_done (plan t s) c (PlansAreSound.plan_for_delete (sizes_for t) t rest since (formed t)) sound.2 in (
      λ h. law.0 (h.0, Verdicts.reachable_planned t s c h.0 h.1, RouteByPlan.done_planned t rest since h.0 h.2),
      λ h. let k = law.1 h in (k.0, Verdicts.planned_reachable t s c k.0 k.1, RouteByPlan.planned_done t rest since k.0 k.2),
    )

some_outcome : (r : List Answer) → r ≢ [] → (x : Outcome) × (outcome_of r ≡ Some x)
some_outcome [] h = absurd (h refl)
some_outcome (a ∷ more) h = (a.outcome, refl)

not_none : (r : List Answer) (x : Outcome) → outcome_of r ≡ Some x → r ≢ []
not_none [] x e f = let g : None ≡ Some x = e in absurd cc
not_none (a ∷ more) x e f = absurd cc

pub acknowledged_is_exact : AcknowledgedIsExact
acknowledged_is_exact t rest since c p =
    let s = asked Delete rest since in
    let sound = PlansAreSound.plan_sound (sizes_for t) t Delete rest since (formed t) in
    let deletes = PlansAreSound.plan_for_delete (sizes_for t) t rest since (formed t) in (
      λ h.
          let least = SetsAreLeast.acknowledged_is_least (plan t s) c deletes sound.2 in
          let there = h least.0 (Verdicts.planned_reachable t s c least.0 least.1) (not_none (replies t s least.0) (if_all Good (plan t s)) (Verdicts.reply_is_planned t s least.0 ∙ least.2)) in
          let k = Verdicts.has_sends t s c least.0 (λ l. (l.position ≡ p) × (is_counting l.mark ≡ true)) there in
          (k.0, least.3 k.0 (Marks.sent_counts (plan t s) c least.0 k.0 sound.1 k.1 k.2.1), k.2.0),
      λ h o r n.
          let x = some_outcome (replies t s o) n in
          let counts = RepliesSaySent.acknowledged_is_sent (plan t s) o x.0 h.0 deletes (sym (Verdicts.reply_is_planned t s o) ∙ x.1) h.1 in
          let sent = Marks.counts_sent (plan t s) c o h.0 sound.1 counts in
          Verdicts.sends_has t s c o (λ l. (l.position ≡ p) × (is_counting l.mark ≡ true)) h.0 sent.0 (h.2, sent.1),
    )

pub acknowledged_is_least : AcknowledgedIsLeast
acknowledged_is_least t rest since c =
    let s = asked Delete rest since in
    let sound = PlansAreSound.plan_sound (sizes_for t) t Delete rest since (formed t) in
    let least = SetsAreLeast.acknowledged_is_least (plan t s) c (PlansAreSound.plan_for_delete (sizes_for t) t rest since (formed t)) sound.2 in (
      least.0,
      Verdicts.planned_reachable t s c least.0 least.1,
      not_none (replies t s least.0) (if_all Good (plan t s)) (Verdicts.reply_is_planned t s least.0 ∙ least.2),
      λ can. RouteByPlan.planned_done t rest since least.0 (if_all Good (plan t s), least.2, (done_is_exact t rest since c).0 can),
      λ p h.
          let k = Verdicts.has_sends t s c least.0 (λ l. (l.position ≡ p) × (is_counting l.mark ≡ true)) h in
          (acknowledged_is_exact t rest since c p).1 (k.0, least.3 k.0 (Marks.sent_counts (plan t s) c least.0 k.0 sound.1 k.1 k.2.1), k.2.0),
    )

-- ---- under another choice

pub hits_ignore_the_choice : HitsIgnoreTheChoice
hits_ignore_the_choice t op rest since c d p h = (hits_are_exact t op rest since d p).1 ((hits_are_exact t op rest since c p).0 h)

pub done_ignores_the_choice : DoneIgnoresTheChoice
done_ignores_the_choice t rest since c d h = (done_is_exact t rest since d).1 ((done_is_exact t rest since c).0 h)

pub acknowledged_ignores_the_choice : AcknowledgedIgnoresTheChoice
acknowledged_ignores_the_choice t rest since c d p h = (acknowledged_is_exact t rest since d p).1 ((acknowledged_is_exact t rest since c p).0 h)
