-- The outcomes that are shown of a delete: it is done, and only what each acknowledged delete sends has been sent.
use Rattle.std.proofs.Common.{◌≡◌, ◌≢◌, ℕ, true, List, Option, refl}
use Rattle.mcv_base.specs.Operation.{is_counting}
use Rattle.mcv_base.specs.declared.operation.Op.TheVariants.{Delete}
use Rattle.mcv_base.specs.declared.reply.Outcome.TheVariants.{Good, Error}
use Rattle.mcv_route.specs.Outcomes.{Outcomes, Choice, outcomes}
use Rattle.mcv_route.specs.Situation.{asked}
use Rattle.mcv_route.specs.Tree.{Tree}
use Rattle.mcv_route.specs.Verdict.{IsDone, IsReachable, IsSent}
use Rattle.mcv_rules.specs.Plan.{Leg, Plan, server}
use Rattle.mcv_rules.specs.Plans.{plan}
use Rattle.mcv_rules.specs.Soundness.{positions, IsApart, IsForDelete}
use Rattle.mcv_rules.proofs.LegsRise.{plan_rises}
use Rattle.mcv_rules.proofs.PlansAreSound
use Rattle.mcv_rules.proofs.Verdicts
use Rattle.mcv_symbolic.specs.ShownAnswers.{answers}
use Rattle.mcv_symbolic.specs.Structure.{if_all, Acknowledged}
use Rattle.mcv_symbolic.proofs.SetsAreLeast.{answers_reachable, answers_reply, counts_acknowledged}
use Rattle.mcv_symbolic.proofs.Marks
use Rattle.mcv_symbolic.proofs.RouteByPlan
use Rattle.mcv_symbolic.proofs.SizesOfTrees.{formed, sizes_for}
use Rattle.mcv_witness.specs.Breaks.{AreRising}
use Rattle.mcv_make.proofs.OutcomeOrder.{answers-ordered, are-rising}

module _ (t : Tree) (rest : List ℕ) (since : Option ℕ) (c : Choice) where
  abbrev delete : Plan
  delete = plan t (asked Delete rest since)

  apart : IsApart delete
  apart = (PlansAreSound.plan_sound (sizes_for t) t Delete rest since (formed t)).2

  deletes : IsForDelete delete
  deletes = PlansAreSound.plan_for_delete (sizes_for t) t rest since (formed t)

  abbrev shown : Outcomes
  shown = outcomes (answers Good delete)

  pub reached : IsReachable t (asked Delete rest since) c shown
  reached = Verdicts.planned_reachable t (asked Delete rest since) c shown (answers_reachable Good delete c apart)

  pub done : if_all Good delete ≢ Error → IsDone t rest since shown
  done can = RouteByPlan.planned_done t rest since shown (if_all Good delete, answers_reply Good delete shown apart (λ p i. refl), can)

  pub sent : (x : ℕ) → IsSent t rest since c shown x → (l : Leg) × Acknowledged delete l × (server c l ≡ x)
  sent x h =
      let k = Verdicts.has_sends t (asked Delete rest since) c shown (λ l. (l.server.0 ≡ x) × (is_counting l.mark ≡ true)) h in
      let counts = Marks.sent_counts delete c shown k.0 (PlansAreSound.plan_sound (sizes_for t) t Delete rest since (formed t)).1 k.1 k.2.1 in
      (k.0, counts_acknowledged delete shown k.0 deletes apart (λ p i. refl) counts, k.2.0)

  pub rises : AreRising (answers Good delete)
  rises = are-rising (positions delete) (answers Good delete) (plan_rises t (asked Delete rest since)) (answers-ordered Good delete)
