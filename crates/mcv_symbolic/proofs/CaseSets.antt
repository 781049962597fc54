-- What a case finds by its plan is what it is asked.
use Rattle.std.proofs.Common.{◌≡◌, ◌≢◌, ◌↔◌, ℕ, Bool, true, not, List, map, Option, refl, sym, ap, ◌∙◌, subst}
use Rattle.std.specs.Prelude.{IsTrue}
use Rattle.mcv_base.specs.Reply.{is_error}
use Rattle.mcv_base.specs.declared.operation.Op.{Op}
use Rattle.mcv_base.specs.declared.operation.Op.TheVariants.{Delete}
use Rattle.mcv_base.specs.declared.reply.Outcome.{Outcome}
use Rattle.mcv_base.specs.declared.reply.Outcome.TheVariants.{Good, Soft, Error}
use Rattle.mcv_route.specs.Outcomes.{Choice}
use Rattle.mcv_route.specs.Situation.{asked}
use Rattle.mcv_route.specs.Tree.{Tree}
use Rattle.mcv_rules.specs.Plans.{plan}
use Rattle.mcv_rules.specs.Plan as whole
use Rattle.mcv_rules.specs.declared.plan.PlannedLeg.{PlannedLeg}
use Rattle.mcv_symbolic.specs.Case.{CaseValue, situation_of}
use Rattle.mcv_rules.specs.NormalForm.{leg_of}
use Rattle.mcv_symbolic.specs.SetLists.{acknowledged, hits}
use Rattle.mcv_symbolic.specs.Sets.{AreLegsAt, CanBeAcknowledged, CanHitAt, IsAcknowledged}
use Rattle.mcv_symbolic.specs.Structure.{if_all}
use Rattle.mcv_symbolic.proofs.Exactness.{done_is_exact}
use Rattle.mcv_symbolic.proofs.FoundLegs.{found_acknowledged, found_hits}

abbrev case_of : Tree → Op → List ℕ → Option ℕ → CaseValue
case_of t op rest since = record { tree = t; op = op; rest = rest; since = since }

module _ (value : CaseValue) (t : Tree) (op : Op) (rest : List ℕ) (since : Option ℕ) (p : whole.Plan) (seen : case_of t op rest since ≡ value) (laid : p ≡ plan t (asked op rest since)) where
  pub laid_for : p ≡ plan value.tree (situation_of value)
  laid_for = subst (λ (v : CaseValue). p ≡ plan v.tree (situation_of v)) seen laid

  pub readable_of : (legs : List PlannedLeg) → map leg_of legs ≡ hits p → (c : Choice) → AreLegsAt value.tree (CanHitAt value.tree (situation_of value) c) legs
  readable_of legs found c = subst (λ (v : CaseValue). AreLegsAt v.tree (CanHitAt v.tree (situation_of v) c) legs) seen (found_hits t op rest since legs (found ∙ ap hits laid) c)

  deletes : value.op ≡ Delete → p ≡ plan t (asked Delete rest since)
  deletes is = laid ∙ ap (λ o. plan t (asked o rest since)) (ap (λ (v : CaseValue). v.op) seen ∙ is)

  pub acknowledged_of : value.op ≡ Delete → (legs : List PlannedLeg) → map leg_of legs ≡ acknowledged p → (c : Choice) → AreLegsAt value.tree (IsAcknowledged value.tree value.rest value.since c) legs
  acknowledged_of is legs found c =
      subst (λ (v : CaseValue). AreLegsAt v.tree (IsAcknowledged v.tree v.rest v.since c) legs) seen (found_acknowledged t rest since legs (found ∙ ap acknowledged (deletes is)) c)

  no-error : (x : Outcome) → not (is_error x) ≡ true → x ≢ Error
  no-error Good e f = cc
  no-error Soft e f = cc
  no-error Error e f = cc

  other-than-error : (x : Outcome) → x ≢ Error → not (is_error x) ≡ true
  other-than-error Good n = refl
  other-than-error Soft n = refl
  other-than-error Error n = absurd (n refl)

  pub done_of : value.op ≡ Delete → (x : Outcome) (b : Bool) → x ≡ if_all Good p → b ≡ not (is_error x) → (c : Choice) → IsTrue b ↔ CanBeAcknowledged value.tree value.rest value.since c
  done_of is x b found test c =
      let reply : x ≡ if_all Good (plan t (asked Delete rest since)) = found ∙ ap (if_all Good) (deletes is) in
      let law = done_is_exact t rest since c in
      subst (λ (v : CaseValue). IsTrue b ↔ CanBeAcknowledged v.tree v.rest v.since c) seen (
        λ yes. law.1 (λ e. no-error x (sym test ∙ yes) (reply ∙ e)),
        λ can. test ∙ other-than-error x (λ e. law.0 can (sym reply ∙ e)),
      )
