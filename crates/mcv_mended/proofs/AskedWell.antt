-- What two plans in memory show of what is asked.
use Rattle.std.proofs.Common.{◌≡◌, ◌≢◌, ℕ, List, Option, ap, subst}
use Rattle.mcv_base.specs.declared.operation.Op.{Op}
use Rattle.mcv_base.specs.declared.operation.Op.TheVariants.{Delete}
use Rattle.mcv_judge.specs.Reason.{LegValue}
use Rattle.mcv_route.specs.Routes.{RoutesValue}
use Rattle.mcv_route.specs.Situation.{asked}
use Rattle.mcv_route.specs.Tree.{Tree}
use Rattle.mcv_rules.specs.NormalForm.{Part, alone, part, part_of, whole_of}
use Rattle.mcv_rules.specs.PlanInMemory.{Serves}
use Rattle.mcv_rules.specs.Plans.{plan}
use Rattle.mcv_rules.specs.declared.plan.Plan.{Plan}
use Rattle.mcv_mended.specs.Members.{IsAskedWell}
use Rattle.mcv_alike.specs.Plans.{AreOnePart, AreOnePlan, IsWidened}

module _ (r n : RoutesValue) (t u : Tree) (rest : List ℕ) (since : Option ℕ) (legs : List LegValue) (op : Op) (p q : Plan)
    (old : Serves p t (asked op rest since)) (new : Serves q u (asked op rest since)) where
  pub asked_alike : op ≢ Delete → AreOnePart r n (part_of p) (part_of q) → IsAskedWell r n t u rest since legs op
  asked_alike other one = record {
    alike = λ _. subst (λ x. AreOnePart r n x (part (plan u (asked op rest since)))) old.whole (subst (AreOnePart r n (part_of p)) new.whole one);
    deletes = λ is. absurd (other is);
  }

  pub asked_delete : op ≡ Delete → IsWidened r n legs (whole_of p) (whole_of q) → IsAskedWell r n t u rest since legs op
  asked_delete is one = record {
    alike = λ other. absurd (other is);
    deletes = λ _.
        let wide : IsWidened r n legs (plan t (asked op rest since)) (plan u (asked op rest since)) =
        subst (λ x. IsWidened r n legs x (plan u (asked op rest since))) (ap alone old.whole) (subst (IsWidened r n legs (whole_of p)) (ap alone new.whole) one) in
        subst (λ o. IsWidened r n legs (plan t (asked o rest since)) (plan u (asked o rest since))) is wide;
  }
