use Rattle.std.proofs.Common.{◌≡◌, ◌∙◌, List, ap, arith, length, map, refl, rules, subst, sym}
use Rattle.std.proofs.lemmas.Bool.{eqb-true}
use Rattle.mcv_rules.specs.NormalForm.{all_of, led_by, part_of, whole_of}
use Rattle.mcv_rules.specs.declared.plan.Plan.{Plan}
use Rattle.mcv_alike.specs.Plans.{IsWidened}
use Rattle.mcv_alike.proofs.SamePlans.{added-Send, all_like, none_needed, only_one, part_like, parts_like, pool_like, same-All, same-Beside, same-InTurn, same-OnHit, same-Shadowed, split-all, split-led, widened-All, widened-Beside}
use Rattle.mcv_alike.specs.Numbers.{legs_value}
use Rattle.mcv_alike.proofs.same.is_widened.Goals as goal

pub returns-then-is_empty : goal.returns-then-is_empty
returns-then-is_empty c = λ r n numbered is. none_needed r n c.args.needed.now c.args.old.now c.args.new.now (eqb-true (length c.args.needed.now) 0 (sym c.is_empty.ensures ∙ c.if-is_empty.true)) (c.is_same_plan.ensures r n numbered is)

pub returns-in-All : goal.returns-in-All
returns-in-All c = λ r n numbered is.
    widened-All r n (legs_value c.args.needed.now) c.args.old.now c.args.new.now c.in-All.news c.in-All.is
    (subst (λ (ps : List Plan). IsWidened r n (legs_value c.args.needed.now) (whole_of c.args.old.now) (all_of (map whole_of ps))) c.deref.ensures.value (c.is_all_widened.ensures r n numbered is))

pub returns-in-Beside : goal.returns-in-Beside
returns-in-Beside c = λ r n numbered is.
    widened-Beside r n (legs_value c.args.needed.now) c.args.old.now c.args.new.now c.in-Beside.news c.in-Beside.is
    (subst (λ (ps : List Plan). IsWidened r n (legs_value c.args.needed.now) (whole_of c.args.old.now) (led_by (map part_of ps))) c.deref-in-Beside.ensures.value (c.is_beside_widened.ensures r n numbered is))
