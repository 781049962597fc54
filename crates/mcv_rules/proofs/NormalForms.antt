-- The normal form of a plan in memory, one level at a time.
use Rattle.std.proofs.Common.{◌≡◌, ℕ, ◌∙◌, ap, map, Vec, Box, Global, rules}
use Rattle.std.proofs.lemmas.Simd.{map-map}
use Rattle.mcv_base.specs.declared.reply.FixedReply.{FixedReply}
use Rattle.mcv_base.specs.Reply.{fixed_value, outcome_of}
use Rattle.mcv_rules.specs.Plan as planned
use Rattle.mcv_rules.specs.NormalForm.{all_of, alone, led_by, leg_of, part, part_of, shade, turns_of, whole_of}
use Rattle.mcv_rules.specs.declared.arrival.After.{After}
use Rattle.mcv_rules.specs.declared.plan.PlannedLeg.{PlannedLeg}
use Rattle.mcv_rules.specs.declared.plan.Plan.{Plan, Send, Reply, All, Beside, InTurn, OnHit, Shadowed, the_lemmas}

pub part-Send : (l : PlannedLeg) → part_of (Send l) ≡ part (planned.Send (leg_of l))
part-Send l = search (rules, the_lemmas)

pub part-Reply : (f : FixedReply) → part_of (Reply f) ≡ part (planned.Reply (outcome_of (fixed_value f)))
part-Reply f = search (rules, the_lemmas)

all-parts : (v : Vec Plan Global) → part_of (All v) ≡ part (all_of (map alone (map part_of v.items)))
all-parts v = search (rules, the_lemmas)

pub part-All : (v : Vec Plan Global) → part_of (All v) ≡ part (all_of (map whole_of v.items))
part-All v = all-parts v ∙ ap (λ us. part (all_of us)) (map-map alone part_of v.items)

pub part-Beside : (v : Vec Plan Global) → part_of (Beside v) ≡ part (led_by (map part_of v.items))
part-Beside v = search (rules, the_lemmas)

turn-parts : (w : After) (v : Vec Plan Global) → part_of (InTurn w v) ≡ part (turns_of w (map alone (map part_of v.items)))
turn-parts w v = search (rules, the_lemmas)

pub part-InTurn : (w : After) (v : Vec Plan Global) → part_of (InTurn w v) ≡ part (turns_of w (map whole_of v.items))
part-InTurn w v = turn-parts w v ∙ ap (λ us. part (turns_of w us)) (map-map alone part_of v.items)

pub part-OnHit : (p q : Box Plan Global) → part_of (OnHit p q) ≡ part (planned.OnHit (whole_of p.value) (whole_of q.value))
part-OnHit p q = search (rules, the_lemmas)

pub part-Shadowed : (s a b : ℕ) (p : Box Plan Global) → part_of (Shadowed s a b p) ≡ shade s a b (whole_of p.value)
part-Shadowed s a b p = search (rules, the_lemmas)
