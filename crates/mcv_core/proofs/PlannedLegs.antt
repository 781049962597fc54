-- The entries that are laid out for a call are all legs of its plan.
use Rattle.std.proofs.Common.{◌≡◌, ◌&&◌, cond, ℕ, Bool, true, false, List, [], ◌∷◌, ◌++◌, map, nat_le, Vec, Box, Global, refl, sym, ap, ap₂, ◌∙◌, subst, append_assoc, append-nil}
use Rattle.std.proofs.lemmas.List.{map-append}
use Rattle.std.specs.Prelude.{fold}
use Rattle.mcv_base.specs.declared.reply.FixedReply.{FixedReply}
use Rattle.mcv_route.specs.declared.launch.Launch.{Launch}
use Rattle.mcv_route.specs.Children.{joined, together}
use Rattle.mcv_route.specs.Outcomes.{Choice}
use Rattle.mcv_route.specs.Situation.{Situation}
use Rattle.mcv_route.specs.Tree.{Tree}
use Rattle.mcv_base.specs.declared.reply.Outcome.TheVariants.{Error}
use Rattle.mcv_rules.specs.NormalForm.{Part, alone, beside, in_turn, led_by, part, part_of, shade, whole_of}
use Rattle.mcv_rules.specs.Plan as whole
use Rattle.mcv_rules.specs.PlanInMemory.{Serves}
use Rattle.mcv_rules.specs.Plans.{launch_of}
use Rattle.mcv_rules.specs.declared.arrival.After.{After}
use Rattle.mcv_rules.specs.declared.arrival.After.TheVariants as after
use Rattle.mcv_rules.specs.declared.plan.Plan.{Plan, Send, Reply, All, Beside, InTurn, OnHit, Shadowed}
use Rattle.mcv_rules.specs.declared.plan.Plan.TheOpen.{Plan-F}
use Rattle.mcv_rules.specs.declared.plan.Plan.TheFolds.{ind-Plan, map-Plan}
use Rattle.mcv_rules.specs.declared.plan.Plan.TheVariants.{rolls-Send, rolls-Reply, rolls-All, rolls-Beside, rolls-InTurn, rolls-OnHit, rolls-Shadowed}
use Rattle.mcv_rules.specs.declared.plan.Plan.TheViews.{roll-Plan}
use Rattle.mcv_rules.specs.declared.plan.PlannedLeg.{PlannedLeg}
use Rattle.mcv_rules.proofs.NormalForms.{part-All, part-Beside, part-InTurn, part-OnHit, part-Reply, part-Send, part-Shadowed}
use Rattle.mcv_plan.specs.Entries.{legs_of}
use Rattle.mcv_plan.proofs.PartsBuilt as built
use Rattle.mcv_core.specs.PlannedLegs.{all_legs, planned_legs}

module _ (c : Choice) where
  -- the legs of a plan, each to its server
  abbrev launches : whole.Plan → List Launch
  launches t = map (launch_of c) (all_legs t c)

  -- ---- parts together

  if_launches : (b : Bool) (u : whole.Plan) → map (launch_of c) (cond b (all_legs u c) []) ≡ cond b (launches u) []
  if_launches true u = refl
  if_launches false u = refl

  both_launch : (t u : whole.Plan) → map (launch_of c) (all_legs t c ++ all_legs u c) ≡ launches t ++ launches u
  both_launch t u = map-append (launch_of c) (all_legs t c) (all_legs u c)

  beside_launches : (t : whole.Plan) (q : Part) → launches (beside t q) ≡ launches t ++ launches (alone q)
  beside_launches t (part u) = both_launch t u
  beside_launches t (shade s a b u) = map-append (launch_of c) (all_legs t c) (cond (nat_le a (c s) && nat_le (c s) b) (all_legs u c) [])

  turn_launches : (w : After) (t u : whole.Plan) → launches (in_turn w t u) ≡ launches t ++ launches u
  turn_launches after.Error t u = both_launch t u
  turn_launches after.Miss t u = both_launch t u

  fold_launches : {A : Type 0} (join : whole.Plan → A → whole.Plan) (of : A → List Launch) → ((t : whole.Plan) (x : A) → launches (join t x) ≡ launches t ++ of x) → (t : whole.Plan) (xs : List A) → launches (fold join t xs) ≡ launches t ++ joined (map of xs)
  fold_launches join of h t [] = sym (append-nil (launches t))
  fold_launches join of h t (x ∷ xs) = fold_launches join of h (join t x) xs ∙ ap (λ ls. ls ++ joined (map of xs)) (h t x) ∙ append_assoc (launches t) (of x) (joined (map of xs))

  together_launch : (join : whole.Plan → whole.Plan → whole.Plan) → ((t u : whole.Plan) → launches (join t u) ≡ launches t ++ launches u) → (us : List whole.Plan) → launches (together join (whole.Reply Error) us) ≡ joined (map launches us)
  together_launch join h [] = refl
  together_launch join h (u ∷ us) = fold_launches join launches h u us

  led_launch : (qs : List Part) → launches (led_by qs) ≡ joined (map (λ q. launches (alone q)) qs)
  led_launch [] = refl
  led_launch (q ∷ qs) = fold_launches beside (λ z. launches (alone z)) beside_launches (alone q) qs

  -- ---- plans in memory

  abbrev Agrees : Plan → Type 0
  Agrees p = launches (whole_of p) ≡ legs_of c p

  abbrev Both : Type 0
  Both = (p : Plan) × Agrees p

  -- each of several plans
  agree_whole : (es : List Both) → joined (map launches (map whole_of (map (λ e. e.0) es))) ≡ joined (map (legs_of c) (map (λ e. e.0) es))
  agree_whole [] = refl
  agree_whole (e ∷ es) = ap₂ (λ ls ms. ls ++ ms) e.1 (agree_whole es)

  agree_parts : (es : List Both) → joined (map (λ q. launches (alone q)) (map part_of (map (λ e. e.0) es))) ≡ joined (map (legs_of c) (map (λ e. e.0) es))
  agree_parts [] = refl
  agree_parts (e ∷ es) = ap₂ (λ ls ms. ls ++ ms) e.1 (agree_parts es)

  agrees-Send : (l : PlannedLeg) → Agrees (Send l)
  agrees-Send l = ap (λ q. launches (alone q)) (part-Send l) ∙ sym (built.legs-Send c l)

  agrees-Reply : (f : FixedReply) → Agrees (Reply f)
  agrees-Reply f = ap (λ q. launches (alone q)) (part-Reply f) ∙ sym (built.legs-Reply c f)

  agrees-All : (v : Vec Plan Global) (es : List Both) → v.items ≡ map (λ e. e.0) es → Agrees (All v)
  agrees-All v es is =
      ap (λ q. launches (alone q)) (part-All v) ∙ together_launch whole.Both both_launch (map whole_of v.items) ∙ ap (λ ps. joined (map launches (map whole_of ps))) is ∙ agree_whole es
      ∙ ap (λ ps. joined (map (legs_of c) ps)) (sym is) ∙ sym (built.legs-All c v)

  agrees-Beside : (v : Vec Plan Global) (es : List Both) → v.items ≡ map (λ e. e.0) es → Agrees (Beside v)
  agrees-Beside v es is =
      ap (λ q. launches (alone q)) (part-Beside v) ∙ led_launch (map part_of v.items) ∙ ap (λ ps. joined (map (λ q. launches (alone q)) (map part_of ps))) is ∙ agree_parts es
      ∙ ap (λ ps. joined (map (legs_of c) ps)) (sym is) ∙ sym (built.legs-Beside c v)

  agrees-InTurn : (w : After) (v : Vec Plan Global) (es : List Both) → v.items ≡ map (λ e. e.0) es → Agrees (InTurn w v)
  agrees-InTurn w v es is =
      ap (λ q. launches (alone q)) (part-InTurn w v) ∙ together_launch (in_turn w) (turn_launches w) (map whole_of v.items) ∙ ap (λ ps. joined (map launches (map whole_of ps))) is ∙ agree_whole es
      ∙ ap (λ ps. joined (map (legs_of c) ps)) (sym is) ∙ sym (built.legs-InTurn c w v)

  agrees-OnHit : (p q : Box Plan Global) → Agrees p.value → Agrees q.value → Agrees (OnHit p q)
  agrees-OnHit p q h g =
      ap (λ z. launches (alone z)) (part-OnHit p q) ∙ both_launch (whole_of p.value) (whole_of q.value) ∙ ap₂ (λ ls ms. ls ++ ms) h g ∙ sym (built.legs-OnHit c p q)

  agrees-Shadowed : (s a b : ℕ) (p : Box Plan Global) → Agrees p.value → Agrees (Shadowed s a b p)
  agrees-Shadowed s a b p h =
      ap (λ z. launches (alone z)) (part-Shadowed s a b p) ∙ if_launches (nat_le a (c s) && nat_le (c s) b) (whole_of p.value)
      ∙ ap (λ ls. cond (nat_le a (c s) && nat_le (c s) b) ls []) h ∙ sym (built.legs-Shadowed c s a b p)

  -- a layer whose parts agree
  layer : (y : Plan-F Both) → Agrees (roll-Plan (map-Plan Both Plan (λ e. e.0) y))
  layer (Plan-F.Send l) = subst Agrees (sym (rolls-Send l)) (agrees-Send l)
  layer (Plan-F.Reply f) = subst Agrees (sym (rolls-Reply f)) (agrees-Reply f)
  layer (Plan-F.All es) = subst Agrees (sym (rolls-All _)) (agrees-All _ es.items refl)
  layer (Plan-F.Beside es) = subst Agrees (sym (rolls-Beside _)) (agrees-Beside _ es.items refl)
  layer (Plan-F.InTurn w es) = subst Agrees (sym (rolls-InTurn w _)) (agrees-InTurn w _ es.items refl)
  layer (Plan-F.OnHit e f) = subst Agrees (sym (rolls-OnHit _ _)) (agrees-OnHit _ _ e.value.1 f.value.1)
  layer (Plan-F.Shadowed s a b e) = subst Agrees (sym (rolls-Shadowed s a b _)) (agrees-Shadowed s a b _ e.value.1)

  -- an induction over plans: y is x with a proof beside each part
  agrees : (p : Plan) → Agrees p
  agrees = ind-Plan Agrees (λ x y is. subst (λ z. Agrees (roll-Plan z)) is (layer y))

-- what a plan that serves the route lays out is what the call can launch
pub legs_are_planned : (c : Choice) (p : Plan) (t : Tree) (s : Situation) → Serves p t s → legs_of c p ≡ planned_legs t s c
legs_are_planned c p t s h = sym (agrees c p) ∙ ap (λ q. map (launch_of c) (all_legs (alone q) c)) h.whole
