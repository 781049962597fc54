-- Plans in memory that do the same, one level at a time.
use Rattle.std.proofs.Common.{◌≡◌, ◌<◌, ◌+◌, ℕ, List, [], ◌∷◌, ◌++◌, Vec, Box, Global, get_or, length, map, take, drop, sym, ap, ◌∙◌, subst, arith}
use Rattle.std.proofs.lemmas.List.{map-append, length-map}
use Rattle.std.proofs.lemmas.Simd.{map-map}
use Rattle.mcv_base.specs.declared.reply.FixedReply.{FixedReply}
use Rattle.mcv_base.specs.Reply.{fixed_value, outcome_of}
use Rattle.mcv_base.specs.declared.request.ServerId.{ServerId}
use Rattle.mcv_judge.specs.PairsInMemory.{numbers}
use Rattle.mcv_judge.specs.Reason.{LegValue}
use Rattle.mcv_alike.specs.Numbers.{legs_value}
use Rattle.mcv_alike.specs.declared.needed.NeededLeg.{NeededLeg}
use Rattle.mcv_route.specs.Routes.{RoutesValue}
use Rattle.mcv_rules.specs.NormalForm.{Part, all_of, alone, led_by, leg_of, part, part_of, shade, turns_of, whole_of}
use Rattle.mcv_rules.specs.Plan as planned
use Rattle.mcv_rules.specs.declared.arrival.After.{After}
use Rattle.mcv_rules.specs.declared.plan.PlannedLeg.{PlannedLeg}
use Rattle.mcv_rules.specs.declared.plan.Plan.{Plan, Send, Reply, All, Beside, InTurn, OnHit, Shadowed}
use Rattle.mcv_rules.proofs.NormalForms.{part-All, part-Beside, part-InTurn, part-OnHit, part-Reply, part-Send, part-Shadowed}
use Rattle.mcv_alike.specs.Plans.{AreAddedParts, AreOneLeg, AreOnePart, AreOneParts, AreOnePlan, AreOnePool, AreOneSymbol, IsAddedLeg, IsAddedPart, IsWidened}
use Rattle.mcv_alike.proofs.PartsAlike.{all-one, all_widened, alone-one, led-one, led_widened, none_widened, turns-one}

-- both parts are known
both : (r n : RoutesValue) (p q x y : Part) → p ≡ x → q ≡ y → AreOnePart r n x y → AreOnePart r n p q
both r n p q x y e f one = subst (λ z. AreOnePart r n z q) (sym e) (subst (λ z. AreOnePart r n x z) (sym f) one)

-- the plans of a list, as the parts' own plans
pub wholes : (xs : List Plan) → map alone (map part_of xs) ≡ map whole_of xs
wholes xs = map-map alone part_of xs

module _ (r n : RoutesValue) (old new : Plan) where
  pub same-Send : (k l : PlannedLeg) → old ≡ Send k → new ≡ Send l → AreOneLeg r n (leg_of k) (leg_of l) → AreOnePart r n (part_of old) (part_of new)
  same-Send k l e f one = both r n (part_of old) (part_of new) _ _ (ap part_of e ∙ part-Send k) (ap part_of f ∙ part-Send l) one

  pub same-Reply : (x y : FixedReply) → old ≡ Reply x → new ≡ Reply y → x ≡ y → AreOnePart r n (part_of old) (part_of new)
  same-Reply x y e f one = both r n (part_of old) (part_of new) _ _ (ap part_of e ∙ part-Reply x) (ap part_of f ∙ part-Reply y) (ap (λ z. outcome_of (fixed_value z)) one)

  pub same-All : (v w : Vec Plan Global) → old ≡ All v → new ≡ All w → AreOneParts r n (map part_of v.items) (map part_of w.items) → AreOnePart r n (part_of old) (part_of new)
  same-All v w e f are =
      let wholes_same : AreOnePlan r n (all_of (map alone (map part_of v.items))) (all_of (map alone (map part_of w.items))) = all-one r n (map part_of v.items) (map part_of w.items) are in
      both r n (part_of old) (part_of new) _ _
      (ap part_of e ∙ part-All v ∙ ap (λ us. part (all_of us)) (sym (wholes v.items))) (ap part_of f ∙ part-All w ∙ ap (λ us. part (all_of us)) (sym (wholes w.items))) wholes_same

  pub same-Beside : (v w : Vec Plan Global) → old ≡ Beside v → new ≡ Beside w → AreOneParts r n (map part_of v.items) (map part_of w.items) → AreOnePart r n (part_of old) (part_of new)
  same-Beside v w e f are = both r n (part_of old) (part_of new) _ _ (ap part_of e ∙ part-Beside v) (ap part_of f ∙ part-Beside w) (led-one r n (map part_of v.items) (map part_of w.items) are)

  pub same-InTurn : (a b : After) (v w : Vec Plan Global) → old ≡ InTurn a v → new ≡ InTurn b w → a ≡ b → AreOneParts r n (map part_of v.items) (map part_of w.items) → AreOnePart r n (part_of old) (part_of new)
  same-InTurn a b v w e f g are =
      both r n (part_of old) (part_of new) (part (turns_of a (map alone (map part_of v.items)))) (part (turns_of a (map alone (map part_of w.items))))
      (ap part_of e ∙ part-InTurn a v ∙ ap (λ us. part (turns_of a us)) (sym (wholes v.items)))
      (ap part_of f ∙ part-InTurn b w ∙ ap (λ us. part (turns_of b us)) (sym (wholes w.items)) ∙ ap (λ c. part (turns_of c (map alone (map part_of w.items)))) (sym g))
      (turns-one r n a (map part_of v.items) (map part_of w.items) are)

  pub same-OnHit : (p q x y : Box Plan Global) → old ≡ OnHit p q → new ≡ OnHit x y → AreOnePart r n (part_of p.value) (part_of x.value) → AreOnePart r n (part_of q.value) (part_of y.value) → AreOnePart r n (part_of old) (part_of new)
  same-OnHit p q x y e f one other =
      both r n (part_of old) (part_of new) _ _ (ap part_of e ∙ part-OnHit p q) (ap part_of f ∙ part-OnHit x y)
      (alone-one r n (part_of p.value) (part_of x.value) one, alone-one r n (part_of q.value) (part_of y.value) other)

  pub same-Shadowed : (s a b z c d : ℕ) (p x : Box Plan Global) → old ≡ Shadowed s a b p → new ≡ Shadowed z c d x → AreOneSymbol r n s z → a ≡ c → b ≡ d → AreOnePart r n (part_of p.value) (part_of x.value)
      → AreOnePart r n (part_of old) (part_of new)
  same-Shadowed s a b z c d p x e f one g h same =
      both r n (part_of old) (part_of new) _ _ (ap part_of e ∙ part-Shadowed s a b p) (ap part_of f ∙ part-Shadowed z c d x) (one, g, h, alone-one r n (part_of p.value) (part_of x.value) same)

-- ---- legs added

pub added-Send : (r n : RoutesValue) (k : LegValue) (p : Plan) (l : PlannedLeg) → p ≡ Send l → IsAddedLeg r n k (leg_of l) → IsAddedPart r n k (part_of p)
added-Send r n k p l e one = subst (IsAddedPart r n k) (sym (ap part_of e ∙ part-Send l)) one

module _ (r n : RoutesValue) (ks : List LegValue) (old new : Plan) where
  pub widened-none : AreOnePart r n (part_of old) (part_of new) → IsWidened r n [] (whole_of old) (whole_of new)
  widened-none one = none_widened r n (whole_of old) (whole_of new) (alone-one r n (part_of old) (part_of new) one)

  pub widened-All : (v : Vec Plan Global) → new ≡ All v → IsWidened r n ks (whole_of old) (all_of (map whole_of v.items)) → IsWidened r n ks (whole_of old) (whole_of new)
  widened-All v e w = subst (IsWidened r n ks (whole_of old)) (sym (ap alone (ap part_of e ∙ part-All v))) w

  pub widened-Beside : (v : Vec Plan Global) → new ≡ Beside v → IsWidened r n ks (whole_of old) (led_by (map part_of v.items)) → IsWidened r n ks (whole_of old) (whole_of new)
  widened-Beside v e w = subst (IsWidened r n ks (whole_of old)) (sym (ap alone (ap part_of e ∙ part-Beside v))) w

-- plans in front, and legs behind them
pub split-all : (r n : RoutesValue) (ks : List LegValue) (t : planned.Plan) (news front behind : List Plan) → news ≡ front ++ behind → 0 < length front
    → AreOnePlan r n t (all_of (map whole_of front)) → AreAddedParts r n ks (map part_of behind) → IsWidened r n ks t (all_of (map whole_of news))
split-all r n ks t news front behind e some one are =
    let own : AreOnePlan r n t (all_of (map alone (map part_of front))) = subst (λ us. AreOnePlan r n t (all_of us)) (sym (wholes front)) one in
    subst (λ us. IsWidened r n ks t (all_of us))
    (ap (map alone) (sym (map-append part_of front behind)) ∙ wholes (front ++ behind) ∙ ap (map whole_of) (sym e))
    (all_widened r n ks t (map part_of front) (map part_of behind) (subst (λ k. 0 < k) (sym (length-map front part_of)) some) own are)

pub split-led : (r n : RoutesValue) (ks : List LegValue) (old : Plan) (v : Vec Plan Global) (news front behind : List Plan) → old ≡ Beside v → news ≡ front ++ behind → 0 < length front
    → AreOneParts r n (map part_of v.items) (map part_of front) → AreAddedParts r n ks (map part_of behind) → IsWidened r n ks (whole_of old) (led_by (map part_of news))
split-led r n ks old v news front behind f e some ones are =
    let own : AreOnePlan r n (whole_of old) (led_by (map part_of front)) =
    subst (λ x. AreOnePlan r n x (led_by (map part_of front))) (sym (ap alone (ap part_of f ∙ part-Beside v))) (led-one r n (map part_of v.items) (map part_of front) ones) in
    subst (λ us. IsWidened r n ks (whole_of old) (led_by us)) (sym (map-append part_of front behind) ∙ ap (map part_of) (sym e))
    (led_widened r n ks (whole_of old) (map part_of front) (map part_of behind) (subst (λ k. 0 < k) (sym (length-map front part_of)) some) own are)

-- ---- by what is in memory

module _ (r n : RoutesValue) where
  pub parts_like : (xs us ys vs : List Plan) → xs ≡ us → ys ≡ vs → AreOneParts r n (map part_of xs) (map part_of ys) → AreOneParts r n (map part_of us) (map part_of vs)
  parts_like xs us ys vs e f one = subst (λ (zs : List Plan). AreOneParts r n (map part_of zs) (map part_of vs)) e (subst (λ (zs : List Plan). AreOneParts r n (map part_of xs) (map part_of zs)) f one)

  pub part_like : (x u y v : Plan) → x ≡ u → y ≡ v → AreOnePart r n (part_of x) (part_of y) → AreOnePart r n (part_of u) (part_of v)
  part_like x u y v e f one = subst (λ (z : Plan). AreOnePart r n (part_of z) (part_of v)) e (subst (λ (z : Plan). AreOnePart r n (part_of x) (part_of z)) f one)

  pub pool_like : (s z : ℕ) (xs us ys vs : List ServerId) → xs ≡ us → ys ≡ vs → AreOnePool r n s (numbers xs) z (numbers ys) → AreOnePool r n s (numbers us) z (numbers vs)
  pool_like s z xs us ys vs e f one = subst (λ (ids : List ServerId). AreOnePool r n s (numbers ids) z (numbers vs)) e (subst (λ (ids : List ServerId). AreOnePool r n s (numbers xs) z (numbers ids)) f one)

  -- one plan that waits for itself alone
  pub only_one : (old x : Plan) (news : List Plan) → length news ≡ 1 → x ≡ get_or news 0 x → AreOnePart r n (part_of old) (part_of x) → AreOnePlan r n (whole_of old) (all_of (map whole_of news))
  only_one old x [] count is one = absurd (omega (arith, count))
  only_one old x (y ∷ []) count is one = subst (λ (z : Plan). AreOnePlan r n (whole_of old) (whole_of z)) is (alone-one r n (part_of old) (part_of x) one)
  only_one old x (y ∷ z ∷ news) count is one = absurd (omega (arith, count))

  -- all plans of the old one, by their parts
  pub all_like : (old : Plan) (v : Vec Plan Global) (news : List Plan) → old ≡ All v → AreOneParts r n (map part_of v.items) (map part_of news) → AreOnePlan r n (whole_of old) (all_of (map whole_of news))
  all_like old v news e are =
      let whole : whole_of old ≡ all_of (map whole_of v.items) = ap alone (ap part_of e ∙ part-All v) in
      let both : AreOnePlan r n (all_of (map alone (map part_of v.items))) (all_of (map alone (map part_of news))) = all-one r n (map part_of v.items) (map part_of news) are in
      subst (λ (t : planned.Plan). AreOnePlan r n t (all_of (map whole_of news))) (sym whole)
      (subst (λ us. AreOnePlan r n (all_of us) (all_of (map whole_of news))) (wholes v.items) (subst (λ us. AreOnePlan r n (all_of (map alone (map part_of v.items))) (all_of us)) (wholes news) both))

  -- no leg is needed
  pub none_needed : (ks : List NeededLeg) (old new : Plan) → length ks ≡ 0 → AreOnePart r n (part_of old) (part_of new) → IsWidened r n (legs_value ks) (whole_of old) (whole_of new)
  none_needed [] old new count one = widened-none r n [] old new one
  none_needed (k ∷ ks) old new count one = absurd (omega (arith, count))
