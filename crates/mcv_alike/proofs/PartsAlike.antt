-- Lists of parts of plans that do the same, put together.
use Rattle.std.proofs.Common.{◌≡◌, ◌<◌, ◌+◌, ◌∷◌, ◌++◌, ◌⊎◌, inl, inr, List, [], ℕ, length, map, refl, ap, ◌∙◌, fold, arith}
use Rattle.std.proofs.lemmas.List.{map-append}
use Rattle.std.proofs.lemmas.List.Sums.{fold-append}
use Rattle.mcv_base.specs.declared.reply.Outcome.TheVariants.{Error}
use Rattle.mcv_judge.specs.Reason.{LegValue}
use Rattle.mcv_route.specs.Routes.{RoutesValue}
use Rattle.mcv_rules.specs.NormalForm.{Part, all_of, alone, beside, in_turn, led_by, part, shade, turns_of}
use Rattle.mcv_rules.specs.Plan.{Leg, Plan, Send, Reply, Both, Beside, OnError, OnMiss}
use Rattle.mcv_rules.specs.declared.arrival.After.{After}
use Rattle.mcv_rules.specs.declared.arrival.After.TheVariants as after
use Rattle.mcv_alike.specs.Plans.{AreAddedLegs, AreAddedParts, AreOnePart, AreOneParts, AreOnePlan, IsAddedPart, IsWidened, sends_more}

module _ (r n : RoutesValue) where
  pub alone-one : (p q : Part) → AreOnePart r n p q → AreOnePlan r n (alone p) (alone q)
  alone-one (part t) (part u) one = one
  alone-one (part t) (shade z c d u) one = absurd one
  alone-one (shade s a b t) (part u) one = absurd one
  alone-one (shade s a b t) (shade z c d u) one = (one.0, one.1, one.2, refl, one.3)

  beside-one : (t v : Plan) (p q : Part) → AreOnePlan r n t v → AreOnePart r n p q → AreOnePlan r n (beside t p) (beside v q)
  beside-one t v (part u) (part w) h one = (h, one)
  beside-one t v (part u) (shade z c d w) h one = absurd one
  beside-one t v (shade s a b u) (part w) h one = absurd one
  beside-one t v (shade s a b u) (shade z c d w) h one = (one.0, one.1, one.2, h, one.3)

  led-on : (t v : Plan) (ps qs : List Part) → AreOnePlan r n t v → AreOneParts r n ps qs → AreOnePlan r n (fold beside t ps) (fold beside v qs)
  led-on t v [] [] h are = h
  led-on t v [] (q ∷ qs) h are = absurd are
  led-on t v (p ∷ ps) [] h are = absurd are
  led-on t v (p ∷ ps) (q ∷ qs) h are = led-on (beside t p) (beside v q) ps qs (beside-one t v p q h are.0) are.1

  pub led-one : (ps qs : List Part) → AreOneParts r n ps qs → AreOnePlan r n (led_by ps) (led_by qs)
  led-one [] [] are = refl
  led-one [] (q ∷ qs) are = absurd are
  led-one (p ∷ ps) [] are = absurd are
  led-one (p ∷ ps) (q ∷ qs) are = led-on (alone p) (alone q) ps qs (alone-one p q are.0) are.1

  -- put together in one of the ways that keep it
  module _ (join : Plan → Plan → Plan) (keeps : (t u v w : Plan) → AreOnePlan r n t v → AreOnePlan r n u w → AreOnePlan r n (join t u) (join v w)) where
    folded : (t v : Plan) (ps qs : List Part) → AreOnePlan r n t v → AreOneParts r n ps qs → AreOnePlan r n (fold join t (map alone ps)) (fold join v (map alone qs))
    folded t v [] [] h are = h
    folded t v [] (q ∷ qs) h are = absurd are
    folded t v (p ∷ ps) [] h are = absurd are
    folded t v (p ∷ ps) (q ∷ qs) h are = folded (join t (alone p)) (join v (alone q)) ps qs (keeps t (alone p) v (alone q) h (alone-one p q are.0)) are.1

  pub all-one : (ps qs : List Part) → AreOneParts r n ps qs → AreOnePlan r n (all_of (map alone ps)) (all_of (map alone qs))
  all-one [] [] are = refl
  all-one [] (q ∷ qs) are = absurd are
  all-one (p ∷ ps) [] are = absurd are
  all-one (p ∷ ps) (q ∷ qs) are = folded Both (λ t u v w g h. (g, h)) (alone p) (alone q) ps qs (alone-one p q are.0) are.1

  pub turns-one : (w : After) (ps qs : List Part) → AreOneParts r n ps qs → AreOnePlan r n (turns_of w (map alone ps)) (turns_of w (map alone qs))
  turns-one w [] [] are = refl
  turns-one w [] (q ∷ qs) are = absurd are
  turns-one w (p ∷ ps) [] are = absurd are
  turns-one after.Error (p ∷ ps) (q ∷ qs) are = folded (in_turn after.Error) (λ t u v w g h. (g, h)) (alone p) (alone q) ps qs (alone-one p q are.0) are.1
  turns-one after.Miss (p ∷ ps) (q ∷ qs) are = folded (in_turn after.Miss) (λ t u v w g h. (g, h)) (alone p) (alone q) ps qs (alone-one p q are.0) are.1

  -- one more at the end
  pub parts-grow : (ps qs : List Part) (p q : Part) → AreOneParts r n ps qs → AreOnePart r n p q → AreOneParts r n (ps ++ p ∷ []) (qs ++ q ∷ [])
  parts-grow [] [] p q are one = (one, tt)
  parts-grow [] (y ∷ qs) p q are one = absurd are
  parts-grow (x ∷ ps) [] p q are one = absurd are
  parts-grow (x ∷ ps) (y ∷ qs) p q are one = (are.0, parts-grow ps qs p q are.1 one)

  pub added-grow : (ks : List LegValue) (qs : List Part) (k : LegValue) (q : Part) → AreAddedParts r n ks qs → IsAddedPart r n k q → AreAddedParts r n (ks ++ k ∷ []) (qs ++ q ∷ [])
  added-grow [] [] k q are one = (one, tt)
  added-grow [] (y ∷ qs) k q are one = absurd are
  added-grow (x ∷ ks) [] k q are one = absurd are
  added-grow (x ∷ ks) (y ∷ qs) k q are one = (are.0, added-grow ks qs k q are.1 one)

  -- ---- legs added

  -- the parts are plans that send one leg each
  pub record AreLegs (ks : List LegValue) (qs : List Part) : Type 0 where
    pub legs : List Leg
    pub added : AreAddedLegs r n ks legs
    pub are : qs ≡ map (λ l. part (Send l)) legs

  pub legs_of_parts : (ks : List LegValue) (qs : List Part) → AreAddedParts r n ks qs → AreLegs ks qs
  legs_of_parts [] [] are = record { legs = []; added = tt; are = refl }
  legs_of_parts [] (q ∷ qs) are = absurd are
  legs_of_parts (k ∷ ks) [] are = absurd are
  legs_of_parts (k ∷ ks) (part (Send l) ∷ qs) are =
      let more = legs_of_parts ks qs are.1 in
      record { legs = l ∷ more.legs; added = (are.0, more.added); are = ap (λ x. part (Send l) ∷ x) more.are }
  legs_of_parts (k ∷ ks) (q ∷ qs) are = absurd are.0

sent_alone : (ls : List Leg) → map alone (map (λ l. part (Send l)) ls) ≡ map Send ls
sent_alone [] = refl
sent_alone (l ∷ ls) = ap (λ x. Send l ∷ x) (sent_alone ls)

beside_sent : (t : Plan) (ls : List Leg) → fold beside t (map (λ l. part (Send l)) ls) ≡ fold Beside t (map Send ls)
beside_sent t [] = refl
beside_sent t (l ∷ ls) = beside_sent (Beside t (Send l)) ls

all_more : (p : Part) (ps qs : List Part) (ls : List Leg) → qs ≡ map (λ l. part (Send l)) ls → all_of (map alone ((p ∷ ps) ++ qs)) ≡ sends_more Both (all_of (map alone (p ∷ ps))) ls
all_more p ps qs ls e =
    ap (fold Both (alone p)) (map-append alone ps qs ∙ ap (λ x. map alone ps ++ x) (ap (map alone) e ∙ sent_alone ls))
    ∙ fold-append Both (alone p) (map alone ps) (map Send ls)

led_more : (p : Part) (ps qs : List Part) (ls : List Leg) → qs ≡ map (λ l. part (Send l)) ls → led_by ((p ∷ ps) ++ qs) ≡ sends_more Beside (led_by (p ∷ ps)) ls
led_more p ps qs ls e = fold-append beside (alone p) ps qs ∙ ap (fold beside (fold beside (alone p) ps)) e ∙ beside_sent (fold beside (alone p) ps) ls

module _ (r n : RoutesValue) where
  -- a plan that waits for these parts and the legs behind them
  pub all_widened : (ks : List LegValue) (t : Plan) (ps qs : List Part) → 0 < length ps → AreOnePlan r n t (all_of (map alone ps)) → AreAddedParts r n ks qs → IsWidened r n ks t (all_of (map alone (ps ++ qs)))
  all_widened ks t [] qs some one are = absurd (omega arith)
  all_widened ks t (p ∷ ps) qs some one are =
      let legs = legs_of_parts r n ks qs are in
      record { own = all_of (map alone (p ∷ ps)); same = one; legs = legs.legs; added = legs.added; joined = inl (all_more p ps qs legs.legs legs.are) }

  -- one that sends them at once
  pub led_widened : (ks : List LegValue) (t : Plan) (ps qs : List Part) → 0 < length ps → AreOnePlan r n t (led_by ps) → AreAddedParts r n ks qs → IsWidened r n ks t (led_by (ps ++ qs))
  led_widened ks t [] qs some one are = absurd (omega arith)
  led_widened ks t (p ∷ ps) qs some one are =
      let legs = legs_of_parts r n ks qs are in
      record { own = led_by (p ∷ ps); same = one; legs = legs.legs; added = legs.added; joined = inr (led_more p ps qs legs.legs legs.are) }

  -- one to which nothing is added
  pub none_widened : (t u : Plan) → AreOnePlan r n t u → IsWidened r n [] t u
  none_widened t u one = record { own = u; same = one; legs = []; added = tt; joined = inl refl }
