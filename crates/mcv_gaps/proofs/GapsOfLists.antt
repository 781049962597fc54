-- More legs leave no more gaps.
use Rattle.std.proofs.Common.{ℕ, List, ◌++◌, ⊎_elim}
use Rattle.std.specs.List.{Contains}
use Rattle.std.proofs.lemmas.List.Elements.{Contains-append_cases, Contains-append_left, Contains-append_right}
use Rattle.mcv_judge.specs.Reason.{LegValue}
use Rattle.mcv_gaps.specs.Gaps.{HasGap, HasServerAt, HaveGap, IsAnsweredBy, IsMissed, WantedValue}
use Rattle.mcv_gaps.proofs.LeastLegs.{AreAmong}

module _ (sizes : List ℕ) where
  pub more_answer : (xs ys : List LegValue) (leaf : LegValue) (i : ℕ) → AreAmong xs ys → IsAnsweredBy sizes xs leaf i → IsAnsweredBy sizes ys leaf i
  more_answer xs ys leaf i among a = (a.0, a.1, λ j lt one. let h = a.2 j lt one in record { leg = h.leg; listed = among h.leg h.listed; own = h.own; sends = h.sends })

  pub fewer_miss : (xs ys : List LegValue) (leaf : LegValue) → AreAmong xs ys → IsMissed sizes ys leaf → IsMissed sizes xs leaf
  fewer_miss xs ys leaf among m = (m.0, m.1, λ a. m.2 (more_answer xs ys leaf m.0 among a))

  beside : (ls xs ys : List LegValue) → AreAmong xs ys → AreAmong (ls ++ xs) (ls ++ ys)
  beside ls xs ys among x at = ⊎_elim (Contains-append_left ls ys x) (λ h. Contains-append_right ls ys x (among x h)) (Contains-append_cases ls xs x at)

  module _ (ws : List WantedValue) where
    pub fewer_gap : (xs ys : List LegValue) → AreAmong xs ys → HaveGap sizes ws ys → HaveGap sizes ws xs
    fewer_gap xs ys among g = (g.0, g.1, (g.2.0, g.2.1, fewer_miss (g.0.acknowledged ++ xs) (g.0.acknowledged ++ ys) g.2.0 (beside g.0.acknowledged xs ys among) g.2.2))
