-- What a hash chooses, and the era of a moment.
use Rattle.std.proofs.Common.{zero, suc, ◌<◌, [], ◌∷◌, ℕ, Option, Some, None, arith}
use Rattle.std.proofs.lemmas.List.Elements.{All-head, All-tail}
use Rattle.mcv_pools.specs.Symbol.{SymbolValue}
use Rattle.mcv_route.proofs.OpeningBreak.{since_is_last}
use Rattle.mcv_route.specs.Eras.{IsEra, IsSince, breaks_of, since_at}
use Rattle.mcv_world.specs.Laws.{ChosenIsChoice, MomentsHaveEras}

pub chosen_is_choice : ChosenIsChoice
chosen_is_choice chosen [] part law all s low = absurd (omega (arith, low))
chosen_is_choice chosen (x ∷ symbols) part law all zero low = law x (All-head (λ (s : SymbolValue). 0 < s.n) x symbols all)
chosen_is_choice chosen (x ∷ symbols) part law all (suc s) low = chosen_is_choice chosen symbols part law (All-tail (λ (s : SymbolValue). 0 < s.n) x symbols all) s (omega (arith, low))

pub moments_have_eras : MomentsHaveEras
moments_have_eras r moment = by_cases (since_at (breaks_of r) moment) (since_is_last (breaks_of r) moment)
  where
    by_cases : (o : Option ℕ) → IsSince (breaks_of r) moment o → IsEra r o
    by_cases None h = tt
    by_cases (Some s) h = h.0
