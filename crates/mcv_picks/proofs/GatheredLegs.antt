-- Legs gathered one by one.
use Rattle.std.proofs.Common.{◌≡◌, ◌+◌, ◌<◌, ℕ, true, false, List, [], ◌∷◌, ◌++◌, length, drop, drop-cons, add-one, Option, Some, None, refl, sym, ap, ◌∙◌, append_assoc}
use Rattle.std.specs.Prelude.{is_some}
use Rattle.mcv_base.specs.declared.request.ServerId.{ServerId}
use Rattle.mcv_judge.specs.PairsInMemory.{numbers}
use Rattle.mcv_judge.specs.Reason.{LegValue}
use Rattle.mcv_picks.specs.Picks.{before_others, each_with, first_with}

-- legs, and those behind them
abbrev pub behind : List LegValue → Option (List LegValue) → Option (List LegValue)
behind ds None = None
behind ds (Some es) = Some (ds ++ es)

pub behind_more : (ds : List LegValue) (d : LegValue) (more : Option (List LegValue)) → behind ds (before_others (Some d) more) ≡ behind (ds ++ d ∷ []) more
behind_more ds d None = refl
behind_more ds d (Some es) = ap Some (sym (append_assoc ds (d ∷ []) es))

some_more : (o : Option LegValue) (more : Option (List LegValue)) → is_some o ≡ true → is_some (before_others o more) ≡ is_some more
some_more None more h = absurd cc
some_more (Some d) None h = refl
some_more (Some d) (Some ds) h = refl

none_more : (o : Option LegValue) (more : Option (List LegValue)) → is_some o ≡ false → before_others o more ≡ None
none_more None more h = refl
none_more (Some d) more h = absurd cc

module _ (legs : List LegValue) (s x : ℕ) (servers : List ServerId) (i : ℕ) (l : i < length servers) where
  each_step : each_with legs s x i (numbers (drop i servers)) ≡ before_others (first_with legs s x i) (each_with legs s x (i + 1) (numbers (drop (i + 1) servers)))
  each_step = rw (add-one, drop-cons servers i (record { 0 = 0 })) refl

  -- there is such a leg
  pub there_still : is_some (first_with legs s x i) ≡ true → is_some (each_with legs s x i (numbers (drop i servers))) ≡ is_some (each_with legs s x (i + 1) (numbers (drop (i + 1) servers)))
  there_still h = ap is_some each_step ∙ some_more (first_with legs s x i) (each_with legs s x (i + 1) (numbers (drop (i + 1) servers))) h

  -- there is none
  pub none_there : is_some (first_with legs s x i) ≡ false → each_with legs s x i (numbers (drop i servers)) ≡ None
  none_there h = each_step ∙ none_more (first_with legs s x i) (each_with legs s x (i + 1) (numbers (drop (i + 1) servers))) h

  -- it goes behind the others
  pub gathered : (ds : List LegValue) (d : LegValue) → Some d ≡ first_with legs s x i → behind ds (each_with legs s x i (numbers (drop i servers))) ≡ behind (ds ++ d ∷ []) (each_with legs s x (i + 1) (numbers (drop (i + 1) servers)))
  gathered ds d is = ap (behind ds) (each_step ∙ ap (λ o. before_others o (each_with legs s x (i + 1) (numbers (drop (i + 1) servers)))) (sym is)) ∙ behind_more ds d (each_with legs s x (i + 1) (numbers (drop (i + 1) servers)))
