-- Rows of the definitions: two pools of one server each, over one symbol; deletes go to the first, reads to both.
use Rattle.std.proofs.Common.{◌≡◌, ◌<◌, ℕ, zero, suc, List, [], ◌∷◌, Some, None, get_or, length, refl, ap, sym, ◌∙◌, subst, arith}
use Rattle.std.specs.Prelude.{slice_index}
use Rattle.mcv_judge.specs.Reason.{LegValue}
use Rattle.mcv_gaps.specs.Gaps.{HasGap, HasServerAt, IsAnsweredBy, IsMissed}
use Rattle.mcv_gaps.specs.Least.{owner_of}

abbrev first : LegValue
first = record { position = 0 ∷ []; symbol = 0; servers = 7 ∷ [] }

abbrev second : LegValue
second = record { position = 1 ∷ []; symbol = 0; servers = 8 ∷ [] }

abbrev sizes : List ℕ
sizes = 1 ∷ []

-- a delete to the second pool too answers for it
second_is_answered : IsAnsweredBy sizes (first ∷ second ∷ []) second 0
second_is_answered = (0, omega arith, λ j lt one. subst (λ k. HasServerAt (first ∷ second ∷ []) 0 k 8) (sym (one refl)) (record { leg = second; listed = (1, omega arith, refl); own = refl; sends = refl }))

-- one to the first pool alone doesn't
of_first : (d : LegValue) (k : ℕ) → k < length (first ∷ []) → get_or (first ∷ []) k d ≡ d → (s : ℕ) → s ≡ 0 → d.symbol ≡ s → slice_index d.servers 0 ≡ 8 → ⊥
of_first d zero lt e s at own sends = absurd (omega (arith, ap (λ (l : LegValue). slice_index l.servers 0) e ∙ sends))
of_first d (suc k) lt e s at own sends = absurd (omega (arith, lt))

second_is_missed : IsMissed sizes (first ∷ []) second
second_is_missed = (
  0,
  omega arith,
  λ a.
      let zeroth : a.0 ≡ 0 = let lt = a.1 in omega arith in
      let small : 0 < slice_index sizes a.0 = subst (λ s. 0 < slice_index sizes s) (sym zeroth) (omega arith) in
      let has : HasServerAt (first ∷ []) a.0 0 8 = a.2 0 small (λ _. refl) in
      of_first has.leg has.listed.0 has.listed.1 has.listed.2 a.0 zeroth has.own has.sends,
)

-- so there is a gap, for which that leg alone is missing
gap : HasGap sizes (record { readable = first ∷ second ∷ []; acknowledged = first ∷ [] }) []
gap = (second, (1, omega arith, refl), second_is_missed)

-- a server that leg 3 has, and leg 4 too, has no leg of its own
owners : owner_of 4 (Some (owner_of 3 None)) ≡ None
owners = refl
