-- Before the first gap of a block each index has a reason.
use Rattle.std.proofs.Common.{◌≡◌, ◌<◌, ℕ, suc, ◌∷◌, length, take, drop, inl, inr, sym, ◌∙◌, subst}
use Rattle.std.specs.List.{AllPairs, Contains}
use Rattle.std.specs.declared.cmp.Ordering.TheVariants.{Less}
use Rattle.std.proofs.lemmas.List.Elements.{All-contains, Contains-append_cases}
use Rattle.mcv_cert.specs.Pair.{index_cmp, list_cmp}
use Rattle.mcv_judge.specs.Faults.{AreLegsRising}
use Rattle.mcv_judge.specs.Reason.{BlockValue, HasReason, HasReasons, LegValue}
use Rattle.mcv_pairs.specs.Gaps.{IsFirstGapIn}
use Rattle.mcv_route.proofs.RisingLists.{above_first, first_or_behind}
use Rattle.mcv_certify.proofs.Lists.{parted, rises_from}
use Rattle.mcv_certify.proofs.Places.{in_one_block, lesser_index, not_before, place_in}

abbrev IsBefore : LegValue → LegValue → Type 0
IsBefore l m = list_cmp l.position m.position ≡ Less

-- before the first gap of a block each index has a reason
pub before_gap : (b : BlockValue) → AreLegsRising b.readable → (number at : ℕ) (gap : IsFirstGapIn b number at) (l : LegValue) (j : ℕ) → Contains b.readable l → j < length l.servers → index_cmp (place_in b l) j (place_in b gap.leaf) at ≡ Less → HasReason b l j
before_gap b rises number at gap l j has low less =
    let parts = parted b.readable number gap.leaf gap.numbered in
    let front = take number b.readable in
    let back = drop (suc number) b.readable in
    let up = rises_from IsBefore front (gap.leaf ∷ back) (subst (AllPairs IsBefore) parts rises) in
    elim (Contains-append_cases front (gap.leaf ∷ back) l (subst (λ ls. Contains ls l) parts has)) [
      | inl h ↦ All-contains (HasReasons b) front l gap.before h j low
      | inr h ↦ elim (first_or_behind gap.leaf back l h) [
        | inl same ↦
            let here : index_cmp (place_in b gap.leaf) j (place_in b gap.leaf) at ≡ Less = subst (λ m. index_cmp (place_in b m) j (place_in b gap.leaf) at ≡ Less) (sym same) less in
            subst (λ m. HasReason b m j) same (gap.first.before j (lesser_index (place_in b gap.leaf) j at here))
        | inr later ↦ absurd (not_before (place_in b l) j (place_in b gap.leaf) at less (in_one_block b gap.leaf l ∙ above_first IsBefore gap.leaf back l up later))
      ]
    ]
