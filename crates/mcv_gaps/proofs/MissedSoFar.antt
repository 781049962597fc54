-- The leaves that are missed, gathered one after another.
use Rattle.std.proofs.Common.{◌≡◌, ◌<◌, ◌≤◌, ◌+◌, ℕ, List, [], ◌∷◌, ◌++◌, ⊎_elim, get_or, length, map, take, true≢false, sym, ap, ◌∙◌, subst, arith}
use Rattle.std.specs.List.{All, Contains}
use Rattle.std.proofs.lemmas.List.{take_all}
use Rattle.std.proofs.lemmas.List.Elements.{All-contains, All-nil, Contains-append_left, Contains-push, Contains-push_cases}
use Rattle.mcv_judge.specs.declared.block.Leg.{Leg}
use Rattle.mcv_judge.specs.PairsInMemory.{leg_of, legs_of}
use Rattle.mcv_judge.specs.Reason.{LegValue}
use Rattle.mcv_picks.specs.Tables.{TwinKey}
use Rattle.std.specs.BTreeSet.{BTreeSet}
use Rattle.mcv_gaps.specs.Gaps.{AreAllSizedBy, AreSizedBy, IsMissed, WantedValue, wanted_of, wanteds_of}
use Rattle.mcv_gaps.specs.Least.{AreEnough, AreEnoughFor, HasTwin, IsMissingOf, TellsTwins, legs_missing}
use Rattle.mcv_gaps.specs.declared.gaps.Wanted.{Wanted}
use Rattle.mcv_gaps.specs.declared.missing.Found.{Found}
use Rattle.mcv_gaps.specs.declared.missing.Missing.{Missing}
use Rattle.mcv_gaps.proofs.Mapped.{item, one_further}

-- the legs can be read, and have those leaves so far that are missed
pub record AreMissedSoFar (w : WantedValue) (leaves : List Leg) (i : ℕ) (legs : List LegValue) : Type 0 where
  pub only : (d : LegValue) → Contains legs d → Contains w.readable d
  pub all : (sizes : List ℕ) → AreSizedBy sizes w → (d : LegValue) → Contains (legs_of (take i leaves)) d → IsMissed sizes w.acknowledged d → Contains legs d

pub missed_none : (w : WantedValue) (leaves : List Leg) → AreMissedSoFar w leaves 0 []
missed_none w leaves = record { only = λ d at. absurd (omega (arith, at.1)); all = λ sizes sized d at missed. absurd (omega (arith, at.1)) }

module _ (w : WantedValue) (leaves : List Leg) (i : ℕ) (leaf : Leg) (lt : i < length leaves) (is : leaf ≡ get_or leaves i leaf) (legs : List LegValue) (far : AreMissedSoFar w leaves i legs) where
  split : (d : LegValue) (X : Type 0) → Contains (legs_of (take (i + 1) leaves)) d → (Contains (legs_of (take i leaves)) d → X) → (leg_of leaf ≡ d → X) → X
  split d X at old new = ⊎_elim old new (Contains-push_cases (legs_of (take i leaves)) (leg_of leaf) d (subst (λ (ls : List LegValue). Contains ls d) (one_further leg_of leaves i leaf lt is) at))

  pub missed_more : Contains w.readable (leg_of leaf) → AreMissedSoFar w leaves (i + 1) (legs ++ leg_of leaf ∷ [])
  missed_more read = record {
    only = λ d at. ⊎_elim (far.only d) (λ e. subst (Contains w.readable) e read) (Contains-push_cases legs (leg_of leaf) d at);
    all = λ sizes sized d at missed. split d (Contains (legs ++ leg_of leaf ∷ []) d) at
        (λ h. Contains-append_left legs (leg_of leaf ∷ []) d (far.all sizes sized d h missed))
        (λ e. subst (Contains (legs ++ leg_of leaf ∷ [])) e (Contains-push legs (leg_of leaf)));
  }

  pub missed_same : ((sizes : List ℕ) → AreSizedBy sizes w → IsMissed sizes w.acknowledged (leg_of leaf) → ⊥) → AreMissedSoFar w leaves (i + 1) legs
  missed_same none = record {
    only = far.only;
    all = λ sizes sized d at missed. split d (Contains legs d) at
        (λ h. far.all sizes sized d h missed)
        (λ e. absurd (none sizes sized (subst (IsMissed sizes w.acknowledged) (sym e) missed)));
  }

pub missed_all : (w : WantedValue) (leaves : List Leg) (i : ℕ) (legs : List LegValue) → length leaves ≤ i → AreMissedSoFar w leaves i legs → (sizes : List ℕ) → AreSizedBy sizes w
    → (d : LegValue) → Contains (legs_of leaves) d → IsMissed sizes w.acknowledged d → Contains legs d
missed_all w leaves i legs past far sizes sized d at missed = far.all sizes sized d (subst (λ (xs : List Leg). Contains (legs_of xs) d) (sym (take_all i leaves past)) at) missed

-- ---- put in

-- what is found so far of some leaves of one
pub record IsFoundSoFar (w : WantedValue) (old found : Found) (legs : List LegValue) : Type 0 where
  pub only : (ws : List WantedValue) → Contains ws w → All (IsMissingOf ws) old.missing.items → All (IsMissingOf ws) found.missing.items
  pub tells : TellsTwins found.seen (legs_missing found.missing.items)
  pub kept : (d : LegValue) → HasTwin (legs_missing old.missing.items) d → HasTwin (legs_missing found.missing.items) d
  pub twins : (d : LegValue) → Contains legs d → HasTwin (legs_missing found.missing.items) d

-- and of all leaves of some
pub record IsFoundOf (ws : List WantedValue) (found : Found) (of : List WantedValue) : Type 0 where
  pub only : All (IsMissingOf ws) found.missing.items
  pub tells : TellsTwins found.seen (legs_missing found.missing.items)
  pub all : (sizes : List ℕ) → AreAllSizedBy sizes ws → AreEnough sizes of (legs_missing found.missing.items)

-- of none
pub found_none : (ws : List WantedValue) (found : Found) → found.missing.items ≡ [] → found.seen.keys ≡ [] → IsFoundOf ws found []
found_none ws found none empty = record {
  only = subst (λ (ms : List Missing). All (IsMissingOf ws) ms) (sym none) (All-nil (IsMissingOf ws));
  tells = λ k h. let there = rw empty at h in absurd (true≢false (sym there));
  all = λ sizes sized w at. absurd (omega (arith, at.1));
}

-- with those of one more
pub found_more : (wanted : List Wanted) (i : ℕ) (x : Wanted) (old found : Found) → i < length wanted → x ≡ get_or wanted i x → IsFoundOf (wanteds_of wanted) old (wanteds_of (take i wanted))
    → ((ws : List WantedValue) → Contains ws (wanted_of x) → All (IsMissingOf ws) old.missing.items → All (IsMissingOf ws) found.missing.items) → TellsTwins found.seen (legs_missing found.missing.items)
    → ((d : LegValue) → HasTwin (legs_missing old.missing.items) d → HasTwin (legs_missing found.missing.items) d)
    → ((sizes : List ℕ) → AreSizedBy sizes (wanted_of x) → AreEnoughFor sizes (wanted_of x) (legs_missing found.missing.items)) → IsFoundOf (wanteds_of wanted) found (wanteds_of (take (i + 1) wanted))
found_more wanted i x old found lt is far only tells kept all =
    let ws = wanteds_of wanted in
    let at : Contains ws (wanted_of x) = item wanted_of wanted i x lt is in
    record {
      only = only ws at far.only;
      tells = tells;
      all = λ sizes sized w in_front leaf read missed. ⊎_elim
          (λ h. kept leaf (far.all sizes sized w h leaf read missed))
          (λ e. let Enough : WantedValue → Type 0 = λ v. AreEnoughFor sizes v (legs_missing found.missing.items) in
          let own = all sizes (All-contains (AreSizedBy sizes) ws (wanted_of x) sized at) in subst Enough e own leaf read missed)
          (Contains-push_cases (wanteds_of (take i wanted)) (wanted_of x) w (subst (λ (vs : List WantedValue). Contains vs w) (one_further wanted_of wanted i x lt is) in_front));
    }

pub found_all : (wanted : List Wanted) (i : ℕ) (found : Found) → length wanted ≤ i → IsFoundOf (wanteds_of wanted) found (wanteds_of (take i wanted)) → (sizes : List ℕ) → AreAllSizedBy sizes (wanteds_of wanted) → AreEnough sizes (wanteds_of wanted) (legs_missing found.missing.items)
found_all wanted i found past far sizes sized = subst (λ (xs : List Wanted). AreEnough sizes (wanteds_of xs) (legs_missing found.missing.items)) (take_all i wanted past) (far.all sizes sized)
