-- Requests with keys of several hubs that come, stay and go.
use Rattle.slab.specs.Slab.{Slab, Updates, get, with_value}
use Rattle.slab.proofs.SlabLemmas.{Updates-with_value}
use Rattle.std.proofs.Common.{◌≡◌, ◌∙◌, ℕ, inl, inr, List, [], Option, None, Some, ap, refl, subst, sym}
use Rattle.std.proofs.lemmas.Bool.{cases_eq}
use Rattle.std.specs.Prelude.{IsSome, option_map}
use Rattle.mcv_desks.specs.Asked.{AreSameMixed, AreSomeLeft, mixed_at}
use Rattle.mcv_desks.specs.Mixed.{MixedView}

pub none_changes : (old new : Slab MixedView) → new ≡ old → AreSameMixed old new
none_changes old new same = λ number. ap (λ (s : Slab MixedView). mixed_at s number) same

pub slots_same : (old new : Slab MixedView) → new.slots ≡ old.slots → AreSameMixed old new
slots_same old new same = λ number. ap (λ (slots : List (Option MixedView)). mixed_at (record old { slots = slots }) number) same

pub no_slots : (s : Slab MixedView) → s.slots ≡ [] → (number : ℕ) → mixed_at s number ≡ None
no_slots s none number = ap (λ (slots : List (Option MixedView)). mixed_at (record s { slots = slots }) number) none

-- the request of one stays
pub goes_on : (s : Slab MixedView) (number : ℕ) (old new : MixedView) → get s number ≡ Some old → new.request ≡ old.request → AreSameMixed s (with_value s number new)
goes_on s number old new there same_request =
    let u = Updates-with_value s number new (subst IsSome (sym there) refl) in
    λ other. elim (cases_eq other number) [
      | inl same ↦ ap (mixed_at (with_value s number new)) same ∙ ap (option_map (λ (m : MixedView). m.request)) u.changed ∙ ap Some same_request ∙ sym (ap (option_map (λ (m : MixedView). m.request)) there) ∙ sym (ap (mixed_at s) same)
      | inr apart ↦ ap (option_map (λ (m : MixedView). m.request)) (u.others other apart)
    ]

pub is_there : (s : Slab MixedView) (number : ℕ) (m : MixedView) → get s number ≡ Some m → mixed_at s number ≡ Some m.request
is_there s number m there = ap (option_map (λ (v : MixedView). v.request)) there

-- one comes
pub one_came : (old new : Slab MixedView) (number : ℕ) (m : MixedView) → Updates old new number (Some m) → (other : ℕ) → (other ≡ number → ⊥) → mixed_at new other ≡ mixed_at old other
one_came old new number m u other apart = ap (option_map (λ (v : MixedView). v.request)) (u.others other apart)

-- one goes
pub one_gone : (old new : Slab MixedView) (number : ℕ) → Updates old new number None → mixed_at new number ≡ None
one_gone old new number u = ap (option_map (λ (m : MixedView). m.request)) u.changed

pub others_stay : (old new : Slab MixedView) (number : ℕ) → Updates old new number None → (other : ℕ) → (other ≡ number → ⊥) → mixed_at new other ≡ mixed_at old other
others_stay old new number u other apart = ap (option_map (λ (m : MixedView). m.request)) (u.others other apart)

pub one_left : (old new : Slab MixedView) (number : ℕ) → Updates old new number None → AreSomeLeft (mixed_at old) (mixed_at new)
one_left old new number u other =
    elim (cases_eq other number) [
      | inl same ↦ inr (ap (mixed_at new) same ∙ ap (option_map (λ (m : MixedView). m.request)) u.changed)
      | inr apart ↦ inl (ap (option_map (λ (m : MixedView). m.request)) (u.others other apart))
    ]

pub all_left : (old new : Slab MixedView) → AreSameMixed old new → AreSomeLeft (mixed_at old) (mixed_at new)
all_left old new same = λ number. inl (same number)

pub same_value : (one other : MixedView) → Some one ≡ Some other → one ≡ other
same_value one other e = cc
