-- Sets of consecutive eras, and what is near each era, one more at a time.
use Rattle.std.proofs.Common.{◌≡◌, ◌↔◌, ℕ, zero, suc, ◌+◌, ◌-◌, ◌<◌, ◌≤◌, List, [], ◌∷◌, ◌++◌, length, drop, get_or, Some, sym, ap, ◌∙◌, subst, arith}
use Rattle.std.specs.Prelude.{slice_get}
use Rattle.std.proofs.lemmas.Option.{none-some, same_Some, slice_get-get_or}
use Rattle.mcv_route.specs.Eras.{AreNearEras, HasEra}
use Rattle.mcv_route.specs.Routes.{RoutesValue}
use Rattle.mcv_route.specs.declared.eras.NearEras.{NearEras}
use Rattle.mcv_blocks.specs.SetsInEras.{AreSetsNear}
use Rattle.mcv_blocks.specs.Spots.{AreNears}
use Rattle.mcv_blocks.specs.declared.sliding.DeleteEra.{DeleteEra}
use Rattle.mcv_blocks.specs.declared.sliding.SlidingSets.{SlidingSets}

-- what holds of each member, by its number from one on
abbrev pub Each : {X : Type 0} → (ℕ → X → Type 0) → ℕ → List X → Type 0
Each {X} P f xs = (k : ℕ) (x : X) → slice_get xs k ≡ Some x → P (f + k) x

module _ {X : Type 0} (P : ℕ → X → Type 0) where
  pub each_none : (f : ℕ) (xs : List X) → xs ≡ [] → Each P f xs
  each_none f xs e = subst (Each P f) (sym e) (λ k x is. absurd (none-some x is))

  -- without the first
  pub each_later : (f : ℕ) (xs : List X) → Each P f xs → Each P (f + 1) (drop 1 xs)
  each_later f [] h = λ k x is. absurd (none-some x is)
  each_later f (y ∷ xs) h = λ k x is. let same : f + suc k ≡ f + 1 + k = omega arith in subst (λ n. P n x) same (h (suc k) x is)

  -- with one more behind them
  pub each_more : (f : ℕ) (xs : List X) (x : X) → Each P f xs → P (f + length xs) x → Each P f (xs ++ x ∷ [])
  each_more f [] x h own zero y is = subst (P (f + 0)) (same_Some x y is) own
  each_more f [] x h own (suc k) y is = absurd (none-some y is)
  each_more f (z ∷ xs) x h own zero y is = h zero y is
  each_more f (z ∷ xs) x h own (suc k) y is =
      let last : f + length (z ∷ xs) ≡ suc f + length xs = omega arith in
      let here : suc f + k ≡ f + suc k = omega arith in
      subst (λ n. P n y) here
      (each_more (suc f) xs x (λ j t g. let there : f + suc j ≡ suc f + j = omega arith in subst (λ n. P n t) there (h (suc j) t g)) (subst (λ n. P n x) last own) k y is)

  pub each_at : (f n : ℕ) (xs : List X) (x : X) → f ≤ n → n - f < length xs → x ≡ get_or xs (n - f) x → Each P f xs → P n x
  each_at f n xs x low within is h =
      let same : f + (n - f) ≡ n = omega (arith, low) in
      subst (λ m. P m x) same (h (n - f) x (slice_get-get_or xs (n - f) x within ∙ ap Some (sym is)))

-- ---- what is near each era

nothing : NearEras
nothing = record { first = 0; end = 0 }

pub near_more : (r : RoutesValue) (xs : List NearEras) (x : NearEras) → ((k : ℕ) (y : NearEras) → slice_get xs k ≡ Some y → AreNearEras r r.window k y.first y.end) → AreNearEras r r.window (length xs) x.first x.end
    → (k : ℕ) (y : NearEras) → slice_get (xs ++ x ∷ []) k ≡ Some y → AreNearEras r r.window k y.first y.end
near_more r xs x h own k y is =
    let P : ℕ → NearEras → Type 0 = λ n z. AreNearEras r r.window n z.first z.end in
    let all : length xs ≡ 0 + length xs = omega arith in
    let one : 0 + k ≡ k = omega arith in
    subst (λ n. P n y) one (each_more P 0 xs x (λ j z g. let same : j ≡ 0 + j = omega arith in subst (λ n. P n z) same (h j z g)) (subst (λ n. P n x) all own) k y is)

pub nears_are : (r : RoutesValue) (xs : List NearEras) (n count : ℕ) → length xs ≡ n → count ≤ n → ((era : ℕ) → (era < count) ↔ HasEra r era) → ((k : ℕ) (y : NearEras) → slice_get xs k ≡ Some y → AreNearEras r r.window k y.first y.end) → AreNears r xs
nears_are r xs n count sized all counts each = record {
  each = each;
  all = λ era has.
      let low = (counts era).1 has in
      (get_or xs era nothing, slice_get-get_or xs era nothing (omega (arith, low, sized, all)));
}

pub none_near : (r : RoutesValue) (xs : List NearEras) → xs ≡ [] → (k : ℕ) (y : NearEras) → slice_get xs k ≡ Some y → AreNearEras r r.window k y.first y.end
none_near r xs e k y is = absurd (none-some y (sym (ap (λ ys. slice_get ys k) e) ∙ is))

-- ---- the sets of an era are there

module _ (r : RoutesValue) (d : DeleteEra) (sets : SlidingSets) (near : AreSetsNear r d sets) where
  pub within_sets : (era : ℕ) → d.near.first ≤ era → era < d.near.end → (sets.first ≤ era) × (era < sets.first + length sets.sets.items)
  within_sets era low high =
      let first = near.first in
      let end = near.end in
      (omega (arith, first, low), omega (arith, first, end, high))

  pub own_era : (sets.first ≤ d.era) × (d.era < sets.first + length sets.sets.items)
  own_era = within_sets d.era near.near.first_is near.near.end_is
