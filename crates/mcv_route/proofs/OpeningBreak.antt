-- The break that opened an era, and the number of the era.
use Rattle.std.proofs.Common.{◌≡◌, ℕ, suc, ◌<◌, ◌≤◌, List, [], ◌∷◌, Bool, true, false, cond, Option, Some, None, max, refl, ap, sym, subst, arith, length, get_or}
use Rattle.std.specs.Prelude.{nat_le, nat_eq}
use Rattle.std.specs.List.{All, Contains}
use Rattle.std.specs.Option.{option_map_or}
use Rattle.std.proofs.lemmas.Grind.{common_steps}
use Rattle.std.proofs.lemmas.List.Elements.{All-nil, All-cons, All-tail, All-head, All-contains}
use Rattle.mcv_pools.specs.Table.{numbered}
use Rattle.mcv_route.specs.Eras.{passed, greatest, since_at, IsSince, SinceIsTheLastBreak, ErasAreOpenedByBreaks, ErasSayWhatHasPassed}
use Rattle.mcv_route.specs.Situation.{has_passed}

-- a break is among the breaks, before another one too
pub here : (b : ℕ) (bs : List ℕ) → Contains (b ∷ bs) b
here b bs = (0, omega arith, refl)

pub there : (b s : ℕ) (bs : List ℕ) → Contains bs s → Contains (b ∷ bs) s
there b s bs h = (suc h.0, omega (arith, h.1), h.2)

larger : (b s : ℕ) (bs : List ℕ) (m : ℕ) → b ≤ m → (o : Bool) → nat_le b s ≡ o → Contains bs s → s ≤ m → All (λ c. c ≤ m → c ≤ s) bs
    → IsSince (b ∷ bs) m (Some (max b s))
larger b s bs m h true e has within least =
    let is : max b s ≡ s = grind (arith, common_steps) in
    let P : ℕ → Type 0 = λ n. IsSince (b ∷ bs) m (Some n) in
    let low : b ≤ s = grind (arith, common_steps) in
    subst P (sym is) (there b s bs has, within, All-cons (λ c. c ≤ m → c ≤ s) b bs (λ _. low) least)
larger b s bs m h false e has within least =
    let is : max b s ≡ b = grind (arith, common_steps) in
    let P : ℕ → Type 0 = λ n. IsSince (b ∷ bs) m (Some n) in
    let low : s ≤ b = grind (arith, common_steps) in
    subst P (sym is) (here b bs, h, All-cons (λ c. c ≤ m → c ≤ b) b bs (λ _. omega arith) (λ k d inside under. let deep = least k d inside under in omega (arith, deep, low)))

-- one more break, at the moment or before it
with_passed : (b : ℕ) (bs : List ℕ) (m : ℕ) (s : Option ℕ) → b ≤ m → IsSince bs m s → IsSince (b ∷ bs) m (Some (option_map_or (max b) s b))
with_passed b bs m None h is = (here b bs, h, All-cons (λ c. c ≤ m → c ≤ b) b bs (λ _. omega arith) (λ k d inside under. let far = is k d inside in absurd (omega (arith, far, under))))
with_passed b bs m (Some s) h is = larger b s bs m h (nat_le b s) refl is.0 is.1 is.2

-- one more break, after the moment
with_coming : (b : ℕ) (bs : List ℕ) (m : ℕ) (s : Option ℕ) → m < b → IsSince bs m s → IsSince (b ∷ bs) m s
with_coming b bs m None h is = All-cons (λ c. m < c) b bs h is
with_coming b bs m (Some s) h is = (there b s bs is.0, is.1, All-cons (λ c. c ≤ m → c ≤ s) b bs (λ under. absurd (omega (arith, h, under))) is.2)

with_one : (b : ℕ) (bs : List ℕ) (m : ℕ) (o : Bool) → nat_le b m ≡ o → IsSince bs m (since_at bs m) → IsSince (b ∷ bs) m (greatest (cond o (b ∷ passed bs m) (passed bs m)))
with_one b bs m true e is = let h : b ≤ m = grind (arith, common_steps) in with_passed b bs m (since_at bs m) h is
with_one b bs m false e is = let h : m < b = grind (arith, common_steps) in with_coming b bs m (since_at bs m) h is

pub since_is_last : SinceIsTheLastBreak
since_is_last [] m = All-nil (λ b. m < b)
since_is_last (b ∷ bs) m = with_one b bs m (nat_le b m) refl (since_is_last bs m)

-- ---- eras

same-passed : (bs : List ℕ) (m n : ℕ) → All (λ b. nat_le b m ≡ nat_le b n) bs → passed bs m ≡ passed bs n
same-passed [] m n h = refl
same-passed (b ∷ bs) m n h =
    λ i. cond (All-head (λ c. nat_le c m ≡ nat_le c n) b bs h i) (b ∷ same-passed bs m n (All-tail (λ c. nat_le c m ≡ nat_le c n) b bs h) i) (same-passed bs m n (All-tail (λ c. nat_le c m ≡ nat_le c n) b bs h) i)

same-test : (b m n : ℕ) → (b ≤ m → b ≤ n) → (b ≤ n → b ≤ m) → nat_le b m ≡ nat_le b n
same-test b m n f g = grind (arith, common_steps)

same-since : (bs : List ℕ) (m n : ℕ) (s : Option ℕ) → IsSince bs m s → IsSince bs n s → All (λ b. nat_le b m ≡ nat_le b n) bs
same-since bs m n None f g = λ k d h. same-test (get_or bs k d) m n (λ e. let far = f k d h in absurd (omega (arith, far, e))) (λ e. let far = g k d h in absurd (omega (arith, far, e)))
same-since bs m n (Some s) f g = λ k d h. same-test (get_or bs k d) m n (λ e. let low = f.2 k d h e in let up = g.1 in omega (arith, low, up)) (λ e. let low = g.2 k d h e in let up = f.1 in omega (arith, low, up))

pub eras_are_opened : ErasAreOpenedByBreaks
eras_are_opened bs m n e =
    let P : Option ℕ → Type 0 = λ s. IsSince bs n s in
    let other : IsSince bs n (since_at bs m) = subst P (sym e) (since_is_last bs n) in
    ap (λ xs. length (numbered nat_eq xs)) (same-passed bs m n (same-since bs m n (since_at bs m) (since_is_last bs m) other))

-- a break that hasn't passed by the moment
not-passed : (b m : ℕ) → m < b → false ≡ nat_le b m
not-passed b m h = grind (arith, common_steps)

says-passed : (bs : List ℕ) (m b : ℕ) (s : Option ℕ) → IsSince bs m s → Contains bs b → has_passed s b ≡ nat_le b m
says-passed bs m b None f h = not-passed b m (All-contains (λ c. m < c) bs b f h)
says-passed bs m b (Some s) f h =
    let below : b ≤ m → b ≤ s = All-contains (λ c. c ≤ m → c ≤ s) bs b f.2 h in
    let before : s ≤ m = f.1 in
    same-test b s m (λ e. omega arith) below

pub eras_say : ErasSayWhatHasPassed
eras_say bs m b h = says-passed bs m b (since_at bs m) (since_is_last bs m) h
