-- A sum over what has a number, where one number's part changes.
use Rattle.std.proofs.Common.{◌≡◌, inl, inr, ℕ, zero, suc, ◌+◌, ◌<◌, ◌≤◌, Option, refl, ap, subst, arith}
use Rattle.std.proofs.lemmas.Bool.{cases_eq}
use Rattle.mcv_world.specs.World.{put}
use Rattle.mcv_world.proofs.Numbers.{put_same, put_other}
use Rattle.mcv_events.specs.Sums.{sum_below}

-- a number that isn't below
pub sum_above : {X : Type 0} (weigh : Option X → ℕ) (f : ℕ → Option X) (k : ℕ) (v : Option X) (n : ℕ) → n ≤ k → sum_below weigh (put f k v) n ≡ sum_below weigh f n
sum_above weigh f k v zero high = refl
sum_above weigh f k v (suc n) high =
    let e : weigh (put f k v n) ≡ weigh (f n) = ap weigh (put_other f k n v (λ q. omega (arith, high, q))) in
    let t = sum_above weigh f k v n (omega (arith, high)) in
    omega (arith, e, t)

pub sum_put : {X : Type 0} (weigh : Option X → ℕ) (f : ℕ → Option X) (k : ℕ) (v : Option X) (n : ℕ) → k < n → sum_below weigh (put f k v) n + weigh (f k) ≡ sum_below weigh f n + weigh v
sum_put weigh f k v zero low = absurd (omega (arith, low))
sum_put weigh f k v (suc n) low =
    elim (cases_eq k n) [
      | inl q ↦
          let here : weigh (put f k v n) ≡ weigh v = ap weigh (subst (λ m. put f k v m ≡ v) q (put_same f k v)) in
          let was : weigh (f k) ≡ weigh (f n) = ap (λ m. weigh (f m)) q in
          let t = sum_above weigh f k v n (omega (arith, q)) in
          omega (arith, here, was, t)
      | inr ne ↦
          let e : weigh (put f k v n) ≡ weigh (f n) = ap weigh (put_other f k n v ne) in
          let t = sum_put weigh f k v n (omega (arith, low, ne)) in
          omega (arith, e, t)
    ]
