-- The child to which a leg belongs.
use Rattle.std.proofs.Common.{◌≡◌, ◌<◌, ◌≤◌, cond, ℕ, zero, suc, Bool, true, false, ◌||◌, ◌&&◌, nat_eq, nat_lt, nat_le, List, [], ◌∷◌, ◌++◌, length, get_or, refl, sym, ap, ◌∙◌, arith}
use Rattle.std.specs.List.Sorted.{IsPartitionPoint, IsNonDecreasingBy}
use Rattle.mcv_route.specs.Children.{joined}
use Rattle.mcv_plan.specs.ReachedAnswers.{child_at}
use Rattle.mcv_plan.specs.State.{are_placed, holds, within, IsOnlyIn}

pub and_both : (a b : Bool) → (a && b) ≡ true → (a ≡ true) × (b ≡ true)
and_both true b e = (refl, e)
and_both false b e = absurd (cc)

-- the ends don't fall
rise : (from : ℕ) (es : List ℕ) (kss : List (List ℕ)) → are_placed from es kss ≡ true → (i j : ℕ) (d : ℕ) → i ≤ j → j < length es → (from ≤ get_or es i d) × (get_or es i d ≤ get_or es j d)
rise from [] kss p i j d h g = absurd (omega (arith, g))
rise from (e ∷ es) [] p i j d h g = absurd (cc)
rise from (e ∷ es) (ks ∷ kss) p zero zero d h g = let q = and_both (nat_le from e && within from e ks) (are_placed e es kss) p in let r = and_both (nat_le from e) (within from e ks) q.0 in (grind (arith, r.0), omega arith)
rise from (e ∷ es) (ks ∷ kss) p zero (suc j) d h g =
    let q = and_both (nat_le from e && within from e ks) (are_placed e es kss) p in let r = and_both (nat_le from e) (within from e ks) q.0 in
    let more = rise e es kss q.1 j j d (omega arith) (omega (arith, g)) in
    let first : from ≤ e = grind (arith, r.0) in
    (first, more.0)
rise from (e ∷ es) (ks ∷ kss) p (suc i) zero d h g = absurd (omega (arith, h))
rise from (e ∷ es) (ks ∷ kss) p (suc i) (suc j) d h g =
    let q = and_both (nat_le from e && within from e ks) (are_placed e es kss) p in let r = and_both (nat_le from e) (within from e ks) q.0 in
    let more = rise e es kss q.1 i j d (omega (arith, h)) (omega (arith, g)) in
    let first : from ≤ e = grind (arith, r.0) in
    (omega (arith, first, more.0), more.1)

pub ends_rise : (from : ℕ) (es : List ℕ) (kss : List (List ℕ)) → are_placed from es kss ≡ true → IsNonDecreasingBy (λ (e : ℕ). e) es
ends_rise from es kss p = λ i j d h g. (rise from es kss p i j d h g).1

pub found_at : (es : List ℕ) (k i : ℕ) → i ≤ length es → IsPartitionPoint (λ (e : ℕ). nat_le e k ≡ true) (λ (e : ℕ). nat_le e k ≡ false) es i → i ≡ child_at es k
found_at [] k i h p = omega (arith, h)
found_at (e ∷ es) k zero h p = let off : nat_le e k ≡ false = p.1 0 e (omega arith) (omega arith) in rw off refl
found_at (e ∷ es) k (suc i) h p =
    let on : nat_le e k ≡ true = p.0 0 e (omega arith) (omega arith) in
    let less : i ≤ length es = omega (arith, h) in
    let left : (j : ℕ) (d : ℕ) → 0 ≤ j → j < i → nat_le (get_or es j d) k ≡ true = λ j d a b. p.0 (suc j) d (omega arith) (omega (arith, b)) in
    let right : (j : ℕ) (d : ℕ) → i ≤ j → j < length es → nat_le (get_or es j d) k ≡ false = λ j d a b. p.1 (suc j) d (omega (arith, a)) (omega (arith, b)) in
    rw on (ap suc (found_at es k i less (left, right)))

-- the leg lies behind the children before this one, and not behind it
pub found_between : (from : ℕ) (es : List ℕ) (kss : List (List ℕ)) (k i : ℕ) → are_placed from es kss ≡ true → i < length es → k < get_or es i 0 → ((j : ℕ) → suc j ≡ i → get_or es j 0 ≤ k) → i ≡ child_at es k
found_between from [] kss k i p h u l = absurd (omega (arith, h))
found_between from (e ∷ es) [] k i p h u l = absurd (cc)
found_between from (e ∷ es) (ks ∷ kss) k zero p h u l = let off : nat_le e k ≡ false = grind (arith, u) in rw off refl
found_between from (e ∷ es) (ks ∷ kss) k (suc i) p h u l =
    let q = and_both (nat_le from e && within from e ks) (are_placed e es kss) p in
    let low = (rise from (e ∷ es) (ks ∷ kss) p 0 i 0 (omega arith) (omega (arith, h))).1 in
    let here : get_or (e ∷ es) i 0 ≤ k = l i refl in
    let on : nat_le e k ≡ true = grind (arith, low, here) in
    rw on (ap suc (found_between e es kss k i q.1 (omega (arith, h)) u (λ j same. l (suc j) (ap suc same))))

-- ---- the leg is one of that child

pub within_not : (from end k : ℕ) (ks : List ℕ) → within from end ks ≡ true → end ≤ k → holds k ks ≡ false
within_not from end k [] w h = refl
within_not from end k (x ∷ xs) w h =
    let q = and_both (nat_le from x && nat_lt x end) (within from end xs) w in
    let r = and_both (nat_le from x) (nat_lt x end) q.0 in
    let off : nat_eq x k ≡ false = grind (arith, r.1, h) in
    rw off (within_not from end k xs q.1 h)

below_not : (from end k : ℕ) (ks : List ℕ) → within from end ks ≡ true → k < from → holds k ks ≡ false
below_not from end k [] w h = refl
below_not from end k (x ∷ xs) w h =
    let q = and_both (nat_le from x && nat_lt x end) (within from end xs) w in
    let r = and_both (nat_le from x) (nat_lt x end) q.0 in
    let off : nat_eq x k ≡ false = grind (arith, r.0, h) in
    rw off (below_not from end k xs q.1 h)

pub or_none : (a b : Bool) → a ≡ false → b ≡ false → (a || b) ≡ false
or_none true b e f = absurd (cc)
or_none false b e f = f

holds_none : (k : ℕ) (xs ys : List ℕ) → holds k xs ≡ false → holds k ys ≡ false → holds k (xs ++ ys) ≡ false
holds_none k [] ys e f = f
holds_none k (x ∷ xs) ys e f = elim (nat_eq x k) as (λ b. (b || holds k xs) ≡ false → (b || holds k (xs ++ ys)) ≡ false) [
  | true ↦ λ e. e
  | false ↦ λ e. holds_none k xs ys e f
] e

before_none : (from k : ℕ) (es : List ℕ) (kss : List (List ℕ)) → are_placed from es kss ≡ true → k < from → holds k (joined kss) ≡ false
before_none from k [] [] p h = refl
before_none from k [] (ks ∷ kss) p h = absurd (cc)
before_none from k (e ∷ es) [] p h = refl
before_none from k (e ∷ es) (ks ∷ kss) p h =
    let q = and_both (nat_le from e && within from e ks) (are_placed e es kss) p in let r = and_both (nat_le from e) (within from e ks) q.0 in
    let first : from ≤ e = grind (arith, r.0) in
    holds_none k ks (joined kss) (below_not from e k ks r.1 h) (before_none e k es kss q.1 (omega (arith, first, h)))

pub rest_of_holds : (k : ℕ) (xs ys : List ℕ) → holds k xs ≡ false → holds k (xs ++ ys) ≡ holds k ys
rest_of_holds k [] ys e = refl
rest_of_holds k (x ∷ xs) ys e = elim (nat_eq x k) as (λ b. (b || holds k xs) ≡ false → (b || holds k (xs ++ ys)) ≡ holds k ys) [
  | true ↦ λ e. absurd (cc)
  | false ↦ λ e. rest_of_holds k xs ys e
] e

pub first_of_holds : (k : ℕ) (xs ys : List ℕ) → holds k ys ≡ false → holds k (xs ++ ys) ≡ holds k xs
first_of_holds k [] ys e = e
first_of_holds k (x ∷ xs) ys e = ap (λ b. nat_eq x k || b) (first_of_holds k xs ys e)

pub only_in : (from k : ℕ) (es : List ℕ) (kss : List (List ℕ)) → are_placed from es kss ≡ true → holds k (joined kss) ≡ true → IsOnlyIn k (child_at es k) kss
only_in from k [] [] p h = absurd (cc)
only_in from k [] (ks ∷ kss) p h = absurd (cc)
only_in from k (e ∷ es) [] p h = absurd (cc)
only_in from k (e ∷ es) (ks ∷ kss) p h =
    let q = and_both (nat_le from e && within from e ks) (are_placed e es kss) p in let r = and_both (nat_le from e) (within from e ks) q.0 in
    elim (nat_le e k) as (λ b. nat_le e k ≡ b → IsOnlyIn k (cond b (suc (child_at es k)) 0) (ks ∷ kss)) [
      | true ↦ λ on. let past : e ≤ k = grind (arith, on) in let off = within_not from e k ks r.1 past in (off, only_in e k es kss q.1 (sym (rest_of_holds k ks (joined kss) off) ∙ h))
      | false ↦ λ on. let less : k < e = grind (arith, on) in let off = before_none e k es kss q.1 less in (sym (first_of_holds k ks (joined kss) off) ∙ h, off)
    ] refl
