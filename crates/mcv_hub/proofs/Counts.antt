-- How many members of a list pass a test.
use Rattle.std.proofs.Common.{◌≡◌, ◌∙◌, ◌&&◌, not, cond, inl, inr, suc, ◌+◌, ◌≤◌, Bool, true, false, List, [], ◌∷◌, length, refl, sym, ap, arith, true≢false}
use Rattle.std.specs.Prelude.{filter}
use Rattle.mcv_rules.proofs.ListMembers.{Among}

pub at_most_all : {A : Type 0} (f : A → Bool) (xs : List A) → length (filter f xs) ≤ length xs
at_most_all f [] = omega arith
at_most_all f (x ∷ xs) = by (f x) (at_most_all f xs)
  where
    by : (b : Bool) → length (filter f xs) ≤ length xs → length (cond b (x ∷ filter f xs) (filter f xs)) ≤ suc (length xs)
    by true e = omega (arith, e)
    by false e = omega (arith, e)

module _ {A : Type 0} (f g : A → Bool) (h : (x : A) → f x ≡ true → g x ≡ true) where
  -- what passes the first test passes the second
  pub fewer_pass : (xs : List A) → length (filter f xs) ≤ length (filter g xs)
  fewer_pass [] = omega arith
  fewer_pass (x ∷ xs) = by (f x) (g x) (h x) (fewer_pass xs)
    where
      by : (b c : Bool) → (b ≡ true → c ≡ true) → length (filter f xs) ≤ length (filter g xs) → length (cond b (x ∷ filter f xs) (filter f xs)) ≤ length (cond c (x ∷ filter g xs) (filter g xs))
      by true true i e = omega (arith, e)
      by true false i e = absurd (true≢false (sym (i refl)))
      by false true i e = omega (arith, e)
      by false false i e = e

  -- and one member doesn't pass the first
  pub one_fewer : (xs : List A) (x : A) → Among xs x → f x ≡ false → g x ≡ true → length (filter f xs) + 1 ≤ length (filter g xs)
  one_fewer [] x a fails passes = absurd a
  one_fewer (y ∷ ys) x (inl e) fails passes = by (f y) (g y) (ap f e ∙ fails) (ap g e ∙ passes) (fewer_pass ys)
    where
      by : (b c : Bool) → b ≡ false → c ≡ true → length (filter f ys) ≤ length (filter g ys) → length (cond b (y ∷ filter f ys) (filter f ys)) + 1 ≤ length (cond c (y ∷ filter g ys) (filter g ys))
      by true c n s e = absurd (true≢false n)
      by false true n s e = omega (arith, e)
      by false false n s e = absurd (true≢false (sym s))
  one_fewer (y ∷ ys) x (inr a) fails passes = by (f y) (g y) (h y) (one_fewer ys x a fails passes)
    where
      by : (b c : Bool) → (b ≡ true → c ≡ true) → length (filter f ys) + 1 ≤ length (filter g ys) → length (cond b (y ∷ filter f ys) (filter f ys)) + 1 ≤ length (cond c (y ∷ filter g ys) (filter g ys))
      by true true i e = omega (arith, e)
      by true false i e = absurd (true≢false (sym (i refl)))
      by false true i e = omega (arith, e)
      by false false i e = e

  -- what doesn't pass the first passes the second, or doesn't
  pub divided : (xs : List A) → length (filter (λ x. not (f x)) xs) ≡ length (filter (λ x. g x && not (f x)) xs) + length (filter (λ x. not (g x)) xs)
  divided [] = refl
  divided (x ∷ xs) = by (f x) (g x) (h x) (divided xs)
    where
      by : (b c : Bool) → (b ≡ true → c ≡ true)
          → length (filter (λ x. not (f x)) xs) ≡ length (filter (λ x. g x && not (f x)) xs) + length (filter (λ x. not (g x)) xs)
          → length (cond (not b) (x ∷ filter (λ x. not (f x)) xs) (filter (λ x. not (f x)) xs))
          ≡ length (cond (c && not b) (x ∷ filter (λ x. g x && not (f x)) xs) (filter (λ x. g x && not (f x)) xs)) + length (cond (not c) (x ∷ filter (λ x. not (g x)) xs) (filter (λ x. not (g x)) xs))
      by true true i e = e
      by true false i e = absurd (true≢false (sym (i refl)))
      by false true i e = omega (arith, e)
      by false false i e = omega (arith, e)

pub both_counted : {A : Type 0} (f : A → Bool) (xs : List A) → length (filter (λ x. not (f x)) xs) + length (filter f xs) ≡ length xs
both_counted f [] = refl
both_counted f (x ∷ xs) = by (f x) (both_counted f xs)
  where
    by : (b : Bool) → length (filter (λ x. not (f x)) xs) + length (filter f xs) ≡ length xs
        → length (cond (not b) (x ∷ filter (λ x. not (f x)) xs) (filter (λ x. not (f x)) xs)) + length (cond b (x ∷ filter f xs) (filter f xs)) ≡ suc (length xs)
    by true e = omega (arith, e)
    by false e = omega (arith, e)
