-- Positions at a handle, at its children and below them.
use Rattle.std.proofs.Common.{◌≡◌, inl, inr, cond, ℕ, suc, ◌<◌, ◌≤◌, ◌==◌, Bool, true, false, List, [], ◌∷◌, ◌++◌, length, Some, None, refl, sym, ap, ◌∙◌, subst, arith, append_assoc}
use Rattle.std.specs.Prelude.{slice_get}
use Rattle.std.specs.Cmp.Lexicographic.{slice_cmp}
use Rattle.std.specs.Ordering.{nat_cmp, ordering_then}
use Rattle.std.specs.declared.cmp.Ordering.TheVariants.{Less, Equal, Greater}
use Rattle.std.proofs.lemmas.Bool.{cases_lt, eqb-true, eq-eqb, false≢true, lt-ltb}
use Rattle.std.proofs.lemmas.Cmp.{nat_cmp_total, tied_itself}
use Rattle.std.proofs.lemmas.List.{length-append}
use Rattle.mcv_classes.specs.Class.{IsBefore}
use Rattle.mcv_classes.proofs.Order.{before-through, not-itself}
use Rattle.mcv_route.specs.Outcomes.{History}
use Rattle.mcv_witness.specs.Walk.{is_number, is_below, front, behind, depth_of, Known, below, past}
use Rattle.mcv_witness.proofs.EachMember.{Each, each_left, each_right}

-- at the base or below it
abbrev pub At : List ℕ → List ℕ → Type 0
At base q = (more : List ℕ) × (q ≡ base ++ more)

-- at child n of the base or below it
abbrev pub Below : List ℕ → ℕ → List ℕ → Type 0
Below base n q = (more : List ℕ) × (q ≡ base ++ n ∷ more)

-- at a child with a number from n on, or below it
abbrev pub From : List ℕ → ℕ → List ℕ → Type 0
From base n q = (i : ℕ) × (n ≤ i) × Below base i q

pub at_below : (base : List ℕ) (n : ℕ) (q : List ℕ) → At (base ++ n ∷ []) q → Below base n q
at_below base n q h = (h.0, h.1 ∙ append_assoc base (n ∷ []) h.0)

pub below_at : (base : List ℕ) (n : ℕ) (q : List ℕ) → Below base n q → At (base ++ n ∷ []) q
below_at base n q h = (h.0, h.1 ∙ sym (append_assoc base (n ∷ []) h.0))

pub below_from : (base : List ℕ) (n : ℕ) (q : List ℕ) → Below base n q → From base n q
below_from base n q h = (n, omega arith, h)

pub from_later : (base : List ℕ) (n : ℕ) (q : List ℕ) → From base (suc n) q → From base n q
from_later base n q h = let l = h.1 in (h.0, omega (arith, l), h.2)

pub from_at : (base : List ℕ) (n : ℕ) (q : List ℕ) → From base n q → At base q
from_at base n q h = (h.0 ∷ h.2.0, h.2.1)

-- ---- the next step

step_at : (base : List ℕ) (n : ℕ) (more : List ℕ) → slice_get (base ++ n ∷ more) (length base) ≡ Some n
step_at [] n more = refl
step_at (b ∷ base) n more = step_at base n more

step_own : (base : List ℕ) → slice_get (base ++ []) (length base) ≡ None
step_own [] = refl
step_own (b ∷ base) = step_own base

same_number : (m n : ℕ) → Some m ≡ Some n → m ≡ n
same_number m n e = cc

pub below_one : (base : List ℕ) (m n : ℕ) (q : List ℕ) → Below base m q → Below base n q → m ≡ n
below_one base m n q h g =
    same_number m n (sym (step_at base m h.0) ∙ ap (λ p. slice_get p (length base)) (sym h.1 ∙ g.1) ∙ step_at base n g.0)

pub below_apart : (base : List ℕ) (n : ℕ) (q : List ℕ) → Below base n q → From base (suc n) q → ⊥
below_apart base n q h g = let e = below_one base n g.0 q h g.2 in let l = g.1 in omega (arith, e, l)

pub own_apart : (base : List ℕ) (n : ℕ) → From base n (base ++ []) → ⊥
own_apart base n h =
    let e : None ≡ Some h.0 = sym (step_own base) ∙ ap (λ p. slice_get p (length base)) h.2.1 ∙ step_at base h.0 h.2.0 in cc

-- ---- the test

pub below_test : (base : List ℕ) (n : ℕ) (q : List ℕ) → Below base n q → is_below (length base) n q ≡ true
below_test base n q h = ap (λ p. is_below (length base) n p) h.1 ∙ ap (is_number n) (step_at base n h.0) ∙ eq-eqb n n refl

test_of : (base : List ℕ) (n : ℕ) (more : List ℕ) → is_below (length base) n (base ++ more) ≡ true → Below base n (base ++ more)
test_of base n [] e = absurd (false≢true (sym (ap (is_number n) (step_own base)) ∙ e))
test_of base n (i ∷ more) e =
    let same = eqb-true i n (sym (ap (is_number n) (step_at base i more)) ∙ e) in
    (more, ap (λ j. base ++ j ∷ more) same)

pub test_below : (base : List ℕ) (n : ℕ) (q : List ℕ) → At base q → is_below (length base) n q ≡ true → Below base n q
test_below base n q h e = subst (Below base n) (sym h.1) (test_of base n h.0 (sym (ap (is_below (length base) n) h.1) ∙ e))

pub own_test : (base : List ℕ) (n : ℕ) → is_below (length base) n (base ++ []) ≡ false
own_test base n = ap (is_number n) (step_own base)

-- ---- order

less : (i j : ℕ) → i < j → nat_cmp i j ≡ Less
less i j h = ap (λ b. cond b Less (cond (i == j) Equal Greater)) (lt-ltb i j h)

before_child : (base : List ℕ) (i j : ℕ) (xs ys : List ℕ) → i < j → IsBefore (base ++ i ∷ xs) (base ++ j ∷ ys)
before_child [] i j xs ys h = ap (λ c. ordering_then c (slice_cmp nat_cmp xs ys)) (less i j h)
before_child (b ∷ base) i j xs ys h =
    ap (λ c. ordering_then c (slice_cmp nat_cmp (base ++ i ∷ xs) (base ++ j ∷ ys))) (tied_itself nat_cmp_total b) ∙ before_child base i j xs ys h

before_own : (base : List ℕ) (k : ℕ) (more : List ℕ) → IsBefore (base ++ []) (base ++ k ∷ more)
before_own [] k more = refl
before_own (b ∷ base) k more = ap (λ c. ordering_then c (slice_cmp nat_cmp (base ++ []) (base ++ k ∷ more))) (tied_itself nat_cmp_total b) ∙ before_own base k more

never_back : (p q : List ℕ) → IsBefore p q → IsBefore q p → ⊥
never_back p q h g = not-itself p (before-through p q p h g)

-- of two positions in order the second is at no earlier child
pub numbers_rise : (base p q : List ℕ) (i j : ℕ) → Below base i p → Below base j q → IsBefore p q → i ≤ j
numbers_rise base p q i j h g b =
    elim (cases_lt j i) [
      | inl l ↦ absurd (never_back p q b (subst (λ x. IsBefore q x) (sym h.1) (subst (λ x. IsBefore x (base ++ i ∷ h.0)) (sym g.1) (before_child base j i g.0 h.0 l))))
      | inr l ↦ l
    ]

-- what comes after a child, or after the base itself, isn't the base
not_base : (base p q : List ℕ) → At base p → q ≡ base ++ [] → IsBefore p q → ⊥
not_base base p q h e b = by_first h.0 h.1
  where
    by_first : (first : List ℕ) → p ≡ base ++ first → ⊥
    by_first [] f = not-itself p (subst (λ x. IsBefore p x) (e ∙ sym f) b)
    by_first (i ∷ first) f = never_back p q b (subst (λ x. IsBefore q x) (sym f) (subst (λ x. IsBefore x (base ++ i ∷ first)) (sym e) (before_own base i first)))

-- so it is at a child
pub after_from : (base p q : List ℕ) → At base p → At base q → IsBefore p q → From base 0 q
after_from base p q h g b = by_more g.0 g.1
  where
    by_more : (more : List ℕ) → q ≡ base ++ more → From base 0 q
    by_more [] e = absurd (not_base base p q h e b)
    by_more (j ∷ more) e = (j, omega arith, (more, e))

-- ---- rising outcomes

abbrev pub Rises : History → Type 0
Rises [] = Unit {0}
Rises (e ∷ es) = Each (λ f. IsBefore e.0 f.0) es × Rises es

pub rises_left : (es fs : History) → Rises (es ++ fs) → Rises es
rises_left [] fs h = tt
rises_left (e ∷ es) fs h = (each_left (λ f. IsBefore e.0 f.0) es fs h.0, rises_left es fs h.1)

pub rises_right : (es fs : History) → Rises (es ++ fs) → Rises fs
rises_right [] fs h = h
rises_right (e ∷ es) fs h = rises_right es fs h.1

-- ---- the front and what is behind it

pub parts : (d n : ℕ) (es : History) → front d n es ++ behind d n es ≡ es
parts d n [] = refl
parts d n (e ∷ es) = by_test (is_below d n e.0) (parts d n es)
  where
    by_test : (b : Bool) → front d n es ++ behind d n es ≡ es → cond b (e ∷ front d n es) [] ++ cond b (behind d n es) (e ∷ es) ≡ e ∷ es
    by_test true h = ap (λ x. e ∷ x) h
    by_test false h = refl

pub front_below : (base : List ℕ) (n : ℕ) (es : History) → Each (λ e. At base e.0) es → Each (λ e. Below base n e.0) (front (length base) n es)
front_below base n [] h = tt
front_below base n (e ∷ es) h = by_test (is_below (length base) n e.0) refl (front_below base n es h.1)
  where
    by_test : (b : Bool) → is_below (length base) n e.0 ≡ b → Each (λ e. Below base n e.0) (front (length base) n es) → Each (λ e. Below base n e.0) (cond b (e ∷ front (length base) n es) [])
    by_test true t g = (test_below base n e.0 h.0 t, g)
    by_test false t g = tt

-- behind the front of child n come those of later children
pub behind_from : (base : List ℕ) (n : ℕ) (es : History) → Rises es → Each (λ e. From base n e.0) es → Each (λ e. From base (suc n) e.0) (behind (length base) n es)
behind_from base n [] r h = tt
behind_from base n (e ∷ es) r h = by_test (is_below (length base) n e.0) refl (behind_from base n es r.1 h.1)
  where
    later : is_below (length base) n e.0 ≡ false → suc n ≤ h.0.0
    later t =
        elim (cases_lt n h.0.0) [
          | inl l ↦ omega (arith, l)
          | inr l ↦
              let m = h.0.1 in
              let same : h.0.0 ≡ n = omega (arith, l, m) in
              absurd (false≢true (sym t ∙ below_test base n e.0 (subst (λ i. Below base i e.0) same h.0.2)))
        ]

    others : (fs : History) → suc n ≤ h.0.0 → Each (λ f. IsBefore e.0 f.0) fs → Each (λ f. From base n f.0) fs → Each (λ f. From base (suc n) f.0) fs
    others [] l b g = tt
    others (f ∷ fs) l b g =
        let up = numbers_rise base e.0 f.0 h.0.0 g.0.0 h.0.2 g.0.2 b.0 in
        ((g.0.0, omega (arith, l, up), g.0.2), others fs l b.1 g.1)

    by_test : (b : Bool) → is_below (length base) n e.0 ≡ b → Each (λ f. From base (suc n) f.0) (behind (length base) n es) → Each (λ f. From base (suc n) f.0) (cond b (behind (length base) n es) (e ∷ es))
    by_test true t g = g
    by_test false t g = ((h.0.0, later t, h.0.2), others es (later t) r.0 h.1)

-- ---- outcomes that fit a handle

-- the depth is that of the handle, where there are outcomes
abbrev pub IsDeep : List ℕ → ℕ → History → Type 0
IsDeep base d [] = Unit {0}
IsDeep base d (e ∷ es) = d ≡ length base

pub record Fits (base : List ℕ) (k : Known) : Type 0 where
  pub at : Each (λ e. At base e.0) k.legs
  pub deep : IsDeep base k.depth k.legs
  pub rises : Rises k.legs

pub deep_any : (base : List ℕ) (d : ℕ) (es : History) → d ≡ length base → IsDeep base d es
deep_any base d [] e = tt
deep_any base d (x ∷ es) e = e

pub fits_past : (base : List ℕ) (n d : ℕ) (es : History) → Fits base (record { legs = es; depth = d }) → Fits base (past (record { legs = es; depth = d }) n)
fits_past base n d [] h = h
fits_past base n d (e ∷ es) h =
    record {
      at = each_right (λ x. At base x.0) (front d n (e ∷ es)) (behind d n (e ∷ es)) (subst (Each (λ x. At base x.0)) (sym (parts d n (e ∷ es))) h.at);
      deep = deep_any base d (behind d n (e ∷ es)) h.deep;
      rises = rises_right (front d n (e ∷ es)) (behind d n (e ∷ es)) (subst Rises (sym (parts d n (e ∷ es))) h.rises);
    }

deep_below : (base : List ℕ) (n d : ℕ) (es : History) → d ≡ length base → IsDeep (base ++ n ∷ []) (depth_of d es) es
deep_below base n d [] e = tt
deep_below base n d (x ∷ es) e = omega (arith, e, length-append base (n ∷ []))

at_each : (base : List ℕ) (n : ℕ) (es : History) → Each (λ e. Below base n e.0) es → Each (λ e. At (base ++ n ∷ []) e.0) es
at_each base n [] h = tt
at_each base n (e ∷ es) h = (below_at base n e.0 h.0, at_each base n es h.1)

pub fits_below : (base : List ℕ) (n d : ℕ) (es : History) → Fits base (record { legs = es; depth = d }) → Fits (base ++ n ∷ []) (below (record { legs = es; depth = d }) n)
fits_below base n d [] h = record { at = tt; deep = tt; rises = tt }
fits_below base n d (e ∷ es) h =
    let under : Each (λ x. Below base n x.0) (front d n (e ∷ es)) = subst (λ i. Each (λ x. Below base n x.0) (front i n (e ∷ es))) (sym h.deep) (front_below base n (e ∷ es) h.at) in
    record { at = at_each base n (front d n (e ∷ es)) under; deep = deep_below base n d (front d n (e ∷ es)) h.deep; rises = rises_left (front d n (e ∷ es)) (behind d n (e ∷ es)) (subst Rises (sym (parts d n (e ∷ es))) h.rises) }
