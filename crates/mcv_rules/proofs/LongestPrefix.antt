-- The longest of the prefixes with which a rest begins.
use Rattle.std.proofs.Common.{◌≡◌, ◌<◌, ◌≤◌, ◌+◌, ◌⊎◌, inl, inr, cond, ℕ, zero, suc, Bool, true, false, nat_le, List, [], ◌∷◌, length, Option, Some, None, option_map, unwrap_or, refl, sym, ap, ◌∙◌, subst, arith}
use Rattle.std.specs.Prelude.{slice_get}
use Rattle.std.proofs.lemmas.Bool.{leb-true}
use Rattle.mcv_base.specs.Key.{begins_with}
use Rattle.mcv_route.specs.Children.{longest_from}
use Rattle.mcv_rules.specs.Rows.{LongestPrefixCounts}
use Rattle.mcv_rules.proofs.ChoosingHandles.{longer_after, longest-step}

-- no prefix begins the rest
abbrev BeginsNone : List ℕ → List (List ℕ) → Type 0
BeginsNone rest prefixes = (j : ℕ) (q : List ℕ) → slice_get prefixes j ≡ Some q → begins_with rest q ≡ false

-- none that begins the rest is longer
abbrev NoneIsLonger : List ℕ → List (List ℕ) → ℕ → Type 0
NoneIsLonger rest prefixes n = (j : ℕ) (q : List ℕ) → slice_get prefixes j ≡ Some q → begins_with rest q ≡ true → length q ≤ n

-- the number, from k on, and the length of a longest one
record IsLongest (k : ℕ) (rest : List ℕ) (prefixes : List (List ℕ)) (a : ℕ × ℕ) : Type 0 where
  number : ℕ
  «prefix» : List ℕ
  counted : a.0 ≡ k + number
  long : a.1 ≡ length «prefix»
  there : slice_get prefixes number ≡ Some «prefix»
  begins : begins_with rest «prefix» ≡ true
  most : NoneIsLonger rest prefixes (length «prefix»)

abbrev Best : ℕ → List ℕ → List (List ℕ) → Option (ℕ × ℕ) → Type 0
Best k rest prefixes None = BeginsNone rest prefixes
Best k rest prefixes (Some a) = IsLongest k rest prefixes a

same_some : {A : Type 0} {x y : A} → Some x ≡ Some y → x ≡ y
same_some e = cc

none_more : (rest p : List ℕ) (prefixes : List (List ℕ)) → begins_with rest p ≡ false → BeginsNone rest prefixes → BeginsNone rest (p ∷ prefixes)
none_more rest p prefixes w h zero q e = ap (begins_with rest) (sym (same_some e)) ∙ w
none_more rest p prefixes w h (suc j) q e = h j q e

most_more : (rest p : List ℕ) (prefixes : List (List ℕ)) (n : ℕ) → (begins_with rest p ≡ true → length p ≤ n) → NoneIsLonger rest prefixes n → NoneIsLonger rest (p ∷ prefixes) n
most_more rest p prefixes n f h zero q e b =
    let same : p ≡ q = same_some e in
    subst (λ x. length x ≤ n) same (f (ap (begins_with rest) same ∙ b))
most_more rest p prefixes n f h (suc j) q e b = h j q e b

-- one that was the longest, beside one more in front
still : (k : ℕ) (rest p : List ℕ) (prefixes : List (List ℕ)) (a : ℕ × ℕ) (h : IsLongest (suc k) rest prefixes a) → (begins_with rest p ≡ true → length p ≤ length h.«prefix») → IsLongest k rest (p ∷ prefixes) a
still k rest p prefixes a h f = record {
  number = suc h.number;
  «prefix» = h.«prefix»;
  counted = omega (arith, h.counted);
  long = h.long;
  there = h.there;
  begins = h.begins;
  most = most_more rest p prefixes (length h.«prefix») f h.most;
}

-- the one in front
front : (k : ℕ) (rest p : List ℕ) (prefixes : List (List ℕ)) → begins_with rest p ≡ true → NoneIsLonger rest prefixes (length p) → IsLongest k rest (p ∷ prefixes) (k, length p)
front k rest p prefixes w h = record {
  number = 0;
  «prefix» = p;
  counted = omega arith;
  long = refl;
  there = refl;
  begins = w;
  most = most_more rest p prefixes (length p) (λ b. omega arith) h;
}

best_more : (k : ℕ) (rest p : List ℕ) (prefixes : List (List ℕ)) (b : Bool) (r : Option (ℕ × ℕ)) → begins_with rest p ≡ b → Best (suc k) rest prefixes r → Best k rest (p ∷ prefixes) (cond b (longer_after (k, length p) r) r)
best_more k rest p prefixes false None w h = none_more rest p prefixes w h
best_more k rest p prefixes false (Some a) w h = still k rest p prefixes a h (λ b. absurd (let n : true ≡ false = sym b ∙ w in cc))
best_more k rest p prefixes true None w h = front k rest p prefixes w (λ j q e b. absurd (let n : true ≡ false = sym b ∙ h j q e in cc))
best_more k rest p prefixes true (Some a) w h = by_length (nat_le (length p) a.1) refl
  where
    by_length : (c : Bool) → nat_le (length p) a.1 ≡ c → Best k rest (p ∷ prefixes) (cond c (Some a) (Some (k, length p)))
    by_length true e = let shorter : length p ≤ a.1 = leb-true (length p) a.1 e in still k rest p prefixes a h (λ b. omega (arith, shorter, h.long))
    by_length false e =
        let longer : a.1 < length p = grind (arith, e) in
        front k rest p prefixes w (λ j q f b. omega (arith, h.most j q f b, h.long, longer))

best : (k : ℕ) (rest : List ℕ) (prefixes : List (List ℕ)) → Best k rest prefixes (longest_from k rest prefixes)
best k rest [] = λ j q e. absurd (let n : None ≡ Some q = e in cc)
best k rest (p ∷ prefixes) =
    subst (Best k rest (p ∷ prefixes)) (sym (longest-step k rest p prefixes (begins_with rest p) (longest_from (suc k) rest prefixes) refl refl))
    (best_more k rest p prefixes (begins_with rest p) (longest_from (suc k) rest prefixes) refl (best (suc k) rest prefixes))

-- what the law says with this number
abbrev Counts : List ℕ → List (List ℕ) → ℕ → Type 0
Counts rest prefixes n =
    ((p : List ℕ) × (slice_get prefixes n ≡ Some p) × (begins_with rest p ≡ true) × NoneIsLonger rest prefixes (length p))
    ⊎ ((n ≡ length prefixes) × BeginsNone rest prefixes)

counts_found : (rest : List ℕ) (prefixes : List (List ℕ)) (r : Option (ℕ × ℕ)) → Best 0 rest prefixes r → Counts rest prefixes (unwrap_or (option_map (λ b. b.0) r) (length prefixes))
counts_found rest prefixes None h = inr (refl, h)
counts_found rest prefixes (Some a) h =
    let at : a.0 ≡ h.number = omega (arith, h.counted) in
    inl (h.«prefix», ap (slice_get prefixes) at ∙ h.there, h.begins, h.most)

pub longest_prefix_counts : LongestPrefixCounts
longest_prefix_counts rest prefixes = counts_found rest prefixes (longest_from 0 rest prefixes) (best 0 rest prefixes)
