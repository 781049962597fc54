-- Words that begin with others, and words in byte order.
use Rattle.std.proofs.Common.{◌≡◌, ℕ, ◌<◌, ◌≤◌, ◌⊎◌, inl, inr, true, false, List, [], ◌∷◌, length, nat_eq, refl, sym, ap, ◌∙◌, arith, true≢false}
use Rattle.std.specs.Cmp.Lexicographic.{slice_cmp, texts_ties}
use Rattle.std.specs.Ordering.{nat_cmp, is_gt, is_eq, ordering_then, ordering_reverse, MatchOrdering}
use Rattle.std.specs.declared.cmp.Ordering.{Ordering}
use Rattle.std.specs.declared.cmp.Ordering.TheVariants.{Less, Equal, Greater}
use Rattle.std.proofs.lemmas.Cmp.{ranked, upto, nat_list_cmp_total}
use Rattle.std.proofs.lemmas.Bool.{and_parts, and_from, eqb-true, eq-eqb, false≢true}
use Rattle.std.proofs.lemmas.Slice.Eq.{bytes_eq-Decides}
use Rattle.mcv_base.specs.Key.{begins_with}
use Rattle.mcv_classes.specs.Class.{IsBefore, IsUpTo}

-- ---- words that begin with others

pub begins-itself : (w : List ℕ) → begins_with w w ≡ true
begins-itself [] = refl
begins-itself (b ∷ w) = and_from (nat_eq b b) (begins_with w w) (eq-eqb b b refl) (begins-itself w)

pub begins-through : (rest w v : List ℕ) → begins_with w v ≡ true → begins_with rest w ≡ true → begins_with rest v ≡ true
begins-through rest w [] e f = refl
begins-through rest [] (i ∷ v) e f = absurd (false≢true e)
begins-through [] (j ∷ w) (i ∷ v) e f = absurd (false≢true f)
begins-through (k ∷ rest) (j ∷ w) (i ∷ v) e f =
    let a = and_parts (nat_eq j i) (begins_with w v) e in
    let b = and_parts (nat_eq k j) (begins_with rest w) f in
    and_from (nat_eq k i) (begins_with rest v) (eq-eqb k i (eqb-true k j b.0 ∙ eqb-true j i a.0)) (begins-through rest w v a.1 b.1)

pub length-begins : (w v : List ℕ) → begins_with w v ≡ true → length v ≤ length w
length-begins w [] e = omega arith
length-begins [] (i ∷ v) e = absurd (false≢true e)
length-begins (k ∷ w) (i ∷ v) e =
    let shorter : length v ≤ length w = length-begins w v (and_parts (nat_eq k i) (begins_with w v) e).1 in
    omega (arith, shorter)

-- a word that begins with one as long is that one
pub begins-same : (w v : List ℕ) → begins_with w v ≡ true → length w ≤ length v → w ≡ v
begins-same [] [] e h = refl
begins-same (k ∷ w) [] e h = absurd (omega (arith, h))
begins-same [] (i ∷ v) e h = absurd (false≢true e)
begins-same (k ∷ w) (i ∷ v) e h =
    let a = and_parts (nat_eq k i) (begins_with w v) e in
    let more : w ≡ v = begins-same w v a.1 (omega (arith, h)) in
    λ j. eqb-true k i a.0 j ∷ more j

-- of two words with which a list begins, the longer begins with the shorter
pub shorter-begins : (rest v w : List ℕ) → begins_with rest v ≡ true → begins_with rest w ≡ true → length v ≤ length w → begins_with w v ≡ true
shorter-begins rest [] w e f h = refl
shorter-begins [] (i ∷ v) w e f h = absurd (false≢true e)
shorter-begins (k ∷ rest) (i ∷ v) [] e f h = absurd (omega (arith, h))
shorter-begins (k ∷ rest) (i ∷ v) (j ∷ w) e f h =
    let a = and_parts (nat_eq k i) (begins_with rest v) e in
    let b = and_parts (nat_eq k j) (begins_with rest w) f in
    and_from (nat_eq j i) (begins_with w v) (eq-eqb j i (sym (eqb-true k j b.0) ∙ eqb-true k i a.0)) (shorter-begins rest v w a.1 b.1 (omega (arith, h)))

-- ---- words in byte order

upto-parts : (i j : ℕ) (o : Ordering) → is_gt (ordering_then (nat_cmp i j) o) ≡ false → (i < j) ⊎ ((i ≡ j) × (is_gt o ≡ false))
upto-parts i j o = by (nat_cmp i j) (ranked i j (nat_cmp i j) refl)
  where
    by : (c : Ordering) → MatchOrdering c (i < j) (i ≡ j) (j < i) → is_gt (ordering_then c o) ≡ false → (i < j) ⊎ ((i ≡ j) × (is_gt o ≡ false))
    by Less h e = inl h
    by Equal h e = inr (h, e)
    by Greater h e = absurd (true≢false e)

upto-from : (i j : ℕ) (o : Ordering) → i ≡ j → is_gt o ≡ false → is_gt (ordering_then (nat_cmp i j) o) ≡ false
upto-from i j o same e = by (nat_cmp i j) (ranked i j (nat_cmp i j) refl)
  where
    by : (c : Ordering) → MatchOrdering c (i < j) (i ≡ j) (j < i) → is_gt (ordering_then c o) ≡ false
    by Less h = refl
    by Equal h = e
    by Greater h = absurd (omega (arith, h, same))

-- what lies between a word and a list that begins with it begins with it too
pub between : (rest v w : List ℕ) → begins_with rest v ≡ true → IsUpTo v w → IsUpTo w rest → begins_with w v ≡ true
between rest [] w e f g = refl
between [] (i ∷ v) w e f g = absurd (false≢true e)
between (k ∷ rest) (i ∷ v) [] e f g = absurd (true≢false f)
between (k ∷ rest) (i ∷ v) (j ∷ w) e f g =
    let a = and_parts (nat_eq k i) (begins_with rest v) e in
    meets (eqb-true k i a.0) (upto-parts i j (slice_cmp nat_cmp v w) f) (upto-parts j k (slice_cmp nat_cmp w rest) g) (between rest v w a.1)
  where
    meets : k ≡ i → (i < j) ⊎ ((i ≡ j) × IsUpTo v w) → (j < k) ⊎ ((j ≡ k) × IsUpTo w rest) → (IsUpTo v w → IsUpTo w rest → begins_with w v ≡ true) → begins_with (j ∷ w) (i ∷ v) ≡ true
    meets same (inl p) (inl q) more = absurd (omega (arith, same, p, q))
    meets same (inl p) (inr q) more = absurd (omega (arith, same, p, q.0))
    meets same (inr p) (inl q) more = absurd (omega (arith, same, p.0, q))
    meets same (inr p) (inr q) more = and_from (nat_eq j i) (begins_with w v) (eq-eqb j i (sym p.0)) (more p.1 q.1)

pub begins-upto : (rest v : List ℕ) → begins_with rest v ≡ true → IsUpTo v rest
begins-upto [] [] e = refl
begins-upto (k ∷ rest) [] e = refl
begins-upto [] (i ∷ v) e = absurd (false≢true e)
begins-upto (k ∷ rest) (i ∷ v) e =
    let a = and_parts (nat_eq k i) (begins_with rest v) e in
    upto-from i k (slice_cmp nat_cmp v rest) (sym (eqb-true k i a.0)) (begins-upto rest v a.1)

pub upto-itself : (v : List ℕ) → IsUpTo v v
upto-itself v = begins-upto v v (begins-itself v)

pub upto-through : (u v w : List ℕ) → IsUpTo u v → IsUpTo v w → IsUpTo u w
upto-through u v w e f = upto nat_list_cmp_total u v w e f

pub before-upto : (v w : List ℕ) → IsBefore v w → IsUpTo v w
before-upto v w e = ap is_gt e

pub never-back : (v w : List ℕ) → IsBefore v w → IsUpTo w v → ⊥
never-back v w e f = true≢false (sym (ap is_gt (nat_list_cmp_total.antisymm w v ∙ ap ordering_reverse e)) ∙ f)

pub not-itself : (v : List ℕ) → IsBefore v v → ⊥
not-itself v e = never-back v v e (upto-itself v)

-- one that isn't behind another and isn't the other comes before it
pub upto-before : (v w : List ℕ) → IsUpTo v w → (v ≡ w → ⊥) → IsBefore v w
upto-before v w e apart = by (slice_cmp nat_cmp v w) refl e
  where
    by : (o : Ordering) → slice_cmp nat_cmp v w ≡ o → is_gt o ≡ false → o ≡ Less
    by Less q f = refl
    by Equal q f = absurd (apart ((bytes_eq-Decides v w).0 (texts_ties v w ∙ ap is_eq q)))
    by Greater q f = absurd (true≢false f)

pub before-through : (u v w : List ℕ) → IsBefore u v → IsBefore v w → IsBefore u w
before-through u v w e f = nat_list_cmp_total.trans u v w e f
