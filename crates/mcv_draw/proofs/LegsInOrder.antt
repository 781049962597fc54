-- A search among legs that are in the order of their steps finds one that is at a position, or below it, where there is one.
use Rattle.std.proofs.Common.{◌≡◌, ◌∙◌, ◌<◌, ◌≤◌, ◌&&◌, ℕ, zero, suc, Bool, true, false, List, [], ◌∷◌, Option, Some, None, Bor, ap, arith, get_or, inl, inr, length, refl, subst, sym, true≢false}
use Rattle.std.specs.Prelude.{bytes_eq, nat_eq, option_map, slice_get}
use Rattle.std.specs.Cmp.{IsStrictWeakOrder}
use Rattle.std.specs.Fn.{Called, ComparesAs, Mut}
use Rattle.std.specs.List.{list_any, starts_with}
use Rattle.std.specs.List.Sorted.{IsPartitionPoint, IsPartitionedBy, IsSorted, IsSortedBy}
use Rattle.std.specs.Option.{option_map_or}
use Rattle.std.specs.Ordering.{MatchOrdering, is_lt, nat_cmp, ordering_index, ordering_then}
use Rattle.std.specs.Slice.{IsItemAt}
use Rattle.std.specs.declared.cmp.Ordering.{Ordering}
use Rattle.std.specs.declared.cmp.Ordering.TheVariants.{Less, Equal, Greater}
use Rattle.std.proofs.lemmas.Bool.{and_from, and_parts, cases_lt, eq-eqb, eqb-true}
use Rattle.std.proofs.lemmas.Cmp.{nat_list_cmp_total, ranked, tied_itself}
use Rattle.std.proofs.lemmas.Fn.{always_returns_same}
use Rattle.std.proofs.lemmas.List.Folds.{list_any_at, list_any_none}
use Rattle.std.proofs.lemmas.List.Sorted.{ranks_by, searchable_from_sorted, sorted_far}
use Rattle.std.proofs.lemmas.Option.{get_or_from_slice_get, slice_get-get_or, slice_get_past, slice_get_within}
use Rattle.std.proofs.lemmas.Slice.Eq.{bytes_eq-Decides}
use Rattle.mcv_cert.specs.Place.{list_cmp}
use Rattle.mcv_draw.specs.Marks.{is_one_of, leads_to}

-- ---- positions

-- one that goes on from a position doesn't come before it
goes_on : (p x : List ℕ) → starts_with nat_eq x p ≡ true → is_lt (list_cmp x p) ≡ false
goes_on [] [] is = refl
goes_on [] (b ∷ x) is = refl
goes_on (a ∷ p) [] is = absurd (true≢false (sym is))
goes_on (a ∷ p) (b ∷ x) is =
    let both = and_parts (nat_eq a b) (starts_with nat_eq x p) is in
    let same : a ≡ b = eqb-true a b both.0 in
    go (nat_cmp b a) (ranked b a (nat_cmp b a) refl) same (goes_on p x both.1)
  where
    go : (o : Ordering) → MatchOrdering o (b < a) (b ≡ a) (a < b) → a ≡ b → is_lt (list_cmp x p) ≡ false → is_lt (ordering_then o (list_cmp x p)) ≡ false
    go Less less same rest = let low : b < a = less in absurd (omega arith)
    go Equal equal same rest = rest
    go Greater more same rest = refl

-- what is in order between a position and one that goes on from it goes on from it too
between : (p q x : List ℕ) → is_lt (list_cmp q p) ≡ false → is_lt (list_cmp x q) ≡ false → starts_with nat_eq x p ≡ true → starts_with nat_eq q p ≡ true
between [] q x low high is = refl
between (a ∷ p) q [] low high is = absurd (true≢false (sym is))
between (a ∷ p) [] (b ∷ x) low high is = absurd (true≢false low)
between (a ∷ p) (c ∷ q) (b ∷ x) low high is =
    let both = and_parts (nat_eq a b) (starts_with nat_eq x p) is in
    let same : a ≡ b = eqb-true a b both.0 in
    go (nat_cmp c a) (nat_cmp b c) (ranked c a (nat_cmp c a) refl) (ranked b c (nat_cmp b c) refl) same low high (λ l h. between p q x l h both.1)
  where
    go : (o u : Ordering) → MatchOrdering o (c < a) (c ≡ a) (a < c) → MatchOrdering u (b < c) (b ≡ c) (c < b) → a ≡ b
        → is_lt (ordering_then o (list_cmp q p)) ≡ false → is_lt (ordering_then u (list_cmp x q)) ≡ false
        → (is_lt (list_cmp q p) ≡ false → is_lt (list_cmp x q) ≡ false → starts_with nat_eq q p ≡ true) → (nat_eq a c && starts_with nat_eq q p) ≡ true
    go Less u first second same low high rest = absurd (true≢false low)
    go Equal Less first second same low high rest = let here : c ≡ a = first in let there : b < c = second in absurd (omega arith)
    go Equal Equal first second same low high rest = and_from (nat_eq a c) (starts_with nat_eq q p) (eq-eqb a c (sym first)) (rest low high)
    go Equal Greater first second same low high rest = let here : c ≡ a = first in let there : c < b = second in absurd (omega arith)
    go Greater Less first second same low high rest = absurd (true≢false high)
    go Greater Equal first second same low high rest = let here : a < c = first in let there : b ≡ c = second in absurd (omega arith)
    go Greater Greater first second same low high rest = let here : a < c = first in let there : c < b = second in absurd (omega arith)

-- two of which neither comes before the other are one
neither_before : (p q : List ℕ) → is_lt (list_cmp q p) ≡ false → is_lt (list_cmp p q) ≡ false → bytes_eq q p ≡ true
neither_before [] [] low high = refl
neither_before [] (c ∷ q) low high = absurd (true≢false high)
neither_before (a ∷ p) [] low high = absurd (true≢false low)
neither_before (a ∷ p) (c ∷ q) low high =
    go (nat_cmp c a) (nat_cmp a c) (ranked c a (nat_cmp c a) refl) (ranked a c (nat_cmp a c) refl) low high (λ l h. neither_before p q l h)
  where
    go : (o u : Ordering) → MatchOrdering o (c < a) (c ≡ a) (a < c) → MatchOrdering u (a < c) (a ≡ c) (c < a)
        → is_lt (ordering_then o (list_cmp q p)) ≡ false → is_lt (ordering_then u (list_cmp p q)) ≡ false
        → (is_lt (list_cmp q p) ≡ false → is_lt (list_cmp p q) ≡ false → bytes_eq q p ≡ true) → (nat_eq c a && bytes_eq q p) ≡ true
    go Less u first second low high rest = absurd (true≢false low)
    go Equal Less first second low high rest = let here : c ≡ a = first in let there : a < c = second in absurd (omega arith)
    go Equal Equal first second low high rest = and_from (nat_eq c a) (bytes_eq q p) (eq-eqb c a first) (rest low high)
    go Equal Greater first second low high rest = let here : c ≡ a = first in let there : c < a = second in absurd (omega arith)
    go Greater Less first second low high rest = absurd (true≢false high)
    go Greater Equal first second low high rest = let here : a < c = first in let there : a ≡ c = second in absurd (omega arith)
    go Greater Greater first second low high rest = let here : a < c = first in let there : c < a = second in absurd (omega arith)

itself : (p : List ℕ) → is_lt (list_cmp p p) ≡ false
itself p = ap is_lt (tied_itself nat_list_cmp_total p)

is_behind : (p x : List ℕ) → bytes_eq x p ≡ true → is_lt (list_cmp x p) ≡ false
is_behind p x is = subst (λ (y : List ℕ). is_lt (list_cmp y p) ≡ false) (sym ((bytes_eq-Decides x p).0 is)) (itself p)

is_kept : (p q x : List ℕ) → is_lt (list_cmp q p) ≡ false → is_lt (list_cmp x q) ≡ false → bytes_eq x p ≡ true → bytes_eq q p ≡ true
is_kept p q x low high is = neither_before p q low (subst (λ (y : List ℕ). is_lt (list_cmp y q) ≡ false) ((bytes_eq-Decides x p).0 is) high)

-- ---- a search

none_at : (xs : List (List ℕ)) (i : ℕ) → slice_get xs i ≡ None → length xs ≤ i
none_at [] i none = omega arith
none_at (x ∷ xs) zero none = absurd (cc)
none_at (x ∷ xs) (suc i) none = let rest = none_at xs i none in omega arith

turned : (a b : Bool) → (a ≡ true → b ≡ true) → b ≡ false → a ≡ false
turned true b means fails = absurd (true≢false (sym (means refl) ∙ fails))
turned false b means fails = refl

-- a test that holds of nothing before a position, and of what is between the position and what it holds of, holds of some leg where it holds of the first that doesn't
-- come before the position
any_next : (test : List ℕ → Bool) (xs : List (List ℕ)) (p : List ℕ) (i : ℕ) (next : Option (List ℕ)) → slice_get xs i ≡ next → IsSorted list_cmp xs
    → IsPartitionPoint (λ leg. is_lt (list_cmp leg p) ≡ true) (λ leg. is_lt (list_cmp leg p) ≡ false) xs i → ((x : List ℕ) → test x ≡ true → is_lt (list_cmp x p) ≡ false)
    → ((q x : List ℕ) → is_lt (list_cmp q p) ≡ false → is_lt (list_cmp x q) ≡ false → test x ≡ true → test q ≡ true) → list_any test xs ≡ option_map_or test next false
any_next test xs p i None is sorted parted behind kept = list_any_none test xs never
  where
    never : (k : ℕ) (d : List ℕ) → k < length xs → test (get_or xs k d) ≡ false
    never k d low =
        let past : length xs ≤ i = none_at xs i is in
        let before : is_lt (list_cmp (get_or xs k d) p) ≡ true = parted.0 k d (omega arith) (omega arith) in
        turned (test (get_or xs k d)) false (λ holds. sym (behind (get_or xs k d) holds) ∙ before) refl
any_next test xs p i (Some q) is sorted parted behind kept = go (test q) refl
  where
    at : (d : List ℕ) → get_or xs i d ≡ q
    at d = get_or_from_slice_get xs i q d is

    next_behind : (d : List ℕ) → is_lt (list_cmp q p) ≡ false
    next_behind d = subst (λ (y : List ℕ). is_lt (list_cmp y p) ≡ false) (at d) (parted.1 i d (omega arith) (slice_get_within xs i q is))

    later : (k : ℕ) (d : List ℕ) → i ≤ k → k < length xs → is_lt (list_cmp (get_or xs k d) q) ≡ false
    later k d after low =
        subst (λ (y : List ℕ). is_lt (list_cmp (get_or xs k d) y) ≡ false) (at d)
        (sorted_far (λ (a b : List ℕ). is_lt (list_cmp a b)) (ranks_by nat_list_cmp_total (λ (x : List ℕ). x)) xs sorted i k d after low)

    none_holds : test q ≡ false → (k : ℕ) (d : List ℕ) → k < length xs → test (get_or xs k d) ≡ false
    none_holds fails k d low = elim (cases_lt k i) [
      | inl before ↦ turned (test (get_or xs k d)) false (λ holds. sym (behind (get_or xs k d) holds) ∙ parted.0 k d (omega arith) before) refl
      | inr after ↦ turned (test (get_or xs k d)) (test q) (λ holds. kept q (get_or xs k d) (next_behind d) (later k d after low) holds) fails
    ]

    go : (b : Bool) → test q ≡ b → list_any test xs ≡ b
    go true holds = list_any_at test xs i q (slice_get_within xs i q is) (subst (λ (y : List ℕ). test y ≡ true) (sym (at q)) holds)
    go false fails = list_any_none test xs (none_holds fails)

pub next_leads : (xs : List (List ℕ)) (p : List ℕ) (i : ℕ) (next : Option (List ℕ)) → slice_get xs i ≡ next → IsSorted list_cmp xs
    → IsPartitionPoint (λ leg. is_lt (list_cmp leg p) ≡ true) (λ leg. is_lt (list_cmp leg p) ≡ false) xs i → leads_to xs p ≡ option_map_or (λ leg. starts_with nat_eq leg p) next false
next_leads xs p i next is sorted parted = any_next (λ leg. starts_with nat_eq leg p) xs p i next is sorted parted (goes_on p) (between p)

pub next_is : (xs : List (List ℕ)) (p : List ℕ) (i : ℕ) (next : Option (List ℕ)) → slice_get xs i ≡ next → IsSorted list_cmp xs
    → IsPartitionPoint (λ leg. is_lt (list_cmp leg p) ≡ true) (λ leg. is_lt (list_cmp leg p) ≡ false) xs i → is_one_of xs p ≡ option_map_or (λ leg. bytes_eq leg p) next false
next_is xs p i next is sorted parted = any_next (λ leg. bytes_eq leg p) xs p i next is sorted parted (is_behind p) (is_kept p)

least : (o u : Ordering) → ordering_index o ≤ ordering_index u → is_lt u ≡ true → is_lt o ≡ true
least Less u low is = refl
least Equal Less low is = let high : 1 ≤ 0 = low in absurd (omega arith)
least Greater Less low is = let high : 2 ≤ 0 = low in absurd (omega arith)
least Equal Equal low is = absurd (true≢false (sym is))
least Equal Greater low is = absurd (true≢false (sym is))
least Greater Equal low is = absurd (true≢false (sym is))
least Greater Greater low is = absurd (true≢false (sym is))

-- what `partition_point` asks
pub before_first : (xs : List (List ℕ)) (p : List ℕ) → IsSorted list_cmp xs → IsPartitionedBy (λ leg. is_lt (list_cmp leg p)) xs
before_first xs p sorted i j d low high before =
    let rising = searchable_from_sorted nat_list_cmp_total (λ (x : List ℕ). x) xs p sorted in
    least (list_cmp (get_or xs i d) p) (list_cmp (get_or xs j d) p) (rising i j d low high) before

-- ---- what a sort and a look-up say

-- a sort by the order of the steps
pub sorted_by_steps : {F : Type 0} {g : Mut F (Bor (List ℕ) × (Bor (List ℕ) × Unit {0})) Ordering} {f : F} (xs : List (List ℕ))
    → ((lt : List ℕ → List ℕ → Bool) → IsStrictWeakOrder lt → ComparesAs g lt f → IsSortedBy lt xs)
    → ((a : Bor (List ℕ) × (Bor (List ℕ) × Unit {0})) (r : Ordering) (f' : F) → Called g f a r f' → (r ≡ list_cmp a.0.now a.1.0.now) × (f' ≡ f)) → IsSorted list_cmp xs
sorted_by_steps {g = g} {f = f} xs sorts answers =
    sorts (λ (x y : List ℕ). is_lt (list_cmp x y)) (ranks_by nat_list_cmp_total (λ (x : List ℕ). x))
    (always_returns_same g (λ a r. is_lt r ≡ is_lt (list_cmp a.0.now a.1.0.now)) f (λ a r f' k. (ap is_lt (answers a r f' k).0, (answers a r f' k).1)))

pub leg_at : {X : Type 0} (xs : List X) (i : ℕ) (r : Option (Bor X)) → IsItemAt xs i r → option_map (λ x. x.now) r ≡ slice_get xs i
leg_at xs i None is = sym (slice_get_past xs i is.3)
leg_at xs i (Some x) is = sym (slice_get-get_or xs i x.now is.3.0 ∙ ap Some (sym is.1))
