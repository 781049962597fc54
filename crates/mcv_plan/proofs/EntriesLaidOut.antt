-- What is launched is a part of the entries: those at whose positions something is launched.
use Rattle.std.proofs.Common.{◌≡◌, ◌<◌, ◌≤◌, ◌+◌, ◌⊎◌, inl, inr, ℕ, zero, suc, Bool, true, false, ◌||◌, nat_eq, List, [], ◌∷◌, ◌++◌, length, map, get_or, refl, sym, ap, ap₂, ◌∙◌, arith}
use Rattle.std.specs.List.{AllPairs, filter}
use Rattle.std.specs.Cmp.Lexicographic.{slice_cmp}
use Rattle.std.specs.Ordering.{nat_cmp}
use Rattle.std.specs.declared.cmp.Ordering.TheVariants.{Less, Equal}
use Rattle.std.proofs.lemmas.Cmp.{nat_list_cmp_total, tied_itself}
use Rattle.mcv_route.specs.declared.launch.Launch.{Launch}
use Rattle.mcv_route.specs.Outcomes.{is_same}
use Rattle.mcv_rules.specs.Rows.{ComesBefore}
use Rattle.mcv_rules.proofs.Orders.{same_is, same_self}
use Rattle.mcv_plan.specs.CourseOfPlan.{Follow}
use Rattle.mcv_plan.specs.Entries.{numbers}
use Rattle.mcv_plan.specs.Evaluation.{leg_at}
use Rattle.mcv_plan.specs.Laws.{has_position, position_at}
use Rattle.mcv_plan.specs.PastOutcomes.{IsOnce}
use Rattle.mcv_plan.specs.ReachedAnswers.{IsMerge, added, done, kept}
use Rattle.mcv_plan.specs.State.{holds}
use Rattle.mcv_plan.proofs.PartsAreLocal.{or_cases, or_left, or_right}
use Rattle.mcv_plan.proofs.LaunchedOnce.{apart, first_within, second_within}
use Rattle.mcv_plan.proofs.Records.{ArePlacedApart}

-- ---- legs by number

at_end : (before ls : List Launch) (l : Launch) → leg_at (before ++ l ∷ ls) (length before) ≡ l
at_end [] ls l = refl
at_end (x ∷ before) ls l = at_end before ls l

append_one : (before ls : List Launch) (l : Launch) → (before ++ l ∷ []) ++ ls ≡ before ++ l ∷ ls
append_one [] ls l = refl
append_one (x ∷ before) ls l = ap (λ z. x ∷ z) (append_one before ls l)

length_one : (before : List Launch) (l : Launch) → length (before ++ l ∷ []) ≡ suc (length before)
length_one [] l = refl
length_one (x ∷ before) l = ap suc (length_one before l)

follow_from : (before ls whole : List Launch) (from : ℕ) → whole ≡ before ++ ls → from ≡ length before → Follow (leg_at whole) from ls
follow_from before [] whole from e f = tt
follow_from before (l ∷ ls) whole from e f = (
  ap₂ leg_at e f ∙ at_end before ls l,
  follow_from (before ++ l ∷ []) ls whole (suc from) (e ∙ sym (append_one before ls l)) (ap suc f ∙ sym (length_one before l)),
)

pub follow_all : (ls : List Launch) → Follow (leg_at ls) zero ls
follow_all ls = follow_from [] ls ls zero refl refl

followed : (legs : ℕ → Launch) (from : ℕ) (ls : List Launch) → Follow legs from ls → map legs (numbers from (length ls)) ≡ ls
followed legs from [] f = refl
followed legs from (l ∷ ls) f = ap₂ (λ x xs. x ∷ xs) f.0 (followed legs (suc from) ls f.1)

pub all_legs : (ls : List Launch) → map (leg_at ls) (numbers zero (length ls)) ≡ ls
all_legs ls = followed (leg_at ls) zero ls (follow_all ls)

-- ---- numbers

pub below_count : (n from k : ℕ) → holds k (numbers from n) ≡ true → (from ≤ k) × (k < from + n)
below_count zero from k h = absurd (cc)
below_count (suc n) from k h = elim (or_cases (nat_eq from k) (holds k (numbers (suc from) n)) h) as (λ _. (from ≤ k) × (k < from + suc n)) [
  | inl e ↦ let is : from ≡ k = grind (arith, e) in (omega (arith, is), omega (arith, is))
  | inr e ↦ let m = below_count n (suc from) k e in (omega (arith, m.0), omega (arith, m.1))
]

pub has_number : (n from k : ℕ) → from ≤ k → k < from + n → holds k (numbers from n) ≡ true
has_number zero from k h g = absurd (omega (arith, h, g))
has_number (suc n) from k h g = by_first (nat_eq from k) refl (λ e. has_number n (suc from) k (grind (arith, e, h)) (omega (arith, g)))
  where
    by_first : (t : Bool) → nat_eq from k ≡ t → (nat_eq from k ≡ false → holds k (numbers (suc from) n) ≡ true) → (t || holds k (numbers (suc from) n)) ≡ true
    by_first true e later = refl
    by_first false e later = later e

-- ---- positions

places_at : (ls : List Launch) (k : ℕ) (d : List ℕ) → k < length ls → get_or (map (λ l. l.position) ls) k d ≡ position_at ls k
places_at [] k d h = absurd (omega (arith, h))
places_at (l ∷ ls) zero d h = refl
places_at (l ∷ ls) (suc k) d h = places_at ls k d (omega (arith, h))

map_count : (ls : List Launch) → length (map (λ l. l.position) ls) ≡ length ls
map_count [] = refl
map_count (l ∷ ls) = ap suc (map_count ls)

before_at : (ls : List Launch) (j k : ℕ) → AllPairs ComesBefore (map (λ l. l.position) ls) → j < k → k < length ls → ComesBefore (position_at ls j) (position_at ls k)
before_at ls j k rise h g =
    let n = map_count ls in
    (rw (places_at ls j [] (omega (arith, h, g)), places_at ls k [] g) at (rise j k [] h (omega (arith, g, n))))

not_same : (p q : List ℕ) (t : Bool) → ComesBefore p q → is_same p q ≡ t → t ≡ false
not_same p q true h e =
    let is = same_is p q e in
    let tied : slice_cmp nat_cmp p q ≡ Equal = ap (λ z. slice_cmp nat_cmp z q) is ∙ tied_itself nat_list_cmp_total q in
    absurd (let f : Less ≡ Equal = sym h ∙ tied in cc)
not_same p q false h e = refl

same_sym : (p q : List ℕ) → is_same p q ≡ false → is_same q p ≡ false
same_sym p q e = by_test (is_same q p) refl
  where
    by_test : (t : Bool) → is_same q p ≡ t → t ≡ false
    by_test true f = let is = same_is q p f in absurd (let g : true ≡ false = sym (same_self p) ∙ ap (λ z. is_same p z) (sym is) ∙ e in cc)
    by_test false f = refl

-- of entries whose positions rise no two have one position
pub placed_apart : (ls : List Launch) → AllPairs ComesBefore (map (λ l. l.position) ls) → ArePlacedApart (λ k. (leg_at ls k).position) (numbers zero (length ls))
placed_apart ls rise j k h g = by_order (nat_eq j k) refl
  where
    j_below : j < length ls
    j_below = let m = below_count (length ls) zero j h in omega (arith, m.1)

    k_below : k < length ls
    k_below = let m = below_count (length ls) zero k g in omega (arith, m.1)

    by_less : (j < k) ⊎ (k < j) → is_same (position_at ls j) (position_at ls k) ≡ false
    by_less (inl e) = let b = before_at ls j k rise e k_below in not_same (position_at ls j) (position_at ls k) (is_same (position_at ls j) (position_at ls k)) b refl
    by_less (inr e) =
        let b = before_at ls k j rise e j_below in
        same_sym (position_at ls k) (position_at ls j) (not_same (position_at ls k) (position_at ls j) (is_same (position_at ls k) (position_at ls j)) b refl)

    by_order : (t : Bool) → nat_eq j k ≡ t → is_same (position_at ls j) (position_at ls k) ≡ t
    by_order true e = let is : j ≡ k = grind (arith, e) in ap (λ z. is_same (position_at ls j) (position_at ls z)) (sym is) ∙ same_self (position_at ls j)
    by_order false e = by_less (grind (arith, e))

-- ---- the entries that pass a test

filter_merge : (legs : ℕ → Launch) (test : Launch → Bool) (a m b : List ℕ) → IsMerge a m b → ((k : ℕ) → holds k a ≡ true → test (legs k) ≡ true) → ((k : ℕ) → holds k m ≡ true → test (legs k) ≡ false)
    → map legs a ≡ filter test (map legs b)
filter_merge legs test a m b done on off = refl
filter_merge legs test a m b (kept k x y z f) on off =
    let here = on k (or_left (nat_eq k k) (holds k x) (grind arith)) in
    rw here (ap (λ w. legs k ∷ w) (filter_merge legs test x y z f (λ j h. on j (or_right (nat_eq k j) (holds j x) h)) off))
filter_merge legs test a m b (added k x y z f) on off =
    let here = off k (or_left (nat_eq k k) (holds k y) (grind arith)) in
    rw here (filter_merge legs test x y z f on (λ j h. off j (or_right (nat_eq k j) (holds j y) h)))

member_passes : (legs : ℕ → Launch) (a : List ℕ) (k : ℕ) → holds k a ≡ true → has_position (map legs a) (legs k).position ≡ true
member_passes legs [] k h = absurd (cc)
member_passes legs (j ∷ a) k h = elim (or_cases (nat_eq j k) (holds k a) h) as (λ _. (is_same (legs j).position (legs k).position || has_position (map legs a) (legs k).position) ≡ true) [
  | inl e ↦ let is : j ≡ k = grind (arith, e) in or_left (is_same (legs j).position (legs k).position) (has_position (map legs a) (legs k).position) (ap (λ z. is_same (legs j).position (legs z).position) (sym is) ∙ same_self (legs j).position)
  | inr e ↦ or_right (is_same (legs j).position (legs k).position) (has_position (map legs a) (legs k).position) (member_passes legs a k e)
]

other_fails : (legs : ℕ → Launch) (a : List ℕ) (k : ℕ) → ((j : ℕ) → holds j a ≡ true → is_same (legs j).position (legs k).position ≡ false) → has_position (map legs a) (legs k).position ≡ false
other_fails legs [] k h = refl
other_fails legs (j ∷ a) k h =
    let here = h j (or_left (nat_eq j j) (holds j a) (grind arith)) in
    rw here (other_fails legs a k (λ i g. h i (or_right (nat_eq j i) (holds i a) g)))

-- a part of the numbers gives the entries at its positions
pub part_is_filter : (legs : ℕ → Launch) (a m b : List ℕ) → IsMerge a m b → IsOnce b → ArePlacedApart (λ k. (legs k).position) b → map legs a ≡ filter (λ l. has_position (map legs a) l.position) (map legs b)
part_is_filter legs a m b f once places =
    filter_merge legs (λ l. has_position (map legs a) l.position) a m b f (λ k h. member_passes legs a k h)
    (λ k h. other_fails legs a k (λ j g. places j k (first_within j a m b f g) (second_within k a m b f h) ∙ apart a m b f once j k g h))
