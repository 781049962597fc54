-- Two lists of leaves that rise by position, merged, have the leaves of both and rise.
use Rattle.std.proofs.Common.{◌≡◌, ◌⊎◌, inl, inr, ℕ, zero, suc, ◌<◌, ◌+◌, ◌++◌, length, get_or, drop, List, [], ◌∷◌, Bor, Some, refl, sym, ap, ◌∙◌, subst, arith, append_assoc}
use Rattle.std.specs.Prelude.{⊤}
use Rattle.std.specs.Cmp.{IsTotalOrder}
use Rattle.std.specs.Ordering.{ordering_reverse}
use Rattle.std.specs.List.{All, AllByRecursion, Contains}
use Rattle.std.specs.declared.cmp.Ordering.{Ordering}
use Rattle.std.specs.declared.cmp.Ordering.TheVariants.{Less, Equal, Greater}
use Rattle.std.proofs.lemmas.Cmp.{nat_list_cmp_total}
use Rattle.std.proofs.lemmas.List.{drop-drop, drop-map}
use Rattle.std.proofs.lemmas.List.Elements.{All-cons, All-nil, All-head, All-tail, All-from_recursion, recursion_from_All, Contains-append_right}
use Rattle.std.proofs.lemmas.List.Kept.{AllPairs-cons}
use Rattle.std.proofs.lemmas.Map.Lookups.{exact_bytes}
use Rattle.mcv_cert.specs.Pair.{list_cmp}
use Rattle.mcv_judge.specs.Faults.{AreLegsRising}
use Rattle.mcv_judge.specs.Reason.{LegValue}
use Rattle.mcv_route.specs.Places.{pool_at_position}
use Rattle.mcv_route.specs.Tree.{Tree}
use Rattle.mcv_blocks.specs.Blocks.{AreLeavesAt, pool_for, positions_of}
use Rattle.mcv_rules.specs.declared.plan.PlannedLeg.{PlannedLeg}
use Rattle.mcv_blocks.specs.MergedLegs.{leaf_of, leaves_of, merge, merge_from}

o : IsTotalOrder list_cmp
o = nat_list_cmp_total

-- one position where they compare equal
pub one_position : (p q : List ℕ) → list_cmp p q ≡ Equal → p ≡ q
one_position [] [] e = refl
one_position [] (y ∷ ys) e = absurd cc
one_position (x ∷ xs) [] e = absurd cc
one_position (x ∷ xs) (y ∷ ys) e = exact_bytes (x ∷ xs) (y ∷ ys) e

-- ---- what all merged leaves have

by-cases : (S : LegValue → Type 0) (a b c : List LegValue) → AllByRecursion S a → AllByRecursion S b → AllByRecursion S c → (x : Ordering) → AllByRecursion S (elim x [ Less ↦ a | Equal ↦ b | Greater ↦ c ])
by-cases S a b c f g h Less = f
by-cases S a b c f g h Equal = g
by-cases S a b c f g h Greater = h

all-from : (S : LegValue → Type 0) (k : LegValue) (more : List LegValue → List LegValue) (ls : List LegValue) → S k → ((ms : List LegValue) → AllByRecursion S ms → AllByRecursion S (more ms)) → AllByRecursion S ls → AllByRecursion S (merge_from k more ls)
all-from S k more [] own rest h = (own, rest [] tt)
all-from S k more (l ∷ ls) own rest h =
    by-cases S (k ∷ more (l ∷ ls)) (k ∷ more ls) (l ∷ merge_from k more ls) (own, rest (l ∷ ls) h) (own, rest ls h.1) (h.0, all-from S k more ls own rest h.1) (list_cmp k.position l.position)

all-merged : (S : LegValue → Type 0) (ks ls : List LegValue) → AllByRecursion S ks → AllByRecursion S ls → AllByRecursion S (merge ks ls)
all-merged S [] ls g h = h
all-merged S (k ∷ ks) ls g h = all-from S k (merge ks) ls g.0 (λ ms i. all-merged S ks ms g.1 i) h

-- ---- they rise

abbrev IsBelow : LegValue → LegValue → Type 0
IsBelow k l = list_cmp k.position l.position ≡ Less

abbrev Rise : List LegValue → Type 0
Rise [] = ⊤
Rise (l ∷ ls) = AllByRecursion (IsBelow l) ls × Rise ls

below-more : (k l : LegValue) → IsBelow k l → (ls : List LegValue) → AllByRecursion (IsBelow l) ls → AllByRecursion (IsBelow k) ls
below-more k l h [] g = tt
below-more k l h (m ∷ ls) g = (o.trans k.position l.position m.position h g.0, below-more k l h ls g.1)

below-tied : (k l : LegValue) → list_cmp k.position l.position ≡ Equal → (ls : List LegValue) → AllByRecursion (IsBelow l) ls → AllByRecursion (IsBelow k) ls
below-tied k l h [] g = tt
below-tied k l h (m ∷ ls) g = (o.congr k.position l.position m.position h ∙ g.0, below-tied k l h ls g.1)

turned : (x : Ordering) (y : Ordering) → x ≡ ordering_reverse y → y ≡ Greater → x ≡ Less
turned x y e g = e ∙ ap ordering_reverse g

rise-by : (k l : LegValue) (ks ls : List LegValue) → AllByRecursion (IsBelow k) ks → Rise (l ∷ ls) → ((ms : List LegValue) → Rise ms → Rise (merge ks ms)) → Rise (merge_from k (merge ks) ls)
    → (x : Ordering) → list_cmp k.position l.position ≡ x → Rise (elim x [ Less ↦ k ∷ merge ks (l ∷ ls) | Equal ↦ k ∷ merge ks ls | Greater ↦ l ∷ merge_from k (merge ks) ls ])
rise-by k l ks ls low up rest further Less e = (all-merged (IsBelow k) ks (l ∷ ls) low (e, below-more k l e ls up.0), rest (l ∷ ls) up)
rise-by k l ks ls low up rest further Equal e = (all-merged (IsBelow k) ks ls low (below-tied k l e ls up.0), rest ls up.1)
rise-by k l ks ls low up rest further Greater e =
    let back : list_cmp l.position k.position ≡ Less = turned (list_cmp l.position k.position) (list_cmp k.position l.position) (o.antisymm l.position k.position) e in
    (all-merged (IsBelow l) (k ∷ ks) ls (back, below-more l k back ks low) up.0, further)

rise-from : (k : LegValue) (ks ls : List LegValue) → AllByRecursion (IsBelow k) ks → ((ms : List LegValue) → Rise ms → Rise (merge ks ms)) → Rise ls → Rise (merge_from k (merge ks) ls)
rise-from k ks [] low rest up = (all-merged (IsBelow k) ks [] low tt, rest [] tt)
rise-from k ks (l ∷ ls) low rest up = rise-by k l ks ls low up rest (rise-from k ks ls low rest up.1) (list_cmp k.position l.position) refl

rise-merged : (ks ls : List LegValue) → Rise ks → Rise ls → Rise (merge ks ls)
rise-merged [] ls g h = h
rise-merged (k ∷ ks) ls g h = rise-from k ks ls g.0 (λ ms i. rise-merged ks ms g.1 i) h

-- ---- each position of the two is one of theirs

-- a leaf is at the position
abbrev IsPresent : List LegValue → List ℕ → Type 0
IsPresent [] p = ⊥
IsPresent (l ∷ ls) p = (l.position ≡ p) ⊎ IsPresent ls p

present-by : (p : List ℕ) (a b c : List LegValue) → IsPresent a p → IsPresent b p → IsPresent c p → (x : Ordering) → IsPresent (elim x [ Less ↦ a | Equal ↦ b | Greater ↦ c ]) p
present-by p a b c f g h Less = f
present-by p a b c f g h Equal = g
present-by p a b c f g h Greater = h

first-present : (p : List ℕ) (k : LegValue) (ks more : List LegValue) → (IsPresent ks p → IsPresent more p) → IsPresent (k ∷ ks) p → IsPresent (k ∷ more) p
first-present p k ks more f (inl e) = inl e
first-present p k ks more f (inr h) = inr (f h)

left-from : (p : List ℕ) (k : LegValue) (ks ls : List LegValue) → ((ms : List LegValue) → IsPresent ks p → IsPresent (merge ks ms) p) → IsPresent (k ∷ ks) p → IsPresent (merge_from k (merge ks) ls) p
left-from p k ks [] rest h = first-present p k ks (merge ks []) (rest []) h
left-from p k ks (l ∷ ls) rest h =
    present-by p (k ∷ merge ks (l ∷ ls)) (k ∷ merge ks ls) (l ∷ merge_from k (merge ks) ls) (first-present p k ks (merge ks (l ∷ ls)) (rest (l ∷ ls)) h) (first-present p k ks (merge ks ls) (rest ls) h) (inr (left-from p k ks ls rest h)) (list_cmp k.position l.position)

present-left : (p : List ℕ) (ks ls : List LegValue) → IsPresent ks p → IsPresent (merge ks ls) p
present-left p [] ls h = absurd h
present-left p (k ∷ ks) ls h = left-from p k ks ls (λ ms i. present-left p ks ms i) h

right-by : (p : List ℕ) (k l : LegValue) (ks ls : List LegValue) → ((ms : List LegValue) → IsPresent ms p → IsPresent (merge ks ms) p) → (IsPresent ls p → IsPresent (merge_from k (merge ks) ls) p) → IsPresent (l ∷ ls) p
    → (x : Ordering) → list_cmp k.position l.position ≡ x → IsPresent (elim x [ Less ↦ k ∷ merge ks (l ∷ ls) | Equal ↦ k ∷ merge ks ls | Greater ↦ l ∷ merge_from k (merge ks) ls ]) p
right-by p k l ks ls rest further h Less e = inr (rest (l ∷ ls) h)
right-by p k l ks ls rest further (inl h) Equal e = inl (one_position k.position l.position e ∙ h)
right-by p k l ks ls rest further (inr h) Equal e = inr (rest ls h)
right-by p k l ks ls rest further (inl h) Greater e = inl h
right-by p k l ks ls rest further (inr h) Greater e = inr (further h)

right-from : (p : List ℕ) (k : LegValue) (ks ls : List LegValue) → ((ms : List LegValue) → IsPresent ms p → IsPresent (merge ks ms) p) → IsPresent ls p → IsPresent (merge_from k (merge ks) ls) p
right-from p k ks [] rest h = absurd h
right-from p k ks (l ∷ ls) rest h = right-by p k l ks ls rest (λ i. right-from p k ks ls rest i) h (list_cmp k.position l.position) refl

present-right : (p : List ℕ) (ks ls : List LegValue) → IsPresent ls p → IsPresent (merge ks ls) p
present-right p [] ls h = h
present-right p (k ∷ ks) ls h = right-from p k ks ls (λ ms i. present-right p ks ms i) h

-- ---- the same by index

contains-present : (ls : List LegValue) (p : List ℕ) → IsPresent ls p → Contains (positions_of ls) p
contains-present [] p h = absurd h
contains-present (l ∷ ls) p (inl e) = (0, omega arith, e)
contains-present (l ∷ ls) p (inr h) = Contains-append_right (l.position ∷ []) (positions_of ls) p (contains-present ls p h)

present-at : (ls : List LegValue) (p : List ℕ) (k : ℕ) → k < length (positions_of ls) → get_or (positions_of ls) k p ≡ p → IsPresent ls p
present-at [] p k h e = absurd (omega arith)
present-at (l ∷ ls) p zero h e = inl e
present-at (l ∷ ls) p (suc k) h e = inr (present-at ls p k (omega arith) e)

present-contains : (ls : List LegValue) (p : List ℕ) → Contains (positions_of ls) p → IsPresent ls p
present-contains ls p h = present-at ls p h.0 h.1 h.2

rise-rising : (ls : List LegValue) → Rise ls → AreLegsRising ls
rise-rising [] h = λ i j d low high. absurd (omega (arith, high))
rise-rising (l ∷ ls) h = AllPairs-cons IsBelow l ls (All-from_recursion (IsBelow l) ls h.0) (rise-rising ls h.1)

rising-rise : (ls : List LegValue) → AreLegsRising ls → Rise ls
rising-rise [] h = tt
rising-rise (l ∷ ls) h = (
  recursion_from_All (IsBelow l) ls (λ k d low. h 0 (suc k) d (omega arith) (omega arith)),
  rising-rise ls (λ i j d low high. h (suc i) (suc j) d (omega arith) (omega arith)),
)

all-positions : (P : List ℕ → Type 0) (ls : List LegValue) → AllByRecursion (λ l. P l.position) ls → All P (positions_of ls)
all-positions P [] h = All-nil P
all-positions P (l ∷ ls) h = All-cons P l.position (positions_of ls) h.0 (all-positions P ls h.1)

pub positions-all : (P : List ℕ → Type 0) (ls : List LegValue) → All P (positions_of ls) → AllByRecursion (λ l. P l.position) ls
positions-all P [] h = tt
positions-all P (l ∷ ls) h = (All-head P l.position (positions_of ls) h, positions-all P ls (All-tail P l.position (positions_of ls) h))

weaker : (S T : LegValue → Type 0) → ((l : LegValue) → S l → T l) → (ls : List LegValue) → AllByRecursion S ls → AllByRecursion T ls
weaker S T f [] h = tt
weaker S T f (l ∷ ls) h = (f l h.0, weaker S T f ls h.1)

-- ---- the leaves with one property or another

pub merged_leaves : (t : Tree) (P Q R : List ℕ → Type 0) → ((p : List ℕ) → P p → R p) → ((p : List ℕ) → Q p → R p) → ((p : List ℕ) → R p → P p ⊎ Q p) → (ks ls : List LegValue) → AreLeavesAt t P ks → AreLeavesAt t Q ls → AreLeavesAt t R (merge ks ls)
merged_leaves t P Q R first second either ks ls h g =
    let S : LegValue → Type 0 = λ l. pool_at_position t l.position ≡ Some (pool_for l) in
    let T : LegValue → Type 0 = λ l. R l.position in
    record {
      pools = All-from_recursion S (merge ks ls) (all-merged S ks ls (recursion_from_All S ks h.pools) (recursion_from_All S ls g.pools));
      rising = rise-rising (merge ks ls) (rise-merged ks ls (rising-rise ks h.rising) (rising-rise ls g.rising));
      only = all-positions R (merge ks ls) (all-merged T ks ls (weaker (λ l. P l.position) T (λ l i. first l.position i) ks (positions-all P ks h.only)) (weaker (λ l. Q l.position) T (λ l i. second l.position i) ls (positions-all Q ls g.only)));
      all = λ p i. elim (either p i) [
        | inl a ↦ contains-present (merge ks ls) p (present-left p ks ls (present-contains ks p (h.all p a)))
        | inr a ↦ contains-present (merge ks ls) p (present-right p ks ls (present-contains ls p (g.all p a)))
      ];
    }

-- ---- one leg more

moved : (legs : List (Bor PlannedLeg)) (n a : ℕ) → drop a (leaves_of (drop n legs)) ≡ leaves_of (drop (n + a) legs)
moved legs n a = drop-map (λ (l : Bor PlannedLeg). leaf_of l.now) a (drop n legs) ∙ ap leaves_of (drop-drop a n legs)

pub merged_more : (first second : List (Bor PlannedLeg)) (left right a b : ℕ) (done whole : List LegValue) (leg : LegValue) (xs ys : List (Bor PlannedLeg)) → xs ≡ drop left first → ys ≡ drop right second
    → done ++ merge (leaves_of (drop left first)) (leaves_of (drop right second)) ≡ whole
    → merge (leaves_of xs) (leaves_of ys) ≡ leg ∷ merge (drop a (leaves_of xs)) (drop b (leaves_of ys))
    → (done ++ leg ∷ []) ++ merge (leaves_of (drop (left + a) first)) (leaves_of (drop (right + b) second)) ≡ whole
merged_more first second left right a b done whole leg xs ys e f so_far step =
    let at : merge (leaves_of (drop left first)) (leaves_of (drop right second)) ≡ leg ∷ merge (drop a (leaves_of (drop left first))) (drop b (leaves_of (drop right second))) =
    subst (λ zs. merge (leaves_of zs) (leaves_of (drop right second)) ≡ leg ∷ merge (drop a (leaves_of zs)) (drop b (leaves_of (drop right second)))) e
    (subst (λ zs. merge (leaves_of xs) (leaves_of zs) ≡ leg ∷ merge (drop a (leaves_of xs)) (drop b (leaves_of zs))) f step) in
    append_assoc done (leg ∷ []) (merge (leaves_of (drop (left + a) first)) (leaves_of (drop (right + b) second)))
    ∙ ap (λ zs. done ++ leg ∷ merge zs (leaves_of (drop (right + b) second))) (sym (moved first left a))
    ∙ ap (λ zs. done ++ leg ∷ merge (drop a (leaves_of (drop left first))) zs) (sym (moved second right b))
    ∙ ap (λ zs. done ++ zs) (sym at)
    ∙ so_far
