-- Each position is drawn, and none twice: what is below one child begins otherwise than what is below another.
use Rattle.std.proofs.Common.{◌≡◌, ◌≢◌, ◌≤◌, ◌∙◌, ℕ, suc, List, [], ◌∷◌, ◌++◌, length, map, append_assoc, length-append, arith, ap, refl, sym}
use Rattle.std.specs.Prelude.{⊤}
use Rattle.std.specs.List.{All, AllPairs}
use Rattle.std.proofs.lemmas.List.{append_cancel_left, append-nil, map-append}
use Rattle.std.proofs.lemmas.List.Elements.{All-nil, All-cons}
use Rattle.std.proofs.lemmas.List.Kept.{AllPairs-cons}
use Rattle.mcv_route.specs.Tree.{Tree, Trees, pool, null, error, many, warm_up, migrate, prefix_selector, operation_selector, none, child}
use Rattle.mcv_draw.specs.Drawn.{BranchValue, DrawingValue, behind, branch_to, drawn, drawn_each, next_row, top}
use Rattle.mcv_draw.specs.Element.{ElementValue}
use Rattle.mcv_draw.specs.Positions.{EachIsDrawnOnce, positions, positions_each}

-- ---- lists of positions

abbrev Each : (P : List ℕ → Type 0) → List (List ℕ) → Type 0
Each P [] = ⊤
Each P (q ∷ qs) = P q × Each P qs

each_weaker : (P Q : List ℕ → Type 0) → ((q : List ℕ) → P q → Q q) → (qs : List (List ℕ)) → Each P qs → Each Q qs
each_weaker P Q weaker [] each = tt
each_weaker P Q weaker (q ∷ qs) each = (weaker q each.0, each_weaker P Q weaker qs each.1)

each_append : (P : List ℕ → Type 0) (xs ys : List (List ℕ)) → Each P xs → Each P ys → Each P (xs ++ ys)
each_append P [] ys ex ey = ey
each_append P (x ∷ xs) ys ex ey = (ex.0, each_append P xs ys ex.1 ey)

abbrev Apart : List (List ℕ) → Type 0
Apart [] = ⊤
Apart (q ∷ qs) = Each (λ r. q ≢ r) qs × Apart qs

apart_append : (xs ys : List (List ℕ)) → Apart xs → Apart ys → Each (λ x. Each (λ y. x ≢ y) ys) xs → Apart (xs ++ ys)
apart_append [] ys ax ay cross = ay
apart_append (x ∷ xs) ys ax ay cross = (each_append (λ r. x ≢ r) xs ys ax.0 cross.0, apart_append xs ys ax.1 ay cross.1)

all_each : (P : List ℕ → Type 0) (qs : List (List ℕ)) → Each P qs → All P qs
all_each P [] each = All-nil P
all_each P (q ∷ qs) each = All-cons P q qs each.0 (all_each P qs each.1)

pairs_apart : (qs : List (List ℕ)) → Apart qs → AllPairs (λ (p q : List ℕ). p ≢ q) qs
pairs_apart [] apart = λ i j d before short. absurd (omega arith)
pairs_apart (q ∷ qs) apart = AllPairs-cons (λ (p r : List ℕ). p ≢ r) q qs (all_each (λ r. q ≢ r) qs apart.0) (pairs_apart qs apart.1)

-- ---- where positions begin

-- at the position or below it
abbrev Below : List ℕ → List ℕ → Type 0
Below p q = (r : List ℕ) × (q ≡ p ++ r)

-- at a child from number k on, or below one
abbrev From : List ℕ → ℕ → List ℕ → Type 0
From p k q = (j : ℕ) × (k ≤ j) × (r : List ℕ) × (q ≡ p ++ j ∷ r)

here : (p : List ℕ) → Below p p
here p = ([], sym (append-nil p))

from_below : (p : List ℕ) (k : ℕ) (q : List ℕ) → From p k q → Below p q
from_below p k q from = (from.0 ∷ from.2, from.3)

child_from : (p : List ℕ) (k : ℕ) (q : List ℕ) → Below (p ++ k ∷ []) q → From p k q
child_from p k q below = (k, omega arith, below.0, below.1 ∙ append_assoc p (k ∷ []) below.0)

later_from : (p : List ℕ) (k : ℕ) (q : List ℕ) → From p (suc k) q → From p k q
later_from p k q from = (from.0, omega (arith, from.1), from.2, from.3)

not_here : (p : List ℕ) (k : ℕ) (q : List ℕ) → From p k q → p ≢ q
not_here p k q from = λ same.
    let longer : p ≡ p ++ (from.0 ∷ from.2) = same ∙ from.3 in
    omega (arith, ap length longer, length-append p (from.0 ∷ from.2))

differ : (p : List ℕ) (k : ℕ) (x y : List ℕ) → Below (p ++ k ∷ []) x → From p (suc k) y → x ≢ y
differ p k x y below from = λ same.
    let long : p ++ (k ∷ below.0) ≡ p ++ (from.0 ∷ from.2) = sym (append_assoc p (k ∷ []) below.0) ∙ (sym below.1 ∙ (same ∙ from.3)) in
    let tails : k ∷ below.0 ≡ from.0 ∷ from.2 = append_cancel_left p (k ∷ below.0) (from.0 ∷ from.2) long in
    let equal : k ≡ from.0 = cc in
    omega (arith, from.1)

-- ---- the positions of a tree

-- two children, of which the second has the number behind the first's
two_below : (p : List ℕ) (xs ys : List (List ℕ)) → Each (Below (p ++ 0 ∷ [])) xs → Each (Below (p ++ 1 ∷ [])) ys → Each (From p 0) (xs ++ ys)
two_below p xs ys ex ey =
    each_append (From p 0) xs ys (each_weaker (Below (p ++ 0 ∷ [])) (From p 0) (child_from p 0) xs ex)
    (each_weaker (Below (p ++ 1 ∷ [])) (From p 0) (λ q b. later_from p 0 q (child_from p 1 q b)) ys ey)

two_apart : (p : List ℕ) (xs ys : List (List ℕ)) → Each (Below (p ++ 0 ∷ [])) xs → Each (Below (p ++ 1 ∷ [])) ys → Apart xs → Apart ys → Apart (xs ++ ys)
two_apart p xs ys ex ey ax ay =
    apart_append xs ys ax ay
    (each_weaker (Below (p ++ 0 ∷ [])) (λ x. Each (λ y. x ≢ y) ys)
    (λ x bx. each_weaker (Below (p ++ 1 ∷ [])) (λ y. x ≢ y) (λ y by. differ p 0 x y bx (child_from p 1 y by)) ys ey) xs ex)

-- the position itself before what is below it
with_below : (p : List ℕ) (qs : List (List ℕ)) → Each (From p 0) qs → Each (Below p) (p ∷ qs)
with_below p qs each = (here p, each_weaker (From p 0) (Below p) (from_below p 0) qs each)

with_apart : (p : List ℕ) (qs : List (List ℕ)) → Each (From p 0) qs → Apart qs → Apart (p ∷ qs)
with_apart p qs each apart = (each_weaker (From p 0) (λ q. p ≢ q) (not_here p 0) qs each, apart)

mutual
  below : (p : List ℕ) (t : Tree) → Each (Below p) (positions p t)
  below p (pool q ranges targets) = with_below p (positions_each p 0 targets) (from p 0 targets)
  below p null = (here p, tt)
  below p error = (here p, tt)
  below p (many kind ts) = with_below p (positions_each p 0 ts) (from p 0 ts)
  below p (warm_up cold warm exptime) =
      with_below p (positions (p ++ 0 ∷ []) cold ++ positions (p ++ 1 ∷ []) warm)
      (two_below p (positions (p ++ 0 ∷ []) cold) (positions (p ++ 1 ∷ []) warm) (below (p ++ 0 ∷ []) cold) (below (p ++ 1 ∷ []) warm))
  below p (migrate old new start interval) =
      with_below p (positions (p ++ 0 ∷ []) old ++ positions (p ++ 1 ∷ []) new)
      (two_below p (positions (p ++ 0 ∷ []) old) (positions (p ++ 1 ∷ []) new) (below (p ++ 0 ∷ []) old) (below (p ++ 1 ∷ []) new))
  below p (prefix_selector prefixes ts) = with_below p (positions_each p 0 ts) (from p 0 ts)
  below p (operation_selector ops ts) = with_below p (positions_each p 0 ts) (from p 0 ts)

  from : (p : List ℕ) (k : ℕ) (ts : Trees) → Each (From p k) (positions_each p k ts)
  from p k none = tt
  from p k (child t ts) =
      each_append (From p k) (positions (p ++ k ∷ []) t) (positions_each p (suc k) ts)
      (each_weaker (Below (p ++ k ∷ [])) (From p k) (child_from p k) (positions (p ++ k ∷ []) t) (below (p ++ k ∷ []) t))
      (each_weaker (From p (suc k)) (From p k) (later_from p k) (positions_each p (suc k) ts) (from p (suc k) ts))

mutual
  apart : (p : List ℕ) (t : Tree) → Apart (positions p t)
  apart p (pool q ranges targets) = with_apart p (positions_each p 0 targets) (from p 0 targets) (each_apart p 0 targets)
  apart p null = (tt, tt)
  apart p error = (tt, tt)
  apart p (many kind ts) = with_apart p (positions_each p 0 ts) (from p 0 ts) (each_apart p 0 ts)
  apart p (warm_up cold warm exptime) =
      let xs = positions (p ++ 0 ∷ []) cold in
      let ys = positions (p ++ 1 ∷ []) warm in
      let ex = below (p ++ 0 ∷ []) cold in
      let ey = below (p ++ 1 ∷ []) warm in
      with_apart p (xs ++ ys) (two_below p xs ys ex ey) (two_apart p xs ys ex ey (apart (p ++ 0 ∷ []) cold) (apart (p ++ 1 ∷ []) warm))
  apart p (migrate old new start interval) =
      let xs = positions (p ++ 0 ∷ []) old in
      let ys = positions (p ++ 1 ∷ []) new in
      let ex = below (p ++ 0 ∷ []) old in
      let ey = below (p ++ 1 ∷ []) new in
      with_apart p (xs ++ ys) (two_below p xs ys ex ey) (two_apart p xs ys ex ey (apart (p ++ 0 ∷ []) old) (apart (p ++ 1 ∷ []) new))
  apart p (prefix_selector prefixes ts) = with_apart p (positions_each p 0 ts) (from p 0 ts) (each_apart p 0 ts)
  apart p (operation_selector ops ts) = with_apart p (positions_each p 0 ts) (from p 0 ts) (each_apart p 0 ts)

  each_apart : (p : List ℕ) (k : ℕ) (ts : Trees) → Apart (positions_each p k ts)
  each_apart p k none = tt
  each_apart p k (child t ts) =
      let xs = positions (p ++ k ∷ []) t in
      let ys = positions_each p (suc k) ts in
      let later = from p (suc k) ts in
      apart_append xs ys (apart (p ++ k ∷ []) t) (each_apart p (suc k) ts)
      (each_weaker (Below (p ++ k ∷ [])) (λ x. Each (λ y. x ≢ y) ys)
      (λ x bx. each_weaker (From p (suc k)) (λ y. x ≢ y) (λ y fy. differ p k x y bx fy) ys later) xs (below (p ++ k ∷ []) t))

-- ---- what is drawn

abbrev place : ElementValue → List ℕ
place e = e.position

-- the places of what is drawn of two children
two_places : (ps qs : List (List ℕ)) (es fs : List ElementValue) → map place es ≡ ps → map place fs ≡ qs → map place (es ++ fs) ≡ ps ++ qs
two_places ps qs es fs first second = map-append place es fs ∙ (ap (λ (xs : List (List ℕ)). xs ++ map place fs) first ∙ ap (λ (xs : List (List ℕ)). ps ++ xs) second)

mutual
  places : (d : DrawingValue) (b : BranchValue) (row : ℕ) (t : Tree) → map place (drawn d b row t) ≡ positions b.position t
  places d b row (pool q ranges targets) =
      ap (λ (ps : List (List ℕ)). b.position ∷ ps)
      (each_place d b.position (branch_to d.marks b row (pool q ranges targets)) (λ k. refl) (next_row d b row (pool q ranges targets)) 0 targets)
  places d b row null = refl
  places d b row error = refl
  places d b row (many kind ts) =
      ap (λ (ps : List (List ℕ)). b.position ∷ ps) (each_place d b.position (branch_to d.marks b row (many kind ts)) (λ k. refl) (next_row d b row (many kind ts)) 0 ts)
  places d b row (warm_up cold warm exptime) =
      let t : Tree = warm_up cold warm exptime in
      let branches : ℕ → BranchValue = branch_to d.marks b row t in
      let first : List ElementValue = drawn d (branches 0) (next_row d b row t) cold in
      let behind_first : ℕ = behind (next_row d b row t) first in
      ap (λ (ps : List (List ℕ)). b.position ∷ ps)
      (two_places (positions (b.position ++ 0 ∷ []) cold) (positions (b.position ++ 1 ∷ []) warm) first (drawn d (branches 1) behind_first warm)
      (places d (branches 0) (next_row d b row t) cold) (places d (branches 1) behind_first warm))
  places d b row (migrate old new start interval) =
      let t : Tree = migrate old new start interval in
      let branches : ℕ → BranchValue = branch_to d.marks b row t in
      let first : List ElementValue = drawn d (branches 0) (next_row d b row t) old in
      let behind_first : ℕ = behind (next_row d b row t) first in
      ap (λ (ps : List (List ℕ)). b.position ∷ ps)
      (two_places (positions (b.position ++ 0 ∷ []) old) (positions (b.position ++ 1 ∷ []) new) first (drawn d (branches 1) behind_first new)
      (places d (branches 0) (next_row d b row t) old) (places d (branches 1) behind_first new))
  places d b row (prefix_selector prefixes ts) =
      ap (λ (ps : List (List ℕ)). b.position ∷ ps)
      (each_place d b.position (branch_to d.marks b row (prefix_selector prefixes ts)) (λ k. refl) (next_row d b row (prefix_selector prefixes ts)) 0 ts)
  places d b row (operation_selector ops ts) =
      ap (λ (ps : List (List ℕ)). b.position ∷ ps)
      (each_place d b.position (branch_to d.marks b row (operation_selector ops ts)) (λ k. refl) (next_row d b row (operation_selector ops ts)) 0 ts)

  each_place : (d : DrawingValue) (p : List ℕ) (branches : ℕ → BranchValue) → ((k : ℕ) → (branches k).position ≡ p ++ k ∷ []) → (row k : ℕ) (ts : Trees)
      → map place (drawn_each d branches row k ts) ≡ positions_each p k ts
  each_place d p branches are row k none = refl
  each_place d p branches are row k (child t ts) =
      let first : List ElementValue = drawn d (branches k) row t in
      two_places (positions (p ++ k ∷ []) t) (positions_each p (suc k) ts) first (drawn_each d branches (behind row first) (suc k) ts)
      (places d (branches k) row t ∙ ap (λ (q : List ℕ). positions q t) (are k)) (each_place d p branches are (behind row first) (suc k) ts)

pub each_is_drawn_once : EachIsDrawnOnce
each_is_drawn_once d row t = record { each = places d top row t; once = pairs_apart (positions [] t) (apart [] t) }
