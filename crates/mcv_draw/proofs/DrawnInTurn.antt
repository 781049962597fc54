-- What is drawn, as a walk makes it: the next handle, then its children before all else.
use Rattle.std.proofs.Common.{◌≡◌, ◌∙◌, ◌<◌, ◌+◌, ℕ, zero, suc, cond, List, [], ◌∷◌, ◌++◌, Some, None, add-zero, add_assoc, ap, append_assoc, arith, is_some, length, map, refl, sym}
use Rattle.std.proofs.lemmas.List.{append-nil, map-append}
use Rattle.std.proofs.lemmas.List.Sums.{sum_by-append}
use Rattle.mcv_route.specs.Places.{child_at, children_of}
use Rattle.mcv_route.specs.Tree.{Tree, Trees, pool, null, error, many, warm_up, migrate, prefix_selector, operation_selector, none, child}
use Rattle.mcv_draw.specs.Children.{drawn_children, from_child, tree_count}
use Rattle.mcv_draw.specs.Drawn.{BranchValue, DrawingValue, behind, branch_to, drawn, drawn_each, element, next_row}
use Rattle.mcv_draw.specs.Element.{ElementValue, rows_of}
use Rattle.mcv_draw.specs.Walk.{HandleValue, children_back, handles_back}

-- a handle, and how it hangs
abbrev pub handle : BranchValue → Tree → HandleValue
handle b t = record { branch = b; tree = t }

pub same_handle : (a b : BranchValue) (t : Tree) → a ≡ b → handle a t ≡ handle b t
same_handle a b t same = ap (λ (x : BranchValue). handle x t) same

-- ---- rows

pub rows-append : (es fs : List ElementValue) → rows_of (es ++ fs) ≡ rows_of es + rows_of fs
rows-append es fs = sum_by-append (λ (e : ElementValue). cond (is_some e.row) 1 0) es fs

-- behind elements, and behind those that follow them
behind_both : (row : ℕ) (es fs : List ElementValue) → behind row (es ++ fs) ≡ behind (behind row es) fs
behind_both row es fs = ap (λ (n : ℕ). row + n) (rows-append es fs) ∙ sym (add_assoc row (rows_of es) (rows_of fs))

-- ---- a handle, and what is below it

pub drawn_so : (d : DrawingValue) (b : BranchValue) (row : ℕ) (t : Tree)
    → drawn d b row t ≡ element d b row t ∷ drawn_each d (branch_to d.marks b row t) (next_row d b row t) 0 (drawn_children t)
drawn_so d b row (pool q ranges targets) = refl
drawn_so d b row null = refl
drawn_so d b row error = refl
drawn_so d b row (many kind ts) = refl
drawn_so d b row (warm_up cold warm exptime) =
    let t : Tree = warm_up cold warm exptime in
    let branches : ℕ → BranchValue = branch_to d.marks b row t in
    let first : List ElementValue = drawn d (branches 0) (next_row d b row t) cold in
    ap (λ (es : List ElementValue). element d b row t ∷ (first ++ es)) (sym (append-nil (drawn d (branches 1) (behind (next_row d b row t) first) warm)))
drawn_so d b row (migrate old new start interval) =
    let t : Tree = migrate old new start interval in
    let branches : ℕ → BranchValue = branch_to d.marks b row t in
    let first : List ElementValue = drawn d (branches 0) (next_row d b row t) old in
    ap (λ (es : List ElementValue). element d b row t ∷ (first ++ es)) (sym (append-nil (drawn d (branches 1) (behind (next_row d b row t) first) new)))
drawn_so d b row (prefix_selector prefixes ts) = refl
drawn_so d b row (operation_selector ops ts) = refl

-- ---- what is still to be drawn, from a row on: of the last handle first

unfoldable pub still : DrawingValue → List HandleValue → (row : ℕ) → List ElementValue
still d [] row = []
still d (x ∷ xs) row = still d xs row ++ drawn d x.branch (behind row (still d xs row)) x.tree

pub still_none : (d : DrawingValue) (row : ℕ) → still d [] row ≡ []
unfolding still
still_none d row = refl

pub still_one : (d : DrawingValue) (x : HandleValue) (row : ℕ) → still d (x ∷ []) row ≡ drawn d x.branch row x.tree
unfolding still
still_one d x row = ap (λ (n : ℕ). drawn d x.branch n x.tree) (add-zero row)

pub still_last : (d : DrawingValue) (xs : List HandleValue) (x : HandleValue) (row : ℕ)
    → still d (xs ++ x ∷ []) row ≡ drawn d x.branch row x.tree ++ still d xs (behind row (drawn d x.branch row x.tree))
unfolding still
still_last d [] x row = still_one d x row ∙ sym (append-nil (drawn d x.branch row x.tree))
still_last d (y ∷ ys) x row =
    let now : List ElementValue = drawn d x.branch row x.tree in
    let later : List ElementValue = still d ys (behind row now) in
    let rest : still d (ys ++ x ∷ []) row ≡ now ++ later = still_last d ys x row in
    ap (λ (es : List ElementValue). es ++ drawn d y.branch (behind row es) y.tree) rest
    ∙ (ap (λ (n : ℕ). (now ++ later) ++ drawn d y.branch n y.tree) (behind_both row now later)
    ∙ append_assoc now later (drawn d y.branch (behind (behind row now) later) y.tree))

-- the children of a handle, the last one first, behind what was to be drawn already
pub still_children : (d : DrawingValue) (xs : List HandleValue) (branches : ℕ → BranchValue) (row k : ℕ) (ts : Trees)
    → still d (xs ++ handles_back branches k ts) row ≡ drawn_each d branches row k ts ++ still d xs (behind row (drawn_each d branches row k ts))
still_children d xs branches row k none =
    ap (λ (hs : List HandleValue). still d hs row) (append-nil xs) ∙ ap (λ (n : ℕ). still d xs n) (sym (add-zero row))
still_children d xs branches row k (child t ts) =
    let x : HandleValue = handle (branches k) t in
    let others : List HandleValue = handles_back branches (suc k) ts in
    let now : List ElementValue = drawn d (branches k) row t in
    let later : List ElementValue = drawn_each d branches (behind row now) (suc k) ts in
    ap (λ (hs : List HandleValue). still d hs row) (sym (append_assoc xs others (x ∷ [])))
    ∙ (still_last d (xs ++ others) x row
    ∙ (ap (λ (es : List ElementValue). now ++ es) (still_children d xs branches (behind row now) (suc k) ts)
    ∙ (sym (append_assoc now later (still d xs (behind (behind row now) later)))
    ∙ ap (λ (n : ℕ). (now ++ later) ++ still d xs n) (sym (behind_both row now later)))))

-- ---- a turn of the walk

-- of what is still to be drawn the next handle's element is the first, and then come its children
pub in_turn : (d : DrawingValue) (before front : List HandleValue) (x : HandleValue) (row : ℕ) → before ≡ front ++ x ∷ []
    → still d before row ≡ element d x.branch row x.tree ∷ still d (front ++ children_back d.marks x.branch row x.tree) (next_row d x.branch row x.tree)
in_turn d before front x row is =
    let e : ElementValue = element d x.branch row x.tree in
    let free : ℕ = next_row d x.branch row x.tree in
    let below : List ElementValue = drawn_each d (branch_to d.marks x.branch row x.tree) free 0 (drawn_children x.tree) in
    let whole : drawn d x.branch row x.tree ≡ e ∷ below = drawn_so d x.branch row x.tree in
    ap (λ (hs : List HandleValue). still d hs row) is
    ∙ (still_last d front x row
    ∙ (ap (λ (es : List ElementValue). es ++ still d front (behind row es)) whole
    ∙ (ap (λ (n : ℕ). e ∷ (below ++ still d front n)) (behind_both row (e ∷ []) below)
    ∙ ap (λ (es : List ElementValue). e ∷ es) (sym (still_children d front (branch_to d.marks x.branch row x.tree) free 0 (drawn_children x.tree))))))

-- the picture with one element more, and what is still to be drawn behind it
pub turn : (d : DrawingValue) (old new : List ElementValue) (before front after : List HandleValue) (x : HandleValue) → before ≡ front ++ x ∷ []
    → new ≡ old ++ element d x.branch (rows_of old) x.tree ∷ [] → after ≡ front ++ children_back d.marks x.branch (rows_of old) x.tree
    → new ++ still d after (rows_of new) ≡ old ++ still d before (rows_of old)
turn d old new before front after x is added left =
    let e : ElementValue = element d x.branch (rows_of old) x.tree in
    let free : rows_of new ≡ next_row d x.branch (rows_of old) x.tree = ap rows_of added ∙ rows-append old (e ∷ []) in
    ap (λ (n : ℕ). new ++ still d after n) free
    ∙ (ap (λ (es : List ElementValue). es ++ still d after (next_row d x.branch (rows_of old) x.tree)) added
    ∙ (append_assoc old (e ∷ []) (still d after (next_row d x.branch (rows_of old) x.tree))
    ∙ ap (λ (es : List ElementValue). old ++ es) (ap (λ (hs : List HandleValue). e ∷ still d hs (next_row d x.branch (rows_of old) x.tree)) left ∙ sym (in_turn d before front x (rows_of old) is))))

-- there is one element less to come
pub fewer : (d : DrawingValue) (old new : List ElementValue) (before front after : List HandleValue) (x : HandleValue) → before ≡ front ++ x ∷ []
    → new ≡ old ++ element d x.branch (rows_of old) x.tree ∷ [] → after ≡ front ++ children_back d.marks x.branch (rows_of old) x.tree
    → length (still d after (rows_of new)) < length (still d before (rows_of old))
fewer d old new before front after x is added left =
    let e : ElementValue = element d x.branch (rows_of old) x.tree in
    let free : rows_of new ≡ next_row d x.branch (rows_of old) x.tree = ap rows_of added ∙ rows-append old (e ∷ []) in
    let here : still d after (rows_of new) ≡ still d (front ++ children_back d.marks x.branch (rows_of old) x.tree) (next_row d x.branch (rows_of old) x.tree) =
    ap (λ (n : ℕ). still d after n) free ∙ ap (λ (hs : List HandleValue). still d hs (next_row d x.branch (rows_of old) x.tree)) left in
    let whole : length (still d before (rows_of old)) ≡ suc (length (still d after (rows_of new))) =
    ap length (in_turn d before front x (rows_of old) is) ∙ ap (λ (es : List ElementValue). suc (length es)) (sym here) in
    omega (arith, whole)

-- where no handle is left, all is drawn
pub all_drawn : (d : DrawingValue) (left : List HandleValue) (es whole : List ElementValue) (row : ℕ) → left ≡ [] → es ++ still d left row ≡ whole → es ≡ whole
all_drawn d left es whole row none_left said =
    let none_to_come : still d left row ≡ [] = ap (λ (hs : List HandleValue). still d hs row) none_left ∙ still_none d row in
    sym (append-nil es) ∙ (ap (λ (fs : List ElementValue). es ++ fs) (sym none_to_come) ∙ said)

-- the first handle
pub first_handle : (d : DrawingValue) (es : List ElementValue) (hs : List HandleValue) (b : BranchValue) (t : Tree) → hs ≡ handle b t ∷ []
    → es ++ still d hs (rows_of es) ≡ es ++ drawn d b (rows_of es) t
first_handle d es hs b t is =
    ap (λ (fs : List ElementValue). es ++ fs) (ap (λ (xs : List HandleValue). still d xs (rows_of es)) is ∙ still_one d (handle b t) (rows_of es))

-- ---- children, the last one first

none_from : (ts : Trees) → from_child (tree_count ts) ts ≡ none
none_from none = refl
none_from (child t ts) = none_from ts

one_from : (ts : Trees) (k : ℕ) (t : Tree) → child_at ts k ≡ Some t → from_child k ts ≡ child t (from_child (suc k) ts)
one_from none k t is = absurd (cc)
one_from (child u ts) zero t is = ap (λ (v : Tree). child v ts) (inside u t is)
  where
    inside : (a b : Tree) → Some a ≡ Some b → a ≡ b
    inside a b same = cc
one_from (child u ts) (suc k) t is = one_from ts k t is

there : (ts : Trees) (k : ℕ) → k < tree_count ts → child_at ts k ≡ None → ⊥
there none k low is = omega arith
there (child t ts) zero low is = cc
there (child t ts) (suc k) low is = there ts k (omega arith) is

-- the children that are drawn have the numbers of the handle's children
same_child : (t : Tree) (k : ℕ) → k < tree_count (drawn_children t) → child_at (children_of t) k ≡ child_at (drawn_children t) k
same_child (pool q ranges targets) k low = refl
same_child null k low = refl
same_child error k low = refl
same_child (many kind ts) k low = refl
same_child (warm_up cold warm exptime) zero low = refl
same_child (warm_up cold warm exptime) (suc zero) low = refl
same_child (warm_up cold warm exptime) (suc (suc k)) low = absurd (omega arith)
same_child (migrate old new start interval) k low = refl
same_child (prefix_selector prefixes ts) k low = refl
same_child (operation_selector ops ts) k low = refl

pub no_child_missing : (t : Tree) (k : ℕ) → k < tree_count (drawn_children t) → child_at (children_of t) k ≡ None → ⊥
no_child_missing t k low is = there (drawn_children t) k low (sym (same_child t k low) ∙ is)

-- the children from a number on, the last one first, as they are pushed
abbrev pub pushed_from : (branches : ℕ → BranchValue) → ℕ → Tree → List HandleValue
pushed_from branches k t = handles_back branches k (from_child k (drawn_children t))

-- before the last child nothing is pushed
pub none_pushed : (branches : ℕ → BranchValue) (t : Tree) (n : ℕ) (xs : List HandleValue) → n ≡ tree_count (drawn_children t) → xs ≡ xs ++ pushed_from branches n t
none_pushed branches t n xs is =
    let behind_all : from_child n (drawn_children t) ≡ none = ap (λ (k : ℕ). from_child k (drawn_children t)) is ∙ none_from (drawn_children t) in
    sym (ap (λ (ts : Trees). xs ++ handles_back branches n ts) behind_all ∙ append-nil xs)

-- the child before those that were pushed
pub one_pushed : (branches : ℕ → BranchValue) (t u : Tree) (k : ℕ) (old before now : List HandleValue) → k < tree_count (drawn_children t) → child_at (children_of t) k ≡ Some u
    → before ≡ old ++ pushed_from branches (suc k) t → now ≡ before ++ handle (branches k) u ∷ [] → now ≡ old ++ pushed_from branches k t
one_pushed branches t u k old before now low is so_far pushed =
    let x : HandleValue = handle (branches k) u in
    let later : List HandleValue = handles_back branches (suc k) (from_child (suc k) (drawn_children t)) in
    let here : from_child k (drawn_children t) ≡ child u (from_child (suc k) (drawn_children t)) = one_from (drawn_children t) k u (sym (same_child t k low) ∙ is) in
    pushed ∙ (ap (λ (hs : List HandleValue). hs ++ x ∷ []) so_far ∙ (append_assoc old later (x ∷ []) ∙ ap (λ (ts : Trees). old ++ handles_back branches k ts) (sym here)))

-- ---- what is kept, as it is seen

pub seen_last : {X Y : Type 0} (f : X → Y) (before now : List X) (x : X) (y : Y) → now ≡ before ++ x ∷ [] → f x ≡ y → map f now ≡ map f before ++ y ∷ []
seen_last f before now x y is same = ap (map f) is ∙ (map-append f before (x ∷ []) ∙ ap (λ z. map f before ++ z ∷ []) same)

pub none_seen : {X Y : Type 0} (f : X → Y) (items : List X) → length items ≡ 0 → map f items ≡ []
none_seen f [] short = refl
none_seen f (x ∷ xs) short = absurd (omega arith)
