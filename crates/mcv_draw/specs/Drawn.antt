-- What is drawn of a route: an element for each handle, one below the other (own).
use Rattle.std.specs.Prelude.{ℕ, suc, ◌+◌, ◌&&◌, ◌||◌, not, Bool, false, List, [], ◌∷◌, ◌++◌, Some, None, if◌then◌else◌, nat_le}
use Rattle.mcv_route.specs.Tree.{Tree, Trees, pool, null, error, many, warm_up, migrate, prefix_selector, operation_selector, none, child}
use Rattle.mcv_draw.specs.Element.{ElementValue, rows_of}
use Rattle.mcv_draw.specs.Label.{child_word, label}
use Rattle.mcv_draw.specs.Marks.{MarksValue, marked}

-- what is drawn of a route beside its tree: its number, the texts of the servers, and the marks
pub record DrawingValue : Type 0 where
  pub number : ℕ
  pub servers : List (List ℕ)
  pub marks : MarksValue

-- how a handle hangs below another one: where, in which row that one is, by which word, and whether it is folded away
pub record BranchValue : Type 0 where
  pub position : List ℕ
  pub above : ℕ
  pub word : List ℕ
  pub is_folded : Bool

abbrev pub top : BranchValue
top = record { position = []; above = 0; word = []; is_folded = false }

-- of the children of one handle the first 60 are drawn, and those on the way of a finding
abbrev pub is_folded_at : MarksValue → BranchValue → (number : ℕ) → Bool
is_folded_at m b k = b.is_folded || (nat_le 60 k && not (m.shown (b.position ++ k ∷ [])))

-- to the child of a number, from a handle in a row
abbrev pub branch_to : MarksValue → BranchValue → (row : ℕ) → Tree → (number : ℕ) → BranchValue
branch_to m b row t k = record { position = b.position ++ k ∷ []; above = row; word = child_word t k; is_folded = is_folded_at m b k }

-- the box of a handle, where the row is free
abbrev pub element : DrawingValue → BranchValue → (row : ℕ) → Tree → ElementValue
element d b row t = record {
  route = d.number;
  position = b.position;
  row = if b.is_folded then None else Some row;
  above = b.above;
  word = b.word;
  label = label d.servers t;
  marked = marked d.marks b.position;
}

-- the first free row behind elements
abbrev pub behind : (row : ℕ) → List ElementValue → ℕ
behind row es = row + rows_of es

-- the first row below a handle's own
abbrev pub next_row : DrawingValue → BranchValue → (row : ℕ) → Tree → ℕ
next_row d b row t = behind row (element d b row t ∷ [])

abbrev mutual
  -- the handle in the first free row, and then those below it in the order of their numbers
  pub drawn : DrawingValue → BranchValue → (row : ℕ) → Tree → List ElementValue
  drawn d b row (pool q ranges targets) =
      element d b row (pool q ranges targets) ∷ drawn_each d (branch_to d.marks b row (pool q ranges targets)) (next_row d b row (pool q ranges targets)) 0 targets
  drawn d b row null = element d b row null ∷ []
  drawn d b row error = element d b row error ∷ []
  drawn d b row (many kind ts) = element d b row (many kind ts) ∷ drawn_each d (branch_to d.marks b row (many kind ts)) (next_row d b row (many kind ts)) 0 ts
  drawn d b row (warm_up cold warm exptime) = element d b row (warm_up cold warm exptime)
      ∷ (drawn d (branch_to d.marks b row (warm_up cold warm exptime) 0) (next_row d b row (warm_up cold warm exptime)) cold
      ++ drawn d (branch_to d.marks b row (warm_up cold warm exptime) 1)
      (behind (next_row d b row (warm_up cold warm exptime)) (drawn d (branch_to d.marks b row (warm_up cold warm exptime) 0) (next_row d b row (warm_up cold warm exptime)) cold)) warm)
  drawn d b row (migrate from to start interval) = element d b row (migrate from to start interval)
      ∷ (drawn d (branch_to d.marks b row (migrate from to start interval) 0) (next_row d b row (migrate from to start interval)) from
      ++ drawn d (branch_to d.marks b row (migrate from to start interval) 1)
      (behind (next_row d b row (migrate from to start interval)) (drawn d (branch_to d.marks b row (migrate from to start interval) 0) (next_row d b row (migrate from to start interval)) from)) to)
  drawn d b row (prefix_selector prefixes ts) =
      element d b row (prefix_selector prefixes ts) ∷ drawn_each d (branch_to d.marks b row (prefix_selector prefixes ts)) (next_row d b row (prefix_selector prefixes ts)) 0 ts
  drawn d b row (operation_selector ops ts) =
      element d b row (operation_selector ops ts) ∷ drawn_each d (branch_to d.marks b row (operation_selector ops ts)) (next_row d b row (operation_selector ops ts)) 0 ts

  -- the children from number k on, each of which hangs by its branch
  pub drawn_each : DrawingValue → (branches : ℕ → BranchValue) → (row : ℕ) → ℕ → Trees → List ElementValue
  drawn_each d branches row k none = []
  drawn_each d branches row k (child t ts) = drawn d (branches k) row t ++ drawn_each d branches (behind row (drawn d (branches k) row t)) (suc k) ts
