-- What the code's values mean: pictures, and handles that are still to be drawn.
use Rattle.std.specs.Prelude.{ℕ, suc, List, [], ◌∷◌, ◌++◌, map}
use Rattle.mcv_route.specs.Tree.{Tree, Trees, none, child}
use Rattle.mcv_route.specs.View.{view}
use Rattle.mcv_draw.specs.Children.{drawn_children}
use Rattle.mcv_draw.specs.Drawn.{BranchValue, DrawingValue, branch_to}
use Rattle.mcv_draw.specs.Element.{ElementValue, element_of}
use Rattle.mcv_draw.specs.Marks.{MarksValue, marks_of}
use Rattle.mcv_draw.specs.declared.picture.Picture.{Picture}
use Rattle.mcv_draw.specs.declared.walk.Branch.{Branch}
use Rattle.mcv_draw.specs.declared.walk.Drawing.{Drawing}
use Rattle.mcv_draw.specs.declared.walk.Pending.{Pending}

abbrev pub elements_of : Picture → List ElementValue
elements_of p = map element_of p.elements.items

abbrev pub drawing_of : Drawing → DrawingValue
drawing_of d = record { number = d.number; servers = d.servers.now; marks = marks_of d.marks.now }

abbrev pub branch_of : Branch → BranchValue
branch_of b = record { position = b.position; above = b.above; word = b.word.items; is_folded = b.is_folded }

-- a handle, and how it hangs
pub record HandleValue : Type 0 where
  pub branch : BranchValue
  pub tree : Tree

abbrev pub handle_of : Pending → HandleValue
handle_of x = record { branch = branch_of x.branch; tree = view x.route.now }

-- the children from number k on, each of which hangs by its branch, the last one first
abbrev pub handles_back : (branches : ℕ → BranchValue) → ℕ → Trees → List HandleValue
handles_back branches k none = []
handles_back branches k (child t ts) = handles_back branches (suc k) ts ++ (record { branch = branches k; tree = t }) ∷ []

-- the children that are drawn of a handle in a row, the last one first
abbrev pub children_back : MarksValue → BranchValue → (row : ℕ) → Tree → List HandleValue
children_back m b row t = handles_back (branch_to m b row t) 0 (drawn_children t)
