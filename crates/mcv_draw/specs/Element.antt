-- The elements of a picture: a box for each handle (own).
use Rattle.std.specs.Prelude.{ℕ, List, Option, is_some}
use Rattle.std.specs.List.{count_by}
use Rattle.mcv_draw.specs.declared.element.Element.{Element}
use Rattle.mcv_draw.specs.declared.marks.Marked.{Marked}

pub record ElementValue : Type 0 where
  -- the number of the route, and the position in its tree
  pub route : ℕ
  pub position : List ℕ
  -- its row from the top: none where it is folded away
  pub row : Option ℕ
  -- the row of the handle above it
  pub above : ℕ
  -- the word of the edge that leads to it, and what stands in its box
  pub word : List ℕ
  pub label : List ℕ
  pub marked : Marked

abbrev pub element_of : Element → ElementValue
element_of e = record { route = e.route; position = e.position; row = e.row; above = e.above; word = e.word.items; label = e.label.items; marked = e.marked }

-- how many rows the elements take
abbrev pub rows_of : List ElementValue → ℕ
rows_of es = count_by (λ e. is_some e.row) es
