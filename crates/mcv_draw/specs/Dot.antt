-- The picture as Graphviz reads it (The DOT Language) (own).
use Rattle.std.specs.Prelude.{ℕ, List, [], ◌∷◌, ◌++◌, Option, Some, None, codes, if◌then◌else◌, take, length, ◌-◌}
use Rattle.std.specs.List.{flat_map}
use Rattle.mcv_route.specs.Children.{joined}
use Rattle.mcv_draw.specs.Element.{ElementValue}
use Rattle.mcv_draw.specs.Markup.{dot_text}
use Rattle.mcv_draw.specs.Svg.{identifier, if_marked, tags}
use Rattle.mcv_draw.specs.declared.marks.Marked.{Marked}

-- the element above
abbrev pub parent_of : ElementValue → ElementValue
parent_of e = record e { position = take (length e.position - 1) e.position }

unfoldable pub dot_colour : Marked → List ℕ
dot_colour m = if m.deletes then codes " color=\"#b3261e\" style=dashed" else (if m.is_readable then codes " color=\"#1a56c4\"" else [])

unfoldable pub dot_style : Marked → List ℕ
dot_style m = joined (dot_colour m ∷ if_marked m.is_shown (codes " penwidth=4") ∷ if_marked m.is_lost (codes " fontcolor=\"#b3261e\"") ∷ [])

unfoldable pub node_words : (identifier label style : List ℕ) → List ℕ
node_words identifier label style = joined (codes "\"" ∷ identifier ∷ codes "\" [label=\"" ∷ label ∷ codes "\"" ∷ style ∷ codes "];\n" ∷ [])

unfoldable pub dot_node : ElementValue → List ℕ
dot_node e = node_words (identifier e) (dot_text (e.label ++ tags e.marked)) (dot_style e.marked)

unfoldable pub edge_words : (parent identifier word style : List ℕ) → List ℕ
edge_words parent identifier word style = joined (
    codes "\"" ∷ parent ∷ codes "\" -> \"" ∷ identifier ∷ codes "\" [label=\"" ∷ word ∷ codes "\"" ∷ style ∷ codes "];\n" ∷ [])

abbrev pub dot_edge : ElementValue → List ℕ → List ℕ
dot_edge e [] = []
dot_edge e (k ∷ p) = edge_words (identifier (parent_of e)) (identifier e) (dot_text e.word) (dot_style e.marked)

unfoldable pub folded_words : (identifier : List ℕ) → List ℕ
folded_words identifier = joined (codes "// " ∷ identifier ∷ codes "\n" ∷ [])

-- a folded element has its place in the text, as a comment
abbrev pub dot_element : ElementValue → Option ℕ → List ℕ
dot_element e None = folded_words (identifier e)
dot_element e (Some row) = dot_node e ++ dot_edge e e.position

unfoldable pub dot_line : ElementValue → List ℕ
dot_line e = dot_element e e.row

unfoldable pub dot_head : List ℕ
dot_head = codes "digraph mcv {\nrankdir=LR;\nnode [shape=box fontname=monospace];\n"

abbrev pub dot : List ElementValue → List ℕ
dot es = dot_head ++ flat_map dot_line es ++ codes "}\n"
