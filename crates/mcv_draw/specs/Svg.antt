-- The picture as SVG (SVG 1.1): by itself, without a script or a font file (own). Lengths are in pixels.
use Rattle.std.specs.Prelude.{ℕ, suc, ◌+◌, ◌*◌, ◌-◌, ◌==◌, Bool, List, [], ◌∷◌, ◌++◌, Option, Some, None, codes, decimal, if◌then◌else◌, fold, length, max, min}
use Rattle.std.specs.List.{flat_map}
use Rattle.mcv_base.specs.Position.{position_text}
use Rattle.mcv_route.specs.Children.{joined}
use Rattle.mcv_draw.specs.Element.{ElementValue, rows_of}
use Rattle.mcv_draw.specs.Markup.{xml_text}
use Rattle.mcv_draw.specs.declared.marks.Marked.{Marked}

-- ---- shapes, of what they hold

-- a line from (x, y) down, and then across
unfoldable pub path_words : (x y down across stroke : List ℕ) → List ℕ
path_words x y down across stroke = joined (
    codes "<path fill=\"none\" d=\"M" ∷ x ∷ codes " " ∷ y ∷ codes " V" ∷ down ∷ codes " H" ∷ across ∷ codes "\"" ∷ stroke ∷ codes "/>\n" ∷ [])

unfoldable pub rect_words : (x y width fill stroke : List ℕ) → List ℕ
rect_words x y width fill stroke = joined (
    codes "<rect x=\"" ∷ x ∷ codes "\" y=\"" ∷ y ∷ codes "\" width=\"" ∷ width ∷ codes "\" height=\"26\" rx=\"4\"" ∷ fill ∷ stroke ∷ codes "/>\n" ∷ [])

unfoldable pub text_words : (x y said : List ℕ) → List ℕ
text_words x y said = joined (codes "<text x=\"" ∷ x ∷ codes "\" y=\"" ∷ y ∷ codes "\">" ∷ said ∷ codes "</text>\n" ∷ [])

unfoldable pub group_words : (identifier inside : List ℕ) → List ℕ
group_words identifier inside = joined (codes "<g id=\"" ∷ identifier ∷ codes "\">\n" ∷ inside ∷ codes "</g>\n" ∷ [])

unfoldable pub head_words : (width height : List ℕ) → List ℕ
head_words width height = joined (
    codes "<svg xmlns=\"http://www.w3.org/2000/svg\" width=\"" ∷ width ∷ codes "\" height=\"" ∷ height
    ∷ codes "\" font-family=\"monospace\" font-size=\"13\">\n<rect width=\"100%\" height=\"100%\" fill=\"#ffffff\"/>\n" ∷ [])

-- ---- where boxes are

-- no row is lower than row 4294967295, and no column is further right
abbrev pub at_most : (place : ℕ) → ℕ
at_most place = min place 4294967295

abbrev pub left_of : (depth : ℕ) → ℕ
left_of depth = 16 + 40 * at_most depth

abbrev pub top_of : (row : ℕ) → ℕ
top_of row = 16 + 36 * at_most row

abbrev pub if_marked : Bool → List ℕ → List ℕ
if_marked marked tag = if marked then tag else []

-- what is said beside the label, so that nothing rests on colours
unfoldable pub tags : Marked → List ℕ
tags m = joined (if_marked m.deletes (codes " [delete]") ∷ if_marked m.is_readable (codes " [read]") ∷ if_marked m.is_lost (codes " [LOST]") ∷ [])

-- the word of the edge, where there is one
abbrev pub edge_word : List ℕ → List ℕ
edge_word [] = []
edge_word (b ∷ bs) = (b ∷ bs) ++ codes ": "

abbrev pub box_text : ElementValue → List ℕ
box_text e = edge_word e.word ++ e.label ++ tags e.marked

abbrev pub text_width : List ℕ → ℕ
text_width text = 16 + 8 * min (length text) 1000

-- ---- elements

-- the colour and the dashes of what a delete goes through, of a leaf that can be read, and of others
unfoldable pub colour : Marked → List ℕ
colour m =
    if m.deletes then codes " stroke=\"#b3261e\" stroke-dasharray=\"7 3\""
    else (if m.is_readable then codes " stroke=\"#1a56c4\"" else codes " stroke=\"#555555\"")

unfoldable pub thickness : Marked → List ℕ
thickness m = if m.is_shown then codes " stroke-width=\"4\"" else codes " stroke-width=\"1\""

abbrev pub stroke : Marked → List ℕ
stroke m = colour m ++ thickness m

unfoldable pub fill : Marked → List ℕ
fill m = if m.is_lost then codes " fill=\"#ffd9d6\"" else (if m.is_readable then codes " fill=\"#dbe8ff\"" else codes " fill=\"#ffffff\"")

-- `r0p0.1`: the route, and the position
unfoldable pub identifier : ElementValue → List ℕ
identifier e = codes "r" ++ decimal e.route ++ codes "p" ++ position_text e.position

-- how many handles are above an element
abbrev pub depth : ElementValue → ℕ
depth e = length e.position

-- from the handle above down, and to the box
abbrev pub edge : ElementValue → (row : ℕ) → List ℕ
edge e row = path_words (decimal (left_of (depth e - 1) + 12)) (decimal (top_of e.above + 26)) (decimal (top_of row + 13)) (decimal (left_of (depth e))) (stroke e.marked)

unfoldable pub edge_of : ElementValue → (row : ℕ) → List ℕ
edge_of e row = if depth e == 0 then [] else edge e row

unfoldable pub box_shape : ElementValue → (row : ℕ) → List ℕ
box_shape e row = rect_words (decimal (left_of (depth e))) (decimal (top_of row)) (decimal (text_width (box_text e))) (fill e.marked) (stroke e.marked)

unfoldable pub caption : ElementValue → (row : ℕ) → List ℕ
caption e row = text_words (decimal (left_of (depth e) + 8)) (decimal (top_of row + 18)) (xml_text (box_text e))

-- a folded element has its place in the text, and no box
abbrev pub inside : ElementValue → Option ℕ → List ℕ
inside e None = []
inside e (Some row) = edge_of e row ++ box_shape e row ++ caption e row

unfoldable pub element_text : ElementValue → List ℕ
element_text e = group_words (identifier e) (inside e e.row)

-- ---- the lines below the trees

-- the line of a number, below the rows
unfoldable pub note : (rows number : ℕ) → List ℕ → List ℕ
note rows number text = text_words (codes "16") (decimal (top_of rows + 20 * at_most number + 18)) (xml_text text)

abbrev pub notes_from : (rows number : ℕ) → List (List ℕ) → List ℕ
notes_from rows number [] = []
notes_from rows number (text ∷ texts) = note rows number text ++ notes_from rows (suc number) texts

-- ---- the whole

-- the right end of a box
abbrev pub right_of : ElementValue → ℕ
right_of e = left_of (depth e) + text_width (box_text e)

abbrev pub widest : List ElementValue → ℕ
widest es = fold (λ width e. max width (right_of e)) 0 es

abbrev pub widest_note : List (List ℕ) → ℕ
widest_note texts = fold (λ width text. max width (16 + text_width text)) 0 texts

-- what comes before the elements
abbrev pub head : List ElementValue → (notes : List (List ℕ)) → List ℕ
head es notes = head_words (decimal (max (widest es) (widest_note notes) + 16)) (decimal (top_of (rows_of es) + 20 * at_most (length notes) + 16))

-- the elements, each in its row, and the notes below them
abbrev pub svg : List ElementValue → (notes : List (List ℕ)) → List ℕ
svg es notes = head es notes ++ flat_map element_text es ++ notes_from (rows_of es) 0 notes ++ codes "</svg>\n"
