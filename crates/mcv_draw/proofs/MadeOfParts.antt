-- What is made of parts that are right is right.
use Rattle.std.proofs.Common.{◌≡◌, ◌∙◌, ℕ, Bool, List, Option, Some, None, Result, Ok, Err, ap}
use Rattle.std.specs.Prelude.{OnOk, if◌then◌else◌}
use Rattle.mcv_route.specs.Tree.{Tree}
use Rattle.mcv_draw.specs.Drawn.{BranchValue, DrawingValue, element}
use Rattle.mcv_draw.specs.Element.{ElementValue}
use Rattle.mcv_draw.specs.Label.{label}
use Rattle.mcv_draw.specs.Marks.{MarksValue, marked}
use Rattle.mcv_draw.specs.declared.marks.Marked.{Marked}

pub on_ok : {T E : Type 0} (r : Result T E) (P : Type 0) → P → OnOk r P
on_ok (Ok x) P holds = holds
on_ok (Err e) P holds = tt

-- ---- marks

abbrev marked_by : (deletes readable shown lost : Bool) → Marked
marked_by deletes readable shown lost = record { deletes = deletes; is_readable = readable; is_shown = shown; is_lost = lost }

pub marked_made : (m : MarksValue) (p : List ℕ) (deletes readable shown lost : Bool) → deletes ≡ m.deletes p → readable ≡ m.readable p → shown ≡ m.shown p → lost ≡ m.lost p
    → marked_by deletes readable shown lost ≡ marked m p
marked_made m p deletes readable shown lost d r s l =
    ap (λ (x : Bool). marked_by x readable shown lost) d ∙ (ap (λ (x : Bool). marked_by (m.deletes p) x shown lost) r
    ∙ (ap (λ (x : Bool). marked_by (m.deletes p) (m.readable p) x lost) s ∙ ap (λ (x : Bool). marked_by (m.deletes p) (m.readable p) (m.shown p) x) l))

-- ---- branches

abbrev hung : (position : List ℕ) → (above : ℕ) → (word : List ℕ) → (is_folded : Bool) → BranchValue
hung position above word is_folded = record { position = position; above = above; word = word; is_folded = is_folded }

pub branch_made : (p q : List ℕ) (row : ℕ) (v w : List ℕ) (f g : Bool) → p ≡ q → v ≡ w → f ≡ g → hung p row v f ≡ hung q row w g
branch_made p q row v w f g position word folded =
    ap (λ (x : List ℕ). hung x row v f) position ∙ (ap (λ (x : List ℕ). hung q row x f) word ∙ ap (λ (x : Bool). hung q row w x) folded)

-- ---- elements

abbrev boxed : DrawingValue → BranchValue → Option ℕ → List ℕ → Marked → ElementValue
boxed d b row said marks = record { route = d.number; position = b.position; row = row; above = b.above; word = b.word; label = said; marked = marks }

pub element_made : (d : DrawingValue) (b : BranchValue) (row : ℕ) (t : Tree) (r : Option ℕ) (l : List ℕ) (m : Marked) → r ≡ (if b.is_folded then None else Some row) → l ≡ label d.servers t
    → m ≡ marked d.marks b.position → boxed d b r l m ≡ element d b row t
element_made d b row t r l m in_row said marks =
    ap (λ (x : Option ℕ). boxed d b x l m) in_row ∙ (ap (λ (x : List ℕ). boxed d b (if b.is_folded then None else Some row) x m) said
    ∙ ap (λ (x : Marked). boxed d b (if b.is_folded then None else Some row) (label d.servers t) x) marks)
