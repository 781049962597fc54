-- What a verdict marks in the tree of a route (own).
use Rattle.std.specs.Prelude.{ℕ, Bool, false, List, Option, Some, None, bytes_eq, nat_eq}
use Rattle.std.specs.List.{list_any, starts_with}
use Rattle.mcv_draw.specs.declared.marks.Marked.{Marked}
use Rattle.mcv_draw.specs.declared.marks.Marks.{Marks}

-- what is marked at each position
pub record MarksValue : Type 0 where
  -- a delete goes through it
  pub deletes : (position : List ℕ) → Bool
  -- it is a leaf from which a get can be answered
  pub readable : (position : List ℕ) → Bool
  -- it is on the way of a finding's get or delete
  pub shown : (position : List ℕ) → Bool
  -- it is the leaf whose server is lost
  pub lost : (position : List ℕ) → Bool

-- one of the legs is at the position or below it
abbrev pub leads_to : (legs : List (List ℕ)) → (position : List ℕ) → Bool
leads_to legs p = list_any (λ leg. starts_with nat_eq leg p) legs

-- one of the legs is at the position
abbrev pub is_one_of : (legs : List (List ℕ)) → (position : List ℕ) → Bool
is_one_of legs p = list_any (λ leg. bytes_eq leg p) legs

abbrev pub is_leaf : Option (List ℕ) → (position : List ℕ) → Bool
is_leaf None p = false
is_leaf (Some leaf) p = bytes_eq leaf p

-- by legs: to which deletes go, from which gets can be answered, and which have outcomes in a finding; and the leaf whose server is lost
abbrev pub marks_by : (deletes readable shown : List (List ℕ)) → (lost : Option (List ℕ)) → MarksValue
marks_by deletes readable shown lost = record { deletes = leads_to deletes; readable = is_one_of readable; shown = leads_to shown; lost = is_leaf lost }

abbrev pub marks_of : Marks → MarksValue
marks_of m = marks_by m.deletes.positions.items m.readable.positions.items m.shown.positions.items m.lost

-- what is marked at a position
abbrev pub marked : MarksValue → (position : List ℕ) → Marked
marked m p = record { deletes = m.deletes p; is_readable = m.readable p; is_shown = m.shown p; is_lost = m.lost p }
