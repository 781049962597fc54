-- Legs in another order mark the same positions.
use Rattle.std.proofs.Common.{◌≡◌, ◌∙◌, ℕ, Bool, List, Option, ap, sym}
use Rattle.std.specs.Prelude.{bytes_eq, nat_eq}
use Rattle.std.specs.List.{starts_with}
use Rattle.std.specs.List.Sorted.{IsPermutation}
use Rattle.std.proofs.Math.Path.{fun_ext}
use Rattle.std.proofs.lemmas.List.Sorted.{list_any-IsPermutation}
use Rattle.mcv_draw.specs.Marks.{MarksValue, is_leaf, is_one_of, leads_to, marks_by}

same_leads : (xs ys : List (List ℕ)) → IsPermutation xs ys → leads_to ys ≡ leads_to xs
same_leads xs ys same = fun_ext (λ (p : List ℕ). sym (list_any-IsPermutation (λ leg. starts_with nat_eq leg p) xs ys same))

same_ones : (xs ys : List (List ℕ)) → IsPermutation xs ys → is_one_of ys ≡ is_one_of xs
same_ones xs ys same = fun_ext (λ (p : List ℕ). sym (list_any-IsPermutation (λ leg. bytes_eq leg p) xs ys same))

-- marks, test by test
abbrev marks_with : (deletes readable shown : List ℕ → Bool) → Option (List ℕ) → MarksValue
marks_with deletes readable shown lost = record { deletes = deletes; readable = readable; shown = shown; lost = is_leaf lost }

pub same_marks : (deletes ds readable rs shown ss : List (List ℕ)) (lost : Option (List ℕ)) → IsPermutation deletes ds → IsPermutation readable rs → IsPermutation shown ss
    → marks_by ds rs ss lost ≡ marks_by deletes readable shown lost
same_marks deletes ds readable rs shown ss lost first second third =
    ap (λ (f : List ℕ → Bool). marks_with f (is_one_of rs) (leads_to ss) lost) (same_leads deletes ds first)
    ∙ (ap (λ (f : List ℕ → Bool). marks_with (leads_to deletes) f (leads_to ss) lost) (same_ones readable rs second)
    ∙ ap (λ (f : List ℕ → Bool). marks_with (leads_to deletes) (is_one_of readable) f lost) (same_leads shown ss third))
