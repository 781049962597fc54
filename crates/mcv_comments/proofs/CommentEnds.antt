-- Where a comment ends, by a search.
use Rattle.std.proofs.Common.{◌≡◌, ◌≢◌, ℕ, zero, suc, ◌+◌, ◌<◌, ◌≤◌, List, [], ◌∷◌, ◌++◌, length, get_or, take, drop, All, None, Some, true, refl, sym, ap, subst, ◌∙◌, append_assoc, length-append, inl, inr, arith, eq-eqb}
use Rattle.std.proofs.lemmas.Bool.{eqb-true}
use Rattle.std.proofs.lemmas.Bool.Decides.{nat_tests}
use Rattle.std.proofs.lemmas.List.{take-append-drop, get_or-take, get_or-append-add, length-take, drop_more, append-nil}
use Rattle.std.proofs.lemmas.List.Elements.{All-from_get_or}
use Rattle.memchr.specs.Find.{IsFirstByte, is_byte, is_byte2, OccursAt, FindsNeedle}
use Rattle.mcv_comments.specs.Comments.{HasNoEnd, Begins, block, line}
use Rattle.mcv_comments.proofs.Pieces.{IsRunByte}

two_at : (more : List ℕ) (j : ℕ) → j < 2 → get_or (42 ∷ 47 ∷ more) j 0 ≡ get_or (42 ∷ 47 ∷ []) j 0
two_at more zero l = refl
two_at more (suc zero) l = refl
two_at more (suc (suc j)) l = absurd (omega arith)

occurs : (front more : List ℕ) → OccursAt (front ++ 42 ∷ 47 ∷ more) (42 ∷ 47 ∷ []) (length front)
occurs front more = record {
  fits = omega (arith, length-append front (42 ∷ 47 ∷ more));
  reads = λ j l. get_or-append-add front (42 ∷ 47 ∷ more) j 0 ∙ two_at more j l;
}

pub no_end_found : (body : List ℕ) → FindsNeedle body (42 ∷ 47 ∷ []) 0 None → HasNoEnd body
no_end_found body none = λ front more e.
    let len : length body ≡ length front + suc (suc (length more)) = ap length e ∙ length-append front (42 ∷ 47 ∷ more) in
    none (length front) (omega arith) (omega arith) (subst (λ (t : List ℕ). OccursAt t (42 ∷ 47 ∷ []) (length front)) (sym e) (occurs front more))

none_before : (body : List ℕ) (end : ℕ) → FindsNeedle body (42 ∷ 47 ∷ []) 0 (Some end) → HasNoEnd (take end body)
none_before body end found = λ front more e.
    let len : length (take end body) ≡ length front + suc (suc (length more)) = ap length e ∙ length-append front (42 ∷ 47 ∷ more) in
    let whole : body ≡ front ++ 42 ∷ 47 ∷ (more ++ drop end body) =
    sym (take-append-drop end body) ∙ ap (λ t. t ++ drop end body) e ∙ append_assoc front (42 ∷ 47 ∷ more) (drop end body) in
    found.0.before (length front) (omega arith) (omega (arith, length-take end body))
    (subst (λ (t : List ℕ). OccursAt t (42 ∷ 47 ∷ []) (length front)) (sym whole) (occurs front (more ++ drop end body)))

cut_at_end : (body : List ℕ) (end : ℕ) → FindsNeedle body (42 ∷ 47 ∷ []) 0 (Some end) → body ≡ take end body ++ 42 ∷ 47 ∷ drop (end + 2) body
cut_at_end body end found =
    let fits : end + 2 ≤ length body = found.1.fits in
    let star : get_or body end 0 ≡ 42 = ap (λ n. get_or body n 0) (let z : end ≡ end + 0 = omega arith in z) ∙ found.1.reads 0 (omega arith) in
    let slash : get_or body (end + 1) 0 ≡ 47 = found.1.reads 1 (omega arith) in
    let two : end + 1 + 1 ≡ end + 2 = omega arith in
    sym (take-append-drop end body)
    ∙ ap (λ t. take end body ++ t) (drop_more body end 0 (omega arith))
    ∙ ap (λ b. take end body ++ b ∷ drop (end + 1) body) star
    ∙ ap (λ t. take end body ++ 42 ∷ t) (drop_more body (end + 1) 0 (omega arith))
    ∙ ap (λ b. take end body ++ 42 ∷ b ∷ drop (end + 1 + 1) body) slash
    ∙ ap (λ n. take end body ++ 42 ∷ 47 ∷ drop n body) two

-- the block up to the end that was found
pub block_found : (body : List ℕ) (end : ℕ) → FindsNeedle body (42 ∷ 47 ∷ []) 0 (Some end) → Begins (47 ∷ 42 ∷ body) (block (take end body)) (drop (end + 2) body)
block_found body end found = (ap (λ t. 47 ∷ 42 ∷ t) (cut_at_end body end found), none_before body end found)

-- the line up to the LF that was found
pub line_found : (body : List ℕ) (end : ℕ) → IsFirstByte (is_byte 10) body (Some end) → Begins (47 ∷ 47 ∷ body) (line (take end body)) (drop end body)
line_found body end found =
    let within : end < length body = found.0.high in
    let at_end : get_or body end 0 ≡ 10 = eqb-true (get_or body end 0) 10 found.1 in (
      ap (λ t. 47 ∷ 47 ∷ t) (sym (take-append-drop end body)),
      All-from_get_or (λ b. b ≢ 10) (take end body) 0 (λ k l is.
          let low : k < end = omega (arith, length-take end body) in
          found.0.before k (omega arith) low (eq-eqb (get_or body k 0) 10 (sym (get_or-take end body k 0 low) ∙ is))),
      inr (ap (λ t. get_or t 0 0) (drop_more body end 0 within) ∙ at_end),
    )

-- the line up to the end
pub line_all : (body rest : List ℕ) → IsFirstByte (is_byte 10) body None → rest ≡ [] → Begins (47 ∷ 47 ∷ body) (line body) rest
line_all body rest none empty = (
  ap (λ t. 47 ∷ 47 ∷ t) (sym (append-nil body) ∙ ap (λ t. body ++ t) (sym empty)),
  All-from_get_or (λ b. b ≢ 10) body 0 (λ k l is. none k (omega arith) l (eq-eqb (get_or body k 0) 10 is)),
  inl empty,
)

run_byte : (b : ℕ) → (is_byte2 34 47 b ≡ true → ⊥) → IsRunByte b
run_byte b neither = (λ e. neither (grind (arith, nat_tests)), λ e. neither (grind (arith, nat_tests)))

-- no quote and no slash was found
pub run_none : (more : List ℕ) → IsFirstByte (is_byte2 34 47) more None → All IsRunByte more
run_none more none = All-from_get_or IsRunByte more 0 (λ k l. run_byte (get_or more k 0) (λ is. none k (omega arith) l is))

-- the bytes before the first quote or slash
pub run_found : (more : List ℕ) (end : ℕ) → IsFirstByte (is_byte2 34 47) more (Some end) → All IsRunByte (take end more)
run_found more end found = All-from_get_or IsRunByte (take end more) 0 (λ k l.
    let low : k < end = omega (arith, length-take end more) in
    subst IsRunByte (sym (get_or-take end more k 0 low)) (run_byte (get_or more k 0) (λ is. found.0.before k (omega arith) low is)))
