-- A line's end in a piece.
use Rattle.std.proofs.Common.{◌≡◌, ◌≢◌, ℕ, ◌+◌, ◌<◌, ◌≤◌, List, [], ◌∷◌, ◌++◌, length, get_or, take, drop, refl, sym, ap, subst, ◌∙◌, append_assoc, arith, length-append, inl, inr}
use Rattle.std.specs.List.{All}
use Rattle.std.proofs.lemmas.List.{take-append-drop, length-take, take-append-le, drop_more}
use Rattle.std.proofs.lemmas.List.Elements.{All-append, All-nil, All-take}
use Rattle.mcv_text.specs.Request.{with_body, AskValue, RequestValue, asking, ItemValue, asked, refused}
use Rattle.mcv_text.specs.declared.item.Refusal.TheVariants as refusals
use Rattle.mcv_text.specs.Stream.{Awaits, Held, Failed, IsLine, Begins, by_line, too_long, AfterLine, AfterValue, IsValuePart, stored, no_cr, no_lf}
use Rattle.mcv_text.specs.Reader.{EndsAt}
use Rattle.mcv_text.specs.Line.{LineValue, stores, meaning}

-- the piece, cut at its LF
pub cut_at_end : (piece : List ℕ) (end : ℕ) → EndsAt piece end → piece ≡ take end piece ++ 10 ∷ drop (end + 1) piece
cut_at_end piece end e =
    let within : end < length piece = e.within in
    sym (take-append-drop end piece) ∙ ap (λ t. take end piece ++ t) (drop_more piece end 0 within ∙ ap (λ b. b ∷ drop (end + 1) piece) e.at)

-- a line of which more than 65536 bytes have come
pub too_long_begins : (line front rest : List ℕ) → IsLine line → All (λ b. b ≢ 10) front → 65536 < length line + length front → Begins (line ++ (front ++ rest)) (refused refusals.BadLine) Failed
too_long_begins line front rest is none long =
    let whole : line ++ (front ++ rest) ≡ line ++ front ++ rest = sym (append_assoc line front rest) in
    let fits : 65537 ≤ length (line ++ front) = omega (arith, length-append line front) in
    too_long (omega (arith, ap length whole, length-append (line ++ front) rest))
    (subst (λ (t : List ℕ). All (λ b. b ≢ 10) t) (sym (ap (take 65537) whole ∙ take-append-le 65537 (line ++ front) rest fits))
    (All-take (λ b. b ≢ 10) 65537 (line ++ front) (All-append (λ b. b ≢ 10) line front is.no_end none)))
    refl refl

-- the item of a whole line
pub line_item : (l more : List ℕ) (says : LineValue) (item : ItemValue) (rest : Awaits) → IsLine l → says ≡ meaning l → AfterLine says more item rest → Begins (l ++ 10 ∷ more) item rest
line_item l more says item rest is e after = by_line l more is refl (subst (λ (m : LineValue). AfterLine m more item rest) e after)

pub nil_front : (xs more : List ℕ) → xs ≡ [] → xs ++ more ≡ more
nil_front xs more e = ap (λ (t : List ℕ). t ++ more) e

pub empty_line : (xs : List ℕ) → xs ≡ [] → IsLine xs
empty_line xs e = subst IsLine (sym e) (record { no_end = All-nil (λ b. b ≢ 10); short = omega arith })

-- a list, cut round one element
pub cut_at : (xs : List ℕ) (k : ℕ) → k < length xs → xs ≡ take k xs ++ get_or xs k 0 ∷ drop (k + 1) xs
cut_at xs k l = sym (take-append-drop k xs) ∙ ap (λ t. take k xs ++ t) (drop_more xs k 0 l)

cut_at_more : (xs more : List ℕ) (k : ℕ) → k < length xs → xs ++ more ≡ take k xs ++ get_or xs k 0 ∷ (drop (k + 1) xs ++ more)
cut_at_more xs more k l = ap (λ t. t ++ more) (cut_at xs k l) ∙ append_assoc (take k xs) (get_or xs k 0 ∷ drop (k + 1) xs) more

pub no_cr_at : (fields : AskValue) (n : ℕ) (bytes more : List ℕ) → n < length bytes → get_or bytes n 0 ≢ 13 → AfterValue fields n (bytes ++ more) (refused refusals.BadDataChunk) Failed
no_cr_at fields n bytes more l ne = no_cr (take n bytes) (drop (n + 1) bytes ++ more) (get_or bytes n 0) (omega (arith, length-take n bytes)) ne (cut_at_more bytes more n l)

pub no_lf_at : (fields : AskValue) (n : ℕ) (bytes more : List ℕ) → n + 1 < length bytes → get_or bytes n 0 ≡ 13 → get_or bytes (n + 1) 0 ≢ 10 → AfterValue fields n (bytes ++ more) (refused refusals.BadDataChunk) Failed
no_lf_at fields n bytes more l cr ne =
    let first : n < length bytes = omega arith in
    no_lf (take n bytes) (drop (n + 1 + 1) bytes ++ more) (get_or bytes (n + 1) 0) (omega (arith, length-take n bytes)) ne
    (cut_at_more bytes more n first
    ∙ ap (λ b. take n bytes ++ b ∷ (drop (n + 1) bytes ++ more)) cr
    ∙ ap (λ t. take n bytes ++ 13 ∷ (t ++ more)) (drop_more bytes (n + 1) 0 l))

-- a byte is missing yet
pub part_short : (n : ℕ) (bytes : List ℕ) → IsValuePart n bytes → length bytes < n + 2
part_short n bytes (inl less) = omega arith
part_short n bytes (inr part) = omega (arith, ap length part.2, length-append part.0 (13 ∷ []), part.1)

-- a value, of which another piece comes
module _ (l body piece seen : List ℕ) (used n : ℕ) (fields : AskValue) (is : IsLine l) (means : meaning l ≡ stores fields n) (seen-is : seen ≡ body ++ take used piece) where
  whole_value : body ++ piece ≡ seen ++ drop used piece
  whole_value = ap (λ t. body ++ t) (sym (take-append-drop used piece)) ∙ sym (append_assoc body (take used piece) (drop used piece)) ∙ ap (λ t. t ++ drop used piece) (sym seen-is)

  pub value_goes_on : (body-more : List ℕ) → seen ≡ body-more → (l ++ (10 ∷ body-more)) ++ drop used piece ≡ (l ++ (10 ∷ body)) ++ piece
  value_goes_on body-more e =
      append_assoc l (10 ∷ body-more) (drop used piece)
      ∙ ap (λ (t : List ℕ). l ++ (10 ∷ (t ++ drop used piece))) (sym e)
      ∙ ap (λ (t : List ℕ). l ++ (10 ∷ t)) (sym whole_value)
      ∙ sym (append_assoc l (10 ∷ body) piece)

  value_item : (item : ItemValue) (rest : Awaits) → AfterValue fields n (seen ++ drop used piece) item rest → Begins ((l ++ 10 ∷ body) ++ piece) item rest
  value_item item rest after =
      by_line l (body ++ piece) is (append_assoc l (10 ∷ body) piece)
      (subst (λ (m : LineValue). AfterLine m (body ++ piece) item rest) (sym means)
      (subst (λ (t : List ℕ). AfterValue fields n t item rest) (sym whole_value) after))

  pub wrong_value : ((f : AskValue) (more : List ℕ) → AfterValue f n (seen ++ more) (refused refusals.BadDataChunk) Failed) → Begins ((l ++ 10 ∷ body) ++ piece) (refused refusals.BadDataChunk) Failed
  wrong_value wrong = value_item (refused refusals.BadDataChunk) Failed (wrong fields (drop used piece))

  pub right_value : (value left : List ℕ) (r : RequestValue) → length (take n seen) ≡ n → seen ≡ take n seen ++ 13 ∷ 10 ∷ [] → value ≡ take n seen → left ≡ [] → r ≡ asking (with_body fields value) → Begins ((l ++ 10 ∷ body) ++ piece) (asked r) (Held (left ++ drop used piece))
  right_value value left r len parts value-is none r-is =
      let at = stored (take n seen) (drop used piece) len (ap (λ t. t ++ drop used piece) parts ∙ append_assoc (take n seen) (13 ∷ 10 ∷ []) (drop used piece)) in
      let same : asked (asking (with_body fields (take n seen))) ≡ asked r = ap (λ v. asked (asking (with_body fields v))) (sym value-is) ∙ ap asked (sym r-is) in
      subst (λ (t : List ℕ). Begins ((l ++ 10 ∷ body) ++ piece) (asked r) (Held (t ++ drop used piece))) (sym none)
      (subst (λ (i : ItemValue). Begins ((l ++ 10 ∷ body) ++ piece) i (Held (drop used piece))) same (value_item _ _ at))
