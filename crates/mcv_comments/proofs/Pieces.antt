-- The pieces at the front of a text, and what is kept of them.
use Rattle.std.proofs.Common.{◌≡◌, ◌≢◌, ℕ, suc, ◌+◌, ◌<◌, List, [], ◌∷◌, ◌++◌, ◌-◌, length, get_or, take, drop, All, refl, sym, ap, subst, ◌∙◌, append-nil, arith}
use Rattle.std.specs.List.{flat_map}
use Rattle.std.proofs.lemmas.List.{take_more, drop_more, drop_all, take_all, take-append-drop, length-drop}
use Rattle.std.proofs.lemmas.List.Elements.{All-head, All-tail}
use Rattle.std.proofs.lemmas.Grind.{flat_map-append}
use Rattle.mcv_comments.specs.Comments.{Piece, plain, quoted, unended, block, line, remains, IsInside, HasNoQuote, Begins, Reads, StripsTo}

pub strips_none : (text : List ℕ) → StripsTo text text []
strips_none text = ([], refl, refl)

pub one_piece : (text rest out : List ℕ) (p : Piece) → Begins text p rest → out ≡ remains p → StripsTo text rest out
one_piece text rest out p begins e = (p ∷ [], (rest, begins, refl), e ∙ sym (append-nil (remains p)))

reads_on : (ps qs : List Piece) (text mid rest : List ℕ) → Reads text ps mid → Reads mid qs rest → Reads text (ps ++ qs) rest
reads_on [] qs text mid rest a b = subst (λ (t : List ℕ). Reads t qs rest) (sym a) b
reads_on (p ∷ ps) qs text mid rest a b = (a.0, a.1, reads_on ps qs a.0 mid rest a.2 b)

-- one front and what comes behind it
pub strips_on : (text mid rest out more : List ℕ) → StripsTo text mid out → StripsTo mid rest more → StripsTo text rest (out ++ more)
strips_on text mid rest out more a b = (
  a.0 ++ b.0,
  reads_on a.0 b.0 text mid rest a.1 b.1,
  ap (λ t. t ++ more) a.2 ∙ ap (λ t. flat_map remains a.0 ++ t) b.2 ∙ sym (flat_map-append remains a.0 b.0),
)

-- what is kept of one more front is pushed
pub strips_push : (text mid rest out more pushed : List ℕ) → StripsTo text mid out → StripsTo mid rest more → pushed ≡ out ++ more → StripsTo text rest pushed
strips_push text mid rest out more pushed a b e = subst (λ (t : List ℕ). StripsTo text rest t) (sym e) (strips_on text mid rest out more a b)

abbrev pub IsRunByte : ℕ → Type 0
IsRunByte b = (b ≢ 34) × (b ≢ 47)

run_strips : (run rest : List ℕ) → All IsRunByte run → StripsTo (run ++ rest) rest run
run_strips [] rest all = ([], refl, refl)
run_strips (b ∷ run) rest all =
    let here = All-head IsRunByte b run all in
    let later = run_strips run rest (All-tail IsRunByte b run all) in
    (plain b ∷ later.0, (run ++ rest, (refl, here.0, λ slash. absurd (here.1 slash)), later.1), ap (λ t. b ∷ t) later.2)

first_run : (b : ℕ) (more run rest : List ℕ) → more ≡ run ++ rest → b ≢ 34 → (b ≡ 47 → (get_or more 0 0 ≢ 42) × (get_or more 0 0 ≢ 47)) → All IsRunByte run → StripsTo (b ∷ more) rest (b ∷ run)
first_run b more run rest e no_quote no_comment all =
    let later = run_strips run rest all in
    (plain b ∷ later.0, (more, (refl, no_quote, no_comment), subst (λ (t : List ℕ). Reads t later.0 rest) (sym e) later.1), ap (λ t. b ∷ t) later.2)

-- a first plain byte, and those up to the next quote or slash
pub run_front : (text : List ℕ) (end : ℕ) → 0 < length text → get_or text 0 0 ≢ 34 → (get_or text 0 0 ≡ 47 → (get_or text 1 0 ≢ 42) × (get_or text 1 0 ≢ 47)) → All IsRunByte (take end (drop 1 text)) → StripsTo text (drop (end + 1) text) (take (end + 1) text)
run_front [] end some no_quote no_comment all = absurd (omega arith)
run_front (b ∷ more) end some no_quote no_comment all =
    let step : suc end ≡ end + 1 = omega arith in
    subst (λ (n : ℕ). StripsTo (b ∷ more) (drop n (b ∷ more)) (take n (b ∷ more))) step
    (first_run b more (take end more) (drop end more) (sym (take-append-drop end more)) no_quote no_comment all)

pub run_all : (text : List ℕ) → 0 < length text → get_or text 0 0 ≢ 34 → (get_or text 0 0 ≡ 47 → (get_or text 1 0 ≢ 42) × (get_or text 1 0 ≢ 47)) → All IsRunByte (drop 1 text) → StripsTo text (drop (length text) text) (take (length text) text)
run_all [] some no_quote no_comment all = absurd (omega arith)
run_all (b ∷ more) some no_quote no_comment all =
    first_run b more (take (length more) more) (drop (length more) more) (sym (take-append-drop (length more) more)) no_quote no_comment
    (subst (All IsRunByte) (sym (take_all (length more) more (omega arith))) all)

cons_both : (b c : ℕ) (xs ys : List ℕ) → b ≡ c → xs ≡ ys → b ∷ xs ≡ c ∷ ys
cons_both b c xs ys p q = ap (λ t. t ∷ xs) p ∙ ap (λ t. c ∷ t) q

quoted_front : (b : ℕ) (more : List ℕ) (end : ℕ) → b ≡ 34 → end < length more → get_or more end 0 ≡ 34 → IsInside (take end more) → StripsTo (b ∷ more) (drop (end + 1) more) (b ∷ take (end + 1) more)
quoted_front b more end first within last is =
    let cut : more ≡ take end more ++ 34 ∷ drop (end + 1) more =
    sym (take-append-drop end more)
    ∙ ap (λ t. take end more ++ t) (drop_more more end 0 within)
    ∙ ap (λ q. take end more ++ q ∷ drop (end + 1) more) last in
    let whole : take (end + 1) more ≡ take end more ++ 34 ∷ [] = take_more more end 0 within ∙ ap (λ q. take end more ++ q ∷ []) last in
    one_piece (b ∷ more) (drop (end + 1) more) (b ∷ take (end + 1) more) (quoted (take end more))
    (cons_both b 34 more (take end more ++ 34 ∷ drop (end + 1) more) first cut, is)
    (cons_both b 34 (take (end + 1) more) (take end more ++ 34 ∷ []) first whole)

-- a text with both quotes
pub text_front : (text : List ℕ) (end : ℕ) → get_or text 0 0 ≡ 34 → end < length (drop 1 text) → get_or (drop 1 text) end 0 ≡ 34 → IsInside (take end (drop 1 text)) → StripsTo text (drop (end + 2) text) (take (end + 2) text)
text_front [] end first within last is = absurd (omega arith)
text_front (b ∷ more) end first within last is =
    let step : suc (end + 1) ≡ end + 2 = omega arith in
    subst (λ (n : ℕ). StripsTo (b ∷ more) (drop n (b ∷ more)) (take n (b ∷ more))) step
    (quoted_front b more end first within last is)

-- a text that never ends
pub text_all : (text : List ℕ) → get_or text 0 0 ≡ 34 → HasNoQuote (drop 1 text) → StripsTo text (drop (length text) text) (take (length text) text)
text_all [] first never = absurd (omega (arith, first))
text_all (b ∷ more) first never =
    let none : drop (length more) more ≡ [] = drop_all (length more) more (omega arith) in
    let all : take (length more) more ≡ more = take_all (length more) more (omega arith) in
    one_piece (b ∷ more) (drop (length more) more) (b ∷ take (length more) more) (unended more)
    (cons_both b 34 more more first refl, never, none)
    (cons_both b 34 (take (length more) more) more first all)

-- what is borrowed of a list from a place on
pub rest_of : (xs : List ℕ) (n : ℕ) → take (length xs - n) (drop n xs) ≡ drop n xs
rest_of xs n = take_all (length xs - n) (drop n xs) (omega (arith, length-drop n xs))

-- two known bytes and what comes behind them
pub two_front : (text : List ℕ) (a b : ℕ) → get_or text 0 0 ≡ a → get_or text 1 0 ≡ b → 0 < b → text ≡ a ∷ b ∷ drop 2 text
two_front [] a b first second some = absurd (omega (arith, second))
two_front (x ∷ []) a b first second some = absurd (omega (arith, second))
two_front (x ∷ y ∷ more) a b first second some = cons_both x a (y ∷ more) (b ∷ more) first (ap (λ t. t ∷ more) second)

-- a block becomes a space
pub block_front : (text body rest : List ℕ) → text ≡ 47 ∷ 42 ∷ body → (comment : List ℕ) × Begins (47 ∷ 42 ∷ body) (block comment) rest → StripsTo text rest (32 ∷ [])
block_front text body rest e found =
    one_piece text rest (32 ∷ []) (block found.0) (subst (λ (t : List ℕ). Begins t (block found.0) rest) (sym e) found.1) refl

-- a line becomes nothing
pub line_front : (text body rest : List ℕ) → text ≡ 47 ∷ 47 ∷ body → (comment : List ℕ) × Begins (47 ∷ 47 ∷ body) (line comment) rest → StripsTo text rest []
line_front text body rest e found =
    one_piece text rest [] (line found.0) (subst (λ (t : List ℕ). Begins t (line found.0) rest) (sym e) found.1) refl
