-- Texts that are escaped open and close nothing.
use Rattle.std.proofs.Common.{◌≡◌, ◌∙◌, ℕ, Bool, true, false, cond, not, ◌&&◌, ◌==◌, List, [], ◌∷◌, ◌++◌, codes, refl, ap}
use Rattle.std.specs.Prelude.{nat_le}
use Rattle.std.specs.List.{list_all}
use Rattle.std.proofs.lemmas.Bool.{and_from}
use Rattle.std.proofs.lemmas.List.Folds.{list_all-append}
use Rattle.mcv_draw.specs.Markup.{TextsAreEscaped, TextsAreQuoted, dot_text, is_no_markup, shown_byte, stays_open, xml_byte, xml_text}

-- ---- XML

-- a byte that none of the five is, as it is shown
plain : (b : ℕ) (low high : Bool) → nat_le 32 b ≡ low → nat_le b 126 ≡ high → (b == 60) ≡ false → (b == 62) ≡ false → (b == 34) ≡ false → (b == 39) ≡ false
    → is_no_markup (cond (low && high) b 63) ≡ true
plain b true true l h less more quote apostrophe =
    let within : (nat_le 32 b && nat_le b 126) ≡ true = and_from (nat_le 32 b) (nat_le b 126) l h in
    let no_less : (nat_le 32 b && nat_le b 126 && not (b == 60)) ≡ true = and_from (nat_le 32 b && nat_le b 126) (not (b == 60)) within (ap not less) in
    let no_more : (nat_le 32 b && nat_le b 126 && not (b == 60) && not (b == 62)) ≡ true = and_from (nat_le 32 b && nat_le b 126 && not (b == 60)) (not (b == 62)) no_less (ap not more) in
    let no_quote : (nat_le 32 b && nat_le b 126 && not (b == 60) && not (b == 62) && not (b == 34)) ≡ true =
    and_from (nat_le 32 b && nat_le b 126 && not (b == 60) && not (b == 62)) (not (b == 34)) no_more (ap not quote) in
    and_from (nat_le 32 b && nat_le b 126 && not (b == 60) && not (b == 62) && not (b == 34)) (not (b == 39)) no_quote (ap not apostrophe)
plain b true false l h less more quote apostrophe = refl
plain b false high l h less more quote apostrophe = refl

one_byte : (b : ℕ) (amp less more quote apostrophe low high : Bool) → (b == 38) ≡ amp → (b == 60) ≡ less → (b == 62) ≡ more → (b == 34) ≡ quote → (b == 39) ≡ apostrophe → nat_le 32 b ≡ low → nat_le b 126 ≡ high
    → list_all is_no_markup (cond amp (codes "&amp;") (cond less (codes "&lt;") (cond more (codes "&gt;") (cond quote (codes "&quot;") (cond apostrophe (codes "&#39;") (cond (low && high) b 63 ∷ [])))))) ≡ true
one_byte b true o c q a low high x1 x2 x3 x4 x5 x6 x7 = refl
one_byte b false true c q a low high x1 x2 x3 x4 x5 x6 x7 = refl
one_byte b false false true q a low high x1 x2 x3 x4 x5 x6 x7 = refl
one_byte b false false false true a low high x1 x2 x3 x4 x5 x6 x7 = refl
one_byte b false false false false true low high x1 x2 x3 x4 x5 x6 x7 = refl
one_byte b false false false false false low high x1 x2 x3 x4 x5 x6 x7 = and_from (is_no_markup (cond (low && high) b 63)) true (plain b low high x6 x7 x2 x3 x4 x5) refl

escaped_byte : (b : ℕ) → list_all is_no_markup (xml_byte b) ≡ true
escaped_byte b = one_byte b (b == 38) (b == 60) (b == 62) (b == 34) (b == 39) (nat_le 32 b) (nat_le b 126) refl refl refl refl refl refl refl

pub texts_are_escaped : TextsAreEscaped
texts_are_escaped [] = refl
texts_are_escaped (b ∷ bs) =
    list_all-append is_no_markup (xml_byte b) (xml_text bs)
    ∙ and_from (list_all is_no_markup (xml_byte b)) (list_all is_no_markup (xml_text bs)) (escaped_byte b) (texts_are_escaped bs)

-- ---- Graphviz

-- a byte that is neither a quote nor a backslash, as it is shown, changes nothing
passed : (b : ℕ) (rest : List ℕ) (low high : Bool) → (b == 34) ≡ false → (b == 92) ≡ false → stays_open false (cond (low && high) b 63 ∷ rest) ≡ stays_open false rest
passed b rest true true no_quote no_backslash = rw (no_quote, no_backslash) refl
passed b rest true false no_quote no_backslash = refl
passed b rest false high no_quote no_backslash = refl

one_quoted : (b : ℕ) (rest : List ℕ) (quote backslash : Bool) → (b == 34) ≡ quote → (b == 92) ≡ backslash
    → stays_open false (cond quote (codes "\\\"") (cond backslash (codes "\\\\") (shown_byte b ∷ [])) ++ rest) ≡ stays_open false rest
one_quoted b rest true backslash is then = refl
one_quoted b rest false true is then = refl
one_quoted b rest false false is then = passed b rest (nat_le 32 b) (nat_le b 126) is then

pub texts_are_quoted : TextsAreQuoted
texts_are_quoted [] = refl
texts_are_quoted (b ∷ bs) = one_quoted b (dot_text bs) (b == 34) (b == 92) refl refl ∙ texts_are_quoted bs
