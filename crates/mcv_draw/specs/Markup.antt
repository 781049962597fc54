-- Texts in SVG and in Graphviz's language, in which no configuration can write markup (own).
use Rattle.std.specs.Prelude.{◌≡◌, ℕ, ◌==◌, Bool, true, false, not, ◌&&◌, List, ◌∷◌, [], codes, if◌then◌else◌, nat_le}
use Rattle.std.specs.List.{flat_map, list_all}

-- any other byte than those from 32 to 126 is shown as a question mark
abbrev pub shown_byte : ℕ → ℕ
shown_byte b = if nat_le 32 b && nat_le b 126 then b else 63

-- the five characters that have a meaning in XML (XML 1.0, section 4.6)
abbrev pub xml_byte : ℕ → List ℕ
xml_byte b =
    if b == 38 then codes "&amp;" else
    (if b == 60 then codes "&lt;" else
    (if b == 62 then codes "&gt;" else
    (if b == 34 then codes "&quot;" else
    (if b == 39 then codes "&#39;" else shown_byte b ∷ []))))

abbrev pub xml_text : List ℕ → List ℕ
xml_text bytes = flat_map xml_byte bytes

-- in a text between quotes of Graphviz's language (The DOT Language, quoted strings)
abbrev pub dot_byte : ℕ → List ℕ
dot_byte b = if b == 34 then codes "\\\"" else (if b == 92 then codes "\\\\" else shown_byte b ∷ [])

abbrev pub dot_text : List ℕ → List ℕ
dot_text bytes = flat_map dot_byte bytes

-- ---- laws

-- a byte from 32 to 126 that opens or closes no tag, value or text
abbrev pub is_no_markup : ℕ → Bool
is_no_markup b = nat_le 32 b && nat_le b 126 && not (b == 60) && not (b == 62) && not (b == 34) && not (b == 39)

-- a text that is escaped opens and closes nothing
abbrev pub TextsAreEscaped : Type 0
TextsAreEscaped = (bytes : List ℕ) → list_all is_no_markup (xml_text bytes) ≡ true

-- no quote closes the text, where a backslash takes the next byte along; and no backslash takes along what comes behind the text
abbrev pub stays_open : (takes_along : Bool) → List ℕ → Bool
stays_open true [] = false
stays_open false [] = true
stays_open true (b ∷ bs) = stays_open false bs
stays_open false (b ∷ bs) = if b == 34 then false else stays_open (b == 92) bs

abbrev pub TextsAreQuoted : Type 0
TextsAreQuoted = (bytes : List ℕ) → stays_open false (dot_text bytes) ≡ true
