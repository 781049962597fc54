-- A line has one reading: its first word and its numbers.
use Rattle.std.proofs.Common.{◌≡◌, ℕ, suc, zero, ◌<◌, ◌≤◌, inl, inr, Bool, true, false, ltb, leb, cond, eqb, get_or, List, [], ◌∷◌, ◌++◌, length, refl, sym, ap, subst, ◌∙◌, arith}
use Rattle.std.specs.List.{list_all}
use Rattle.std.proofs.lemmas.Bool.{and_parts, and_from, le-leb, ltb-true, lt-ltb}
use Rattle.mcv_reply.specs.declared.word.Word.{Word}
use Rattle.mcv_reply.specs.declared.word.Word.TheVariants.{End, Value, Stored, NotStored, Exists, NotFound, Deleted, Touched, Count, Error, ClientError, ServerError, Version}
use Rattle.mcv_reply.specs.declared.word.Row.{Row}
use Rattle.mcv_reply.specs.declared.word.Tail.{Tail}
use Rattle.mcv_reply.specs.declared.word.Tail.TheVariants as tails
use Rattle.mcv_reply.specs.declared.candidate.Head.{Head}
use Rattle.mcv_reply.specs.Word.{has_cas, tail_of, word_text}
use Rattle.mcv_reply.specs.Line.{Form, word, number, Next, Writes, IsWritten, IsDigits, IsLine, cas_forms, decimal_from, first_form, flags_forms, size_forms, spaces, tail_forms}
use Rattle.mcv_reply.specs.Candidate.{is_clean}
use Rattle.mcv_reply.proofs.Writing.{Starts, behind_first, number_starts}
use Rattle.mcv_reply.proofs.Words.{word_clean, word_starts}

-- nothing, or no more than a space
abbrev pub Stops : List ℕ → Type 0
Stops [] = Unit {0}
Stops (b ∷ more) = b ≤ 32

pub stops_behind : (forms : List Form) (after : List ℕ) → Writes forms 1 after → Stops after
stops_behind forms [] w = tt
stops_behind forms (b ∷ more) w = elim (behind_first forms b more w) [ inl e ↦ omega arith | inr e ↦ omega arith ]

abbrev pub is_visible : List ℕ → Bool
is_visible bytes = list_all (λ b. ltb 32 b) bytes

-- a word ends where what is visible does
pub word_one : (v w a b : List ℕ) → is_visible v ≡ true → is_visible w ≡ true → Stops a → Stops b → v ++ a ≡ w ++ b → (v ≡ w) × (a ≡ b)
word_one [] [] a b p q s t e = (refl, e)
word_one [] (y ∷ w) [] b p q s t e = absurd (cc)
word_one [] (y ∷ w) (x ∷ a) b p q s t e =
    let same : x ≡ y = cc in
    absurd (omega (arith, ltb-true 32 y (and_parts _ _ q).0))
word_one (x ∷ v) [] a [] p q s t e = absurd (cc)
word_one (x ∷ v) [] a (y ∷ b) p q s t e =
    let same : x ≡ y = cc in
    absurd (omega (arith, ltb-true 32 x (and_parts _ _ p).0))
word_one (x ∷ v) (y ∷ w) a b p q s t e =
    let heads : x ≡ y = cc in
    let tails : v ++ a ≡ w ++ b = cc in
    let rest = word_one v w a b (and_parts _ _ p).1 (and_parts _ _ q).1 s t tails in
    (cc (heads, rest.0), rest.1)

-- spaces end at the same first other byte
spaces_one : (k n : ℕ) (x y : List ℕ) → ((h : ℕ) × (t : List ℕ) × (x ≡ h ∷ t) × (32 < h)) → ((h : ℕ) × (t : List ℕ) × (y ≡ h ∷ t) × (32 < h)) → spaces k ++ x ≡ spaces n ++ y → x ≡ y
spaces_one zero zero x y ax ay e = e
spaces_one zero (suc n) x y ax ay e =
    let both : ax.0 ∷ ax.1 ≡ 32 ∷ (spaces n ++ y) = sym ax.2 ∙ e in
    let same : ax.0 ≡ 32 = cc in
    absurd (omega (arith, ax.3))
spaces_one (suc k) zero x y ax ay e =
    let both : 32 ∷ (spaces k ++ x) ≡ ay.0 ∷ ay.1 = e ∙ ay.2 in
    let same : ay.0 ≡ 32 = cc in
    absurd (omega (arith, ay.3))
spaces_one (suc k) (suc n) x y ax ay e =
    let both : 32 ∷ (spaces k ++ x) ≡ 32 ∷ (spaces n ++ y) = e in
    let tails : spaces k ++ x ≡ spaces n ++ y = cc in
    spaces_one k n x y ax ay tails

starts_with : (w after : List ℕ) → ((h : ℕ) × (t : List ℕ) × (w ≡ h ∷ t) × (32 < h)) → (h : ℕ) × (t : List ℕ) × (w ++ after ≡ h ∷ t) × (32 < h)
starts_with w after s = (s.0, s.1 ++ after, ap (λ t. t ++ after) s.2, s.3)

-- what is written for a form can be distinguished from spaces
abbrev pub Visible : Form → Type 0
Visible form = (w : List ℕ) → IsWritten form w → is_visible w ≡ true

digits_visible : (w : List ℕ) → IsDigits w → is_visible w ≡ true
digits_visible [] d = refl
digits_visible (b ∷ w) d = and_from _ _ (lt-ltb 32 b (omega (arith, d.0))) (digits_visible w d.2)

pub number_visible : (limit n : ℕ) → Visible (number limit n)
number_visible limit n w is = digits_visible w is.1

pub word_visible : (bytes : List ℕ) → is_clean bytes ≡ true → Visible (word bytes)
word_visible bytes clean w is = subst (λ (t : List ℕ). is_visible t ≡ true) (sym is) (and_parts _ _ clean).1

-- the same is written, and the same comes behind it
pub next_one : (f g : Form) (l m : ℕ) (fs gs : List Form) (line other : List ℕ) → Starts f → Starts g → Visible f → Visible g → line ≡ other → (x : Next f l (Writes fs 1) line) → (y : Next g m (Writes gs 1) other) → (x.written ≡ y.written) × (x.after ≡ y.after)
next_one f g l m fs gs line other sf sg vf vg e x y =
    let both : spaces x.gap ++ (x.written ++ x.after) ≡ spaces y.gap ++ (y.written ++ y.after) = sym x.parts ∙ e ∙ y.parts in
    let rest = spaces_one x.gap y.gap (x.written ++ x.after) (y.written ++ y.after) (starts_with x.written x.after (sf x.written x.is)) (starts_with y.written y.after (sg y.written y.is)) both in
    word_one x.written y.written x.after y.after (vf x.written x.is) (vg y.written y.is) (stops_behind fs x.after x.rest) (stops_behind gs y.after y.rest) rest

pub number_one : (limit n v : ℕ) (fs gs : List Form) (line other : List ℕ) → line ≡ other → Next (number limit n) 1 (Writes fs 1) line → Next (number limit v) 1 (Writes gs 1) other → n ≡ v
number_one limit n v fs gs line other e x y =
    let same = next_one (number limit n) (number limit v) 1 1 fs gs line other (number_starts limit n) (number_starts limit v) (number_visible limit n) (number_visible limit v) e x y in
    sym x.is.2 ∙ ap (decimal_from 0) same.0 ∙ y.is.2

cas_one : (has : Bool) (n v : ℕ) (line other : List ℕ) → line ≡ other → Writes (cas_forms has n) 1 line → Writes (cas_forms has v) 1 other → has ≡ true → n ≡ v
cas_one true n v line other e x y is = number_one 18446744073709551615 n v [] [] line other e x y
cas_one false n v line other e x y is = absurd (cc)

-- the word that a text is, or that it is a number
abbrev named_word : List ℕ → Word
named_word bytes = cond (eqb (length bytes) 3) End (cond (eqb (length bytes) 10) NotStored (cond (eqb (length bytes) 9) NotFound (cond (eqb (length bytes) 5) (cond (eqb (get_or bytes 1 0) 65) Value Error) (cond (eqb (length bytes) 6) (cond (eqb (get_or bytes 1 0) 84) Stored Exists) (cond (eqb (length bytes) 12) (cond (eqb (get_or bytes 1 0) 76) ClientError ServerError) (cond (eqb (get_or bytes 1 0) 79) Touched (cond (eqb (get_or bytes 0 0) 68) Deleted Version)))))))

abbrev named : List ℕ → Word
named bytes = cond (leb (get_or bytes 0 0) 57) Count (named_word bytes)

named_text : (first : Word) → named (word_text first) ≡ first
named_text End = refl
named_text Value = refl
named_text Stored = refl
named_text NotStored = refl
named_text Exists = refl
named_text NotFound = refl
named_text Deleted = refl
named_text Touched = refl
named_text Count = refl
named_text Error = refl
named_text ClientError = refl
named_text ServerError = refl
named_text Version = refl

-- what a line begins with
first_starts : (t : Tail) (bytes : List ℕ) (head : Head) → is_clean bytes ≡ true → Starts (first_form t bytes head)
first_starts tails.Nothing bytes head clean = word_starts bytes clean
first_starts tails.Text bytes head clean = word_starts bytes clean
first_starts tails.Value bytes head clean = word_starts bytes clean
first_starts tails.Count bytes head clean = number_starts 18446744073709551615 head.count

first_visible : (t : Tail) (bytes : List ℕ) (head : Head) → is_clean bytes ≡ true → Visible (first_form t bytes head)
first_visible tails.Nothing bytes head clean = word_visible bytes clean
first_visible tails.Text bytes head clean = word_visible bytes clean
first_visible tails.Value bytes head clean = word_visible bytes clean
first_visible tails.Count bytes head clean = number_visible 18446744073709551615 head.count

first_next : (t : Tail) (bytes : List ℕ) (head : Head) (forms : List Form) (line : List ℕ) → Writes (first_form t bytes head ∷ forms) 0 line → Next (first_form t bytes head) 0 (Writes forms 1) line
first_next tails.Nothing bytes head forms line w = w
first_next tails.Text bytes head forms line w = w
first_next tails.Value bytes head forms line w = w
first_next tails.Count bytes head forms line w = w

named_number : (n : ℕ) (written : List ℕ) → IsWritten (number 18446744073709551615 n) written → named written ≡ Count
named_number n [] is = absurd (is.0 refl)
named_number n (b ∷ more) is = let low : leb b 57 ≡ true = le-leb b 57 (omega (arith, is.1.1)) in ap (λ t. cond t Count (named_word (b ∷ more))) low

named_first : (first : Word) (head : Head) (written : List ℕ) → IsWritten (first_form (tail_of first) (word_text first) head) written → named written ≡ first
named_first End head written is = ap named is
named_first Value head written is = ap named is
named_first Stored head written is = ap named is
named_first NotStored head written is = ap named is
named_first Exists head written is = ap named is
named_first NotFound head written is = ap named is
named_first Deleted head written is = ap named is
named_first Touched head written is = ap named is
named_first Count head written is = named_number head.count written is
named_first Error head written is = ap named is
named_first ClientError head written is = ap named is
named_first ServerError head written is = ap named is
named_first Version head written is = ap named is

pub first_one : (row other_row : Row) (key : List ℕ) (v w : Word) (h g : Head) (line : List ℕ) → IsLine row key v h line → IsLine other_row key w g line → v ≡ w
first_one row other_row key v w h g line x y =
    let f = first_form (tail_of v) (word_text v) h in
    let k = first_form (tail_of w) (word_text w) g in
    let fs = tail_forms (tail_of v) (has_cas row) key h in
    let ks = tail_forms (tail_of w) (has_cas other_row) key g in
    let a = first_next (tail_of v) (word_text v) h fs line x.writes in
    let b = first_next (tail_of w) (word_text w) g ks line y.writes in
    let same = next_one f k 0 0 fs ks line line (first_starts (tail_of v) (word_text v) h (word_clean v)) (first_starts (tail_of w) (word_text w) g (word_clean w)) (first_visible (tail_of v) (word_text v) h (word_clean v)) (first_visible (tail_of w) (word_text w) g (word_clean w)) refl a b in
    sym (named_first v h a.written a.is) ∙ ap named same.0 ∙ named_first w g b.written b.is

-- a line that is a number is one number
pub count_one : (row other_row : Row) (key : List ℕ) (h g : Head) (line : List ℕ) → IsLine row key Count h line → IsLine other_row key Count g line → h.count ≡ g.count
count_one row other_row key h g line x y =
    let limit : ℕ = 18446744073709551615 in
    let a = x.writes in
    let b = y.writes in
    let same = next_one (number limit h.count) (number limit g.count) 0 0 [] [] line line (number_starts limit h.count) (number_starts limit g.count) (number_visible limit h.count) (number_visible limit g.count) refl a b in
    sym a.is.2 ∙ ap (decimal_from 0) same.0 ∙ b.is.2

module _ (row : Row) (key : List ℕ) (clean : is_clean key ≡ true) (h g : Head) (line : List ℕ) where
  pub value_one : IsLine row key Value h line → IsLine row key Value g line → (h.flags ≡ g.flags) × (h.size ≡ g.size) × (has_cas row ≡ true → h.cas ≡ g.cas)
  value_one x y =
      let has = has_cas row in
      let a = x.writes in
      let b = y.writes in
      let first = next_one (word (word_text Value)) (word (word_text Value)) 0 0 (word key ∷ flags_forms has h) (word key ∷ flags_forms has g) line line (word_starts (word_text Value) refl) (word_starts (word_text Value) refl) (word_visible (word_text Value) refl) (word_visible (word_text Value) refl) refl a b in
      let a2 = a.rest in
      let b2 = b.rest in
      let keys = next_one (word key) (word key) 1 1 (flags_forms has h) (flags_forms has g) a.after b.after (word_starts key clean) (word_starts key clean) (word_visible key clean) (word_visible key clean) first.1 a2 b2 in
      let a3 = a2.rest in
      let b3 = b2.rest in
      let flags = next_one (number 4294967295 h.flags) (number 4294967295 g.flags) 1 1 (size_forms has h) (size_forms has g) a2.after b2.after (number_starts 4294967295 h.flags) (number_starts 4294967295 g.flags) (number_visible 4294967295 h.flags) (number_visible 4294967295 g.flags) keys.1 a3 b3 in
      let a4 = a3.rest in
      let b4 = b3.rest in
      let size = next_one (number 1048576 h.size) (number 1048576 g.size) 1 1 (cas_forms has h.cas) (cas_forms has g.cas) a3.after b3.after (number_starts 1048576 h.size) (number_starts 1048576 g.size) (number_visible 1048576 h.size) (number_visible 1048576 g.size) flags.1 a4 b4 in
      (sym a3.is.2 ∙ ap (decimal_from 0) flags.0 ∙ b3.is.2, sym a4.is.2 ∙ ap (decimal_from 0) size.0 ∙ b4.is.2, λ is. cas_one has h.cas g.cas a4.after b4.after size.1 a4.rest b4.rest is)
