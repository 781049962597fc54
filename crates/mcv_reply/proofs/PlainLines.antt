-- Lines as servers write them.
use Rattle.std.proofs.Common.{◌≡◌, ◌≢◌, ℕ, ◌+◌, ◌-◌, ◌*◌, ◌<◌, ◌≤◌, inr, Bool, true, false, List, [], ◌∷◌, ◌++◌, length, get_or, take, drop, Option, Some, None, refl, sym, ap, subst, ◌∙◌, arith, IfSome}
use Rattle.std.specs.Prelude.{codes}
use Rattle.std.specs.List.{All, Contains}
use Rattle.std.specs.Cmp.Lexicographic.{bytes_decides, pointwise}
use Rattle.std.proofs.Common.{nat_eq}
use Rattle.std.proofs.lemmas.List.{length-take, take-append-drop, take_all, take_more}
use Rattle.memchr.specs.Find.{IsFirstByte, is_byte}
use Rattle.mcv_base.specs.declared.operation.Op.{Op}
use Rattle.mcv_base.specs.declared.operation.Op.TheVariants as ops
use Rattle.mcv_base.specs.Operation.{is_reading}
use Rattle.mcv_reply.specs.declared.word.Word.{Word}
use Rattle.mcv_reply.specs.declared.word.Word.TheVariants.{Value}
use Rattle.mcv_reply.specs.declared.word.Tail.{Tail}
use Rattle.mcv_reply.specs.declared.word.Tail.TheVariants as tails
use Rattle.mcv_reply.specs.declared.word.Row.TheVariants as rows
use Rattle.mcv_reply.specs.declared.candidate.Head.{Head}
use Rattle.mcv_reply.specs.Word.{answers, has_cas, tail_of, word_text}
use Rattle.mcv_reply.specs.declared.line.Meaning.{Meaning}
use Rattle.mcv_reply.specs.Line.{IsBlank, IsDigits, IsLine, Next, Writes, cas_forms, decimal_from, first_form, flags_forms, number, size_forms, tail_forms, word}
use Rattle.mcv_reply.specs.PlainLine.{IsBareWord, SpacedNumber, StartsLine}
use Rattle.mcv_reply.proofs.Steps.{end_cut, end_taken, end_within}

-- a text that bytes begin with is taken off them
pub prefix_parts : (bytes text left : List ℕ) → pointwise nat_eq (take (length text) bytes) text ≡ true → left ≡ drop (length text) bytes → bytes ≡ text ++ left
prefix_parts bytes text left same is = sym (take-append-drop (length text) bytes) ∙ ap (λ t. t ++ drop (length text) bytes) ((bytes_decides (take (length text) bytes) text).0 same) ∙ ap (λ t. text ++ t) (sym is)

pub digits_push : (digits : List ℕ) (b : ℕ) → IsDigits digits → 48 ≤ b → b ≤ 57 → IsDigits (digits ++ b ∷ [])
digits_push [] b are low high = (low, high, tt)
digits_push (d ∷ digits) b are low high = (are.0, are.1, digits_push digits b are.2 low high)

pub decimal_push : (n : ℕ) (digits : List ℕ) (b : ℕ) → decimal_from n (digits ++ b ∷ []) ≡ 10 * decimal_from n digits + (b - 48)
decimal_push n [] b = refl
decimal_push n (d ∷ digits) b = decimal_push (10 * n + (d - 48)) digits b

-- one digit more
pub are_more : (digits : List ℕ) (i : ℕ) → i < length digits → IsDigits (take i digits) → 48 ≤ get_or digits i 0 → get_or digits i 0 ≤ 57 → IsDigits (take (i + 1) digits)
are_more digits i l are low high = subst IsDigits (sym (take_more digits i 0 l)) (digits_push (take i digits) (get_or digits i 0) are low high)

pub value_more : (digits : List ℕ) (i value d next : ℕ) → i < length digits → decimal_from 0 (take i digits) ≡ value → d ≡ get_or digits i 0 - 48 → next ≡ 10 * value + d → decimal_from 0 (take (i + 1) digits) ≡ next
value_more digits i value d next l is d_is next_is =
    ap (decimal_from 0) (take_more digits i 0 l) ∙ decimal_push 0 (take i digits) (get_or digits i 0) ∙ ap (λ v. 10 * v + (get_or digits i 0 - 48)) is ∙ ap (λ e. 10 * value + e) (sym d_is) ∙ sym next_is

-- all digits have been read
pub all_read : (digits : List ℕ) (i n limit : ℕ) → length digits ≤ i → IsDigits (take i digits) → decimal_from 0 (take i digits) ≡ n → n ≤ limit → IsDigits digits × (decimal_from 0 digits ≡ n) × (n ≤ limit)
all_read digits i n limit over are is within =
    let all : take i digits ≡ digits = take_all i digits over in
    (subst IsDigits all are, ap (decimal_from 0) (sym all) ∙ is, within)

pub number_read : (limit n count : ℕ) (bytes digits left : List ℕ) → bytes ≡ 32 ∷ digits → 0 < count → count < length digits → IsDigits (take count digits) × (decimal_from 0 (take count digits) ≡ n) × (n ≤ limit) → left ≡ drop count digits → SpacedNumber limit n bytes left
number_read limit n count bytes digits left parts some within r is = record {
  digits = take count digits;
  parts = parts ∙ ap (λ t. 32 ∷ t) (sym (take-append-drop count digits) ∙ ap (λ t. take count digits ++ t) (sym is));
  is = (λ none. omega (arith, ap length none, length-take count digits), r.0, r.1, r.2);
}

pub number_next : (limit n : ℕ) (Then : List ℕ → Type 0) (bytes left : List ℕ) → SpacedNumber limit n bytes left → Then left → Next (number limit n) 1 Then bytes
number_next limit n Then bytes left s rest = record { gap = 1; written = s.digits; after = left; parts = s.parts; enough = omega arith; is = s.is; rest = rest }

blank_return : (left : List ℕ) → left ≡ 13 ∷ [] → IsBlank left
blank_return left is = subst IsBlank (sym is) (inr (refl, refl))

pub no_number : (cas : Bool) (bytes : List ℕ) → cas ≡ false → bytes ≡ 13 ∷ [] → Writes (cas_forms cas 0) 1 bytes
no_number cas bytes off is = subst (λ (h : Bool). Writes (cas_forms h 0) 1 bytes) (sym off) (blank_return bytes is)

pub last_number : (cas : Bool) (n : ℕ) (bytes left : List ℕ) → cas ≡ true → SpacedNumber 18446744073709551615 n bytes left → left ≡ 13 ∷ [] → Writes (cas_forms cas n) 1 bytes
last_number cas n bytes left on s is = subst (λ (h : Bool). Writes (cas_forms h n) 1 bytes) (sym on) (number_next 18446744073709551615 n (Writes [] 1) bytes left s (blank_return left is))

pub value_written : (cas : Bool) (key line named left : List ℕ) (r : Option Head) → line ≡ codes "VALUE " ++ named → named ≡ key ++ left → IfSome r (λ head. Writes (flags_forms cas head) 1 left)
    → IfSome r (λ head. Writes (word (codes "VALUE") ∷ (word key ∷ flags_forms cas head)) 0 line)
value_written cas key line named left None e f h = h
value_written cas key line named left (Some head) e f h = record {
  gap = 0;
  written = codes "VALUE";
  after = 32 ∷ named;
  parts = e;
  enough = omega arith;
  is = refl;
  rest = record { gap = 1; written = key; after = left; parts = ap (λ t. 32 ∷ t) f; enough = omega arith; is = refl; rest = h };
}

value_may : (op : Op) → is_reading op ≡ true → Contains (answers op) Value
value_may ops.Get is = (1, omega arith, refl)
value_may ops.Gets is = (1, omega arith, refl)
value_may ops.Set is = absurd (cc)
value_may ops.Add is = absurd (cc)
value_may ops.Replace is = absurd (cc)
value_may ops.Append is = absurd (cc)
value_may ops.Prepend is = absurd (cc)
value_may ops.Cas is = absurd (cc)
value_may ops.Delete is = absurd (cc)
value_may ops.Touch is = absurd (cc)
value_may ops.Incr is = absurd (cc)
value_may ops.Decr is = absurd (cc)

pub value_line : (op : Op) (key line : List ℕ) (head : Head) (cas : Bool) → is_reading op ≡ true → cas ≡ has_cas (rows.Reply op) → All (λ b. b ≢ 10) line → length line ≤ 2048
    → Writes (word (codes "VALUE") ∷ (word key ∷ flags_forms cas head)) 0 line → IsLine (rows.Reply op) key Value head line
value_line op key line head cas reads cas_is no_end short writes = record {
  may = value_may op reads;
  writes = subst (λ (c : Bool). Writes (word (codes "VALUE") ∷ (word key ∷ flags_forms c head)) 0 line) cas_is writes;
  no_end = no_end;
  short = short;
}

bare_writes : (tail : Tail) (text line key : List ℕ) (has : Bool) (head : Head) → tail ≡ tails.Nothing → line ≡ text ++ 13 ∷ [] → Writes (first_form tail text head ∷ tail_forms tail has key head) 0 line
bare_writes tails.Nothing text line key has head is e = record { gap = 0; written = text; after = 13 ∷ []; parts = e; enough = omega arith; is = refl; rest = inr (refl, refl) }
bare_writes tails.Text text line key has head is e = absurd (cc)
bare_writes tails.Value text line key has head is e = absurd (cc)
bare_writes tails.Count text line key has head is e = absurd (cc)

pub bare_line : (op : Op) (key line : List ℕ) (first : Word) (head : Head) → All (λ b. b ≢ 10) line → length line ≤ 2048 → IsBareWord op first line → IsLine (rows.Reply op) key first head line
bare_line op key line first head no_end short bare = record {
  may = bare.may;
  writes = bare_writes (tail_of first) (word_text first) line key (has_cas (rows.Reply op)) head bare.tail bare.parts;
  no_end = no_end;
  short = short;
}

-- the piece begins with the line
pub line_starts : (op : Op) (key piece : List ℕ) (end : ℕ) (said : Meaning) → IsFirstByte (is_byte 10) piece (Some end) → IsLine (rows.Reply op) key said.first said.head (take end piece) → StartsLine op key piece end said
line_starts op key piece end said found is = record {
  within = end_within piece end found;
  cut = end_cut piece end found;
  taken = end_taken piece end found;
  line = is;
}

pub numbers_read : (cas : Bool) (flags size n : ℕ) (bytes sized left : List ℕ) → SpacedNumber 4294967295 flags bytes sized → SpacedNumber 1048576 size sized left → Writes (cas_forms cas n) 1 left
    → Writes (flags_forms cas (record { flags = flags; size = size; cas = n; count = 0 })) 1 bytes
numbers_read cas flags size n bytes sized left s t last =
    number_next 4294967295 flags (Writes (size_forms cas (record { flags = flags; size = size; cas = n; count = 0 })) 1) bytes sized s
    (number_next 1048576 size (Writes (cas_forms cas n) 1) sized left t last)
