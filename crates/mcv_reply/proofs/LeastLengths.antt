-- How short what may follow can be.
use Rattle.std.proofs.Common.{◌≡◌, ◌≢◌, ℕ, ◌+◌, ◌≤◌, Bool, true, false, List, [], ◌∷◌, ◌++◌, length, drop, refl, ap, arith, length-append}
use Rattle.std.proofs.lemmas.List.{length-replicate}
use Rattle.mcv_reply.specs.declared.word.Word.{Word}
use Rattle.mcv_reply.specs.declared.word.Tail.{Tail}
use Rattle.mcv_reply.specs.declared.word.Tail.TheVariants as tails
use Rattle.mcv_reply.specs.declared.candidate.Head.{Head}
use Rattle.mcv_reply.specs.declared.candidate.Name.{Name}
use Rattle.mcv_reply.specs.declared.candidate.Name.TheVariants.{First, Key}
use Rattle.mcv_reply.specs.declared.candidate.Number.{Number}
use Rattle.mcv_reply.specs.declared.candidate.Number.TheVariants.{Flags, Size, Cas, Count}
use Rattle.mcv_reply.specs.declared.candidate.LinePart.{LinePart}
use Rattle.mcv_reply.specs.declared.candidate.LinePart.TheVariants.{BeforeName, InName, BeforeNumber, InNumber, Blank, Return, Text}
use Rattle.mcv_reply.specs.Word.{tail_of}
use Rattle.mcv_reply.specs.Line.{Form, word, number, text, Next, Writes, cas_forms, tail_forms, spaces}
use Rattle.mcv_reply.specs.Candidate.{Follows, behind_name, behind_number, fewest, limit_of, name_text, needed, number_in, zero_head}

next_length : (form : Form) (least : ℕ) (Then : List ℕ → Type 0) (line : List ℕ) (n : Next form least Then line) → length line ≡ n.gap + (length n.written + length n.after)
next_length form least Then line n = omega (arith, ap length n.parts, length-append (spaces n.gap) (n.written ++ n.after), length-append n.written n.after, length-replicate {A = ℕ} n.gap 32)

some_length : (w : List ℕ) → w ≢ [] → 1 ≤ length w
some_length [] some = absurd (some refl)
some_length (b ∷ w) some = omega arith

pub writes_least : (forms : List Form) (least : ℕ) (line : List ℕ) → Writes forms least line → fewest forms least ≤ length line
writes_least [] least line w = omega arith
writes_least (word bytes ∷ forms) least line n = omega (arith, next_length (word bytes) least (Writes forms 1) line n, n.enough, ap length n.is, writes_least forms 1 n.after n.rest)
writes_least (number limit v ∷ forms) least line n = omega (arith, next_length (number limit v) least (Writes forms 1) line n, n.enough, some_length n.written n.is.0, writes_least forms 1 n.after n.rest)
writes_least (text ∷ forms) least line w = omega arith

pub fewest_cas : (has : Bool) (cas : ℕ) → fewest (cas_forms has cas) 1 ≡ fewest (cas_forms has 0) 1
fewest_cas true cas = refl
fewest_cas false cas = refl

pub fewest_tail : (t : Tail) (has : Bool) (key : List ℕ) (head : Head) → fewest (tail_forms t has key head) 1 ≡ fewest (tail_forms t has key zero_head) 1
fewest_tail tails.Nothing has key head = refl
fewest_tail tails.Text has key head = refl
fewest_tail tails.Value has key head = omega (arith, fewest_cas has head.cas)
fewest_tail tails.Count has key head = refl

pub fewest_name : (name : Name) (first : Word) (has : Bool) (key : List ℕ) (head : Head) → fewest (behind_name name first has key head) 1 ≡ fewest (behind_name name first has key zero_head) 1
fewest_name First first has key head = fewest_tail (tail_of first) has key head
fewest_name Key first has key head = omega (arith, fewest_cas has head.cas)

pub fewest_number : (n : Number) (has : Bool) (head : Head) → fewest (behind_number n has head) 1 ≡ fewest (behind_number n has zero_head) 1
fewest_number Flags has head = omega (arith, fewest_cas has head.cas)
fewest_number Size has head = fewest_cas has head.cas
fewest_number Cas has head = refl
fewest_number Count has head = refl

pub needed_least : (first : Word) (has : Bool) (key : List ℕ) (read : Head) (part : LinePart) (head : Head) (more : List ℕ) → Follows first has key read part head more → needed first has key part ≤ length more
needed_least first has key read (BeforeName name) head more f = omega (arith, writes_least (word (name_text name first key) ∷ behind_name name first has key head) 0 more f, fewest_name name first has key head)
needed_least first has key read (InName name at) head more f = omega (arith, ap length f.parts, length-append (drop at (name_text name first key)) f.after, writes_least (behind_name name first has key head) 1 f.after f.rest, fewest_name name first has key head)
needed_least first has key read (BeforeNumber n) head more f = omega (arith, writes_least (number (limit_of n) (number_in n head) ∷ behind_number n has head) 0 more f.1, fewest_number n has head)
needed_least first has key read (InNumber n value) head more f = omega (arith, ap length f.1.parts, length-append f.1.digits f.1.after, writes_least (behind_number n has head) 1 f.1.after f.1.rest, fewest_number n has head)
needed_least first has key read Blank head more f = omega arith
needed_least first has key read Return head more f = omega arith
needed_least first has key read Text head more f = omega arith
