-- A candidate that is left can always be completed.
use Rattle.std.proofs.Common.{◌≡◌, ◌≢◌, ℕ, suc, zero, ◌<◌, ◌≤◌, Bool, true, false, ltb, List, [], ◌∷◌, ◌++◌, length, drop, refl, sym, ◌∙◌, arith, length-append}
use Rattle.std.specs.List.{All, list_all}
use Rattle.std.proofs.lemmas.Bool.{and_parts, ltb-true}
use Rattle.std.proofs.lemmas.List.Elements.{All-nil, All-cons, All-append, All-drop}
use Rattle.std.proofs.lemmas.List.{length-replicate}
use Rattle.mcv_reply.specs.declared.word.Word.{Word}
use Rattle.mcv_reply.specs.declared.word.Tail.{Tail}
use Rattle.mcv_reply.specs.declared.word.Tail.TheVariants as tails
use Rattle.mcv_reply.specs.declared.candidate.Head.{Head}
use Rattle.mcv_reply.specs.declared.candidate.Name.{Name}
use Rattle.mcv_reply.specs.declared.candidate.Name.TheVariants.{First, Key}
use Rattle.mcv_reply.specs.declared.candidate.Number.{Number}
use Rattle.mcv_reply.specs.declared.candidate.Number.TheVariants.{Flags, Size, Cas, Count}
use Rattle.mcv_reply.specs.declared.candidate.LinePart.{LinePart}
use Rattle.mcv_reply.specs.declared.candidate.LinePart.TheVariants.{BeforeName, InName, BeforeNumber, InNumber, Blank, Return, Text}
use Rattle.mcv_reply.specs.declared.candidate.Candidate.{Candidate}
use Rattle.mcv_reply.specs.Word.{tail_of}
use Rattle.mcv_reply.specs.Line.{Form, word, number, text, Writes, cas_forms, size_forms, tail_forms, spaces}
use Rattle.mcv_reply.specs.Candidate.{Follows, IsValid, IsValidAt, Open, behind_name, fewest, is_clean, limit_of, name_text, needed, zero_head}
use Rattle.mcv_reply.proofs.Ending.{all_read}
use Rattle.mcv_reply.proofs.Words.{name_clean}

-- the words are visible and the numbers 0
abbrev pub IsPlain : List Form → Type 0
IsPlain [] = Unit {0}
IsPlain (word bytes ∷ forms) = (is_clean bytes ≡ true) × IsPlain forms
IsPlain (number limit n ∷ forms) = (n ≡ 0) × IsPlain forms
IsPlain (text ∷ forms) = Unit {0}

visible_ends : (bytes : List ℕ) → list_all (λ b. ltb 32 b) bytes ≡ true → All (λ b. b ≢ 10) bytes
visible_ends [] v = All-nil (λ b. b ≢ 10)
visible_ends (b ∷ bytes) v =
    let parts = and_parts _ _ v in
    let high : 32 < b = ltb-true 32 b parts.0 in
    All-cons (λ b. b ≢ 10) b bytes (λ e. omega arith) (visible_ends bytes parts.1)

pub clean_ends : (bytes : List ℕ) → is_clean bytes ≡ true → All (λ b. b ≢ 10) bytes
clean_ends bytes clean = visible_ends bytes (and_parts _ _ clean).1

spaces_ends : (n : ℕ) → All (λ b. b ≢ 10) (spaces n)
spaces_ends zero = All-nil (λ b. b ≢ 10)
spaces_ends (suc n) = All-cons (λ b. b ≢ 10) 32 (spaces n) (λ e. omega arith) (spaces_ends n)

-- a shortest text
pub record Shortest (forms : List Form) (least : ℕ) : Type 0 where
  pub more : List ℕ
  pub writes : Writes forms least more
  pub len : length more ≡ fewest forms least
  pub no_end : All (λ b. b ≢ 10) more

pub shortest : (forms : List Form) (least : ℕ) → IsPlain forms → Shortest forms least
shortest [] least p = record { more = []; writes = tt; len = refl; no_end = All-nil (λ b. b ≢ 10) }
shortest (word bytes ∷ forms) least p =
    let rest = shortest forms 1 p.1 in
    record {
      more = spaces least ++ (bytes ++ rest.more);
      writes = record { gap = least; written = bytes; after = rest.more; parts = refl; enough = omega arith; is = refl; rest = rest.writes };
      len = omega (arith, length-append (spaces least) (bytes ++ rest.more), length-append bytes rest.more, length-replicate {A = ℕ} least 32, rest.len);
      no_end = All-append (λ b. b ≢ 10) (spaces least) (bytes ++ rest.more) (spaces_ends least) (All-append (λ b. b ≢ 10) bytes rest.more (clean_ends bytes p.0) rest.no_end);
    }
shortest (number limit n ∷ forms) least p =
    let rest = shortest forms 1 p.1 in
    record {
      more = spaces least ++ (48 ∷ rest.more);
      writes = record { gap = least; written = 48 ∷ []; after = rest.more; parts = refl; enough = omega arith; is = ((λ e. absurd (cc)), (omega arith, omega arith, tt), sym p.0, omega arith); rest = rest.writes };
      len = omega (arith, length-append (spaces least) (48 ∷ rest.more), length-replicate {A = ℕ} least 32, rest.len);
      no_end = All-append (λ b. b ≢ 10) (spaces least) (48 ∷ rest.more) (spaces_ends least) (All-cons (λ b. b ≢ 10) 48 rest.more (λ e. omega arith) rest.no_end);
    }
shortest (text ∷ forms) least p = record { more = []; writes = tt; len = refl; no_end = All-nil (λ b. b ≢ 10) }

plain_cas : (has : Bool) → IsPlain (cas_forms has 0)
plain_cas true = (refl, tt)
plain_cas false = tt

plain_tail : (t : Tail) (has : Bool) (key : List ℕ) → is_clean key ≡ true → IsPlain (tail_forms t has key zero_head)
plain_tail tails.Nothing has key clean = tt
plain_tail tails.Text has key clean = tt
plain_tail tails.Value has key clean = (clean, (refl, (refl, plain_cas has)))
plain_tail tails.Count has key clean = tt

plain_name : (name : Name) (first : Word) (has : Bool) (key : List ℕ) → is_clean key ≡ true → IsPlain (behind_name name first has key zero_head)
plain_name First first has key clean = plain_tail (tail_of first) has key clean
plain_name Key first has key clean = (refl, (refl, plain_cas has))

-- the head that has been read, with this number and zeros behind it
abbrev head_at : Number → Head → ℕ → Head
head_at Flags read n = record { flags = n; size = 0; cas = 0; count = 0 }
head_at Size read n = record { flags = read.flags; size = n; cas = 0; count = 0 }
head_at Cas read n = record { flags = read.flags; size = read.size; cas = n; count = 0 }
head_at Count read n = record { flags = 0; size = 0; cas = 0; count = n }

-- what may follow, and no more than must
pub record Completes (first : Word) (has : Bool) (key : List ℕ) (read : Head) (part : LinePart) : Type 0 where
  pub head : Head
  pub more : List ℕ
  pub follows : Follows first has key read part head more
  pub len : length more ≡ needed first has key part
  pub no_end : All (λ b. b ≢ 10) more

before_number : (first : Word) (has : Bool) (key : List ℕ) (read : Head) (n : Number) → Completes first has key read (BeforeNumber n)
before_number first has key read Flags = let s = shortest (number 4294967295 0 ∷ size_forms has zero_head) 0 (refl, (refl, plain_cas has)) in record { head = head_at Flags read 0; more = s.more; follows = (tt, s.writes); len = s.len ∙ omega arith; no_end = s.no_end }
before_number first has key read Size = let s = shortest (number 1048576 0 ∷ cas_forms has 0) 0 (refl, plain_cas has) in record { head = head_at Size read 0; more = s.more; follows = (refl, s.writes); len = s.len ∙ omega arith; no_end = s.no_end }
before_number first has key read Cas = let s = shortest (number 18446744073709551615 0 ∷ []) 0 (refl, tt) in record { head = head_at Cas read 0; more = s.more; follows = ((refl, refl), s.writes); len = s.len ∙ omega arith; no_end = s.no_end }
before_number first has key read Count = let s = shortest (number 18446744073709551615 0 ∷ []) 0 (refl, tt) in record { head = head_at Count read 0; more = s.more; follows = (tt, s.writes); len = s.len ∙ omega arith; no_end = s.no_end }

in_number : (first : Word) (has : Bool) (key : List ℕ) (read : Head) (n : Number) (value : ℕ) → value ≤ limit_of n → Completes first has key read (InNumber n value)
in_number first has key read Flags value l = let s = shortest (size_forms has zero_head) 1 (refl, plain_cas has) in record { head = head_at Flags read value; more = s.more; follows = (tt, record { digits = []; after = s.more; parts = refl; are = tt; value_is = refl; within = l; rest = s.writes }); len = s.len; no_end = s.no_end }
in_number first has key read Size value l = let s = shortest (cas_forms has 0) 1 (plain_cas has) in record { head = head_at Size read value; more = s.more; follows = (refl, record { digits = []; after = s.more; parts = refl; are = tt; value_is = refl; within = l; rest = s.writes }); len = s.len; no_end = s.no_end }
in_number first has key read Cas value l = record { head = head_at Cas read value; more = []; follows = ((refl, refl), record { digits = []; after = []; parts = refl; are = tt; value_is = refl; within = l; rest = tt }); len = refl; no_end = All-nil (λ b. b ≢ 10) }
in_number first has key read Count value l = record { head = head_at Count read value; more = []; follows = (tt, record { digits = []; after = []; parts = refl; are = tt; value_is = refl; within = l; rest = tt }); len = refl; no_end = All-nil (λ b. b ≢ 10) }

pub completes : (first : Word) (has : Bool) (key : List ℕ) (read : Head) (part : LinePart) → is_clean key ≡ true → IsValidAt first has part → Completes first has key read part
completes first has key read (BeforeName name) clean valid =
    let s = shortest (word (name_text name first key) ∷ behind_name name first has key zero_head) 0 (name_clean name first key clean, plain_name name first has key clean) in
    record { head = zero_head; more = s.more; follows = s.writes; len = s.len; no_end = s.no_end }
completes first has key read (InName name at) clean valid =
    let s = shortest (behind_name name first has key zero_head) 1 (plain_name name first has key clean) in
    let left = drop at (name_text name first key) in
    record {
      head = zero_head;
      more = left ++ s.more;
      follows = record { after = s.more; parts = refl; rest = s.writes };
      len = omega (arith, length-append left s.more, s.len);
      no_end = All-append (λ b. b ≢ 10) left s.more (All-drop (λ b. b ≢ 10) at (name_text name first key) (clean_ends (name_text name first key) (name_clean name first key clean))) s.no_end;
    }
completes first has key read (BeforeNumber n) clean valid = before_number first has key read n
completes first has key read (InNumber n value) clean valid = in_number first has key read n value valid.1
completes first has key read Blank clean valid = record { head = read; more = []; follows = (all_read (tail_of first) has read, tt); len = refl; no_end = All-nil (λ b. b ≢ 10) }
completes first has key read Return clean valid = record { head = read; more = []; follows = (all_read (tail_of first) has read, refl); len = refl; no_end = All-nil (λ b. b ≢ 10) }
completes first has key read Text clean valid = record { head = read; more = []; follows = all_read (tail_of first) has read; len = refl; no_end = All-nil (λ b. b ≢ 10) }

pub candidate_opens : (has : Bool) (key : List ℕ) (c : Candidate) → is_clean key ≡ true → IsValid has c → (head : Head) × (more : List ℕ) × Open has key c head more
candidate_opens has key c clean valid =
    let k = completes c.first has key c.head c.part clean valid in
    (k.head, k.more, record { follows = k.follows; short = omega (arith, k.len); no_end = k.no_end })
