-- The candidates of a line.
use Rattle.std.proofs.Common.{◌≡◌, ◌≢◌, ℕ, ◌+◌, ◌<◌, ◌≤◌, inl, inr, Bool, true, false, List, [], ◌∷◌, ◌++◌, length, get_or, take, map, Some, None, refl, sym, ap, subst, ◌∙◌, arith, append_assoc}
use Rattle.std.specs.List.{All, Any, Contains}
use Rattle.std.proofs.lemmas.Bool.{cases_lt}
use Rattle.std.proofs.lemmas.List.{append-nil, get_or-map, get_or_append_left, get_or_push, length_push, length-map, map_more}
use Rattle.std.proofs.lemmas.List.Elements.{All-nil, All-map, All-weaker, All-contains_itself, All-push, All-append}
use Rattle.mcv_base.specs.declared.operation.Op.TheVariants as ops
use Rattle.mcv_reply.specs.declared.word.Word.{Word}
use Rattle.mcv_reply.specs.declared.word.Word.TheVariants.{End, Value, Stored, NotStored, Exists, NotFound, Deleted, Touched, Count, Error, ClientError, ServerError, Version}
use Rattle.mcv_reply.specs.declared.word.Tail.{Tail}
use Rattle.mcv_reply.specs.declared.word.Tail.TheVariants as tails
use Rattle.mcv_reply.specs.declared.word.Row.{Row}
use Rattle.mcv_reply.specs.declared.word.Row.TheVariants.{Reply, AfterValue, Probe}
use Rattle.mcv_reply.specs.declared.candidate.Head.{Head}
use Rattle.mcv_reply.specs.declared.candidate.Name.TheVariants.{First}
use Rattle.mcv_reply.specs.declared.candidate.LinePart.TheVariants.{BeforeName}
use Rattle.mcv_reply.specs.declared.candidate.Candidate.{Candidate}
use Rattle.mcv_reply.specs.Word.{has_cas, tail_of, word_text, words}
use Rattle.mcv_reply.specs.Line.{IsLine, Writes, cas_forms, first_form, tail_forms}
use Rattle.mcv_reply.specs.Candidate.{Ends, Follows, IsKept, IsValid, IsValidAt, Open, Reads, Says, fewest, is_clean, needed, new_candidate, start_of, zero_head}

-- at most seven first words
pub few_words : (row : Row) → length (words row) ≤ 7
few_words (Reply ops.Get) = omega arith
few_words (Reply ops.Gets) = omega arith
few_words (Reply ops.Set) = omega arith
few_words (Reply ops.Add) = omega arith
few_words (Reply ops.Replace) = omega arith
few_words (Reply ops.Append) = omega arith
few_words (Reply ops.Prepend) = omega arith
few_words (Reply ops.Cas) = omega arith
few_words (Reply ops.Delete) = omega arith
few_words (Reply ops.Touch) = omega arith
few_words (Reply ops.Incr) = omega arith
few_words (Reply ops.Decr) = omega arith
few_words AfterValue = omega arith
few_words Probe = omega arith

word_length : (first : Word) → length (word_text first) ≤ 12
word_length End = omega arith
word_length Value = omega arith
word_length Stored = omega arith
word_length NotStored = omega arith
word_length Exists = omega arith
word_length NotFound = omega arith
word_length Deleted = omega arith
word_length Touched = omega arith
word_length Count = omega arith
word_length Error = omega arith
word_length ClientError = omega arith
word_length ServerError = omega arith
word_length Version = omega arith

cas_short : (has : Bool) → fewest (cas_forms has 0) 1 ≤ 2
cas_short true = omega arith
cas_short false = omega arith

tail_short : (t : Tail) (has : Bool) (key : List ℕ) → fewest (tail_forms t has key zero_head) 1 ≤ length key + 7
tail_short tails.Nothing has key = omega arith
tail_short tails.Text has key = omega arith
tail_short tails.Value has key = omega (arith, cas_short has)
tail_short tails.Count has key = omega arith

pub needed_short : (first : Word) (has : Bool) (key : List ℕ) → length key ≤ 250 → needed first has key (BeforeName First) ≤ 2048
needed_short first has key short = omega (arith, word_length first, tail_short (tail_of first) has key)

-- a line begins with its word, or with its number
start_on : (first : Word) (has : Bool) (key : List ℕ) (head : Head) (more : List ℕ) → Writes (first_form (tail_of first) (word_text first) head ∷ tail_forms (tail_of first) has key head) 0 more → Follows first has key zero_head (start_of (tail_of first)) head more
start_on End has key head more w = w
start_on Value has key head more w = w
start_on Stored has key head more w = w
start_on NotStored has key head more w = w
start_on Exists has key head more w = w
start_on NotFound has key head more w = w
start_on Deleted has key head more w = w
start_on Touched has key head more w = w
start_on Count has key head more w = (tt, w)
start_on Error has key head more w = w
start_on ClientError has key head more w = w
start_on ServerError has key head more w = w
start_on Version has key head more w = w

start_back : (first : Word) (has : Bool) (key : List ℕ) (head : Head) (more : List ℕ) → Follows first has key zero_head (start_of (tail_of first)) head more → Writes (first_form (tail_of first) (word_text first) head ∷ tail_forms (tail_of first) has key head) 0 more
start_back End has key head more f = f
start_back Value has key head more f = f
start_back Stored has key head more f = f
start_back NotStored has key head more f = f
start_back Exists has key head more f = f
start_back NotFound has key head more f = f
start_back Deleted has key head more f = f
start_back Touched has key head more f = f
start_back Count has key head more f = f.1
start_back Error has key head more f = f
start_back ClientError has key head more f = f
start_back ServerError has key head more f = f
start_back Version has key head more f = f

start_needs : (first : Word) (has : Bool) (key : List ℕ) → needed first has key (start_of (tail_of first)) ≡ needed first has key (BeforeName First)
start_needs End has key = refl
start_needs Value has key = refl
start_needs Stored has key = refl
start_needs NotStored has key = refl
start_needs Exists has key = refl
start_needs NotFound has key = refl
start_needs Deleted has key = refl
start_needs Touched has key = refl
start_needs Count has key = refl
start_needs Error has key = refl
start_needs ClientError has key = refl
start_needs ServerError has key = refl
start_needs Version has key = refl

start_valid : (first : Word) (has : Bool) → IsValidAt first has (start_of (tail_of first))
start_valid End has = refl
start_valid Value has = refl
start_valid Stored has = refl
start_valid NotStored has = refl
start_valid Exists has = refl
start_valid NotFound has = refl
start_valid Deleted has = refl
start_valid Touched has = refl
start_valid Count has = refl
start_valid Error has = refl
start_valid ClientError has = refl
start_valid ServerError has = refl
start_valid Version has = refl

-- lines of which nothing has come
module _ (row : Row) (key : List ℕ) (short : length key ≤ 250) where
  new_to : (first : Word) (head : Head) (more : List ℕ) → IsLine row key first head more → Open (has_cas row) key (new_candidate (has_cas row) key first) head more
  new_to first head more l = record { follows = start_on first (has_cas row) key head more l.writes; short = omega (arith, l.short, needed_short first (has_cas row) key short, start_needs first (has_cas row) key); no_end = l.no_end }

  new_back : (first : Word) → Contains (words row) first → (head : Head) (more : List ℕ) → Open (has_cas row) key (new_candidate (has_cas row) key first) head more → IsLine row key first head more
  new_back first may head more o = record { may = may; writes = start_back first (has_cas row) key head more o.follows; no_end = o.no_end; short = omega (arith, o.short, needed_short first (has_cas row) key short, start_needs first (has_cas row) key) }

  pub new_kept : (items : List Candidate) → items ≡ map (new_candidate (has_cas row) key) (words row) → IsKept row key [] items
  new_kept items is = subst (λ (t : List Candidate). IsKept row key [] t) (sym is) record {
    to = λ first head more l.
        let k = l.may.0 in
        let at : get_or (map (new_candidate (has_cas row) key) (words row)) k (new_candidate (has_cas row) key first) ≡ new_candidate (has_cas row) key first = get_or-map (new_candidate (has_cas row) key) (words row) k first (new_candidate (has_cas row) key first) l.may.1 ∙ ap (new_candidate (has_cas row) key) l.may.2 in
        (k, new_candidate (has_cas row) key first, omega (arith, l.may.1, length-map (words row) (new_candidate (has_cas row) key)), at, (refl, new_to first head more l));
    back = All-map (λ (c : Candidate). (head : Head) (more : List ℕ) → Open (has_cas row) key c head more → IsLine row key c.first head more) (new_candidate (has_cas row) key) (words row)
        (All-weaker (Contains (words row)) (λ (w : Word). (head : Head) (more : List ℕ) → Open (has_cas row) key (new_candidate (has_cas row) key w) head more → IsLine row key w head more) new_back (words row) (All-contains_itself (words row)));
    valid = All-map (IsValid (has_cas row)) (new_candidate (has_cas row) key) (words row) (λ k d l. start_valid (get_or (words row) k d) (has_cas row));
    no_end = All-nil (λ b. b ≢ 10);
  }

any_push : {X : Type 0} (P : X → Type 0) (xs : List X) (y : X) → Any P xs → Any P (xs ++ y ∷ [])
any_push P xs y a = (a.0, a.1, omega (arith, a.2, length_push xs y), get_or_append_left xs (y ∷ []) a.1 a.0 a.2 ∙ a.3, a.4)

any_last : {X : Type 0} (P : X → Type 0) (xs : List X) (y : X) → P y → Any P (xs ++ y ∷ [])
any_last P xs y p = (length xs, y, omega (arith, length_push xs y), get_or_push xs y y (length xs) refl, p)

-- the first i candidates have been read on
pub record IsLeft (row : Row) (key line bytes : List ℕ) (candidates : List Candidate) (i : ℕ) (left : List Candidate) : Type 0 where
  pub to : (k : ℕ) (d : Candidate) → k < i → (head : Head) (more : List ℕ) → Open (has_cas row) key (get_or candidates k d) head (bytes ++ more) → Any (λ c. (c.first ≡ (get_or candidates k d).first) × Open (has_cas row) key c head more) left
  pub back : All (λ c. (head : Head) (more : List ℕ) → Open (has_cas row) key c head more → IsLine row key c.first head ((line ++ bytes) ++ more)) left
  pub valid : All (IsValid (has_cas row)) left
  pub few : length left ≤ i

module _ (row : Row) (key line bytes : List ℕ) (candidates : List Candidate) (kept : IsKept row key line candidates) where
  pub left_none : IsLeft row key line bytes candidates 0 []
  left_none = record { to = λ k d l. absurd (omega arith); back = All-nil _; valid = All-nil _; few = omega arith }

  module _ (i : ℕ) (left : List Candidate) (at : IsLeft row key line bytes candidates i left) (c : Candidate) (within : i < length candidates) (is : (d : Candidate) → c ≡ get_or candidates i d) where
    pub left_some : (next : Candidate) → Reads (has_cas row) key c bytes (Some next) → IsLeft row key line bytes candidates (i + 1) (left ++ next ∷ [])
    left_some next reads = record {
      to = λ k d l head more o. elim (cases_lt k i) [
        | inl low ↦ any_push (λ (x : Candidate). (x.first ≡ (get_or candidates k d).first) × Open (has_cas row) key x head more) left next (at.to k d low head more o)
        | inr high ↦
            let same : k ≡ i = omega arith in
            let here : get_or candidates k d ≡ c = ap (λ t. get_or candidates t d) same ∙ sym (is d) in
            any_last (λ (x : Candidate). (x.first ≡ (get_or candidates k d).first) × Open (has_cas row) key x head more) left next
            (reads.first ∙ ap (λ (t : Candidate). t.first) (sym here), reads.on head more (subst (λ (t : Candidate). Open (has_cas row) key t head (bytes ++ more)) here o))
      ];
      back = All-push (λ (x : Candidate). (head : Head) (more : List ℕ) → Open (has_cas row) key x head more → IsLine row key x.first head ((line ++ bytes) ++ more)) left next at.back
          (λ head more o.
          let whole : line ++ (bytes ++ more) ≡ (line ++ bytes) ++ more = sym (append_assoc line bytes more) in
          let before : Open (has_cas row) key (get_or candidates i c) head (bytes ++ more) = subst (λ (t : Candidate). Open (has_cas row) key t head (bytes ++ more)) (is c) (reads.back head more o) in
          let line_is : IsLine row key (get_or candidates i c).first head (line ++ (bytes ++ more)) = kept.back i c within head (bytes ++ more) before in
          let first_is : (get_or candidates i c).first ≡ next.first = ap (λ (t : Candidate). t.first) (sym (is c)) ∙ sym reads.first in
          subst (λ (w : Word). IsLine row key w head ((line ++ bytes) ++ more)) first_is (subst (λ (t : List ℕ). IsLine row key (get_or candidates i c).first head t) whole line_is));
      valid = All-push (IsValid (has_cas row)) left next at.valid reads.valid;
      few = omega (arith, length_push left next, at.few);
    }

    pub left_out : Reads (has_cas row) key c bytes None → IsLeft row key line bytes candidates (i + 1) left
    left_out never = record {
      to = λ k d l head more o. elim (cases_lt k i) [
        | inl low ↦ at.to k d low head more o
        | inr high ↦
            let same : k ≡ i = omega arith in
            let here : get_or candidates k d ≡ c = ap (λ t. get_or candidates t d) same ∙ sym (is d) in
            absurd (never head more (subst (λ (t : Candidate). Open (has_cas row) key t head (bytes ++ more)) here o))
      ];
      back = at.back;
      valid = at.valid;
      few = omega (arith, at.few);
    }

  pub left_kept : (i : ℕ) (left : List Candidate) → IsLeft row key line bytes candidates i left → length candidates ≤ i → All (λ b. b ≢ 10) bytes → IsKept row key (line ++ bytes) left
  left_kept i left at all clean = record {
    to = λ first head more l.
        let whole : (line ++ bytes) ++ more ≡ line ++ (bytes ++ more) = append_assoc line bytes more in
        let any = kept.to first head (bytes ++ more) (subst (λ (t : List ℕ). IsLine row key first head t) whole l) in
        let first_is : (get_or candidates any.0 any.1).first ≡ first = ap (λ (t : Candidate). t.first) any.3 ∙ any.4.0 in
        let next = at.to any.0 any.1 (omega (arith, any.2)) head more (subst (λ (t : Candidate). Open (has_cas row) key t head (bytes ++ more)) (sym any.3) any.4.1) in
        (next.0, next.1, next.2, next.3, (next.4.0 ∙ first_is, next.4.1));
    back = at.back;
    valid = at.valid;
    no_end = All-append (λ b. b ≢ 10) line bytes kept.no_end clean;
  }

-- what a read past the end would give
abbrev pub any_candidate : Candidate
any_candidate = record { first = End; part = BeforeName First; head = zero_head; spare = 0 }

-- none of the first i candidates may end
abbrev pub NoneEnds : Bool → List Candidate → ℕ → Type 0
NoneEnds has candidates i = (key : List ℕ) → is_clean key ≡ true → (k : ℕ) (d : Candidate) → k < i → Ends has key (get_or candidates k d) None

pub none_ends_more : (has : Bool) (candidates : List Candidate) (i : ℕ) (c : Candidate) → ((d : Candidate) → c ≡ get_or candidates i d) → NoneEnds has candidates i → ((key : List ℕ) → is_clean key ≡ true → Ends has key c None) → NoneEnds has candidates (i + 1)
none_ends_more has candidates i c is before here key clean k d l = elim (cases_lt k i) [
  | inl low ↦ before key clean k d low
  | inr high ↦
      let same : k ≡ i = omega arith in
      subst (λ (t : Candidate). Ends has key t None) (is d ∙ ap (λ t. get_or candidates t d) (sym same)) (here key clean)
]

module _ (row : Row) (key line : List ℕ) (candidates : List Candidate) (kept : IsKept row key line candidates) where
  pub says_none : (i : ℕ) → length candidates ≤ i → is_clean key ≡ true → NoneEnds (has_cas row) candidates i → Says row key line None
  says_none i all clean none first head l =
      let any = kept.to first head [] (subst (λ (t : List ℕ). IsLine row key first head t) (sym (append-nil line)) l) in
      let o : Open (has_cas row) key (get_or candidates any.0 any.1) head [] = subst (λ (t : Candidate). Open (has_cas row) key t head []) (sym any.3) any.4.1 in
      none key clean any.0 any.1 (omega (arith, any.2)) head o.follows

  pub says_some : (i : ℕ) (c : Candidate) (read : Head) → i < length candidates → ((d : Candidate) → c ≡ get_or candidates i d) → Ends (has_cas row) key c (Some read) → Says row key line (Some (record { first = c.first; head = read }))
  says_some i c read within is ends =
      let o : Open (has_cas row) key c read [] = record { follows = ends; short = omega arith; no_end = All-nil (λ b. b ≢ 10) } in
      let l : IsLine row key (get_or candidates i c).first read (line ++ []) = kept.back i c within read [] (subst (λ (t : Candidate). Open (has_cas row) key t read []) (is c) o) in
      subst (λ (t : List ℕ). IsLine row key c.first read t) (append-nil line) (subst (λ (t : Candidate). IsLine row key t.first read (line ++ [])) (sym (is c)) l)

-- one more candidate of which nothing has come
pub pushed : (row : Row) (key : List ℕ) (i : ℕ) (ws : List Word) (d : Word) (items more : List Candidate) (has : Bool) (c : Candidate) → ws ≡ words row → has ≡ has_cas row → i < length ws → items ≡ map (new_candidate (has_cas row) key) (take i (words row)) → c ≡ new_candidate has key (get_or ws i d) → more ≡ items ++ c ∷ [] → more ≡ map (new_candidate (has_cas row) key) (take (i + 1) (words row))
pushed row key i ws d items more has c ws-is has-is l items-is c-is more-is =
    let within : i < length (words row) = omega (arith, ap length ws-is) in
    let same : c ≡ new_candidate (has_cas row) key (get_or (words row) i d) = c-is ∙ ap (λ (h : Bool). new_candidate h key (get_or ws i d)) has-is ∙ ap (λ (t : List Word). new_candidate (has_cas row) key (get_or t i d)) ws-is in
    more-is ∙ ap (λ (t : List Candidate). t ++ c ∷ []) items-is ∙ ap (λ (t : Candidate). map (new_candidate (has_cas row) key) (take i (words row)) ++ t ∷ []) same ∙ sym (map_more (new_candidate (has_cas row) key) (words row) i d within)
