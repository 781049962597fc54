-- What a request line is cut into.
use Rattle.std.proofs.Common.{◌≡◌, ◌≢◌, ◌∙◌, ℕ, ◌+◌, ◌≤◌, true, false, not, ◌&&◌, ◌==◌, nat_lt, nat_le, List, [], ◌∷◌, ◌++◌, length, take, drop, Some, None, suc, refl, ap, sym, subst, arith, codes, if◌then◌else◌, length-append, append_assoc}
use Rattle.std.proofs.lemmas.Bool.Decides.{nat_tests}
use Rattle.std.proofs.lemmas.List.{take_at, drop_at}
use Rattle.std.specs.List.{list_all}
use Rattle.std.specs.Str.{bytes_eq}
use Rattle.memchr.specs.Find.{IsFirstByte, is_byte}
use Rattle.mcv_base.specs.declared.operation.Op.{Op}
use Rattle.mcv_base.specs.declared.operation.Op.TheVariants.{Get, Gets, Set, Add, Replace, Append, Prepend, Cas, Delete, Touch, Incr, Decr}
use Rattle.mcv_base.specs.declared.key.KeyFault.{KeyFault}
use Rattle.mcv_base.specs.declared.key.KeyFault.TheVariants.{Empty, TooLong, BadByte, NoRest}
use Rattle.mcv_base.specs.Operation.{op_name}
use Rattle.mcv_base.specs.Key.{IsCut, IsKeyFault, is_key_byte, is_key_word, lacks}
use Rattle.mcv_base.proofs.Cuts.{both, joined, first_at_cut, first_cuts, none_at_cut, lacks-append}
use Rattle.mcv_base.proofs.Prefixes.{one_cut, one_reading, no_rest}
use Rattle.mcv_legs.specs.Request.{Asks, IsNoRequest, HaveOneReading, space, line_feed}

byte_apart : (c x : ℕ) → c ≤ 32 → nat_le 33 x ≡ true → not (x == c) ≡ true
byte_apart c x low above = grind (arith, nat_tests)

key_lacks : (c : ℕ) (key : List ℕ) → c ≤ 32 → list_all is_key_byte key ≡ true → lacks c key ≡ true
key_lacks c [] low all = refl
key_lacks c (x ∷ xs) low all =
    let h = both (is_key_byte x) (list_all is_key_byte xs) all in
    let above = (both (nat_le 33 x) (not (x == 127)) h.0).0 in
    joined (not (x == c)) (lacks c xs) (byte_apart c x low above) (key_lacks c xs low h.1)

name_lacks_line_feed : (op : Op) → lacks line_feed (op_name op) ≡ true
name_lacks_line_feed Get = refl
name_lacks_line_feed Gets = refl
name_lacks_line_feed Set = refl
name_lacks_line_feed Add = refl
name_lacks_line_feed Replace = refl
name_lacks_line_feed Append = refl
name_lacks_line_feed Prepend = refl
name_lacks_line_feed Cas = refl
name_lacks_line_feed Delete = refl
name_lacks_line_feed Touch = refl
name_lacks_line_feed Incr = refl
name_lacks_line_feed Decr = refl

name_lacks_space : (op : Op) → lacks space (op_name op) ≡ true
name_lacks_space Get = refl
name_lacks_space Gets = refl
name_lacks_space Set = refl
name_lacks_space Add = refl
name_lacks_space Replace = refl
name_lacks_space Append = refl
name_lacks_space Prepend = refl
name_lacks_space Cas = refl
name_lacks_space Delete = refl
name_lacks_space Touch = refl
name_lacks_space Incr = refl
name_lacks_space Decr = refl

-- the bytes of a key word, and how many there are
pub key_bytes : (key : List ℕ) → is_key_word key ≡ true → (nat_lt 0 (length key) ≡ true) × (nat_le (length key) 250 ≡ true) × (list_all is_key_byte key ≡ true)
key_bytes key is =
    let h = both (nat_lt 0 (length key)) (nat_le (length key) 250 && list_all is_key_byte key) is in
    let k = both (nat_le (length key) 250) (list_all is_key_byte key) h.1 in
    (h.0, k.0, k.1)

line_lacks : (op : Op) (key : List ℕ) → is_key_word key ≡ true → lacks line_feed (op_name op ++ space ∷ key) ≡ true
line_lacks op key is =
    lacks-append line_feed (op_name op) (space ∷ key) (name_lacks_line_feed op)
    (joined (not (space == line_feed)) (lacks line_feed key) refl (key_lacks line_feed key (omega arith) (key_bytes key is).2))

-- a request line is cut at the first LF
pub asks_cuts : (input : List ℕ) (op : Op) (prefix rest configuration : List ℕ) (end : ℕ) (asks : Asks input op prefix rest configuration)
    → IsFirstByte (is_byte line_feed) input (Some end) → take end input ≡ op_name op ++ space ∷ asks.key
asks_cuts input op prefix rest configuration end asks first =
    let line = op_name op ++ space ∷ asks.key in
    let at = first_at_cut line_feed input line configuration end asks.line (line_lacks op asks.key asks.is_key) first in
    ap (take end) asks.line ∙ take_at line (line_feed ∷ configuration) end (sym at)

pub no_line : (input : List ℕ) → IsFirstByte (is_byte line_feed) input None → IsNoRequest input
no_line input none op prefix rest configuration asks = none_at_cut line_feed input (op_name op ++ space ∷ asks.key) configuration asks.line none

pub no_space : (input : List ℕ) (end : ℕ) → IsFirstByte (is_byte line_feed) input (Some end) → IsFirstByte (is_byte space) (take end input) None → IsNoRequest input
no_space input end first none op prefix rest configuration asks =
    none_at_cut space (take end input) (op_name op) asks.key (asks_cuts input op prefix rest configuration end asks first) none

-- .. and at the first space
pub space_cuts : (input : List ℕ) (op : Op) (prefix rest configuration : List ℕ) (end at : ℕ) (asks : Asks input op prefix rest configuration)
    → IsFirstByte (is_byte line_feed) input (Some end) → IsFirstByte (is_byte space) (take end input) (Some at)
    → (take at (take end input) ≡ op_name op) × (drop (at + 1) (take end input) ≡ asks.key)
space_cuts input op prefix rest configuration end at asks first second =
    let line = asks_cuts input op prefix rest configuration end asks first in
    let is = first_at_cut space (take end input) (op_name op) asks.key at line (name_lacks_space op) second in
    let whole : op_name op ++ space ∷ asks.key ≡ (op_name op ++ space ∷ []) ++ asks.key = sym (append_assoc (op_name op) (space ∷ []) asks.key) in (
      ap (take at) line ∙ take_at (op_name op) (space ∷ asks.key) at (sym is),
      ap (drop (at + 1)) (line ∙ whole) ∙ drop_at (op_name op ++ space ∷ []) asks.key (at + 1) (omega (arith, length-append (op_name op) (space ∷ []))),
    )

-- a word at fault is no key that has a rest
pub no_key : (word prefix rest : List ℕ) (fault : KeyFault) → IsKeyFault word fault → is_key_word word ≡ true → IsCut word prefix rest → rest ≢ [] → ⊥
no_key word prefix rest Empty at key cut some =
    let none : nat_lt 0 (length word) ≡ false = ap (λ (w : List ℕ). nat_lt 0 (length w)) at in
    let some_byte = (key_bytes word key).0 in
    cc
no_key word prefix rest TooLong at key cut some =
    let short = (key_bytes word key).1 in
    grind (arith, nat_tests)
no_key word prefix rest BadByte at key cut some =
    let all = (key_bytes word key).2 in
    let bad = at.2 in
    cc
no_key word prefix rest NoRest at key cut some = some (no_rest word prefix rest at.1 cut)

abbrev op_of : List ℕ → Op
op_of name =
    if bytes_eq name (codes "get") then Get
    else if bytes_eq name (codes "gets") then Gets
    else if bytes_eq name (codes "set") then Set
    else if bytes_eq name (codes "add") then Add
    else if bytes_eq name (codes "replace") then Replace
    else if bytes_eq name (codes "append") then Append
    else if bytes_eq name (codes "prepend") then Prepend
    else if bytes_eq name (codes "cas") then Cas
    else if bytes_eq name (codes "delete") then Delete
    else if bytes_eq name (codes "touch") then Touch
    else if bytes_eq name (codes "incr") then Incr
    else Decr

op_of-name : (op : Op) → op_of (op_name op) ≡ op
op_of-name Get = refl
op_of-name Gets = refl
op_of-name Set = refl
op_of-name Add = refl
op_of-name Replace = refl
op_of-name Append = refl
op_of-name Prepend = refl
op_of-name Cas = refl
op_of-name Delete = refl
op_of-name Touch = refl
op_of-name Incr = refl
op_of-name Decr = refl

-- operations differ by their names
one_name : (op other : Op) → op_name op ≡ op_name other → op ≡ other
one_name op other is = sym (op_of-name op) ∙ ap op_of is ∙ op_of-name other

pub one_request : HaveOneReading
one_request input op other prefix rest configuration start end text asks more =
    let line = one_cut line_feed (op_name op ++ space ∷ asks.key) configuration (op_name other ++ space ∷ more.key) text
    (line_lacks op asks.key asks.is_key) (line_lacks other more.key more.is_key) (sym asks.line ∙ more.line) in
    let name = one_cut space (op_name op) asks.key (op_name other) more.key (name_lacks_space op) (name_lacks_space other) line.0 in
    let cut = one_reading asks.key prefix rest start end asks.cut (subst (λ (word : List ℕ). IsCut word start end) (sym name.1) more.cut) in
    (one_name op other name.0, cut.0, cut.1, line.1)

-- a list is cut at its first byte c
cut_at : (c : ℕ) (xs : List ℕ) (k : ℕ) → IsFirstByte (is_byte c) xs (Some k) → xs ≡ take k xs ++ c ∷ drop (k + 1) xs
cut_at c xs k first =
    let next : suc k ≡ k + 1 = omega arith in
    (first_cuts c xs k first.0.high first.1 (λ j below. first.0.before j (omega arith) below)).1 ∙ ap (λ n. take k xs ++ c ∷ drop n xs) next

-- what is found at the first LF and at the first space is what the input asks
pub asks_at : (input : List ℕ) (op : Op) (prefix rest : List ℕ) (end at : ℕ)
    → IsFirstByte (is_byte line_feed) input (Some end) → IsFirstByte (is_byte space) (take end input) (Some at)
    → op_name op ≡ take at (take end input) → is_key_word (drop (at + 1) (take end input)) ≡ true → IsCut (drop (at + 1) (take end input)) prefix rest → rest ≢ []
    → Asks input op prefix rest (drop (end + 1) input)
asks_at input op prefix rest end at first second name key cut some =
    let line : take end input ≡ op_name op ++ space ∷ drop (at + 1) (take end input) =
    cut_at space (take end input) at second ∙ ap (λ (word : List ℕ). word ++ space ∷ drop (at + 1) (take end input)) (sym name) in
    record {
      key = drop (at + 1) (take end input);
      line = cut_at line_feed input end first ∙ ap (λ (xs : List ℕ). xs ++ line_feed ∷ drop (end + 1) input) line;
      is_key = key;
      cut = cut;
      some = some;
    }

pub some_word : (word : List ℕ) → is_key_word word ≡ true → word ≢ []
some_word word is none =
    let no : nat_lt 0 (length word) ≡ false = ap (λ (w : List ℕ). nat_lt 0 (length w)) none in
    let yes = (key_bytes word is).0 in
    cc
