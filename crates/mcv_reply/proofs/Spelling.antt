-- What a reply goes on with.
use Rattle.std.proofs.Common.{◌≡◌, ◌≢◌, ℕ, Bool, true, false, List, [], ◌∷◌, ◌++◌, length, take, drop, refl, sym, ap, subst, ◌∙◌, append_assoc, Option, Some, None}
use Rattle.std.specs.List.{All}
use Rattle.std.proofs.lemmas.List.{append-nil, take_at, drop_at}
use Rattle.std.proofs.lemmas.List.Elements.{All-head, All-tail}
use Rattle.mcv_base.specs.declared.operation.Op.{Op}
use Rattle.mcv_base.specs.Reply.{ReplyValue, hit, number}
use Rattle.mcv_reply.specs.declared.word.Word.{Word}
use Rattle.mcv_reply.specs.declared.word.Word.TheVariants.{End, Value, Stored, NotStored, Exists, NotFound, Deleted, Touched, Count, Error, ClientError, ServerError, Version}
use Rattle.mcv_reply.specs.declared.word.Row.TheVariants as rows
use Rattle.mcv_reply.specs.declared.candidate.Head.{Head}
use Rattle.mcv_reply.specs.Word.{has_cas}
use Rattle.mcv_reply.specs.Line.{IsLine}
use Rattle.mcv_reply.specs.Candidate.{is_clean}
use Rattle.mcv_reply.specs.Reply.{Spells, alone, with_value, cas_said, said_alone}
use Rattle.mcv_reply.proofs.LineHasOneReading.{count_one, first_one, value_one}

pub line_one : (l m x y : List ℕ) → All (λ b. b ≢ 10) l → All (λ b. b ≢ 10) m → l ++ 10 ∷ x ≡ m ++ 10 ∷ y → (l ≡ m) × (x ≡ y)
line_one [] [] x y p q e = (refl, cc)
line_one [] (b ∷ m) x y p q e = absurd (All-head (λ b. b ≢ 10) b m q (cc))
line_one (a ∷ l) [] x y p q e = absurd (All-head (λ b. b ≢ 10) a l p (cc))
line_one (a ∷ l) (b ∷ m) x y p q e =
    let heads : a ≡ b = cc in
    let tails : l ++ 10 ∷ x ≡ m ++ 10 ∷ y = cc in
    let rest = line_one l m x y (All-tail (λ b. b ≢ 10) a l p) (All-tail (λ b. b ≢ 10) b m q) tails in
    (cc (heads, rest.0), rest.1)

-- what has no LF is a front of the first line
pub front_of_line : (bytes more line rest : List ℕ) → All (λ b. b ≢ 10) bytes → bytes ++ more ≡ line ++ 10 ∷ rest → (q : List ℕ) × (line ≡ bytes ++ q) × (more ≡ q ++ 10 ∷ rest)
front_of_line [] more line rest clean e = (line, refl, e)
front_of_line (b ∷ bytes) more [] rest clean e = absurd (All-head (λ b. b ≢ 10) b bytes clean (cc))
front_of_line (b ∷ bytes) more (c ∷ line) rest clean e =
    let heads : b ≡ c = cc in
    let tails : bytes ++ more ≡ line ++ 10 ∷ rest = cc in
    let front = front_of_line bytes more line rest (All-tail (λ b. b ≢ 10) b bytes clean) tails in
    (front.0, cc (heads, front.1), front.2)

pub same_length : (v w a b : List ℕ) → length v ≡ length w → v ++ a ≡ w ++ b → (v ≡ w) × (a ≡ b)
same_length v w a b l e = (
  sym (take_at v a (length v) refl) ∙ ap (take (length v)) e ∙ take_at w b (length v) (sym l),
  sym (drop_at v a (length v) refl) ∙ ap (drop (length v)) e ∙ drop_at w b (length v) (sym l),
)

none_some : {A : Type 0} (o : Option A) (a : A) → o ≡ None → o ≡ Some a → ⊥
none_some o a p q = cc

same_cas_said : (has : Bool) (a b : ℕ) → (has ≡ true → a ≡ b) → cas_said has a ≡ cas_said has b
same_cas_said true a b e = ap Some (e refl)
same_cas_said false a b e = refl

-- a line says one thing
said_one : (op : Op) (key : List ℕ) (first : Word) (h g : Head) (line : List ℕ) → IsLine (rows.Reply op) key first h line → IsLine (rows.Reply op) key first g line → said_alone first h line ≡ said_alone first g line
said_one op key End h g line x y = refl
said_one op key Value h g line x y = refl
said_one op key Stored h g line x y = refl
said_one op key NotStored h g line x y = refl
said_one op key Exists h g line x y = refl
said_one op key NotFound h g line x y = refl
said_one op key Deleted h g line x y = refl
said_one op key Touched h g line x y = refl
said_one op key Count h g line x y = ap (λ n. Some (number n)) (count_one (rows.Reply op) (rows.Reply op) key h g line x y)
said_one op key Error h g line x y = refl
said_one op key ClientError h g line x y = refl
said_one op key ServerError h g line x y = refl
said_one op key Version h g line x y = refl

-- behind a reply's first line
pub line_heads : (own line x rest : List ℕ) → own ≡ line ++ 10 ∷ x → own ++ rest ≡ line ++ 10 ∷ (x ++ rest)
line_heads own line x rest e = ap (λ t. t ++ rest) e ∙ append_assoc line (10 ∷ x) rest

value_rest : (value last rest : List ℕ) → (value ++ 13 ∷ 10 ∷ (last ++ 10 ∷ [])) ++ rest ≡ value ++ 13 ∷ 10 ∷ (last ++ 10 ∷ rest)
value_rest value last rest = append_assoc value (13 ∷ 10 ∷ (last ++ 10 ∷ [])) rest ∙ ap (λ t. value ++ 13 ∷ 10 ∷ t) (append_assoc last (10 ∷ []) rest)

-- behind the line of a value: the value, its end, and then the rest
pub record HitRest (op : Op) (key : List ℕ) (head : Head) (x rest : List ℕ) (reply : ReplyValue) : Type 0 where
  pub value : List ℕ
  pub last : List ℕ
  pub other : Head
  pub size : length value ≡ head.size
  pub last_is : IsLine rows.AfterValue key End other last
  pub parts : x ≡ value ++ 13 ∷ 10 ∷ (last ++ 10 ∷ rest)
  pub says : reply ≡ hit head.flags (cas_said (has_cas (rows.Reply op)) head.cas) value

module _ (op : Op) (key : List ℕ) (clean : is_clean key ≡ true) where
  -- a reply, and then the rest, where a line of a value begins
  pub value_heads : (head : Head) (line x own rest : List ℕ) (reply : ReplyValue) → IsLine (rows.Reply op) key Value head line → line ++ 10 ∷ x ≡ own ++ rest → Spells op key own reply → HitRest op key head x rest reply
  value_heads head line x own rest reply is e (alone s) =
      let one = line_one line s.line x rest is.no_end s.line_is.no_end (e ∙ line_heads own s.line [] rest s.parts) in
      let first : s.first ≡ Value = first_one (rows.Reply op) (rows.Reply op) key s.first Value s.head head line (subst (λ (t : List ℕ). IsLine (rows.Reply op) key s.first s.head t) (sym one.0) s.line_is) is in
      absurd (none_some (said_alone s.first s.head s.line) reply (ap (λ (t : Word). said_alone t s.head s.line) first) s.says)
  value_heads head line x own rest reply is e (with_value s) =
      let one = line_one line s.line x ((s.value ++ 13 ∷ 10 ∷ (s.last ++ 10 ∷ [])) ++ rest) is.no_end s.line_is.no_end (e ∙ line_heads own s.line (s.value ++ 13 ∷ 10 ∷ (s.last ++ 10 ∷ [])) rest s.parts) in
      let same = value_one (rows.Reply op) key clean s.head head line (subst (λ (t : List ℕ). IsLine (rows.Reply op) key Value s.head t) (sym one.0) s.line_is) is in
      record {
        value = s.value;
        last = s.last;
        other = s.other;
        size = s.size ∙ same.1;
        last_is = s.last_is;
        parts = one.1 ∙ value_rest s.value s.last rest;
        says = s.says ∙ ap (λ t. hit t (cas_said (has_cas (rows.Reply op)) s.head.cas) s.value) same.0 ∙ ap (λ (t : Option ℕ). hit head.flags t s.value) (same_cas_said (has_cas (rows.Reply op)) s.head.cas head.cas same.2);
      }

  pub value_goes : (head : Head) (line x : List ℕ) (reply : ReplyValue) → IsLine (rows.Reply op) key Value head line → Spells op key (line ++ 10 ∷ x) reply → HitRest op key head x [] reply
  value_goes head line x reply is s = value_heads head line x (line ++ 10 ∷ x) [] reply is (sym (append-nil (line ++ 10 ∷ x))) s

  pub value_back : (head : Head) (line x : List ℕ) (reply : ReplyValue) → IsLine (rows.Reply op) key Value head line → HitRest op key head x [] reply → Spells op key (line ++ 10 ∷ x) reply
  value_back head line x reply is r = with_value (record { head = head; line = line; value = r.value; last = r.last; line_is = is; size = r.size; other = r.other; last_is = r.last_is; parts = ap (λ t. line ++ 10 ∷ t) r.parts; says = r.says })

  -- behind a line that is a reply
  pub alone_goes : (first : Word) (head : Head) (line x : List ℕ) (said reply : ReplyValue) → IsLine (rows.Reply op) key first head line → said_alone first head line ≡ Some said → Spells op key (line ++ 10 ∷ x) reply → (x ≡ []) × (said ≡ reply)
  alone_goes first head line x said reply is says (alone s) =
      let one = line_one line s.line x [] is.no_end s.line_is.no_end s.parts in
      let there : IsLine (rows.Reply op) key s.first s.head line = subst (λ (t : List ℕ). IsLine (rows.Reply op) key s.first s.head t) (sym one.0) s.line_is in
      let same : s.first ≡ first = first_one (rows.Reply op) (rows.Reply op) key s.first first s.head head line there is in
      let alike = said_one op key first head s.head line is (subst (λ (t : Word). IsLine (rows.Reply op) key t s.head line) same there) in
      let both : Some said ≡ Some reply = sym says ∙ alike ∙ ap (λ (t : List ℕ). said_alone first s.head t) one.0 ∙ ap (λ (t : Word). said_alone t s.head s.line) (sym same) ∙ s.says in
      (one.1, cc)
  alone_goes first head line x said reply is says (with_value s) =
      let one = line_one line s.line x (s.value ++ 13 ∷ 10 ∷ (s.last ++ 10 ∷ [])) is.no_end s.line_is.no_end s.parts in
      let same : Value ≡ first = first_one (rows.Reply op) (rows.Reply op) key Value first s.head head line (subst (λ (t : List ℕ). IsLine (rows.Reply op) key Value s.head t) (sym one.0) s.line_is) is in
      absurd (none_some (said_alone first head line) said (ap (λ (t : Word). said_alone t head line) (sym same)) says)

  -- a reply goes on with nothing, and is one
  pub replies_one : (bytes more : List ℕ) (reply other : ReplyValue) → Spells op key bytes reply → Spells op key (bytes ++ more) other → (more ≡ []) × (reply ≡ other)
  replies_one bytes more reply other (alone s) t =
      let whole : bytes ++ more ≡ s.line ++ 10 ∷ more = ap (λ b. b ++ more) s.parts ∙ append_assoc s.line (10 ∷ []) more in
      alone_goes s.first s.head s.line more reply other s.line_is s.says (subst (λ (b : List ℕ). Spells op key b other) whole t)
  replies_one bytes more reply other (with_value s) t =
      let whole : bytes ++ more ≡ s.line ++ 10 ∷ ((s.value ++ 13 ∷ 10 ∷ (s.last ++ 10 ∷ [])) ++ more) = ap (λ b. b ++ more) s.parts ∙ append_assoc s.line (10 ∷ (s.value ++ 13 ∷ 10 ∷ (s.last ++ 10 ∷ []))) more in
      let r = value_goes s.head s.line ((s.value ++ 13 ∷ 10 ∷ (s.last ++ 10 ∷ [])) ++ more) other s.line_is (subst (λ (b : List ℕ). Spells op key b other) whole t) in
      let split : (s.value ++ 13 ∷ 10 ∷ (s.last ++ 10 ∷ [])) ++ more ≡ s.value ++ 13 ∷ 10 ∷ (s.last ++ 10 ∷ more) = append_assoc s.value (13 ∷ 10 ∷ (s.last ++ 10 ∷ [])) more ∙ ap (λ b. s.value ++ 13 ∷ 10 ∷ b) (append_assoc s.last (10 ∷ []) more) in
      let values = same_length s.value r.value (13 ∷ 10 ∷ (s.last ++ 10 ∷ more)) (13 ∷ 10 ∷ (r.last ++ 10 ∷ [])) (s.size ∙ sym r.size) (sym split ∙ r.parts) in
      let tails : s.last ++ 10 ∷ more ≡ r.last ++ 10 ∷ [] = ap (drop 2) values.1 in
      let lasts = line_one s.last r.last more [] s.last_is.no_end r.last_is.no_end tails in
      (lasts.1, s.says ∙ ap (hit s.head.flags (cas_said (has_cas (rows.Reply op)) s.head.cas)) values.0 ∙ sym r.says)

  -- a reply, and then the rest, where the line and the value begin
  pub last_heads : (head : Head) (line body y own rest : List ℕ) (reply : ReplyValue) → IsLine (rows.Reply op) key Value head line → length body ≡ head.size → line ++ 10 ∷ (body ++ y) ≡ own ++ rest → Spells op key own reply → (last : List ℕ) × (other : Head) × IsLine rows.AfterValue key End other last × (y ≡ 13 ∷ 10 ∷ (last ++ 10 ∷ rest))
  last_heads head line body y own rest reply is size e s =
      let r = value_heads head line (body ++ y) own rest reply is e s in
      let values = same_length body r.value y (13 ∷ 10 ∷ (r.last ++ 10 ∷ rest)) (size ∙ sym r.size) r.parts in
      (r.last, r.other, r.last_is, values.1)

  -- behind the line and the value
  pub last_goes : (head : Head) (line body y : List ℕ) (reply : ReplyValue) → IsLine (rows.Reply op) key Value head line → length body ≡ head.size → Spells op key (line ++ 10 ∷ (body ++ y)) reply → (last : List ℕ) × (other : Head) × IsLine rows.AfterValue key End other last × (y ≡ 13 ∷ 10 ∷ (last ++ 10 ∷ [])) × (reply ≡ hit head.flags (cas_said (has_cas (rows.Reply op)) head.cas) body)
  last_goes head line body y reply is size s =
      let r = value_goes head line (body ++ y) reply is s in
      let values = same_length body r.value y (13 ∷ 10 ∷ (r.last ++ 10 ∷ [])) (size ∙ sym r.size) r.parts in
      (r.last, r.other, r.last_is, values.1, r.says ∙ ap (hit head.flags (cas_said (has_cas (rows.Reply op)) head.cas)) (sym values.0))
