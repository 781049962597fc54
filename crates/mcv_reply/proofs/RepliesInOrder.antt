-- The bytes of a connection have one reading, in any cuts.
use Rattle.std.proofs.Common.{◌≡◌, ◌⊎◌, inl, inr, ℕ, true, List, [], ◌∷◌, ◌++◌, length, refl, sym, ap, subst, ◌∙◌, arith, append_assoc, length-append, Result, Ok, Err}
use Rattle.std.proofs.lemmas.List.{append-nil, nil_from_length}
use Rattle.std.proofs.lemmas.List.Elements.{All-head, All-tail}
use Rattle.mcv_base.specs.declared.operation.Op.{Op}
use Rattle.mcv_base.specs.Key.{is_key_word}
use Rattle.mcv_base.specs.Reply.{ReplyValue}
use Rattle.mcv_reply.specs.declared.fault.ReplyFault.{ReplyFault}
use Rattle.mcv_reply.specs.declared.fault.ReplyFault.TheVariants.{NotAReply, Closed, Memory}
use Rattle.mcv_reply.specs.Candidate.{is_clean}
use Rattle.mcv_reply.specs.Reader.{IsFront}
use Rattle.mcv_reply.specs.Reply.{Spells}
use Rattle.mcv_reply.specs.Replies as replies
use Rattle.mcv_reply.specs.Replies.{Connection, Open, HaveKeys, IsUnasked, Leg, Receives, Replied, Waits}
use Rattle.mcv_reply.proofs.Spelling.{replies_one}
use Rattle.mcv_reply.proofs.Words.{key_clean}

-- of two cuts of one list one is the longer one
pub two_cuts : (a m b n : List ℕ) → a ++ m ≡ b ++ n → ((c : List ℕ) × (b ≡ a ++ c) × (m ≡ c ++ n)) ⊎ ((c : List ℕ) × (a ≡ b ++ c) × (n ≡ c ++ m))
two_cuts [] m b n e = inl (b, refl, e)
two_cuts (x ∷ a) m [] n e = inr (x ∷ a, refl, sym e)
two_cuts (x ∷ a) m (y ∷ b) n e =
    let heads : x ≡ y = cc in
    let tails : a ++ m ≡ b ++ n = cc in
    elim (two_cuts a m b n tails) [ inl r ↦ inl (r.0, cc (heads, r.1), r.2) | inr r ↦ inr (r.0, cc (heads, r.1), r.2) ]

module _ (op : Op) (key : List ℕ) (clean : is_clean key ≡ true) where
  -- the bytes begin with one reply at most
  pub heads_one : (own more other rest : List ℕ) (x y : ReplyValue) → own ++ more ≡ other ++ rest → Spells op key own x → Spells op key other y → (own ≡ other) × (more ≡ rest) × (x ≡ y)
  heads_one own more other rest x y e s t = cut (two_cuts own more other rest e)
    where
      cut : ((c : List ℕ) × (other ≡ own ++ c) × (more ≡ c ++ rest)) ⊎ ((c : List ℕ) × (own ≡ other ++ c) × (rest ≡ c ++ more)) → (own ≡ other) × (more ≡ rest) × (x ≡ y)
      cut (inl r) =
          let one = replies_one op key clean own r.0 x y s (subst (λ (b : List ℕ). Spells op key b y) r.1 t) in
          (sym (r.1 ∙ ap (λ c. own ++ c) one.0 ∙ append-nil own), r.2 ∙ ap (λ c. c ++ rest) one.0, one.1)
      cut (inr r) =
          let one = replies_one op key clean other r.0 y x t (subst (λ (b : List ℕ). Spells op key b x) r.1 s) in
          (r.1 ∙ ap (λ c. other ++ c) one.0 ∙ append-nil other, sym (r.2 ∙ ap (λ c. c ++ more) one.0), sym one.1)

  -- what is the front of a reply begins with none
  pub front_heads : (bytes own more : List ℕ) (reply : ReplyValue) → IsFront op key bytes → bytes ≡ own ++ more → Spells op key own reply → ⊥
  front_heads bytes own more reply front e s =
      let goes = front.1 in
      let cut : bytes ++ goes.0 ≡ own ++ (more ++ goes.0) = ap (λ t. t ++ goes.0) e ∙ append_assoc own more goes.0 in
      let one = replies_one op key clean own (more ++ goes.0) reply goes.1 s (subst (λ (t : List ℕ). Spells op key t goes.1) cut goes.2) in
      let none : more ≡ [] = nil_from_length more (omega (arith, ap length one.0, length-append more goes.0)) in
      front.0 reply (subst (λ (t : List ℕ). Spells op key t reply) (sym (e ∙ ap (λ t. own ++ t) none ∙ append-nil own)) s)

-- the bytes begin with no reply to the oldest leg
abbrev pub Stops : List Leg → List ℕ → Type 0
Stops [] rest = Unit {0}
Stops (leg ∷ legs) rest = (own more : List ℕ) (reply : ReplyValue) → rest ≡ own ++ more → Spells leg.op leg.key own reply → ⊥

pub waits_stops : (legs : List Leg) (rest : List ℕ) → HaveKeys legs → Waits legs rest → Stops legs rest
waits_stops [] rest keys waits = tt
waits_stops (leg ∷ legs) rest keys waits = λ own more reply e s. front_heads leg.op leg.key (key_clean leg.key (All-head (λ l. is_key_word l.key ≡ true) leg legs keys)) rest own more reply waits e s

pub unasked_stops : (legs : List Leg) (rest : List ℕ) → IsUnasked legs rest → Stops legs rest
unasked_stops [] rest unasked = tt
unasked_stops (leg ∷ legs) rest unasked = λ own more reply e s. unasked [] own more reply (append-nil rest ∙ e) s

pub waits_asked : (legs : List Leg) (rest : List ℕ) → Waits legs rest → IsUnasked legs rest → ⊥
waits_asked [] rest waits unasked = unasked waits
waits_asked (leg ∷ legs) rest waits unasked = unasked waits.1.0 (rest ++ waits.1.0) [] waits.1.1 (sym (append-nil (rest ++ waits.1.0))) waits.1.2

pub keys_behind : (legs : List Leg) (bytes : List ℕ) (xs : List ReplyValue) (left : List Leg) (rest : List ℕ) → HaveKeys legs → Replied legs bytes xs left rest → HaveKeys left
keys_behind legs bytes [] left rest keys r = subst HaveKeys (sym r.0) keys
keys_behind [] bytes (x ∷ xs) left rest keys r = absurd r
keys_behind (leg ∷ legs) bytes (x ∷ xs) left rest keys r = keys_behind legs r.1 xs left rest (All-tail (λ l. is_key_word l.key ≡ true) leg legs keys) r.4

-- one reading up to where the bytes begin with no reply any more
pub one_reading : (legs : List Leg) (bytes : List ℕ) (xs ys : List ReplyValue) (left other : List Leg) (rest more : List ℕ) → HaveKeys legs → Replied legs bytes xs left rest → Stops left rest → Replied legs bytes ys other more → Stops other more
    → (xs ≡ ys) × (left ≡ other) × (rest ≡ more)
one_reading legs bytes [] [] left other rest more keys r stops s ends = (refl, r.0 ∙ sym s.0, r.1 ∙ sym s.1)
one_reading [] bytes [] (y ∷ ys) left other rest more keys r stops s ends = absurd s
one_reading (leg ∷ legs) bytes [] (y ∷ ys) left other rest more keys r stops s ends =
    let here : Stops (leg ∷ legs) rest = subst (λ (l : List Leg). Stops l rest) r.0 stops in
    absurd (here s.0 s.1 y (r.1 ∙ s.2) s.3)
one_reading [] bytes (x ∷ xs) ys left other rest more keys r stops s ends = absurd r
one_reading (leg ∷ legs) bytes (x ∷ xs) [] left other rest more keys r stops s ends =
    let here : Stops (leg ∷ legs) more = subst (λ (l : List Leg). Stops l more) s.0 ends in
    absurd (here r.0 r.1 x (s.1 ∙ r.2) r.3)
one_reading (leg ∷ legs) bytes (x ∷ xs) (y ∷ ys) left other rest more keys r stops s ends =
    let one = heads_one leg.op leg.key (key_clean leg.key (All-head (λ l. is_key_word l.key ≡ true) leg legs keys)) r.0 r.1 s.0 s.1 x y (sym r.2 ∙ s.2) r.3 s.3 in
    let rest_one = one_reading legs r.1 xs ys left other rest more (All-tail (λ l. is_key_word l.key ≡ true) leg legs keys) r.4 stops (subst (λ (t : List ℕ). Replied legs t ys other more) (sym one.1) s.4) ends in
    (cc (one.2, rest_one.0), rest_one.1, rest_one.2)

-- two pieces are read as one
pub replied_joined : (legs : List Leg) (a b : List ℕ) (xs ys : List ReplyValue) (mid left : List Leg) (held rest : List ℕ) → Replied legs a xs mid held → Replied mid (held ++ b) ys left rest → Replied legs (a ++ b) (xs ++ ys) left rest
replied_joined legs a b [] ys mid left held rest r s = subst (λ (l : List Leg). Replied l (a ++ b) ys left rest) r.0 (subst (λ (h : List ℕ). Replied mid (h ++ b) ys left rest) r.1 s)
replied_joined [] a b (x ∷ xs) ys mid left held rest r s = absurd r
replied_joined (leg ∷ legs) a b (x ∷ xs) ys mid left held rest r s = (r.0, r.1 ++ b, ap (λ t. t ++ b) r.2 ∙ append_assoc r.0 r.1 b, r.3, replied_joined legs r.1 b xs ys mid left held rest r.4 s)

-- a leg that is sent later changes no reply
pub replied_later : (legs : List Leg) (bytes : List ℕ) (xs : List ReplyValue) (left : List Leg) (rest : List ℕ) (leg : Leg) → Replied legs bytes xs left rest → Replied (legs ++ leg ∷ []) bytes xs (left ++ leg ∷ []) rest
replied_later legs bytes [] left rest leg r = (ap (λ l. l ++ leg ∷ []) r.0, r.1)
replied_later [] bytes (x ∷ xs) left rest leg r = absurd r
replied_later (first ∷ legs) bytes (x ∷ xs) left rest leg r = (r.0, r.1, r.2, r.3, replied_later legs r.1 xs left rest leg r.4)

module _ (legs : List Leg) (held a b : List ℕ) (xs ys : List ReplyValue) (mid : List Leg) (between : List ℕ) (r : Replied legs (held ++ a) xs mid between) where
  joined : (left : List Leg) (rest : List ℕ) → Replied mid (between ++ b) ys left rest → Replied legs (held ++ (a ++ b)) (xs ++ ys) left rest
  joined left rest s = subst (λ (t : List ℕ). Replied legs t (xs ++ ys) left rest) (append_assoc held a b) (replied_joined legs (held ++ a) b xs ys mid left between rest r s)

  pub receives_on : (result : Result Unit ReplyFault) (new : Connection) → Receives (Open mid between) b ys result new → Receives (Open legs held) (a ++ b) (xs ++ ys) result new
  receives_on (Ok done) new s = (s.0, s.1, joined s.0 s.1 s.2, s.3, s.4)
  receives_on (Err NotAReply) new s = (s.0, s.1, joined s.0 s.1 s.2, s.3, s.4)
  receives_on (Err Closed) new s = absurd s
  receives_on (Err Memory) new s = (s.0, s.1, joined s.0 s.1 s.2, s.3)

pub receives_joined : (old mid new : Connection) (a b : List ℕ) (xs ys : List ReplyValue) (result : Result Unit ReplyFault) → Receives old a xs (Ok tt) mid → Receives mid b ys result new → Receives old (a ++ b) (xs ++ ys) result new
receives_joined (Open legs held) mid new a b xs ys result r s = receives_on legs held a b xs ys r.0 r.1 r.2 result new (subst (λ (m : Connection). Receives m b ys result new) r.4 s)
receives_joined replies.Closed mid new a b xs ys result r s = absurd (cc (r.1))

-- the same bytes give the same replies, whether it goes on or not
pub receives_one : (legs : List Leg) (held piece : List ℕ) (xs ys : List ReplyValue) (new other : Connection) → HaveKeys legs → Receives (Open legs held) piece xs (Ok tt) new → Receives (Open legs held) piece ys (Ok tt) other → (xs ≡ ys) × (new ≡ other)
receives_one legs held piece xs ys new other keys r s =
    let one = one_reading legs (held ++ piece) xs ys r.0 s.0 r.1 s.1 keys r.2 (waits_stops r.0 r.1 (keys_behind legs (held ++ piece) xs r.0 r.1 keys r.2) r.3) s.2 (waits_stops s.0 s.1 (keys_behind legs (held ++ piece) ys s.0 s.1 keys s.2) s.3) in
    (one.0, cc (r.4, s.4, one.1, one.2))

pub fault_one : (legs : List Leg) (held piece : List ℕ) (xs ys : List ReplyValue) (new other : Connection) → HaveKeys legs → Receives (Open legs held) piece xs (Err NotAReply) new → Receives (Open legs held) piece ys (Err NotAReply) other → xs ≡ ys
fault_one legs held piece xs ys new other keys r s = (one_reading legs (held ++ piece) xs ys r.0 s.0 r.1 s.1 keys r.2 (unasked_stops r.0 r.1 r.3) s.2 (unasked_stops s.0 s.1 s.3)).0

pub never_both : (legs : List Leg) (held piece : List ℕ) (xs ys : List ReplyValue) (new other : Connection) → HaveKeys legs → Receives (Open legs held) piece xs (Ok tt) new → Receives (Open legs held) piece ys (Err NotAReply) other → ⊥
never_both legs held piece xs ys new other keys r s =
    let one = one_reading legs (held ++ piece) xs ys r.0 s.0 r.1 s.1 keys r.2 (waits_stops r.0 r.1 (keys_behind legs (held ++ piece) xs r.0 r.1 keys r.2) r.3) s.2 (unasked_stops s.0 s.1 s.3) in
    waits_asked s.0 s.1 (subst (λ (l : List Leg). Waits l s.1) one.1 (subst (λ (t : List ℕ). Waits r.0 t) one.2 r.3)) s.3
