-- The numbers of legs beside the legs of their connection.
use Rattle.std.proofs.Common.{◌≡◌, ◌≤◌, ◌+◌, ℕ, true, false, List, [], ◌∷◌, ◌++◌, length, map, drop, refl, sym, ap, subst, ◌∙◌, arith, append_assoc, length-append, length-drop, Option, Some, None, Result, Ok, Err}
use Rattle.std.specs.Option.{option_to_list}
use Rattle.std.proofs.lemmas.List.{length-map, map-append, nil_from_length}
use Rattle.mcv_base.specs.declared.request.LegId.{LegId}
use Rattle.mcv_base.specs.Reply.{ReplyValue}
use Rattle.mcv_pipeline.specs.declared.landed.Landed.{Landed}
use Rattle.mcv_pipeline.specs.Pipeline.{HasNumbers, LosesFrom, leg_of, reply_of}
use Rattle.mcv_reply.specs.declared.fault.ReplyFault.{ReplyFault}
use Rattle.mcv_reply.specs.declared.fault.ReplyFault.TheVariants as faults
use Rattle.mcv_reply.specs.Replies.{Connection, Open, Closed, Leg, Receives, Replied, Sends, is_open}

-- each reply is a leg's
pub replied_length : (legs : List Leg) (bytes : List ℕ) (replies : List ReplyValue) (left : List Leg) (rest : List ℕ) → Replied legs bytes replies left rest → length legs ≡ length replies + length left
replied_length legs bytes [] left rest r = omega (arith, ap length r.0)
replied_length [] bytes (reply ∷ replies) left rest r = absurd r
replied_length (leg ∷ legs) bytes (reply ∷ replies) left rest r = let more = replied_length legs r.1 replies left rest r.4 in omega (arith, more)

received_few : (legs : List Leg) (held piece : List ℕ) (replies : List ReplyValue) (result : Result Unit ReplyFault) (new : Connection) → Receives (Open legs held) piece replies result new → length replies ≤ length legs
received_few legs held piece replies (Ok done) new r = omega (arith, replied_length legs (held ++ piece) replies r.0 r.1 r.2)
received_few legs held piece replies (Err faults.NotAReply) new r = omega (arith, replied_length legs (held ++ piece) replies r.0 r.1 r.2)
received_few legs held piece replies (Err faults.Closed) new r = absurd r
received_few legs held piece replies (Err faults.Memory) new r = omega (arith, replied_length legs (held ++ piece) replies r.0 r.1 r.2)

pub numbers_few : (old : Connection) (numbers : List LegId) (piece : List ℕ) (replies : List ReplyValue) (result : Result Unit ReplyFault) (new : Connection) → is_open old ≡ true → HasNumbers numbers old → Receives old piece replies result new → length replies ≤ length numbers
numbers_few (Open legs held) numbers piece replies result new now has r = omega (arith, received_few legs held piece replies result new r, has)
numbers_few Closed numbers piece replies result new now has r = absurd (cc)

-- the legs that have no reply keep their numbers
pub numbers_left : (old new : Connection) (numbers left : List LegId) (piece : List ℕ) (landed : List Landed) (result : Result Unit ReplyFault) → HasNumbers numbers old → Receives old piece (map reply_of landed) result new → numbers ≡ map leg_of landed ++ left → HasNumbers left new
numbers_left Closed new numbers left piece landed result has r is = subst (λ (c : Connection). HasNumbers left c) (sym r.2) tt
numbers_left (Open legs held) new numbers left piece landed (Ok done) has r is =
    let all = replied_length legs (held ++ piece) (map reply_of landed) r.0 r.1 r.2 in
    let count = ap length is ∙ length-append (map leg_of landed) left in
    let numbered = length-map landed leg_of in
    let replied = length-map landed reply_of in
    let same : length left ≡ length r.0 = omega (arith, all, has, count, numbered, replied) in
    subst (λ (c : Connection). HasNumbers left c) (sym r.4) same
numbers_left (Open legs held) new numbers left piece landed (Err faults.NotAReply) has r is = subst (λ (c : Connection). HasNumbers left c) (sym r.4) tt
numbers_left (Open legs held) new numbers left piece landed (Err faults.Closed) has r is = absurd r
numbers_left (Open legs held) new numbers left piece landed (Err faults.Memory) has r is = subst (λ (c : Connection). HasNumbers left c) (sym r.3) tt

-- a leg that is sent has its number
pub numbers_more : (old new : Connection) (numbers : List LegId) (number : LegId) (leg : Leg) → HasNumbers numbers old → Sends old leg (Ok tt) new → HasNumbers (numbers ++ number ∷ []) new
numbers_more (Open legs held) new numbers number leg has s =
    let same : length (numbers ++ number ∷ []) ≡ length (legs ++ leg ∷ []) = omega (arith, has, length-append numbers (number ∷ []), length-append legs (leg ∷ [])) in
    subst (λ (c : Connection). HasNumbers (numbers ++ number ∷ []) c) (sym s) same
numbers_more Closed new numbers number leg has s = let e = s.0 in absurd (cc)

pub numbers_same : (old new : Connection) (numbers : List LegId) (leg : Leg) (fault : ReplyFault) → HasNumbers numbers old → Sends old leg (Err fault) new → HasNumbers numbers new
numbers_same (Open legs held) new numbers leg faults.NotAReply has s = absurd s
numbers_same (Open legs held) new numbers leg faults.Closed has s = absurd s
numbers_same (Open legs held) new numbers leg faults.Memory has s = subst (λ (c : Connection). HasNumbers numbers c) (sym s) has
numbers_same Closed new numbers leg fault has s = subst (λ (c : Connection). HasNumbers numbers c) (sym s.1) tt

-- where nothing is read any more, and where memory runs out
pub sends_closed : (old : Connection) (leg : Leg) → is_open old ≡ false → Sends old leg (Err faults.Closed) old
sends_closed (Open legs held) leg now = absurd (cc)
sends_closed Closed leg now = (refl, refl)

pub sends_memory : (old : Connection) (leg : Leg) → is_open old ≡ true → Sends old leg (Err faults.Memory) old
sends_memory (Open legs held) leg now = refl
sends_memory Closed leg now = absurd (cc)

pub receives_closed : (old : Connection) (piece : List ℕ) → is_open old ≡ false → Receives old piece [] (Err faults.Closed) old
receives_closed (Open legs held) piece now = absurd (cc)
receives_closed Closed piece now = (refl, refl, refl)

pub receives_memory : (old : Connection) (piece : List ℕ) → is_open old ≡ true → Receives old piece [] (Err faults.Memory) Closed
receives_memory (Open legs held) piece now = (legs, held ++ piece, (refl, refl), refl)
receives_memory Closed piece now = absurd (cc)

pub loses_open : (c : Connection) (numbers : List LegId) → is_open c ≡ true → LosesFrom c numbers None numbers
loses_open (Open legs held) numbers now = (refl, refl)
loses_open Closed numbers now = absurd (cc)

pub loses_closed : (c : Connection) (numbers left : List LegId) (found : Option LegId) → is_open c ≡ false → numbers ≡ option_to_list found ++ left → left ≡ drop 1 numbers → LosesFrom c numbers found left
loses_closed (Open legs held) numbers left found now is rest = absurd (cc)
loses_closed Closed numbers left None now is rest =
    let none : length numbers ≡ 0 = omega (arith, ap length is, ap length rest, length-drop 1 numbers) in
    let nil = nil_from_length numbers none in
    (nil, sym is ∙ nil)
loses_closed Closed numbers left (Some number) now is rest = is

pub numbers_shut : (c : Connection) (numbers : List LegId) → is_open c ≡ false → HasNumbers numbers c
numbers_shut (Open legs held) numbers now = absurd (cc)
numbers_shut Closed numbers now = tt

-- one more at the end
pub map_more : {A B : Type 0} (f : A → B) (more : List A) (x : A) (rest : List B) → map f (more ++ x ∷ []) ++ rest ≡ map f more ++ f x ∷ rest
map_more f more x rest = ap (λ t. t ++ rest) (map-append f more (x ∷ [])) ∙ append_assoc (map f more) (f x ∷ []) rest
