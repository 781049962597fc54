-- A reply to a leg is one that may answer its operation.
use Rattle.std.proofs.Common.{◌≡◌, ℕ, Bool, true, false, List, ◌++◌, Option, Some, Result, Ok, Err, refl, sym, ap, ◌∙◌}
use Rattle.std.specs.List.{Contains, list_all}
use Rattle.std.proofs.lemmas.List.Elements.{All-contains}
use Rattle.std.proofs.lemmas.List.Sums.{AllPass-from_list_all}
use Rattle.mcv_base.specs.declared.operation.Op.{Op}
use Rattle.mcv_base.specs.declared.operation.Op.TheVariants as ops
use Rattle.mcv_base.specs.declared.reply.Reply.{Reply}
use Rattle.mcv_base.specs.Operation.{is_adjusting, is_reading, is_same_op}
use Rattle.mcv_base.specs.Reply.{ReplyValue, hit, miss, stored, not_stored, exists, not_found, deleted, touched, number, may_answer, reply_value}
use Rattle.mcv_reply.specs.declared.fault.ReplyFault.{ReplyFault}
use Rattle.mcv_reply.specs.declared.fault.ReplyFault.TheVariants as faults
use Rattle.mcv_reply.specs.declared.word.Word.{Word}
use Rattle.mcv_reply.specs.declared.candidate.Head.{Head}
use Rattle.mcv_reply.specs.declared.word.Word.TheVariants.{End, Value, Stored, NotStored, Exists, NotFound, Deleted, Touched, Count, Error, ClientError, ServerError, Version}
use Rattle.mcv_reply.specs.Word.{answers}
use Rattle.mcv_reply.specs.Reply.{Spells, alone, with_value, cas_said, said_alone}
use Rattle.mcv_reply.specs.Reader.{FeedsAt, ReaderState, Fed, Answered, Closed}

-- what a first word says may answer the operation
abbrev fits : Op → Word → Bool
fits op End = may_answer op miss
fits op Value = is_reading op
fits op Stored = may_answer op stored
fits op NotStored = may_answer op not_stored
fits op Exists = may_answer op exists
fits op NotFound = may_answer op not_found
fits op Deleted = may_answer op deleted
fits op Touched = may_answer op touched
fits op Count = is_adjusting op
fits op Error = true
fits op ClientError = true
fits op ServerError = true
fits op Version = false

all_fit : (op : Op) → list_all (fits op) (answers op) ≡ true
all_fit ops.Get = refl
all_fit ops.Gets = refl
all_fit ops.Set = refl
all_fit ops.Add = refl
all_fit ops.Replace = refl
all_fit ops.Append = refl
all_fit ops.Prepend = refl
all_fit ops.Cas = refl
all_fit ops.Delete = refl
all_fit ops.Touch = refl
all_fit ops.Incr = refl
all_fit ops.Decr = refl

fit : (op : Op) (first : Word) → Contains (answers op) first → fits op first ≡ true
fit op first = All-contains (λ w. fits op w ≡ true) (answers op) first (AllPass-from_list_all (fits op) (answers op) (all_fit op))

said : (op : Op) (x reply : ReplyValue) → may_answer op x ≡ true → Some x ≡ Some reply → may_answer op reply ≡ true
said op x reply may is = let same : x ≡ reply = cc in ap (may_answer op) (sym same) ∙ may

alone_may : (op : Op) (first : Word) (head : Head) (line : List ℕ) (reply : ReplyValue) → fits op first ≡ true → said_alone first head line ≡ Some reply → may_answer op reply ≡ true
alone_may op End head line reply fit is = said op miss reply fit is
alone_may op Value head line reply fit is = absurd (cc)
alone_may op Stored head line reply fit is = said op stored reply fit is
alone_may op NotStored head line reply fit is = said op not_stored reply fit is
alone_may op Exists head line reply fit is = said op exists reply fit is
alone_may op NotFound head line reply fit is = said op not_found reply fit is
alone_may op Deleted head line reply fit is = said op deleted reply fit is
alone_may op Touched head line reply fit is = said op touched reply fit is
alone_may op Count head line reply fit is = said op (number head.count) reply fit is
alone_may op Error head line reply fit is = said op _ reply refl is
alone_may op ClientError head line reply fit is = said op _ reply refl is
alone_may op ServerError head line reply fit is = said op _ reply refl is
alone_may op Version head line reply fit is = absurd (cc)

hit_may : (op : Op) (flags cas : ℕ) (value : List ℕ) → is_reading op ≡ true → may_answer op (hit flags (cas_said (is_same_op op ops.Gets) cas) value) ≡ true
hit_may ops.Get flags cas value reads = refl
hit_may ops.Gets flags cas value reads = refl
hit_may ops.Set flags cas value reads = absurd (cc)
hit_may ops.Add flags cas value reads = absurd (cc)
hit_may ops.Replace flags cas value reads = absurd (cc)
hit_may ops.Append flags cas value reads = absurd (cc)
hit_may ops.Prepend flags cas value reads = absurd (cc)
hit_may ops.Cas flags cas value reads = absurd (cc)
hit_may ops.Delete flags cas value reads = absurd (cc)
hit_may ops.Touch flags cas value reads = absurd (cc)
hit_may ops.Incr flags cas value reads = absurd (cc)
hit_may ops.Decr flags cas value reads = absurd (cc)

pub spelled_may_answer : (op : Op) (key bytes : List ℕ) (reply : ReplyValue) → Spells op key bytes reply → may_answer op reply ≡ true
spelled_may_answer op key bytes reply (alone s) = alone_may op s.first s.head s.line reply (fit op s.first s.line_is.may) s.says
spelled_may_answer op key bytes reply (with_value s) = ap (may_answer op) s.says ∙ hit_may op s.head.flags s.head.cas s.value (fit op Value s.line_is.may)

pub given_may_answer : (op : Op) (key : List ℕ) (state : ReaderState) (piece : List ℕ) (reply : Reply) (new : ReaderState) → FeedsAt op key state piece (Ok (Some reply)) new → may_answer op (reply_value reply) ≡ true
given_may_answer op key (Fed bytes) piece reply new answers = spelled_may_answer op key (bytes ++ piece) (reply_value reply) answers.0
given_may_answer op key Answered piece reply new is = absurd (let e : ◌≡◌ {A = Result (Option Reply) ReplyFault} (Ok (Some reply)) (Err faults.NotAReply) = is.0 in cc)
given_may_answer op key Closed piece reply new is = absurd (let e : ◌≡◌ {A = Result (Option Reply) ReplyFault} (Ok (Some reply)) (Err faults.Closed) = is.0 in cc)
