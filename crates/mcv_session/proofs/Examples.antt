-- The definitions at small sessions.
use Rattle.std.proofs.Common.{◌≡◌, ◌≢◌, ℕ, ◌+◌, List, [], ◌∷◌, true, false, None, refl, codes, arith, Result, Ok, Err}
use Rattle.std.specs.Prelude.{pos}
use Rattle.std.proofs.lemmas.List.Elements.{All-from_recursion}
use Rattle.mcv_base.specs.declared.operation.Op.TheVariants as ops
use Rattle.mcv_base.specs.Reply.{ReplyValue, hit, miss, deleted, fault}
use Rattle.mcv_text.specs.declared.item.Refusal.TheVariants as refusals
use Rattle.mcv_text.specs.Request.{AskValue, RequestValue, asking, version, quit, asked, refused}
use Rattle.mcv_text.specs.Line.{whole, meaning}
use Rattle.mcv_text.specs.Stream.{Held, IsLine, by_line, in_line}
use Rattle.mcv_session.specs.declared.desk.DeskFault.{DeskFault}
use Rattle.mcv_session.specs.declared.desk.DeskFault.TheVariants as faults
use Rattle.mcv_session.specs.declared.session.Flow.TheVariants.{GoesOn, Ends}
use Rattle.mcv_session.specs.Exchange.{by_desk, by_version, by_quit, by_refusal, text_of}
use Rattle.mcv_session.specs.Session.{Chain, Serves, taken, flow_after}

abbrev get_a : AskValue
get_a = record { op = ops.Get; keys = codes "a" ∷ []; flags = 0; exptime = pos 0; body = []; cas = None; delta = 0; noreply = false }

abbrev get_a_b : AskValue
get_a_b = record { op = ops.Get; keys = codes "a" ∷ codes "b" ∷ []; flags = 0; exptime = pos 0; body = []; cas = None; delta = 0; noreply = false }

abbrev silent : AskValue
silent = record { op = ops.Delete; keys = codes "a" ∷ []; flags = 0; exptime = pos 0; body = []; cas = None; delta = 0; noreply = true }

two_misses : text_of (by_desk get_a_b (Ok (miss ∷ miss ∷ []))) ≡ codes "END\r\n"
two_misses = refl

error_alone : text_of (by_desk get_a_b (Ok (hit 0 None (codes "x") ∷ fault (codes "ERROR") ∷ []))) ≡ codes "ERROR\r\n"
error_alone = refl

fault_alone : text_of (by_desk get_a_b (Err faults.NoRoute)) ≡ codes "SERVER_ERROR no route\r\n"
fault_alone = refl

no_reply : text_of (by_desk silent (Ok (deleted ∷ []))) ≡ []
no_reply = refl

no_fault : text_of (by_desk silent (Err faults.Busy)) ≡ []
no_fault = refl

own_version : text_of by_version ≡ codes "VERSION mcv 1\r\n"
own_version = refl

no_text : text_of by_quit ≡ []
no_text = refl

bad_line : text_of (by_refusal refusals.BadLine) ≡ codes "CLIENT_ERROR bad command line\r\n"
bad_line = refl

-- nothing behind quit is taken
up_to_quit : taken (asked version ∷ asked quit ∷ asked version ∷ []) ≡ asked version ∷ asked quit ∷ []
up_to_quit = refl

past_unknown : taken (refused refusals.UnknownCommand ∷ asked version ∷ []) ≡ refused refusals.UnknownCommand ∷ asked version ∷ []
past_unknown = refl

ended : flow_after (asked version ∷ refused refusals.BadDataChunk ∷ []) ≡ Ends
ended = refl

not_ended : flow_after (asked version ∷ refused refusals.ValueTooLarge ∷ []) ≡ GoesOn
not_ended = refl

-- a desk that counts what it was asked
abbrev counts : ℕ → RequestValue → Result (List ReplyValue) DeskFault → ℕ → Type 0
counts old request answer new = new ≡ old + 1

asked_twice : Chain counts 0 (by_desk get_a (Ok (miss ∷ [])) ∷ by_version ∷ by_desk get_a (Err faults.Busy) ∷ []) 2
asked_twice = (1, (refl, refl), (1, refl, (2, (refl, tt), refl)))

get_line : IsLine (codes "get a\r")
get_line = record { no_end = All-from_recursion (λ b. b ≢ 10) (codes "get a\r") ((λ e. omega arith), ((λ e. omega arith), ((λ e. omega arith), ((λ e. omega arith), ((λ e. omega arith), ((λ e. omega arith), tt)))))); short = omega arith }

quit_line : IsLine (codes "quit")
quit_line = record { no_end = All-from_recursion (λ b. b ≢ 10) (codes "quit") ((λ e. omega arith), ((λ e. omega arith), ((λ e. omega arith), ((λ e. omega arith), tt)))); short = omega arith }

empty_line : IsLine []
empty_line = record { no_end = All-from_recursion (λ b. b ≢ 10) [] tt; short = omega arith }

says_get : meaning (codes "get a\r") ≡ whole (asking get_a)
unfolding meaning
says_get = refl

-- a miss, and then quit: the desk was asked once
get_and_quit : Serves counts 0 1 (Held []) (codes "get a\r\nquit\n") (codes "END\r\n") Ends (Held [])
unfolding meaning
get_and_quit = record {
  items = asked (asking get_a) ∷ asked quit ∷ [];
  reads = (
    Held (codes "quit\n"),
    by_line (codes "get a\r") (codes "quit\n") get_line refl (refl, refl),
    (Held [], by_line (codes "quit") [] quit_line refl (refl, refl), (in_line empty_line, refl)),
  );
  answers = record {
    log = by_desk get_a (Ok (miss ∷ [])) ∷ by_quit ∷ [];
    takes = refl;
    chain = (1, (refl, refl), (1, refl, refl));
    writes = refl;
    flow_is = refl;
  };
}

says_quit : meaning (codes "quit") ≡ whole quit
unfolding meaning
says_quit = refl
