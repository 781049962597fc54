-- Replies, as their bytes are written.
use Rattle.std.proofs.Common.{◌≡◌, ◌≢◌, ℕ, inl, inr, true, not, eqb, List, [], ◌∷◌, ◌++◌, refl, arith, None, Ok, Err}
use Rattle.std.specs.Prelude.{codes}
use Rattle.std.specs.List.{All, list_all}
use Rattle.std.proofs.lemmas.Bool.{and_parts, not-true, eqb-false}
use Rattle.std.proofs.lemmas.List.Elements.{All-nil, All-cons}
use Rattle.mcv_base.specs.declared.operation.Op.TheVariants.{Get, Delete, Incr}
use Rattle.mcv_base.specs.Reply.{hit, miss, deleted, number, fault}
use Rattle.mcv_reply.specs.declared.fault.ReplyFault.TheVariants.{NotAReply}
use Rattle.mcv_reply.specs.declared.word.Word.TheVariants.{Count, Deleted, End, ServerError}
use Rattle.mcv_reply.specs.declared.word.Row.TheVariants.{Reply}
use Rattle.mcv_reply.specs.declared.candidate.Head.{Head}
use Rattle.mcv_reply.specs.Line.{IsLine}
use Rattle.mcv_reply.specs.Candidate.{zero_head}
use Rattle.mcv_reply.specs.Reply.{Spells, alone, with_value}
use Rattle.mcv_reply.specs.Replies.{Leg, Open, Closed, Receives, Sends}

without_end : (bytes : List ℕ) → list_all (λ b. not (eqb b 10)) bytes ≡ true → All (λ b. b ≢ 10) bytes
without_end [] e = All-nil (λ b. b ≢ 10)
without_end (b ∷ bytes) e =
    let parts = and_parts _ _ e in
    All-cons (λ x. x ≢ 10) b bytes (eqb-false b 10 (not-true (eqb b 10) parts.0)) (without_end bytes parts.1)

-- `END` with a CR, for a get of `a`, and the line behind a value
abbrev end_text : List ℕ
end_text = codes "END" ++ 13 ∷ []

end_of_get : IsLine (Reply Get) (codes "a") End zero_head end_text
end_of_get = record {
  may = (0, omega arith, refl);
  writes = record { gap = 0; written = codes "END"; after = 13 ∷ []; parts = refl; enough = omega arith; is = refl; rest = inr (refl, refl) };
  no_end = without_end end_text refl;
  short = omega arith;
}

-- the Fault keeps its line without CR LF, a space at its front too
pub a_fault : Spells Delete (codes "a") (codes " SERVER_ERROR no" ++ 13 ∷ 10 ∷ []) (fault (codes " SERVER_ERROR no"))
a_fault = alone (record {
  first = ServerError;
  line = codes " SERVER_ERROR no" ++ 13 ∷ [];
  head = zero_head;
  line_is = record {
    may = (4, omega arith, refl);
    writes = record { gap = 1; written = codes "SERVER_ERROR"; after = codes " no" ++ 13 ∷ []; parts = refl; enough = omega arith; is = refl; rest = inl refl };
    no_end = without_end (codes " SERVER_ERROR no" ++ 13 ∷ []) refl;
    short = omega arith;
  };
  parts = refl;
  says = refl;
})

-- the numbers of `VALUE a 007 1`
abbrev seven_and_one : Head
seven_and_one = record { flags = 7; size = 1; cas = 0; count = 0 }

-- a hit with flags 7 and value `x`, leading zeros and LF alone
pub a_hit : Spells Get (codes "a") (codes "VALUE a 007 1" ++ 10 ∷ (codes "x" ++ 13 ∷ 10 ∷ (codes "END" ++ 13 ∷ 10 ∷ []))) (hit 7 None (codes "x"))
a_hit = with_value (record {
  head = seven_and_one;
  line = codes "VALUE a 007 1";
  value = codes "x";
  last = end_text;
  line_is = record {
    may = (1, omega arith, refl);
    writes = record {
      gap = 0;
      written = codes "VALUE";
      after = codes " a 007 1";
      parts = refl;
      enough = omega arith;
      is = refl;
      rest = record {
        gap = 1;
        written = codes "a";
        after = codes " 007 1";
        parts = refl;
        enough = omega arith;
        is = refl;
        rest = record {
          gap = 1;
          written = codes "007";
          after = codes " 1";
          parts = refl;
          enough = omega arith;
          is = ((λ e. absurd (cc)), (omega arith, omega arith, (omega arith, omega arith, (omega arith, omega arith, tt))), refl, omega arith);
          rest = record { gap = 1; written = codes "1"; after = []; parts = refl; enough = omega arith; is = ((λ e. absurd (cc)), (omega arith, omega arith, tt), refl, omega arith); rest = tt };
        };
      };
    };
    no_end = without_end (codes "VALUE a 007 1") refl;
    short = omega arith;
  };
  size = refl;
  other = zero_head;
  last_is = record {
    may = (0, omega arith, refl);
    writes = record { gap = 0; written = codes "END"; after = 13 ∷ []; parts = refl; enough = omega arith; is = refl; rest = inr (refl, refl) };
    no_end = without_end end_text refl;
    short = omega arith;
  };
  parts = refl;
  says = refl;
})

-- a number, with zeros in front and a space behind
pub a_number : Spells Incr (codes "a") (codes "06 " ++ 13 ∷ 10 ∷ []) (number 6)
a_number = alone (record {
  first = Count;
  line = codes "06 " ++ 13 ∷ [];
  head = record zero_head { count = 6 };
  line_is = record {
    may = (0, omega arith, refl);
    writes = record {
      gap = 0;
      written = codes "06";
      after = 32 ∷ 13 ∷ [];
      parts = refl;
      enough = omega arith;
      is = ((λ e. absurd (cc)), (omega arith, omega arith, (omega arith, omega arith, tt)), refl, omega arith);
      rest = inl (refl, inr (refl, refl));
    };
    no_end = without_end (codes "06 " ++ 13 ∷ []) refl;
    short = omega arith;
  };
  parts = refl;
  says = refl;
})

pub a_miss : Spells Get (codes "a") (codes "END" ++ 13 ∷ 10 ∷ []) miss
a_miss = alone (record { first = End; line = end_text; head = zero_head; line_is = end_of_get; parts = refl; says = refl })

pub a_deleted : Spells Delete (codes "b") (codes "DELETED" ++ 13 ∷ 10 ∷ []) deleted
a_deleted = alone (record {
  first = Deleted;
  line = codes "DELETED" ++ 13 ∷ [];
  head = zero_head;
  line_is = record {
    may = (0, omega arith, refl);
    writes = record { gap = 0; written = codes "DELETED"; after = 13 ∷ []; parts = refl; enough = omega arith; is = refl; rest = inr (refl, refl) };
    no_end = without_end (codes "DELETED" ++ 13 ∷ []) refl;
    short = omega arith;
  };
  parts = refl;
  says = refl;
})

-- a get of `a`, and behind it a delete of `b`
abbrev a_get : Leg
a_get = record { op = Get; key = codes "a" }

abbrev a_delete : Leg
a_delete = record { op = Delete; key = codes "b" }

pub two_sent : Sends (Open (a_get ∷ []) []) a_delete (Ok tt) (Open (a_get ∷ a_delete ∷ []) [])
two_sent = refl

-- both replies in one piece: each leg has its own, and none is left
pub two_received : Receives (Open (a_get ∷ a_delete ∷ []) []) (codes "END" ++ 13 ∷ 10 ∷ (codes "DELETED" ++ 13 ∷ 10 ∷ [])) (miss ∷ deleted ∷ []) (Ok tt) (Open [] [])
two_received = ([], [], (codes "END" ++ 13 ∷ 10 ∷ [], codes "DELETED" ++ 13 ∷ 10 ∷ [], refl, a_miss, (codes "DELETED" ++ 13 ∷ 10 ∷ [], [], refl, a_deleted, (refl, refl))), refl, refl)

-- a byte that nobody asked for
pub none_asked : Receives (Open [] []) (69 ∷ []) [] (Err NotAReply) Closed
none_asked = ([], 69 ∷ [], (refl, refl), (λ e. absurd (cc)), refl)
