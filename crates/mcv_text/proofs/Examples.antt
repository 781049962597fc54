-- The definitions at small lines and streams.
use Rattle.std.proofs.Common.{◌≡◌, ◌≢◌, [], ◌∷◌, true, false, Some, None, refl, codes, arith}
use Rattle.std.specs.Prelude.{pos, negsuc}
use Rattle.std.proofs.lemmas.List.Elements.{All-from_recursion}
use Rattle.mcv_base.specs.declared.operation.Op.TheVariants as ops
use Rattle.mcv_base.specs.Reply.{hit, miss, deleted, not_found, fault}
use Rattle.mcv_text.specs.declared.item.Refusal.TheVariants as refusals
use Rattle.mcv_text.specs.Request.{AskValue, asking, version, refused}
use Rattle.mcv_text.specs.Words.{line_words, number32_said, signed_said}
use Rattle.mcv_text.specs.Line.{whole, stores, unknown, bad, too_large, meaning}
use Rattle.mcv_text.specs.Stream.{Held, Failed, IsLine, by_line, AfterValue, no_lf, in_line, Reads}
use Rattle.mcv_text.specs.Answer.{reply_text}

-- spaces at both ends and between words, and one CR before the LF, don't count
three_words : line_words (codes "  get  a b \r") ≡ codes "get" ∷ codes "a" ∷ codes "b" ∷ []
three_words = refl

leading_zeros : number32_said (codes "05") ≡ Some 5
leading_zeros = refl

beyond_32_bits : number32_said (codes "4294967296") ≡ None
beyond_32_bits = refl

no_sign : number32_said (codes "-1") ≡ None
no_sign = refl

least_moment : signed_said (codes "-9223372036854775808") ≡ Some (negsuc 9223372036854775807)
least_moment = refl

minus_zero : signed_said (codes "-0") ≡ Some (pos 0)
minus_zero = refl

plus_sign : signed_said (codes "+1") ≡ None
plus_sign = refl

delete_with_zero : meaning (codes "delete /././a 0 noreply\r") ≡ whole (asking (record { op = ops.Delete; keys = codes "/././a" ∷ []; flags = 0; exptime = pos 0; body = []; cas = None; delta = 0; noreply = true }))
unfolding meaning
delete_with_zero = refl

zero_behind_noreply : meaning (codes "delete a noreply 0") ≡ bad
unfolding meaning
zero_behind_noreply = refl

set_line : meaning (codes "set /././k 05 0 1") ≡ stores (record { op = ops.Set; keys = codes "/././k" ∷ []; flags = 5; exptime = pos 0; body = []; cas = None; delta = 0; noreply = false }) 1
unfolding meaning
set_line = refl

cas_line : meaning (codes "cas k 1 -1 2 7 noreply") ≡ stores (record { op = ops.Cas; keys = codes "k" ∷ []; flags = 1; exptime = negsuc 0; body = []; cas = Some 7; delta = 0; noreply = true }) 2
unfolding meaning
cas_line = refl

value_over_the_limit : meaning (codes "set k 0 0 1048577\r") ≡ too_large 1048577
unfolding meaning
value_over_the_limit = refl

no_word : meaning [] ≡ unknown
unfolding meaning
no_word = refl

incr_line : meaning (codes "incr /././k 05") ≡ whole (asking (record { op = ops.Incr; keys = codes "/././k" ∷ []; flags = 0; exptime = pos 0; body = []; cas = None; delta = 5; noreply = false }))
unfolding meaning
incr_line = refl

decr_without_an_answer : meaning (codes "decr k 18446744073709551615 noreply") ≡ whole (asking (record { op = ops.Decr; keys = codes "k" ∷ []; flags = 0; exptime = pos 0; body = []; cas = None; delta = 18446744073709551615; noreply = true }))
unfolding meaning
decr_without_an_answer = refl

delta_beyond_64_bits : meaning (codes "incr k 18446744073709551616") ≡ bad
unfolding meaning
delta_beyond_64_bits = refl

left_out : meaning (codes "gat 0 a") ≡ unknown
unfolding meaning
left_out = refl

get_without_a_key : meaning (codes "get") ≡ bad
unfolding meaning
get_without_a_key = refl

version_line : meaning (codes "version") ≡ whole version
unfolding meaning
version_line = refl

-- streams

empty : IsLine []
empty = record { no_end = All-from_recursion (λ b. b ≢ 10) [] tt; short = omega arith }

foo : IsLine (codes "foo\r")
foo = record { no_end = All-from_recursion (λ b. b ≢ 10) (codes "foo\r") ((λ e. omega arith), ((λ e. omega arith), ((λ e. omega arith), ((λ e. omega arith), tt)))); short = omega arith }

unknown_foo : meaning (codes "foo\r") ≡ unknown
unfolding meaning
unknown_foo = refl

-- an unknown word is refused, and the reading goes on with what comes behind its line
foo_and_an_empty_line : Reads (Held (codes "foo\r\n\n")) (refused refusals.UnknownCommand ∷ refused refusals.UnknownCommand ∷ []) (Held [])
unfolding meaning
foo_and_an_empty_line = (
  Held (10 ∷ []),
  by_line (codes "foo\r") (10 ∷ []) foo refl (refl, refl),
  (Held [], by_line [] [] empty refl (refl, refl), (in_line empty, refl)),
)

-- behind a value of one byte come CR and another byte
wrong_end : (ask : AskValue) → AfterValue ask 1 (codes "x\ry") (refused refusals.BadDataChunk) Failed
wrong_end ask = no_lf (codes "x") [] 121 refl (λ e. omega arith) refl

-- answers

hits_and_end : reply_text (asking (record { op = ops.Get; keys = codes "/././a" ∷ codes "b" ∷ []; flags = 0; exptime = pos 0; body = []; cas = None; delta = 0; noreply = false })) (miss ∷ miss ∷ []) ≡ codes "END\r\n"
hits_and_end = refl

error_alone : reply_text (asking (record { op = ops.Get; keys = codes "a" ∷ codes "b" ∷ []; flags = 0; exptime = pos 0; body = []; cas = None; delta = 0; noreply = false })) (hit 0 None (codes "x") ∷ fault (codes "ERROR") ∷ []) ≡ codes "ERROR\r\n"
error_alone = refl

one_line : reply_text (asking (record { op = ops.Delete; keys = codes "a" ∷ []; flags = 0; exptime = pos 0; body = []; cas = None; delta = 0; noreply = false })) (deleted ∷ []) ≡ codes "DELETED\r\n"
one_line = refl

nothing_to_adjust : reply_text (asking (record { op = ops.Incr; keys = codes "k" ∷ []; flags = 0; exptime = pos 0; body = []; cas = None; delta = 5; noreply = false })) (not_found ∷ []) ≡ codes "NOT_FOUND\r\n"
nothing_to_adjust = refl

own_version : reply_text version [] ≡ codes "VERSION mcv 1\r\n"
own_version = refl
