use Rattle.std.proofs.Common.{◌≡◌, ◌≤◌, take}
use Rattle.mcv_reply.specs.Line.{IsDigits, decimal_from}
use Rattle.mcv_reply.proofs.plain.digits_value.Given as goal

abbrev pub invariant-loop-byte : goal.invariant-loop-byte
invariant-loop-byte l = record { are : IsDigits (take l.byte-index l.digits); value_is : decimal_from 0 (take l.byte-index l.digits) ≡ l.value; within : l.value ≤ l.limit }
