-- The numbers and the lines of refusals and faults (memcached, protocol.txt, error strings; the texts of BadLine and ValueTooLarge are own).
use Rattle.std.specs.Prelude.{ℕ, List, ◌++◌, codes}
use Rattle.mcv_text.specs.declared.item.Refusal.{Refusal}
use Rattle.mcv_text.specs.declared.item.Refusal.TheVariants.{UnknownCommand, BadLine, BadDataChunk, ValueTooLarge}
use Rattle.mcv_text.specs.declared.item.TextFault.{TextFault}
use Rattle.mcv_text.specs.declared.item.TextFault.TheVariants.{Failed, Memory}
use Rattle.mcv_text.specs.Answer.{line_end}

abbrev pub refusal_number : Refusal → ℕ
refusal_number UnknownCommand = 1
refusal_number BadLine = 2
refusal_number BadDataChunk = 3
refusal_number ValueTooLarge = 4

abbrev pub refusal_line : Refusal → List ℕ
refusal_line UnknownCommand = codes "ERROR"
refusal_line BadLine = codes "CLIENT_ERROR bad command line"
refusal_line BadDataChunk = codes "CLIENT_ERROR bad data chunk"
refusal_line ValueTooLarge = codes "SERVER_ERROR value too large"

-- the text that a client is answered: the line and its end
abbrev pub refusal_text : Refusal → List ℕ
refusal_text refusal = refusal_line refusal ++ line_end

abbrev pub fault_number : TextFault → ℕ
fault_number Failed = 1
fault_number Memory = 2
