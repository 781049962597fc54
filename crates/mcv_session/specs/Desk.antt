-- What a desk answers, without where it lies in memory, and the lines of its faults (own).
use Rattle.std.specs.Prelude.{◌≡◌, ⊤, Vec, ℕ, List, [], ◌++◌, length, map, codes, Result, Ok, Err}
use Rattle.std.specs.declared.alloc.Global.{Global}
use Rattle.mcv_base.specs.declared.reply.Part.{Part}
use Rattle.mcv_base.specs.Reply.{ReplyValue, part_value}
use Rattle.mcv_text.specs.Request.{RequestValue, asking, version, quit}
use Rattle.mcv_text.specs.Answer.{line_end}
use Rattle.mcv_session.specs.declared.desk.DeskFault.{DeskFault}
use Rattle.mcv_session.specs.declared.desk.DeskFault.TheVariants.{NoRoute, BadKey, Busy, Memory}

abbrev pub answer_value : Result (Vec Part Global) DeskFault → Result (List ReplyValue) DeskFault
answer_value (Ok parts) = Ok (map part_value parts.items)
answer_value (Err fault) = Err fault

abbrev pub keys_of : RequestValue → List (List ℕ)
keys_of (asking ask) = ask.keys
keys_of version = []
keys_of quit = []

-- one reply for each key of the request, or none at all
abbrev pub HasOneEach : RequestValue → Result (List ReplyValue) DeskFault → Type 0
HasOneEach request (Ok replies) = length replies ≡ length (keys_of request)
HasOneEach request (Err fault) = ⊤

abbrev pub fault_number : DeskFault → ℕ
fault_number NoRoute = 1
fault_number BadKey = 2
fault_number Busy = 3
fault_number Memory = 4

abbrev pub fault_line : DeskFault → List ℕ
fault_line NoRoute = codes "SERVER_ERROR no route"
fault_line BadKey = codes "CLIENT_ERROR bad key"
fault_line Busy = codes "SERVER_ERROR busy"
fault_line Memory = codes "SERVER_ERROR out of memory"

-- the text that a client is answered: the line and its end
abbrev pub fault_text : DeskFault → List ℕ
fault_text fault = fault_line fault ++ line_end
