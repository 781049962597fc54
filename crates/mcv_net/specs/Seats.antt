-- How many clients are served at once (own).
use Rattle.std.specs.Prelude.{ℕ, Bool, true, ◌||◌, ◌==◌, ◌%◌, Option, None, Some, nat_lt}
use Rattle.mcv_words.specs.declared.options.MaxClients.{MaxClients}
use Rattle.mcv_words.specs.declared.options.Sessions.{Sessions}

-- there is a seat more where so many are taken
abbrev pub has_room : Option MaxClients → ℕ → Bool
has_room None taken = true
has_room (Some most) taken = nat_lt taken most.count

-- of the clients that are refused an operator is told of the first and of each thousandth
abbrev pub is_told : ℕ → Bool
is_told number = (number == 1) || (number % 1000 == 0)

-- how many clients are to be served; where that has no limit, more than come
abbrev pub sessions_of : Option Sessions → ℕ
sessions_of None = 18446744073709551615
sessions_of (Some sessions) = sessions.count
