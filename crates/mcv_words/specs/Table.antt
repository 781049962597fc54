-- The options that take a number, a row each: from it come what clap is told of the option, the name by which its value is found, and the range of
-- the type of its value (own).
use Rattle.std.specs.Prelude.{ℕ, Option, None, Some, codes, option_map}
use Rattle.clap.specs.Words.{Text}
use Rattle.mcv_words.specs.declared.table.NumberRow.{NumberRow}

-- `--name N`: the least N and the most, and the text that stands for N where the option isn't given, or none where it may be left out
pub record NumberOption : Type 0 where
  pub name : Text
  pub least : ℕ
  pub most : ℕ
  pub default : Option Text

-- what a row of the code's table says of its option
abbrev pub option_of : NumberRow → NumberOption
option_of row = record { name = row.name.now; least = row.least; most = row.most; default = option_map (λ text. text.now) row.default }

-- the moment of a request, in seconds
abbrev pub at_option : NumberOption
at_option = record { name = codes "at"; least = 0; most = 18446744073709551615; default = Some (codes "0") }

-- the seconds of a window
abbrev pub window_option : NumberOption
window_option = record { name = codes "window"; least = 0; most = 4294967295; default = Some (codes "0") }

-- the sessions of a run
abbrev pub sessions_option : NumberOption
sessions_option = record { name = codes "sessions"; least = 1; most = 1000000000; default = None }

-- the hubs that run side by side
abbrev pub hubs_option : NumberOption
hubs_option = record { name = codes "hubs"; least = 1; most = 8; default = Some (codes "1") }

-- the milliseconds that a server, or a client, may take: an hour at most
abbrev pub server_timeout_option : NumberOption
server_timeout_option = record { name = codes "server-timeout"; least = 1; most = 3600000; default = None }

abbrev pub client_timeout_option : NumberOption
client_timeout_option = record { name = codes "client-timeout"; least = 1; most = 3600000; default = None }

-- the clients that are served at once
abbrev pub max_clients_option : NumberOption
max_clients_option = record { name = codes "max-clients"; least = 1; most = 1000000; default = None }

-- the bytes of values that the answer to one request may hold
abbrev pub answer_bytes_option : NumberOption
answer_bytes_option = record { name = codes "answer-bytes"; least = 1; most = 1099511627776; default = Some (codes "67108864") }
