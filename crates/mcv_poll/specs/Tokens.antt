-- The tokens of connections in a poll (own).
use Rattle.std.specs.Prelude.{ℕ, ◌≡◌, ◌+◌, ◌*◌, ◌^◌, ◌<◌}
use Rattle.mcv_base.specs.declared.request.ServerId.{ServerId}
use Rattle.mcv_loop.specs.declared.sources.Source.{Source}
use Rattle.mcv_loop.specs.declared.sources.Source.TheVariants as source
use Rattle.mcv_poll.specs.declared.tokens.HubServer.{HubServer}
use Rattle.mcv_poll.specs.declared.tokens.Tokens.{Tokens}

abbrev pub at_hub : ℕ → ServerId → HubServer
at_hub hub server = record { hub = hub; server = server }

-- this is the place of a hub's connection to a server among all: they stand hub after hub
pub record IsLine (tokens : Tokens) (hub : ℕ) (server : ServerId) (line : ℕ) : Type 0 where
  pub fits : server.0 < 2 ^ 32
  pub server_is : server.0 < tokens.servers
  pub within : line < tokens.lines
  pub is : line ≡ hub * tokens.servers + server.0

-- a connection has this number: those to servers come first, and behind them those to clients
abbrev pub HasNumber : Tokens → Source → ℕ → Type 0
HasNumber tokens (source.Client n) number = number ≡ tokens.lines + n
HasNumber tokens (source.Server hub server) number = IsLine tokens hub server number

-- a connection has this token: 0 is the listener's, and 1 the waker's
pub record HasToken (tokens : Tokens) (s : Source) (token : ℕ) : Type 0 where
  pub number : ℕ
  pub numbered : HasNumber tokens s number
  pub token_is : token ≡ number + 2
