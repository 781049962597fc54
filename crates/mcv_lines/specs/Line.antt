-- What a line to a server does for the legs of one hub, whatever the state of its connection (own).
use Rattle.std.specs.Prelude.{◌≡◌, ℕ, Bool, true, false, List, [], Option, Some, None, Result, Ok, Err, IfOk, codes, cond}
use Rattle.std.specs.declared.alloc.AllocError.{AllocError}
use Rattle.std.specs.declared.time.Duration.{Duration}
use Rattle.std.specs.declared.time.Instant.{Instant}
use Rattle.mcv_base.specs.declared.request.ServerId.{ServerId}
use Rattle.mcv_reply.specs.Reader.{Fed}
use Rattle.mcv_reply.specs.Replies.{is_open}
use Rattle.mcv_turn.specs.declared.arrival.Arrival.{Arrival}
use Rattle.mcv_turn.specs.declared.flight.Flight.{Flight}
use Rattle.mcv_connection.specs.declared.connection.Connection.{Ghosts}
use Rattle.mcv_lines.specs.Channel.{WritesOf}
use Rattle.mcv_connection.specs.Elapsed.{has_passed}
use Rattle.mcv_lines.specs.Legs.{Hears, IsUnused, LosesLegs, SendsFlight, StillFlying, since_of}
use Rattle.mcv_lines.specs.Probe.{ProbeValue, ReadsProbe, WritesProbe}
use Rattle.mcv_lines.specs.declared.loss.Loss.{Loss}
use Rattle.mcv_lines.specs.declared.loss.Loss.TheVariants.{Late}
use Rattle.mcv_lines.specs.declared.line.State.{State}
use Rattle.mcv_lines.specs.declared.line.State.TheVariants as states
use Rattle.mcv_lines.specs.declared.open.OpenLine.{OpenLine}
use Rattle.mcv_lines.specs.declared.sent.Sent.{Sent}
use Rattle.mcv_lines.specs.declared.took.Heard.{Heard}
use Rattle.mcv_lines.specs.declared.took.Heard.TheVariants as heard
use Rattle.mcv_lines.specs.declared.took.Wrote.{Wrote}

abbrev pub is_answer : Heard → Bool
is_answer (heard.Bytes n) = false
is_answer heard.NotNow = false
is_answer heard.Over = false
is_answer heard.Faulty = false
is_answer heard.Answers = true

module _ {C : Type 0} {g : Ghosts C} where
  abbrev pub is_closed : State C g → Bool
  is_closed states.Closed = true
  is_closed (states.Open o) = false
  is_closed (states.Probing p since) = false

  abbrev pub is_probing : State C g → Bool
  is_probing states.Closed = false
  is_probing (states.Open o) = false
  is_probing (states.Probing p since) = true

  abbrev pub legs_can_be_sent : State C g → Bool
  legs_can_be_sent states.Closed = false
  legs_can_be_sent (states.Open o) = is_open o.channel.carrier.legs.connection
  legs_can_be_sent (states.Probing p since) = false

  -- the legs in flight, the oldest first
  abbrev pub flights_of : State C g → List Sent
  flights_of states.Closed = []
  flights_of (states.Open o) = o.sent.items
  flights_of (states.Probing p since) = []

  -- since when the server owes an answer
  abbrev pub since_in : State C g → Option Instant
  since_in states.Closed = None
  since_in (states.Open o) = since_of o.sent.items
  since_in (states.Probing p since) = since

  -- this state, which is open
  abbrev pub IfOpen : State C g → (OpenLine C g → Type 0) → Type 0
  IfOpen states.Closed P = ⊥
  IfOpen (states.Open o) P = P o
  IfOpen (states.Probing p since) P = ⊥

  abbrev pub OpensLine : Option (List ℕ) → Option (List ℕ) → State C g → State C g → Type 0
  OpensLine given left states.Closed new = IfOpen new (λ o. IsUnused given left o.sent.items o.channel)
  OpensLine given left (states.Open o) new = new ≡ states.Open o
  OpensLine given left (states.Probing p since) new = new ≡ states.Probing p since

  abbrev pub IsProbing : Option (List ℕ) → Option (List ℕ) → Option Instant → State C g → Type 0
  IsProbing given left now states.Closed = ⊥
  IsProbing given left now (states.Open o) = ⊥
  IsProbing given left now (states.Probing p since) = (p ≡ record { reader = Fed []; output = codes "version\r\n"; ends = record { given = given; left = left } }) × (since ≡ now)

  abbrev pub IsProbingStill : ProbeValue → Option Instant → State C g → Type 0
  IsProbingStill q since states.Closed = ⊥
  IsProbingStill q since (states.Open o) = ⊥
  IsProbingStill q since (states.Probing p then) = (p ≡ q) × (then ≡ since)

  abbrev pub ProbesLine : Option (List ℕ) → Option (List ℕ) → Option Instant → State C g → Result (Unit {0}) AllocError → State C g → Type 0
  ProbesLine given left now states.Closed (Ok done) new = IsProbing given left now new
  ProbesLine given left now states.Closed (Err out) new = new ≡ states.Closed
  ProbesLine given left now (states.Open o) result new = (result ≡ Ok tt) × (new ≡ states.Open o)
  ProbesLine given left now (states.Probing p since) result new = (result ≡ Ok tt) × (new ≡ states.Probing p since)

  -- a leg of this server is sent over an open connection, or given back
  abbrev pub SendsLine : ServerId → Flight → Option Instant → Bool → State C g → Result (Unit {0}) Flight → State C g → Type 0
  SendsLine server flight now is_again states.Closed result new = (result ≡ Err flight) × (new ≡ states.Closed)
  SendsLine server flight now is_again (states.Probing p since) result new = (result ≡ Err flight) × (new ≡ states.Probing p since)
  SendsLine server flight now is_again (states.Open o) result new = IfOpen new (λ n. SendsFlight flight now is_again o.sent.items o.channel result n.sent.items n.channel) × IfOk result (λ _. flight.server ≡ server)

  abbrev pub WritesLine : State C g → Wrote → State C g → Type 0
  WritesLine states.Closed result new = new ≡ states.Closed
  WritesLine (states.Open o) result new = IfOpen new (λ n. WritesOf o.channel result n.channel × (n.sent.items ≡ o.sent.items))
  WritesLine (states.Probing p since) result states.Closed = ⊥
  WritesLine (states.Probing p since) result (states.Open o) = ⊥
  WritesLine (states.Probing p since) result (states.Probing q then) = WritesProbe p result q × (then ≡ since)

  -- the connection over which a probe was answered has become one for legs
  abbrev pub TakesOver : ProbeValue → State C g → Type 0
  TakesOver p new = IfOpen new (λ o. IsUnused p.ends.given p.ends.left o.sent.items o.channel)

  -- a piece of the answer to a probe was read: behind the answer the connection is one for legs
  abbrev pub AnswersProbe : ProbeValue → List ℕ → Option Instant → Heard → State C g → Type 0
  AnswersProbe p room since result new = (q : ProbeValue) × ReadsProbe p room result q × (is_answer result ≡ true → TakesOver q new) × (is_answer result ≡ false → IsProbingStill q since new)

  abbrev pub AnswersState : State C g → List ℕ → Heard → State C g → Type 0
  AnswersState states.Closed room result new = ⊥
  AnswersState (states.Open o) room result new = ⊥
  AnswersState (states.Probing p since) room result new = AnswersProbe p room since result new

  abbrev pub HearsLine : ServerId → List ℕ → State C g → Heard → List Arrival → State C g → Type 0
  HearsLine server room states.Closed result arrivals new = (result ≡ heard.Faulty) × (arrivals ≡ []) × (new ≡ states.Closed)
  HearsLine server room (states.Open o) result arrivals new = IfOpen new (λ n. Hears server room o.sent.items o.channel result arrivals n.sent.items n.channel)
  HearsLine server room (states.Probing p since) result arrivals new = (arrivals ≡ []) × AnswersProbe p room since result new

  abbrev pub LosesLine : ServerId → Loss → State C g → List Arrival → List Flight → Result (Unit {0}) AllocError → State C g → List Arrival → List Flight → Type 0
  LosesLine server loss states.Closed arrivals again result new then_arrivals then_again = (result ≡ Ok tt) × (new ≡ states.Closed) × (then_arrivals ≡ arrivals) × (then_again ≡ again)
  LosesLine server loss (states.Probing p since) arrivals again result new then_arrivals then_again = (result ≡ Ok tt) × (new ≡ states.Closed) × (then_arrivals ≡ arrivals) × (then_again ≡ again)
  LosesLine server loss (states.Open o) arrivals again (Ok done) new then_arrivals then_again = (new ≡ states.Closed) × LosesLegs server loss o.sent.items o.channel arrivals again then_arrivals then_again
  LosesLine server loss (states.Open o) arrivals again (Err out) new then_arrivals then_again = IfOpen new (λ n. StillFlying o.sent.items o.channel arrivals again n.sent.items n.channel then_arrivals then_again)

-- its loss is to be told still; or its time has run out; or neither
abbrev pub IsOverdue : Option Loss → Option Instant → Option Instant → Option Duration → Option Loss → Type 0
IsOverdue (Some loss) since now limit result = result ≡ Some loss
IsOverdue None since now limit result = result ≡ cond (has_passed since now limit) (Some Late) None
