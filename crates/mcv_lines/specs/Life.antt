-- What a connection to a server has carried since it was opened (own).
-- A get of a is sent, its text is written and `END` CR LF read, which is a miss for it; then a delete of b is sent: its text is to be written, and
-- all of its bytes are unwritten.
use Rattle.std.specs.Prelude.{◌≡◌, ◌++◌, ℕ, List, [], length, map, false}
use Rattle.std.specs.List.{concat}
use Rattle.std.specs.Io.KnownBytes.{Appends, Consumes}
use Rattle.mcv_base.specs.Reply.{ReplyValue}
use Rattle.mcv_base.specs.declared.request.LegRequest.{LegRequest}
use Rattle.mcv_reply.specs.Replies.{Connection, Open, Closed, Leg, Replied}
use Rattle.mcv_upstream.specs.Life.{Carried, History}
use Rattle.mcv_upstream.specs.Upstream.{asked_leg}
use Rattle.mcv_lines.specs.Channel.{ChannelValue, Ends, has_some, request_text}

-- the bytes are replies to the oldest of these legs, each its own, and then what has come of the next one's; nothing is said of what follows them once the connection is closed
abbrev pub HasReplied : List Leg → List ℕ → List ReplyValue → Connection → Type 0
HasReplied legs bytes replies (Open left held) = Replied legs bytes replies left held
HasReplied legs bytes replies Closed = (left : List Leg) × (rest : List ℕ) × Replied legs bytes replies left rest

-- what has come of the oldest leg's reply
abbrev pub held_of : Connection → List ℕ
held_of (Open legs held) = held
held_of Closed = []

-- what wasn't written is to be, and nothing is to a connection that is closed
abbrev pub waiting_of : Connection → List ℕ → List ℕ
waiting_of (Open legs held) unwritten = unwritten
waiting_of Closed unwritten = []

-- these legs were sent: what was written, and then what wasn't, are their texts in their order, also once it is closed; and the bytes that were read are replies to
-- them in their order
pub record Life (now : ChannelValue) : Type 0 where
  pub requests : List LegRequest
  pub history : History
  pub carried : Carried history now.carrier
  pub each_sent : length requests ≡ length history.sent
  pub texts : history.texts ≡ map request_text requests
  pub unwritten : List ℕ
  pub whole : history.written ++ unwritten ≡ concat history.texts
  pub count : now.unwritten ≡ length unwritten
  pub waits : now.carrier.output ≡ waiting_of now.carrier.legs.connection unwritten
  pub opened : Ends
  pub writes : Appends opened.given now.ends.given history.written
  pub heard : List ℕ
  pub reads : Consumes opened.left now.ends.left heard
  pub replies : List ReplyValue
  pub each_landed : length replies ≡ length history.landed
  pub replied : HasReplied (map asked_leg requests) heard replies now.carrier.legs.connection
  pub kept : now.is_kept ≡ has_some replies
  pub begun : now.has_begun ≡ false → held_of now.carrier.legs.connection ≡ []
