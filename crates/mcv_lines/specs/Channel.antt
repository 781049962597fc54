-- One write and one read of a connection to a server, and a leg that is sent over it (own).
-- A get of a is in flight, and `END` CR LF comes: the leg has a miss, and the connection is one that is kept.
use Rattle.std.specs.Prelude.{◌≡◌, ◌≤◌, ◌+◌, ℕ, Bool, ltb, ◌||◌, List, [], ◌∷◌, length, take, Option, Result, Ok, Err, true, false}
use Rattle.std.specs.Io.KnownBytes.{Consumes, Keeps}
use Rattle.mcv_base.specs.declared.request.LegId.{LegId}
use Rattle.mcv_base.specs.declared.request.LegRequest.{LegRequest}
use Rattle.mcv_pipeline.specs.Pipeline.{Lands}
use Rattle.mcv_pipeline.specs.declared.landed.Landed.{Landed}
use Rattle.mcv_reply.specs.Replies.{flying}
use Rattle.mcv_reply.specs.declared.fault.ReplyFault.{ReplyFault}
use Rattle.mcv_text.specs.Leg.{leg_text, leg_value}
use Rattle.mcv_upstream.specs.Upstream.{SendsText, UpstreamValue, asked_leg, output_after}
use Rattle.mcv_lines.specs.declared.took.Heard.{Heard}
use Rattle.mcv_lines.specs.declared.took.Heard.TheVariants as heard
use Rattle.mcv_lines.specs.declared.took.Wrote.{Wrote}
use Rattle.mcv_lines.specs.Took.{WritesFront}

-- the two ends of a connection: what it holds of what it was given, and what it has left to give, where that is known
pub record Ends : Type 0 where
  pub given : Option (List ℕ)
  pub left : Option (List ℕ)

pub record ChannelValue : Type 0 where
  pub carrier : UpstreamValue  -- the legs in flight, by number, and what is to be written
  pub ends : Ends
  pub is_kept : Bool  -- a leg has landed over it
  pub has_begun : Bool  -- something may have come of the oldest leg's reply
  pub unwritten : ℕ  -- how many of the last bytes of the texts that were sent weren't written; also once it is closed

-- ---- a write

pub record WritesOf (old : ChannelValue) (result : Wrote) (new : ChannelValue) : Type 0 where
  pub writes : WritesFront old.carrier.output old.ends.given result new.carrier.output new.ends.given
  pub legs : new.carrier.legs ≡ old.carrier.legs
  pub unread : Keeps old.ends.left new.ends.left
  pub kept : new.is_kept ≡ old.is_kept
  pub begun : new.has_begun ≡ old.has_begun
  pub fewer : old.unwritten ≡ new.unwritten + writes.count

-- ---- a read

-- a piece was read: the oldest legs have the replies that it makes whole, each its own
pub record ReadsPiece (old : UpstreamValue) (had : Option (List ℕ)) (piece : List ℕ) (landed : List Landed) (result : Result (Unit {0}) ReplyFault) (new : UpstreamValue) (leaves : Option (List ℕ)) : Type 0 where
  pub lands : Lands old.legs piece landed result new.legs
  pub output : new.output ≡ output_after result old.output
  pub left : Consumes had leaves piece

-- nothing was read
pub record ReadsNone (old : UpstreamValue) (had : Option (List ℕ)) (landed : List Landed) (new : UpstreamValue) (leaves : Option (List ℕ)) : Type 0 where
  pub carrier : new ≡ old
  pub none : landed ≡ []
  pub left : Consumes had leaves []

-- a piece was read, of no more bytes than there was room for; one that has no reply, or for whose replies there is no memory; or nothing
abbrev pub Reads : UpstreamValue → Option (List ℕ) → List ℕ → Heard → List Landed → UpstreamValue → Option (List ℕ) → Type 0
Reads old left room (heard.Bytes n) landed new leaves = (n ≤ length room) × ReadsPiece old left (take n room) landed (Ok tt) new leaves
Reads old left room heard.NotNow landed new leaves = ReadsNone old left landed new leaves
Reads old left room heard.Over landed new leaves = ReadsNone old left landed new leaves
Reads old left room heard.Faulty landed new leaves = (n : ℕ) × (fault : ReplyFault) × (n ≤ length room) × ReadsPiece old left (take n room) landed (Err fault) new leaves
Reads old left room heard.Answers landed new leaves = ⊥

abbrev pub has_some : {X : Type 0} → List X → Bool
has_some {X} [] = false
has_some {X} (x ∷ xs) = true

-- a piece that leaves legs in flight may end with a part of the oldest one's reply
abbrev pub begun_after : Heard → Bool → ℕ → Bool
begun_after (heard.Bytes n) before flying = ltb 0 flying
begun_after heard.NotNow before flying = before
begun_after heard.Over before flying = before
begun_after heard.Faulty before flying = before
begun_after heard.Answers before flying = before

pub record ReadsOf (old : ChannelValue) (room : List ℕ) (result : Heard) (landed : List Landed) (new : ChannelValue) : Type 0 where
  pub reads : Reads old.carrier old.ends.left room result landed new.carrier new.ends.left
  pub given : Keeps old.ends.given new.ends.given
  pub kept : new.is_kept ≡ (old.is_kept || has_some landed)
  pub begun : new.has_begun ≡ begun_after result old.has_begun (flying new.carrier.legs.connection)
  pub unwritten : new.unwritten ≡ old.unwritten

-- ---- a leg

abbrev pub request_text : LegRequest → List ℕ
request_text request = leg_text (leg_value request)

abbrev pub unwritten_sent : ℕ → List ℕ → Result (Unit {0}) ReplyFault → ℕ
unwritten_sent before text (Ok done) = before + length text
unwritten_sent before text (Err fault) = before

-- a leg of this number and request is sent: its text is to be written behind the others, and its reply is read behind theirs
pub record SendsOver (old : ChannelValue) (number : LegId) (request : LegRequest) (result : Result (Unit {0}) ReplyFault) (new : ChannelValue) : Type 0 where
  pub sends : SendsText old.carrier number (asked_leg request) (request_text request) result new.carrier
  pub ends : new.ends ≡ old.ends
  pub kept : new.is_kept ≡ old.is_kept
  pub begun : new.has_begun ≡ old.has_begun
  pub unwritten : new.unwritten ≡ unwritten_sent old.unwritten (request_text request) result
