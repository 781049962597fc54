-- A connection over which a server is asked for its version (own; protocol.txt, "version").
-- `version` CR LF was written, and `VERSION 1.6.0` CR LF comes: the server answers.
use Rattle.std.specs.Prelude.{◌≡◌, ◌≤◌, ◌++◌, ℕ, List, [], length, take, codes, Option, Some, None, Result, Ok, Err}
use Rattle.std.specs.Io.KnownBytes.{Appends, Consumes, Keeps}
use Rattle.std.specs.declared.alloc.Global.{Global}
use Rattle.std.specs.declared.vec.Vec.{Vec}
use Rattle.mcv_reply.specs.Probe.{FeedsProbe}
use Rattle.mcv_reply.specs.Reader.{ReaderState, Fed, Answered, Closed}
use Rattle.mcv_reply.specs.Reply.{SpellsVersion}
use Rattle.mcv_reply.specs.declared.fault.ReplyFault.{ReplyFault}
use Rattle.mcv_lines.specs.Channel.{Ends}
use Rattle.mcv_lines.specs.Took.{WritesFront}
use Rattle.mcv_lines.specs.declared.took.Heard.{Heard}
use Rattle.mcv_lines.specs.declared.took.Heard.TheVariants as heard
use Rattle.mcv_lines.specs.declared.took.Wrote.{Wrote}

pub record ProbeValue : Type 0 where
  pub reader : ReaderState  -- of the answer
  pub output : List ℕ  -- what is to be written
  pub ends : Ends

-- these bytes were read: an answer was given for them all, or none yet
abbrev pub HasFed : List ℕ → ReaderState → Type 0
HasFed bytes (Fed fed) = fed ≡ bytes
HasFed bytes Answered = (version : List ℕ) × SpellsVersion bytes version
HasFed bytes Closed = Unit {0}

-- what was written, and then what is to be, is `version` CR LF; and the reader has all bytes that were read
pub record IsProbe (now : ProbeValue) : Type 0 where
  pub opened : Ends
  pub written : List ℕ
  pub writes : Appends opened.given now.ends.given written
  pub whole : written ++ now.output ≡ codes "version\r\n"
  pub heard : List ℕ
  pub reads : Consumes opened.left now.ends.left heard
  pub fed : HasFed heard now.reader

pub record WritesProbe (old : ProbeValue) (result : Wrote) (new : ProbeValue) : Type 0 where
  pub writes : WritesFront old.output old.ends.given result new.output new.ends.given
  pub reader : new.reader ≡ old.reader
  pub unread : Keeps old.ends.left new.ends.left

-- a piece was read, and the reader answers so
pub record FeedsPiece (old : ReaderState) (had : Option (List ℕ)) (piece : List ℕ) (result : Result (Option (Vec ℕ Global)) ReplyFault) (new : ReaderState) (leaves : Option (List ℕ)) : Type 0 where
  pub feeds : FeedsProbe old piece result new
  pub left : Consumes had leaves piece

abbrev pub ReadsAnswer : ReaderState → Option (List ℕ) → List ℕ → Heard → ReaderState → Option (List ℕ) → Type 0
ReadsAnswer old left room (heard.Bytes n) new leaves = (n ≤ length room) × FeedsPiece old left (take n room) (Ok None) new leaves
ReadsAnswer old left room heard.NotNow new leaves = (new ≡ old) × Consumes left leaves []
ReadsAnswer old left room heard.Over new leaves = (new ≡ old) × Consumes left leaves []
ReadsAnswer old left room heard.Faulty new leaves = (n : ℕ) × (fault : ReplyFault) × (n ≤ length room) × FeedsPiece old left (take n room) (Err fault) new leaves
ReadsAnswer old left room heard.Answers new leaves = (n : ℕ) × (version : Vec ℕ Global) × (n ≤ length room) × FeedsPiece old left (take n room) (Ok (Some version)) new leaves

-- an answer counts where the whole question was written before
abbrev pub Counts : Heard → List ℕ → Heard → Type 0
Counts heard.Answers output result = (output ≡ [] → result ≡ heard.Answers) × ((output ≡ [] → ⊥) → result ≡ heard.Faulty)
Counts (heard.Bytes n) output result = result ≡ heard.Bytes n
Counts heard.NotNow output result = result ≡ heard.NotNow
Counts heard.Over output result = result ≡ heard.Over
Counts heard.Faulty output result = result ≡ heard.Faulty

pub record ReadsProbe (old : ProbeValue) (room : List ℕ) (result : Heard) (new : ProbeValue) : Type 0 where
  pub heard : Heard
  pub reads : ReadsAnswer old.reader old.ends.left room heard new.reader new.ends.left
  pub counts : Counts heard old.output result
  pub output : new.output ≡ old.output
  pub given : Keeps old.ends.given new.ends.given
