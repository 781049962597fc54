-- The state of the reader of the answer to a probe, and what it answers.
use Rattle.std.specs.Prelude.{◌≡◌, ℕ, List, ◌++◌, codes, Option, Some, None, Result, Ok, Err}
use Rattle.std.specs.declared.alloc.Global.{Global}
use Rattle.std.specs.declared.vec.Vec.{Vec}
use Rattle.mcv_reply.specs.declared.word.Row.TheVariants as rows
use Rattle.mcv_reply.specs.declared.candidate.Candidate.{Candidate}
use Rattle.mcv_reply.specs.declared.fault.ReplyFault.{ReplyFault}
use Rattle.mcv_reply.specs.declared.fault.ReplyFault.TheVariants as faults
use Rattle.mcv_reply.specs.declared.probe.ProbeStage.{ProbeStage}
use Rattle.mcv_reply.specs.declared.probe.ProbeStage.TheVariants as stages
use Rattle.mcv_reply.specs.Candidate.{IsKept}
use Rattle.mcv_reply.specs.Reply.{SpellsVersion}
use Rattle.mcv_reply.specs.Reader.{ReaderState, Fed, Answered, Closed}

-- no answer goes on from the bytes
abbrev pub BeginsNoVersion : List ℕ → Type 0
BeginsNoVersion bytes = (more version : List ℕ) → SpellsVersion (bytes ++ more) version → ⊥

-- the bytes are the front of an answer, and none themselves
abbrev pub IsVersionFront : List ℕ → Type 0
IsVersionFront bytes = ((version : List ℕ) → SpellsVersion bytes version → ⊥) × ((more : List ℕ) × (version : List ℕ) × SpellsVersion (bytes ++ more) version)

-- what the reader answers where these are all bytes fed, and its state then
abbrev pub ProbeAnswers : List ℕ → Result (Option (Vec ℕ Global)) ReplyFault → ReaderState → Type 0
ProbeAnswers bytes (Ok (Some version)) new = SpellsVersion bytes version.items × (new ≡ Answered)
ProbeAnswers bytes (Ok None) new = IsVersionFront bytes × (new ≡ Fed bytes)
ProbeAnswers bytes (Err faults.NotAReply) new = BeginsNoVersion bytes × (new ≡ Closed)
ProbeAnswers bytes (Err faults.Closed) new = ⊥
ProbeAnswers bytes (Err faults.Memory) new = new ≡ Closed

abbrev pub FeedsProbe : ReaderState → List ℕ → Result (Option (Vec ℕ Global)) ReplyFault → ReaderState → Type 0
FeedsProbe (Fed bytes) piece result new = ProbeAnswers (bytes ++ piece) result new
FeedsProbe Answered piece result new = (result ≡ Err faults.NotAReply) × (new ≡ Closed)
FeedsProbe Closed piece result new = (result ≡ Err faults.Closed) × (new ≡ Closed)

abbrev pub probe_state_in : ProbeStage → List ℕ → ReaderState
probe_state_in stages.Line text = Fed text
probe_state_in stages.Answered text = Answered
probe_state_in stages.Closed text = Closed

-- what is true of an answer that has come in part
abbrev pub IsProbeAt : ProbeStage → List ℕ → List Candidate → Type 0
IsProbeAt stages.Line text candidates = IsKept rows.Probe (codes "-") text candidates
IsProbeAt stages.Answered text candidates = Unit {0}
IsProbeAt stages.Closed text candidates = Unit {0}

abbrev pub ReadsProbe : List ℕ → List ℕ → Result (Option (Vec ℕ Global)) ReplyFault → List ℕ → List Candidate → Type 0
ReadsProbe old piece (Ok (Some version)) new candidates = SpellsVersion (old ++ piece) version.items
ReadsProbe old piece (Ok None) new candidates = IsVersionFront (old ++ piece) × (new ≡ old ++ piece) × IsKept rows.Probe (codes "-") new candidates
ReadsProbe old piece (Err faults.NotAReply) new candidates = BeginsNoVersion (old ++ piece)
ReadsProbe old piece (Err faults.Closed) new candidates = ⊥
ReadsProbe old piece (Err faults.Memory) new candidates = Unit {0}
