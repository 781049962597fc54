use Rattle.std.proofs.Common.{List, ℕ, refl, arith}
use Rattle.mcv_reply.specs.declared.candidate.Head.{Head}
use Rattle.mcv_reply.specs.declared.candidate.LinePart.TheVariants.{BeforeName, InName}
use Rattle.mcv_reply.specs.Line.{Writes, word}
use Rattle.mcv_reply.specs.Candidate.{behind_name, name_text, Follows, needed}
use Rattle.mcv_reply.proofs.Words.{name_clean, word_starts}
use Rattle.mcv_reply.proofs.Writing.{skip_on, skip_back, word_on, word_back}
use Rattle.mcv_reply.proofs.CandidateSteps.{moves_same}
use Rattle.mcv_reply.proofs.candidate.before_name.Goals as goal

pub returns-then-byte-eq32 : goal.returns-then-byte-eq32
returns-then-byte-eq32 c =
    let first = c.args.candidate.first in
    let key = c.args.key.now in
    let bytes = name_text c.args.name first key in
    record {
      on = λ head more f. skip_on (word bytes) (Writes (behind_name c.args.name first c.args.cas key head) 1) c.args.byte more (word_starts bytes (name_clean c.args.name first key c.requires.clean)) c.if-byte-eq32.true f;
      back = λ head more f. skip_back (word bytes) (Writes (behind_name c.args.name first c.args.cas key head) 1) c.args.byte more c.if-byte-eq32.true f;
      first = refl;
      spare = refl;
      valid = c.requires.has;
      needs = refl;
    }

pub returns : goal.returns
returns c =
    let cand = c.args.candidate in
    let key = c.args.key.now in
    let bytes = name_text c.args.name cand.first key in
    moves_same c.args.cas key cand c.args.byte
    (λ (head : Head) (more : List ℕ). Follows cand.first c.args.cas key cand.head (BeforeName c.args.name) head more)
    (λ (head : Head) (more : List ℕ). Follows cand.first c.args.cas key cand.head (InName c.args.name 0) head more)
    (needed cand.first c.args.cas key (BeforeName c.args.name)) (needed cand.first c.args.cas key (InName c.args.name 0)) c.in_name.result
    (λ head more f. word_on bytes (Writes (behind_name c.args.name cand.first c.args.cas key head) 1) c.args.byte more c.if-byte-eq32.false f)
    (λ head more f. word_back bytes (Writes (behind_name c.args.name cand.first c.args.cas key head) 1) c.args.byte more f)
    (omega arith)
    c.in_name.ensures
