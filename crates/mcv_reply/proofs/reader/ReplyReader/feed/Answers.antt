use Rattle.std.proofs.Common.{◌≡◌, ◌≤◌, ◌++◌, List, ℕ, length, sym, subst, true, ◌∙◌, refl}
use Rattle.std.specs.Arc.{arc_value}
use Rattle.mcv_reply.specs.Reader.{Answers, Feeds, Reading}
use Rattle.mcv_reply.specs.Progress.{IsAt, reader_state_at}
use Rattle.mcv_reply.specs.Candidate.{is_clean}
use Rattle.mcv_reply.proofs.Words.{key_clean, key_short}
use Rattle.mcv_reply.proofs.Steps.{fed_at, feeds_at}
use Rattle.mcv_reply.proofs.reader.ReplyReader.feed.Goals as goal

pub take_piece-requires : goal.take_piece-requires
take_piece-requires c =
    let key_is : c.as_bytes.result.now ≡ arc_value c.self.inside.rest = c.as_bytes.ensures.value ∙ c.deref.ensures in
    record {
      clean = subst (λ (t : List ℕ). is_clean t ≡ true) (sym c.as_bytes.ensures.value) (key_clean c.deref.result.now c.as_bytes.ensures.valid);
      short = subst (λ (t : List ℕ). length t ≤ 250) (sym c.as_bytes.ensures.value) (key_short c.deref.result.now c.as_bytes.ensures.valid);
      at = subst (λ (t : List ℕ). IsAt c.self.inside.op t c.self.inside.progress) (sym key_is) c.self.invariant;
      fed = fed_at c.self.inside.progress c.self.inside.progress.stage c.in-Start.is;
    }

pub returns-in-Start : goal.returns-in-Start
returns-in-Start c =
    let p = c.self.inside.progress in
    let new = c.take_piece.new.progress in
    let key_is : c.as_bytes.result.now ≡ arc_value c.self.inside.rest = c.as_bytes.ensures.value ∙ c.deref.ensures in
    let last : Reading = record { op = c.self.inside.op; key = arc_value c.self.inside.rest; state = reader_state_at new.stage new } in
    subst (λ (v : Reading). Feeds v c.args.piece.now c.take_piece.result last) c.self.view_is (record {
      op = refl;
      key = refl;
      answers = feeds_at c.self.inside.op (arc_value c.self.inside.rest) (reader_state_at p.stage p) (reader_state_at new.stage new) c.args.piece.now c.take_piece.result (fed_at p p.stage c.in-Start.is)
          (λ bytes e. subst (λ (t : List ℕ). Answers c.self.inside.op t (bytes ++ c.args.piece.now) c.take_piece.result (reader_state_at new.stage new)) key_is (c.take_piece.ensures.answers bytes e));
    })
