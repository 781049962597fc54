use Rattle.std.proofs.Common.{◌∙◌, inl}
use Rattle.mcv_session.proofs.Serving.{served_more, served_on, stopped_unread}
use Rattle.mcv_session.proofs.serve.serve_session.Goals as goal

pub returns-in_default-clause-err : goal.returns-in_default-clause-err
returns-in_default-clause-err g c = stopped_unread g.D.Desk.asks _ _ _ (c.nothing_read.ensures _)

pub returns-in-Ends-clause-ok : goal.returns-in-Ends-clause-ok
returns-in-Ends-clause-ok g c =
    let read = rw c.in-Some.is at c.in_ok-count.ensures.ok in record {
      flow = c.in_ok-serve_piece.field-0;
      rest = c.serve_piece.new.session.reader;
      served = served_more g.D.Desk.asks c.any_pieces.ensures _ _ _ _ _ _ _ _ _ _ _ _ _ _ c.loop-turn.invariant.so_far read.1 c.in_ok-serve_piece.ensures.ok.1 c.in_ok-serve_piece.ensures.ok.2;
      ended = inl c.in-Ends.is;
    }

pub loop-turn-preserved : goal.loop-turn-preserved
loop-turn-preserved g c =
    let read = rw c.in-Some.is at c.in_ok-count.ensures.ok in record {
      live = c.in_ok-serve_piece.ensures.live c.in-GoesOn.is;
      size = c.next_piece.auto.room ∙ c.loop-turn.invariant.size;
      so_far = served_on g.D.Desk.asks _ _ _ _ _ _ _ _
          (served_more g.D.Desk.asks c.any_pieces.ensures _ _ _ _ _ _ _ _ _ _ _ _ _ _ c.loop-turn.invariant.so_far read.1 c.in_ok-serve_piece.ensures.ok.1 c.in_ok-serve_piece.ensures.ok.2)
          c.in-GoesOn.is;
    }
