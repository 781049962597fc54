use Rattle.std.proofs.Common.{length, drop, ◌∙◌, arith, take_at, length-drop}
use Rattle.mcv_spool.proofs.Pieces.{piece_read}
use Rattle.mcv_spool.proofs.find.read_piece.Goals as goal

pub returns-clause-piece : goal.returns-clause-piece
returns-clause-piece g c = λ model.
    let file = g.D.Disk.seen c.args.disk.now in
    take_at c.read.new.bytes _ c.in_ok-piece.piece.len (omega (arith, c.read.auto.bytes, c.as_mut_slice.ensures.len))
    ∙ piece_read (drop c.args.at file) c.read.new.bytes c.args.left (length c.as_mut_slice.result.now)
    (length-drop c.args.at file ∙ omega (arith, c.requires model))
    (omega (arith, c.as_mut_slice.ensures.len, c.in_ok-piece.ensures.len, c.min-size.ensures))
    (c.in_ok-read.ensures.read model)
