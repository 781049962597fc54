use Rattle.std.proofs.Common.{◌++◌, refl}
use Rattle.mcv_reply.proofs.Steps.{piece_fault, piece_none, piece_some}
use Rattle.mcv_reply.proofs.reader.take_piece.Goals as goal

pub returns-in-Err-clause-answers : goal.returns-in-Err-clause-answers
returns-in-Err-clause-answers c = λ bytes e. piece_fault c.args.op c.args.key.now (bytes ++ c.args.piece.now) c.in-Err.fault c.read.new.progress (c.in-Err.ensures bytes e)

pub returns-in-None : goal.returns-in-None
returns-in-None c =
    let fed = c.requires.fed in
    record {
      at = (piece_none c.args.op c.args.key.now (fed.0 ++ c.args.piece.now) c.in-Ok.reply c.read.new.progress c.requires.clean c.in-None.is (c.in-Ok.ensures fed.0 fed.1)).0;
      answers = λ bytes e. (piece_none c.args.op c.args.key.now (bytes ++ c.args.piece.now) c.in-Ok.reply c.read.new.progress c.requires.clean c.in-None.is (c.in-Ok.ensures bytes e)).1;
    }

pub returns-in-Some : goal.returns-in-Some
returns-in-Some c = record { at = tt; answers = λ bytes e. (piece_some c.args.op c.args.key.now (bytes ++ c.args.piece.now) c.in-Ok.reply c.in-Some.reply c.read.new.progress c.in-Some.is (c.in-Ok.ensures bytes e), refl) }
