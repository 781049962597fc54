use Rattle.std.proofs.Common.{◌≡◌, ◌≢◌, ◌↔◌, ◌∙◌, sym, Result, Err}
use Rattle.std.specs.Result.{IsErrOf}
use Rattle.mcv_session.specs.declared.phase.Phase.TheVariants.{Open}
use Rattle.mcv_session.specs.declared.session.SessionFault.{SessionFault}
use Rattle.mcv_session.specs.declared.session.SessionFault.TheVariants.{Ended, Memory}
use Rattle.mcv_session.specs.Machine.{Fails, MachineValue}
use Rattle.mcv_session.proofs.Items.{on_err_always}
use Rattle.mcv_session.proofs.Pieces.{breaks_unread}
use Rattle.mcv_session.proofs.Driving.{drives_break, drives_end, drives_serve, serves_first}
use Rattle.mcv_session.proofs.serve.answer_piece.Goals as goal

-- an open session is fed, or memory runs out
unfed : {T : Type 0} (result : Result T SessionFault) (fault : SessionFault) (old new : MachineValue) → result ≡ Err fault → old.phase ≡ Open → (IsErrOf result Ended ↔ (old.phase ≢ Open)) → (IsErrOf result Memory → Fails old new) → Fails old new
unfed result Ended old new is now ended memory = absurd (ended.0 is now)
unfed result Memory old new is now ended memory = memory is

pub returns-in_err-feed-clause-err : goal.returns-in_err-feed-clause-err
returns-in_err-feed-clause-err g c =
    let fails = unfed c.feed.result _ c.args.session.now c.feed.new.self c.in_err-feed.was c.requires.0 c.feed.ensures.ended c.feed.ensures.memory in
    on_err_always c.from_residual.result (breaks_unread g.D.Desk.asks c.args.desk.now c.args.session.now.reader c.args.piece.now c.feed.new.self.output (fails.output ∙ c.requires.3))

pub returns-in-Open-clause-ok : goal.returns-in-Open-clause-ok
returns-in-Open-clause-ok g c =
    let now = sym c.phase.ensures ∙ c.in-Open.is in
    drives_serve g.D.Desk.asks c.args.session.now.reader c.args.piece.now c.args.desk.now c.drive.new.desk c.drive.new.session now c.in_ok-drive.ensures.free (c.in_ok-drive.ensures.idle now)
    (serves_first g.D.Desk.asks c.args.session.now c.args.piece.now c.feed.new.self c.drive.new.session c.args.desk.now c.drive.new.desk c.requires c.in_ok-feed.ensures.ok c.in_ok-drive.ensures.lives)

pub returns-in-Ended-clause-ok : goal.returns-in-Ended-clause-ok
returns-in-Ended-clause-ok g c =
    drives_end g.D.Desk.asks c.args.session.now.reader c.args.piece.now c.args.desk.now c.drive.new.desk c.drive.new.session (sym c.phase.ensures ∙ c.in-Ended.is)
    (serves_first g.D.Desk.asks c.args.session.now c.args.piece.now c.feed.new.self c.drive.new.session c.args.desk.now c.drive.new.desk c.requires c.in_ok-feed.ensures.ok c.in_ok-drive.ensures.lives)

pub returns-in-Failed-clause-err : goal.returns-in-Failed-clause-err
returns-in-Failed-clause-err g c =
    drives_break g.D.Desk.asks c.args.session.now.reader c.args.piece.now c.args.desk.now c.drive.new.desk c.drive.new.session
    (serves_first g.D.Desk.asks c.args.session.now c.args.piece.now c.feed.new.self c.drive.new.session c.args.desk.now c.drive.new.desk c.requires c.in_ok-feed.ensures.ok c.in_ok-drive.ensures.lives)
