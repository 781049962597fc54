use Rattle.std.proofs.Common.{[]}
use Rattle.mcv_session.proofs.Items.{on_err_always}
use Rattle.mcv_session.proofs.Driving.{drives_passes, drives_asks, drives_break, drives_lose}
use Rattle.mcv_session.proofs.drive.drive.Goals as goal

pub returns-in_err-request-clause-err : goal.returns-in_err-request-clause-err
returns-in_err-request-clause-err g c =
    on_err_always c.from_residual.result
    (λ from bytes l. drives_break g.D.Desk.asks from bytes c.args.desk.now c.loop-request.desk c.next_request.new.self
    (drives_passes g.D.Desk.asks from (record { bytes = bytes; log = []; written = [] }) c.args.desk.now c.loop-request.desk c.loop-request.session c.next_request.new.self (c.loop-request.invariant.lives from _ l) (λ k m. c.next_request.ensures.lives from k m)))

pub returns-clause-lives : goal.returns-clause-lives
returns-clause-lives g c =
    λ from h l. drives_passes g.D.Desk.asks from h _ _ c.loop-request.session c.next_request.new.self (c.loop-request.invariant.lives from h l) (λ k m. c.next_request.ensures.lives from k m)

pub returns-in_err-ask_desk-clause-err : goal.returns-in_err-ask_desk-clause-err
returns-in_err-ask_desk-clause-err g c =
    let asks = rw c.in-Some.is at c.in_ok-request.ensures.asks in
    on_err_always c.from_residual-in_err-ask_desk.result
    (λ from bytes l. drives_lose g.D.Desk.asks from bytes c.args.desk.now c.loop-request.desk c.ask_desk.new.desk c.next_request.new.self c.ask_desk.new.session asks.3
    (drives_passes g.D.Desk.asks from (record { bytes = bytes; log = []; written = [] }) c.args.desk.now c.loop-request.desk c.loop-request.session c.next_request.new.self (c.loop-request.invariant.lives from _ l) (λ k m. c.next_request.ensures.lives from k m))
    c.in_err-ask_desk.ensures.err.0 c.in_err-ask_desk.ensures.err.1)

pub loop-request-preserved : goal.loop-request-preserved
loop-request-preserved g c =
    let asks = rw c.in-Some.is at c.in_ok-request.ensures.asks in
    let answered = c.in_ok-ask_desk.ensures.ok in record {
      free = answered.1.request;
      lives = λ from h l. drives_asks g.D.Desk.asks from h c.args.desk.now c.loop-request.desk c.ask_desk.new.desk c.next_request.new.self c.ask_desk.new.session asks.3
          (drives_passes g.D.Desk.asks from h c.args.desk.now c.loop-request.desk c.loop-request.session c.next_request.new.self (c.loop-request.invariant.lives from h l) (λ k m. c.next_request.ensures.lives from k m))
          answered.0 answered.1;
    }
