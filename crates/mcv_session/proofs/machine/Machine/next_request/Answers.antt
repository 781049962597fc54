use Rattle.std.proofs.Common.{◌≡◌, ◌∙◌, [], sym, ap, subst, length, rules, arith}
use Rattle.std.specs.Arc.{arc_value}
use Rattle.mcv_text.specs.Request.{request_value}
use Rattle.mcv_session.specs.declared.phase.Phase.TheVariants.{Open}
use Rattle.mcv_session.specs.Machine.{AsksOne, EndsOne, Passes, PassesOne}
use Rattle.mcv_session.proofs.Life.{passes_none, passes_then, passes_passed, passes_ended, lived_failed, lived_asked}
use Rattle.mcv_session.proofs.machine.Machine.next_request.Goals as goal

pub loop-self-preserved : goal.loop-self-preserved
loop-self-preserved c =
    let now : c.loop-self.self.phase ≡ Open = search rules in
    let p : PassesOne c.loop-self.self c.turn.new.self = rw c.in-Ok-Passed.field-0-is at c.in-Ok-Passed.ensures.ok in record {
      free = p.request;
      was_free = c.loop-self.invariant.was_free;
      goes_on = λ failed. let open_now = p.phase in absurd (cc);
      fewer = let took = ap length p.took in let left = ap length p.waiting in let was = c.loop-self.invariant.fewer in omega (arith, took, left, was);
      lives = λ from h l. passes_then from h c.loop-self.self c.turn.new.self (c.loop-self.invariant.lives from h l) (λ k m. passes_passed from k c.loop-self.self c.turn.new.self now c.loop-self.invariant.free m p);
    }

pub loop-self-smaller : goal.loop-self-smaller
loop-self-smaller c =
    let p : PassesOne c.loop-self.self c.turn.new.self = rw c.in-Ok-Passed.field-0-is at c.in-Ok-Passed.ensures.ok in
    let took = ap length p.took in let left = ap length p.waiting in omega (arith, took, left)

pub returns-in-Err-clause-lives : goal.returns-in-Err-clause-lives
returns-in-Err-clause-lives c = λ from h l. passes_then from h c.loop-self.self c.turn.new.self (c.loop-self.invariant.lives from h l)
    (λ k m. passes_none from k c.turn.new.self (lived_failed from k c.loop-self.self c.turn.new.self m c.in-Err.ensures.err))

pub returns-in-Ok-Asks-clause-lives : goal.returns-in-Ok-Asks-clause-lives
returns-in-Ok-Asks-clause-lives c =
    let now : c.loop-self.self.phase ≡ Open = search rules in
    let p : AsksOne c.loop-self.self (request_value (arc_value c.in-Ok-Asks.request)) c.turn.new.self = rw c.in-Ok-Asks.field-0-is at c.in-Ok-Asks.ensures.ok in
    λ from h l. passes_then from h c.loop-self.self c.turn.new.self (c.loop-self.invariant.lives from h l)
    (λ k m. passes_none from k c.turn.new.self (lived_asked from k c.loop-self.self _ c.turn.new.self now c.loop-self.invariant.free m p))

pub returns-in-Ok-Asks-clause-asks : goal.returns-in-Ok-Asks-clause-asks
returns-in-Ok-Asks-clause-asks c =
    let p : AsksOne c.loop-self.self (request_value (arc_value c.in-Ok-Asks.request)) c.turn.new.self = rw c.in-Ok-Asks.field-0-is at c.in-Ok-Asks.ensures.ok in
    let took = ap length p.took in let left = ap length p.waiting in let was = c.loop-self.invariant.fewer in
    ((p.ask, p.is), p.asks, c.loop-self.invariant.was_free, p.phase, omega (arith, took, left, was))

pub returns-in-Ok-Idle-clause-lives : goal.returns-in-Ok-Idle-clause-lives
returns-in-Ok-Idle-clause-lives c =
    let p : (c.loop-self.self.waiting ≡ []) × (c.turn.new.self ≡ c.loop-self.self) = rw c.in-Ok-Idle.field-0-is at c.in-Ok-Idle.ensures.ok in
    λ from h l. subst (λ m. Passes from h m) (sym p.1) (c.loop-self.invariant.lives from h l)

pub returns-in-Ok-Ended-clause-lives : goal.returns-in-Ok-Ended-clause-lives
returns-in-Ok-Ended-clause-lives c =
    let now : c.loop-self.self.phase ≡ Open = search rules in
    let p : EndsOne c.loop-self.self c.turn.new.self = rw c.in-Ok-Ended.field-0-is at c.in-Ok-Ended.ensures.ok in
    λ from h l. passes_then from h c.loop-self.self c.turn.new.self (c.loop-self.invariant.lives from h l)
    (λ k m. passes_ended from k c.loop-self.self c.turn.new.self now c.loop-self.invariant.free m p)

pub returns-clause-lives : goal.returns-clause-lives
returns-clause-lives c = c.loop-self.invariant.lives

pub returns-in-Ok-Asks-clause-goes_on : goal.returns-in-Ok-Asks-clause-goes_on
returns-in-Ok-Asks-clause-goes_on c =
    let p : AsksOne c.loop-self.self (request_value (arc_value c.in-Ok-Asks.request)) c.turn.new.self = rw c.in-Ok-Asks.field-0-is at c.in-Ok-Asks.ensures.ok in
    λ failed. let goes = p.phase in absurd (cc)

pub returns-in-Ok-Idle-clause-goes_on : goal.returns-in-Ok-Idle-clause-goes_on
returns-in-Ok-Idle-clause-goes_on c =
    let p : (c.loop-self.self.waiting ≡ []) × (c.turn.new.self ≡ c.loop-self.self) = rw c.in-Ok-Idle.field-0-is at c.in-Ok-Idle.ensures.ok in
    λ failed. c.loop-self.invariant.goes_on (sym (ap (λ m. m.phase) p.1) ∙ failed)

pub returns-in-Ok-Ended-clause-goes_on : goal.returns-in-Ok-Ended-clause-goes_on
returns-in-Ok-Ended-clause-goes_on c =
    let p : EndsOne c.loop-self.self c.turn.new.self = rw c.in-Ok-Ended.field-0-is at c.in-Ok-Ended.ensures.ok in
    λ failed. let ended = p.phase in absurd (cc)

pub returns-clause-goes_on : goal.returns-clause-goes_on
returns-clause-goes_on c = c.loop-self.invariant.goes_on
