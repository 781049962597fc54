use Rattle.std.proofs.Common.{◌≡◌, ◌≤◌, length, None}
use Rattle.mcv_text.specs.Stream.{Awaits}
use Rattle.mcv_session.specs.declared.phase.Phase.TheVariants.{Failed}
use Rattle.mcv_session.specs.Machine.{History, Lived, Passes}
use Rattle.mcv_session.proofs.machine.Machine.next_request.Given as goal

abbrev pub invariant-loop-self : goal.invariant-loop-self
invariant-loop-self l = record {
  free : l.self.request ≡ None;
  was_free : l.fn.self.request ≡ None;
  goes_on : l.self.phase ≡ Failed → l.fn.self.phase ≡ Failed;
  fewer : length l.self.waiting ≤ length l.fn.self.waiting;
  lives : (from : Awaits) (h : History) → Lived from h l.fn.self → Passes from h l.self;
}

abbrev pub decreases-loop-self : goal.decreases-loop-self
decreases-loop-self l = length l.self.waiting
