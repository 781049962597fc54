-- What one turn of a session that waits for nobody does; no public contract cites this.
use Rattle.std.specs.Prelude.{◌≡◌, ◌++◌, ℕ, List, [], Bool, true, false, Some, None}
use Rattle.std.specs.Arc.{arc_value}
use Rattle.mcv_text.specs.Request.{RequestValue, request_value}
use Rattle.mcv_session.specs.declared.turn.Turn.{Turn}
use Rattle.mcv_session.specs.declared.turn.Turn.TheVariants as turns
use Rattle.mcv_session.specs.declared.phase.Phase.TheVariants.{Ended}
use Rattle.mcv_session.specs.Machine.{MachineValue, AsksOne, EndsOne, PassesOne}

abbrev pub Turns : MachineValue → Turn → MachineValue → Type 0
Turns old turns.Idle new = (old.waiting ≡ []) × (new ≡ old)
Turns old turns.Passed new = PassesOne old new
Turns old turns.Ended new = EndsOne old new
Turns old (turns.Asks request) new = AsksOne old (request_value (arc_value request)) new

-- this text was put, and the session has ended or not
pub record PutText (old : MachineValue) (text : List ℕ) (new : MachineValue) : Type 0 where
  pub reader : new.reader ≡ old.reader
  pub request : new.request ≡ None
  pub output : new.output ≡ old.output ++ text

abbrev pub Passed : MachineValue → List ℕ → Bool → Turn → MachineValue → Type 0
Passed old text false turns.Passed new = PutText old text new × (new.waiting ≡ old.waiting) × (new.phase ≡ old.phase)
Passed old text true turns.Ended new = PutText old text new × (new.phase ≡ Ended)
Passed old text last turn new = ⊥

-- the request was given out
abbrev pub Asked : MachineValue → RequestValue → Turn → MachineValue → Type 0
Asked old request (turns.Asks given) new = (request_value (arc_value given) ≡ request) × (new ≡ record old { request = Some request })
Asked old request turns.Idle new = ⊥
Asked old request turns.Passed new = ⊥
Asked old request turns.Ended new = ⊥
