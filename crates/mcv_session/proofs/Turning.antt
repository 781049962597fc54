-- What one turn of a session that waits for nobody does.
use Rattle.std.proofs.Common.{◌≡◌, ◌∙◌, ℕ, List, ◌∷◌, ◌++◌, Bool, true, false, sym, ap}
use Rattle.mcv_session.specs.declared.turn.Turn.{Turn}
use Rattle.mcv_session.specs.declared.turn.Turn.TheVariants as turns
use Rattle.mcv_session.specs.declared.phase.Phase.TheVariants.{Open}
use Rattle.mcv_session.specs.Exchange.{Exchange, item_of, text_of, ends}
use Rattle.mcv_session.specs.Machine.{MachineValue, IsOwn}
use Rattle.mcv_session.specs.Turns.{Passed, Turns}

-- the first item was taken, and its text put
pub own_taken : (old mid : MachineValue) (x : Exchange) (last : Bool) (text : List ℕ) (turn : Turn) (new : MachineValue) → old.waiting ≡ item_of x ∷ mid.waiting → mid.reader ≡ old.reader → mid.output ≡ old.output
    → mid.phase ≡ Open → IsOwn x → last ≡ ends (item_of x) → text ≡ text_of x → Passed mid text last turn new → Turns old turn new
own_taken old mid x false text turns.Passed new took reader output now own last says p = record {
  exchange = x;
  own = own;
  left = mid.waiting;
  took = took;
  goes_on = sym last;
  reader = p.0.reader ∙ reader;
  waiting = p.1;
  request = p.0.request;
  output = p.0.output ∙ ap (λ o. o ++ text) output ∙ ap (λ t. old.output ++ t) says;
  phase = p.2 ∙ now;
}
own_taken old mid x true text turns.Ended new took reader output now own last says p = record {
  exchange = x;
  own = own;
  left = mid.waiting;
  took = took;
  last = sym last;
  reader = p.0.reader ∙ reader;
  request = p.0.request;
  output = p.0.output ∙ ap (λ o. o ++ text) output ∙ ap (λ t. old.output ++ t) says;
  phase = p.1;
}
own_taken old mid x false text turns.Idle new took reader output now own last says p = absurd p
own_taken old mid x false text turns.Ended new took reader output now own last says p = absurd p
own_taken old mid x false text (turns.Asks r) new took reader output now own last says p = absurd p
own_taken old mid x true text turns.Idle new took reader output now own last says p = absurd p
own_taken old mid x true text turns.Passed new took reader output now own last says p = absurd p
own_taken old mid x true text (turns.Asks r) new took reader output now own last says p = absurd p
