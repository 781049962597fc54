-- Runs of events, one after the other.
use Rattle.std.proofs.Common.{◌≡◌, ◌∙◌, ◌++◌, ◌∷◌, [], List, Result, Ok, Err, sym, ap, subst, append-nil, append_assoc}
use Rattle.std.specs.Prelude.{IfOk, OnErr}
use Rattle.mcv_base.specs.declared.request.LegId.{LegId}
use Rattle.mcv_base.specs.declared.request.ServerId.{ServerId}
use Rattle.mcv_core.specs.Events.{IsRefusedLeg, IsSpooledLeg}
use Rattle.mcv_core.specs.View.{core_view}
use Rattle.mcv_core.specs.declared.fault.CoreFault.{CoreFault}
use Rattle.mcv_core.specs.declared.step.Step.{Step}
use Rattle.mcv_hub.specs.Events.{IsHubEvent}
use Rattle.mcv_hub.specs.State.{HubView}
use Rattle.mcv_spool.specs.declared.fault.SpoolFault.{SpoolFault}
use Rattle.mcv_spool.specs.declared.record.Stored.{Stored}
use Rattle.mcv_turn.specs.Runs.{IsTurn, Runs, SendsMore, joined, nothing, refused, sent, sent_again, stored}
use Rattle.mcv_turn.specs.Steps.{IsSent, IsSentAgain}
use Rattle.mcv_turn.specs.declared.arrival.Arrival.{Arrival}
use Rattle.mcv_turn.specs.declared.flight.Flight.{Flight}

module _ (old mid new : HubView) where
  pub quiet : Runs old [] [] mid → Runs mid [] [] new → Runs old [] [] new
  quiet h k = joined old mid new [] [] [] [] h k

  -- a run without arrivals and flights behind another one
  pub then_quiet : (cs : List Arrival) (fs : List Flight) → Runs old cs fs mid → Runs mid [] [] new → Runs old cs fs new
  then_quiet cs fs h k =
      let P : List Arrival → Type 0 = λ xs. Runs old xs fs new in
      let Q : List Flight → Type 0 = λ xs. Runs old (cs ++ []) xs new in
      subst P (append-nil cs) (subst Q (append-nil fs) (joined old mid new cs [] fs [] h k))

  -- or before it
  pub quiet_then : (cs : List Arrival) (fs : List Flight) → Runs old [] [] mid → Runs mid cs fs new → Runs old cs fs new
  quiet_then cs fs h k = joined old mid new [] cs [] fs h k

  pub one_arrival_more : (cs : List Arrival) (a : Arrival) → Runs old cs [] mid → Runs mid (a ∷ []) [] new → Runs old (cs ++ a ∷ []) [] new
  one_arrival_more cs a h k = joined old mid new cs (a ∷ []) [] [] h k

-- legs come in flight

pub none_sent : (v : HubView) (before : List Flight) → SendsMore v v before before
none_sent v before = record { more = []; are = sym (append-nil before); run = nothing v }

pub one_sent : (old mid new : HubView) (before now after : List Flight) (server : ServerId) (f : Flight) → SendsMore old mid before now → IsSent server f mid new → after ≡ now ++ f ∷ [] → SendsMore old new before after
one_sent old mid new before now after server f h s e =
    record { more = h.more ++ f ∷ []; are = e ∙ ap (λ t. t ++ f ∷ []) h.are ∙ append_assoc before h.more (f ∷ []); run = joined old mid new [] [] h.more (f ∷ []) h.run (sent mid new server f s) }

pub sent_then_quiet : (old mid new : HubView) (before after : List Flight) → SendsMore old mid before after → Runs mid [] [] new → SendsMore old new before after
sent_then_quiet old mid new before after h k = record { more = h.more; are = h.are; run = then_quiet old mid new [] h.more h.run k }

pub quiet_then_sent : (old mid new : HubView) (before after : List Flight) → Runs old [] [] mid → SendsMore mid new before after → SendsMore old new before after
quiet_then_sent old mid new before after h k = record { more = k.more; are = k.are; run = quiet_then old mid new [] k.more h k.run }

pub sent_on : (old mid new : HubView) (before now after : List Flight) → SendsMore old mid before now → SendsMore mid new now after → SendsMore old new before after
sent_on old mid new before now after h k =
    record { more = h.more ++ k.more; are = k.are ∙ ap (λ t. t ++ k.more) h.are ∙ append_assoc before h.more k.more; run = joined old mid new [] [] h.more k.more h.run k.run }

-- what came, and then what is sent
pub turned : (old mid new : HubView) (arrivals : List Arrival) (before after : List Flight) → Runs old arrivals [] mid → SendsMore mid new before after → IsTurn old new arrivals before after
turned old mid new arrivals before after h k =
    let P : List Arrival → Type 0 = λ xs. Runs old xs k.more new in
    record { more = k.more; are = k.are; run = subst P (append-nil arrivals) (joined old mid new arrivals [] [] k.more h k.run) }

-- what the spool answered
pub settled : (old new : HubView) (leg : LegId) (outcome : Result Stored SpoolFault) (r : Result Step CoreFault) → IfOk outcome (λ s. IsHubEvent (IsSpooledLeg (core_view old.core) leg s r) old new) → OnErr outcome (IsHubEvent (IsRefusedLeg (core_view old.core) leg r) old new) → Runs old [] [] new
settled old new leg (Ok s) r h k = stored old new leg s r h
settled old new leg (Err fault) r h k = refused old new leg r k

-- one leg comes in flight again
pub sent_one_again : (old new : HubView) (before after : List Flight) (server : ServerId) (f : Flight) → IsSentAgain server f old new → after ≡ before ++ f ∷ [] → SendsMore old new before after
sent_one_again old new before after server f s e = record { more = f ∷ []; are = e; run = sent_again old new server f s }

-- none does
pub sent_none : (old new : HubView) (before after : List Flight) → Runs old [] [] new → after ≡ before → SendsMore old new before after
sent_none old new before after h e = record { more = []; are = e ∙ sym (append-nil before); run = h }
