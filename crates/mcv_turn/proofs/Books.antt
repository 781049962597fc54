-- Which calls are begun, why a call isn't, and why its reply isn't there.
use Rattle.std.proofs.Common.{◌≡◌, ◌++◌, ◌∷◌, [], ℕ, List, Option, Result, Ok, Err, inl, inr, length, refl, subst, sym}
use Rattle.std.specs.Prelude.{IfErr, IfOk, OnErr, OnOk}
use Rattle.mcv_base.specs.declared.request.CallId.{CallId}
use Rattle.mcv_base.specs.declared.request.Request.{Request}
use Rattle.mcv_core.specs.CoreView.{CoreView}
use Rattle.mcv_core.specs.Events.{IsTaken}
use Rattle.mcv_core.specs.View.{core_view}
use Rattle.mcv_core.specs.declared.fault.CoreFault.{CoreFault}
use Rattle.mcv_core.specs.declared.fault.CoreFault.TheVariants.{UnknownPrefix, BadKey, LegsFull, ChapterFull, NothingWaiting, NoSuchLeg, Busy, ClockBack, Memory, NoSuchCall}
use Rattle.mcv_hub.specs.Events.{IsHubEvent, taken_part}
use Rattle.mcv_hub.specs.Gate.{IsHubBegun, IsHubUnbegun}
use Rattle.mcv_hub.specs.State.{HistoryKeepsDeletes, HubView, IsOf}
use Rattle.mcv_hub.specs.declared.seat.TakenReply.{TakenReply}
use Rattle.mcv_turn.specs.Answers.{AreBegun, AreFor, IsUnanswered, WasBegun, WasMissing, WasRefused, none, more}
use Rattle.mcv_text.specs.Request.{RequestValue, request_value}

-- ---- a call begins

-- a refusal has its cause in the state before
pub was_refused : (start : CoreView) (request : Request) (key : ℕ) (old : HubView) (r : Result CallId CoreFault) → IsOf start old → HistoryKeepsDeletes (core_view old.core) old.history → IfErr r (IsHubUnbegun old request key) → IfErr r (WasRefused start (request_value request) key)
was_refused start request key old (Ok call) hub keeps h = tt
was_refused start request key old (Err fault) hub keeps h = record { state = old; seen = record { hub = hub; keeps = keeps }; asked = request; its = refl; cause = h }

-- the hub doesn't refuse it as a stranger
no_stranger : (state : HubView) (request : Request) (key : ℕ) → IsHubUnbegun state request key NoSuchCall → ⊥
no_stranger state request key (inl heavy) = let full = heavy.1 in cc
no_stranger state request key (inr never) = never

-- why the request isn't answered then
unbegun : (start : CoreView) (request : RequestValue) (calls : List CallId) (taken : List TakenReply) (fault : CoreFault) → AreFor start.routes request taken → WasRefused start request (length taken) fault → IsUnanswered start request calls taken fault
unbegun start request calls taken UnknownPrefix are h = (are, h)
unbegun start request calls taken BadKey are h = (are, h)
unbegun start request calls taken LegsFull are h = (are, h)
unbegun start request calls taken ChapterFull are h = (are, h)
unbegun start request calls taken NothingWaiting are h = (are, h)
unbegun start request calls taken NoSuchLeg are h = (are, h)
unbegun start request calls taken Busy are h = (are, h)
unbegun start request calls taken ClockBack are h = (are, h)
unbegun start request calls taken Memory are h = (are, tt)
unbegun start request calls taken NoSuchCall are h = absurd (no_stranger h.state h.asked (length taken) h.cause)

pub unanswered : (start : CoreView) (request : RequestValue) (calls : List CallId) (taken : List TakenReply) (begun : Result (Unit {0}) CoreFault) → AreFor start.routes request taken → length taken ≡ length calls → IfErr begun (WasRefused start request (length calls)) → IfErr begun (IsUnanswered start request calls taken)
unanswered start request calls taken (Ok done) are all h = tt
unanswered start request calls taken (Err fault) are all h = unbegun start request calls taken fault are (subst (λ n. WasRefused start request n fault) (sym all) h)

-- ---- calls that were begun

-- an answer under the lock
pub was_begun : (start : CoreView) (request : Request) (key : ℕ) (old new : HubView) (r : Result CallId CoreFault) → IsOf start old → HistoryKeepsDeletes (core_view old.core) old.history → IsHubBegun old request key r new
    → IfOk r (WasBegun start (request_value request) key)
was_begun start request key old new (Ok call) hub keeps h = record { state = old; seen = record { hub = hub; keeps = keeps }; asked = request; its = refl; after = new; begins = h }
was_begun start request key old new (Err fault) hub keeps h = tt

-- none yet
pub none_was_begun : (start : CoreView) (request : RequestValue) (calls : List CallId) → calls ≡ [] → AreBegun start request calls
none_was_begun start request calls e = subst (AreBegun start request) (sym e) none

-- and one more
pub one_more_begun : (start : CoreView) (request : RequestValue) (calls after : List CallId) (key : ℕ) (call : CallId) → length calls ≡ key → after ≡ calls ++ call ∷ [] → AreBegun start request calls → WasBegun start request key call → AreBegun start request after
one_more_begun start request calls after key call e items h was =
    let P : ℕ → Type 0 = λ n. WasBegun start request n call in
    subst (AreBegun start request) (sym items) (more calls call h (subst P (sym e) was))

-- where a fact holds it does so for an answer that is Ok
pub always_ok : {A B X : Type 0} (r : Result A B) → X → OnOk r X
always_ok (Ok v) x = x
always_ok (Err fault) x = tt

-- ---- a reply is taken

module _ (call : CallId) (old new : HubView) where
  pub no_call : (r : Result (Option TakenReply) CoreFault) → IsHubEvent (IsTaken (core_view old.core) call (taken_part r)) old new → IfErr r (λ fault. fault ≡ NoSuchCall)
  no_call (Ok o) h = tt
  no_call (Err fault) h = h.event.cause.0

  pub missing_call : (start : CoreView) (r : Result (Option TakenReply) CoreFault) → IsOf start old → HistoryKeepsDeletes (core_view old.core) old.history → IsHubEvent (IsTaken (core_view old.core) call (taken_part r)) old new → OnErr r (WasMissing start call)
  missing_call start (Ok o) hub keeps h = tt
  missing_call start (Err fault) hub keeps h = record { state = old; seen = record { hub = hub; keeps = keeps }; none = h.event.cause.1 }
