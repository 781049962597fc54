-- What a seat counts, by what an event of the hub is.
use Rattle.std.proofs.Common.{◌≡◌, ◌+◌, ℕ, Option, None, Some, Result, Ok, Err, inl, inr, ap, arith, subst, sym}
use Rattle.std.specs.Prelude.{IfErr, IfNone, IfOk, IfSome, OnErr, OnOk}
use Rattle.std.proofs.lemmas.Bool.{cases_lt}
use Rattle.mcv_base.specs.declared.request.CallId.{CallId}
use Rattle.mcv_base.specs.declared.request.Request.{Request}
use Rattle.mcv_pools.specs.Hash.{fnv_index}
use Rattle.mcv_core.specs.Events.{IsBegun, IsTaken}
use Rattle.mcv_core.specs.View.{core_view}
use Rattle.mcv_core.specs.declared.fault.CoreFault.{CoreFault}
use Rattle.mcv_core.specs.declared.fault.CoreFault.TheVariants.{ChapterFull}
use Rattle.mcv_hub.specs.Events.{IsHubEvent, taken_part}
use Rattle.mcv_hub.specs.Gate.{IsHubBegun, IsHubUnbegun, most_bytes}
use Rattle.mcv_hub.specs.History.{begun_by, taken_by}
use Rattle.mcv_hub.specs.State.{HubView, IsSame}
use Rattle.mcv_hub.specs.Weights.{bytes_of}
use Rattle.mcv_hub.specs.declared.seat.TakenReply.{TakenReply}

-- ---- a call begins

module _ (request : Request) (key : ℕ) (old new : HubView) where
  -- the history holds too many bytes, or it is the core's event
  pub by_weight : {Z : Type 0} (r : Result CallId CoreFault) → IsHubBegun old request key r new → (r ≡ Err ChapterFull → IsSame old new → Z) → (IsHubEvent (IsBegun (core_view old.core) fnv_index request key r) old new → Z) → Z
  by_weight r h heavy light = elim (cases_lt most_bytes (bytes_of old.history)) [ inl much ↦ heavy (h.heavy much).0 (h.heavy much).1 | inr few ↦ light (h.event few) ]

  event_counts : (r : Result CallId CoreFault) (a a2 : ℕ) → IsHubEvent (IsBegun (core_view old.core) fnv_index request key r) old new → a2 + old.begun ≡ a + new.begun → OnOk r (a2 ≡ a + 1)
  event_counts (Ok call) a a2 h sum = let one = ap begun_by h.event.move in let more = h.begun in omega (arith, sum, one, more)
  event_counts (Err fault) a a2 h sum = tt

  no_event_counts : (r : Result CallId CoreFault) (a a2 : ℕ) → IsHubEvent (IsBegun (core_view old.core) fnv_index request key r) old new → a2 + old.begun ≡ a + new.begun → OnErr r (a2 ≡ a)
  no_event_counts (Ok call) a a2 h sum = tt
  no_event_counts (Err fault) a a2 h sum = let none = ap begun_by h.event.none in let more = h.begun in omega (arith, sum, none, more)

  event_takes : (r : Result CallId CoreFault) (a a2 : ℕ) → IsHubEvent (IsBegun (core_view old.core) fnv_index request key r) old new → a2 + old.taken ≡ a + new.taken → a2 ≡ a
  event_takes (Ok call) a a2 h sum = let none = ap taken_by h.event.move in let more = h.taken in omega (arith, sum, none, more)
  event_takes (Err fault) a a2 h sum = let none = ap taken_by h.event.none in let more = h.taken in omega (arith, sum, none, more)

  pub begun_counts : (r : Result CallId CoreFault) (a a2 : ℕ) → IsHubBegun old request key r new → a2 + old.begun ≡ a + new.begun → OnOk r (a2 ≡ a + 1)
  begun_counts r a a2 h sum = by_weight r h (λ is same. subst (λ z. OnOk z (a2 ≡ a + 1)) (sym is) tt) (λ e. event_counts r a a2 e sum)

  pub unbegun_counts : (r : Result CallId CoreFault) (a a2 : ℕ) → IsHubBegun old request key r new → a2 + old.begun ≡ a + new.begun → OnErr r (a2 ≡ a)
  unbegun_counts r a a2 h sum = by_weight r h (λ is same. subst (λ z. OnErr z (a2 ≡ a)) (sym is) (let stays = same.books.begun in omega (arith, sum, stays))) (λ e. no_event_counts r a a2 e sum)

  pub begun_takes : (r : Result CallId CoreFault) (a a2 : ℕ) → IsHubBegun old request key r new → a2 + old.taken ≡ a + new.taken → a2 ≡ a
  begun_takes r a a2 h sum = by_weight r h (λ is same. let stays = same.books.taken in omega (arith, sum, stays)) (λ e. event_takes r a a2 e sum)

  -- a refusal has its cause in the state before
  pub unbegun_cause : (r : Result CallId CoreFault) → IsHubBegun old request key r new → IfErr r (IsHubUnbegun old request key)
  unbegun_cause (Ok call) h = tt
  unbegun_cause (Err fault) h = elim (cases_lt most_bytes (bytes_of old.history)) [ inl much ↦ (let full = (h.heavy much).0 in inl (much, cc)) | inr few ↦ inr (h.event few).event.cause ]

-- ---- a reply is taken

module _ (call : CallId) (old new : HubView) where
  pub taken_counts : (r : Result (Option TakenReply) CoreFault) (a a2 : ℕ) → IsHubEvent (IsTaken (core_view old.core) call (taken_part r)) old new → a2 + old.taken ≡ a + new.taken → IfOk r (λ o. IfSome o (λ t. a2 ≡ a + 1))
  taken_counts (Ok (Some t)) a a2 h sum = let one = ap taken_by h.event.move in let more = h.taken in omega (arith, sum, one, more)
  taken_counts (Ok None) a a2 h sum = tt
  taken_counts (Err fault) a a2 h sum = tt

  pub untaken_counts : (r : Result (Option TakenReply) CoreFault) (a a2 : ℕ) → IsHubEvent (IsTaken (core_view old.core) call (taken_part r)) old new → a2 + old.taken ≡ a + new.taken → IfOk r (λ o. IfNone o (a2 ≡ a))
  untaken_counts (Ok (Some t)) a a2 h sum = tt
  untaken_counts (Ok None) a a2 h sum = let none = ap taken_by h.event.none in let more = h.taken in omega (arith, sum, none, more)
  untaken_counts (Err fault) a a2 h sum = tt

  pub refused_counts : (r : Result (Option TakenReply) CoreFault) (a a2 : ℕ) → IsHubEvent (IsTaken (core_view old.core) call (taken_part r)) old new → a2 + old.taken ≡ a + new.taken → OnErr r (a2 ≡ a)
  refused_counts (Ok o) a a2 h sum = tt
  refused_counts (Err fault) a a2 h sum = let none = ap taken_by h.event.none in let more = h.taken in omega (arith, sum, none, more)

  pub taken_begins : (r : Result (Option TakenReply) CoreFault) (a a2 : ℕ) → IsHubEvent (IsTaken (core_view old.core) call (taken_part r)) old new → a2 + old.begun ≡ a + new.begun → a2 ≡ a
  taken_begins (Ok (Some t)) a a2 h sum = let none = ap begun_by h.event.move in let more = h.begun in omega (arith, sum, none, more)
  taken_begins (Ok None) a a2 h sum = let none = ap begun_by h.event.none in let more = h.begun in omega (arith, sum, none, more)
  taken_begins (Err fault) a a2 h sum = let none = ap begun_by h.event.none in let more = h.begun in omega (arith, sum, none, more)
