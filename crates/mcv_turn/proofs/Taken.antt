-- Replies that were taken.
use Rattle.std.proofs.Common.{◌≡◌, ◌∙◌, ◌+◌, ◌<◌, ◌≤◌, ◌++◌, ◌∷◌, [], ℕ, List, Option, None, Some, Result, Ok, Err, ap, get_or, length, length-append, map, refl, sym, subst, take, arith}
use Rattle.std.specs.Prelude.{IfErr, IfOk, IfSome}
use Rattle.std.specs.List.{All}
use Rattle.std.proofs.lemmas.List.{length_push, map_push, take-append-le, take_more, take_all}
use Rattle.std.proofs.lemmas.List.Elements.{All-nil, All-push, Contains-append_left, Contains-get_or}
use Rattle.mcv_base.specs.Reply.{part_value}
use Rattle.mcv_base.specs.declared.request.CallId.{CallId}
use Rattle.mcv_core.specs.CoreView.{CoreView}
use Rattle.mcv_core.specs.View.{core_view}
use Rattle.mcv_core.specs.declared.fault.CoreFault.{CoreFault}
use Rattle.mcv_core.specs.declared.fault.CoreFault.TheVariants.{NoSuchCall}
use Rattle.mcv_hub.specs.Events.{IsReceived}
use Rattle.mcv_hub.specs.State.{HistoryKeepsDeletes, HubView, IsCallOf, IsOf, Replies}
use Rattle.mcv_hub.specs.declared.seat.TakenReply.{TakenReply}
use Rattle.mcv_turn.specs.Answers.{AreTaken, HasMissing, WasMissing, WasTaken}

-- by what the hub says of a reply that it hands out
was_taken : (start : CoreView) (v : HubView) (call : CallId) (t : TakenReply) → IsOf start v → HistoryKeepsDeletes (core_view v.core) v.history → IsReceived v call t → WasTaken start t
was_taken start v call t hub keeps h =
    let P : CallId → Type 0 = λ n. Replies v n.0 (part_value t.reply) in
    let Q : CallId → Type 0 = λ n. IsCallOf v n.0 t.asked.op t.asked.route t.asked.rest in
    record { state = v; seen = record { hub = hub; keeps = keeps }; asked = subst Q (sym h.call_is) h.asked; reply = subst P (sym h.call_is) h.reply; chapter = h.chapter; entry = h.entry }

pub found_was_taken : (start : CoreView) (v : HubView) (call : CallId) (r : Result (Option TakenReply) CoreFault) → IsOf start v → HistoryKeepsDeletes (core_view v.core) v.history → IfOk r (λ o. IfSome o (IsReceived v call)) → IfOk r (λ o. IfSome o (WasTaken start))
found_was_taken start v call (Ok None) hub keeps h = tt
found_was_taken start v call (Ok (Some t)) hub keeps h = was_taken start v call t hub keeps h
found_was_taken start v call (Err fault) hub keeps h = tt

pub found_call : (v : HubView) (call : CallId) (r : Result (Option TakenReply) CoreFault) → IfOk r (λ o. IfSome o (IsReceived v call)) → IfOk r (λ o. IfSome o (λ t. t.receipt.call ≡ call))
found_call v call (Ok None) h = tt
found_call v call (Ok (Some t)) h = h.call_is
found_call v call (Err fault) h = tt

-- the replies to one call more
one_more_call : (calls : List CallId) (done : ℕ) (d : CallId) (taken : List TakenReply) (t : TakenReply) → done < length calls → t.receipt.call ≡ get_or calls done d
    → map (λ t. t.receipt.call) taken ≡ take done calls → map (λ t. t.receipt.call) (taken ++ t ∷ []) ≡ take (done + 1) calls
one_more_call calls done d taken t within of so_far =
    map_push (λ t. t.receipt.call) taken t
    ∙ ap (λ xs. xs ++ t.receipt.call ∷ []) so_far
    ∙ ap (λ c. take done calls ++ c ∷ []) of
    ∙ sym (take_more calls done d within)

-- none so far
pub none_taken : (start : CoreView) (calls : List CallId) (taken : List TakenReply) → taken ≡ [] → AreTaken start calls 0 None taken
none_taken start calls taken e = subst (AreTaken start calls 0 None) (sym e) (record { within = omega arith; most = omega arith; each = All-nil (WasTaken start); all = λ _. refl; stranger = tt; missing = tt })

-- and one more
pub one_more_taken : (start : CoreView) (calls : List CallId) (done : ℕ) (missed : Option CoreFault) (d : CallId) (taken after : List TakenReply) (t : TakenReply) → done < length calls → t.receipt.call ≡ get_or calls done d
    → after ≡ taken ++ t ∷ [] → WasTaken start t → AreTaken start calls done missed taken → AreTaken start calls (done + 1) missed after
one_more_taken start calls done missed d taken after t within of e was h =
    subst (AreTaken start calls (done + 1) missed) (sym e) (record {
      within = omega arith;
      most = omega (arith, length_push taken t, h.most);
      each = All-push (WasTaken start) taken t h.each was;
      all = λ m. one_more_call calls done d taken t within of (h.all m);
      stranger = h.stranger;
      missing = h.missing;
    })

-- one that won't come
pub one_missed : (start : CoreView) (calls : List CallId) (done : ℕ) (missed : Option CoreFault) (d : CallId) (fault : CoreFault) (taken : List TakenReply) → done < length calls → fault ≡ NoSuchCall → WasMissing start (get_or calls done d) → AreTaken start calls done missed taken → AreTaken start calls (done + 1) (Some fault) taken
one_missed start calls done missed d fault taken within is was h =
    record {
      within = omega arith;
      most = omega (arith, h.most);
      each = h.each;
      all = λ n. absurd (some n);
      stranger = is;
      missing = record { call = get_or calls done d; one = Contains-get_or calls done d within; was = was };
    }
  where
    some : Some fault ≡ None → ⊥
    some n = cc

-- all are
pub all_taken : (start : CoreView) (calls : List CallId) (done : ℕ) (taken : List TakenReply) → length calls ≤ done → AreTaken start calls done None taken → map (λ t. t.receipt.call) taken ≡ calls
all_taken start calls done taken all h = h.all refl ∙ take_all done calls all

-- ---- further calls

module _ (start : CoreView) (calls more : List CallId) where
  still_missing : (missed : Option CoreFault) → IfSome missed (λ fault. HasMissing start calls) → IfSome missed (λ fault. HasMissing start (calls ++ more))
  still_missing None h = tt
  still_missing (Some fault) h = record { call = h.call; one = Contains-append_left calls more h.call h.one; was = h.was }

  -- they change nothing of those before
  pub taken_before : (done : ℕ) (missed : Option CoreFault) (taken : List TakenReply) → AreTaken start calls done missed taken → AreTaken start (calls ++ more) done missed taken
  taken_before done missed taken h = record {
    within = omega (arith, length-append calls more, h.within);
    most = h.most;
    each = h.each;
    all = λ m. h.all m ∙ sym (take-append-le done calls more h.within);
    stranger = h.stranger;
    missing = still_missing missed h.missing;
  }
