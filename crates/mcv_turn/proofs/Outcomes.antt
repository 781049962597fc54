-- What a request is answered, by the calls that were begun for its keys and the replies that were taken.
use Rattle.std.proofs.Common.{◌≡◌, ◌∙◌, ℕ, List, Option, None, Some, Result, Ok, Err, Vec, Global, inl, inr, ap, arith, length, map, subst, sym}
use Rattle.std.specs.Prelude.{IfErr, IfOk, IfSome}
use Rattle.std.proofs.lemmas.Simd.{map-map}
use Rattle.mcv_base.specs.Reply.{part_value}
use Rattle.mcv_base.specs.declared.reply.Part.{Part}
use Rattle.std.proofs.lemmas.List.{length-map}
use Rattle.mcv_base.specs.declared.request.CallId.{CallId}
use Rattle.mcv_core.specs.CoreView.{CoreView}
use Rattle.mcv_core.specs.declared.fault.CoreFault.{CoreFault}
use Rattle.mcv_core.specs.declared.fault.CoreFault.TheVariants.{NoSuchCall}
use Rattle.mcv_hub.specs.declared.seat.TakenReply.{TakenReply}
use Rattle.mcv_session.specs.Desk.{answer_value, keys_of}
use Rattle.mcv_session.specs.declared.desk.DeskFault.{DeskFault}
use Rattle.mcv_text.specs.Request.{RequestValue}
use Rattle.mcv_turn.specs.Answers.{AreBegun, AreFor, AreTaken, HasMissing, IsAnswer, IsUnanswered, WasRefused, desk_fault}
use Rattle.mcv_turn.specs.Question.{IsCause, for_others, has_none, unbegun}
use Rattle.mcv_turn.proofs.Books.{unanswered}
use Rattle.mcv_turn.proofs.Taken.{all_taken}

module _ (start : CoreView) (request : RequestValue) (calls : List CallId) (taken : List TakenReply) (done : ℕ) where
  -- each call has its reply
  pub of_calls : done ≡ length calls → AreTaken start calls done None taken → map (λ t. t.receipt.call) taken ≡ calls
  of_calls all h = all_taken start calls done taken (omega (arith, all)) h

  pub as_many : done ≡ length calls → AreTaken start calls done None taken → length taken ≡ length calls
  as_many all h = sym (length-map taken (λ t. t.receipt.call)) ∙ ap length (of_calls all h)

  -- why there is no answer
  pub no_answer : (missed refused : Option CoreFault) (fault : CoreFault) → done ≡ length calls → AreTaken start calls done missed taken → IfSome refused (WasRefused start request (length calls))
      → IsCause start.routes request taken missed refused fault → IsUnanswered start request calls taken fault
  no_answer missed refused fault all h was (has_none e) =
      let stranger : fault ≡ NoSuchCall = subst (λ m. IfSome m (λ f. f ≡ NoSuchCall)) e h.stranger in
      let missing : HasMissing start calls = subst (λ m. IfSome m (λ f. HasMissing start calls)) e h.missing in
      subst (IsUnanswered start request calls taken) (sym stranger) (inl missing)
  no_answer missed refused fault all h was (for_others none is not) = subst (IsUnanswered start request calls taken) (sym is) (inr not)
  no_answer missed refused fault all h was (unbegun none are e) =
      let taken_all : AreTaken start calls done None taken = subst (λ m. AreTaken start calls done m taken) none h in
      let refusal : WasRefused start request (length calls) fault = subst (λ m. IfSome m (WasRefused start request (length calls))) e was in
      unanswered start request calls taken (Err fault) are (as_many all taken_all) refusal

  -- what is answered
  pub answered : (missed refused : Option CoreFault) (r : Result (Vec Part Global) DeskFault) → done ≡ length calls → (refused ≡ None → length calls ≡ length (keys_of request)) → AreBegun start request calls → AreTaken start calls done missed taken
      → IfSome refused (WasRefused start request (length calls))
      → IfOk r (λ ps. (missed ≡ None) × (refused ≡ None) × AreFor start.routes request taken × (ps.items ≡ map (λ t. t.reply) taken))
      → IfErr r (λ fault. (cause : CoreFault) × (fault ≡ desk_fault cause) × IsCause start.routes request taken missed refused cause)
      → IsAnswer start request (answer_value r)
  answered missed refused (Ok ps) all each begins h was ok err =
      let taken_all : AreTaken start calls done None taken = subst (λ m. AreTaken start calls done m taken) ok.0 h in record {
        calls = calls;
        taken = taken;
        begins = begins;
        each = h.each;
        most = omega (arith, all, h.most);
        answered = (
          record { for_keys = ok.2; one_each = as_many all taken_all ∙ each ok.1; replies_are = ap (map part_value) ok.3 ∙ map-map part_value (λ t. t.reply) taken },
          of_calls all taken_all,
        );
        refused = tt;
      }
  answered missed refused (Err fault) all each begins h was ok err =
      record { calls = calls; taken = taken; begins = begins; each = h.each; most = omega (arith, all, h.most); answered = tt; refused = record { cause = err.0; is = err.1; why = no_answer missed refused err.0 all h was err.2 } }
