-- What a call has recorded, as the code keeps it.
use Rattle.std.proofs.Common.{◌≡◌, cond, inl, inr, ℕ, zero, suc, Bool, false, is_none, List, [], ◌∷◌, Option, Some, None, option_map, refl, sym, ap, ◌∙◌}
use Rattle.std.specs.Prelude.{fold, option_and_then, slice_get}
use Rattle.std.proofs.lemmas.Bool.{cases_Bool}
use Rattle.mcv_base.specs.Reply.{ReplyValue, part_value}
use Rattle.mcv_route.specs.declared.launch.Answered.{Answered}
use Rattle.mcv_route.specs.Outcomes.{is_same, outcomes}
use Rattle.mcv_route.specs.Replies.{Answer, Source, leg, fixed, refusal}
use Rattle.mcv_rules.specs.History as rules
use Rattle.mcv_rules.specs.History.{place_of}
use Rattle.mcv_rules.specs.Status.{source_of, status_of}
use Rattle.mcv_rules.proofs.Orders.{same_is}
use Rattle.mcv_world.specs.World.{Recorded, Call, history_of, answer_of, reply_at, reply_from}
use Rattle.mcv_events.specs.Status.{push, recorded_all, AreNew, source_value, status_value, HistoriesAgree, StatusIsReply}
use Rattle.mcv_world.proofs.Numbers.{no_some}
use Rattle.mcv_world.proofs.Replies.{recorded_outcome}

-- ---- the rules read both alike

agree : (recorded : List Recorded) (answered : List Answered) → AreNew recorded answered → fold rules.heard (history_of recorded) answered ≡ history_of (fold push recorded answered)
agree recorded [] new = refl
agree recorded (a ∷ answered) new =
    ap (λ b. fold rules.heard (cond b (rules.entry_of a ∷ history_of recorded) (history_of recorded)) answered) (ap is_none new.0) ∙ agree (push recorded a) answered new.1

pub histories_agree : HistoriesAgree
histories_agree answered new = agree [] answered new

-- ---- the reply at a position

turned : (b : Bool) (x y : Option ReplyValue) → b ≡ false → cond b x y ≡ y
turned b x y e = ap (λ t. cond t x y) e

there_stays : (recorded : List Recorded) (answered : List Answered) (p : List ℕ) (v : ReplyValue) → AreNew recorded answered → reply_at recorded p ≡ Some v → reply_at (fold push recorded answered) p ≡ Some v
there_stays recorded [] p v new e = e
there_stays recorded (a ∷ answered) p v new e =
    elim (cases_Bool (is_same a.position p)) [
      | inl s ↦ no_some (sym new.0 ∙ ap (outcomes (history_of recorded)) (same_is a.position p s) ∙ recorded_outcome recorded p v e)
      | inr s ↦ there_stays (push recorded a) answered p v new.1 (turned (is_same a.position p) (Some (part_value a.reply)) (reply_at recorded p) s ∙ e)
    ]

found : (recorded : List Recorded) (answered : List Answered) (p : List ℕ) → AreNew recorded answered → reply_at recorded p ≡ None
    → reply_at (fold push recorded answered) p ≡ option_map (λ (a : Answered). part_value a.reply) (slice_get answered (place_of answered p))
found recorded [] p new e = e
found recorded (a ∷ answered) p new e =
    elim (cases_Bool (is_same a.position p)) [
      | inl s ↦
          there_stays (push recorded a) answered p (part_value a.reply) new.1 (ap (λ b. cond b (Some (part_value a.reply)) (reply_at recorded p)) s)
          ∙ sym (ap (λ b. option_map (λ (a : Answered). part_value a.reply) (slice_get (a ∷ answered) (cond b zero (suc (place_of answered p))))) s)
      | inr s ↦
          found (push recorded a) answered p new.1 (turned (is_same a.position p) (Some (part_value a.reply)) (reply_at recorded p) s ∙ e)
          ∙ sym (ap (λ b. option_map (λ (a : Answered). part_value a.reply) (slice_get (a ∷ answered) (cond b zero (suc (place_of answered p))))) s)
    ]

from_source : (call : Call) (answered : List Answered) → AreNew [] answered → call.recorded ≡ recorded_all answered → (source : Source) → reply_from call source ≡ source_value answered (source_of call.op answered source)
from_source call answered new is (leg p) = ap (λ h. reply_at h p) is ∙ found [] answered p new refl
from_source call answered new is fixed = refl
from_source call answered new is refusal = refl

pub status_is_reply : StatusIsReply
status_is_reply r call answered new is = by_cases (answer_of r call)
  where
    by_cases : (o : Option Answer) → option_and_then (λ a. reply_from call a.source) o ≡ status_value answered (status_of call.op answered o)
    by_cases None = refl
    by_cases (Some a) = from_source call answered new is a.source
