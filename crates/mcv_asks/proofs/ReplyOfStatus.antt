-- What is heard of a call's legs, and what a route replies by that.
use Rattle.std.proofs.Common.{◌≡◌, cond, ℕ, zero, suc, Bool, true, false, List, [], ◌∷◌, map, Option, Some, None, option_map, refl, sym, ap, ◌∙◌}
use Rattle.std.specs.Prelude.{fold, option_and_then, slice_get}
use Rattle.mcv_base.specs.declared.operation.Op.{Op}
use Rattle.mcv_base.specs.Reply.{ReplyValue, fixed_value, part_value}
use Rattle.mcv_route.specs.declared.launch.Answered.{Answered}
use Rattle.mcv_route.specs.Outcomes.{History, is_same}
use Rattle.mcv_route.specs.Replies.{Answer, Source, fixed, leg, refusal}
use Rattle.mcv_route.specs.Reply.{reply}
use Rattle.mcv_route.specs.Situation.{Situation}
use Rattle.mcv_route.specs.Tree.{Tree}
use Rattle.mcv_rules.specs.History.{heard, history_of, place_of}
use Rattle.mcv_rules.specs.Status.{source_of, status_of}
use Rattle.mcv_rules.specs.declared.status.Source.TheVariants as sources
use Rattle.mcv_rules.specs.declared.status.Status.{Status}
use Rattle.mcv_rules.specs.declared.status.Status.TheVariants.{Replied, Waits}
use Rattle.mcv_world.specs.World.{reply_at}
use Rattle.mcv_asks.specs.Hits.{answered_of, known_next, replied, reply_from}

-- ---- the outcomes, and the first reply at a position

known_from : (es : History) (xs : List Answered) → fold known_next es (map answered_of xs) ≡ fold heard es xs
known_from es [] = refl
known_from es (x ∷ xs) = known_from (heard es x) xs

pub reply_place : (xs : List Answered) (p : List ℕ) → option_map (λ a. part_value a.reply) (slice_get xs (place_of xs p)) ≡ reply_at (map answered_of xs) p
reply_place [] p = refl
reply_place (x ∷ xs) p = by_same (is_same x.position p) (reply_place xs p)
  where
    by_same : (b : Bool) → option_map (λ a. part_value a.reply) (slice_get xs (place_of xs p)) ≡ reply_at (map answered_of xs) p
        → option_map (λ a. part_value a.reply) (slice_get (x ∷ xs) (cond b zero (suc (place_of xs p)))) ≡ cond b (Some (part_value x.reply)) (reply_at (map answered_of xs) p)
    by_same true e = refl
    by_same false e = e

-- ---- the reply

-- the reply that a status names
abbrev pub reply_in : List Answered → Status → Option ReplyValue
reply_in xs Waits = None
reply_in xs (Replied (sources.Outcome place)) = option_map (λ a. part_value a.reply) (slice_get xs place)
reply_in xs (Replied (sources.Fixed f)) = Some (fixed_value f)

source_said : (op : Op) (xs : List Answered) (source : Source) → reply_in xs (Replied (source_of op xs source)) ≡ reply_from op (map answered_of xs) source
source_said op xs (leg p) = reply_place xs p
source_said op xs fixed = refl
source_said op xs refusal = refl

answer_said : (op : Op) (xs : List Answered) (r : Option Answer) → reply_in xs (status_of op xs r) ≡ option_and_then (λ a. reply_from op (map answered_of xs) a.source) r
answer_said op xs None = refl
answer_said op xs (Some a) = source_said op xs a.source

pub status_said : (t : Tree) (s : Situation) (xs : List Answered) (status : Status) → status ≡ status_of s.op xs (reply t s (history_of xs)) → reply_in xs status ≡ replied t s (map answered_of xs)
status_said t s xs status e =
    ap (reply_in xs) e ∙ answer_said s.op xs (reply t s (history_of xs))
    ∙ ap (λ h. option_and_then (λ a. reply_from s.op (map answered_of xs) a.source) (reply t s h)) (sym (known_from [] xs))
