-- That a call's evaluation does what the definitions of routes say: which legs are launched, and which reply it has.
use Rattle.std.specs.Prelude.{◌≡◌, ◌<◌, ◌≤◌, ℕ, zero, ⊤, Bool, List, map, length, slice_index_or, Option, Some, None}
use Rattle.std.specs.List.{AllPairs, filter, list_any}
use Rattle.mcv_base.specs.declared.operation.Op.{Op}
use Rattle.mcv_base.specs.declared.reply.FixedReply.TheVariants.{ErrorRoute}
use Rattle.mcv_base.specs.declared.reply.Outcome.{Outcome}
use Rattle.mcv_route.specs.declared.launch.Launch.{Launch}
use Rattle.mcv_route.specs.Launched.{launched}
use Rattle.mcv_route.specs.Outcomes.{Choice, History, Outcomes, is_same, outcomes}
use Rattle.mcv_route.specs.Replies as definition
use Rattle.mcv_route.specs.Reply.{reply}
use Rattle.mcv_route.specs.Situation.{Situation}
use Rattle.mcv_route.specs.Tree.{Tree}
use Rattle.mcv_rules.specs.Rows.{ComesBefore}
use Rattle.mcv_rules.specs.Status.{default_reply}
use Rattle.mcv_plan.specs.declared.answer.Answer.{Answer}
use Rattle.mcv_plan.specs.declared.answer.Source.{Source}
use Rattle.mcv_plan.specs.declared.answer.Source.TheVariants.{Entry, Fixed}
use Rattle.mcv_plan.specs.Counts.{legs_in}
use Rattle.mcv_plan.specs.Entries.{numbers}
use Rattle.mcv_plan.specs.Evaluation.{leg_at}
use Rattle.mcv_plan.specs.PastOutcomes.{IsLegal, IsOnce, Past, own_of}
use Rattle.mcv_plan.specs.ReachedAnswers.{answer_of, outcome_in}
use Rattle.mcv_plan.specs.State.{State, answered, entries, sends}

abbrev pub position_at : List Launch → ℕ → List ℕ
position_at ls k = (leg_at ls k).position

-- the outcomes by the legs' positions, as the definitions have them
abbrev pub history_at : List Launch → Past → History
history_at ls past = map (λ e. (position_at ls e.0, e.1)) past

-- ---- the entries

abbrev pub has_position : List Launch → List ℕ → Bool
has_position ls p = list_any (λ l. is_same l.position p) ls

-- what is launched at any outcomes are the entries at whose positions something is launched, in the order of positions
pub record IsLaidOut (t : Tree) (s : Situation) (c : Choice) (ls : List Launch) : Type 0 where
  pub all : (o : Outcomes) → launched t s c o ≡ filter (λ l. has_position (launched t s c o) l.position) ls
  pub rising : AllPairs ComesBefore (map (λ l. l.position) ls)

-- ---- the reply

-- the leg's entry, the default reply or ErrorRoute's
abbrev pub IsSource : List Launch → Op → Source → definition.Source → Type 0
IsSource ls op (Entry k) (definition.leg p) = (k < length ls) × (position_at ls k ≡ p)
IsSource ls op (Entry k) definition.fixed = ⊥
IsSource ls op (Entry k) definition.refusal = ⊥
IsSource ls op (Fixed f) (definition.leg p) = ⊥
IsSource ls op (Fixed f) definition.fixed = f ≡ default_reply op
IsSource ls op (Fixed f) definition.refusal = f ≡ ErrorRoute

abbrev pub IsReply : List Launch → Op → Option Answer → Option definition.Answer → Type 0
IsReply ls op None None = ⊤
IsReply ls op None (Some b) = ⊥
IsReply ls op (Some a) None = ⊥
IsReply ls op (Some a) (Some b) = (a.outcome ≡ b.outcome) × IsSource ls op a.source b.source

-- ---- the whole

-- the course launches and replies as the definitions say, after every list of outcomes, each of a leg that was launched and had none
pub record Evaluates (t : Tree) (situation : Situation) (c : Choice) (ls : List Launch) (s : State) : Type 0 where
  pub laid : IsLaidOut t situation c ls
  pub numbered : entries s ≡ numbers zero (length ls)
  pub launches : (past : Past) → IsLegal s past → map (leg_at ls) (sends (own_of past) s) ≡ launched t situation c (outcomes (history_at ls past))
  pub replies : (past : Past) → IsLegal s past → IsReply ls situation.op (answer_of (answered (own_of past) s)) (reply t situation (history_at ls past))
  pub once : (past : Past) → IsOnce (sends (own_of past) s)
  -- never more than the route has
  pub bound : length ls ≤ legs_in t situation

-- ---- one entry

-- these outcomes, by the legs' numbers, are those of the past
abbrev pub AreOf : List (Option Outcome) → Past → Type 0
AreOf known past = (k : ℕ) → slice_index_or known k None ≡ outcome_in (own_of past k)

-- whether the route launches the entry after these outcomes
abbrev pub is_launched_by : Tree → Situation → Choice → List Launch → Past → ℕ → Bool
is_launched_by t s c ls past entry = has_position (launched t s c (outcomes (history_at ls past))) (position_at ls entry)
