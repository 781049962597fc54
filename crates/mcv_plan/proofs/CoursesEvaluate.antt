-- The course of a plan that serves a route launches and replies as the definitions say.
use Rattle.std.proofs.Common.{◌≡◌, ◌<◌, ◌≤◌, cond, ℕ, zero, true, false, List, [], ◌∷◌, ◌++◌, length, map, Option, Some, None, option_map, refl, sym, ap, ◌∙◌, arith}
use Rattle.std.specs.Prelude.{◌==◌}
use Rattle.std.specs.List.{AllPairs}
use Rattle.mcv_base.specs.declared.operation.Op.{Op}
use Rattle.mcv_base.specs.declared.reply.Outcome.{Outcome}
use Rattle.mcv_base.specs.declared.reply.Outcome.TheVariants.{Good, Soft, Error}
use Rattle.mcv_base.specs.declared.reply.FixedReply.TheVariants as fixed_replies
use Rattle.mcv_base.specs.declared.reply.Part.{Part}
use Rattle.mcv_base.specs.declared.reply.Part.TheVariants as parts
use Rattle.mcv_base.specs.Reply.{outcome_of, part_value}
use Rattle.mcv_route.specs.declared.launch.Answered.{Answered}
use Rattle.mcv_route.specs.declared.launch.Launch.{Launch}
use Rattle.mcv_route.specs.Launched.{launched}
use Rattle.mcv_route.specs.Outcomes.{Choice, Outcomes, outcomes}
use Rattle.mcv_route.specs.Replies as definition
use Rattle.mcv_route.specs.Reply.{arrival, came, reply}
use Rattle.mcv_route.specs.Situation.{Situation}
use Rattle.mcv_route.specs.Tree.{Tree}
use Rattle.mcv_route.specs.Verdict.{Has}
use Rattle.mcv_rules.specs.Arrivals as arrivals
use Rattle.mcv_rules.specs.declared.arrival.Answer as answers
use Rattle.mcv_rules.specs.declared.arrival.Arrival as theirs
use Rattle.mcv_rules.specs.declared.status.Source.TheVariants as variants
use Rattle.mcv_rules.specs.declared.plan.Plan.{Plan}
use Rattle.mcv_rules.specs.History.{history_of, place_of}
use Rattle.mcv_rules.specs.PlanInMemory.{Serves, sent}
use Rattle.mcv_rules.specs.Laws.{IsOneOf, outcome_at}
use Rattle.mcv_rules.specs.Rows.{ComesBefore}
use Rattle.mcv_rules.specs.Status.{source_of}
use Rattle.mcv_rules.proofs.OneReply.{reply_is_one_of}
use Rattle.mcv_rules.proofs.AnswersAreTrue.{answers_are_true}
use Rattle.mcv_rules.specs.Places.{is_plain, kind_of, places_of}
use Rattle.mcv_rules.proofs.LegsRise.{IsPart, both-parts, no-part, pairs, plan_rises, whole-part}
use Rattle.mcv_plan.specs.CourseOfPlan as sublists
use Rattle.mcv_plan.specs.CourseOfPlan.{IsBuilt, IsSublist}
use Rattle.mcv_plan.specs.Counts.{legs_in}
use Rattle.mcv_plan.specs.Entries.{legs_of, numbers}
use Rattle.mcv_plan.specs.Evaluation.{leg_at}
use Rattle.mcv_plan.specs.Laws.{Evaluates, IsLaidOut, IsReply, history_at, position_at}
use Rattle.mcv_plan.specs.Parts.{AnswersAs, IsFixed, SendsAs, reached_of}
use Rattle.mcv_plan.specs.PastOutcomes.{IsLegal, Past, own_of}
use Rattle.mcv_plan.specs.ReachedAnswers.{Own, answer_of}
use Rattle.mcv_plan.specs.State.{State, answered, entries, plan, sends}
use Rattle.mcv_plan.proofs.CountsAdd.{choice_bounded}
use Rattle.mcv_plan.proofs.PartsAreLocal.{answered_plan, entries_plan, sends_plan}
use Rattle.mcv_plan.proofs.PartsBuilt.{plain_beside}
use Rattle.mcv_plan.proofs.EntriesLaidOut.{all_legs, below_count, follow_all, part_is_filter, placed_apart}
use Rattle.mcv_plan.proofs.LaunchedOnce.{first_within, launched_once, once_entries, sends_part}
use Rattle.mcv_plan.proofs.PartsAgree.{course_serves}
use Rattle.mcv_plan.proofs.Records.{ArePlacedApart, Records, numbered_by, numbered_place, past_is_recorded, said}

-- ---- a list of outcomes as the routes' definitions have it

part_for : Outcome → Part
part_for Good = parts.Fixed fixed_replies.Stored
part_for Soft = parts.Fixed fixed_replies.Miss
part_for Error = parts.Fixed fixed_replies.Lost

part_for_is : (x : Outcome) → outcome_of (part_value (part_for x)) ≡ x
unfolding part_for
part_for_is Good = refl
part_for_is Soft = refl
part_for_is Error = refl

abbrev answers_at : List Launch → Past → List Answered
answers_at ls [] = []
answers_at ls (e ∷ es) = answers_at ls es ++ record { position = position_at ls e.0; reply = part_for e.1 } ∷ []

-- the leg of the n-th outcome
abbrev number_in : Past → ℕ → ℕ
number_in [] n = zero
number_in (e ∷ es) n = cond (n == length es) e.0 (number_in es n)

abbrev Numbers : (ℕ → ℕ) → Past → Type 0
Numbers number [] = Unit {0}
Numbers number (e ∷ es) = (number (length es) ≡ e.0) × Numbers number es

numbers_along : (f g : ℕ → ℕ) (es : Past) → ((n : ℕ) → n < length es → g n ≡ f n) → Numbers f es → Numbers g es
numbers_along f g [] same h = tt
numbers_along f g (e ∷ es) same h = (same (length es) (omega arith) ∙ h.0, numbers_along f g es (λ n b. same n (omega (arith, b))) h.1)

numbers_in : (es : Past) → Numbers (number_in es) es
numbers_in [] = tt
numbers_in (e ∷ es) =
    let here : (length es == length es) ≡ true = grind arith in
    (ap (λ t. cond t e.0 (number_in es (length es))) here, numbers_along (number_in es) (number_in (e ∷ es)) es (λ n b. let off : (n == length es) ≡ false = grind (arith, b) in ap (λ t. cond t e.0 (number_in es n)) off) (numbers_in es))

records : (number : ℕ → ℕ) (ls : List Launch) (s : State) (es : Past) → IsLegal s es → Numbers number es → Records number (λ k. (leg_at ls k).position) (entries s) es (answers_at ls es)
records number ls s [] h n = refl
records number ls s (e ∷ es) h n =
    let f = sends_part (own_of es) s in
    (answers_at ls es, record { position = position_at ls e.0; reply = part_for e.1 }, refl, refl, part_for_is e.1, n.0, h.0, first_within e.0 (sends (own_of es) s) f.0 (entries s) f.1 h.1, records number ls s es h.2 n.1)

fixed_by : (number : ℕ → ℕ) → IsFixed (numbered_by number)
fixed_by number f = refl

-- ---- the reply

reply_by_source : (ls : List Launch) (op : Op) (xs : List Answered) (number : ℕ → ℕ) (x : Outcome) (q : definition.Source) → ((p : List ℕ) → q ≡ definition.leg p → (number (place_of xs p) < length ls) × (position_at ls (number (place_of xs p)) ≡ p))
    → IsReply ls op (Some (record { outcome = x; source = numbered_by number (source_of op xs q) })) (Some (record { outcome = x; source = q }))
reply_by_source ls op xs number x (definition.leg p) f = (refl, f p refl)
reply_by_source ls op xs number x definition.fixed f = (refl, refl)
reply_by_source ls op xs number x definition.refusal f = (refl, refl)

reply_by : (ls : List Launch) (op : Op) (xs : List Answered) (number : ℕ → ℕ) (r : Option definition.Answer) (n : ℕ) → ((a : definition.Answer) → r ≡ Some a → (p : List ℕ) → a.source ≡ definition.leg p → (number (place_of xs p) < length ls) × (position_at ls (number (place_of xs p)) ≡ p))
    → IsReply ls op (answer_of (reached_of (numbered_by number) (arrivals.seen op xs (arrival r n)))) r
reply_by ls op xs number None n f = tt
reply_by ls op xs number (Some a) n f = reply_by_source ls op xs number a.outcome a.source (f a refl)

one_of : (r : Option definition.Answer) (a : definition.Answer) (answers : List definition.Answer) → r ≡ Some a → IsOneOf r answers → Has answers (λ b. b ≡ a)
one_of r a answers e h = (rw e at h)

-- ---- the course

-- its legs are the plan's, by their numbers, and it answers and sends what the plan does
record IsCourseOf (c : Choice) (p : Plan) (s : State) : Type 0 where
  numbered : entries s ≡ numbers zero (length (legs_of c p))
  answers : AnswersAs (λ k. (leg_at (legs_of c p) k).position) s p
  sends : SendsAs (leg_at (legs_of c p)) c s p

-- without what its legs have answered
course_of : (c : Choice) (p : Plan) (s : State) → is_plain (kind_of p) ≡ true → IsBuilt c p zero s → IsCourseOf c p (plan s)
course_of c p s kind h = record {
  numbered = entries_plan s ∙ h.numbered;
  answers = λ g fixed own o a. answered_plan o s ∙ h.answers kind (leg_at (legs_of c p)) (follow_all (legs_of c p)) g fixed own o (rw (entries_plan s) at a);
  sends = λ g fixed own o a. ap (map (leg_at (legs_of c p))) (sends_plan o s) ∙ h.sends (plain_beside (kind_of p) kind) (leg_at (legs_of c p)) (follow_all (legs_of c p)) g fixed own o (rw (entries_plan s) at a);
}

sublist_part : (ps qs : List (List ℕ)) → IsSublist ps qs → IsPart ps qs
sublist_part ps qs sublists.done = no-part []
sublist_part ps qs (sublists.kept p x y f) = both-parts (p ∷ []) x (p ∷ []) y (whole-part (p ∷ [])) (sublist_part x y f)
sublist_part ps qs (sublists.left_out q x y f) = both-parts [] x (q ∷ []) y (no-part (q ∷ [])) (sublist_part x y f)

-- ---- the law

module _ (p : Plan) (t : Tree) (situation : Situation) (c : Choice) (s : State) (serves : Serves p t situation) (rise : AllPairs ComesBefore (map (λ l. l.position) (legs_of c p))) (course : IsCourseOf c p s) where
  abbrev ls : List Launch
  ls = legs_of c p

  places : ArePlacedApart (λ k. (leg_at ls k).position) (entries s)
  places = rw course.numbered (placed_apart ls rise)

  record After (past : Past) : Type 0 where
    launches : map (leg_at ls) (sends (own_of past) s) ≡ launched t situation c (outcomes (history_at ls past))
    replies : IsReply ls situation.op (answer_of (answered (own_of past) s)) (reply t situation (history_at ls past))

  after : (past : Past) → IsLegal s past → After past
  after past legal =
      let number = number_in past in
      let xs = answers_at ls past in
      let recorded = records number ls s past legal (numbers_in past) in
      let own = past_is_recorded number (λ k. (leg_at ls k).position) (entries s) past xs places recorded in
      let history : history_of xs ≡ history_at ls past = (said number (λ k. (leg_at ls k).position) (entries s) places past xs recorded).history in
      let both = course_serves p t situation c (leg_at ls) s serves course.answers course.sends (numbered_by number) (fixed_by number) xs (own_of past) own in
      let from_leg : (a : definition.Answer) → reply t situation (history_of xs) ≡ Some a → (q : List ℕ) → a.source ≡ definition.leg q → (number (place_of xs q) < length ls) × (position_at ls (number (place_of xs q)) ≡ q) =
      λ a e q from.
      let among = one_of (reply t situation (history_of xs)) a (definition.replies t situation (outcomes (history_of xs))) e (reply_is_one_of t situation (history_of xs)) in
      let outcome = ap (outcome_at (outcomes (history_of xs))) (sym from) ∙ answers_are_true t situation (outcomes (history_of xs)) a among in
      let n = numbered_place number (λ k. (leg_at ls k).position) (entries s) places past xs recorded q a.outcome outcome in
      let below = below_count (length ls) zero (number (place_of xs q)) (rw course.numbered at n.0) in
      (omega (arith, below.1), n.1)
      in
      record {
        launches = both.0 ∙ ap (λ h. launched t situation c (outcomes h)) history;
        replies = rw (← history, both.1) (reply_by ls situation.op xs number (reply t situation (history_of xs)) (came t situation (history_of xs)) from_leg);
      }

  -- at any outcomes, of legs that are launched or not
  abbrev with_outcome : Option Outcome → Option answers.Answer
  with_outcome None = None
  with_outcome (Some x) = Some (record { outcome = x; source = variants.Fixed fixed_replies.ErrorRoute })

  arrival_at : Outcomes → List ℕ → theirs.Arrival
  arrival_at o q = record { answer = with_outcome (o q); came = zero }

  same_outcome : (o : Outcomes) (q : List ℕ) → arrivals.outcome_in (arrival_at o) q ≡ o q
  unfolding arrival_at
  same_outcome o q = by_outcome (o q)
    where
      by_outcome : (r : Option Outcome) → option_map (λ a. a.outcome) (with_outcome r) ≡ r
      by_outcome None = refl
      by_outcome (Some x) = refl

  own_at : Outcomes → Own
  own_at o k = reached_of (numbered_by (λ n. n)) (arrival_at o (position_at ls k))

  launched_at : (o : Outcomes) → map (leg_at ls) (sends (own_at o) s) ≡ launched t situation c o
  unfolding own_at
  launched_at o =
      course.sends (numbered_by (λ n. n)) (fixed_by (λ n. n)) (arrival_at o) (own_at o) (λ k h. refl)
      ∙ ap (λ z. (sent c z p).legs) (λ i q. same_outcome o q i) ∙ serves.sends c o

  laid_out : IsLaidOut t situation c ls
  laid_out = record {
    all = λ o.
        let f = sends_part (own_at o) s in
        let whole : map (leg_at ls) (entries s) ≡ ls = ap (map (leg_at ls)) course.numbered ∙ all_legs ls in
        let here = part_is_filter (leg_at ls) (sends (own_at o) s) f.0 (entries s) f.1 (once_entries s zero (length ls) course.numbered) places in
        rw (whole, launched_at o) at here;
    rising = rise;
  }

  evaluates : length ls ≤ legs_in t situation → Evaluates t situation c ls s
  evaluates few = record {
    laid = laid_out;
    numbered = course.numbered;
    launches = λ past legal. (after past legal).launches;
    replies = λ past legal. (after past legal).replies;
    once = λ past. launched_once (own_of past) s zero (length ls) course.numbered;
    bound = few;
  }

pub courses_evaluate : (p : Plan) (t : Tree) (situation : Situation) (c : Choice) (s : State) → Serves p t situation → IsBuilt c p zero s → Evaluates t situation c (legs_of c p) (plan s)
courses_evaluate p t situation c s serves built =
    let part = sublist_part (map (λ l. l.position) (legs_of c p)) (places_of p) built.places in
    let rise = part.rising (rw serves.places (plan_rises t situation)) in
    evaluates p t situation c (plan s) serves (pairs (map (λ l. l.position) (legs_of c p)) rise) (course_of c p s serves.kind built) (choice_bounded p t situation c serves built.places)
