-- Plans one after another serve the handles that search: by errors, by misses, and the add of a warm-up.
use Rattle.std.proofs.Common.{◌≡◌, ◌≢◌, cond, ℕ, suc, max, Bool, true, false, List, [], ◌∷◌, ◌++◌, length, map, Vec, Box, Global, Option, Some, None, option_map, refl, sym, ap, ap₂, ◌∙◌, append-nil}
use Rattle.std.specs.Prelude.{fold}
use Rattle.mcv_base.specs.declared.operation.Op.{Op}
use Rattle.mcv_base.specs.declared.reply.Outcome.{Outcome}
use Rattle.mcv_base.specs.declared.reply.Outcome.TheVariants.{Good, Soft, Error}
use Rattle.mcv_base.specs.Reply.{is_missed, is_good}
use Rattle.mcv_base.specs.Operation.{is_reading}
use Rattle.mcv_base.specs.declared.reply.FixedReply.TheVariants.{ErrorRoute}
use Rattle.mcv_route.specs.declared.launch.Answered.{Answered}
use Rattle.mcv_route.specs.declared.launch.Launch.{Launch}
use Rattle.mcv_route.specs.Outcomes.{Outcomes, Choice, History, outcomes}
use Rattle.mcv_route.specs.Tree.{Tree, Trees, many, Failover, MissFailover, warm_up}
use Rattle.mcv_route.specs.Situation.{Situation, under, adding}
use Rattle.mcv_route.specs.Children.{joined, together}
use Rattle.mcv_route.specs.View.{trees_of}
use Rattle.mcv_route.specs.Replies.{Answer, refused, or_after_error, or_after_miss, replies, replies_each, outcome_of as outcome_of_all}
use Rattle.mcv_route.specs.Launched.{launched, launched_each, once, in_turn}
use Rattle.mcv_route.specs.Reply.{reply, came, arrival, arrivals, answers_of, next_after_error, next_after_miss, is_waiting}
use Rattle.mcv_rules.specs.Laws.{IsOneOf}
use Rattle.mcv_rules.specs.Plan as planned
use Rattle.mcv_rules.specs.Plans.{plan, plan_each}
use Rattle.mcv_rules.specs.Soundness.{positions}
use Rattle.mcv_rules.specs.NormalForm.{part, turns_of}
use Rattle.mcv_rules.specs.NormalForm.{in_turn as join}
use Rattle.mcv_rules.specs.Times.{time, IsStable}
use Rattle.mcv_rules.specs.History.{history_of}
use Rattle.mcv_rules.specs.Arrivals.{seen, own_arrived, arrived_at_once, goes_on, goes_on_after, next_arrived}
use Rattle.mcv_rules.specs.PlanInMemory.{sent, searched, next_reply, is_hit, arrived, Serves, ServeEach}
use Rattle.mcv_rules.specs.declared.arrival.After.{After}
use Rattle.mcv_rules.specs.declared.arrival.After.TheVariants as after
use Rattle.mcv_rules.specs.declared.arrival.Arrival.{Arrival}
use Rattle.mcv_rules.specs.declared.plan.Plan.{Plan, InTurn, OnHit}
use Rattle.mcv_rules.proofs.OneReply
use Rattle.mcv_rules.proofs.Times as times
use Rattle.mcv_rules.proofs.Times.{came_time, no_cons}
use Rattle.mcv_rules.proofs.Verdicts.{reply_is_planned, replies_are_alike}
use Rattle.mcv_rules.proofs.KnownIsHistory.{apart, stable}
use Rattle.mcv_rules.proofs.Places.{kind-InTurn, kind-OnHit, places-InTurn, places-OnHit}
use Rattle.mcv_rules.proofs.NormalForms.{part-InTurn, part-OnHit}
use Rattle.mcv_rules.proofs.Plans.{sent-InTurn, sent-OnHit, arrived-InTurn, arrived-OnHit}
use Rattle.mcv_rules.proofs.Serving.{at_once, kinds-each, places-each, positions-together, replies-each, reply-together, wholes-each}

-- ---- the words of the handles, by what the search goes on after

abbrev or_after : After → List Answer → List Answer → List Answer
or_after after.Error = or_after_error
or_after after.Miss = or_after_miss

abbrev next_after : After → Option Answer → Option Answer → Option Answer
next_after after.Error = next_after_error
next_after after.Miss = next_after_miss

abbrev outcome : Option Answer → Option Outcome
outcome r = option_map (λ a. a.outcome) r

flip : {A : Type 0} (z : Outcome) (m n : A) → cond (is_missed z) m n ≡ cond (is_good z) n m
flip Good m n = refl
flip Soft m n = refl
flip Error m n = refl

or_none : (w : After) (q : List Answer) → or_after w [] q ≡ []
or_none after.Error q = refl
or_none after.Miss q = refl

or_some : (w : After) (a : Answer) (more q : List Answer) → or_after w (a ∷ more) q ≡ cond (goes_on w a.outcome) q (a ∷ more)
or_some after.Error a more q = refl
or_some after.Miss a more q = sym (flip a.outcome q (a ∷ more))

next_none : (w : After) (y : Option Answer) → next_after w None y ≡ None
next_none after.Error y = refl
next_none after.Miss y = refl

next_some : (w : After) (a : Answer) (y : Option Answer) → next_after w (Some a) y ≡ cond (goes_on w a.outcome) y (Some a)
next_some after.Error a y = refl
next_some after.Miss a y = sym (flip a.outcome y (Some a))

time_some : (w : After) (f g : History → List Answer) (a : Answer) (more : List Answer) (es : History) → IsStable f es → f es ≡ a ∷ more
    → time (λ h. or_after w (f h) (g h)) es ≡ cond (goes_on w a.outcome) (max (time f es) (time g es)) (time f es)
time_some after.Error f g a more es i e = times.time_after_error f g a more es i e
time_some after.Miss f g a more es i e = times.time_after_miss f g a more es i e ∙ sym (flip a.outcome (max (time f es) (time g es)) (time f es))

-- ---- what is stable

was_none : (q r : List Answer) → (q ≢ [] → r ≡ q) → r ≡ [] → q ≡ []
was_none [] r h e = refl
was_none (x ∷ q) r h e = absurd (no_cons x q (sym (h (no_cons x q)) ∙ e))

-- while there is no answer, the second isn't waited for
time_none : (w : After) (f g : History → List Answer) (es : History) → IsStable f es → f es ≡ [] → time (λ h. or_after w (f h) (g h)) es ≡ time f es
time_none w f g [] i e = refl
time_none w f g (x ∷ es) i e =
    let before : f es ≡ [] = was_none (f es) (f (x ∷ es)) i.0 e in
    rw (before, or_none w (g es)) refl

stays_by : (b : Bool) (r r2 l : List Answer) → (r ≢ [] → r2 ≡ r) → cond b r l ≢ [] → cond b r2 l ≡ cond b r l
stays_by true r r2 l i n = i n
stays_by false r r2 l i n = refl

stays_next : (w : After) (q q2 r r2 : List Answer) → (q ≢ [] → q2 ≡ q) → (r ≢ [] → r2 ≡ r) → or_after w q r ≢ [] → or_after w q2 r2 ≡ or_after w q r
stays_next w [] q2 r r2 h i n = absurd (n (or_none w r))
stays_next w (a ∷ q) q2 r r2 h i n =
    ap (λ x. or_after w x r2) (h (no_cons a q))
    ∙ or_some w a q r2
    ∙ stays_by (goes_on w a.outcome) r r2 (a ∷ q) i (λ e. n (or_some w a q r ∙ e))
    ∙ sym (or_some w a q r)

stable_next : (w : After) (f g : History → List Answer) (es : History) → IsStable f es → IsStable g es → IsStable (λ h. or_after w (f h) (g h)) es
stable_next w f g [] i j = tt
stable_next w f g (e ∷ es) i j = (stays_next w (f es) (f (e ∷ es)) (g es) (g (e ∷ es)) i.0 j.0, stable_next w f g es i.1 j.1)

-- ---- what a plan's answer says

-- it is the one of these answers, and came when there first were any
record Decides (op : Op) (xs : List Answered) (a : Arrival) (f : History → List Answer) (r : Option Answer) : Type 0 where
  is : a ≡ seen op xs (arrival r (time f (history_of xs)))
  alike : outcome r ≡ outcome_of_all (f (history_of xs))
  stays : IsStable f (history_of xs)

one_alike : (t : Tree) (s : Situation) (o : Outcomes) (r : Option Answer) → IsOneOf r (replies t s o) → outcome r ≡ outcome_of_all (replies t s o)
one_alike t s o None e = ap outcome_of_all (sym e)
one_alike t s o (Some a) h = sym (reply_is_planned t s o ∙ replies_are_alike t s o a h)

decides-child : (op : Op) (xs : List Answered) (p : Plan) (t : Tree) (s : Situation) → op ≡ s.op → Serves p t s → Decides op xs (arrived (own_arrived xs) p) (λ h. replies t s (outcomes h)) (reply t s (history_of xs))
decides-child op xs p t s same f =
    let es = history_of xs in
    record {
      is = f.answers xs ∙ ap₂ (λ op n. seen op xs (arrival (reply t s es) n)) (sym same) (came_time t s es);
      alike = one_alike t s (outcomes es) (reply t s es) (OneReply.reply_is_one_of t s es);
      stays = stable t s es (apart xs);
    }

seen-by : (op : Op) (xs : List Answered) (c : Bool) (b : Arrival) (q r : Option Answer) (n m : ℕ) → b ≡ seen op xs (arrival q m)
    → cond c (record { answer = b.answer; came = max n b.came }) (seen op xs (arrival r n)) ≡ seen op xs (arrival (cond c q r) (cond c (max n m) n))
seen-by op xs true b q r n m e = rw e refl
seen-by op xs false b q r n m e = refl

alike-by : (c : Bool) (q r : Option Answer) (gs fs : List Answer) → outcome q ≡ outcome_of_all gs → outcome r ≡ outcome_of_all fs → outcome (cond c q r) ≡ outcome_of_all (cond c gs fs)
alike-by true q r gs fs h i = h
alike-by false q r gs fs h i = i

-- two in turn, by what the first answers
next-is : (w : After) (op : Op) (xs : List Answered) (a b : Arrival) (f g : History → List Answer) (r q : Option Answer) (fs : List Answer) → f (history_of xs) ≡ fs
    → a ≡ seen op xs (arrival r (time f (history_of xs))) → b ≡ seen op xs (arrival q (time g (history_of xs))) → outcome r ≡ outcome_of_all fs → IsStable f (history_of xs)
    → next_arrived w a b ≡ seen op xs (arrival (next_after w r q) (time (λ h. or_after w (f h) (g h)) (history_of xs)))
next-is w op xs a b f g None q [] e i j k st = rw (i, next_none w q, time_none w f g (history_of xs) st e) refl
next-is w op xs a b f g None q (y ∷ fs) e i j k st = absurd (let n : None ≡ Some y.outcome = k in cc)
next-is w op xs a b f g (Some x) q [] e i j k st = absurd (let n : Some x.outcome ≡ None = k in cc)
next-is w op xs a b f g (Some x) q (y ∷ fs) e i j k st =
    let es = history_of xs in
    let alike : goes_on w x.outcome ≡ goes_on w y.outcome = ap (goes_on_after w) k in
    rw (i, next_some w x q, time_some w f g y fs es st e, ← alike)
    (seen-by op xs (goes_on w x.outcome) b q (Some x) (time f es) (time g es) j)

next-alike : (w : After) (r q : Option Answer) (fs gs : List Answer) → outcome r ≡ outcome_of_all fs → outcome q ≡ outcome_of_all gs → outcome (next_after w r q) ≡ outcome_of_all (or_after w fs gs)
next-alike w None q [] gs h i = rw (next_none w q, or_none w gs) refl
next-alike w None q (y ∷ fs) gs h i = absurd (let n : None ≡ Some y.outcome = h in cc)
next-alike w (Some x) q [] gs h i = absurd (let n : Some x.outcome ≡ None = h in cc)
next-alike w (Some x) q (y ∷ fs) gs h i =
    let alike : goes_on w x.outcome ≡ goes_on w y.outcome = ap (goes_on_after w) h in
    rw (next_some w x q, or_some w y fs gs, ← alike) (alike-by (goes_on w x.outcome) q (Some x) gs (y ∷ fs) i h)

decides-next : (w : After) (op : Op) (xs : List Answered) (a b : Arrival) (f g : History → List Answer) (r q : Option Answer) → Decides op xs a f r → Decides op xs b g q → Decides op xs (next_arrived w a b) (λ h. or_after w (f h) (g h)) (next_after w r q)
decides-next w op xs a b f g r q h i = record {
  is = next-is w op xs a b f g r q (f (history_of xs)) refl h.is i.is h.alike h.stays;
  alike = next-alike w r q (f (history_of xs)) (g (history_of xs)) h.alike i.alike;
  stays = stable_next w f g (history_of xs) h.stays i.stays;
}

decides-fold : (w : After) (xs : List Answered) (k : ℕ) (ps : List Plan) (ts : List Tree) (s : Situation) (a : Arrival) (f : History → List Answer) (r : Option Answer) → Decides s.op xs a f r → ServeEach k ps ts s
    → Decides s.op xs (fold (next_arrived w) a (map (arrived (own_arrived xs)) ps)) (λ h. fold (or_after w) (f h) (replies_each k (trees_of ts) s (outcomes h))) (fold (next_after w) r (answers_of (arrivals k (trees_of ts) s (history_of xs))))
decides-fold w xs k [] [] s a f r h i = h
decides-fold w xs k [] (t ∷ ts) s a f r h i = absurd i
decides-fold w xs k (p ∷ ps) [] s a f r h i = absurd i
decides-fold w xs k (p ∷ ps) (t ∷ ts) s a f r h i =
    let here = under k s in
    decides-fold w xs (suc k) ps ts s (next_arrived w a (arrived (own_arrived xs) p)) (λ h. or_after w (f h) (replies t here (outcomes h))) (next_after w r (reply t here (history_of xs)))
    (decides-next w s.op xs a (arrived (own_arrived xs) p) f (λ h. replies t here (outcomes h)) r (reply t here (history_of xs)) h (decides-child s.op xs p t here refl i.0)) i.1

-- ---- legs

once_goes : (w : After) (r : List Answer) (ls : List Launch) → cond (goes_on_after w (outcome_of_all r)) ls [] ≡ once (λ x. goes_on w x) r ls
once_goes w [] ls = refl
once_goes w (a ∷ r) ls = refl

pub legs-searched : (w : After) (k : ℕ) (ps : List Plan) (ts : List Tree) (s : Situation) (c : Choice) (o : Outcomes) → ServeEach k ps ts s
    → searched w (map (sent c o) ps) ≡ in_turn (λ x. goes_on w x) (replies_each k (trees_of ts) s o) (launched_each k (trees_of ts) s c o)
legs-searched w k [] [] s c o a = refl
legs-searched w k [] (t ∷ ts) s c o a = absurd a
legs-searched w k (p ∷ ps) [] s c o a = absurd a
legs-searched w k (p ∷ ps) (t ∷ ts) s c o a =
    rw (a.0.sends c o, a.0.replies c o, legs-searched w (suc k) ps ts s c o a.1)
    (ap (λ ls. launched t (under k s) c o ++ ls) (once_goes w (replies t (under k s) o) (in_turn (λ x. goes_on w x) (replies_each (suc k) (trees_of ts) s o) (launched_each (suc k) (trees_of ts) s c o))))

-- ---- searches

-- the route sends and answers as a search among its children
pub record Searches (w : After) (t : Tree) (ts : Trees) (s : Situation) : Type 0 where
  pub legs : (c : Choice) (o : Outcomes) → launched t s c o ≡ in_turn (λ x. goes_on w x) (replies_each 0 ts s o) (launched_each 0 ts s c o)
  pub answers : (o : Outcomes) → replies t s o ≡ together (or_after w) (refused ∷ []) (replies_each 0 ts s o)
  pub answer : (es : History) → reply t s es ≡ together (next_after w) (Some refused) (answers_of (arrivals 0 ts s es))
  pub plans : plan t s ≡ together (join w) (planned.Reply Error) (plan_each 0 ts s)

pub joined_reply : (w : After) (o : Outcomes) (t u : planned.Plan) → planned.reply (join w t u) o ≡ next_reply w (planned.reply t o) (planned.reply u o)
joined_reply after.Error o t u = by_reply (planned.reply t o)
  where
    by_reply : (r : Option Outcome) → planned.on_error r (planned.reply u o) ≡ next_reply after.Error r (planned.reply u o)
    by_reply None = refl
    by_reply (Some Good) = refl
    by_reply (Some Soft) = refl
    by_reply (Some Error) = refl
joined_reply after.Miss o t u = by_reply (planned.reply t o)
  where
    by_reply : (r : Option Outcome) → planned.on_miss r (planned.reply u o) ≡ next_reply after.Miss r (planned.reply u o)
    by_reply None = refl
    by_reply (Some Good) = refl
    by_reply (Some Soft) = refl
    by_reply (Some Error) = refl

time_same : (f g : History → List Answer) → ((h : History) → f h ≡ g h) → (es : History) → time f es ≡ time g es
time_same f g h [] = refl
time_same f g h (e ∷ es) = ap₂ (λ r n. cond (is_waiting r) (suc (length es)) n) (h es) (time_same f g h es)

search_answers : (w : After) (xs : List Answered) (ps : List Plan) (t : Tree) (ts : List Tree) (s : Situation) → Searches w t (trees_of ts) s → ServeEach 0 ps ts s
    → together (next_arrived w) (arrived_at_once ErrorRoute) (map (arrived (own_arrived xs)) ps) ≡ seen s.op xs (arrival (reply t s (history_of xs)) (came t s (history_of xs)))
search_answers w xs [] t [] s h a = rw (h.answer (history_of xs), at_once t s (λ o. ap is_waiting (h.answers o)) (history_of xs)) refl
search_answers w xs [] t (u ∷ ts) s h a = absurd a
search_answers w xs (p ∷ ps) t [] s h a = absurd a
search_answers w xs (p ∷ ps) t (u ∷ ts) s h a =
    let es = history_of xs in
    let here = under 0 s in
    let whole = decides-fold w xs 1 ps ts s (arrived (own_arrived xs) p) (λ h. replies u here (outcomes h)) (reply u here es) (decides-child s.op xs p u here refl a.0) a.1 in
    let when : time (λ k. fold (or_after w) (replies u here (outcomes k)) (replies_each 1 (trees_of ts) s (outcomes k))) es ≡ came t s es = time_same _ _ (λ k. sym (h.answers (outcomes k))) es ∙ sym (came_time t s es) in
    whole.is ∙ ap₂ (λ r n. seen s.op xs (arrival r n)) (sym (h.answer es)) when

joined_positions : (w : After) (t u : planned.Plan) → positions (join w t u) ≡ positions t ++ positions u
joined_positions after.Error t u = refl
joined_positions after.Miss t u = refl

pub serves-search : (w : After) (v : Vec Plan Global) (t : Tree) (ts : List Tree) (s : Situation) → Searches w t (trees_of ts) s → ServeEach 0 v.items ts s → Serves (InTurn w v) t s
serves-search w v t ts s h a = record {
  sends = λ c o. rw (sent-InTurn c o w v) (legs-searched w 0 v.items ts s c o a ∙ sym (h.legs c o));
  replies = λ c o.
      rw (sent-InTurn c o w v, replies-each 0 v.items ts s c o a)
      (reply-together o (next_reply w) (join w) (joined_reply w o) (planned.Reply Error) (plan_each 0 (trees_of ts) s) ∙ ap (λ u. planned.reply u o) (sym h.plans) ∙ sym (reply_is_planned t s o));
  kind = rw (kind-InTurn w v, kinds-each 0 v.items ts s a) refl;
  whole = part-InTurn w v ∙ ap (λ us. part (turns_of w us)) (wholes-each 0 v.items ts s a) ∙ ap part (sym h.plans);
  places =
      places-InTurn w v ∙ ap joined (places-each 0 v.items ts s a)
      ∙ sym (positions-together (join w) (joined_positions w) (plan_each 0 (trees_of ts) s)) ∙ ap positions (sym h.plans);
  answers = λ xs. rw (arrived-InTurn (own_arrived xs) w v) (search_answers w xs v.items t ts s h a);
}

pub failover_searches : (ts : Trees) (s : Situation) → Searches after.Error (many Failover ts) ts s
failover_searches ts s = record { legs = λ c o. refl; answers = λ o. refl; answer = λ es. refl; plans = refl }

pub miss_searches : (ts : Trees) (s : Situation) → is_reading s.op ≡ true → Searches after.Miss (many MissFailover ts) ts s
miss_searches ts s h = record { legs = λ c o. rw h refl; answers = λ o. rw h refl; answer = λ es. rw h refl; plans = rw h refl }

-- ---- warm-ups

is_hit-once : (r : List Answer) (ls : List Launch) → cond (is_hit (outcome_of_all r)) ls [] ≡ once is_good r ls
is_hit-once [] ls = refl
is_hit-once (a ∷ r) ls = refl

no_more : (ls ms : List Launch) (b : Bool) → (ls ++ ms) ++ cond b [] [] ≡ ls ++ ms
no_more ls ms true = append-nil (ls ++ ms)
no_more ls ms false = append-nil (ls ++ ms)

outcome_either : (b : Bool) (a : Answer) (q r : List Answer) → cond b (Some a.outcome) (outcome_of_all r) ≡ outcome_of_all (cond b (a ∷ q) r)
outcome_either true a q r = refl
outcome_either false a q r = refl

miss_outcome : (q r : List Answer) → next_reply after.Miss (outcome_of_all q) (outcome_of_all r) ≡ outcome_of_all (or_after_miss q r)
miss_outcome [] r = refl
miss_outcome (a ∷ q) r = flip a.outcome (outcome_of_all r) (Some a.outcome) ∙ outcome_either (is_good a.outcome) a q r

-- cold, then warm with the add after its hit
pub serves-warm_up : (v : Vec Plan Global) (p : Plan) (q a : Box Plan Global) (cold warm : Tree) (exptime : ℕ) (s : Situation) → v.items ≡ p ∷ OnHit q a ∷ [] → is_reading s.op ≡ true
    → Serves p cold (under 0 s) → Serves q.value warm (under 1 s) → Serves a.value cold (under 2 (adding s)) → Serves (InTurn after.Miss v) (warm_up cold warm exptime) s
serves-warm_up v p q a cold warm exptime s is h f g i = record {
  sends = λ c o.
      rw (sent-InTurn c o after.Miss v, is, sent-OnHit c o q a, f.sends c o, f.replies c o, g.sends c o, g.replies c o, i.sends c o, h)
      (ap (λ ls. launched cold (under 0 s) c o ++ ls)
      (once_goes after.Miss (replies cold (under 0 s) o) _
      ∙ ap (λ ls. once is_missed (replies cold (under 0 s) o) ls) (no_more (launched warm (under 1 s) c o) (cond (is_hit (outcome_of_all (replies warm (under 1 s) o))) (launched cold (under 2 (adding s)) c o) []) (goes_on_after after.Miss (outcome_of_all (replies warm (under 1 s) o))) ∙ ap (λ ls. launched warm (under 1 s) c o ++ ls) (is_hit-once (replies warm (under 1 s) o) (launched cold (under 2 (adding s)) c o)))));
  replies = λ c o.
      rw (sent-InTurn c o after.Miss v, is, sent-OnHit c o q a, f.replies c o, g.replies c o, h)
      (miss_outcome (replies cold (under 0 s) o) (replies warm (under 1 s) o));
  kind = rw (kind-InTurn after.Miss v, is, f.kind, kind-OnHit q a, g.kind, i.kind) refl;
  whole = rw (part-InTurn after.Miss v, is, f.whole, part-OnHit q a, g.whole, i.whole, h) refl;
  places =
      rw (places-InTurn after.Miss v, is, f.places, places-OnHit q a, g.places, i.places, h)
      (ap (λ ps. positions (plan cold (under 0 s)) ++ ps) (append-nil (positions (plan warm (under 1 s)) ++ positions (plan cold (under 2 (adding s))))));
  answers = λ xs.
      let es = history_of xs in
      let cold_decides = decides-child s.op xs p cold (under 0 s) refl f in
      let warm_decides = decides-child s.op xs q.value warm (under 1 s) refl g in
      let both = decides-next after.Miss s.op xs _ _ _ _ _ _ cold_decides warm_decides in
      rw (arrived-InTurn (own_arrived xs) after.Miss v, is, arrived-OnHit (own_arrived xs) q a)
      (both.is ∙ ap₂ (λ r n. seen s.op xs (arrival r n)) (rw h refl) (time_same _ _ (λ k. rw h refl) es ∙ sym (came_time (warm_up cold warm exptime) s es)));
}
