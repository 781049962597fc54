-- A part of a course answers and sends what the part of the plan does, one kind of part at a time.
use Rattle.std.proofs.Common.{◌≡◌, ◌≢◌, ◌||◌, nat_eq, inl, inr, arith, cond, max, ℕ, Bool, true, false, Some, None, option_map, List, [], ◌∷◌, ◌++◌, map, Option, Vec, Box, Global, refl, sym, ap, ap₂, ◌∙◌}
use Rattle.std.specs.Prelude.{fold}
use Rattle.mcv_base.specs.declared.reply.FixedReply.{FixedReply}
use Rattle.mcv_route.specs.Children.{child_or, joined, together}
use Rattle.mcv_base.specs.declared.reply.FixedReply.TheVariants.{ErrorRoute}
use Rattle.mcv_rules.specs.Arrivals as arrivals
use Rattle.mcv_route.specs.declared.launch.Launch.{Launch}
use Rattle.mcv_route.specs.Outcomes.{Choice, outcomes}
use Rattle.mcv_rules.specs.History.{history_of}
use Rattle.mcv_route.specs.declared.launch.Answered.{Answered}
use Rattle.mcv_route.specs.Tree.{Tree}
use Rattle.mcv_route.specs.Situation.{Situation}
use Rattle.mcv_route.specs.Launched.{launched}
use Rattle.mcv_route.specs.Reply as definition
use Rattle.mcv_route.specs.Children.{is_within}
use Rattle.mcv_route.specs.Outcomes.{Outcomes}
use Rattle.mcv_route.specs.Reply.{arrival, came}
use Rattle.mcv_rules.specs.Plan.{both}
use Rattle.mcv_rules.proofs.KnownIsHistory.{own_outcome}
use Rattle.mcv_base.specs.declared.reply.Outcome.{Outcome}
use Rattle.mcv_base.specs.declared.reply.Outcome.TheVariants.{Good, Soft, Error}
use Rattle.mcv_rules.specs.declared.arrival.Answer as answers
use Rattle.mcv_rules.specs.PlanInMemory.{Serves, arrived, launch_of, legs_each, next_reply, replies_each, sent}
use Rattle.mcv_rules.specs.PlanInMemory.{searched as theirs_searched, is_hit as theirs_hit}
use Rattle.mcv_rules.specs.declared.arrival.Arrival.{Arrival}
use Rattle.mcv_rules.specs.declared.plan.PlannedLeg.{PlannedLeg}
use Rattle.mcv_rules.specs.declared.plan.Plan.{Plan, Send, Reply, All, Beside, InTurn, OnHit, Shadowed}
use Rattle.mcv_rules.specs.declared.status.Source as sources
use Rattle.mcv_rules.proofs.Plans.{sent-Send, sent-Reply, sent-Shadowed, sent-All, sent-Beside, sent-InTurn, sent-OnHit, arrived-Send, arrived-Reply, arrived-All, arrived-Beside, arrived-InTurn, arrived-OnHit}
use Rattle.mcv_rules.specs.declared.arrival.After.{After}
use Rattle.mcv_plan.specs.declared.answer.Answer.{Answer}
use Rattle.mcv_plan.specs.declared.answer.Source.{Source}
use Rattle.mcv_plan.specs.ReachedAnswers.{IsMerge, done, kept, added, Own, all_answered, answer_of, goes_on_after, is_hit, search_answered, searched}
use Rattle.mcv_plan.specs.State.{State, send, reply, all, in_turn, beside, on_hit, states_of, entries, entries_each, holds, answered_each, answers_each, sends, sends_each, answered}
use Rattle.mcv_plan.specs.Parts.{AnswersAs, IsFixed, IsOwnOf, RepliesAs, SendsAs, reached_of}
use Rattle.mcv_plan.specs.PastOutcomes.{IsOnce, new_of}
use Rattle.mcv_plan.proofs.PartsAreLocal.{holds_left, holds_right, or_cases, or_left, or_off, or_right}
use Rattle.mcv_plan.proofs.ArrivalsAgree.{all_is_answered, search_is_answered, silent_first, silent_second}
use Rattle.mcv_plan.specs.declared.answer.Source.TheVariants.{Fixed}

-- each part of a course answers as the plan's part does
abbrev pub AnswerEach : (ℕ → List ℕ) → List State → List Plan → Type 0
AnswerEach position [] [] = Unit {0}
AnswerEach position [] (p ∷ ps) = ⊥
AnswerEach position (s ∷ ss) [] = ⊥
AnswerEach position (s ∷ ss) (p ∷ ps) = AnswersAs position s p × AnswerEach position ss ps

-- each sends what the plan's part sends
abbrev pub SendEach : (ℕ → Launch) → Choice → List State → List Plan → Type 0
SendEach legs c [] [] = Unit {0}
SendEach legs c [] (p ∷ ps) = ⊥
SendEach legs c (s ∷ ss) [] = ⊥
SendEach legs c (s ∷ ss) (p ∷ ps) = SendsAs legs c s p × SendEach legs c ss ps

abbrev pub ReplyEach : Choice → List Plan → Type 0
ReplyEach c [] = Unit {0}
ReplyEach c (p ∷ ps) = RepliesAs c p × ReplyEach c ps

each_answers : (position : ℕ → List ℕ) (ss : List State) (ps : List Plan) → AnswerEach position ss ps → (g : sources.Source → Source) → IsFixed g → (own : List ℕ → Arrival) (o : Own)
    → IsOwnOf g own position o (joined (entries_each (states_of ss))) → answered_each o (states_of ss) ≡ map (reached_of g) (map (arrived own) ps)
each_answers position [] [] f g fixed own o a = refl
each_answers position [] (p ∷ ps) f g fixed own o a = absurd f
each_answers position (s ∷ ss) [] f g fixed own o a = absurd f
each_answers position (s ∷ ss) (p ∷ ps) f g fixed own o a =
    ap₂ (λ x xs. x ∷ xs) (f.0 g fixed own o (λ k h. a k (holds_left k (entries s) (joined (entries_each (states_of ss))) h)))
    (each_answers position ss ps f.1 g fixed own o (λ k h. a k (holds_right k (entries s) (joined (entries_each (states_of ss))) h)))

pub send_answers : (position : ℕ → List ℕ) (e : ℕ) (l : PlannedLeg) → position e ≡ l.position → AnswersAs position (send e) (Send l)
send_answers position e l at g fixed own o a = a e (or_left (nat_eq e e) false (grind arith)) ∙ ap (λ p. reached_of g (own p)) at ∙ ap (reached_of g) (sym (arrived-Send own l))

pub reply_answers : (position : ℕ → List ℕ) (f : FixedReply) → AnswersAs position (reply f) (Reply f)
reply_answers position f g fixed own o a = rw (arrived-Reply own f, fixed f) refl

more_than_none : (ps : List Plan) → ps ≢ [] → (P : List Plan → Type 0) → ((q : Plan) (qs : List Plan) → P (q ∷ qs)) → P ps
more_than_none [] some P f = absurd (some refl)
more_than_none (q ∷ qs) some P f = f q qs

pub all_answers : (position : ℕ → List ℕ) (ends : List ℕ) (ss : List State) (v : Vec Plan Global) (n : ℕ) (x : Option Answer) → v.items ≢ [] → AnswerEach position ss v.items → AnswersAs position (all ends (states_of ss) n x) (All v)
all_answers position ends ss v n x some f g fixed own o a =
    rw (arrived-All own v, each_answers position ss v.items f g fixed own o a)
    (more_than_none v.items some (λ ps. all_answered (map (reached_of g) (map (arrived own) ps)) ≡ reached_of g (arrivals.all_arrived (map (arrived own) ps)))
    (λ q qs. sym (all_is_answered g (arrived own q) (map (arrived own) qs))))

pub turn_answers : (position : ℕ → List ℕ) (w : After) (ends : List ℕ) (ss : List State) (v : Vec Plan Global) (n : ℕ) → v.items ≢ [] → AnswerEach position ss v.items → AnswersAs position (in_turn w ends (states_of ss) n) (InTurn w v)
turn_answers position w ends ss v n some f g fixed own o a =
    rw (arrived-InTurn own w v, each_answers position ss v.items f g fixed own o a)
    (more_than_none v.items some (λ ps. search_answered w (map (reached_of g) (map (arrived own) ps)) ≡ reached_of g (together (arrivals.next_arrived w) (arrivals.arrived_at_once ErrorRoute) (map (arrived own) ps)))
    (λ q qs. sym (search_is_answered g w (arrived own q) (map (arrived own) qs))))

-- the first alone is waited for
pub beside_answers : (position : ℕ → List ℕ) (ends : List ℕ) (s : State) (ss : List State) (v : Vec Plan Global) (p : Plan) (ps : List Plan) → v.items ≡ p ∷ ps → AnswersAs position s p → AnswersAs position (beside ends (states_of (s ∷ ss))) (Beside v)
beside_answers position ends s ss v p ps is f g fixed own o a =
    rw (arrived-Beside own v, is) (f g fixed own o (λ k h. a k (holds_left k (entries s) (joined (entries_each (states_of ss))) h)))

pub hit_answers : (position : ℕ → List ℕ) (s : State) (end : ℕ) (u : State) (p q : Box Plan Global) → AnswersAs position s p.value → AnswersAs position (on_hit s end u) (OnHit p q)
hit_answers position s end u p q f g fixed own o a =
    f g fixed own o (λ k h. a k (holds_left k (entries s) (entries u) h)) ∙ ap (reached_of g) (sym (arrived-OnHit own p q))

-- ---- what is sent

map_join : (f : ℕ → Launch) (xs ys : List ℕ) → map f (xs ++ ys) ≡ map f xs ++ map f ys
map_join f [] ys = refl
map_join f (x ∷ xs) ys = ap (λ zs. f x ∷ zs) (map_join f xs ys)

own_left : (g : sources.Source → Source) (own : List ℕ → Arrival) (position : ℕ → List ℕ) (o : Own) (xs ys : List ℕ) → IsOwnOf g own position o (xs ++ ys) → IsOwnOf g own position o xs
own_left g own position o xs ys a = λ k h. a k (holds_left k xs ys h)

own_right : (g : sources.Source → Source) (own : List ℕ → Arrival) (position : ℕ → List ℕ) (o : Own) (xs ys : List ℕ) → IsOwnOf g own position o (xs ++ ys) → IsOwnOf g own position o ys
own_right g own position o xs ys a = λ k h. a k (holds_right k xs ys h)

each_sends : (legs : ℕ → Launch) (c : Choice) (ss : List State) (ps : List Plan) → SendEach legs c ss ps → (g : sources.Source → Source) → IsFixed g → (own : List ℕ → Arrival) (o : Own)
    → IsOwnOf g own (λ k. (legs k).position) o (joined (entries_each (states_of ss))) → map legs (joined (sends_each o (states_of ss))) ≡ joined (legs_each (map (sent c (arrivals.outcome_in own)) ps))
each_sends legs c [] [] f g fixed own o a = refl
each_sends legs c [] (p ∷ ps) f g fixed own o a = absurd f
each_sends legs c (s ∷ ss) [] f g fixed own o a = absurd f
each_sends legs c (s ∷ ss) (p ∷ ps) f g fixed own o a =
    map_join legs (sends o s) (joined (sends_each o (states_of ss)))
    ∙ ap₂ (λ xs ys. xs ++ ys) (f.0 g fixed own o (own_left g own (λ k. (legs k).position) o (entries s) (joined (entries_each (states_of ss))) a))
    (each_sends legs c ss ps f.1 g fixed own o (own_right g own (λ k. (legs k).position) o (entries s) (joined (entries_each (states_of ss))) a))

pub send_sends : (legs : ℕ → Launch) (c : Choice) (e : ℕ) (l : PlannedLeg) → legs e ≡ launch_of c l → SendsAs legs c (send e) (Send l)
send_sends legs c e l is g fixed own o a = rw (sent-Send c (arrivals.outcome_in own) l) (ap (λ z. z ∷ []) is)

pub all_sends : (legs : ℕ → Launch) (c : Choice) (ends : List ℕ) (ss : List State) (v : Vec Plan Global) (n : ℕ) (x : Option Answer) → SendEach legs c ss v.items → SendsAs legs c (all ends (states_of ss) n x) (All v)
all_sends legs c ends ss v n x f g fixed own o a = rw (sent-All c (arrivals.outcome_in own) v) (each_sends legs c ss v.items f g fixed own o a)

pub beside_sends : (legs : ℕ → Launch) (c : Choice) (ends : List ℕ) (ss : List State) (v : Vec Plan Global) → SendEach legs c ss v.items → SendsAs legs c (beside ends (states_of ss)) (Beside v)
beside_sends legs c ends ss v f g fixed own o a = rw (sent-Beside c (arrivals.outcome_in own) v) (each_sends legs c ss v.items f g fixed own o a)

map_if : (f : ℕ → Launch) (b : Bool) (xs : List ℕ) → map f (cond b xs []) ≡ cond b (map f xs) []
map_if f true xs = refl
map_if f false xs = refl

go_alike : (g : sources.Source → Source) (w : After) → (a : Option answers.Answer) (n : ℕ) → goes_on_after w (answer_of (reached_of g (record { answer = a; came = n }))) ≡ arrivals.goes_on_after w (option_map (λ x. x.outcome) a)
go_alike g w None n = refl
go_alike g w (Some a) n = refl

sends_turn : (legs : ℕ → Launch) (c : Choice) (w : After) → (ss : List State) (ps : List Plan) → AnswerEach (λ k. (legs k).position) ss ps → ReplyEach c ps → SendEach legs c ss ps
    → (g : sources.Source → Source) → IsFixed g → (own : List ℕ → Arrival) (o : Own) → IsOwnOf g own (λ k. (legs k).position) o (joined (entries_each (states_of ss)))
    → map legs (searched w (answers_each o (states_of ss)) (sends_each o (states_of ss))) ≡ theirs_searched w (map (sent c (arrivals.outcome_in own)) ps)
sends_turn legs c w [] [] t r f g fixed own o a = refl
sends_turn legs c w [] (p ∷ ps) t r f g fixed own o a = absurd f
sends_turn legs c w (s ∷ ss) [] t r f g fixed own o a = absurd f
sends_turn legs c w (s ∷ ss) (p ∷ ps) t r f g fixed own o a =
    let before = own_left g own (λ k. (legs k).position) o (entries s) (joined (entries_each (states_of ss))) a in
    let behind = own_right g own (λ k. (legs k).position) o (entries s) (joined (entries_each (states_of ss))) a in
    let go : goes_on_after w (answer_of (answered o s)) ≡ arrivals.goes_on_after w (sent c (arrivals.outcome_in own) p).reply =
    ap (λ z. goes_on_after w (answer_of z)) (t.0 g fixed own o before) ∙ go_alike g w (arrived own p).answer (arrived own p).came ∙ ap (arrivals.goes_on_after w) (sym (r.0 own)) in
    map_join legs (sends o s) (cond (goes_on_after w (answer_of (answered o s))) (searched w (answers_each o (states_of ss)) (sends_each o (states_of ss))) [])
    ∙ ap₂ (λ xs ys. xs ++ ys) (f.0 g fixed own o before)
    (map_if legs (goes_on_after w (answer_of (answered o s))) (searched w (answers_each o (states_of ss)) (sends_each o (states_of ss)))
    ∙ ap₂ (λ b ys. cond b ys []) go (sends_turn legs c w ss ps t.1 r.1 f.1 g fixed own o behind))

pub turn_sends : (legs : ℕ → Launch) (c : Choice) (w : After) (ends : List ℕ) (ss : List State) (v : Vec Plan Global) (n : ℕ) → AnswerEach (λ k. (legs k).position) ss v.items → ReplyEach c v.items → SendEach legs c ss v.items → SendsAs legs c (in_turn w ends (states_of ss) n) (InTurn w v)
turn_sends legs c w ends ss v n t r f g fixed own o a = rw (sent-InTurn c (arrivals.outcome_in own) w v) (sends_turn legs c w ss v.items t r f g fixed own o a)

hit_alike : (g : sources.Source → Source) (a : Option answers.Answer) (n : ℕ) → is_hit (answer_of (reached_of g (record { answer = a; came = n }))) ≡ theirs_hit (option_map (λ x. x.outcome) a)
hit_alike g None n = refl
hit_alike g (Some a) n = refl

pub hit_sends : (legs : ℕ → Launch) (c : Choice) (s : State) (end : ℕ) (u : State) (p q : Box Plan Global) → AnswersAs (λ k. (legs k).position) s p.value → RepliesAs c p.value → SendsAs legs c s p.value → SendsAs legs c u q.value → SendsAs legs c (on_hit s end u) (OnHit p q)
hit_sends legs c s end u p q t r f h g fixed own o a =
    let before = own_left g own (λ k. (legs k).position) o (entries s) (entries u) a in
    let behind = own_right g own (λ k. (legs k).position) o (entries s) (entries u) a in
    let hit : is_hit (answer_of (answered o s)) ≡ theirs_hit (sent c (arrivals.outcome_in own) p.value).reply =
    ap (λ z. is_hit (answer_of z)) (t g fixed own o before) ∙ hit_alike g (arrived own p.value).answer (arrived own p.value).came ∙ ap theirs_hit (sym (r own)) in
    rw (sent-OnHit c (arrivals.outcome_in own) p q)
    (map_join legs (sends o s) (cond (is_hit (answer_of (answered o s))) (sends o u) [])
    ∙ ap₂ (λ xs ys. xs ++ ys) (f g fixed own o before) (map_if legs (is_hit (answer_of (answered o s))) (sends o u) ∙ ap₂ (λ b ys. cond b ys []) hit (h g fixed own o behind)))

-- ---- replies

next_alike : (w : After) (a b : Option answers.Answer) (n m : ℕ)
    → option_map (λ x. x.outcome) (arrivals.next_arrived w (record { answer = a; came = n }) (record { answer = b; came = m })).answer ≡ next_reply w (option_map (λ x. x.outcome) a) (option_map (λ x. x.outcome) b)
next_alike w a b n m = elim (arrivals.goes_on_after w (option_map (λ x. x.outcome) a))
    as (λ t. option_map (λ x. x.outcome) (cond {A = Arrival} t (record { answer = b; came = max n m }) (record { answer = a; came = n })).answer ≡ cond t (option_map (λ x. x.outcome) b) (option_map (λ x. x.outcome) a)) [
      | true ↦ refl
      | false ↦ refl
    ]

fold_alike : (w : After) (c : Choice) (own : List ℕ → Arrival) (x : Option Outcome) (a : Arrival) (ps : List Plan) → ReplyEach c ps → x ≡ option_map (λ y. y.outcome) a.answer
    → fold (next_reply w) x (replies_each (map (sent c (arrivals.outcome_in own)) ps)) ≡ option_map (λ y. y.outcome) (fold (arrivals.next_arrived w) a (map (arrived own) ps)).answer
fold_alike w c own x a [] r e = e
fold_alike w c own x a (p ∷ ps) r e =
    fold_alike w c own (next_reply w x (sent c (arrivals.outcome_in own) p).reply) (arrivals.next_arrived w a (arrived own p)) ps r.1
    (ap₂ (next_reply w) e (r.0 own) ∙ sym (next_alike w a.answer (arrived own p).answer a.came (arrived own p).came))

pub turn_replies : (c : Choice) (w : After) (v : Vec Plan Global) → ReplyEach c v.items → RepliesAs c (InTurn w v)
turn_replies c w v r own = rw (sent-InTurn c (arrivals.outcome_in own) w v, arrived-InTurn own w v) (each v.items r)
  where
    each : (ps : List Plan) → ReplyEach c ps → together (next_reply w) (Some Error) (replies_each (map (sent c (arrivals.outcome_in own)) ps)) ≡ option_map (λ y. y.outcome) (together (arrivals.next_arrived w) (arrivals.arrived_at_once ErrorRoute) (map (arrived own) ps)).answer
    each [] r = refl
    each (p ∷ ps) r = fold_alike w c own (sent c (arrivals.outcome_in own) p).reply (arrived own p) ps r.1 (r.0 own)

-- ---- the definitions

pub course_serves : (p : Plan) (t : Tree) (situation : Situation) (c : Choice) (legs : ℕ → Launch) (s : State) → Serves p t situation → AnswersAs (λ k. (legs k).position) s p → SendsAs legs c s p → (g : sources.Source → Source) → IsFixed g → (xs : List Answered) (o : Own) → IsOwnOf g (arrivals.own_arrived xs) (λ k. (legs k).position) o (entries s) → (map legs (sends o s) ≡ launched t situation c (outcomes (history_of xs))) × (answered o s ≡ reached_of g (arrivals.seen situation.op xs (arrival (definition.reply t situation (history_of xs)) (came t situation (history_of xs)))))
course_serves p t situation c legs s serves changes sent_so g fixed xs o a = (
  sent_so g fixed (arrivals.own_arrived xs) o a ∙ ap (λ z. (sent c z p).legs) (λ i q. own_outcome xs q i) ∙ serves.sends c (outcomes (history_of xs)),
  changes g fixed (arrivals.own_arrived xs) o a ∙ ap (reached_of g) (serves.answers xs),
)

-- ---- the worst reply

picked : (x y : answers.Answer) (n m : ℕ) (r : Outcome) (b : Bool) → x.outcome ≡ r → y.outcome ≡ r → option_map (λ z. z.outcome) (cond {A = Arrival} b (record { answer = Some y; came = m }) (record { answer = Some x; came = n })).answer ≡ Some r
picked x y n m r true e f = ap Some f
picked x y n m r false e f = ap Some e

worst_by : (x y : answers.Answer) (n m : ℕ) (p q : Outcome) → x.outcome ≡ p → y.outcome ≡ q
    → option_map (λ z. z.outcome) (arrivals.later (record { answer = Some x; came = n }) (record { answer = Some y; came = m })).answer ≡ both (Some p) (Some q)
worst_by x y n m Good Good e f = picked x y n m Good _ e f
worst_by x y n m Soft Soft e f = picked x y n m Soft _ e f
worst_by x y n m Error Error e f = picked x y n m Error _ e f
worst_by x y n m Good Soft e f = rw (e, f) refl
worst_by x y n m Good Error e f = rw (e, f) refl
worst_by x y n m Soft Error e f = rw (e, f) refl
worst_by x y n m Soft Good e f = rw (e, f) refl
worst_by x y n m Error Good e f = rw (e, f) refl
worst_by x y n m Error Soft e f = rw (e, f) refl

worst_alike : (g : sources.Source → Source) (x y : Option answers.Answer) (n m : ℕ)
    → option_map (λ z. z.outcome) (arrivals.later (record { answer = x; came = n }) (record { answer = y; came = m })).answer ≡ both (option_map (λ z. z.outcome) x) (option_map (λ z. z.outcome) y)
worst_alike g None y n m = ap (option_map (λ z. z.outcome)) (silent_first g n m y)
worst_alike g (Some x) None n m = ap (option_map (λ z. z.outcome)) (silent_second g n m x)
worst_alike g (Some x) (Some y) n m = worst_by x y n m x.outcome y.outcome refl refl

fold_worst : (c : Choice) (own : List ℕ → Arrival) (x : Option Outcome) (a : Arrival) (ps : List Plan) → ReplyEach c ps → x ≡ option_map (λ y. y.outcome) a.answer
    → fold both x (replies_each (map (sent c (arrivals.outcome_in own)) ps)) ≡ option_map (λ y. y.outcome) (fold arrivals.later a (map (arrived own) ps)).answer
fold_worst c own x a [] r e = e
fold_worst c own x a (p ∷ ps) r e =
    fold_worst c own (both x (sent c (arrivals.outcome_in own) p).reply) (arrivals.later a (arrived own p)) ps r.1
    (ap₂ both e (r.0 own) ∙ sym (worst_alike (λ z. any) a.answer (arrived own p).answer a.came (arrived own p).came))
  where
    any : Source
    any = Fixed ErrorRoute

pub all_replies : (c : Choice) (v : Vec Plan Global) → ReplyEach c v.items → RepliesAs c (All v)
all_replies c v r own = rw (sent-All c (arrivals.outcome_in own) v, arrived-All own v) (each v.items r)
  where
    each : (ps : List Plan) → ReplyEach c ps → together both (Some Error) (replies_each (map (sent c (arrivals.outcome_in own)) ps)) ≡ option_map (λ y. y.outcome) (arrivals.all_arrived (map (arrived own) ps)).answer
    each [] r = refl
    each (p ∷ ps) r = fold_worst c own (sent c (arrivals.outcome_in own) p).reply (arrived own p) ps r.1 (r.0 own)

-- ---- the other replies, and the other legs

pub send_replies : (c : Choice) (l : PlannedLeg) → RepliesAs c (Send l)
send_replies c l own = rw (sent-Send c (arrivals.outcome_in own) l, arrived-Send own l) refl

pub reply_replies : (c : Choice) (f : FixedReply) → RepliesAs c (Reply f)
reply_replies c f own = rw (sent-Reply c (arrivals.outcome_in own) f, arrived-Reply own f) refl

first_replies : (c : Choice) (own : List ℕ → Arrival) (ps : List Plan) → ((p : Plan) (qs : List Plan) → ps ≡ p ∷ qs → RepliesAs c p)
    → child_or (Some Error) 0 (replies_each (map (sent c (arrivals.outcome_in own)) ps)) ≡ option_map (λ y. y.outcome) (child_or (arrivals.arrived_at_once ErrorRoute) 0 (map (arrived own) ps)).answer
first_replies c own [] r = refl
first_replies c own (p ∷ ps) r = r p ps refl own

pub beside_replies : (c : Choice) (v : Vec Plan Global) → ((p : Plan) (ps : List Plan) → v.items ≡ p ∷ ps → RepliesAs c p) → RepliesAs c (Beside v)
beside_replies c v r own = rw (sent-Beside c (arrivals.outcome_in own) v, arrived-Beside own v) (first_replies c own v.items r)

pub hit_replies : (c : Choice) (p q : Box Plan Global) → RepliesAs c p.value → RepliesAs c (OnHit p q)
hit_replies c p q r own = rw (sent-OnHit c (arrivals.outcome_in own) p q, arrived-OnHit own p q) (r own)

pub reply_sends : (legs : ℕ → Launch) (c : Choice) (f : FixedReply) → SendsAs legs c (reply f) (Reply f)
reply_sends legs c f g fixed own o a = rw (sent-Reply c (arrivals.outcome_in own) f) refl

pub shadow_sends : (legs : ℕ → Launch) (c : Choice) (symbol first last : ℕ) (p : Box Plan Global) (s : State) → is_within (record { first = first; last = last }) (c symbol) ≡ true → SendsAs legs c s p.value → SendsAs legs c s (Shadowed symbol first last p)
shadow_sends legs c symbol first last p s on f g fixed own o a = rw (sent-Shadowed c (arrivals.outcome_in own) symbol first last p, on) (f g fixed own o a)

pub shadow_is_silent : (c : Choice) (symbol first last : ℕ) (p : Box Plan Global) → is_within (record { first = first; last = last }) (c symbol) ≡ false → (o : Outcomes) → (sent c o (Shadowed symbol first last p)).legs ≡ []
shadow_is_silent c symbol first last p off o = rw (sent-Shadowed c o symbol first last p, off) refl

-- ---- the fresh ones

was_there : (k : ℕ) (a m b : List ℕ) → IsMerge a m b → holds k a ≡ true → holds k b ≡ true
was_there k a m b done h = h
was_there k a m b (kept j x y z f) h = elim (or_cases (nat_eq j k) (holds k x) h) as (λ _. (nat_eq j k || holds k z) ≡ true) [
  | inl e ↦ or_left (nat_eq j k) (holds k z) e
  | inr e ↦ or_right (nat_eq j k) (holds k z) (was_there k x y z f e)
]
was_there k a m b (added j x y z f) h = or_right (nat_eq j k) (holds k z) (was_there k x y z f h)

wasnt_there : (k : ℕ) (a m b : List ℕ) (t : Bool) → IsMerge a m b → holds k b ≡ false → holds k a ≡ t → t ≡ false
wasnt_there k a m b true f off on = let h = was_there k a m b f on in absurd (cc)
wasnt_there k a m b false f off on = refl

eq_sym : (j k : ℕ) (t : Bool) → nat_eq k j ≡ t → nat_eq j k ≡ t
eq_sym j k t e = grind (arith, e)

one_more : (k : ℕ) (a b : List ℕ) → holds k b ≡ false → new_of (k ∷ a) b ≡ new_of a b
one_more k a [] off = refl
one_more k a (j ∷ b) off =
    let parts = or_off (nat_eq j k) (holds k b) off in
    rw (eq_sym k j false parts.0) (ap (λ z. cond (holds j a) z (j ∷ z)) (one_more k a b parts.1))

pub fresh_are_new : (a m b : List ℕ) → IsMerge a m b → IsOnce b → m ≡ new_of a b
fresh_are_new a m b done once = refl
fresh_are_new a m b (kept k x y z f) once =
    let here : holds k (k ∷ x) ≡ true = or_left (nat_eq k k) (holds k x) (grind arith) in
    rw here (fresh_are_new x y z f once.1 ∙ sym (one_more k x z once.0))
fresh_are_new a m b (added k x y z f) once =
    rw (wasnt_there k x y z (holds k x) f once.0 refl) (ap (λ w. k ∷ w) (fresh_are_new x y z f once.1))
