-- A plan serves a route: legs, replies at once, a handle that does what another does, and all at once.
use Rattle.std.proofs.Common.{◌≡◌, ◌<◌, take, ◌+◌, ◌&&◌, ◌||◌, cond, ℕ, suc, Bool, true, false, nat_lt, nat_le, List, [], ◌∷◌, ◌++◌, length, map, get_or, Vec, Global, Option, Some, None, option_map, refl, sym, ap, ap₂, ◌∙◌, arith, add-one, append-nil, append_assoc}
use Rattle.std.proofs.Math.Seq.{take-suc}
use Rattle.std.proofs.lemmas.List.{length-take-le, length-map, map-append}
use Rattle.std.specs.declared.alloc.AllocError.{AllocError}
use Rattle.std.specs.Prelude.{IfOk, Result, Ok, Err, fold, ◌==◌}
use Rattle.mcv_base.specs.declared.operation.Op.{Op}
use Rattle.mcv_base.specs.declared.operation.Op.TheVariants.{Get, Gets, Set, Add, Replace, Append, Prepend, Cas, Delete, Touch, Incr, Decr}
use Rattle.mcv_base.specs.declared.reply.Outcome.{Outcome}
use Rattle.mcv_base.specs.declared.reply.Outcome.TheVariants.{Soft, Error}
use Rattle.mcv_base.specs.declared.reply.FixedReply.{FixedReply}
use Rattle.mcv_base.specs.declared.reply.FixedReply.TheVariants.{ErrorRoute}
use Rattle.mcv_base.specs.Reply.{outcome_of, fixed_value}
use Rattle.mcv_route.specs.declared.launch.Answered.{Answered}
use Rattle.mcv_route.specs.Outcomes.{Outcomes, Choice, History, outcomes}
use Rattle.mcv_route.specs.Tree.{Pool, Tree, Trees, pool, null, error, many, AllSync, none, child}
use Rattle.mcv_route.specs.Situation.{Situation, under}
use Rattle.mcv_route.specs.Children as children
use Rattle.mcv_route.specs.Children.{together}
use Rattle.mcv_route.specs.Replies as replies
use Rattle.mcv_route.specs.declared.tree.Route.{Route}
use Rattle.mcv_route.specs.View.{view, trees_of}
use Rattle.mcv_route.specs.Replies.{Answer, own_answers, replies_each, outcome_of as outcome_of_all}
use Rattle.mcv_route.specs.Launched.{launched, launched_each}
use Rattle.mcv_route.specs.Reply as definition
use Rattle.mcv_route.specs.Reply.{reply, came, arrival, arrivals, last_worse, is_waiting}
use Rattle.mcv_rules.specs.Plan as planned
use Rattle.mcv_rules.specs.Places.{are_plain, kind_of, places_of}
use Rattle.mcv_rules.specs.Plans.{plan, plan_each}
use Rattle.mcv_rules.specs.Soundness.{positions}
use Rattle.mcv_rules.specs.NormalForm.{all_of, alone, part, whole_of}
use Rattle.mcv_rules.specs.Times.{came_each}
use Rattle.mcv_rules.specs.Status.{default_reply}
use Rattle.mcv_rules.specs.History.{history_of}
use Rattle.mcv_rules.specs.Arrivals.{seen, seen_answer, weight, later, own_arrived, all_arrived}
use Rattle.mcv_rules.specs.PlanInMemory as laid
use Rattle.mcv_rules.specs.PlanInMemory.{sent, legs_each, arrived, Serves, ServeEach}
use Rattle.mcv_rules.specs.declared.plan.PlannedLeg.{PlannedLeg}
use Rattle.mcv_rules.specs.declared.plan.Plan.{Plan, Send, Reply, All}
use Rattle.mcv_rules.proofs.Times as times
use Rattle.mcv_rules.proofs.Verdicts.{reply_is_planned}
use Rattle.mcv_rules.proofs.KnownIsHistory.{own_seen}
use Rattle.mcv_rules.proofs.Places.{kind-All, kind-Reply, kind-Send, places-All, places-Reply, places-Send}
use Rattle.mcv_rules.proofs.NormalForms.{part-All, part-Reply, part-Send}
use Rattle.mcv_rules.proofs.Plans.{sent-Send, sent-Reply, sent-All, arrived-Send, arrived-Reply, arrived-All}

-- what is laid out serves the whole, where it serves the part
pub served : (r : Result Plan AllocError) (P Q : Plan → Type 0) → ((p : Plan) → P p → Q p) → IfOk r P → IfOk r Q
served (Ok p) P Q h f = h p f
served (Err e) P Q h f = f

-- ---- a pool

own_reply : (p : List ℕ) (r : Option Outcome) → r ≡ outcome_of_all (own_answers p r)
own_reply p None = refl
own_reply p (Some x) = refl

pub serves-pool : (l : PlannedLeg) (q : Pool) (s : Situation) → l.position ≡ s.position → l.symbol ≡ q.symbol → map (λ x. x.0) l.servers.value.items ≡ q.servers → l.op ≡ s.op → l.mark ≡ s.mark → Serves (Send l) (pool q [] none) s
serves-pool l q s at symbol servers op mark = record {
  sends = λ c o. rw (sent-Send c o l, at, symbol, servers, op, mark) refl;
  replies = λ c o. rw (sent-Send c o l, at) (own_reply s.position (o s.position));
  kind = kind-Send l;
  places = rw (places-Send l, at) refl;
  whole = rw (part-Send l, at, symbol, servers, op, mark) refl;
  answers = λ xs. rw (arrived-Send (own_arrived xs) l, at) (own_seen q s xs);
}

-- ---- replies at once

-- where a handle has its replies always, they came at once
pub at_once : (t : Tree) (s : Situation) → ((o : Outcomes) → is_waiting (replies.replies t s o) ≡ false) → (es : History) → came t s es ≡ 0
at_once t s h [] = refl
at_once t s h (e ∷ es) = rw (h (outcomes es)) (at_once t s h es)

pub default_is_soft : (op : Op) → outcome_of (fixed_value (default_reply op)) ≡ Soft
default_is_soft Get = refl
default_is_soft Gets = refl
default_is_soft Set = refl
default_is_soft Add = refl
default_is_soft Replace = refl
default_is_soft Append = refl
default_is_soft Prepend = refl
default_is_soft Cas = refl
default_is_soft Delete = refl
default_is_soft Touch = refl
default_is_soft Incr = refl
default_is_soft Decr = refl

pub serves-null : (f : FixedReply) (s : Situation) → f ≡ default_reply s.op → Serves (Reply f) null s
serves-null f s e = record {
  sends = λ c o. rw (sent-Reply c o f) refl;
  replies = λ c o. rw (sent-Reply c o f, e, default_is_soft s.op) refl;
  kind = kind-Reply f;
  places = places-Reply f;
  whole = rw (part-Reply f, e, default_is_soft s.op) refl;
  answers = λ xs. rw (arrived-Reply (own_arrived xs) f, e, at_once null s (λ o. refl) (history_of xs), default_is_soft s.op) refl;
}

pub serves-error : (s : Situation) → Serves (Reply ErrorRoute) error s
serves-error s = record {
  sends = λ c o. rw (sent-Reply c o ErrorRoute) refl;
  replies = λ c o. rw (sent-Reply c o ErrorRoute) refl;
  kind = kind-Reply ErrorRoute;
  places = places-Reply ErrorRoute;
  whole = part-Reply ErrorRoute;
  answers = λ xs. rw (arrived-Reply (own_arrived xs) ErrorRoute, at_once error s (λ o. refl) (history_of xs)) refl;
}

-- ---- a handle that does what another does

pub record Does (t : Tree) (s : Situation) (u : Tree) (v : Situation) : Type 0 where
  pub op : s.op ≡ v.op
  pub sends : (c : Choice) (o : Outcomes) → launched t s c o ≡ launched u v c o
  pub replies : (o : Outcomes) → replies.replies t s o ≡ replies.replies u v o
  pub reply : (es : History) → definition.reply t s es ≡ definition.reply u v es
  pub whole : plan t s ≡ plan u v

pub came-does : (t u : Tree) (s v : Situation) → ((o : Outcomes) → replies.replies t s o ≡ replies.replies u v o) → (es : History) → came t s es ≡ came u v es
came-does t u s v h [] = refl
came-does t u s v h (e ∷ es) = ap₂ (λ r n. cond (is_waiting r) (suc (length es)) n) (h (outcomes es)) (came-does t u s v h es)

pub seen-does : (t u : Tree) (s v : Situation) → s.op ≡ v.op → ((o : Outcomes) → replies.replies t s o ≡ replies.replies u v o) → ((es : History) → definition.reply t s es ≡ definition.reply u v es) → (xs : List Answered)
    → seen v.op xs (arrival (reply u v (history_of xs)) (came u v (history_of xs))) ≡ seen s.op xs (arrival (reply t s (history_of xs)) (came t s (history_of xs)))
seen-does t u s v op h r xs =
    let es = history_of xs in
    ap (λ op. seen op xs (arrival (reply u v es) (came u v es))) (sym op)
    ∙ ap₂ (λ x n. seen s.op xs (arrival x n)) (sym (r es)) (sym (came-does t u s v h es))

pub serves-does : (p : Plan) (t u : Tree) (s v : Situation) → Does t s u v → Serves p u v → Serves p t s
serves-does p t u s v d f = record {
  sends = λ c o. f.sends c o ∙ sym (d.sends c o);
  replies = λ c o. f.replies c o ∙ ap outcome_of_all (sym (d.replies o));
  kind = f.kind;
  places = f.places ∙ ap positions (sym d.whole);
  whole = f.whole ∙ ap part (sym d.whole);
  answers = λ xs. f.answers xs ∙ seen-does t u s v d.op d.replies d.reply xs;
}

-- ---- each child

serve-append : (k n : ℕ) (ps : List Plan) (ts : List Tree) (s : Situation) (p : Plan) (t : Tree) → ServeEach k ps ts s → n ≡ k + length ts → Serves p t (under n s) → ServeEach k (ps ++ p ∷ []) (ts ++ t ∷ []) s
serve-append k n [] [] s p t a e f = let same : k ≡ n = omega (arith, e) in (rw same f, tt)
serve-append k n [] (u ∷ ts) s p t a e f = absurd a
serve-append k n (q ∷ ps) [] s p t a e f = absurd a
serve-append k n (q ∷ ps) (u ∷ ts) s p t a e f = (a.0, serve-append (suc k) n ps ts s p t a.1 (omega (arith, e)) f)

-- one child more
pub serve-grows : (ps : List Plan) (routes : List Route) (n : ℕ) (route : Route) (p : Plan) (s : Situation) → n < length routes → route ≡ get_or routes n route
    → ServeEach 0 ps (map view (take n routes)) s → Serves p (view route) (under n s) → ServeEach 0 (ps ++ p ∷ []) (map view (take (n + 1) routes)) s
serve-grows ps routes n route p s h is a f =
    let count : length (map view (take n routes)) ≡ n = length-map (take n routes) view ∙ length-take-le n routes (omega (arith, h)) in
    rw (add-one n, take-suc routes n route h, ← is, map-append view (take n routes) (route ∷ []))
    (serve-append 0 n ps (map view (take n routes)) s p (view route) a (omega (arith, count)) f)

pub legs-each : (k : ℕ) (ps : List Plan) (ts : List Tree) (s : Situation) (c : Choice) (o : Outcomes) → ServeEach k ps ts s → legs_each (map (sent c o) ps) ≡ launched_each k (trees_of ts) s c o
legs-each k [] [] s c o a = refl
legs-each k [] (t ∷ ts) s c o a = absurd a
legs-each k (p ∷ ps) [] s c o a = absurd a
legs-each k (p ∷ ps) (t ∷ ts) s c o a = ap₂ ◌∷◌ (a.0.sends c o) (legs-each (suc k) ps ts s c o a.1)

-- the replies of each child are those of its plan in the normal form
pub replies-each : (k : ℕ) (ps : List Plan) (ts : List Tree) (s : Situation) (c : Choice) (o : Outcomes) → ServeEach k ps ts s → laid.replies_each (map (sent c o) ps) ≡ map (λ u. planned.reply u o) (plan_each k (trees_of ts) s)
replies-each k [] [] s c o a = refl
replies-each k [] (t ∷ ts) s c o a = absurd a
replies-each k (p ∷ ps) [] s c o a = absurd a
replies-each k (p ∷ ps) (t ∷ ts) s c o a = ap₂ ◌∷◌ (a.0.replies c o ∙ reply_is_planned t (under k s) o) (replies-each (suc k) ps ts s c o a.1)

-- plans joined two by two reply as their replies joined two by two
module _ (o : Outcomes) (put : Option Outcome → Option Outcome → Option Outcome) (join : planned.Plan → planned.Plan → planned.Plan) (h : (t u : planned.Plan) → planned.reply (join t u) o ≡ put (planned.reply t o) (planned.reply u o)) where
  reply-fold : (r : Option Outcome) (t : planned.Plan) (ts : List planned.Plan) → r ≡ planned.reply t o → fold put r (map (λ u. planned.reply u o) ts) ≡ planned.reply (fold join t ts) o
  reply-fold r t [] e = e
  reply-fold r t (u ∷ ts) e = reply-fold (put r (planned.reply u o)) (join t u) ts (ap (λ x. put x (planned.reply u o)) e ∙ sym (h t u))

  pub reply-together : (d : planned.Plan) (ts : List planned.Plan) → together put (planned.reply d o) (map (λ u. planned.reply u o) ts) ≡ planned.reply (together join d ts) o
  reply-together d [] = refl
  reply-together d (t ∷ ts) = reply-fold (planned.reply t o) t ts refl

pub arrived-each : (k : ℕ) (ps : List Plan) (ts : List Tree) (s : Situation) (xs : List Answered) → ServeEach k ps ts s → map (arrived (own_arrived xs)) ps ≡ map (seen s.op xs) (arrivals k (trees_of ts) s (history_of xs))
arrived-each k [] [] s xs a = refl
arrived-each k [] (t ∷ ts) s xs a = absurd a
arrived-each k (p ∷ ps) [] s xs a = absurd a
arrived-each k (p ∷ ps) (t ∷ ts) s xs a = ap₂ ◌∷◌ (a.0.answers xs) (arrived-each (suc k) ps ts s xs a.1)

-- ---- all at once

weight-seen : (op : Op) (xs : List Answered) (x : Option Answer) → weight (option_map (seen_answer op xs) x) ≡ definition.weight x
weight-seen op xs None = refl
weight-seen op xs (Some a) = refl

cond-seen : (op : Op) (xs : List Answered) (b : Bool) (x y : definition.Arrival) → cond b (seen op xs y) (seen op xs x) ≡ seen op xs (cond b y x)
cond-seen op xs true x y = refl
cond-seen op xs false x y = refl

later-seen : (op : Op) (xs : List Answered) (x y : definition.Arrival) → later (seen op xs x) (seen op xs y) ≡ seen op xs (last_worse x y)
later-seen op xs x y =
    rw (weight-seen op xs x.answer, weight-seen op xs y.answer)
    (cond-seen op xs (nat_lt (definition.weight x.answer) (definition.weight y.answer) || ((definition.weight x.answer == definition.weight y.answer) && nat_le x.came y.came)) x y)

fold-seen : (op : Op) (xs : List Answered) (x : definition.Arrival) (more : List definition.Arrival) → fold later (seen op xs x) (map (seen op xs) more) ≡ seen op xs (fold last_worse x more)
fold-seen op xs x [] = refl
fold-seen op xs x (y ∷ more) = ap (λ a. fold later a (map (seen op xs) more)) (later-seen op xs x y) ∙ fold-seen op xs (last_worse x y) more

came-seen : (op : Op) (xs : List Answered) (k : ℕ) (ts : Trees) (s : Situation) (es : History) → map (λ b. b.came) (map (seen op xs) (arrivals k ts s es)) ≡ came_each k ts s es
came-seen op xs k none s es = refl
came-seen op xs k (child t ts) s es = ap (λ ns. came t (under k s) es ∷ ns) (came-seen op xs (suc k) ts s es)

all-seen : (ts : List Tree) (s : Situation) (xs : List Answered) → all_arrived (map (seen s.op xs) (arrivals 0 (trees_of ts) s (history_of xs))) ≡ seen s.op xs (arrival (reply (many AllSync (trees_of ts)) s (history_of xs)) (came (many AllSync (trees_of ts)) s (history_of xs)))
all-seen [] s xs = rw (at_once (many AllSync none) s (λ o. refl) (history_of xs)) refl
all-seen (t ∷ ts) s xs =
    let es = history_of xs in
    let first = arrival (reply t (under 0 s) es) (came t (under 0 s) es) in
    let more = arrivals 1 (trees_of ts) s es in
    rw (times.time_of_all_sync t (trees_of ts) s es, came-seen s.op xs 1 (trees_of ts) s es, fold-seen s.op xs first more) refl

-- ---- positions, and shadows

pub kinds-each : (k : ℕ) (ps : List Plan) (ts : List Tree) (s : Situation) → ServeEach k ps ts s → are_plain (map kind_of ps) ≡ true
kinds-each k [] ts s a = refl
kinds-each k (p ∷ ps) [] s a = absurd a
kinds-each k (p ∷ ps) (t ∷ ts) s a = rw a.0.kind (kinds-each (suc k) ps ts s a.1)

pub places-each : (k : ℕ) (ps : List Plan) (ts : List Tree) (s : Situation) → ServeEach k ps ts s → map places_of ps ≡ map positions (plan_each k (trees_of ts) s)
places-each k [] [] s a = refl
places-each k [] (t ∷ ts) s a = absurd a
places-each k (p ∷ ps) [] s a = absurd a
places-each k (p ∷ ps) (t ∷ ts) s a = ap₂ ◌∷◌ a.0.places (places-each (suc k) ps ts s a.1)

-- the normal form of each
pub wholes-each : (k : ℕ) (ps : List Plan) (ts : List Tree) (s : Situation) → ServeEach k ps ts s → map whole_of ps ≡ plan_each k (trees_of ts) s
wholes-each k [] [] s a = refl
wholes-each k [] (t ∷ ts) s a = absurd a
wholes-each k (p ∷ ps) [] s a = absurd a
wholes-each k (p ∷ ps) (t ∷ ts) s a = ap₂ ◌∷◌ (ap alone a.0.whole) (wholes-each (suc k) ps ts s a.1)

-- the positions of plans joined two by two
module _ (join : planned.Plan → planned.Plan → planned.Plan) (h : (t u : planned.Plan) → positions (join t u) ≡ positions t ++ positions u) where
  pub positions-fold : (t : planned.Plan) (us : List planned.Plan) → positions (fold join t us) ≡ positions t ++ children.joined (map positions us)
  positions-fold t [] = sym (append-nil (positions t))
  positions-fold t (u ∷ us) =
      positions-fold (join t u) us ∙ ap (λ ps. ps ++ children.joined (map positions us)) (h t u) ∙ append_assoc (positions t) (positions u) (children.joined (map positions us))

  pub positions-together : (us : List planned.Plan) → positions (together join (planned.Reply Error) us) ≡ children.joined (map positions us)
  positions-together [] = refl
  positions-together (u ∷ us) = positions-fold u us

pub serves-all : (v : Vec Plan Global) (ts : List Tree) (s : Situation) → ServeEach 0 v.items ts s → Serves (All v) (many AllSync (trees_of ts)) s
serves-all v ts s a = record {
  sends = λ c o. rw (sent-All c o v, legs-each 0 v.items ts s c o a) refl;
  replies = λ c o.
      rw (sent-All c o v, replies-each 0 v.items ts s c o a)
      (reply-together o planned.both planned.Both (λ t u. refl) (planned.Reply Error) (plan_each 0 (trees_of ts) s) ∙ sym (reply_is_planned (many AllSync (trees_of ts)) s o));
  kind = rw (kind-All v, kinds-each 0 v.items ts s a) refl;
  whole = part-All v ∙ ap (λ us. part (all_of us)) (wholes-each 0 v.items ts s a);
  places = places-All v ∙ ap children.joined (places-each 0 v.items ts s a) ∙ sym (positions-together planned.Both (λ t u. refl) (plan_each 0 (trees_of ts) s));
  answers = λ xs. rw (arrived-All (own_arrived xs) v, arrived-each 0 v.items ts s xs a) (all-seen ts s xs);
}
