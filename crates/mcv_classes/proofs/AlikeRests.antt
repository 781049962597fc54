-- Rests that begin with the same class words have the same legs and replies.
use Rattle.std.proofs.Common.{◌≡◌, ℕ, suc, List, [], ◌∷◌, ◌++◌, length, Some, refl}
use Rattle.std.specs.Prelude.{if◌then◌else◌}
use Rattle.std.proofs.lemmas.List.Elements.{Contains-append_left, Contains-append_right}
use Rattle.mcv_base.specs.Operation.{is_reading}
use Rattle.mcv_base.specs.Reply.{is_error, is_missed, is_good}
use Rattle.mcv_route.specs.Children.{joined, child_or, rest_of, together, of_those_holding, policy_of, way_of, by_way}
use Rattle.mcv_route.specs.Launched.{launched, launched_each, own_leg, once, in_turn}
use Rattle.mcv_route.specs.Outcomes.{Outcomes, Choice, History, outcomes}
use Rattle.mcv_route.specs.Replies.{refused, replies, replies_each, the_worse, or_after_error, or_after_miss}
use Rattle.mcv_route.specs.Reply.{reply, arrivals, arrival, answers_of, came, is_waiting, last_worse, next_after_error, next_after_miss}
use Rattle.mcv_route.specs.Situation.{Situation, under, asked, asynchronous, shadowed, adding}
use Rattle.mcv_route.specs.Tree.{Tree, Trees, pool, null, error, many, AllSync, AllInitial, AllAsync, Failover, MissFailover, warm_up, migrate, prefix_selector, operation_selector, none, child}
use Rattle.mcv_classes.specs.Class.{IsClassWord}
use Rattle.mcv_classes.specs.Words.{prefixes_in, prefixes_below, class_words}
use Rattle.mcv_classes.specs.Laws.{AlikeAreSent, AlikeAreReplied, AlikeAreAnswered}
use Rattle.mcv_classes.proofs.AlikePolicies.{BeginAlike, alike-tail, class-begins, policy-alike}

-- the same, but of another rest
abbrev pub with_rest : List ℕ → Situation → Situation
with_rest other s = record s { rest = other }

pub alike-left : (xs ys : List (List ℕ)) (rest other : List ℕ) → BeginAlike (xs ++ ys) rest other → BeginAlike xs rest other
alike-left xs ys rest other h v at = h v (Contains-append_left xs ys v at)

pub alike-right : (xs ys : List (List ℕ)) (rest other : List ℕ) → BeginAlike (xs ++ ys) rest other → BeginAlike ys rest other
alike-right xs ys rest other h v at = h v (Contains-append_right xs ys v at)

mutual
  pub replies-alike : (t : Tree) (s : Situation) (r : List ℕ) (o : Outcomes) → BeginAlike (prefixes_in t) s.rest r → replies t s o ≡ replies t (with_rest r s) o
  replies-alike (pool p ranges targets) s r o h = refl
  replies-alike null s r o h = refl
  replies-alike error s r o h = refl
  replies-alike (many AllSync ts) s r o h = λ i. together the_worse (refused ∷ []) (replies_each-alike 0 ts s r o h i)
  replies-alike (many AllInitial ts) s r o h = λ i. child_or (refused ∷ []) 0 (replies_each-alike 0 ts s r o h i)
  replies-alike (many AllAsync ts) s r o h = refl
  replies-alike (many Failover ts) s r o h = λ i. together or_after_error (refused ∷ []) (replies_each-alike 0 ts s r o h i)
  replies-alike (many MissFailover ts) s r o h = λ i.
      if is_reading s.op then together or_after_miss (refused ∷ []) (replies_each-alike 0 ts s r o h i)
      else child_or (refused ∷ []) 0 (replies_each-alike 0 ts s r o h i)
  replies-alike (warm_up cold warm exptime) s r o h =
      let first = replies-alike cold (under 0 s) r o (alike-left (prefixes_in cold) (prefixes_in warm) s.rest r h) in
      let second = replies-alike warm (under 1 s) r o (alike-right (prefixes_in cold) (prefixes_in warm) s.rest r h) in
      λ i. if is_reading s.op then or_after_miss (first i) (second i) else first i
  replies-alike (migrate from to start interval) s r o h =
      let first = replies-alike from (under 0 s) r o (alike-left (prefixes_in from) (prefixes_in to) s.rest r h) in
      let second = replies-alike to (under 1 s) r o (alike-right (prefixes_in from) (prefixes_in to) s.rest r h) in
      λ i. by_way (way_of s start interval) (first i) (second i) (the_worse (first i) (second i))
  replies-alike (prefix_selector prefixes ts) s r o h =
      let policy = policy-alike s.rest r prefixes (alike-left prefixes (prefixes_below ts) s.rest r h) in
      let each = replies_each-alike 0 ts s r o (alike-right prefixes (prefixes_below ts) s.rest r h) in
      λ i. child_or (refused ∷ []) (policy i) (each i)
  replies-alike (operation_selector ops ts) s r o h = λ i. child_or (refused ∷ []) (policy_of s.op ops) (replies_each-alike 0 ts s r o h i)

  pub replies_each-alike : (k : ℕ) (ts : Trees) (s : Situation) (r : List ℕ) (o : Outcomes) → BeginAlike (prefixes_below ts) s.rest r → replies_each k ts s o ≡ replies_each k ts (with_rest r s) o
  replies_each-alike k none s r o h = refl
  replies_each-alike k (child t ts) s r o h =
      let first = replies-alike t (under k s) r o (alike-left (prefixes_in t) (prefixes_below ts) s.rest r h) in
      let more = replies_each-alike (suc k) ts s r o (alike-right (prefixes_in t) (prefixes_below ts) s.rest r h) in
      λ i. first i ∷ more i

mutual
  pub launched-alike : (t : Tree) (s : Situation) (r : List ℕ) (c : Choice) (o : Outcomes) → BeginAlike (prefixes_in t) s.rest r → launched t s c o ≡ launched t (with_rest r s) c o
  launched-alike (pool p ranges targets) s r c o h = λ i. own_leg p s c ∷ of_those_holding (c p.symbol) ranges (launched_each-alike 0 targets (shadowed s) r c o h i)
  launched-alike null s r c o h = refl
  launched-alike error s r c o h = refl
  launched-alike (many AllSync ts) s r c o h = λ i. joined (launched_each-alike 0 ts s r c o h i)
  launched-alike (many AllInitial ts) s r c o h = λ i. child_or [] 0 (launched_each-alike 0 ts s r c o h i) ++ joined (rest_of (launched_each-alike 0 ts (asynchronous s) r c o h i))
  launched-alike (many AllAsync ts) s r c o h = λ i. joined (launched_each-alike 0 ts (asynchronous s) r c o h i)
  launched-alike (many Failover ts) s r c o h = λ i. in_turn is_error (replies_each-alike 0 ts s r o h i) (launched_each-alike 0 ts s r c o h i)
  launched-alike (many MissFailover ts) s r c o h = λ i.
      if is_reading s.op then in_turn is_missed (replies_each-alike 0 ts s r o h i) (launched_each-alike 0 ts s r c o h i)
      else child_or [] 0 (launched_each-alike 0 ts s r c o h i)
  launched-alike (warm_up cold warm exptime) s r c o h =
      let left = alike-left (prefixes_in cold) (prefixes_in warm) s.rest r h in
      let right = alike-right (prefixes_in cold) (prefixes_in warm) s.rest r h in
      let first = launched-alike cold (under 0 s) r c o left in
      let second = launched-alike warm (under 1 s) r c o right in
      let add = launched-alike cold (under 2 (adding s)) r c o left in
      let missed = replies-alike cold (under 0 s) r o left in
      let hit = replies-alike warm (under 1 s) r o right in
      λ i. if is_reading s.op then first i ++ once is_missed (missed i) (second i ++ once is_good (hit i) (add i)) else first i
  launched-alike (migrate from to start interval) s r c o h =
      let first = launched-alike from (under 0 s) r c o (alike-left (prefixes_in from) (prefixes_in to) s.rest r h) in
      let second = launched-alike to (under 1 s) r c o (alike-right (prefixes_in from) (prefixes_in to) s.rest r h) in
      λ i. by_way (way_of s start interval) (first i) (second i) (first i ++ second i)
  launched-alike (prefix_selector prefixes ts) s r c o h =
      let policy = policy-alike s.rest r prefixes (alike-left prefixes (prefixes_below ts) s.rest r h) in
      let each = launched_each-alike 0 ts s r c o (alike-right prefixes (prefixes_below ts) s.rest r h) in
      λ i. child_or [] (policy i) (each i)
  launched-alike (operation_selector ops ts) s r c o h = λ i. child_or [] (policy_of s.op ops) (launched_each-alike 0 ts s r c o h i)

  pub launched_each-alike : (k : ℕ) (ts : Trees) (s : Situation) (r : List ℕ) (c : Choice) (o : Outcomes) → BeginAlike (prefixes_below ts) s.rest r → launched_each k ts s c o ≡ launched_each k ts (with_rest r s) c o
  launched_each-alike k none s r c o h = refl
  launched_each-alike k (child t ts) s r c o h =
      let first = launched-alike t (under k s) r c o (alike-left (prefixes_in t) (prefixes_below ts) s.rest r h) in
      let more = launched_each-alike (suc k) ts s r c o (alike-right (prefixes_in t) (prefixes_below ts) s.rest r h) in
      λ i. first i ∷ more i

came-alike : (t : Tree) (s : Situation) (r : List ℕ) (es : History) → BeginAlike (prefixes_in t) s.rest r → came t s es ≡ came t (with_rest r s) es
came-alike t s r [] h = refl
came-alike t s r (e ∷ es) h = λ i. if is_waiting (replies-alike t s r (outcomes es) h i) then suc (length es) else came-alike t s r es h i

mutual
  pub reply-alike : (t : Tree) (s : Situation) (r : List ℕ) (es : History) → BeginAlike (prefixes_in t) s.rest r → reply t s es ≡ reply t (with_rest r s) es
  reply-alike (pool p ranges targets) s r es h = refl
  reply-alike null s r es h = refl
  reply-alike error s r es h = refl
  reply-alike (many AllSync ts) s r es h = λ i. (together last_worse (arrival (Some refused) 0) (arrivals-alike 0 ts s r es h i)).answer
  reply-alike (many AllInitial ts) s r es h = λ i. child_or (Some refused) 0 (answers_of (arrivals-alike 0 ts s r es h i))
  reply-alike (many AllAsync ts) s r es h = refl
  reply-alike (many Failover ts) s r es h = λ i. together next_after_error (Some refused) (answers_of (arrivals-alike 0 ts s r es h i))
  reply-alike (many MissFailover ts) s r es h = λ i.
      if is_reading s.op then together next_after_miss (Some refused) (answers_of (arrivals-alike 0 ts s r es h i))
      else child_or (Some refused) 0 (answers_of (arrivals-alike 0 ts s r es h i))
  reply-alike (warm_up cold warm exptime) s r es h =
      let first = reply-alike cold (under 0 s) r es (alike-left (prefixes_in cold) (prefixes_in warm) s.rest r h) in
      let second = reply-alike warm (under 1 s) r es (alike-right (prefixes_in cold) (prefixes_in warm) s.rest r h) in
      λ i. if is_reading s.op then next_after_miss (first i) (second i) else first i
  reply-alike (migrate from to start interval) s r es h =
      let left = alike-left (prefixes_in from) (prefixes_in to) s.rest r h in
      let right = alike-right (prefixes_in from) (prefixes_in to) s.rest r h in
      let first = reply-alike from (under 0 s) r es left in
      let second = reply-alike to (under 1 s) r es right in
      let first_came = came-alike from (under 0 s) r es left in
      let second_came = came-alike to (under 1 s) r es right in
      λ i. by_way (way_of s start interval) (first i) (second i) (last_worse (arrival (first i) (first_came i)) (arrival (second i) (second_came i))).answer
  reply-alike (prefix_selector prefixes ts) s r es h =
      let policy = policy-alike s.rest r prefixes (alike-left prefixes (prefixes_below ts) s.rest r h) in
      let each = arrivals-alike 0 ts s r es (alike-right prefixes (prefixes_below ts) s.rest r h) in
      λ i. child_or (Some refused) (policy i) (answers_of (each i))
  reply-alike (operation_selector ops ts) s r es h = λ i. child_or (Some refused) (policy_of s.op ops) (answers_of (arrivals-alike 0 ts s r es h i))

  pub arrivals-alike : (k : ℕ) (ts : Trees) (s : Situation) (r : List ℕ) (es : History) → BeginAlike (prefixes_below ts) s.rest r → arrivals k ts s es ≡ arrivals k ts (with_rest r s) es
  arrivals-alike k none s r es h = refl
  arrivals-alike k (child t ts) s r es h =
      let left = alike-left (prefixes_in t) (prefixes_below ts) s.rest r h in
      let first = reply-alike t (under k s) r es left in
      let first_came = came-alike t (under k s) r es left in
      let more = arrivals-alike (suc k) ts s r es (alike-right (prefixes_in t) (prefixes_below ts) s.rest r h) in
      λ i. arrival (first i) (first_came i) ∷ more i

-- ---- the laws

prefixes-alike : (t : Tree) (rest other word : List ℕ) → IsClassWord (class_words t) rest word → IsClassWord (class_words t) other word → BeginAlike (prefixes_in t) rest other
prefixes-alike t rest other word a b = alike-tail (prefixes_in t) [] rest other (class-begins (class_words t) rest other word a b)

pub alike_are_sent : AlikeAreSent
alike_are_sent t rest other a op since c o = launched-alike t (asked op rest since) other c o (prefixes-alike t rest other a.0 a.1 a.2)

pub alike_are_replied : AlikeAreReplied
alike_are_replied t rest other a op since o = replies-alike t (asked op rest since) other o (prefixes-alike t rest other a.0 a.1 a.2)

pub alike_are_answered : AlikeAreAnswered
alike_are_answered t rest other a op since es = reply-alike t (asked op rest since) other es (prefixes-alike t rest other a.0 a.1 a.2)
