-- What an outcome changes in a search, by what it changes in a child.
use Rattle.std.proofs.Common.{◌≡◌, ◌<◌, ◌+◌, cond, max, ℕ, zero, suc, Bool, true, false, List, [], ◌∷◌, ◌++◌, map, drop, Option, Some, None, option_map, refl, sym, ap, ap₂, ◌∙◌, append_assoc, arith}
use Rattle.std.specs.Prelude.{slice_get, slice_set}
use Rattle.mcv_base.specs.declared.reply.Outcome.{Outcome}
use Rattle.mcv_route.specs.Children.{joined}
use Rattle.mcv_rules.specs.declared.arrival.After.{After}
use Rattle.mcv_plan.specs.declared.answer.Answer.{Answer}
use Rattle.mcv_plan.specs.ReachedAnswers.{Own, Reached, IsBefore, IsMerge, Changes, nothing, put, reached, answer_from, answer_of, at, came_of, goes_on, goes_on_after, next_answered, search_from, search_answered, searched, stop, stop_from}
use Rattle.mcv_plan.specs.State.{State, States, in_turn, none, more, states_of, Either, Heard, HeardAt, IsOnlyIn, IsUnheard, Reflects, ReflectEach, ReflectTurn, answers_each, entries, entries_each, holds, plan_each, sends, sends_each, answered, answered_each}
use Rattle.mcv_plan.proofs.PartsAreLocal.{Agree, agree_put, either_map, reflect_local_turn, reflects_local, answered_local, answered_local_each, answered_plan, sends_local, sends_local_each, unheard_local}
use Rattle.mcv_plan.proofs.Merges.{merge_append, merge_before, merge_new}
use Rattle.mcv_plan.proofs.Lists.{AreBefore, each_before, only_one, plan_set, positive, search_before, some_same, changes_at, answered_before, answered_same, turn_within, within_if}
use Rattle.mcv_plan.proofs.HeardOutcome.{behind_merge, off_within, opened_agree, second_sent}
use Rattle.mcv_plan.proofs.Waves.{search_answer}

-- ---- where the leg is sent, its child has been asked, and all before it go on

turn_sent : (w : After) (o : Own) (e : ℕ) (s : State) (ss : List State) → holds e (entries s) ≡ false → holds e (searched w (answers_each o (states_of (s ∷ ss))) (sends_each o (states_of (s ∷ ss)))) ≡ true
    → (goes_on_after w (answer_of (answered o s)) ≡ true) × (holds e (searched w (answers_each o (states_of ss)) (sends_each o (states_of ss))) ≡ true)
turn_sent w o e s ss off h = second_sent e (goes_on_after w (answer_of (answered o s))) (sends o s) (searched w (answers_each o (states_of ss)) (sends_each o (states_of ss))) h (off_within o e s (holds e (sends o s)) refl off)

turn_own : (w : After) (o : Own) (e : ℕ) (s : State) (ss : List State) → holds e (joined (entries_each (states_of ss))) ≡ false → holds e (searched w (answers_each o (states_of (s ∷ ss))) (sends_each o (states_of (s ∷ ss)))) ≡ true → holds e (sends o s) ≡ true
turn_own w o e s ss off h =
    only_one e (sends o s) (cond (goes_on_after w (answer_of (answered o s))) (searched w (answers_each o (states_of ss)) (sends_each o (states_of ss))) []) (joined (entries_each (states_of ss)))
    (λ f. within_if (goes_on_after w (answer_of (answered o s))) e (searched w (answers_each o (states_of ss)) (sends_each o (states_of ss))) (joined (entries_each (states_of ss))) (λ g. turn_within w o e (states_of ss) g) f) off h

turn_behind : (w : After) (o : Own) (s : State) (ss : List State) → goes_on_after w (answer_of (answered o s)) ≡ true → ReflectTurn w o (states_of (s ∷ ss)) → ReflectTurn w o (states_of ss)
turn_behind w o s ss on st = (rw on at st.1)

pub turn_at : (w : After) (o : Own) (e : ℕ) (ss : List State) (i : ℕ) (was : State) → slice_get ss i ≡ Some was → IsOnlyIn e i (entries_each (states_of ss))
    → holds e (searched w (answers_each o (states_of ss)) (sends_each o (states_of ss))) ≡ true → ReflectTurn w o (states_of ss) → (holds e (sends o was) ≡ true) × Reflects o was
turn_at w o e [] i was h only sent st = absurd only
turn_at w o e (s ∷ ss) zero was h only sent st = rw (← some_same s was h) (turn_own w o e s ss only.1 sent, st.0)
turn_at w o e (s ∷ ss) (suc i) was h only sent st = let on = turn_sent w o e s ss only.0 sent in turn_at w o e ss i was h only.1 on.1 (turn_behind w o s ss on.0 st)

-- a child that waits is where the search reflects
pub stop_at : (w : After) (o : Own) (e : ℕ) (ss : List State) (i : ℕ) (was : State) → slice_get ss i ≡ Some was → IsOnlyIn e i (entries_each (states_of ss))
    → holds e (searched w (answers_each o (states_of ss)) (sends_each o (states_of ss))) ≡ true → answered o was ≡ None → stop w (answers_each o (states_of ss)) ≡ i
stop_at w o e [] i was h only sent waits = absurd only
stop_at w o e (s ∷ []) zero was h only sent waits = refl
stop_at w o e (s ∷ u ∷ ss) zero was h only sent waits = let here : answered o s ≡ None = ap (answered o) (some_same s was h) ∙ waits in rw here refl
stop_at w o e (s ∷ []) (suc i) was h only sent waits = absurd only.1
stop_at w o e (s ∷ u ∷ ss) (suc i) was h only sent waits = let on = turn_sent w o e s (u ∷ ss) only.0 sent in rw (on.0) (ap suc (stop_at w o e (u ∷ ss) i was h only.1 on.1 waits))

-- ---- nothing is answered

module _ (w : After) (o : Own) (e : ℕ) (r : Reached) where
  pub turn_set : (ss : List State) (i : ℕ) (was u : State) → slice_get ss i ≡ Some was → IsOnlyIn e i (entries_each (states_of ss))
      → holds e (searched w (answers_each o (states_of ss)) (sends_each o (states_of ss))) ≡ true → answered (put o e r) u ≡ answered o was → Reflects (put o e r) u
      → ReflectTurn w o (states_of ss) → ReflectTurn w (put o e r) (states_of (slice_set ss i u))
  turn_set [] i was u h only sent same f st = st
  turn_set (s ∷ ss) zero was u h only sent same f st =
      let here : answered (put o e r) u ≡ answered o s = same ∙ ap (answered o) (sym (some_same s was h)) in
      let apart = agree_put o e r (joined (entries_each (states_of ss))) only.1 in (
        f,
        rw here (either_map (goes_on_after w (answer_of (answered o s))) (ReflectTurn w o (states_of ss)) (ReflectEach nothing (states_of ss) × IsUnheard o (joined (entries_each (states_of ss))))
            (ReflectTurn w (put o e r) (states_of ss)) (ReflectEach nothing (states_of ss) × IsUnheard (put o e r) (joined (entries_each (states_of ss))))
            (λ g. reflect_local_turn w o (put o e r) (states_of ss) apart g) (λ g. (g.0, unheard_local o (put o e r) (joined (entries_each (states_of ss))) apart g.1)) st.1),
      )
  turn_set (s ∷ ss) (suc i) was u h only sent same f st =
      let on = turn_sent w o e s ss only.0 sent in
      let apart = agree_put o e r (entries s) only.0 in
      (reflects_local o (put o e r) s apart st.0, rw (← answered_local o (put o e r) s apart, on.0) (turn_set ss i was u h only.1 on.1 same f (turn_behind w o s ss on.0 st)))

  pub turn_merge : (ss : List State) (i : ℕ) (was : State) (ks : List ℕ) → slice_get ss i ≡ Some was → IsOnlyIn e i (entries_each (states_of ss))
      → holds e (searched w (answers_each o (states_of ss)) (sends_each o (states_of ss))) ≡ true → answered (put o e r) was ≡ answered o was → IsMerge (sends o was) ks (sends (put o e r) was)
      → IsMerge (searched w (answers_each o (states_of ss)) (sends_each o (states_of ss))) ks (searched w (answers_each (put o e r) (states_of ss)) (sends_each (put o e r) (states_of ss)))
  turn_merge [] i was ks h only sent same m = absurd only
  turn_merge (s ∷ ss) zero was ks h only sent same m =
      let is = some_same s was h in
      let apart = agree_put o e r (joined (entries_each (states_of ss))) only.1 in
      before_merge (goes_on_after w (answer_of (answered o s))) (goes_on_after w (answer_of (answered (put o e r) s))) (sends o s) ks (sends (put o e r) s) _ _
      (ap (λ z. goes_on_after w (answer_of z)) (ap (answered (put o e r)) is ∙ same ∙ ap (answered o) (sym is)))
      (ap₂ (λ xs ls. searched w (map answer_of xs) ls) (sym (answered_local_each o (put o e r) (states_of ss) apart)) (sym (sends_local_each o (put o e r) (states_of ss) apart)))
      (rw is m)
    where
      before_merge : (b c : Bool) (xs ks ys us vs : List ℕ) → c ≡ b → vs ≡ us → IsMerge xs ks ys → IsMerge (xs ++ cond b us []) ks (ys ++ cond c vs [])
      before_merge b c xs ks ys us vs same e m = rw (same, e) (merge_before xs ks ys (cond b us []) m)
  turn_merge (s ∷ ss) (suc i) was ks h only sent same m =
      let on = turn_sent w o e s ss only.0 sent in
      let apart = agree_put o e r (entries s) only.0 in
      behind_merge (goes_on_after w (answer_of (answered o s))) (goes_on_after w (answer_of (answered (put o e r) s))) (sends o s) (sends (put o e r) s) (searched w (answers_each o (states_of ss)) (sends_each o (states_of ss))) ks
      (searched w (answers_each (put o e r) (states_of ss)) (sends_each (put o e r) (states_of ss))) on.0
      (ap (λ z. goes_on_after w (answer_of z)) (sym (answered_local o (put o e r) s apart))) (sym (sends_local o (put o e r) s apart)) (turn_merge ss i was ks h only.1 on.1 same m)

pub heard_turn_none : (w : After) (ends : List ℕ) (ss us : List State) (current : ℕ) (e : ℕ) (x : Outcome) (i : ℕ) (b a : List ℕ) → IsOnlyIn e i (entries_each (states_of ss))
    → HeardAt e x None b a i ss us → Heard e x None b a (in_turn w ends (states_of ss) current) (in_turn w ends (states_of us) current)
heard_turn_none w ends ss us current e x i b a only h =
    let plans : plan_each (states_of us) ≡ plan_each (states_of ss) = rw h.now (plan_set ss i h.was h.«is» h.here h.heard.same) in
    record {
      same = ap (λ z. in_turn w ends z 0) plans;
      reflects = λ o t n bf sent st.
          let q = put o e (reached e x t) in
          let at_child = turn_at w o e ss i h.was h.here only sent st.1 in
          let stays : answered q h.was ≡ answered o h.was = h.heard.reply o t n bf at_child.0 at_child.1 in
          let all_stay : answered_each q (states_of us) ≡ answered_each o (states_of ss) = answered_same q (states_of ss) (states_of us) plans ∙ changes_at o e x t None ss i h.was h.here only stays in
          let now : answered q h.«is» ≡ answered o h.was = sym (answered_plan q h.«is») ∙ ap (answered q) h.heard.same ∙ answered_plan q h.was ∙ stays in
          (st.0 ∙ sym (ap (λ z. stop w (map answer_of z)) all_stay), rw h.now (turn_set w o e (reached e x t) ss i h.was h.«is» h.here only sent now (h.heard.reflects o t n bf at_child.0 at_child.1) st.1));
      reply = λ o t n bf sent st.
          let at_child = turn_at w o e ss i h.was h.here only sent st.1 in
          ap (search_answered w) (changes_at o e x t None ss i h.was h.here only (h.heard.reply o t n bf at_child.0 at_child.1));
      fresh = λ o t n bf sent st.
          let at_child = turn_at w o e ss i h.was h.here only sent st.1 in
          let f = h.heard.fresh o t n bf at_child.0 at_child.1 in
          (f.0, f.1, turn_merge w o e (reached e x t) ss i h.was f.0 h.here only sent (h.heard.reply o t n bf at_child.0 at_child.1) f.2);
    }

-- the leg's child had replied before, and the search has gone on
pub heard_turn_passed : (w : After) (ends : List ℕ) (ss us : List State) (current : ℕ) (e : ℕ) (x : Outcome) (r : Option Answer) (i : ℕ) (b a : List ℕ) → (i ≡ current → ⊥) → IsOnlyIn e i (entries_each (states_of ss))
    → HeardAt e x r b a i ss us → Heard e x None b a (in_turn w ends (states_of ss) current) (in_turn w ends (states_of us) current)
heard_turn_passed w ends ss us current e x None i b a other only h = heard_turn_none w ends ss us current e x i b a only h
heard_turn_passed w ends ss us current e x (Some y) i b a other only h =
    let never : (o : Own) (t : ℕ) → o e ≡ None → IsBefore o t → holds e (sends o (in_turn w ends (states_of ss) current)) ≡ true → Reflects o (in_turn w ends (states_of ss) current) → ⊥ =
    λ o t n bf sent st.
    let at_child = turn_at w o e ss i h.was h.here only sent st.1 in
    let changes = h.heard.reply o t n bf at_child.0 at_child.1 in
    other (sym (stop_at w o e ss i h.was h.here only sent changes.0) ∙ sym st.0)
    in
    record {
      same = ap (λ z. in_turn w ends z 0) (rw h.now (plan_set ss i h.was h.«is» h.here h.heard.same));
      reflects = λ o t n bf sent st. absurd (never o t n bf sent st);
      reply = λ o t n bf sent st. absurd (never o t n bf sent st);
      fresh = λ o t n bf sent st. absurd (never o t n bf sent st);
    }

-- ---- the search goes on

pub choose : {P Q : Type 0} (b : Bool) → P → Q → Either b P Q
choose true p q = p
choose false p q = q

pub each_turn : (w : After) (ss : States) → ReflectEach nothing ss → ReflectTurn w nothing ss
each_turn w none f = f
each_turn w (more s ss) f = (f.0, choose (goes_on_after w (answer_of (answered nothing s))) (each_turn w ss f.1) (f.1, λ k h. refl))

from_none : (w : After) (xs : List (Option Reached)) → search_answered w (None ∷ xs) ≡ None
from_none w [] = refl
from_none w (x ∷ xs) = refl

changes_max : (t : ℕ) (z : Option Reached) → came_of z < t → Changes t (answer_of z) None (option_map (λ b. at (max t b.came) b) z)
changes_max t None h = refl
changes_max t (Some b) h = (refl, let m : max t b.came ≡ t = grind (arith, h) in ap (λ n. Some (at n b)) m)

changes_from : (w : After) (t : ℕ) (a : Answer) (xs : List (Option Reached)) → 0 < t → AreBefore t xs → Changes t (answer_from w (Some a) (map answer_of xs)) None (search_from w (Some (record { answer = a; came = t })) xs)
changes_from w t a [] pos b = (refl, refl)
changes_from w t a (y ∷ ys) pos b =
    elim (goes_on w a.outcome) as (λ c. Changes t (cond c (answer_from w (answer_of y) (map answer_of ys)) (Some a)) None (cond c (option_map (λ z. at (max t z.came) z) (search_from w y ys)) (Some (record { answer = a; came = t })))) [
      | true ↦ rw (← search_answer w y ys) (changes_max t (search_from w y ys) (search_before t w y ys pos b.0 b.1))
      | false ↦ (refl, refl)
    ]

changes_next : (w : After) (t : ℕ) (r : Option Answer) (x : Option Reached) (ys zs : Option Reached) → goes_on_after w (answer_of x) ≡ true → came_of x < t → Changes t r ys zs → Changes t r (next_answered w x ys) (next_answered w x zs)
changes_next w t None x ys zs on h f = ap (next_answered w x) f
changes_next w t (Some a) None ys zs on h f = absurd (cc)
changes_next w t (Some a) (Some y) ys zs on h f =
    rw (f.0, f.1, on) (refl, let m : max y.came t ≡ t = grind (arith, h) in ap (λ n. Some (record { answer = a; came = n })) m)

-- what a search is now
pub record Moves (w : After) (o q : Own) (t : ℕ) (r : Option Answer) (n : ℕ) (ks : List ℕ) (ss us : List State) : Type 0 where
  pub reply : Changes t r (search_answered w (answered_each o (states_of ss))) (search_answered w (answered_each q (states_of ss)))
  pub current : stop w (answers_each q (states_of ss)) ≡ n
  pub reflects : ReflectTurn w q (states_of us)
  pub fresh : IsMerge (searched w (answers_each o (states_of ss)) (sends_each o (states_of ss))) ks (searched w (answers_each q (states_of ss)) (sends_each q (states_of ss)))

move_merge : (b c d : Bool) (xs ks ys us vs ws : List ℕ) → b ≡ false → d ≡ c → vs ≡ ws → IsMerge xs ks ys → IsMerge (xs ++ cond b us []) (ks ++ cond c ws []) (ys ++ cond d vs [])
move_merge b c d xs ks ys us vs ws off same e m = rw (off, same, e) (merge_append xs ks ys [] (cond c ws []) (cond c ws []) m (merge_new (cond c ws [])))

pub rest_reflects : (w : After) (o : Own) (e : ℕ) (ss : List State) (i : ℕ) (was : State) → slice_get ss i ≡ Some was → IsOnlyIn e i (entries_each (states_of ss))
    → holds e (searched w (answers_each o (states_of ss)) (sends_each o (states_of ss))) ≡ true → answered o was ≡ None → ReflectTurn w o (states_of ss)
    → ReflectEach nothing (states_of (drop (suc i) ss)) × IsUnheard o (joined (entries_each (states_of (drop (suc i) ss))))
rest_reflects w o e [] i was h only sent waits st = absurd only
rest_reflects w o e (s ∷ ss) zero was h only sent waits st = let here : answered o s ≡ None = ap (answered o) (some_same s was h) ∙ waits in (rw here at st.1)
rest_reflects w o e (s ∷ ss) (suc i) was h only sent waits st = let on = turn_sent w o e s ss only.0 sent in rest_reflects w o e ss i was h only.1 on.1 waits (turn_behind w o s ss on.0 st)

module _ (w : After) (o : Own) (e : ℕ) (x : Outcome) (t : ℕ) (a : Answer) (bf : IsBefore o t) where
  pub move : (ss : List State) (i : ℕ) (was u : State) (ks : List ℕ) (n : ℕ) → slice_get ss i ≡ Some was → IsOnlyIn e i (entries_each (states_of ss))
      → holds e (searched w (answers_each o (states_of ss)) (sends_each o (states_of ss))) ≡ true → answered o was ≡ None → answered (put o e (reached e x t)) was ≡ Some (record { answer = a; came = t })
      → answered (put o e (reached e x t)) u ≡ Some (record { answer = a; came = t }) → Reflects (put o e (reached e x t)) u → IsMerge (sends o was) ks (sends (put o e (reached e x t)) was) → ReflectTurn w o (states_of ss)
      → n ≡ i + stop_from w (Some a) (answers_each nothing (states_of (drop (suc i) ss)))
      → Moves w o (put o e (reached e x t)) t (answer_from w (Some a) (answers_each nothing (states_of (drop (suc i) ss)))) n
      (ks ++ cond (goes_on_after w (Some a)) (searched w (answers_each nothing (states_of (drop (suc i) ss))) (sends_each nothing (states_of (drop (suc i) ss)))) []) ss (slice_set ss i u)
  move [] i was u ks n h only sent waits came now f m st count = absurd only
  move (s ∷ ss) zero was u ks n h only sent waits came now f m st count =
      let q = put o e (reached e x t) in
      let is = some_same s was h in
      let here : answered o s ≡ None = ap (answered o) is ∙ waits in
      let there : answered q s ≡ Some (record { answer = a; came = t }) = ap (answered q) is ∙ came in
      let rests = rest_reflects w o e (s ∷ ss) zero was h only sent waits st in
      let behind : Agree nothing q (joined (entries_each (states_of ss))) = opened_agree o e (reached e x t) (joined (entries_each (states_of ss))) only.1 rests.1 in
      let answered_behind : answered_each q (states_of ss) ≡ answered_each nothing (states_of ss) = sym (answered_local_each nothing q (states_of ss) behind) in
      let pos = positive o t bf in
      let changes = changes_from w t a (answered_each nothing (states_of ss)) pos (each_before nothing t (states_of ss) (λ k. grind (arith, pos))) in
      record {
        reply = rw (here, there, answered_behind, from_none w (answered_each o (states_of ss))) changes;
        current = rw (there, answered_behind) (sym (let z : n ≡ stop_from w (Some a) (answers_each nothing (states_of ss)) = omega (arith, count) in z));
        reflects = (
          f,
          rw now (choose (goes_on_after w (Some a)) (reflect_local_turn w nothing q (states_of ss) behind (each_turn w (states_of ss) rests.0))
              (rests.0, unheard_local o q (joined (entries_each (states_of ss))) (agree_put o e (reached e x t) (joined (entries_each (states_of ss))) only.1) rests.1)),
        );
        fresh = move_merge (goes_on_after w (answer_of (answered o s))) (goes_on_after w (Some a)) (goes_on_after w (answer_of (answered q s))) (sends o s) ks (sends q s) _ _ _
            (ap (λ z. goes_on_after w (answer_of z)) here) (ap (λ z. goes_on_after w (answer_of z)) there)
            (ap₂ (λ xs ls. searched w (map answer_of xs) ls) answered_behind (sym (sends_local_each nothing q (states_of ss) behind))) (rw is m);
      }
  move (s ∷ []) (suc i) was u ks n h only sent waits came now f m st count = absurd only.1
  move (s ∷ v ∷ ss) (suc i) was u ks n h only sent waits came now f m st count =
      let q = put o e (reached e x t) in
      let on = turn_sent w o e s (v ∷ ss) only.0 sent in
      let apart = agree_put o e (reached e x t) (entries s) only.0 in
      let same : answered q s ≡ answered o s = sym (answered_local o q s apart) in
      let more_n = i + stop_from w (Some a) (answers_each nothing (states_of (drop (suc i) (v ∷ ss)))) in
      let next = move (v ∷ ss) i was u ks more_n h only.1 on.1 waits came now f m (turn_behind w o s (v ∷ ss) on.0 st) refl in
      let one : n ≡ suc more_n = omega (arith, count) in
      record {
        reply = rw same (changes_next w t _ (answered o s) _ _ on.0 (answered_before o t s bf) next.reply);
        current = rw (same, on.0) (ap suc next.current ∙ sym one);
        reflects = (reflects_local o q s apart st.0, rw (same, on.0) next.reflects);
        fresh = behind_merge (goes_on_after w (answer_of (answered o s))) (goes_on_after w (answer_of (answered q s))) (sends o s) (sends q s) _ _ _ on.0
            (ap (λ z. goes_on_after w (answer_of z)) same) (sym (sends_local o q s apart)) next.fresh;
      }

pub drop_set : (ss : List State) (i : ℕ) (u : State) → drop (suc i) (slice_set ss i u) ≡ drop (suc i) ss
drop_set [] i u = refl
drop_set (s ∷ ss) zero u = refl
drop_set (s ∷ ss) (suc i) u = drop_set ss i u

pub heard_turn_some : (w : After) (ends : List ℕ) (ss us : List State) (current : ℕ) (e : ℕ) (x : Outcome) (a : Answer) (i : ℕ) (b f c : List ℕ) (r : Option Answer) (n : ℕ) → i ≡ current → IsOnlyIn e i (entries_each (states_of ss))
    → (ReflectEach nothing (states_of (drop (suc i) ss)) → c ≡ f ++ cond (goes_on_after w (Some a)) (searched w (answers_each nothing (states_of (drop (suc i) ss))) (sends_each nothing (states_of (drop (suc i) ss)))) [])
    → (ReflectEach nothing (states_of (drop (suc i) ss)) → r ≡ answer_from w (Some a) (answers_each nothing (states_of (drop (suc i) ss))))
    → (ReflectEach nothing (states_of (drop (suc i) ss)) → n ≡ i + stop_from w (Some a) (answers_each nothing (states_of (drop (suc i) ss))))
    → HeardAt e x (Some a) b f i ss us → Heard e x r b c (in_turn w ends (states_of ss) current) (in_turn w ends (states_of us) n)
heard_turn_some w ends ss us current e x a i b f c r n is only opens replies counts h =
    let moves : (o : Own) (t : ℕ) → o e ≡ None → IsBefore o t → holds e (sends o (in_turn w ends (states_of ss) current)) ≡ true → Reflects o (in_turn w ends (states_of ss) current)
    → (ks : List ℕ) × (c ≡ b ++ ks) × Moves w o (put o e (reached e x t)) t r n ks ss us =
    λ o t m bf sent st.
    let q = put o e (reached e x t) in
    let at_child = turn_at w o e ss i h.was h.here only sent st.1 in
    let changes = h.heard.reply o t m bf at_child.0 at_child.1 in
    let rests = rest_reflects w o e ss i h.was h.here only sent changes.0 st.1 in
    let now : answered q h.«is» ≡ Some (record { answer = a; came = t }) = sym (answered_plan q h.«is») ∙ ap (answered q) h.heard.same ∙ answered_plan q h.was ∙ changes.1 in
    let g = h.heard.fresh o t m bf at_child.0 at_child.1 in
    let ws = cond (goes_on_after w (Some a)) (searched w (answers_each nothing (states_of (drop (suc i) ss))) (sends_each nothing (states_of (drop (suc i) ss)))) [] in (
      g.0 ++ ws,
      opens rests.0 ∙ ap (λ z. z ++ ws) g.1 ∙ append_assoc b g.0 ws,
      rw (h.now, replies rests.0) (move w o e x t a bf ss i h.was h.«is» g.0 n h.here only sent changes.0 changes.1 now (h.heard.reflects o t m bf at_child.0 at_child.1) g.2 st.1 (counts rests.0)),
    )
    in
    record {
      same = ap (λ z. in_turn w ends z 0) (rw h.now (plan_set ss i h.was h.«is» h.here h.heard.same));
      reflects = λ o t m bf sent st.
          let q = put o e (reached e x t) in
          let v = (moves o t m bf sent st).2 in
          let answered_now = answered_same q (states_of ss) (states_of us) (rw h.now (plan_set ss i h.was h.«is» h.here h.heard.same)) in
          (sym v.current ∙ ap (λ z. stop w (map answer_of z)) (sym answered_now), v.reflects);
      reply = λ o t m bf sent st. (moves o t m bf sent st).2.reply;
      fresh = λ o t m bf sent st. let v = moves o t m bf sent st in (v.0, v.1, v.2.fresh);
    }
