-- The course of each kind of part is that of its plan, where its children's courses are those of their plans.
use Rattle.std.proofs.Common.{◌≡◌, ◌≢◌, ◌≤◌, ◌+◌, cond, ℕ, zero, suc, Bool, true, false, ◌&&◌, nat_le, nat_lt, List, [], ◌∷◌, ◌++◌, length, map, Vec, Box, Global, Option, refl, sym, ap, ap₂, ◌∙◌, subst, arith, rules, length-append}
use Rattle.mcv_base.specs.declared.reply.FixedReply.{FixedReply}
use Rattle.mcv_base.specs.declared.reply.FixedReply.TheVariants.{ErrorRoute}
use Rattle.mcv_route.specs.declared.launch.Launch.{Launch}
use Rattle.mcv_route.specs.Children.{is_within, joined}
use Rattle.mcv_route.specs.Outcomes.{Choice}
use Rattle.mcv_rules.specs.Arrivals as arrivals
use Rattle.mcv_rules.specs.PlanInMemory.{launch_of}
use Rattle.mcv_rules.specs.declared.arrival.After.{After}
use Rattle.mcv_rules.specs.declared.plan.PlannedLeg.{PlannedLeg}
use Rattle.mcv_rules.specs.declared.plan.Plan.{Plan, Send, Reply, All, Beside, InTurn, OnHit, Shadowed, the_lemmas}
use Rattle.mcv_rules.proofs.Places.{places-All, places-Beside, places-InTurn, places-OnHit, places-Reply, places-Send, places-Shadowed, kind-All, kind-Beside, kind-InTurn, kind-OnHit, kind-Shadowed}
use Rattle.mcv_rules.proofs.Plans.{sent-All, sent-Beside, sent-InTurn, arrived-All, arrived-Beside, arrived-InTurn}
use Rattle.mcv_plan.specs.declared.answer.Answer.{Answer}
use Rattle.mcv_plan.specs.ReachedAnswers.{answer_of, goes_on_after, is_hit, nothing, prevails, stop, waits}
use Rattle.mcv_plan.specs.State.{State, States, send, reply, all, in_turn, beside, on_hit, none, more, states_of, Either, IsUnheard, ReflectEach, ReflectTurn, Reflects, all_from, answered, answered_each, answers_each, are_placed, each_placed, entries, entries_each, within}
use Rattle.mcv_rules.specs.Places.{Kind, plain, shadow, misplaced, are_beside, are_led, are_plain, is_beside, is_plain, kind_of, places_of, plain_if, shadow_if}
use Rattle.mcv_plan.specs.Entries.{legs_of, numbers}
use Rattle.mcv_plan.specs.Parts.{AnswersAs, RepliesAs}
use Rattle.mcv_plan.specs.CourseOfPlan.{BuiltEach, Follow, IsBuilt, IsSublist, done, kept, left_out}
use Rattle.mcv_plan.proofs.PartsAgree.{AnswerEach, ReplyEach, SendEach, all_answers, all_replies, all_sends, beside_answers, beside_replies, beside_sends, hit_answers, hit_replies, hit_sends, reply_answers, reply_replies, reply_sends, send_answers, send_replies, send_sends, shadow_is_silent, shadow_sends, turn_answers, turn_replies, turn_sends}

-- ---- a plan, one level at a time

module _ (c : Choice) where
  pub legs-Send : (l : PlannedLeg) → legs_of c (Send l) ≡ launch_of c l ∷ []
  legs-Send l = search (rules, the_lemmas)

  pub legs-Reply : (f : FixedReply) → legs_of c (Reply f) ≡ []
  legs-Reply f = search (rules, the_lemmas)

  pub legs-All : (v : Vec Plan Global) → legs_of c (All v) ≡ joined (map (legs_of c) v.items)
  legs-All v = search (rules, the_lemmas)

  pub legs-Beside : (v : Vec Plan Global) → legs_of c (Beside v) ≡ joined (map (legs_of c) v.items)
  legs-Beside v = search (rules, the_lemmas)

  pub legs-InTurn : (w : After) (v : Vec Plan Global) → legs_of c (InTurn w v) ≡ joined (map (legs_of c) v.items)
  legs-InTurn w v = search (rules, the_lemmas)

  pub legs-OnHit : (p q : Box Plan Global) → legs_of c (OnHit p q) ≡ legs_of c p.value ++ legs_of c q.value
  legs-OnHit p q = search (rules, the_lemmas)

  pub legs-Shadowed : (s a b : ℕ) (p : Box Plan Global) → legs_of c (Shadowed s a b p) ≡ cond (is_within (record { first = a; last = b }) (c s)) (legs_of c p.value) []
  legs-Shadowed s a b p = search (rules, the_lemmas)

-- ---- kinds

both_true : (a b : Bool) → (a && b) ≡ true → (a ≡ true) × (b ≡ true)
both_true true b e = (refl, e)
both_true false b e = absurd (cc)

plain_when : (b : Bool) → is_plain (plain_if b) ≡ true → b ≡ true
plain_when true e = refl
plain_when false e = absurd (cc)

beside_when : (b : Bool) → is_beside (plain_if b) ≡ true → b ≡ true
beside_when true e = refl
beside_when false e = absurd (cc)

shadow_never : (b : Bool) → is_plain (shadow_if b) ≡ true → ⊥
shadow_never true e = cc
shadow_never false e = cc

shadow_when : (b : Bool) → is_beside (shadow_if b) ≡ true → b ≡ true
shadow_when true e = refl
shadow_when false e = absurd (cc)

pub plain_beside : (k : Kind) → is_plain k ≡ true → is_beside k ≡ true
plain_beside plain e = refl
plain_beside shadow e = absurd (cc)
plain_beside misplaced e = absurd (cc)

all_true : (a b : Bool) → a ≡ true → b ≡ true → (a && b) ≡ true
all_true a b e f = rw (e, f) refl

plain_beside_each : (ks : List Kind) → are_plain ks ≡ true → are_beside ks ≡ true
plain_beside_each [] e = refl
plain_beside_each (k ∷ ks) e = let q = both_true (is_plain k) (are_plain ks) e in all_true (is_beside k) (are_beside ks) (plain_beside k q.0) (plain_beside_each ks q.1)

led_beside : (ks : List Kind) → are_led ks ≡ true → are_beside ks ≡ true
led_beside [] e = refl
led_beside (k ∷ ks) e = let q = both_true (is_plain k) (are_beside ks) e in all_true (is_beside k) (are_beside ks) (plain_beside k q.0) q.1

-- ---- numbers

pub numbers_join : (n from mid m total : ℕ) → mid ≡ from + n → total ≡ n + m → numbers from total ≡ numbers from n ++ numbers mid m
numbers_join zero from mid m total e f =
    let a : mid ≡ from = omega (arith, e) in
    let b : total ≡ m = omega (arith, f) in
    rw (a, b) refl
numbers_join (suc n) from mid m total e f =
    let b : total ≡ suc (n + m) = omega (arith, f) in
    rw b (ap (λ ks. from ∷ ks) (numbers_join n (suc from) mid m (n + m) (omega (arith, e)) refl))

within_numbers : (n from low end : ℕ) → low ≤ from → from + n ≤ end → within low end (numbers from n) ≡ true
within_numbers zero from low end h g = refl
within_numbers (suc n) from low end h g =
    let a : nat_le low from ≡ true = grind (arith, h) in
    let b : nat_lt from end ≡ true = grind (arith, g) in
    rw (a, b) (within_numbers n (suc from) low end (omega (arith, h)) (omega (arith, g)))

from_numbers : (n from low : ℕ) → low ≤ from → all_from low (numbers from n) ≡ true
from_numbers zero from low h = refl
from_numbers (suc n) from low h =
    let a : nat_le low from ≡ true = grind (arith, h) in
    rw a (from_numbers n (suc from) low (omega (arith, h)))

pub follow_left : (legs : ℕ → Launch) (from : ℕ) (ls ms : List Launch) → Follow legs from (ls ++ ms) → Follow legs from ls
follow_left legs from [] ms h = tt
follow_left legs from (l ∷ ls) ms h = (h.0, follow_left legs (suc from) ls ms h.1)

pub follow_right : (legs : ℕ → Launch) (from mid : ℕ) (ls ms : List Launch) → mid ≡ from + length ls → Follow legs from (ls ++ ms) → Follow legs mid ms
follow_right legs from mid [] ms e h = let same : mid ≡ from = omega (arith, e) in rw same h
follow_right legs from mid (l ∷ ls) ms e h = follow_right legs (suc from) mid ls ms (omega (arith, e)) h.1

-- ---- positions

abbrev places_in : List Launch → List (List ℕ)
places_in ls = map (λ l. l.position) ls

map_places : (ls ms : List Launch) → map (λ l. l.position) (ls ++ ms) ≡ map (λ l. l.position) ls ++ map (λ l. l.position) ms
map_places [] ms = refl
map_places (l ∷ ls) ms = ap (λ ps. l.position ∷ ps) (map_places ls ms)

sublist_append : (ps qs rs ts : List (List ℕ)) → IsSublist ps qs → IsSublist rs ts → IsSublist (ps ++ rs) (qs ++ ts)
sublist_append ps qs rs ts done g = g
sublist_append ps qs rs ts (kept p x y f) g = kept p (x ++ rs) (y ++ ts) (sublist_append x y rs ts f g)
sublist_append ps qs rs ts (left_out q x y f) g = left_out q (x ++ rs) (y ++ ts) (sublist_append x y rs ts f g)

none_of : (qs : List (List ℕ)) → IsSublist [] qs
none_of [] = done
none_of (q ∷ qs) = left_out q [] qs (none_of qs)

-- ---- each child

module _ (c : Choice) where
  pub built_push : (ps : List Plan) (from : ℕ) (es : List ℕ) (ss : List State) (p : Plan) (n m : ℕ) (s : State) → BuiltEach c ps from es ss → n ≡ from + length (joined (map (legs_of c) ps)) → IsBuilt c p n s → m ≡ n + length (legs_of c p)
      → BuiltEach c (ps ++ p ∷ []) from (es ++ m ∷ []) (ss ++ s ∷ [])
  built_push [] from [] [] p n m s h e f g = let same : n ≡ from = omega (arith, e) in ((rw same at f), (rw same at g), tt)
  built_push [] from [] (u ∷ ss) p n m s h e f g = absurd h
  built_push [] from (x ∷ es) ss p n m s h e f g = absurd h
  built_push (q ∷ ps) from [] ss p n m s h e f g = absurd h
  built_push (q ∷ ps) from (x ∷ es) [] p n m s h e f g = absurd h
  built_push (q ∷ ps) from (x ∷ es) (u ∷ ss) p n m s h e f g =
      let count = length-append (legs_of c q) (joined (map (legs_of c) ps)) in
      (h.0, h.1, built_push ps x es ss p n m s h.2 (omega (arith, e, count, h.1)) f g)

  placed_each : (ps : List Plan) (low from : ℕ) (es : List ℕ) (ss : List State) → low ≤ from → BuiltEach c ps from es ss → are_placed low es (entries_each (states_of ss)) ≡ true
  placed_each [] low from [] [] b h = refl
  placed_each [] low from [] (u ∷ ss) b h = absurd h
  placed_each [] low from (x ∷ es) ss b h = absurd h
  placed_each (q ∷ ps) low from [] ss b h = absurd h
  placed_each (q ∷ ps) low from (x ∷ es) [] b h = absurd h
  placed_each (q ∷ ps) low from (x ∷ es) (u ∷ ss) b h =
      let a : nat_le low x ≡ true = grind (arith, b, h.1) in
      let w : within low x (entries u) ≡ true = rw h.0.numbered (within_numbers (length (legs_of c q)) from low x b (omega (arith, h.1))) in
      rw (a, w) (placed_each ps x x es ss (omega arith) h.2)

  each_is_placed : (ps : List Plan) (from : ℕ) (es : List ℕ) (ss : List State) → BuiltEach c ps from es ss → each_placed (states_of ss) ≡ true
  each_is_placed [] from [] [] h = refl
  each_is_placed [] from [] (u ∷ ss) h = absurd h
  each_is_placed [] from (x ∷ es) ss h = absurd h
  each_is_placed (q ∷ ps) from [] ss h = absurd h
  each_is_placed (q ∷ ps) from (x ∷ es) [] h = absurd h
  each_is_placed (q ∷ ps) from (x ∷ es) (u ∷ ss) h = rw h.0.placed (each_is_placed ps x es ss h.2)

  pub each_ready : (ps : List Plan) (from : ℕ) (es : List ℕ) (ss : List State) → BuiltEach c ps from es ss → ReflectEach nothing (states_of ss)
  each_ready [] from [] [] h = tt
  each_ready [] from [] (u ∷ ss) h = absurd h
  each_ready [] from (x ∷ es) ss h = absurd h
  each_ready (q ∷ ps) from [] ss h = absurd h
  each_ready (q ∷ ps) from (x ∷ es) [] h = absurd h
  each_ready (q ∷ ps) from (x ∷ es) (u ∷ ss) h = (h.0.ready, each_ready ps x es ss h.2)

  each_numbered : (ps : List Plan) (from : ℕ) (es : List ℕ) (ss : List State) → BuiltEach c ps from es ss → joined (entries_each (states_of ss)) ≡ numbers from (length (joined (map (legs_of c) ps)))
  each_numbered [] from [] [] h = refl
  each_numbered [] from [] (u ∷ ss) h = absurd h
  each_numbered [] from (x ∷ es) ss h = absurd h
  each_numbered (q ∷ ps) from [] ss h = absurd h
  each_numbered (q ∷ ps) from (x ∷ es) [] h = absurd h
  each_numbered (q ∷ ps) from (x ∷ es) (u ∷ ss) h =
      let more = joined (map (legs_of c) ps) in
      ap₂ (λ js ks. js ++ ks) h.0.numbered (each_numbered ps x es ss h.2)
      ∙ sym (numbers_join (length (legs_of c q)) from x (length more) (length (legs_of c q ++ more)) h.1 (length-append (legs_of c q) more))

  each_places : (ps : List Plan) (from : ℕ) (es : List ℕ) (ss : List State) → BuiltEach c ps from es ss → IsSublist (places_in (joined (map (legs_of c) ps))) (joined (map places_of ps))
  each_places [] from es ss h = done
  each_places (q ∷ ps) from [] ss h = absurd h
  each_places (q ∷ ps) from (x ∷ es) [] h = absurd h
  each_places (q ∷ ps) from (x ∷ es) (u ∷ ss) h =
      rw (map_places (legs_of c q) (joined (map (legs_of c) ps)))
      (sublist_append (places_in (legs_of c q)) (places_of q) (places_in (joined (map (legs_of c) ps))) (joined (map places_of ps)) h.0.places (each_places ps x es ss h.2))

  each_replies : (ps : List Plan) (from : ℕ) (es : List ℕ) (ss : List State) → BuiltEach c ps from es ss → are_plain (map kind_of ps) ≡ true → ReplyEach c ps
  each_replies [] from es ss h k = tt
  each_replies (q ∷ ps) from [] ss h k = absurd h
  each_replies (q ∷ ps) from (x ∷ es) [] h k = absurd h
  each_replies (q ∷ ps) from (x ∷ es) (u ∷ ss) h k = let kinds = both_true (is_plain (kind_of q)) (are_plain (map kind_of ps)) k in (h.0.replies kinds.0, each_replies ps x es ss h.2 kinds.1)

  each_answers : (ps : List Plan) (from : ℕ) (es : List ℕ) (ss : List State) → BuiltEach c ps from es ss → are_plain (map kind_of ps) ≡ true → (legs : ℕ → Launch) → Follow legs from (joined (map (legs_of c) ps)) → AnswerEach (λ k. (legs k).position) ss ps
  each_answers [] from [] [] h k legs f = tt
  each_answers [] from [] (u ∷ ss) h k legs f = absurd h
  each_answers [] from (x ∷ es) ss h k legs f = absurd h
  each_answers (q ∷ ps) from [] ss h k legs f = absurd h
  each_answers (q ∷ ps) from (x ∷ es) [] h k legs f = absurd h
  each_answers (q ∷ ps) from (x ∷ es) (u ∷ ss) h k legs f =
      let kinds = both_true (is_plain (kind_of q)) (are_plain (map kind_of ps)) k in (
        h.0.answers kinds.0 legs (follow_left legs from (legs_of c q) (joined (map (legs_of c) ps)) f),
        each_answers ps x es ss h.2 kinds.1 legs (follow_right legs from x (legs_of c q) (joined (map (legs_of c) ps)) h.1 f),
      )

  each_sends : (ps : List Plan) (from : ℕ) (es : List ℕ) (ss : List State) → BuiltEach c ps from es ss → are_beside (map kind_of ps) ≡ true → (legs : ℕ → Launch) → Follow legs from (joined (map (legs_of c) ps)) → SendEach legs c ss ps
  each_sends [] from [] [] h k legs f = tt
  each_sends [] from [] (u ∷ ss) h k legs f = absurd h
  each_sends [] from (x ∷ es) ss h k legs f = absurd h
  each_sends (q ∷ ps) from [] ss h k legs f = absurd h
  each_sends (q ∷ ps) from (x ∷ es) [] h k legs f = absurd h
  each_sends (q ∷ ps) from (x ∷ es) (u ∷ ss) h k legs f =
      let kinds = both_true (is_beside (kind_of q)) (are_beside (map kind_of ps)) k in (
        h.0.sends kinds.0 legs (follow_left legs from (legs_of c q) (joined (map (legs_of c) ps)) f),
        each_sends ps x es ss h.2 kinds.1 legs (follow_right legs from x (legs_of c q) (joined (map (legs_of c) ps)) h.1 f),
      )

  pub none_built : (ps : List Plan) (from : ℕ) (es : List ℕ) (ss : List State) → length ss ≡ 0 → BuiltEach c ps from es ss → ps ≡ []
  none_built [] from es ss e h = refl
  none_built (q ∷ ps) from [] ss e h = absurd h
  none_built (q ∷ ps) from (x ∷ es) [] e h = absurd h
  none_built (q ∷ ps) from (x ∷ es) (u ∷ ss) e h = absurd (omega (arith, e))

  some_built : (ps : List Plan) (from : ℕ) (es : List ℕ) (ss : List State) → length ss ≢ 0 → BuiltEach c ps from es ss → ps ≢ []
  some_built [] from [] [] e h = λ is. e refl
  some_built [] from [] (u ∷ ss) e h = absurd h
  some_built [] from (x ∷ es) ss e h = absurd h
  some_built (q ∷ ps) from es ss e h = λ is. absurd (cc)

  -- ---- one part

  pub built_send : (l : PlannedLeg) (from : ℕ) → IsBuilt c (Send l) from (send from)
  built_send l from = record {
    placed = refl;
    ready = tt;
    numbered = rw (legs-Send c l) refl;
    places = rw (legs-Send c l, places-Send l) (kept l.position [] [] done);
    replies = λ k. send_replies c l;
    answers = λ k legs f. send_answers (λ j. (legs j).position) from l (ap (λ x. x.position) (first legs f));
    sends = λ k legs f. send_sends legs c from l (first legs f);
  }
    where
      first : (legs : ℕ → Launch) → Follow legs from (legs_of c (Send l)) → legs from ≡ launch_of c l
      first legs f = let g : Follow legs from (launch_of c l ∷ []) = (rw (legs-Send c l) at f) in g.0

  pub built_reply : (f : FixedReply) (from : ℕ) → IsBuilt c (Reply f) from (reply f)
  built_reply f from = record {
    placed = refl;
    ready = tt;
    numbered = rw (legs-Reply c f) refl;
    places = rw (legs-Reply c f, places-Reply f) done;
    replies = λ k. reply_replies c f;
    answers = λ k legs h. reply_answers (λ j. (legs j).position) f;
    sends = λ k legs h. reply_sends legs c f;
  }

  pub built_shadow : (symbol first last from : ℕ) (p : Box Plan Global) (s : State) → is_within (record { first = first; last = last }) (c symbol) ≡ true → IsBuilt c p.value from s → IsBuilt c (Shadowed symbol first last p) from s
  built_shadow symbol first last from p s on h =
      let legs_are : legs_of c (Shadowed symbol first last p) ≡ legs_of c p.value = legs-Shadowed c symbol first last p ∙ ap (λ b. cond b (legs_of c p.value) []) on in
      record {
        placed = h.placed;
        ready = h.ready;
        numbered = rw legs_are h.numbered;
        places = rw (legs_are, places-Shadowed symbol first last p) h.places;
        replies = λ k. absurd (shadow_never (is_plain (kind_of p.value)) (rw (kind-Shadowed symbol first last p) at k));
        answers = λ k. absurd (shadow_never (is_plain (kind_of p.value)) (rw (kind-Shadowed symbol first last p) at k));
        sends = λ k legs f.
            let target = plain_beside (kind_of p.value) (shadow_when (is_plain (kind_of p.value)) (rw (kind-Shadowed symbol first last p) at k)) in
            shadow_sends legs c symbol first last p s on (h.sends target legs (rw legs_are at f));
      }

  pub built_silent : (symbol first last from : ℕ) (p : Box Plan Global) → is_within (record { first = first; last = last }) (c symbol) ≡ false → IsBuilt c (Shadowed symbol first last p) from (reply ErrorRoute)
  built_silent symbol first last from p off =
      let legs_are : legs_of c (Shadowed symbol first last p) ≡ [] = legs-Shadowed c symbol first last p ∙ ap (λ b. cond b (legs_of c p.value) []) off in
      record {
        placed = refl;
        ready = tt;
        numbered = rw legs_are refl;
        places = rw (legs_are, places-Shadowed symbol first last p) (none_of (places_of p.value));
        replies = λ k. absurd (shadow_never (is_plain (kind_of p.value)) (rw (kind-Shadowed symbol first last p) at k));
        answers = λ k. absurd (shadow_never (is_plain (kind_of p.value)) (rw (kind-Shadowed symbol first last p) at k));
        sends = λ k legs f g fixed own o a. sym (shadow_is_silent c symbol first last p off (arrivals.outcome_in own));
      }

  pub built_on_hit : (p q : Box Plan Global) (from end : ℕ) (s u : State) → IsBuilt c p.value from s → end ≡ from + length (legs_of c p.value) → IsBuilt c q.value end u → IsBuilt c (OnHit p q) from (on_hit s end u)
  built_on_hit p q from end s u h e g =
      let kinds = λ (k : is_plain (kind_of (OnHit p q)) ≡ true). both_true (is_plain (kind_of p.value)) (is_plain (kind_of q.value)) (plain_when (is_plain (kind_of p.value) && is_plain (kind_of q.value)) (rw (kind-OnHit p q) at k)) in
      let beside_kinds = λ (k : is_beside (kind_of (OnHit p q)) ≡ true). both_true (is_plain (kind_of p.value)) (is_plain (kind_of q.value)) (beside_when (is_plain (kind_of p.value) && is_plain (kind_of q.value)) (rw (kind-OnHit p q) at k)) in
      record {
        placed =
            let a : within 0 end (entries s) ≡ true = rw h.numbered (within_numbers (length (legs_of c p.value)) from 0 end (omega arith) (omega (arith, e))) in
            let b : all_from end (entries u) ≡ true = rw g.numbered (from_numbers (length (legs_of c q.value)) end end (omega arith)) in
            rw (a, b, h.placed, g.placed) refl;
        ready = (h.ready, rest (is_hit (answer_of (answered nothing s))));
        numbered =
            ap₂ (λ js ks. js ++ ks) h.numbered g.numbered
            ∙ sym (numbers_join (length (legs_of c p.value)) from end (length (legs_of c q.value)) (length (legs_of c (OnHit p q))) e (ap length (legs-OnHit c p q) ∙ length-append (legs_of c p.value) (legs_of c q.value)));
        places = rw (legs-OnHit c p q, places-OnHit p q, map_places (legs_of c p.value) (legs_of c q.value)) (sublist_append (places_in (legs_of c p.value)) (places_of p.value) (places_in (legs_of c q.value)) (places_of q.value) h.places g.places);
        replies = λ k. hit_replies c p q (h.replies (kinds k).0);
        answers = λ k legs f. hit_answers (λ j. (legs j).position) s end u p q (h.answers (kinds k).0 legs (front legs f));
        sends = λ k legs f.
            let both = beside_kinds k in
            hit_sends legs c s end u p q (h.answers both.0 legs (front legs f)) (h.replies both.0) (h.sends (plain_beside (kind_of p.value) both.0) legs (front legs f))
            (g.sends (plain_beside (kind_of q.value) both.1) legs (behind legs f));
      }
    where
      rest : (b : Bool) → Either b (Reflects nothing u) (Reflects nothing u × IsUnheard nothing (entries u))
      rest true = g.ready
      rest false = (g.ready, λ k i. refl)

      front : (legs : ℕ → Launch) → Follow legs from (legs_of c (OnHit p q)) → Follow legs from (legs_of c p.value)
      front legs f = follow_left legs from (legs_of c p.value) (legs_of c q.value) (rw (legs-OnHit c p q) at f)

      behind : (legs : ℕ → Launch) → Follow legs from (legs_of c (OnHit p q)) → Follow legs end (legs_of c q.value)
      behind legs f = follow_right legs from end (legs_of c p.value) (legs_of c q.value) e (rw (legs-OnHit c p q) at f)

  -- ---- parts with a list of children

  pub built_all : (v : Vec Plan Global) (from : ℕ) (es : List ℕ) (ss : List State) (waiting : ℕ) (worst : Option Answer) → length ss ≢ 0 → BuiltEach c v.items from es ss
      → waiting ≡ waits (answered_each nothing (states_of ss)) → worst ≡ answer_of (prevails (answered_each nothing (states_of ss))) → IsBuilt c (All v) from (all es (states_of ss) waiting worst)
  built_all v from es ss waiting worst some h n x = record {
    placed = rw (placed_each v.items 0 from es ss (omega arith) h) (each_is_placed v.items from es ss h);
    ready = (n, x, each_ready v.items from es ss h);
    numbered = each_numbered v.items from es ss h ∙ ap (λ ls. numbers from (length ls)) (sym (legs-All c v));
    places = rw (legs-All c v, places-All v) (each_places v.items from es ss h);
    replies = λ k. all_replies c v (each_replies v.items from es ss h (kinds k));
    answers = λ k legs f. all_answers (λ j. (legs j).position) es ss v waiting worst (some_built v.items from es ss some h) (each_answers v.items from es ss h (kinds k) legs (rw (legs-All c v) at f));
    sends = λ k legs f. all_sends legs c es ss v waiting worst (each_sends v.items from es ss h (plain_beside_each (map kind_of v.items) (beside_when (are_plain (map kind_of v.items)) (rw (kind-All v) at k))) legs (rw (legs-All c v) at f));
  }
    where
      kinds : is_plain (kind_of (All v)) ≡ true → are_plain (map kind_of v.items) ≡ true
      kinds k = plain_when (are_plain (map kind_of v.items)) (rw (kind-All v) at k)

  each_turn : (w : After) (ss : States) → ReflectEach nothing ss → ReflectTurn w nothing ss
  each_turn w none f = f
  each_turn w (more s ss) f = (f.0, rest (goes_on_after w (answer_of (answered nothing s))) (each_turn w ss f.1))
    where
      rest : (b : Bool) → ReflectTurn w nothing ss → Either b (ReflectTurn w nothing ss) (ReflectEach nothing ss × IsUnheard nothing (joined (entries_each ss)))
      rest true g = g
      rest false g = (f.1, λ k i. refl)

  pub built_in_turn : (w : After) (v : Vec Plan Global) (from : ℕ) (es : List ℕ) (ss : List State) (current : ℕ) → length ss ≢ 0 → BuiltEach c v.items from es ss
      → current ≡ stop w (answers_each nothing (states_of ss)) → IsBuilt c (InTurn w v) from (in_turn w es (states_of ss) current)
  built_in_turn w v from es ss current some h n = record {
    placed = rw (placed_each v.items 0 from es ss (omega arith) h) (each_is_placed v.items from es ss h);
    ready = (n, each_turn w (states_of ss) (each_ready v.items from es ss h));
    numbered = each_numbered v.items from es ss h ∙ ap (λ ls. numbers from (length ls)) (sym (legs-InTurn c w v));
    places = rw (legs-InTurn c w v, places-InTurn w v) (each_places v.items from es ss h);
    replies = λ k. turn_replies c w v (each_replies v.items from es ss h (kinds k));
    answers = λ k legs f. turn_answers (λ j. (legs j).position) w es ss v current (some_built v.items from es ss some h) (each_answers v.items from es ss h (kinds k) legs (rw (legs-InTurn c w v) at f));
    sends = λ k legs f.
        let plains = beside_when (are_plain (map kind_of v.items)) (rw (kind-InTurn w v) at k) in
        turn_sends legs c w es ss v current (each_answers v.items from es ss h plains legs (rw (legs-InTurn c w v) at f)) (each_replies v.items from es ss h plains)
        (each_sends v.items from es ss h (plain_beside_each (map kind_of v.items) plains) legs (rw (legs-InTurn c w v) at f));
  }
    where
      kinds : is_plain (kind_of (InTurn w v)) ≡ true → are_plain (map kind_of v.items) ≡ true
      kinds k = plain_when (are_plain (map kind_of v.items)) (rw (kind-InTurn w v) at k)

  -- the first of them
  led_replies : (ps : List Plan) (from : ℕ) (es : List ℕ) (ss : List State) → BuiltEach c ps from es ss → are_led (map kind_of ps) ≡ true → (p : Plan) (qs : List Plan) → ps ≡ p ∷ qs → RepliesAs c p
  led_replies [] from es ss h k p qs is = absurd (cc)
  led_replies (q ∷ ps) from [] ss h k p qs is = absurd h
  led_replies (q ∷ ps) from (x ∷ es) [] h k p qs is = absurd h
  led_replies (q ∷ ps) from (x ∷ es) (u ∷ ss) h k p qs is =
      let same : q ≡ p = cc in
      subst (RepliesAs c) same (h.0.replies (both_true (is_plain (kind_of q)) (are_beside (map kind_of ps)) k).0)

  led_answers : (v : Vec Plan Global) (ps : List Plan) (from : ℕ) (ends es : List ℕ) (ss : List State) → v.items ≡ ps → length ss ≢ 0 → BuiltEach c ps from es ss → are_led (map kind_of ps) ≡ true → (legs : ℕ → Launch) → Follow legs from (joined (map (legs_of c) ps))
      → AnswersAs (λ j. (legs j).position) (beside ends (states_of ss)) (Beside v)
  led_answers v [] from ends [] [] is some h k legs f = absurd (some refl)
  led_answers v [] from ends [] (u ∷ ss) is some h k legs f = absurd h
  led_answers v [] from ends (x ∷ es) ss is some h k legs f = absurd h
  led_answers v (q ∷ ps) from ends [] ss is some h k legs f = absurd h
  led_answers v (q ∷ ps) from ends (x ∷ es) [] is some h k legs f = absurd h
  led_answers v (q ∷ ps) from ends (x ∷ es) (u ∷ ss) is some h k legs f =
      beside_answers (λ j. (legs j).position) ends u ss v q ps is (h.0.answers (both_true (is_plain (kind_of q)) (are_beside (map kind_of ps)) k).0 legs (follow_left legs from (legs_of c q) (joined (map (legs_of c) ps)) f))

  pub built_beside : (v : Vec Plan Global) (from : ℕ) (es : List ℕ) (ss : List State) → length ss ≢ 0 → BuiltEach c v.items from es ss → IsBuilt c (Beside v) from (beside es (states_of ss))
  built_beside v from es ss some h = record {
    placed = rw (placed_each v.items 0 from es ss (omega arith) h) (each_is_placed v.items from es ss h);
    ready = each_ready v.items from es ss h;
    numbered = each_numbered v.items from es ss h ∙ ap (λ ls. numbers from (length ls)) (sym (legs-Beside c v));
    places = rw (legs-Beside c v, places-Beside v) (each_places v.items from es ss h);
    replies = λ k. beside_replies c v (led_replies v.items from es ss h (kinds k));
    answers = λ k legs f. led_answers v v.items from es es ss refl some h (kinds k) legs (rw (legs-Beside c v) at f);
    sends = λ k legs f. beside_sends legs c es ss v (each_sends v.items from es ss h (led_beside (map kind_of v.items) (beside_when (are_led (map kind_of v.items)) (rw (kind-Beside v) at k))) legs (rw (legs-Beside c v) at f));
  }
    where
      kinds : is_plain (kind_of (Beside v)) ≡ true → are_led (map kind_of v.items) ≡ true
      kinds k = plain_when (are_led (map kind_of v.items)) (rw (kind-Beside v) at k)

  -- ---- no children

  pub built_no_all : (v : Vec Plan Global) (from : ℕ) → v.items ≡ [] → IsBuilt c (All v) from (reply ErrorRoute)
  built_no_all v from is = record {
    placed = refl;
    ready = tt;
    numbered = rw (legs-All c v, is) refl;
    places = rw (legs-All c v, places-All v, is) done;
    replies = λ k. all_replies c v (rw is tt);
    answers = λ k legs f g fixed own o a. rw (arrived-All own v, is, fixed ErrorRoute) refl;
    sends = λ k legs f g fixed own o a. rw (sent-All c (arrivals.outcome_in own) v, is) refl;
  }

  pub built_no_turn : (w : After) (v : Vec Plan Global) (from : ℕ) → v.items ≡ [] → IsBuilt c (InTurn w v) from (reply ErrorRoute)
  built_no_turn w v from is = record {
    placed = refl;
    ready = tt;
    numbered = rw (legs-InTurn c w v, is) refl;
    places = rw (legs-InTurn c w v, places-InTurn w v, is) done;
    replies = λ k. turn_replies c w v (rw is tt);
    answers = λ k legs f g fixed own o a. rw (arrived-InTurn own w v, is, fixed ErrorRoute) refl;
    sends = λ k legs f g fixed own o a. rw (sent-InTurn c (arrivals.outcome_in own) w v, is) refl;
  }

  pub built_no_beside : (v : Vec Plan Global) (from : ℕ) → v.items ≡ [] → IsBuilt c (Beside v) from (reply ErrorRoute)
  built_no_beside v from is = record {
    placed = refl;
    ready = tt;
    numbered = rw (legs-Beside c v, is) refl;
    places = rw (legs-Beside c v, places-Beside v, is) done;
    replies = λ k. beside_replies c v (λ p ps more. absurd (let no : [] ≡ p ∷ ps = sym is ∙ more in cc));
    answers = λ k legs f g fixed own o a. rw (arrived-Beside own v, is, fixed ErrorRoute) refl;
    sends = λ k legs f g fixed own o a. rw (sent-Beside c (arrivals.outcome_in own) v, is) refl;
  }
