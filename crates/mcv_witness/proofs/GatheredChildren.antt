-- The walk over children sees what is to be seen of them.
use Rattle.std.proofs.Common.{◌≡◌, cond, ℕ, suc, ◌||◌, Bool, true, false, List, [], ◌∷◌, ◌++◌, Option, Some, None, refl, sym, ap, ◌∙◌, subst}
use Rattle.std.specs.Prelude.{fold, option_and_then}
use Rattle.mcv_base.specs.declared.reply.Outcome.{Outcome}
use Rattle.mcv_base.specs.declared.reply.Outcome.TheVariants.{Good, Soft, Error}
use Rattle.mcv_base.specs.Reply.{is_error, is_good, is_missed}
use Rattle.mcv_route.specs.Children.{joined}
use Rattle.mcv_route.specs.Launched.{in_turn, launched, launched_each, once}
use Rattle.mcv_route.specs.Outcomes.{Choice, History, Outcomes, is_same, outcomes}
use Rattle.mcv_route.specs.Replies.{Answer, replies, replies_each}
use Rattle.mcv_route.specs.Situation.{Situation, under}
use Rattle.mcv_route.specs.Tree.{Tree, Trees, none, child}
use Rattle.mcv_route.specs.declared.launch.Launch.{Launch}
use Rattle.mcv_rules.proofs.Orders.{same_is}
use Rattle.mcv_witness.specs.Walk.{Known, behind, below, finish, front, gather, goes_on, joined_seen, pass, pass_each, past}
use Rattle.mcv_witness.specs.declared.seen.Join.{Join}
use Rattle.mcv_witness.specs.declared.seen.Join.TheVariants.{Both, Beside, OnError, OnMiss}
use Rattle.mcv_witness.specs.declared.seen.Seen.{Seen}
use Rattle.mcv_witness.proofs.EachMember.{Each, each_append, each_map}
use Rattle.mcv_witness.proofs.Regions
use Rattle.mcv_witness.proofs.Regions.{At, Below, Fits, From, at_below, below_apart, behind_from, fits_below, fits_past, front_below, parts}
use Rattle.mcv_witness.proofs.LegsAreBelow.{AllBelow, AllFrom, EachFrom, launched_below, launched_from}
use Rattle.mcv_witness.proofs.Tests.{Avoids, after, fold_stops, join_answers, legs_after, not_sent, nothing_after, reaches, sent_at, step_after, seen_reply, reply_of_join}

-- ---- outcomes by parts

pub known_none : (es : History) (q : List ℕ) → Each (λ e. e.0 ≡ q → ⊥) es → outcomes es q ≡ None
known_none [] q h = refl
known_none (e ∷ es) q h = by_test (is_same e.0 q) refl (known_none es q h.1)
  where
    by_test : (b : Bool) → is_same e.0 q ≡ b → outcomes es q ≡ None → cond b (Some e.1) (outcomes es q) ≡ None
    by_test true s g = absurd (h.0 (same_is e.0 q s))
    by_test false s g = g

known_left : (es fs : History) (q : List ℕ) → Each (λ e. e.0 ≡ q → ⊥) fs → outcomes (es ++ fs) q ≡ outcomes es q
known_left [] fs q h = known_none fs q h
known_left (e ∷ es) fs q h = ap (λ r. cond (is_same e.0 q) (Some e.1) r) (known_left es fs q h)

known_right : (es fs : History) (q : List ℕ) → Each (λ e. e.0 ≡ q → ⊥) es → outcomes (es ++ fs) q ≡ outcomes fs q
known_right [] fs q h = refl
known_right (e ∷ es) fs q h = by_test (is_same e.0 q) refl (known_right es fs q h.1)
  where
    by_test : (b : Bool) → is_same e.0 q ≡ b → outcomes (es ++ fs) q ≡ outcomes fs q → cond b (Some e.1) (outcomes (es ++ fs) q) ≡ outcomes fs q
    by_test true s g = absurd (h.0 (same_is e.0 q s))
    by_test false s g = g

-- the outcomes are those of the map, at the base and below it
abbrev pub Agrees : List ℕ → History → Outcomes → Type 0
Agrees base es o = (q : List ℕ) → At base q → outcomes es q ≡ o q

abbrev pub AgreesFrom : List ℕ → ℕ → History → Outcomes → Type 0
AgreesFrom base n es o = (q : List ℕ) → From base n q → outcomes es q ≡ o q

pub agrees_from : (base : List ℕ) (n : ℕ) (es : History) (o : Outcomes) → Agrees base es o → AgreesFrom base n es o
agrees_from base n es o h q f = h q (Regions.from_at base n q f)

-- ---- the front and what is behind it, of any depth that fits

-- what is in front is below the child
pub own_below : (base : List ℕ) (n d : ℕ) (es : History) → Fits base (record { legs = es; depth = d }) → Each (λ e. Below base n e.0) (front d n es)
own_below base n d [] h = tt
own_below base n d (e ∷ es) h = subst (λ i. Each (λ x. Below base n x.0) (front i n (e ∷ es))) (sym h.deep) (front_below base n (e ∷ es) h.at)

pub others_from : (base : List ℕ) (n d : ℕ) (es : History) → Fits base (record { legs = es; depth = d }) → Each (λ e. From base n e.0) es → Each (λ e. From base (suc n) e.0) (behind d n es)
others_from base n d [] h f = tt
others_from base n d (e ∷ es) h f = subst (λ i. Each (λ x. From base (suc n) x.0) (behind i n (e ∷ es))) (sym h.deep) (behind_from base n (e ∷ es) h.rises f)

module _ (base : List ℕ) (n d : ℕ) (es : History) (o : Outcomes) (fits : Fits base (record { legs = es; depth = d })) (from : Each (λ e. From base n e.0) es) (agrees : AgreesFrom base n es o) where
  pub agrees_below : Agrees (base ++ n ∷ []) (front d n es) o
  agrees_below q at =
      let b = at_below base n q at in
      sym (known_left (front d n es) (behind d n es) q (each_map (λ e. From base (suc n) e.0) (λ e. e.0 ≡ q → ⊥) (behind d n es) (λ e f same. below_apart base n q b (subst (From base (suc n)) same f)) (others_from base n d es fits from)))
      ∙ ap (λ x. outcomes x q) (parts d n es)
      ∙ agrees q (Regions.below_from base n q b)

  pub agrees_past : AgreesFrom base (suc n) (behind d n es) o
  agrees_past q f =
      sym (known_right (front d n es) (behind d n es) q (each_map (λ e. Below base n e.0) (λ e. e.0 ≡ q → ⊥) (front d n es) (λ e b same. below_apart base n q (subst (Below base n) same b) f) (own_below base n d es fits)))
      ∙ ap (λ x. outcomes x q) (parts d n es)
      ∙ agrees q (Regions.from_later base n q f)

  -- neither part has outcomes of the other's legs
  pub front_avoids : (ms : List Launch) → AllFrom base (suc n) ms → Avoids ms (front d n es)
  front_avoids ms h =
      each_map (λ e. Below base n e.0) (λ e. sent_at e.0 ms ≡ false) (front d n es) (λ e b. not_sent (From base (suc n)) e.0 ms (λ f. below_apart base n e.0 b f) h) (own_below base n d es fits)

  pub behind_avoids : (ls : List Launch) → AllBelow base n ls → Avoids ls (behind d n es)
  behind_avoids ls h =
      each_map (λ e. From base (suc n) e.0) (λ e. sent_at e.0 ls ≡ false) (behind d n es) (λ e f. not_sent (Below base n) e.0 ls (λ b. below_apart base n e.0 b f) h) (others_from base n d es fits from)

-- ---- children in turn

-- the situation at another place
abbrev pub moved : List ℕ → Situation → Situation
moved base s = record s { position = base }

pub legs_after_from : (leaf : List ℕ) (how : Join) (base : List ℕ) (n : ℕ) (r : List Answer) (rs : List (List Answer)) (lss : List (List Launch)) → EachFrom base n lss → AllFrom base n (legs_after leaf how r rs lss)
legs_after_from leaf how base n r [] lss h = tt
legs_after_from leaf how base n r (q ∷ rs) [] h = tt
legs_after_from leaf how base n r (q ∷ rs) (ls ∷ lss) h = by_test (goes_on how (seen_reply leaf r)) (legs_after_from leaf how base n (join_answers how r q) rs lss h.1)
  where
    by_test : (b : Bool) → AllFrom base n (legs_after leaf how (join_answers how r q) rs lss) → AllFrom base n (cond b (ls ++ legs_after leaf how (join_answers how r q) rs lss) [])
    by_test true g = each_append (λ l. From base n l.position) ls (legs_after leaf how (join_answers how r q) rs lss) h.0 g
    by_test false g = tt

module _ (leaf : List ℕ) (server : ℕ) (c : Choice) where
  -- the walk over a route sees what is to be seen of it
  abbrev pub IsRight : Tree → Type 0
  IsRight t = (base : List ℕ) (s : Situation) (k : Known) (o : Outcomes) → Fits base k → Agrees base k.legs o →
      pass leaf server c t s k ≡ after leaf server false k.legs (replies t (moved base s) o) (launched t (moved base s) c o)

  abbrev pub AreRight : Trees → Type 0
  AreRight none = Unit {0}
  AreRight (child t ts) = IsRight t × AreRight ts

  -- one child, and then what follows
  pub child_after : (t : Tree) → IsRight t → (base : List ℕ) (n d : ℕ) (es : History) (o : Outcomes) (s : Situation) (K : Seen → Option Seen) (b : Bool) (zs : List Answer) (ms : List Launch) →
      Fits base (record { legs = es; depth = d }) → Each (λ e. From base n e.0) es → AgreesFrom base n es o → AllFrom base (suc n) ms →
      K (record { reply = seen_reply leaf (replies t (under n (moved base s)) o); sent = reaches server (launched t (under n (moved base s)) c o) })
      ≡ after leaf server (b || reaches server (launched t (under n (moved base s)) c o)) (behind d n es) zs ms →
      option_and_then K (pass leaf server c t s (below (record { legs = es; depth = d }) n)) ≡ after leaf server b es zs (launched t (under n (moved base s)) c o ++ ms)
  child_after t right base n d es o s K b zs ms fits from agrees spread others =
      let qs = replies t (under n (moved base s)) o in
      let ls = launched t (under n (moved base s)) c o in
      step_after leaf server K (pass leaf server c t s (below (record { legs = es; depth = d }) n)) b (front d n es) (behind d n es) qs zs ls ms
      (right (base ++ n ∷ []) s (below (record { legs = es; depth = d }) n) o (fits_below base n d es fits) (agrees_below base n d es o fits from agrees))
      others
      (front_avoids base n d es o fits from agrees ms spread)
      (behind_avoids base n d es o fits from agrees ls (launched_below c o t n (moved base s)))
      ∙ ap (λ x. after leaf server b x zs (ls ++ ms)) (parts d n es)

  pub gather_right : (how : Join) (ts : Trees) → AreRight ts → (base : List ℕ) (n d : ℕ) (es : History) (o : Outcomes) (s : Situation) (r : List Answer) (b : Bool) →
      Fits base (record { legs = es; depth = d }) → Each (λ e. From base n e.0) es → AgreesFrom base n es o →
      gather how n (pass_each leaf server c ts s) (record { reply = seen_reply leaf r; sent = b }) (record { legs = es; depth = d })
      ≡ after leaf server b es (fold (join_answers how) r (replies_each n ts (moved base s) o)) (legs_after leaf how r (replies_each n ts (moved base s) o) (launched_each n ts (moved base s) c o))
  gather_right how none right base n d es o s r b fits from agrees = nothing_after leaf server b es r
  gather_right how (child t ts) right base n d es o s r b fits from agrees =
      by_test (goes_on how (seen_reply leaf r)) refl
      (λ b2. gather_right how ts right.1 base (suc n) d (behind d n es) o s (join_answers how r q) b2 (fits_past base n d es fits) (others_from base n d es fits from) (agrees_past base n d es o fits from agrees))
    where
      q : List Answer
      q = replies t (under n (moved base s)) o

      rs : List (List Answer)
      rs = replies_each (suc n) ts (moved base s) o

      ls : List Launch
      ls = launched t (under n (moved base s)) c o

      ms : List Launch
      ms = legs_after leaf how (join_answers how r q) rs (launched_each (suc n) ts (moved base s) c o)

      first : Seen
      first = record { reply = seen_reply leaf r; sent = b }

      K : Seen → Option Seen
      K y = gather how (suc n) (pass_each leaf server c ts s) (joined_seen how first y) (past (record { legs = es; depth = d }) n)

      by_test : (g : Bool) → goes_on how (seen_reply leaf r) ≡ g →
          ((b2 : Bool) → gather how (suc n) (pass_each leaf server c ts s) (record { reply = seen_reply leaf (join_answers how r q); sent = b2 }) (record { legs = behind d n es; depth = d }) ≡ after leaf server b2 (behind d n es) (fold (join_answers how) (join_answers how r q) rs) ms) →
          cond g (option_and_then K (pass leaf server c t s (below (record { legs = es; depth = d }) n))) (finish first es)
          ≡ after leaf server b es (fold (join_answers how) (join_answers how r q) rs) (cond g (ls ++ ms) [])
      by_test false e ih = nothing_after leaf server b es r ∙ ap (λ x. after leaf server b es x []) (sym (fold_stops leaf how r (q ∷ rs) e))
      by_test true e ih =
          child_after t right.0 base n d es o s K b (fold (join_answers how) (join_answers how r q) rs) ms fits from agrees
          (legs_after_from leaf how base (suc n) (join_answers how r q) rs (launched_each (suc n) ts (moved base s) c o) (launched_from c o (suc n) ts (moved base s)))
          (ap (λ x. gather how (suc n) (pass_each leaf server c ts s) (record { reply = x; sent = b || reaches server ls }) (record { legs = behind d n es; depth = d })) (sym (reply_of_join leaf how r q e))
          ∙ ih (b || reaches server ls))

  -- ---- what the legs after a first child are

  pub both_after : (ts : Trees) (base : List ℕ) (n : ℕ) (o : Outcomes) (s : Situation) (r : List Answer) →
      legs_after leaf Both r (replies_each n ts (moved base s) o) (launched_each n ts (moved base s) c o) ≡ joined (launched_each n ts (moved base s) c o)
  both_after none base n o s r = refl
  both_after (child t ts) base n o s r = ap (λ x. launched t (under n (moved base s)) c o ++ x) (both_after ts base (suc n) o s (join_answers Both r (replies t (under n (moved base s)) o)))

  pub beside_after : (ts : Trees) (base : List ℕ) (n : ℕ) (o : Outcomes) (s : Situation) (r : List Answer) →
      legs_after leaf Beside r (replies_each n ts (moved base s) o) (launched_each n ts (moved base s) c o) ≡ joined (launched_each n ts (moved base s) c o)
  beside_after none base n o s r = refl
  beside_after (child t ts) base n o s r = ap (λ x. launched t (under n (moved base s)) c o ++ x) (beside_after ts base (suc n) o s r)

  pub beside_replies : (r : List Answer) (rs : List (List Answer)) → fold (join_answers Beside) r rs ≡ r
  beside_replies r [] = refl
  beside_replies r (q ∷ rs) = beside_replies r rs

  abbrev no_legs : List Launch
  no_legs = []

  pub error_after : (ts : Trees) (base : List ℕ) (n : ℕ) (o : Outcomes) (s : Situation) (r : List Answer) →
      legs_after leaf OnError r (replies_each n ts (moved base s) o) (launched_each n ts (moved base s) c o)
      ≡ once is_error r (in_turn is_error (replies_each n ts (moved base s) o) (launched_each n ts (moved base s) c o))
  error_after none base n o s [] = refl
  error_after none base n o s (a ∷ r) = by_test (is_error a.outcome)
    where
      by_test : (b : Bool) → no_legs ≡ cond b no_legs no_legs
      by_test true = refl
      by_test false = refl
  error_after (child t ts) base n o s [] = refl
  error_after (child t ts) base n o s (a ∷ r) = by_test (is_error a.outcome) (error_after ts base (suc n) o s q)
    where
      q : List Answer
      q = replies t (under n (moved base s)) o

      ls : List Launch
      ls = launched t (under n (moved base s)) c o

      rs : List (List Answer)
      rs = replies_each (suc n) ts (moved base s) o

      lss : List (List Launch)
      lss = launched_each (suc n) ts (moved base s) c o

      by_test : (b : Bool) → legs_after leaf OnError q rs lss ≡ once is_error q (in_turn is_error rs lss) →
          cond b (ls ++ legs_after leaf OnError (cond b q (a ∷ r)) rs lss) [] ≡ cond b (ls ++ once is_error q (in_turn is_error rs lss)) []
      by_test true h = ap (λ x. ls ++ x) h
      by_test false h = refl

  pub miss_after : (ts : Trees) (base : List ℕ) (n : ℕ) (o : Outcomes) (s : Situation) (r : List Answer) →
      legs_after leaf OnMiss r (replies_each n ts (moved base s) o) (launched_each n ts (moved base s) c o)
      ≡ once is_missed r (in_turn is_missed (replies_each n ts (moved base s) o) (launched_each n ts (moved base s) c o))
  miss_after none base n o s [] = refl
  miss_after none base n o s (a ∷ r) = by_test (is_missed a.outcome)
    where
      by_test : (b : Bool) → no_legs ≡ cond b no_legs no_legs
      by_test true = refl
      by_test false = refl
  miss_after (child t ts) base n o s [] = refl
  miss_after (child t ts) base n o s (a ∷ r) = by_outcome a.outcome (miss_after ts base (suc n) o s q)
    where
      q : List Answer
      q = replies t (under n (moved base s)) o

      ls : List Launch
      ls = launched t (under n (moved base s)) c o

      rs : List (List Answer)
      rs = replies_each (suc n) ts (moved base s) o

      lss : List (List Launch)
      lss = launched_each (suc n) ts (moved base s) c o

      by_outcome : (x : Outcome) → legs_after leaf OnMiss q rs lss ≡ once is_missed q (in_turn is_missed rs lss) →
          cond (is_missed x) (ls ++ legs_after leaf OnMiss (cond (is_good x) (a ∷ r) q) rs lss) [] ≡ cond (is_missed x) (ls ++ once is_missed q (in_turn is_missed rs lss)) []
      by_outcome Good h = refl
      by_outcome Soft h = ap (λ x. ls ++ x) h
      by_outcome Error h = ap (λ x. ls ++ x) h
