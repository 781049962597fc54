-- What is to be seen of a route, by its replies and its legs.
use Rattle.std.proofs.Common.{◌≡◌, cond, ℕ, ◌&&◌, ◌||◌, ◌==◌, Bool, true, false, List, [], ◌∷◌, ◌++◌, Option, Some, None, refl, sym, ap, ap₂, ◌∙◌, subst}
use Rattle.std.specs.Prelude.{if◌then◌else◌, fold, nat_lt, option_and_then}
use Rattle.std.specs.Str.{bytes_eq}
use Rattle.std.proofs.lemmas.Bool.{false≢true}
use Rattle.mcv_base.specs.declared.reply.Outcome.{Outcome}
use Rattle.mcv_base.specs.declared.reply.Outcome.TheVariants.{Good, Soft, Error}
use Rattle.mcv_base.specs.Operation.{is_counting}
use Rattle.mcv_base.specs.Reply.{is_good, is_missed, badness}
use Rattle.mcv_route.specs.Outcomes.{History, is_same}
use Rattle.mcv_route.specs.Replies.{Answer, Source, fixed, leg, or_after_error, or_after_miss, refusal, the_worse}
use Rattle.mcv_route.specs.declared.launch.Launch.{Launch}
use Rattle.mcv_rules.proofs.Orders.{same_is}
use Rattle.mcv_witness.specs.Walk.{finish, goes_on, joined_reply, worse_reply}
use Rattle.mcv_witness.specs.declared.seen.Join.{Join}
use Rattle.mcv_witness.specs.declared.seen.Join.TheVariants.{Both, Beside, OnError, OnMiss}
use Rattle.mcv_witness.specs.declared.seen.Seen.{Seen}
use Rattle.mcv_witness.specs.declared.seen.SeenReply.{SeenReply}
use Rattle.mcv_witness.proofs.EachMember.{Each}

-- ---- truth values

pub or_false : (a : Bool) → (a || false) ≡ a
or_false true = refl
or_false false = refl

pub or_assoc : (a b c : Bool) → ((a || b) || c) ≡ (a || (b || c))
or_assoc true b c = refl
or_assoc false b c = refl

and_assoc : (a b c : Bool) → ((a && b) && c) ≡ (a && (b && c))
and_assoc true b c = refl
and_assoc false b c = refl

-- ---- whose reply it is

abbrev pub is_source : List ℕ → Source → Bool
is_source leaf (leg p) = bytes_eq p leaf
is_source leaf fixed = false
is_source leaf refusal = false

-- the answer is a hit of the leaf
abbrev pub hit_at : List ℕ → Answer → Bool
hit_at leaf a = is_good a.outcome && is_source leaf a.source

abbrev pub hits : List ℕ → List Answer → Bool
hits leaf [] = false
hits leaf (a ∷ more) = hit_at leaf a || hits leaf more

abbrev pub seen_reply : List ℕ → List Answer → Option SeenReply
seen_reply leaf [] = None
seen_reply leaf (a ∷ more) = Some (record { outcome = a.outcome; is_hit = hits leaf (a ∷ more) })

hits_append : (leaf : List ℕ) (rs qs : List Answer) → hits leaf (rs ++ qs) ≡ (hits leaf rs || hits leaf qs)
hits_append leaf [] qs = refl
hits_append leaf (a ∷ rs) qs = ap (λ b. hit_at leaf a || b) (hits_append leaf rs qs) ∙ sym (or_assoc (hit_at leaf a) (hits leaf rs) (hits leaf qs))

reply_of_worse : (leaf : List ℕ) (rs qs : List Answer) → seen_reply leaf (the_worse rs qs) ≡ worse_reply (seen_reply leaf rs) (seen_reply leaf qs)
reply_of_worse leaf [] qs = refl
reply_of_worse leaf (a ∷ more) [] = refl
reply_of_worse leaf (a ∷ more) (b ∷ qs) = by_tests (nat_lt (badness a.outcome) (badness b.outcome)) (nat_lt (badness b.outcome) (badness a.outcome))
  where
    by_tests : (x y : Bool) →
        seen_reply leaf (cond x (b ∷ qs) (cond y (a ∷ more) (a ∷ more ++ b ∷ qs)))
        ≡ cond x (seen_reply leaf (b ∷ qs)) (cond y (seen_reply leaf (a ∷ more)) (Some (record { outcome = a.outcome; is_hit = hits leaf (a ∷ more) || hits leaf (b ∷ qs) })))
    by_tests true y = refl
    by_tests false true = refl
    by_tests false false = ap (λ h. Some (record { outcome = a.outcome; is_hit = h })) (hits_append leaf (a ∷ more) (b ∷ qs))

-- ---- how replies are joined

abbrev pub join_answers : Join → List Answer → List Answer → List Answer
join_answers Both rs qs = the_worse rs qs
join_answers Beside rs qs = rs
join_answers OnError rs qs = or_after_error rs qs
join_answers OnMiss rs qs = or_after_miss rs qs

missed_good : (x : Outcome) → is_missed x ≡ true → is_good x ≡ false
missed_good Good e = absurd (false≢true e)
missed_good Soft e = refl
missed_good Error e = refl

unmissed_good : (x : Outcome) → is_missed x ≡ false → is_good x ≡ true
unmissed_good Good e = refl
unmissed_good Soft e = absurd (false≢true (sym e))
unmissed_good Error e = absurd (false≢true (sym e))

pub reply_of_join : (leaf : List ℕ) (how : Join) (rs qs : List Answer) → goes_on how (seen_reply leaf rs) ≡ true → seen_reply leaf (join_answers how rs qs) ≡ joined_reply how (seen_reply leaf rs) (seen_reply leaf qs)
reply_of_join leaf Both rs qs e = reply_of_worse leaf rs qs
reply_of_join leaf Beside rs qs e = refl
reply_of_join leaf OnError [] qs e = absurd (false≢true e)
reply_of_join leaf OnError (a ∷ rs) qs e = ap (λ b. seen_reply leaf (cond b qs (a ∷ rs))) e
reply_of_join leaf OnMiss [] qs e = absurd (false≢true e)
reply_of_join leaf OnMiss (a ∷ rs) qs e = ap (λ b. seen_reply leaf (cond b (a ∷ rs) qs)) (missed_good a.outcome e)

stop_one : (leaf : List ℕ) (how : Join) (rs qs : List Answer) → goes_on how (seen_reply leaf rs) ≡ false → join_answers how rs qs ≡ rs
stop_one leaf Both rs qs e = absurd (false≢true (sym e))
stop_one leaf Beside rs qs e = refl
stop_one leaf OnError [] qs e = refl
stop_one leaf OnError (a ∷ rs) qs e = ap (λ b. cond b qs (a ∷ rs)) e
stop_one leaf OnMiss [] qs e = refl
stop_one leaf OnMiss (a ∷ rs) qs e = ap (λ b. cond b (a ∷ rs) qs) (unmissed_good a.outcome e)

pub fold_stops : (leaf : List ℕ) (how : Join) (r : List Answer) (rs : List (List Answer)) → goes_on how (seen_reply leaf r) ≡ false → fold (join_answers how) r rs ≡ r
fold_stops leaf how r [] e = refl
fold_stops leaf how r (q ∷ rs) e = ap (λ x. fold (join_answers how) x rs) (stop_one leaf how r q e) ∙ fold_stops leaf how r rs e

-- what children send that are asked in turn, after this reply
abbrev pub legs_after : List ℕ → Join → List Answer → List (List Answer) → List (List Launch) → List Launch
legs_after leaf how r [] lss = []
legs_after leaf how r (q ∷ rs) [] = []
legs_after leaf how r (q ∷ rs) (ls ∷ lss) = if goes_on how (seen_reply leaf r) then ls ++ legs_after leaf how (join_answers how r q) rs lss else []

-- ---- legs

-- a leg at the position is sent
abbrev pub sent_at : List ℕ → List Launch → Bool
sent_at q [] = false
sent_at q (l ∷ ls) = is_same l.position q || sent_at q ls

-- each outcome is of a leg that is sent
abbrev pub all_sent : List Launch → History → Bool
all_sent ls [] = true
all_sent ls (e ∷ es) = sent_at e.0 ls && all_sent ls es

-- a leg that counts is sent to the server
abbrev pub reaches : ℕ → List Launch → Bool
reaches server [] = false
reaches server (l ∷ ls) = ((l.server.0 == server) && is_counting l.mark) || reaches server ls

sent_append : (q : List ℕ) (ls ms : List Launch) → sent_at q (ls ++ ms) ≡ (sent_at q ls || sent_at q ms)
sent_append q [] ms = refl
sent_append q (l ∷ ls) ms = ap (λ b. is_same l.position q || b) (sent_append q ls ms) ∙ sym (or_assoc (is_same l.position q) (sent_at q ls) (sent_at q ms))

pub reach_append : (server : ℕ) (ls ms : List Launch) → reaches server (ls ++ ms) ≡ (reaches server ls || reaches server ms)
reach_append server [] ms = refl
reach_append server (l ∷ ls) ms =
    let own = (l.server.0 == server) && is_counting l.mark in
    ap (λ b. own || b) (reach_append server ls ms) ∙ sym (or_assoc own (reaches server ls) (reaches server ms))

pub all_append : (ls : List Launch) (es fs : History) → all_sent ls (es ++ fs) ≡ (all_sent ls es && all_sent ls fs)
all_append ls [] fs = refl
all_append ls (e ∷ es) fs = ap (λ b. sent_at e.0 ls && b) (all_append ls es fs) ∙ sym (and_assoc (sent_at e.0 ls) (all_sent ls es) (all_sent ls fs))

pub not_sent : (P : List ℕ → Type 0) (q : List ℕ) (ls : List Launch) → (P q → ⊥) → Each (λ l. P l.position) ls → sent_at q ls ≡ false
not_sent P q [] bad h = refl
not_sent P q (l ∷ ls) bad h = by_test (is_same l.position q) refl (not_sent P q ls bad h.1)
  where
    by_test : (b : Bool) → is_same l.position q ≡ b → sent_at q ls ≡ false → (b || sent_at q ls) ≡ false
    by_test true e g = absurd (bad (subst P (same_is l.position q e) h.0))
    by_test false e g = g

-- none of the outcomes is of one of the legs
abbrev pub Avoids : List Launch → History → Type 0
Avoids ls es = Each (λ e. sent_at e.0 ls ≡ false) es

all_left : (ls ms : List Launch) (es : History) → Avoids ms es → all_sent (ls ++ ms) es ≡ all_sent ls es
all_left ls ms [] h = refl
all_left ls ms (e ∷ es) h = ap₂ ◌&&◌ (sent_append e.0 ls ms ∙ ap (λ b. sent_at e.0 ls || b) h.0 ∙ or_false (sent_at e.0 ls)) (all_left ls ms es h.1)

all_right : (ls ms : List Launch) (es : History) → Avoids ls es → all_sent (ls ++ ms) es ≡ all_sent ms es
all_right ls ms [] h = refl
all_right ls ms (e ∷ es) h = ap₂ ◌&&◌ (sent_append e.0 ls ms ∙ ap (λ b. b || sent_at e.0 ms) h.0) (all_right ls ms es h.1)

all_parts : (ls ms : List Launch) (es fs : History) → Avoids ms es → Avoids ls fs → all_sent (ls ++ ms) (es ++ fs) ≡ (all_sent ls es && all_sent ms fs)
all_parts ls ms es fs h g = all_append (ls ++ ms) es fs ∙ ap₂ ◌&&◌ (all_left ls ms es h) (all_right ls ms fs g)

-- ---- what is to be seen

module _ (leaf : List ℕ) (server : ℕ) where
  -- of a route with these replies and legs, where each outcome is of a leg, after others of which one was sent to the server or not
  abbrev pub after : Bool → History → List Answer → List Launch → Option Seen
  after b es rs ls = if all_sent ls es then Some (record { reply = seen_reply leaf rs; sent = b || reaches server ls }) else None

  pub nothing_after : (b : Bool) (es : History) (rs : List Answer) → finish (record { reply = seen_reply leaf rs; sent = b }) es ≡ after b es rs []
  nothing_after b [] rs = ap (λ x. Some (record { reply = seen_reply leaf rs; sent = x })) (sym (or_false b))
  nothing_after b (e ∷ es) rs = refl

  pub stray_after : (b : Bool) (e : List ℕ × Outcome) (es : History) (rs : List Answer) (ls : List Launch) → sent_at e.0 ls ≡ false → None ≡ after b (e ∷ es) rs ls
  stray_after b e es rs ls h = sym (ap (λ x. cond (x && all_sent ls es) (Some (record { reply = seen_reply leaf rs; sent = b || reaches server ls })) None) h)

  then_cond : (K : Seen → Option Seen) (p : Bool) (y : Seen) → option_and_then K (cond p (Some y) None) ≡ cond p (K y) None
  then_cond K true y = refl
  then_cond K false y = refl

  cond_and : (p q : Bool) (w : Seen) → cond p (cond q (Some w) None) None ≡ cond (p && q) (Some w) None
  cond_and true q w = refl
  cond_and false q w = refl

  -- one part with its outcomes, and then the others with theirs
  pub step_after : (K : Seen → Option Seen) (x : Option Seen) (b : Bool) (es fs : History) (qs zs : List Answer) (ls ms : List Launch) →
      x ≡ after false es qs ls → K (record { reply = seen_reply leaf qs; sent = reaches server ls }) ≡ after (b || reaches server ls) fs zs ms →
      Avoids ms es → Avoids ls fs → option_and_then K x ≡ after b (es ++ fs) zs (ls ++ ms)
  step_after K x b es fs qs zs ls ms own others h g =
      let seen : Seen = record { reply = seen_reply leaf zs; sent = (b || reaches server ls) || reaches server ms } in
      ap (option_and_then K) own
      ∙ then_cond K (all_sent ls es) (record { reply = seen_reply leaf qs; sent = reaches server ls })
      ∙ ap (λ y. cond (all_sent ls es) y None) others
      ∙ cond_and (all_sent ls es) (all_sent ms fs) seen
      ∙ ap₂ (λ p s. cond p (Some (record { reply = seen_reply leaf zs; sent = s })) None) (sym (all_parts ls ms es fs h g))
      (or_assoc b (reaches server ls) (reaches server ms) ∙ ap (λ r. b || r) (sym (reach_append server ls ms)))
