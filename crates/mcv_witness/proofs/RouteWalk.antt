-- What a walk says of a whole route, in the words of the definitions.
use Rattle.std.proofs.Common.{◌≡◌, inl, inr, ⊎_elim, cond, ℕ, suc, ◌<◌, ◌&&◌, ◌||◌, ◌==◌, Bool, true, false, List, [], ◌∷◌, length, map, get_or, Some, refl, sym, ap, ap₂, ◌∙◌, arith}
use Rattle.std.specs.List.{All, AllPairs}
use Rattle.std.specs.Str.{bytes_eq}
use Rattle.std.proofs.lemmas.Bool.{and_from, and_parts, eqb-true, eq-eqb, false≢true, or_cases}
use Rattle.std.proofs.lemmas.List.Elements.{All-cons, All-nil}
use Rattle.std.proofs.lemmas.List.Kept.{AllPairs-cons}
use Rattle.mcv_base.specs.declared.reply.Outcome.{Outcome}
use Rattle.mcv_base.specs.declared.reply.Outcome.TheVariants.{Good, Soft, Error}
use Rattle.mcv_base.specs.Operation.{is_counting}
use Rattle.mcv_base.specs.Reply.{is_good}
use Rattle.mcv_classes.specs.Class.{IsBefore}
use Rattle.mcv_route.specs.Launched.{launched}
use Rattle.mcv_route.specs.Outcomes.{Choice, History, is_same, outcomes}
use Rattle.mcv_route.specs.Replies.{Answer, Source, fixed, leg, refusal, replies}
use Rattle.mcv_route.specs.Situation.{Situation}
use Rattle.mcv_route.specs.Tree.{Tree}
use Rattle.mcv_route.specs.Verdict.{Has, IsReachable}
use Rattle.mcv_route.specs.declared.launch.Launch.{Launch}
use Rattle.mcv_rules.proofs.Orders.{same_is, same_self}
use Rattle.mcv_rules.proofs.Verdicts.{reachable_is_closed}
use Rattle.mcv_witness.specs.Breaks.{AreRising}
use Rattle.mcv_witness.specs.Walk.{pass}
use Rattle.mcv_witness.proofs.EachMember.{Each, each_map}
use Rattle.mcv_witness.proofs.Losses.{each_closed}
use Rattle.mcv_witness.proofs.GatheredChildren.{moved}
use Rattle.mcv_witness.proofs.Regions.{At, IsDeep, Rises}
use Rattle.mcv_witness.proofs.WalkIsRight.{pass_right}
use Rattle.mcv_witness.proofs.Tests.{after, all_sent, hit_at, hits, is_source, reaches, sent_at}

-- ---- the walk from the root

at_root : (es : History) → Each (λ e. At [] e.0) es
at_root [] = tt
at_root (e ∷ es) = ((e.0, refl), at_root es)

deep_root : (es : History) → IsDeep [] 0 es
deep_root [] = tt
deep_root (e ∷ es) = refl

pub sees : (leaf : List ℕ) (server : ℕ) (c : Choice) (t : Tree) (s : Situation) (es : History) → Rises es →
    pass leaf server c t s (record { legs = es; depth = 0 }) ≡ after leaf server false es (replies t (moved [] s) (outcomes es)) (launched t (moved [] s) c (outcomes es))
sees leaf server c t s es r = pass_right leaf server c t [] s (record { legs = es; depth = 0 }) (outcomes es) (record { at = at_root es; deep = deep_root es; rises = r }) (λ q h. refl)

-- ---- outcomes that can come about

sent_has : (q : List ℕ) (ls : List Launch) → sent_at q ls ≡ true → Has ls (λ l. l.position ≡ q)
sent_has q [] e = absurd (false≢true e)
sent_has q (l ∷ ls) e = ⊎_elim (λ h. inl (same_is l.position q h)) (λ h. inr (sent_has q ls h)) (or_cases (is_same l.position q) (sent_at q ls) e)

or_true : (a b : Bool) → b ≡ true → (a || b) ≡ true
or_true true b e = refl
or_true false b e = e

has_sent : (q : List ℕ) (ls : List Launch) → Has ls (λ l. l.position ≡ q) → sent_at q ls ≡ true
has_sent q [] h = absurd h
has_sent q (l ∷ ls) (inl e) = ap (λ b. b || sent_at q ls) (ap (is_same l.position) (sym e) ∙ same_self l.position)
has_sent q (l ∷ ls) (inr h) = or_true (is_same l.position q) (sent_at q ls) (has_sent q ls h)

all_each : (ls : List Launch) (es : History) → all_sent ls es ≡ true → Each (λ e. Has ls (λ l. l.position ≡ e.0)) es
all_each ls [] h = tt
all_each ls (e ∷ es) h = let p = and_parts (sent_at e.0 ls) (all_sent ls es) h in (sent_has e.0 ls p.0, all_each ls es p.1)

each_all : (ls : List Launch) (es : History) → Each (λ e. Has ls (λ l. l.position ≡ e.0)) es → all_sent ls es ≡ true
each_all ls [] h = refl
each_all ls (e ∷ es) h = and_from (sent_at e.0 ls) (all_sent ls es) (has_sent e.0 ls h.0) (each_all ls es h.1)

known_still : (d : List ℕ × Outcome) (es : History) (q : List ℕ) → ((x : Outcome) × (outcomes es q ≡ Some x)) → (x : Outcome) × (outcomes (d ∷ es) q ≡ Some x)
known_still d es q h = by_test (is_same d.0 q)
  where
    by_test : (b : Bool) → (x : Outcome) × (cond b (Some d.1) (outcomes es q) ≡ Some x)
    by_test true = (d.1, refl)
    by_test false = h

each_known : (es : History) → Each (λ e. (x : Outcome) × (outcomes es e.0 ≡ Some x)) es
each_known [] = tt
each_known (e ∷ es) = (
  (e.1, ap (λ b. cond b (Some e.1) (outcomes es e.0)) (same_self e.0)),
  each_map (λ f. (x : Outcome) × (outcomes es f.0 ≡ Some x)) (λ f. (x : Outcome) × (outcomes (e ∷ es) f.0 ≡ Some x)) es (λ f h. known_still e es f.0 h) (each_known es),
)

pub all_reachable : (t : Tree) (s : Situation) (c : Choice) (es : History) → all_sent (launched t s c (outcomes es)) es ≡ true → IsReachable t s c (outcomes es)
all_reachable t s c es h = (reachable_is_closed t s c (outcomes es)).1 (each_closed t s c (outcomes es) es (all_each (launched t s c (outcomes es)) es h))

pub reachable_all : (t : Tree) (s : Situation) (c : Choice) (es : History) → IsReachable t s c (outcomes es) → all_sent (launched t s c (outcomes es)) es ≡ true
reachable_all t s c es h =
    let closed = (reachable_is_closed t s c (outcomes es)).0 h in
    each_all (launched t s c (outcomes es)) es
    (each_map (λ e. (x : Outcome) × (outcomes es e.0 ≡ Some x)) (λ e. Has (launched t s c (outcomes es)) (λ l. l.position ≡ e.0)) es (λ e k. closed e.0 k.0 k.1) (each_known es))

-- ---- hits

good_is : (x : Outcome) → is_good x ≡ true → x ≡ Good
good_is Good e = refl
good_is Soft e = absurd (false≢true e)
good_is Error e = absurd (false≢true e)

same_bytes : (xs ys : List ℕ) → bytes_eq xs ys ≡ true → xs ≡ ys
same_bytes [] [] e = refl
same_bytes [] (y ∷ ys) e = absurd (false≢true e)
same_bytes (x ∷ xs) [] e = absurd (false≢true e)
same_bytes (x ∷ xs) (y ∷ ys) e = let p = and_parts (x == y) (bytes_eq xs ys) e in ap₂ ◌∷◌ (eqb-true x y p.0) (same_bytes xs ys p.1)

bytes_self : (xs : List ℕ) → bytes_eq xs xs ≡ true
bytes_self [] = refl
bytes_self (x ∷ xs) = and_from (x == x) (bytes_eq xs xs) (eq-eqb x x refl) (bytes_self xs)

source_is : (leaf : List ℕ) (x : Source) → is_source leaf x ≡ true → x ≡ leg leaf
source_is leaf (leg p) e = ap leg (same_bytes p leaf e)
source_is leaf fixed e = absurd (false≢true e)
source_is leaf refusal e = absurd (false≢true e)

hit_answer : (leaf : List ℕ) (a : Answer) → hit_at leaf a ≡ true → a ≡ record { outcome = Good; source = leg leaf }
hit_answer leaf a e =
    let p = and_parts (is_good a.outcome) (is_source leaf a.source) e in
    ap₂ (λ x y. let b : Answer = record { outcome = x; source = y } in b) (good_is a.outcome p.0) (source_is leaf a.source p.1)

pub hits_has : (leaf : List ℕ) (rs : List Answer) → hits leaf rs ≡ true → Has rs (λ a. a ≡ record { outcome = Good; source = leg leaf })
hits_has leaf [] e = absurd (false≢true e)
hits_has leaf (a ∷ rs) e = ⊎_elim (λ h. inl (hit_answer leaf a h)) (λ h. inr (hits_has leaf rs h)) (or_cases (hit_at leaf a) (hits leaf rs) e)

pub has_hits : (leaf : List ℕ) (rs : List Answer) → Has rs (λ a. a ≡ record { outcome = Good; source = leg leaf }) → hits leaf rs ≡ true
has_hits leaf [] h = absurd h
has_hits leaf (a ∷ rs) (inl e) = ap (λ b. b || hits leaf rs) (ap (hit_at leaf) e ∙ bytes_self leaf)
has_hits leaf (a ∷ rs) (inr h) = or_true (hit_at leaf a) (hits leaf rs) (has_hits leaf rs h)

-- ---- legs to the server

pub reaches_has : (server : ℕ) (ls : List Launch) → reaches server ls ≡ true → Has ls (λ l. (l.server.0 ≡ server) × (is_counting l.mark ≡ true))
reaches_has server [] e = absurd (false≢true e)
reaches_has server (l ∷ ls) e =
    ⊎_elim (λ h. let p = and_parts (l.server.0 == server) (is_counting l.mark) h in inl (eqb-true l.server.0 server p.0, p.1)) (λ h. inr (reaches_has server ls h))
    (or_cases ((l.server.0 == server) && is_counting l.mark) (reaches server ls) e)

pub has_reaches : (server : ℕ) (ls : List Launch) → Has ls (λ l. (l.server.0 ≡ server) × (is_counting l.mark ≡ true)) → reaches server ls ≡ true
has_reaches server [] h = absurd h
has_reaches server (l ∷ ls) (inl e) = ap (λ b. b || reaches server ls) (and_from (l.server.0 == server) (is_counting l.mark) (eq-eqb l.server.0 server e.0) e.1)
has_reaches server (l ∷ ls) (inr h) = or_true ((l.server.0 == server) && is_counting l.mark) (reaches server ls) (has_reaches server ls h)

-- ---- rising

pairs_tail : (p : List ℕ) (ps : List (List ℕ)) → AllPairs IsBefore (p ∷ ps) → AllPairs IsBefore ps
pairs_tail p ps h i j d low high = h (suc i) (suc j) d (omega (arith, low)) (omega (arith, high))

each_place : (p : List ℕ) (es : History) → ((j : ℕ) (d : List ℕ) → j < length (map (λ e. e.0) es) → IsBefore p (get_or (map (λ e. e.0) es) j d)) → Each (λ e. IsBefore p e.0) es
each_place p [] h = tt
each_place p (e ∷ es) h = (h 0 [] (omega arith), each_place p es (λ j d l. h (suc j) d (omega (arith, l))))

pub rising_rises : (es : History) → AreRising es → Rises es
rising_rises [] h = tt
rising_rises (e ∷ es) h = (each_place e.0 es (λ j d l. h 0 (suc j) d (omega arith) (omega (arith, l))), rising_rises es (pairs_tail e.0 (map (λ x. x.0) es) h))

all_places : (p : List ℕ) (es : History) → Each (λ e. IsBefore p e.0) es → All (IsBefore p) (map (λ e. e.0) es)
all_places p [] h = All-nil (IsBefore p)
all_places p (e ∷ es) h = All-cons (IsBefore p) e.0 (map (λ x. x.0) es) h.0 (all_places p es h.1)

pub rises_rising : (es : History) → Rises es → AreRising es
rises_rising [] h = λ i j d low high. absurd (omega (arith, high))
rises_rising (e ∷ es) h = AllPairs-cons IsBefore e.0 (map (λ x. x.0) es) (all_places e.0 es h.0) (rises_rising es h.1)
