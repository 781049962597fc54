-- What a confirmed finding's walks say, and that a finding is at one place.
use Rattle.std.proofs.Common.{◌≡◌, ◌≢◌, inl, cond, ℕ, Bool, true, false, List, [], ◌∷◌, Option, Some, None, refl, sym, ap, ◌∙◌}
use Rattle.std.specs.Prelude.{not}
use Rattle.std.proofs.lemmas.Bool.{and_from, and_parts, false≢true}
use Rattle.std.proofs.lemmas.Option.{none-some, same_Some}
use Rattle.mcv_base.proofs.Prefixes.{one_reading}
use Rattle.mcv_route.proofs.BreakTables.{one_era}
use Rattle.mcv_base.specs.declared.operation.Op.TheVariants.{Delete}
use Rattle.mcv_base.specs.declared.reply.Outcome.{Outcome}
use Rattle.mcv_base.specs.declared.reply.Outcome.TheVariants.{Good, Soft, Error}
use Rattle.mcv_base.specs.Operation.{shows_value}
use Rattle.mcv_base.specs.Reply.{is_error}
use Rattle.mcv_route.specs.Launched.{launched}
use Rattle.mcv_route.specs.Outcomes.{outcomes}
use Rattle.mcv_route.specs.Replies.{Answer, outcome_of, replies}
use Rattle.mcv_route.specs.Routes.{RoutesValue}
use Rattle.mcv_route.specs.Situation.{asked}
use Rattle.mcv_route.specs.Tree.{Tree}
use Rattle.mcv_route.specs.Verdict.{Has}
use Rattle.mcv_rules.proofs.Verdicts.{reply_is_planned}
use Rattle.mcv_symbolic.proofs.RouteByPlan.{done_planned}
use Rattle.mcv_witness.specs.Breaks.{AreRising, IsMissed, IsRead, IsAtPlace, chosen}
use Rattle.mcv_witness.specs.Confirm.{reply_acknowledges, hit_seen, reply_hits, missed_seen}
use Rattle.mcv_witness.specs.Finding.{FindingValue}
use Rattle.mcv_witness.specs.Walk.{pass}
use Rattle.mcv_witness.specs.declared.seen.Seen.{Seen}
use Rattle.mcv_witness.proofs.RouteWalk.{all_reachable, has_hits, has_reaches, hits_has, reachable_all, reaches_has, rising_rises, sees}
use Rattle.mcv_witness.proofs.Tests.{all_sent, hits, reaches, seen_reply}

-- ---- truth values

not_true : (b : Bool) → not b ≡ true → b ≡ false
not_true true e = absurd (false≢true e)
not_true false e = refl

not_false : (b : Bool) → b ≡ false → not b ≡ true
not_false true e = absurd (false≢true (sym e))
not_false false e = refl

-- ---- the get

cond_hit : (a : Bool) (y : Seen) → hit_seen (cond a (Some y) None) ≡ true → (a ≡ true) × (reply_hits y.reply ≡ true)
cond_hit true y e = (refl, e)
cond_hit false y e = absurd (false≢true e)

hits_by_reply : (leaf : List ℕ) (rs : List Answer) → reply_hits (seen_reply leaf rs) ≡ true → hits leaf rs ≡ true
hits_by_reply leaf [] e = absurd (false≢true e)
hits_by_reply leaf (a ∷ rs) e = e

reply_by_hits : (leaf : List ℕ) (rs : List Answer) → hits leaf rs ≡ true → reply_hits (seen_reply leaf rs) ≡ true
reply_by_hits leaf [] e = absurd (false≢true e)
reply_by_hits leaf (a ∷ rs) e = e

module _ (f : FindingValue) (t : Tree) (rest : List ℕ) (since : Option ℕ) where
  abbrev pub read_walk : Option Seen
  read_walk = pass f.place.leaf f.server (chosen f) t (asked f.op rest since) (record { legs = f.gets; depth = 0 })

  abbrev read_seen : Seen
  read_seen = record { reply = seen_reply f.place.leaf (replies t (asked f.op rest since) (outcomes f.gets)); sent = reaches f.server (launched t (asked f.op rest since) (chosen f) (outcomes f.gets)) }

  pub read_right : shows_value f.op ≡ true → AreRising f.gets → hit_seen read_walk ≡ true → IsRead f t rest since
  read_right reading rising e =
      let walk = sees f.place.leaf f.server (chosen f) t (asked f.op rest since) f.gets (rising_rises f.gets rising) in
      let parts = cond_hit (all_sent (launched t (asked f.op rest since) (chosen f) (outcomes f.gets)) f.gets) read_seen (sym (ap hit_seen walk) ∙ e) in
      let rs = replies t (asked f.op rest since) (outcomes f.gets) in
      record {
        reading = reading;
        rising = rising;
        reachable = all_reachable t (asked f.op rest since) (chosen f) f.gets parts.0;
        hit = hits_has f.place.leaf rs (hits_by_reply f.place.leaf rs parts.1);
      }

  pub read_left : IsRead f t rest since → hit_seen read_walk ≡ true
  read_left read =
      let rs = replies t (asked f.op rest since) (outcomes f.gets) in
      ap hit_seen (sees f.place.leaf f.server (chosen f) t (asked f.op rest since) f.gets (rising_rises f.gets read.rising))
      ∙ ap (λ a. hit_seen (cond a (Some read_seen) None)) (reachable_all t (asked f.op rest since) (chosen f) f.gets read.reachable)
      ∙ reply_by_hits f.place.leaf rs (has_hits f.place.leaf rs read.hit)

-- ---- the delete

cond_missed : (a : Bool) (y : Seen) → missed_seen (cond a (Some y) None) ≡ true → (a ≡ true) × (y.sent ≡ false) × (reply_acknowledges y.reply ≡ true)
cond_missed true y e = let p = and_parts (not y.sent) (reply_acknowledges y.reply) e in (refl, not_true y.sent p.0, p.1)
cond_missed false y e = absurd (false≢true e)

not_error : (x : Outcome) → is_error x ≡ false → x ≢ Error
not_error x e same = false≢true (sym e ∙ ap is_error same)

no_error : (x : Outcome) → x ≢ Error → is_error x ≡ false
no_error Good h = refl
no_error Soft h = refl
no_error Error h = absurd (h refl)

fine_has : (leaf : List ℕ) (rs : List Answer) → reply_acknowledges (seen_reply leaf rs) ≡ true → Has rs (λ a. a.outcome ≢ Error)
fine_has leaf [] e = absurd (false≢true e)
fine_has leaf (a ∷ rs) e = inl (not_error a.outcome (not_true (is_error a.outcome) e))

fine_of : (leaf : List ℕ) (rs : List Answer) (x : Outcome) → outcome_of rs ≡ Some x → x ≢ Error → reply_acknowledges (seen_reply leaf rs) ≡ true
fine_of leaf [] x e h = absurd (none-some x e)
fine_of leaf (a ∷ rs) x e h = not_false (is_error a.outcome) (ap is_error (same_Some a.outcome x e) ∙ no_error x h)

module _ (f : FindingValue) (t : Tree) (rest : List ℕ) (since : Option ℕ) where
  abbrev pub missed_walk : Option Seen
  missed_walk = pass f.place.leaf f.server (chosen f) t (asked Delete rest since) (record { legs = f.deletes; depth = 0 })

  abbrev missed_is : Seen
  missed_is = record { reply = seen_reply f.place.leaf (replies t (asked Delete rest since) (outcomes f.deletes)); sent = reaches f.server (launched t (asked Delete rest since) (chosen f) (outcomes f.deletes)) }

  pub missed_right : AreRising f.deletes → missed_seen missed_walk ≡ true → IsMissed f t rest since
  missed_right rising e =
      let walk = sees f.place.leaf f.server (chosen f) t (asked Delete rest since) f.deletes (rising_rises f.deletes rising) in
      let ls = launched t (asked Delete rest since) (chosen f) (outcomes f.deletes) in
      let parts = cond_missed (all_sent ls f.deletes) missed_is (sym (ap missed_seen walk) ∙ e) in
      record {
        rising = rising;
        reachable = all_reachable t (asked Delete rest since) (chosen f) f.deletes parts.0;
        done = fine_has f.place.leaf (replies t (asked Delete rest since) (outcomes f.deletes)) parts.2;
        unsent = λ h. false≢true (sym parts.1 ∙ has_reaches f.server ls h);
      }

  reaches_no : (b : Bool) → (b ≡ true → ⊥) → b ≡ false
  reaches_no true h = absurd (h refl)
  reaches_no false h = refl

  pub missed_left : IsMissed f t rest since → missed_seen missed_walk ≡ true
  missed_left missed =
      let s = asked Delete rest since in
      let o = outcomes f.deletes in
      let ls = launched t s (chosen f) o in
      let done = done_planned t rest since o missed.done in
      ap missed_seen (sees f.place.leaf f.server (chosen f) t s f.deletes (rising_rises f.deletes missed.rising))
      ∙ ap (λ a. missed_seen (cond a (Some missed_is) None)) (reachable_all t s (chosen f) f.deletes missed.reachable)
      ∙ and_from (not (reaches f.server ls)) (reply_acknowledges (seen_reply f.place.leaf (replies t s o))) (not_false (reaches f.server ls) (reaches_no (reaches f.server ls) (λ e. missed.unsent (reaches_has f.server ls e))))
      (fine_of f.place.leaf (replies t s o) done.0 (reply_is_planned t s o ∙ done.1) done.2)

-- ---- one place

-- a finding is at one place
pub one_place : (r : RoutesValue) (f : FindingValue) (t u : Tree) (rest more : List ℕ) (since other get_since get_other : Option ℕ) → IsAtPlace r f t rest since get_since → IsAtPlace r f u more other get_other
    → (t ≡ u) × (rest ≡ more) × (since ≡ other) × (get_since ≡ get_other)
one_place r f t u rest more since other get_since get_other h g =
    (same_Some t u (sym h.route ∙ g.route), (one_reading f.key h.prefix rest g.prefix more h.cut g.cut).1, one_era r f.place.spot.era since other h.era g.era, one_era r f.place.spot.get_era get_since get_other h.get_era g.get_era)
