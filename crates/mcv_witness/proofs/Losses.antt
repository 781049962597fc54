-- Routes for which a finding breaks coverage aren't covered.
use Rattle.std.proofs.Common.{◌≡◌, ◌⊎◌, inl, inr, ⊎_elim, cond, ℕ, zero, suc, Bool, true, false, List, [], ◌∷◌, Option, Some, option_map, refl, sym, ap, ◌∙◌, subst, arith}
use Rattle.std.specs.Prelude.{slice_get, slice_index}
use Rattle.std.specs.List.{Contains}
use Rattle.std.proofs.lemmas.List.Elements.{Contains-append_right}
use Rattle.std.proofs.lemmas.Option.{none-some, same_Some}
use Rattle.mcv_base.specs.declared.reply.Outcome.{Outcome}
use Rattle.mcv_route.proofs.BreakTables.{era_there}
use Rattle.mcv_route.proofs.NearBreaks.{near_grows}
use Rattle.mcv_route.specs.Launched.{launched}
use Rattle.mcv_route.specs.Outcomes.{Outcomes, Choice, History, is_same, outcomes}
use Rattle.mcv_route.specs.Places.{pool_at_position}
use Rattle.mcv_route.specs.Routes.{RouteEntry}
use Rattle.mcv_route.specs.Situation.{Situation, asked}
use Rattle.mcv_route.specs.Tree.{Tree}
use Rattle.mcv_route.specs.Verdict.{CanHit, Has, IsCovered, IsHit}
use Rattle.mcv_rules.specs.Plan.{Leg, Plan, Send, Reply, Both, Beside, OnError, OnMiss, OnHit, Shadowed, HitAt, server}
use Rattle.mcv_rules.specs.Plans.{plan, launch_of}
use Rattle.mcv_rules.proofs.Leaves.{legs_are_of_pools}
use Rattle.mcv_rules.proofs.Orders.{same_is}
use Rattle.mcv_rules.proofs.Sending.{Sends}
use Rattle.mcv_rules.proofs.Verdicts.{hit_is_planned, sends_has}
use Rattle.mcv_symbolic.specs.CoveredRoutes.{sizes_of}
use Rattle.mcv_witness.specs.Breaks.{FindingsAreLosses, IsLeafOf, IsRead, chosen}
use Rattle.mcv_witness.specs.Finding.{FindingValue}
use Rattle.mcv_witness.proofs.EachMember.{Each}

-- ---- lists

entry_at : (es : List RouteEntry) (k : ℕ) (t : Tree) → option_map (λ e. e.tree) (slice_get es k) ≡ Some t → (e : RouteEntry) × Contains es e × (e.tree ≡ t)
entry_at [] k t e = absurd (none-some t e)
entry_at (x ∷ es) zero t e = (x, (0, omega arith, refl), same_Some x.tree t e)
entry_at (x ∷ es) (suc k) t e = let r = entry_at es k t e in (r.0, Contains-append_right (x ∷ []) es r.0 r.1, r.2)

got : (xs : List ℕ) (k b : ℕ) → slice_get xs k ≡ Some b → slice_index xs k ≡ b
got [] k b e = absurd (none-some b e)
got (x ∷ xs) zero b e = same_Some x b e
got (x ∷ xs) (suc k) b e = got xs k b e

-- ---- outcomes that are each of a leg that is sent

by_same : (b : Bool) (y : Outcome) (r : Option Outcome) (x : Outcome) → cond b (Some y) r ≡ Some x → (b ≡ true) ⊎ (r ≡ Some x)
by_same true y r x e = inl refl
by_same false y r x e = inr e

pub each_closed : (t : Tree) (s : Situation) (c : Choice) (o : Outcomes) (es : History) → Each (λ e. Has (launched t s c o) (λ l. l.position ≡ e.0)) es
    → (p : List ℕ) (x : Outcome) → outcomes es p ≡ Some x → Has (launched t s c o) (λ l. l.position ≡ p)
each_closed t s c o [] h p x e = absurd (none-some x e)
each_closed t s c o (d ∷ es) h p x e =
    elim (by_same (is_same d.0 p) d.1 (outcomes es p) x e) [
      | inl same ↦ subst (λ q. Has (launched t s c o) (λ l. l.position ≡ q)) (same_is d.0 p same) h.0
      | inr later ↦ each_closed t s c o es h.1 p x later
    ]

-- ---- what is read

hit_sent : (t : Plan) (c : Choice) (o : Outcomes) (l : Leg) → HitAt t o l → Sends t c o l
hit_sent (Send k) c o l h = h.0
hit_sent (Reply x) c o l h = h
hit_sent (Both t u) c o l h = ⊎_elim (λ i. inl (hit_sent t c o l i)) (λ i. inr (hit_sent u c o l i)) h.2
hit_sent (Beside t u) c o l h = inl (hit_sent t c o l h)
hit_sent (OnError t u) c o l (inl h) = inl (hit_sent t c o l h)
hit_sent (OnError t u) c o l (inr h) = inr (h.0, hit_sent u c o l h.1)
hit_sent (OnMiss t u) c o l (inl h) = inl (hit_sent t c o l h)
hit_sent (OnMiss t u) c o l (inr h) = inr (h.0, hit_sent u c o l h.1)
hit_sent (OnHit t u) c o l h = inl (hit_sent t c o l h)
hit_sent (Shadowed s a b t u) c o l h = inl (hit_sent t c o l h)

can_hit : (f : FindingValue) (t : Tree) (rest : List ℕ) (since : Option ℕ) → IsLeafOf f t → IsRead f t rest since → CanHit t (asked f.op rest since) (chosen f) f.server
can_hit f t rest since leaf read =
    let s = asked f.op rest since in
    let c = chosen f in
    let o = outcomes f.gets in
    let k = (hit_is_planned t s o f.place.leaf).0 read.hit in
    let sends = hit_sent (plan t s) c o k.0 k.1 in
    let own = legs_are_of_pools t f.op rest since c o (launch_of c k.0) (sends_has t s c o (λ m. m ≡ launch_of c k.0) k.0 sends refl) in
    let same = same_Some own.0 leaf.pool (sym own.1 ∙ ap (pool_at_position t) k.2 ∙ leaf.pool_there) in
    let at : server c k.0 ≡ f.server = own.2 ∙ ap (λ p. slice_index p.servers (c p.symbol)) same ∙ ap (λ i. slice_index leaf.pool.servers i) leaf.index ∙ got leaf.pool.servers f.at f.server leaf.server in
    (o, read.reachable, sends_has t s c o (λ l. (l.server.0 ≡ f.server) × IsHit t s o l.position) k.0 sends (at, subst (λ q. IsHit t s o q) (sym k.2) read.hit))

-- ---- the law

pub findings_are_losses : FindingsAreLosses
findings_are_losses r f le b covered =
    let e = entry_at r.entries f.place.spot.route b.tree b.placed.route in
    let near = (near_grows r f.window r.window b.since b.get_since).1 le b.placed.near in
    let era = era_there r f.place.spot.era b.since b.placed.era in
    let get_era = era_there r f.place.spot.get_era b.get_since b.placed.get_era in
    let here = subst (λ u. IsCovered (sizes_of r) u b.rest b.since b.get_since) e.2 (covered e.0 b.rest b.since b.get_since e.1 b.placed.rest_is era get_era near) in
    b.missed.unsent (here (chosen f) (outcomes f.deletes) b.choice b.missed.reachable b.missed.done f.server
    (f.op, b.read.reading, can_hit f b.tree b.rest b.get_since b.leaf b.read))
