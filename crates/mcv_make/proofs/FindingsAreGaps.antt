-- A finding that breaks coverage is a gap of its place. So the finding of the first gap is the first.
use Rattle.std.proofs.Common.{◌≡◌, ◌≢◌, ◌<◌, inl, inr, ℕ, true, List, [], ◌∷◌, length, zero, suc, Option, Some, option_map, refl, sym, ap, ◌∙◌, subst}
use Rattle.std.specs.Prelude.{slice_get, slice_index}
use Rattle.std.specs.List.{Contains}
use Rattle.std.proofs.lemmas.Option.{get_or_from_slice_get, none-some, same_Some, slice_get_within}
use Rattle.mcv_cert.specs.Pair.{place_of}
use Rattle.mcv_base.specs.Operation.{is_counting}
use Rattle.mcv_base.specs.declared.operation.Op.{Op}
use Rattle.mcv_base.specs.declared.operation.Op.TheVariants.{Delete}
use Rattle.mcv_base.specs.declared.reply.Outcome.TheVariants.{Good, Error}
use Rattle.mcv_blocks.specs.Blocks.{IsBlockAt, IsSpotOf, pool_for}
use Rattle.mcv_blocks.specs.Spots.{IsBlockFor, ClassInEras, in_eras}
use Rattle.mcv_blocks.proofs.BlocksOfSpots.{class-there}
use Rattle.mcv_blocks.proofs.BlockAtEachSpot.{block_exists}
use Rattle.mcv_blocks.proofs.PoolSizes.{AreSized, entry_sized}
use Rattle.mcv_blocks.proofs.JustifiedIsCovered.{answers}
use Rattle.mcv_blocks.proofs.OneListOfBlocks.{block_has, leg_there, pool_of_leg}
use Rattle.mcv_certify.specs.Gap.{IsFirstGap, IsGap}
use Rattle.mcv_certify.specs.declared.gap.Gap.{Gap}
use Rattle.mcv_classes.specs.Class.{IsClassWord, IsMember}
use Rattle.mcv_classes.specs.Laws.{AreAlike}
use Rattle.mcv_classes.specs.Words.{class_words}
use Rattle.mcv_classes.proofs.AlikeRests.{alike_are_replied, alike_are_sent}
use Rattle.mcv_classes.proofs.Existence.{rests_have_classes}
use Rattle.mcv_classes.proofs.Members.{members_are_inside, one_class}
use Rattle.mcv_judge.specs.Faults.{require, place_required}
use Rattle.mcv_judge.specs.Reason.{BlockValue, HasReason, LegValue, server_at}
use Rattle.mcv_make.specs.FirstFinding.{IsFirstFinding}
use Rattle.mcv_make.specs.Place.{IsAtGap}
use Rattle.mcv_route.specs.Eras.{IsNear}
use Rattle.mcv_route.specs.Launched.{launched}
use Rattle.mcv_route.specs.Outcomes.{Choice, History, Outcomes, outcomes}
use Rattle.mcv_route.specs.Places.{pool_at_position}
use Rattle.mcv_route.specs.Replies.{leg, replies}
use Rattle.mcv_route.specs.Routes.{IsSoundRoutes, RouteEntry, RoutesValue}
use Rattle.mcv_route.specs.Situation.{asked}
use Rattle.mcv_route.specs.Tree.{Pool, Tree}
use Rattle.mcv_route.specs.Verdict.{Has, IsDone, IsHit, IsLegal, IsReachable, IsSent}
use Rattle.mcv_rules.proofs.Leaves.{legs_are_of_pools}
use Rattle.mcv_symbolic.specs.CoveredRoutes.{sizes_of}
use Rattle.mcv_symbolic.specs.JustifiedRoutes.{IsAcknowledgedPool, IsAnswered, IsReadableAt}
use Rattle.mcv_symbolic.specs.Sets.{IsCountedAt}
use Rattle.mcv_witness.specs.Breaks.{BreaksCoverage, chosen}
use Rattle.mcv_witness.specs.Finding.{FindingValue}
use Rattle.mcv_make.proofs.Gaps.{at-finding}

-- ---- lists

-- the entry of a route's tree
entry_at : (es : List RouteEntry) (k : ℕ) (t : Tree) → option_map (λ e. e.tree) (slice_get es k) ≡ Some t → (e : RouteEntry) × (slice_get es k ≡ Some e) × (e.tree ≡ t)
entry_at [] k t e = absurd (none-some t e)
entry_at (x ∷ es) zero t e = (x, refl, same_Some x.tree t e)
entry_at (x ∷ es) (suc k) t e = entry_at es k t e

-- where a member has the one property, it has the other
has_more : {A : Type 0} (xs : List A) (P Q : A → Type 0) → ((x : A) → Has xs (λ y. y ≡ x) → P x → Q x) → Has xs P → Has xs Q
has_more [] P Q f h = h
has_more (x ∷ xs) P Q f (inl h) = inl (f x (inl refl) h)
has_more (x ∷ xs) P Q f (inr h) = inr (has_more xs P Q (λ y at p. f y (inr at) p) h)

-- ---- rests of one class

module _ (t : Tree) (rest other : List ℕ) (alike : AreAlike t rest other) (op : Op) (since : Option ℕ) where
  alike_legal : (c : Choice) (es : History) → IsLegal t (asked op rest since) c es → IsLegal t (asked op other since) c es
  alike_legal c [] h = h
  alike_legal c (e ∷ es) h = (subst (λ ls. Has ls (λ l. l.position ≡ e.0)) (alike_are_sent t rest other alike op since c (outcomes es)) h.0, h.1, alike_legal c es h.2)

  alike_reachable : (c : Choice) (o : Outcomes) → IsReachable t (asked op rest since) c o → IsReachable t (asked op other since) c o
  alike_reachable c o h = (h.0, alike_legal c h.0 h.1, h.2)

  alike_hit : (o : Outcomes) (p : List ℕ) → IsHit t (asked op rest since) o p → IsHit t (asked op other since) o p
  alike_hit o p h = subst (λ rs. Has rs (λ b. b ≡ record { outcome = Good; source = leg p })) (alike_are_replied t rest other alike op since o) h

alike_done : (t : Tree) (rest other : List ℕ) → AreAlike t rest other → (since : Option ℕ) (o : Outcomes) → IsDone t rest since o → IsDone t other since o
alike_done t rest other alike since o h = subst (λ rs. Has rs (λ b. b.outcome ≢ Error)) (alike_are_replied t rest other alike Delete since o) h

alike_sent : (t : Tree) (rest other : List ℕ) → AreAlike t rest other → (since : Option ℕ) (c : Choice) (o : Outcomes) (x : ℕ) → IsSent t rest since c o x → IsSent t other since c o x
alike_sent t rest other alike since c o x h = subst (λ ls. Has ls (λ l. (l.server.0 ≡ x) × (is_counting l.mark ≡ true))) (alike_are_sent t rest other alike Delete since c o) h

-- ---- a pool to which every delete that has a reply has been sent was sent this one

module _ (t : Tree) (rest : List ℕ) (since : Option ℕ) (c : Choice) (o : Outcomes) (reached : IsReachable t (asked Delete rest since) c o) (done : IsDone t rest since o) where
  replied : replies t (asked Delete rest since) o ≢ []
  replied e = subst (λ rs. Has rs (λ b. b.outcome ≢ Error)) e done

  sent_to : (m : Pool) → IsAcknowledgedPool t rest since m → (x : ℕ) → slice_index m.servers (c m.symbol) ≡ x → IsSent t rest since c o x
  sent_to m own x is =
      let counted : IsCountedAt t rest since c o own.0 = own.2 c o reached replied in
      has_more (launched t (asked Delete rest since) c o) (λ l. (l.position ≡ own.0) × (is_counting l.mark ≡ true)) (λ l. (l.server.0 ≡ x) × (is_counting l.mark ≡ true))
      (λ l at h.
      let own_pool = legs_are_of_pools t Delete rest since c o l at in
      let same : own_pool.0 ≡ m = same_Some own_pool.0 m (sym own_pool.1 ∙ ap (pool_at_position t) h.0 ∙ own.1) in
      (own_pool.2 ∙ ap (λ (q : Pool). slice_index q.servers (c q.symbol)) same ∙ is, h.1))
      counted

  -- where a symbol answers, the pool's server has it
  answered_sent : (sizes : List ℕ) (leaf : Pool) (i x : ℕ) → ((s : ℕ) → s < length sizes → c s < slice_index sizes s) → c leaf.symbol ≡ i → slice_index leaf.servers i ≡ x → IsAnswered sizes t rest since leaf i → IsSent t rest since c o x
  answered_sent sizes leaf i x choice index server h =
      let m = h.2 (c h.0) (choice h.0 h.1) (λ e. ap c e ∙ index) in
      sent_to m.0 m.1 x (ap (λ s. slice_index m.0.servers (c s)) m.2 ∙ m.3 ∙ server)

-- ---- the gap of a finding

module _ (r : RoutesValue) (sound : IsSoundRoutes r) (f : FindingValue) (window : f.window ≡ r.window) (b : BreaksCoverage r f) where
  abbrev t : Tree
  t = b.tree

  abbrev since : Option ℕ
  since = b.since

  abbrev read : Option ℕ
  read = b.get_since

  near : IsNear r r.window since read
  near = subst (λ w. IsNear r w since read) window b.placed.near

  entry : (e : RouteEntry) × (slice_get r.entries f.place.spot.route ≡ Some e) × (e.tree ≡ t)
  entry = entry_at r.entries f.place.spot.route t b.placed.route

  member : (m : List ℕ) × IsMember (class_words t) f.place.spot.class (Some m)
  member =
      let h = rests_have_classes t b.rest b.placed.rest_is.key b.placed.rest_is.bytes in
      (h.1, subst (λ w. IsMember (class_words t) w (Some h.1)) (one_class (class_words t) b.rest h.0 f.place.spot.class h.2 b.placed.class) h.3)

  abbrev rest : List ℕ
  rest = member.0

  inside : IsClassWord (class_words t) rest f.place.spot.class
  inside = (members_are_inside t f.place.spot.class rest member.1 b.placed.class.listed).0

  alike : AreAlike t b.rest rest
  alike = (f.place.spot.class, b.placed.class, inside)

  back : AreAlike t rest b.rest
  back = (f.place.spot.class, inside, b.placed.class)

  at_spot : IsSpotOf r f.place.spot t rest since read
  at_spot = record { entry = entry.0; numbered = entry.1; has_tree = entry.2; listed = b.placed.class.listed; has_member = member.1; opened = b.placed.era; read_opened = b.placed.get_era; near = near }

  abbrev here : ClassInEras
  here = in_eras (record { route = f.place.spot.route; class = record { word = f.place.spot.class; member = Some rest } }) f.place.spot.era f.place.spot.get_era

  block : (d : BlockValue) × IsBlockFor r here d
  block = block_exists r here (class-there r f.place.spot t rest since read at_spot, (since, read, b.placed.era, b.placed.get_era, near))

  has : IsBlockAt t rest since read block.0
  has = block_has r f.place.spot t rest since read at_spot block.0 block.1.is block.1.spot

  -- the leaf can be read at the member too
  readable : IsReadableAt t rest read f.place.leaf
  readable =
      (f.op, b.read.reading, chosen f, (outcomes f.gets, alike_reachable t b.rest rest alike f.op read (chosen f) (outcomes f.gets) b.read.reachable, alike_hit t b.rest rest alike f.op read (outcomes f.gets) f.place.leaf b.read.hit))

  leaf : (l : LegValue) × Contains block.0.readable l × (l.position ≡ f.place.leaf)
  leaf = leg_there t (IsReadableAt t rest read) block.0.readable has.readable f.place.leaf readable

  pool_there : pool_at_position t leaf.0.position ≡ Some (pool_for leaf.0)
  pool_there = pool_of_leg t (IsReadableAt t rest read) block.0.readable has.readable leaf.0 leaf.1

  same_pool : b.leaf.pool ≡ pool_for leaf.0
  same_pool = same_Some b.leaf.pool (pool_for leaf.0) (sym b.leaf.pool_there ∙ ap (pool_at_position t) (sym leaf.2) ∙ pool_there)

  server : server_at leaf.0 f.at ≡ Some f.server
  server = ap (λ (q : Pool). slice_get q.servers f.at) (sym same_pool) ∙ b.leaf.server

  index : chosen f leaf.0.symbol ≡ f.at
  index = ap (λ (q : Pool). chosen f q.symbol) (sym same_pool) ∙ b.leaf.index

  sized : AreSized (sizes_of r) t
  sized =
      let e = entry.0 in
      subst (AreSized (sizes_of r)) entry.2 (entry_sized r e sound (f.place.spot.route, slice_get_within r.entries f.place.spot.route e entry.1, get_or_from_slice_get r.entries f.place.spot.route e e entry.1))

  reached : IsReachable t (asked Delete rest since) (chosen f) (outcomes f.deletes)
  reached = alike_reachable t b.rest rest alike Delete since (chosen f) (outcomes f.deletes) b.missed.reachable

  done : IsDone t rest since (outcomes f.deletes)
  done = alike_done t b.rest rest alike since (outcomes f.deletes) b.missed.done

  -- a reason would have had the delete sent
  unanswered : HasReason block.0 leaf.0 f.at → ⊥
  unanswered h =
      elim (answers (sizes_of r) t rest since read sized block.0 has leaf.0 (sized leaf.0.position (pool_for leaf.0) pool_there).0 f.at h) [
        | inl never ↦ never (chosen f) (outcomes f.deletes, reached, done)
        | inr answered ↦
            b.missed.unsent
            (alike_sent t rest b.rest back since (chosen f) (outcomes f.deletes) f.server
            (answered_sent t rest since (chosen f) (outcomes f.deletes) reached done (sizes_of r) (pool_for leaf.0) f.at f.server b.choice index (get_or_from_slice_get leaf.0.servers f.at f.server 0 server) answered))
      ]

  placed : place_required (require block.0 leaf.0) ≡ f.place
  placed = λ i. record { spot = block.1.spot i; leaf = leaf.2 i }

  pub finding_is_gap : IsGap r f.place f.at f.server
  finding_is_gap = record { block = block.0; leaf = leaf.0; block_is = block.1.is; readable = leaf.1; placed = placed; has = server; unanswered = unanswered }

-- ---- the first

pub first_finding : (r : RoutesValue) → IsSoundRoutes r → (f : FindingValue) → f.window ≡ r.window → IsFirstGap r f.place f.at f.server → BreaksCoverage r f → IsFirstFinding r f
first_finding r sound f window gap breaks = record { window = window; breaks = breaks; first = λ g same less other. gap.first g.place g.at g.server less (finding_is_gap r sound g same other) }

-- the finding of the first gap
pub first_of_gap : (r : RoutesValue) → IsSoundRoutes r → (g : Gap) (f : FindingValue) → f.window ≡ r.window → IsFirstGap r (place_of g.place) g.at g.server.0 → IsAtGap g f → BreaksCoverage r f → IsFirstFinding r f
first_of_gap r sound g f window gap at breaks = first_finding r sound f window (at-finding (IsFirstGap r) g f at gap) breaks
