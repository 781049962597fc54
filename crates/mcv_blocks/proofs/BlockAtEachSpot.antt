-- There is a block at each spot.
use Rattle.std.proofs.Common.{◌≡◌, ◌⊎◌, ◌↔◌, inl, inr, ℕ, Bool, true, false, List, [], ◌∷◌, map, Option, Some, None, refl, sym, ap, ◌∙◌, subst, arith}
use Rattle.std.specs.List.{All, AllZip, Contains}
use Rattle.std.specs.Option.{IsSome}
use Rattle.std.specs.declared.cmp.Ordering.TheVariants.{Less}
use Rattle.std.proofs.lemmas.Bool.{false≢true}
use Rattle.std.proofs.lemmas.List.Elements.{All-cons, All-nil, Contains-append_right}
use Rattle.std.proofs.lemmas.List.Kept.{AllPairs-cons}
use Rattle.mcv_base.specs.declared.operation.Op.{Op}
use Rattle.mcv_base.specs.declared.operation.Op.TheVariants.{Delete, Get, Gets, Incr, Decr}
use Rattle.mcv_base.specs.declared.reply.Outcome.{Outcome}
use Rattle.mcv_base.specs.declared.reply.Outcome.TheVariants.{Good, Soft, Error}
use Rattle.mcv_cert.specs.Pair.{list_cmp}
use Rattle.mcv_classes.specs.Class.{IsBefore, IsMember}
use Rattle.mcv_classes.specs.Words.{class_words}
use Rattle.mcv_judge.specs.Faults.{AreLegsRising}
use Rattle.mcv_judge.specs.Reason.{BlockValue, LegValue}
use Rattle.mcv_route.proofs.Readings.{one_of_four}
use Rattle.mcv_route.specs.Outcomes.{Choice}
use Rattle.mcv_route.specs.Places.{pool_at_position}
use Rattle.mcv_route.specs.Routes.{RoutesValue}
use Rattle.mcv_route.specs.Situation.{asked}
use Rattle.mcv_route.specs.Tree.{Tree}
use Rattle.mcv_rules.specs.Plan.{Leg}
use Rattle.mcv_rules.specs.Plans.{plan}
use Rattle.mcv_rules.specs.Soundness.{In}
use Rattle.mcv_rules.proofs.ListMembers.{Among}
use Rattle.mcv_rules.proofs.LegsRise.{IsRising, places}
use Rattle.mcv_symbolic.specs.JustifiedRoutes.{IsNeverAcknowledged, IsReadableAt}
use Rattle.mcv_symbolic.specs.SetLists.{acknowledged, hits}
use Rattle.mcv_symbolic.specs.Sets.{CanHitAt}
use Rattle.mcv_symbolic.specs.Structure.{if_all}
use Rattle.mcv_symbolic.proofs.Exactness.{acknowledged_is_exact, done_is_exact, hits_are_exact}
use Rattle.mcv_symbolic.proofs.Marks as marks
use Rattle.mcv_symbolic.proofs.PoolOfLeg.{leaf_of, acknowledged_are_there, hits_are_there}
use Rattle.mcv_symbolic.proofs.SetsRise.{acknowledged_rise, hits_rise}
use Rattle.mcv_blocks.specs.Blocks.{AreLeavesAt, IsAcknowledgedAt, pool_for, positions_of}
use Rattle.mcv_blocks.specs.MergedLegs.{merge}
use Rattle.mcv_blocks.specs.Spots.{AreClassesInEras, ClassInEras, IsBlockFor, IsClassInEras, spot_of}
use Rattle.mcv_blocks.proofs.MergesRise.{merged_leaves}

-- a leg of a plan as a block has it
abbrev leaf : Leg → LegValue
leaf l = record { position = l.position; symbol = l.symbol; servers = l.servers }

abbrev leaves : List Leg → List LegValue
leaves ls = map leaf ls

-- ---- lists

before-all : (k : Leg) (ls : List Leg) → ((p : List ℕ) → In (places ls) p → IsBefore k.position p) → All (λ (m : LegValue). list_cmp k.position m.position ≡ Less) (leaves ls)
before-all k [] h = All-nil (λ (m : LegValue). list_cmp k.position m.position ≡ Less)
before-all k (l ∷ ls) h = All-cons (λ (m : LegValue). list_cmp k.position m.position ≡ Less) (leaf l) (leaves ls) (h l.position (inl refl)) (before-all k ls (λ p i. h p (inr i)))

leaves-rise : (ls : List Leg) → IsRising (places ls) → AreLegsRising (leaves ls)
leaves-rise [] h = λ i j d low high. absurd (omega (arith, high))
leaves-rise (l ∷ ls) h = AllPairs-cons (λ (k m : LegValue). list_cmp k.position m.position ≡ Less) (leaf l) (leaves ls) (before-all l ls h.0) (leaves-rise ls h.1)

all-leaves : (P : LegValue → Type 0) (ls : List Leg) → ((l : Leg) → Among ls l → P (leaf l)) → All P (leaves ls)
all-leaves P [] h = All-nil P
all-leaves P (l ∷ ls) h = All-cons P (leaf l) (leaves ls) (h l (inl refl)) (all-leaves P ls (λ k i. h k (inr i)))

all-places : (P : List ℕ → Type 0) (ls : List Leg) → ((l : Leg) → Among ls l → P l.position) → All P (positions_of (leaves ls))
all-places P [] h = All-nil P
all-places P (l ∷ ls) h = All-cons P l.position (positions_of (leaves ls)) (h l (inl refl)) (all-places P ls (λ k i. h k (inr i)))

place-of : (ls : List Leg) (l : Leg) (p : List ℕ) → Among ls l → l.position ≡ p → Contains (positions_of (leaves ls)) p
place-of [] l p i e = absurd i
place-of (k ∷ ls) l p (inl same) e = (0, omega arith, ap (λ (m : Leg). m.position) same ∙ e)
place-of (k ∷ ls) l p (inr i) e = Contains-append_right (k.position ∷ []) (positions_of (leaves ls)) p (place-of ls l p i e)

-- ---- the sets of a plan

leaves-at : (t : Tree) (P : List ℕ → Type 0) (ls : List Leg) → IsRising (places ls) → ((l : Leg) → Among ls l → (pool_at_position t l.position ≡ Some (leaf_of l)) × P l.position) → ((p : List ℕ) → P p → (l : Leg) × Among ls l × (l.position ≡ p)) → AreLeavesAt t P (leaves ls)
leaves-at t P ls rise only every = record {
  pools = all-leaves (λ l. pool_at_position t l.position ≡ Some (pool_for l)) ls (λ l i. (only l i).0);
  rising = leaves-rise ls rise;
  only = all-places P ls (λ l i. (only l i).1);
  all = λ p h. let l = every p h in place-of ls l.0 p l.1 l.2;
}

any : Choice
any s = 0

-- the operation can be answered from the position under some choice
abbrev CanHit : Tree → Op → List ℕ → Option ℕ → List ℕ → Type 0
CanHit t op rest since p = (c : Choice) × CanHitAt t (asked op rest since) c p

hit-leaves : (t : Tree) (op : Op) (rest : List ℕ) (since : Option ℕ) → AreLeavesAt t (CanHit t op rest since) (leaves (hits (plan t (asked op rest since))))
hit-leaves t op rest since =
    let s = asked op rest since in
    leaves-at t (CanHit t op rest since) (hits (plan t s)) (hits_rise t s)
    (λ l i. let h = marks.hits_are (plan t s) l i in (hits_are_there t s l refl h, (any, (hits_are_exact t op rest since any l.position).1 (l, h, refl))))
    (λ p h. let k = (hits_are_exact t op rest since h.0 p).0 h.1 in (k.0, marks.are_hits (plan t s) k.0 k.1, k.2))

acknowledged-leaves : (t : Tree) (rest : List ℕ) (since : Option ℕ) → AreLeavesAt t (IsAcknowledgedAt t rest since) (leaves (acknowledged (plan t (asked Delete rest since))))
acknowledged-leaves t rest since =
    let s = asked Delete rest since in
    leaves-at t (IsAcknowledgedAt t rest since) (acknowledged (plan t s)) (acknowledged_rise t s)
    (λ l i. let h = marks.acknowledged_is (plan t s) l i in (acknowledged_are_there t s l refl h, λ c. (acknowledged_is_exact t rest since c l.position).1 (l, h, refl)))
    (λ p h. let k = (acknowledged_is_exact t rest since any p).0 (h any) in (k.0, marks.is_acknowledged (plan t s) k.0 k.1, k.2))

by-reading : (t : Tree) (rest : List ℕ) (since : Option ℕ) (p : List ℕ) → CanHit t Get rest since p ⊎ CanHit t Gets rest since p → IsReadableAt t rest since p
by-reading t rest since p (inl h) = (Get, refl, h.0, h.1)
by-reading t rest since p (inr h) = (Gets, refl, h.0, h.1)

by-adjusting : (t : Tree) (rest : List ℕ) (since : Option ℕ) (p : List ℕ) → CanHit t Incr rest since p ⊎ CanHit t Decr rest since p → IsReadableAt t rest since p
by-adjusting t rest since p (inl h) = (Incr, refl, h.0, h.1)
by-adjusting t rest since p (inr h) = (Decr, refl, h.0, h.1)

-- the leaves from which get, gets, incr and decr can be answered, merged
pub readable_by_four : (t : Tree) (rest : List ℕ) (since : Option ℕ) (get gets incr decr : List LegValue) → AreLeavesAt t (CanHit t Get rest since) get → AreLeavesAt t (CanHit t Gets rest since) gets → AreLeavesAt t (CanHit t Incr rest since) incr
    → AreLeavesAt t (CanHit t Decr rest since) decr → AreLeavesAt t (IsReadableAt t rest since) (merge (merge get gets) (merge incr decr))
readable_by_four t rest since get gets incr decr a b d e =
    let H : Op → List ℕ → Type 0 = λ op. CanHit t op rest since in
    let Read : List ℕ → Type 0 = λ p. H Get p ⊎ H Gets p in
    let Adjusted : List ℕ → Type 0 = λ p. H Incr p ⊎ H Decr p in
    merged_leaves t Read Adjusted (IsReadableAt t rest since) (by-reading t rest since) (by-adjusting t rest since)
    (λ p h. one_of_four (λ op. H op p) h.0 h.1 (h.2, h.3)) (merge get gets) (merge incr decr)
    (merged_leaves t (H Get) (H Gets) Read (λ p h. inl h) (λ p h. inr h) (λ p h. h) get gets a b)
    (merged_leaves t (H Incr) (H Decr) Adjusted (λ p h. inl h) (λ p h. inr h) (λ p h. h) incr decr d e)

readable-leaves : (t : Tree) (rest : List ℕ) (since : Option ℕ) → (ls : List LegValue) × AreLeavesAt t (IsReadableAt t rest since) ls
readable-leaves t rest since =
    let by : Op → List LegValue = λ op. leaves (hits (plan t (asked op rest since))) in (
      merge (merge (by Get) (by Gets)) (merge (by Incr) (by Decr)),
      readable_by_four t rest since (by Get) (by Gets) (by Incr) (by Decr) (hit-leaves t Get rest since) (hit-leaves t Gets rest since) (hit-leaves t Incr rest since) (hit-leaves t Decr rest since),
    )

can-or-never : (t : Tree) (rest : List ℕ) (since : Option ℕ) (x : Outcome) → if_all Good (plan t (asked Delete rest since)) ≡ x → (can : Bool) × ((can ≡ false) ↔ IsNeverAcknowledged t rest since)
can-or-never t rest since Good e = (true, (λ f. absurd cc, λ never. absurd (never any ((done_is_exact t rest since any).1 (λ f. let g : Good ≡ Error = sym e ∙ f in cc)))))
can-or-never t rest since Soft e = (true, (λ f. absurd cc, λ never. absurd (never any ((done_is_exact t rest since any).1 (λ f. let g : Soft ≡ Error = sym e ∙ f in cc)))))
can-or-never t rest since Error e = (false, (λ f c can. (done_is_exact t rest since c).0 can e, λ never. refl))

-- ---- the blocks

pub block_exists : (r : RoutesValue) (s : ClassInEras) → IsClassInEras r s → (b : BlockValue) × IsBlockFor r s b
block_exists r s is = by s.class.class.member refl is.0.listed.member is.0.listed.some
  where
    by : (m : Option (List ℕ)) → s.class.class.member ≡ m → IsMember (class_words is.0.entry.tree) s.class.class.word s.class.class.member → IsSome s.class.class.member → (b : BlockValue) × IsBlockFor r s b
    by None e member some = absurd (false≢true (subst IsSome e some))
    by (Some m) e member some =
        let t = is.0.entry.tree in
        let readable = readable-leaves t m is.1.1 in
        let can = can-or-never t m is.1.0 (if_all Good (plan t (asked Delete m is.1.0))) refl in
        let b : BlockValue =
        record {
          spot = spot_of s;
          readable = readable.0;
          acknowledged = leaves (acknowledged (plan t (asked Delete m is.1.0)));
          can_be_acknowledged = can.0;
        } in (
          b,
          record {
            spot = refl;
            is = record {
              tree = t;
              member = m;
              since = is.1.0;
              read = is.1.1;
              spot = record { entry = is.0.entry; numbered = is.0.numbered; has_tree = refl; listed = is.0.listed.word; has_member = subst (IsMember (class_words t) s.class.class.word) e member; opened = is.1.2; read_opened = is.1.3; near = is.1.4 };
              has = record { readable = readable.1; acknowledged = acknowledged-leaves t m is.1.0; never = can.1 };
            };
          },
        )

pub blocks_exist : (r : RoutesValue) (ss : List ClassInEras) → AreClassesInEras r ss → (bs : List BlockValue) × AllZip (IsBlockFor r) ss bs
blocks_exist r [] h = ([], tt)
blocks_exist r (s ∷ ss) h =
    let first = block_exists r s h.0 in
    let rest = blocks_exist r ss h.2 in
    (first.0 ∷ rest.0, (first.1, rest.1))
