-- Which of the legs that are missing are needed.
use Rattle.std.proofs.Common.{◌≡◌, ◌<◌, ◌≤◌, ◌+◌, ◌⊎◌, inl, inr, ⊎_elim, ℕ, zero, suc, List, [], ◌∷◌, ◌++◌, drop, drop-cons, add-one, length, get_or, map, Option, Some, None, refl, sym, ap, ◌∙◌, subst, append-nil, arith}
use Rattle.std.specs.Prelude.{remove, slice_get, slice_index}
use Rattle.std.specs.BTreeMap.{BTreeMap, get}
use Rattle.std.specs.List.{All, Contains}
use Rattle.std.specs.List.Sorted.{IsPermutation}
use Rattle.std.specs.Option.{option_map}
use Rattle.std.proofs.lemmas.List.Sorted.{Contains-permutation}
use Rattle.mcv_gaps.proofs.Mapped.{from, mapped}
use Rattle.std.specs.Ordering.{nat_cmp}
use Rattle.std.proofs.lemmas.Bool.{cases_eq}
use Rattle.std.proofs.lemmas.List.{get_or_default}
use Rattle.std.proofs.lemmas.List.Elements.{All-append, All-contains, All-cons, All-head, All-nil, All-tail, Contains-append_cases, Contains-append_left, Contains-append_right, Contains-get_or, Contains-push_cases}
use Rattle.std.proofs.lemmas.Option.{slice_get-get_or, slice_get-map, slice_get_read, slice_get_within, get_or_from_slice_get}
use Rattle.mcv_judge.specs.Reason.{LegValue}
use Rattle.mcv_picks.specs.Reasons.{AreSized}
use Rattle.mcv_gaps.specs.Gaps.{AreAllSizedBy, AreLeastFor, AreSizedBy, HasServerAt, HaveGap, IsAnsweredBy, WantedValue}
use Rattle.mcv_gaps.specs.Least.{AreEnough, AreKept, AreOwners, HasIt, HasTwin, IsMissingOf, IsSole, Owns, leg_missing, legs_missing}
use Rattle.mcv_gaps.specs.declared.missing.Missing.{Missing}
use Rattle.mcv_gaps.proofs.Answering.{twin_answers}
use Rattle.mcv_gaps.proofs.GapsOfLists.{fewer_gap, fewer_miss}
use Rattle.mcv_gaps.proofs.LeastLegs.{IsPartly, begun, keeps, leaves_out}
use Rattle.mcv_gaps.proofs.Sized.{leaf_sized, with_more}

-- what holds of each member holds of all
pub of_each : {A : Type 0} (P : A → Type 0) (xs : List A) → ((x : A) → Contains xs x → P x) → All P xs
of_each P xs f k d lt = f (get_or xs k d) (Contains-get_or xs k d lt)

-- a member of the back of a list
pub behind : {A B : Type 0} (f : A → B) (xs : List A) (n : ℕ) (d : B) → Contains (map f (drop n xs)) d → (k : ℕ) × (n ≤ k) × (slice_get (map f xs) k ≡ Some d)
behind f xs zero d at = (at.0, omega arith, slice_get-get_or (map f xs) at.0 d at.1 ∙ ap Some at.2)
behind f [] (suc n) d at = absurd (omega (arith, at.1))
behind f (x ∷ xs) (suc n) d at = let rest = behind f xs n d at in (suc rest.0, omega (arith, rest.1), rest.2)

-- an entry is a member
pub entry : {A : Type 0} (xs : List A) (k : ℕ) (x : A) → slice_get xs k ≡ Some x → Contains xs x
entry xs k x h = (k, slice_get_within xs k x h, get_or_from_slice_get xs k x x h)

module _ (sizes : List ℕ) (ws : List WantedValue) (sized : AreAllSizedBy sizes ws) where
  -- a leg that is missing has as many servers as its symbol has indexes
  own_size : (m : Missing) → IsMissingOf ws m → length (leg_missing m).servers ≡ slice_index sizes (leg_missing m).symbol
  own_size m h =
      All-contains (λ (d : LegValue). length d.servers ≡ slice_index sizes d.symbol) h.0.readable (leg_missing m) (All-contains (AreSizedBy sizes) ws h.0 sized h.1).readable h.2.read

  pub sized_missing : (ms : List Missing) → All (IsMissingOf ws) ms → AreSized sizes (legs_missing ms)
  sized_missing [] all = All-nil (λ (d : LegValue). length d.servers ≡ slice_index sizes d.symbol)
  sized_missing (m ∷ ms) all =
      All-cons (λ (d : LegValue). length d.servers ≡ slice_index sizes d.symbol) (leg_missing m) (legs_missing ms) (own_size m (All-head (IsMissingOf ws) m ms all)) (sized_missing ms (All-tail (IsMissingOf ws) m ms all))

  -- with a twin of each leaf that is missed there is no gap
  pub enough_all : (legs : List LegValue) → AreSized sizes legs → AreEnough sizes ws legs → HaveGap sizes ws legs → ⊥
  enough_all legs also enough g =
      let w : WantedValue = g.0 in
      let leaf : LegValue = g.2.0 in
      let fine = with_more sizes w legs (All-contains (AreSizedBy sizes) ws w sized g.1) also in
      let missed = fewer_miss sizes w.acknowledged (w.acknowledged ++ legs) leaf (λ d at. Contains-append_left w.acknowledged legs d at) g.2.2 in
      let t = enough w g.1 leaf g.2.1 missed in
      let twin : HasTwin (w.acknowledged ++ legs) leaf = record { twin = t.twin; listed = Contains-append_right w.acknowledged legs t.twin t.listed; symbol = t.symbol; servers = t.servers } in
      twin_answers sizes (w.acknowledged ++ legs) leaf (leaf_sized sizes w.readable (w.acknowledged ++ legs) fine leaf g.2.1) twin g.2.2

  module _ (ms : List Missing) (all : All (IsMissingOf ws) ms) (owners : BTreeMap ℕ (Option ℕ)) (are : AreOwners owners (legs_missing ms)) where
    -- legs that are all entries of other numbers
    abbrev pub AreOthers : ℕ → List LegValue → Type 0
    AreOthers n legs = (d : LegValue) → Contains legs d → (k : ℕ) × (k ≡ n → ⊥) × (slice_get (legs_missing ms) k ≡ Some d)

    pub sized_others : (n : ℕ) (legs : List LegValue) → AreOthers n legs → AreSized sizes legs
    sized_others n legs others =
        let P : LegValue → Type 0 = λ d. length d.servers ≡ slice_index sizes d.symbol in
        of_each P legs (λ d at. let o = others d at in All-contains P (legs_missing ms) d (sized_missing ms all) (entry (legs_missing ms) o.0 d o.2))

    module _ (n : ℕ) (m : Missing) (own : Contains ms m) (sole : IsSole owners n m.unsent.items) (others : List LegValue) (apart : AreOthers n others) where
      of : IsMissingOf ws m
      of = All-contains (IsMissingOf ws) ms m all own

      abbrev leaf : LegValue
      leaf = leg_missing m

      abbrev x : ℕ
      x = sole.0

      at : Contains leaf.servers x
      at = of.2.own x sole.1

      there : slice_index leaf.servers at.0 ≡ x
      there = get_or_default leaf.servers at.0 0 x at.1 ∙ at.2

      -- no leg has the server
      none_has : (d : LegValue) → Contains (of.0.acknowledged ++ others) d → Contains d.servers x → ⊥
      none_has d in_all has = ⊎_elim (λ h. of.2.alone x sole.1 d h has) (λ h. let o = apart d h in o.1 (owns o.0 (d, o.2, has))) (Contains-append_cases of.0.acknowledged others d in_all)
        where
          owns : (k : ℕ) → HasIt (legs_missing ms) x k → k ≡ n
          owns = let P : Option (Option ℕ) → Type 0 = Owns (HasIt (legs_missing ms) x) in subst P sole.2 (are x)

      fine : AreSizedBy sizes (record { readable = of.0.readable; acknowledged = of.0.acknowledged ++ others })
      fine = with_more sizes of.0 others (All-contains (AreSizedBy sizes) ws of.0 sized of.1) (sized_others n others apart)

      no_leg : (s j : ℕ) → j < slice_index sizes s → HasServerAt (of.0.acknowledged ++ others) s j (slice_index leaf.servers at.0) → ⊥
      no_leg s j lt has =
          let P : LegValue → Type 0 = λ d. length d.servers ≡ slice_index sizes d.symbol in
          let many : length has.leg.servers ≡ slice_index sizes s = All-contains P (of.0.acknowledged ++ others) has.leg (fine.acknowledged leaf of.2.read) has.listed ∙ ap (slice_index sizes) has.own in
          let low : j < length has.leg.servers = omega (arith, many, lt) in
          none_has has.leg has.listed (j, low, get_or_default has.leg.servers j x 0 low ∙ has.sends ∙ there)

      unanswered : IsAnsweredBy sizes (of.0.acknowledged ++ others) leaf at.0 → ⊥
      unanswered a = elim (cases_eq a.0 leaf.symbol) [
        | inl e ↦
            let many : length leaf.servers ≡ slice_index sizes a.0 = own_size m of ∙ ap (slice_index sizes) (sym e) in
            let low : at.0 < slice_index sizes a.0 = omega (arith, many, at.1) in
            no_leg a.0 at.0 low (a.2 at.0 low (λ _. refl))
        | inr other ↦
            let some : 0 < slice_index sizes a.0 = fine.some a.0 0 a.1 in
            no_leg a.0 0 some (a.2 0 some (λ e. absurd (other e)))
      ]

      -- it is needed where it alone has one of its servers to which nothing else is sent
      pub sole_needed : HaveGap sizes ws others
      sole_needed = (of.0, of.1, (leaf, of.2.read, (at.0, at.1, unanswered)))

-- behind the last one what is kept is least
pub ended : (sizes : List ℕ) (ws : List WantedValue) (kept : List LegValue) → IsPartly (HaveGap sizes ws) (fewer_gap sizes ws) kept [] → AreLeastFor sizes ws kept
ended sizes ws kept h = record {
  enough = λ g. h.enough (subst (HaveGap sizes ws) (sym (append-nil kept)) g);
  each = λ k lt. subst (HaveGap sizes ws) (append-nil (remove kept k)) (h.each k lt);
}

-- the legs beside one: those that are kept, and those behind it
pub beside_it : (ms : List Missing) (kept : List LegValue) (n : ℕ) → AreKept (legs_missing ms) n kept → (d : LegValue) → Contains (kept ++ legs_missing (drop (n + 1) ms)) d
    → (k : ℕ) × (k ≡ n → ⊥) × (slice_get (legs_missing ms) k ≡ Some d)
beside_it ms kept n are d at = ⊎_elim
    (λ h. let b = are d h in (b.0, λ e. absurd (omega (arith, b.1, e)), b.2))
    (λ h. let b = behind leg_missing ms (n + 1) d h in (b.0, λ e. absurd (omega (arith, b.1, e)), b.2))
    (Contains-append_cases kept (legs_missing (drop (n + 1) ms)) d at)

-- ---- one after another

-- what is kept is some of the legs so far, and with those behind there is no gap, but without any one that is kept
pub record IsSoFar (ws : List WantedValue) (ms : List Missing) (n : ℕ) (kept : List LegValue) : Type 0 where
  pub kept_are : AreKept (legs_missing ms) n kept
  pub partly : (sizes : List ℕ) → AreAllSizedBy sizes ws → AreEnough sizes ws (legs_missing ms) → IsPartly (HaveGap sizes ws) (fewer_gap sizes ws) kept (legs_missing (drop n ms))

pub so_far_none : (ws : List WantedValue) (ms : List Missing) → All (IsMissingOf ws) ms → IsSoFar ws ms 0 []
so_far_none ws ms all = record {
  kept_are = λ d at. absurd (omega (arith, at.1));
  partly = λ sizes sized enough. begun (HaveGap sizes ws) (fewer_gap sizes ws) (legs_missing ms) (enough_all sizes ws sized (legs_missing ms) (sized_missing sizes ws sized ms all) enough);
}

module _ (ws : List WantedValue) (ms : List Missing) (n : ℕ) (m : Missing) (kept : List LegValue) (lt : n < length ms) (is : m ≡ get_or ms n m) (far : IsSoFar ws ms n kept) where
  front : drop n ms ≡ m ∷ drop (n + 1) ms
  front = rw add-one (drop-cons ms n m lt ∙ ap (λ (x : Missing). x ∷ drop (suc n) ms) (sym is))

  one_there : slice_get (legs_missing ms) n ≡ Some (leg_missing m)
  one_there = slice_get-map leg_missing ms n ∙ ap (option_map leg_missing) (slice_get_read ms (length ms) n m refl lt is)

  before : (sizes : List ℕ) → AreAllSizedBy sizes ws → AreEnough sizes ws (legs_missing ms) → IsPartly (HaveGap sizes ws) (fewer_gap sizes ws) kept (leg_missing m ∷ legs_missing (drop (n + 1) ms))
  before sizes sized enough = subst (λ (xs : List Missing). IsPartly (HaveGap sizes ws) (fewer_gap sizes ws) kept (legs_missing xs)) front (far.partly sizes sized enough)

  -- the leg is needed
  pub so_far_kept : ((sizes : List ℕ) → AreAllSizedBy sizes ws → HaveGap sizes ws (kept ++ legs_missing (drop (n + 1) ms))) → IsSoFar ws ms (n + 1) (kept ++ leg_missing m ∷ [])
  so_far_kept gap = record {
    kept_are = λ d at. ⊎_elim
        (λ h. let b = far.kept_are d h in (b.0, omega (arith, b.1), b.2))
        (λ e. (n, omega arith, one_there ∙ ap Some e))
        (Contains-push_cases kept (leg_missing m) d at);
    partly = λ sizes sized enough. keeps (HaveGap sizes ws) (fewer_gap sizes ws) kept (leg_missing m) (legs_missing (drop (n + 1) ms)) (before sizes sized enough) (gap sizes sized);
  }

  -- it isn't
  pub so_far_left : ((sizes : List ℕ) → AreAllSizedBy sizes ws → HaveGap sizes ws (kept ++ legs_missing (drop (n + 1) ms)) → ⊥) → IsSoFar ws ms (n + 1) kept
  so_far_left none = record {
    kept_are = λ d at. let b = far.kept_are d at in (b.0, omega (arith, b.1), b.2);
    partly = λ sizes sized enough. leaves_out (HaveGap sizes ws) (fewer_gap sizes ws) kept (leg_missing m) (legs_missing (drop (n + 1) ms)) (before sizes sized enough) (none sizes sized);
  }

drop_none : {A : Type 0} (xs : List A) (n : ℕ) → length xs ≤ n → drop n xs ≡ []
drop_none [] zero le = refl
drop_none [] (suc n) le = refl
drop_none (x ∷ xs) zero le = absurd (omega (arith, le))
drop_none (x ∷ xs) (suc n) le = drop_none xs n (omega (arith, le))

pub so_far_all : (ws : List WantedValue) (ms : List Missing) (n : ℕ) (kept : List LegValue) → length ms ≤ n → IsSoFar ws ms n kept → (sizes : List ℕ) → AreAllSizedBy sizes ws → AreEnough sizes ws (legs_missing ms) → AreLeastFor sizes ws kept
so_far_all ws ms n kept past far sizes sized enough =
    ended sizes ws kept (subst (λ (xs : List Missing). IsPartly (HaveGap sizes ws) (fewer_gap sizes ws) kept (legs_missing xs)) (drop_none ms n past) (far.partly sizes sized enough))

-- in another order they are enough too
pub enough_sorted : (sizes : List ℕ) (ws : List WantedValue) (xs ys : List Missing) → IsPermutation xs ys → AreEnough sizes ws (legs_missing xs) → AreEnough sizes ws (legs_missing ys)
enough_sorted sizes ws xs ys moved enough w at leaf read missed =
    let t = enough w at leaf read missed in
    let m = from leg_missing xs t.twin t.listed in
    let there = mapped leg_missing ys m.0 (Contains-permutation xs ys m.0 moved m.1) in
    record { twin = leg_missing m.0; listed = there; symbol = ap (λ (d : LegValue). d.symbol) m.2 ∙ t.symbol; servers = ap (λ (d : LegValue). d.servers) m.2 ∙ t.servers }
