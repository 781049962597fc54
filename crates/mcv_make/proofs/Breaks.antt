-- What is built of a gap breaks coverage.
use Rattle.std.proofs.Common.{◌≡◌, ◌≢◌, inl, inr, ℕ, zero, suc, ◌<◌, ◌+◌, Bool, true, false, List, [], ◌∷◌, length, map, Option, Some, nat_eq, refl, sym, ap, ◌∙◌, subst, arith, true≢false}
use Rattle.std.specs.Prelude.{slice_get, slice_index}
use Rattle.std.specs.List.{All, Contains, list_any}
use Rattle.std.proofs.lemmas.Bool.{and_from, cases_Bool, cases_eq, eq-eqb, false≢true}
use Rattle.std.proofs.lemmas.List.{length-map}
use Rattle.std.proofs.lemmas.List.Elements.{All-contains, Contains-append_right}
use Rattle.std.proofs.lemmas.Option.{same_Some, slice_get-get_or}
use Rattle.std.proofs.lemmas.Map.Keys.{any_passes_from_place}
use Rattle.mcv_base.specs.declared.operation.Op.TheVariants.{Delete}
use Rattle.mcv_base.specs.declared.reply.Outcome.TheVariants.{Good, Error}
use Rattle.mcv_pools.specs.Symbol.{SymbolValue}
use Rattle.mcv_route.specs.Outcomes.{Choice, IsChoice, outcomes}
use Rattle.mcv_route.specs.Places.{pool_at_position}
use Rattle.mcv_route.specs.Situation.{asked}
use Rattle.mcv_route.specs.Tree.{Pool, Tree}
use Rattle.mcv_route.specs.Verdict.{IsSent}
use Rattle.mcv_rules.specs.Plan.{Leg}
use Rattle.mcv_rules.specs.Plans.{plan}
use Rattle.mcv_rules.specs.declared.plan.PlannedLeg.{PlannedLeg}
use Rattle.mcv_symbolic.specs.LegInMemory.{pool_of}
use Rattle.mcv_symbolic.specs.JustifiedRoutes.{IsNeverAcknowledged}
use Rattle.mcv_symbolic.specs.Sets.{AreLegsAt, IsAcknowledged, positions_of}
use Rattle.mcv_symbolic.specs.Structure.{if_all, Acknowledged}
use Rattle.mcv_symbolic.proofs.Exactness.{acknowledged_is_exact, done_is_exact}
use Rattle.mcv_symbolic.proofs.PoolOfLeg.{acknowledged_are_there, leaf_of}
use Rattle.mcv_judge.specs.Reason.{BlockValue, HasReason, LegValue, has_server, is_same_server, server_at}
use Rattle.mcv_blocks.specs.Blocks.{IsAcknowledgedAt, IsBlockAt, pool_for}
use Rattle.mcv_blocks.proofs.CoveredHasReasons.{reason_by_leg, reason_by_none, reason_by_symbol}
use Rattle.mcv_blocks.proofs.PoolSizes.{AreSized}
use Rattle.mcv_blocks.proofs.Searches.{from_map, into_map}
use Rattle.mcv_blocks.proofs.OneListOfBlocks.{leg_there, pool_of_leg}
use Rattle.mcv_make.specs.FreeIndexes.{free_index, free_indexes, is_taken, least_free, takes}
use Rattle.mcv_symbolic.specs.ShownAnswers.{answers}
use Rattle.mcv_make.proofs.LeastIndexes.{found-free, free-or-full, index-at, other-index, own-index}
use Rattle.mcv_make.proofs.DeleteOutcomes

-- ---- what is taken

any-passes : {A : Type 0} (p : A → Bool) (xs : List A) → list_any p xs ≡ true → (x : A) × Contains xs x × (p x ≡ true)
any-passes p [] e = absurd (false≢true e)
any-passes p (x ∷ xs) e =
    elim (cases_Bool (p x)) [
      | inl is ↦ (x, (0, omega arith, refl), is)
      | inr isnt ↦ let later : list_any p xs ≡ true = rw isnt at e in let y = any-passes p xs later in (y.0, Contains-append_right (x ∷ []) xs y.0 y.1, y.2)
    ]

passes-any : {A : Type 0} (p : A → Bool) (xs : List A) (x : A) → Contains xs x → p x ≡ true → list_any p xs ≡ true
passes-any p xs x at e = any_passes_from_place p xs at.0 x (slice_get-get_or xs at.0 x at.1 ∙ ap Some at.2) e

symbol-at : (symbols : List SymbolValue) (s : ℕ) → s < length symbols → (y : SymbolValue) × (slice_get symbols s ≡ Some y) × (slice_index (map (λ (z : SymbolValue). z.n) symbols) s ≡ y.n)
symbol-at [] s low = absurd (omega (arith, low))
symbol-at (y ∷ ys) zero low = (y, refl, refl)
symbol-at (y ∷ ys) (suc s) low = symbol-at ys s (omega (arith, low))

zero-plus : (s : ℕ) → 0 + s ≡ s
zero-plus s = omega arith

module _ (sizes : List ℕ) (t : Tree) (rest : List ℕ) (since read : Option ℕ) (positive : All (λ n. 0 < n) sizes) (sized : AreSized sizes t) (b : BlockValue) (block : IsBlockAt t rest since read b) (leaf : LegValue) (i x : ℕ) (has : server_at leaf i ≡ Some x)
    (unanswered : HasReason b leaf i → ⊥) (legs : List PlannedLeg) (are : (c : Choice) → AreLegsAt t (IsAcknowledged t rest since c) legs) where
  any_choice : Choice
  any_choice s = 0

  -- a leg of the block for one of the legs
  in-block : (l : PlannedLeg) → Contains legs l → (d : LegValue) × Contains b.acknowledged d × (pool_for d ≡ pool_of l)
  in-block l at =
      let acknowledged : IsAcknowledgedAt t rest since l.position = λ c. All-contains (IsAcknowledged t rest since c) (positions_of legs) l.position (are c).only (into_map (λ (m : PlannedLeg). m.position) legs l at) in
      let d = leg_there t (IsAcknowledgedAt t rest since) b.acknowledged block.acknowledged l.position acknowledged in
      let pool_there = pool_of_leg t (IsAcknowledgedAt t rest since) b.acknowledged block.acknowledged d.0 d.1 in
      let own = All-contains (λ (m : PlannedLeg). pool_at_position t m.position ≡ Some (pool_of m)) legs l (are any_choice).pools at in
      (d.0, d.1, same_Some (pool_for d.0) (pool_of l) (sym pool_there ∙ ap (pool_at_position t) d.2 ∙ own))

  taken-there : (s j : ℕ) → is_taken legs x s j ≡ true → (d : LegValue) × Contains b.acknowledged d × (has_server s (server_at leaf i) j d ≡ true)
  taken-there s j e =
      let l = any-passes (takes x s j) legs e in
      let d = in-block l.0 l.1 in
      let same : has_server s (Some x) j d.0 ≡ takes x s j l.0 = ap (λ (m : Pool). has_server s (Some x) j (record { position = []; symbol = m.symbol; servers = m.servers })) d.2 in
      (d.0, d.1, ap (λ o. has_server s o j d.0) has ∙ same ∙ l.2)

  own-free : is_taken legs x leaf.symbol i ≡ false
  own-free =
      elim (cases_Bool (is_taken legs x leaf.symbol i)) [
        | inl is ↦ let d = taken-there leaf.symbol i is in absurd (unanswered (reason_by_leg sizes t rest since read positive sized b block leaf i d.0 d.1 d.2))
        | inr isnt ↦ isnt
      ]

  some-free : (s : ℕ) → s < length sizes → (j : ℕ) × (j < slice_index sizes s) × (is_taken legs x s j ≡ false)
  some-free s within =
      elim (free-or-full (is_taken legs x s) (slice_index sizes s)) [
        | inl free ↦ free
        | inr full ↦ absurd (unanswered (reason_by_symbol sizes t rest since read positive sized b block leaf i s within (λ j low. taken-there s j (full j low))))
      ]

  pub can : if_all Good (plan t (asked Delete rest since)) ≢ Error
  can e =
      let never : IsNeverAcknowledged t rest since = λ c h. (done_is_exact t rest since c).0 h e in
      unanswered (reason_by_none b leaf i (block.never.1 never))

  -- ---- the choice

  module _ (symbols : List SymbolValue) (counts : sizes ≡ map (λ (s : SymbolValue). s.n) symbols) (own : leaf.symbol < length sizes) (low : i < slice_index sizes leaf.symbol) where
    abbrev chosen : Choice
    chosen = slice_index (free_indexes legs x leaf.symbol i 0 symbols)

    symbol-of : (s : ℕ) → s < length sizes → (y : SymbolValue) × (slice_get symbols s ≡ Some y) × (slice_index sizes s ≡ y.n)
    symbol-of s within =
        let count : length sizes ≡ length symbols = ap length counts ∙ length-map symbols (λ (y : SymbolValue). y.n) in
        let k = symbol-at symbols s (omega (arith, within, count)) in
        (k.0, k.1, ap (λ (ns : List ℕ). slice_index ns s) counts ∙ k.2)

    index-of : (s : ℕ) (y : SymbolValue) → slice_get symbols s ≡ Some y → chosen s ≡ free_index legs x leaf.symbol i s y.n
    index-of s y e = index-at legs x leaf.symbol i 0 symbols s y e ∙ ap (λ k. free_index legs x leaf.symbol i k y.n) (zero-plus s)

    -- below the symbol's number of servers, and not taken
    right : (s : ℕ) → s < length sizes → (chosen s < slice_index sizes s) × (is_taken legs x s (chosen s) ≡ false)
    right s within =
        let k = symbol-of s within in
        let is = index-of s k.0 k.1 in
        elim (cases_eq s leaf.symbol) [
          | inl e ↦
              let at : i ≡ chosen s = sym (is ∙ own-index legs x leaf.symbol i s k.0.n e) in
              subst (λ j. (j < slice_index sizes s) × (is_taken legs x s j ≡ false)) at (subst (λ z. (i < slice_index sizes z) × (is_taken legs x z i ≡ false)) (sym e) (low, own-free))
          | inr ne ↦
              let at : least_free (is_taken legs x s) 0 k.0.n ≡ chosen s = sym (is ∙ other-index legs x leaf.symbol i s k.0.n ne) in
              let free = some-free s within in
              let found = found-free (is_taken legs x s) k.0.n 0 free.0 (omega arith) (omega (arith, free.1, k.2)) free.2 in
              subst (λ j. (j < slice_index sizes s) × (is_taken legs x s j ≡ false)) at (omega (arith, found.0, k.2), found.1)
        ]

    pub is-choice : IsChoice sizes chosen
    is-choice s within = (right s within).0

    pub own-at : chosen leaf.symbol ≡ i
    own-at = let k = symbol-of leaf.symbol own in index-of leaf.symbol k.0 k.1 ∙ own-index legs x leaf.symbol i leaf.symbol k.0.n refl

    -- the leg of the delete is one of the acknowledged legs
    in-legs : (l : Leg) → Acknowledged (plan t (asked Delete rest since)) l → (m : PlannedLeg) × Contains legs m × (pool_of m ≡ leaf_of l)
    in-legs l h =
        let pool_there = acknowledged_are_there t (asked Delete rest since) l refl h in
        let there = (are any_choice).all l.position ((acknowledged_is_exact t rest since any_choice l.position).1 (l, h, refl)) in
        let m = from_map (λ (k : PlannedLeg). k.position) legs l.position there in
        let pool = All-contains (λ (k : PlannedLeg). pool_at_position t k.position ≡ Some (pool_of k)) legs m.0 (are any_choice).pools m.1 in
        (m.0, m.1, same_Some (pool_of m.0) (leaf_of l) (sym pool ∙ ap (pool_at_position t) m.2 ∙ pool_there))

    -- no leg of the delete has been sent to the server
    pub unsent : IsSent t rest since chosen (outcomes (answers Good (plan t (asked Delete rest since)))) x → ⊥
    unsent h =
        let l = DeleteOutcomes.sent t rest since chosen x h in
        let pool_there = acknowledged_are_there t (asked Delete rest since) l.0 refl l.1 in
        let size = sized l.0.position (leaf_of l.0) pool_there in
        let r = right l.0.symbol size.0 in
        let m = in-legs l.0 l.1 in
        let there : slice_get l.0.servers (chosen l.0.symbol) ≡ Some x = slice_get-get_or l.0.servers (chosen l.0.symbol) 0 (omega (arith, r.0, size.1)) ∙ ap Some l.2 in
        let server : is_same_server (slice_get l.0.servers (chosen l.0.symbol)) (Some x) ≡ true = ap (λ o. is_same_server o (Some x)) there ∙ eq-eqb x x refl in
        let own : has_server l.0.symbol (Some x) (chosen l.0.symbol) (record { position = []; symbol = l.0.symbol; servers = l.0.servers }) ≡ true =
        and_from (nat_eq l.0.symbol l.0.symbol) (is_same_server (slice_get l.0.servers (chosen l.0.symbol)) (Some x)) (eq-eqb l.0.symbol l.0.symbol refl) server in
        let passes : takes x l.0.symbol (chosen l.0.symbol) m.0 ≡ true = ap (λ (p : Pool). has_server l.0.symbol (Some x) (chosen l.0.symbol) (record { position = []; symbol = p.symbol; servers = p.servers })) m.2 ∙ own in
        true≢false (sym (passes-any (takes x l.0.symbol (chosen l.0.symbol)) legs m.0 m.1 passes) ∙ r.1)
