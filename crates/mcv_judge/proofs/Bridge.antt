-- What the walk answers, said of blocks: the faults of the definitions are those that it goes by.
use Rattle.std.proofs.Common.{◌≡◌, ◌+◌, ◌<◌, ℕ, Bool, true, false, nat_eq, List, [], ◌∷◌, ◌++◌, length, map, get_or, drop, drop-cons, add-one, Option, Some, None, Result, Ok, Err, inl, inr, refl, sym, ap, ◌∙◌, subst, arith}
use Rattle.std.specs.Prelude.{flat_map, IfOk, IfErr, MatchResult}
use Rattle.std.specs.Borrow.{Bor}
use Rattle.std.specs.Option.{option_map}
use Rattle.std.specs.Ordering.{is_eq}
use Rattle.std.proofs.lemmas.Bool.{cases_Bool, le-leb, eqb-true}
use Rattle.std.proofs.lemmas.List.{drop-map}
use Rattle.mcv_cert.specs.Pair.{PlaceValue, PairValue, AreRising, pair_of, place_cmp}
use Rattle.mcv_cert.proofs.Rising.{places_total}
use Rattle.mcv_judge.specs.Reason.{BlockValue}
use Rattle.mcv_judge.specs.Faults.{Required, AreInOrder, HaveSameFaults, IsFaultless, IsFirstFault, IsInOrder, fault_at, fault_there, required_at, required_by, is_answered_whole, pair_at, place_required}
use Rattle.mcv_judge.specs.PairsInMemory.{block_of, pairs_of}
use Rattle.mcv_judge.specs.Walk.{entries, entry_from, fault_in, walk, walked}
use Rattle.mcv_judge.specs.Reason.{unless}
use Rattle.mcv_judge.specs.declared.fault.PairFault.{PairFault}
use Rattle.mcv_judge.specs.declared.fault.PairFault.TheVariants.{Stray}
use Rattle.mcv_cert.specs.declared.pair.Pair.{Pair}
use Rattle.mcv_judge.specs.declared.block.Block.{Block}
use Rattle.mcv_judge.proofs.FaultAtPlace.{Judges, IsFirst, AreEntriesRising, entry_at, fault_beside, fault_from}
use Rattle.mcv_judge.proofs.Order.{all_rise, one_rises, ascending, rising, entries_both, in_order_from}
use Rattle.mcv_judge.proofs.FirstFault.{judges, end_stray}

entry_of_required : (os : List Required) (s : PlaceValue) → entry_at (entries os) s ≡ option_map (entry_from 0) (required_at os s)
entry_of_required [] s = refl
entry_of_required (o ∷ os) s = elim (cases_Bool (is_eq (place_cmp (place_required o) s))) [
  | inl h ↦ rw h refl
  | inr h ↦ rw h (entry_of_required os s)
]

-- before any pair all indexes are open
all_open : (o : Option Required) (r : Option PairValue) (whole : Bool) (i : ℕ) → fault_beside (option_map (entry_from 0) o) r whole i ≡ fault_there o r whole i
all_open None None whole i = refl
all_open None (Some r) whole i = refl
all_open (Some o) None whole i = rw (le-leb 0 i (omega arith)) refl
all_open (Some o) (Some r) whole i = rw (le-leb 0 i (omega arith)) refl

pub of_blocks : (pairs : List PairValue) (blocks : List BlockValue) (s : PlaceValue) (i : ℕ) → fault_from pairs (entries (flat_map required_by blocks)) s i ≡ fault_at pairs blocks s i
of_blocks pairs blocks s i =
    ap (λ e. fault_beside e (pair_at pairs s i) (is_answered_whole pairs s) i) (entry_of_required (flat_map required_by blocks) s)
    ∙ all_open (required_at (flat_map required_by blocks) s) (pair_at pairs s i) (is_answered_whole pairs s) i

first_of_blocks : (pairs : List PairValue) (blocks : List BlockValue) (f : PairFault) → IsFirst pairs (entries (flat_map required_by blocks)) f → IsFirstFault pairs blocks f
first_of_blocks pairs blocks f h = (h.0, h.1, sym (of_blocks pairs blocks h.0 h.1) ∙ h.2, λ t j l. sym (of_blocks pairs blocks t j) ∙ h.3 t j l)

-- ---- one block

module _ (b : BlockValue) (later : List BlockValue) (pairs : List PairValue) where
  parted : entries (flat_map required_by (b ∷ later)) ≡ entries (required_by b) ++ entries (flat_map required_by later)
  parted = entries_both (required_by b) (flat_map required_by later)

  judged : AreInOrder (b ∷ later) → AreRising pairs → (x : Result (List PairValue) PairFault) → x ≡ walk pairs (entries (required_by b)) → Judges pairs (entries (required_by b)) (entries (flat_map required_by later)) x
  judged order up x is =
      subst (Judges pairs (entries (required_by b)) (entries (flat_map required_by later))) (sym is)
      (judges places_total pairs (entries (required_by b)) (entries (flat_map required_by later)) (ascending pairs up) (subst AreEntriesRising parted (all_rise (b ∷ later) order)))

  pub left : AreInOrder (b ∷ later) → AreRising pairs → (x : Result (Bor (List Pair)) PairFault) → walked x ≡ walk pairs (entries (required_by b)) → IfOk x (λ rest. HaveSameFaults pairs (b ∷ later) (pairs_of rest.now) later)
  left order up (Ok rest) is = λ s i.
      sym (of_blocks pairs (b ∷ later) s i)
      ∙ ap (λ es. fault_from pairs es s i) parted
      ∙ (judged order up (Ok (pairs_of rest.now)) is).1 s i
      ∙ of_blocks (pairs_of rest.now) later s i
  left order up (Err f) is = tt

  pub first : AreInOrder (b ∷ later) → AreRising pairs → (x : Result (Bor (List Pair)) PairFault) → walked x ≡ walk pairs (entries (required_by b)) → IfErr x (λ f. IsFirstFault pairs (b ∷ later) f)
  first order up (Ok rest) is = tt
  first order up (Err f) is = first_of_blocks pairs (b ∷ later) f (subst (λ es. IsFirst pairs es f) (sym parted) (judged order up (Err f) is))

pub left_rise : (b : BlockValue) (pairs : List PairValue) → IsInOrder b → AreRising pairs → (x : Result (Bor (List Pair)) PairFault) → walked x ≡ walk pairs (entries (required_by b)) → IfOk x (λ rest. AreRising (pairs_of rest.now))
left_rise b pairs order up (Ok rest) is =
    let all = judges places_total pairs (entries (required_by b)) [] (ascending pairs up) (one_rises b order) in
    rising (pairs_of rest.now) (subst (Judges pairs (entries (required_by b)) []) (sym is) all).0
left_rise b pairs order up (Err f) is = tt

-- ---- no block

none_left : IsFaultless [] []
none_left s i = refl

some_left : (r : PairValue) (pairs : List PairValue) → AreRising (r ∷ pairs) → IsFirstFault (r ∷ pairs) [] Stray
some_left r pairs up = first_of_blocks (r ∷ pairs) [] Stray (end_stray places_total r pairs (ascending (r ∷ pairs) up))

pub ended : (pairs : List Pair) → AreRising (pairs_of pairs) → (empty : Bool) → empty ≡ nat_eq (length pairs) 0 → (x : Result (Unit {0}) PairFault) → fault_in x ≡ unless empty Stray → MatchResult x (λ _. IsFaultless (pairs_of pairs) []) (λ f. IsFirstFault (pairs_of pairs) [] f)
ended [] up empty is (Ok u) reported = none_left
ended [] up true is (Err f) reported = absurd cc
ended [] up false is (Err f) reported = absurd cc
ended (r ∷ pairs) up true is x reported = let none = eqb-true (length (r ∷ pairs)) 0 (sym is) in absurd (omega arith)
ended (r ∷ pairs) up false is (Ok u) reported = absurd cc
ended (r ∷ pairs) up false is (Err f) reported = let stray : f ≡ Stray = cc in rw stray (some_left (pair_of r) (pairs_of pairs) up)

-- ---- all blocks

pub next_block : (blocks : List Block) (n : ℕ) (b : Block) → n < length blocks → b ≡ get_or blocks n b → map block_of (drop n blocks) ≡ block_of b ∷ map block_of (drop (n + 1) blocks)
next_block blocks n b l is = rw (add-one, drop-cons blocks n b, ← is) refl

-- the blocks from one on are in order
pub still_in_order : (blocks : List Block) (n : ℕ) → AreInOrder (map block_of blocks) → AreInOrder (map block_of (drop n blocks))
still_in_order blocks n h = subst AreInOrder (drop-map block_of n blocks) (in_order_from n (map block_of blocks) h)

pub carried : (pairs rest : List PairValue) (blocks later : List BlockValue) (f : PairFault) → HaveSameFaults pairs blocks rest later → IsFirstFault rest later f → IsFirstFault pairs blocks f
carried pairs rest blocks later f same h = (h.0, h.1, same h.0 h.1 ∙ h.2, λ t j l. same t j ∙ h.3 t j l)

pub next_same : (all pairs rest : List PairValue) (blocks left later : List BlockValue) (b : BlockValue) → HaveSameFaults all blocks pairs left → left ≡ b ∷ later → HaveSameFaults pairs (b ∷ later) rest later → HaveSameFaults all blocks rest later
next_same all pairs rest blocks left later b before is now = λ s i. before s i ∙ ap (λ bs. fault_at pairs bs s i) is ∙ now s i

pub next_first : (all pairs : List PairValue) (blocks left later : List BlockValue) (b : BlockValue) (f : PairFault) → HaveSameFaults all blocks pairs left → left ≡ b ∷ later → IsFirstFault pairs (b ∷ later) f → IsFirstFault all blocks f
next_first all pairs blocks left later b f before is now = carried all pairs blocks left f before (subst (λ bs. IsFirstFault pairs bs f) (sym is) now)
