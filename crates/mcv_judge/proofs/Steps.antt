-- The walk, a pair or a leaf at a time.
use Rattle.std.proofs.Common.{◌≡◌, ◌+◌, ◌<◌, ℕ, suc, List, [], ◌∷◌, ◌++◌, length, map, get_or, drop, drop-cons, nat_lt, Option, Some, None, Result, Ok, Err, inl, inr, ap, refl, sym, ◌∙◌, subst, add-one}
use Rattle.std.specs.Borrow.{Bor}
use Rattle.std.specs.Prelude.{All}
use Rattle.std.proofs.Math.ListN.{get_or-map}
use Rattle.std.proofs.lemmas.List.{length-map}
use Rattle.std.proofs.lemmas.Bool.{cases_Bool, lt-ltb}
use Rattle.std.specs.declared.cmp.Ordering.{Ordering}
use Rattle.std.specs.declared.cmp.Ordering.TheVariants.{Less, Equal, Greater}
use Rattle.mcv_cert.specs.Pair.{PairValue, ReasonValue, index_of, index_cmp}
use Rattle.mcv_judge.specs.Reason.{BlockValue, is_whole}
use Rattle.mcv_judge.specs.Faults.{require}
use Rattle.mcv_judge.specs.PairsInMemory.{leg_of, legs_of, pairs_of}
use Rattle.mcv_judge.specs.Walk.{Entry, after, entries, entries_left, or_else, walk, walked}
use Rattle.mcv_judge.specs.declared.block.Leg.{Leg}
use Rattle.mcv_cert.specs.declared.pair.Pair.{Pair}
use Rattle.mcv_judge.specs.declared.fault.PairFault.{PairFault}
use Rattle.mcv_judge.specs.declared.fault.PairFault.TheVariants.{Missing, Stray}

-- one step, by how the pair compares with the entry
abbrev pub by : PairValue → List PairValue → Entry → List Entry → Ordering → Result (List PairValue) PairFault
by r pairs e es x = elim x [ Less ↦ Err Stray | Equal ↦ or_else (e.judge r.reason) (walk pairs (after r.reason e es)) | Greater ↦ Err Missing ]

-- ---- leaf by leaf

-- what is left goes to the next
abbrev onward : Result (List PairValue) PairFault → (List PairValue → Result (List PairValue) PairFault) → Result (List PairValue) PairFault
onward (Ok x) f = f x
onward (Err n) f = Err n

pub after_both : (r : ReasonValue) (e : Entry) (es fs : List Entry) → after r e (es ++ fs) ≡ after r e es ++ fs
after_both r e es fs = elim (cases_Bool (is_whole r)) [
  | inl w ↦ rw w refl
  | inr w ↦ elim (cases_Bool (nat_lt (suc e.from) e.size)) [ inl l ↦ rw (w, l) refl | inr l ↦ rw (w, l) refl ]
]

passed_on : (f : Option PairFault) (x : Result (List PairValue) PairFault) (next : List PairValue → Result (List PairValue) PairFault) → or_else f (onward x next) ≡ onward (or_else f x) next
passed_on None x next = refl
passed_on (Some n) x next = refl

walk_both : (pairs : List PairValue) (es fs : List Entry) → walk pairs (es ++ fs) ≡ onward (walk pairs es) (λ rest. walk rest fs)
walk_both [] [] fs = refl
walk_both (r ∷ pairs) [] fs = refl
walk_both [] (e ∷ es) fs = refl
walk_both (r ∷ pairs) (e ∷ es) fs = turn (index_cmp r.place (index_of r.reason) e.place e.from) (walk_both pairs (after r.reason e es) fs)
  where
    turn : (c : Ordering) → walk pairs (after r.reason e es ++ fs) ≡ onward (walk pairs (after r.reason e es)) (λ rest. walk rest fs) → by r pairs e (es ++ fs) c ≡ onward (by r pairs e es c) (λ rest. walk rest fs)
    turn Less h = refl
    turn Equal h = ap (λ x. or_else (e.judge r.reason) (walk pairs x)) (after_both r.reason e es fs) ∙ ap (or_else (e.judge r.reason)) h ∙ passed_on (e.judge r.reason) (walk pairs (after r.reason e es)) (λ rest. walk rest fs)
    turn Greater h = refl

-- the first leaf and those behind it
next_leaves : (b : BlockValue) (leaves : List Leg) (n : ℕ) (leaf : Leg) → n < length leaves → leaf ≡ get_or leaves n leaf → 0 < length (leg_of leaf).servers →
    entries (map (require b) (legs_of (drop n leaves))) ≡ entries_left 0 (require b (leg_of leaf)) ++ entries (map (require b) (legs_of (drop (n + 1) leaves)))
next_leaves b leaves n leaf l is some = rw (add-one, drop-cons leaves n leaf, ← is, lt-ltb 0 (length (leg_of leaf).servers) some) refl

module _ (b : BlockValue) (leaves : List Leg) (n : ℕ) (leaf : Leg) (l : n < length leaves) (is : leaf ≡ get_or leaves n leaf) (some : 0 < length (leg_of leaf).servers) (pairs : List PairValue) where
  walks : (x : Result (Bor (List Pair)) PairFault) → walked x ≡ walk pairs (entries_left 0 (require b (leg_of leaf))) →
      walk pairs (entries (map (require b) (legs_of (drop n leaves)))) ≡ onward (walked x) (λ rest. walk rest (entries (map (require b) (legs_of (drop (n + 1) leaves)))))
  walks x e =
      ap (walk pairs) (next_leaves b leaves n leaf l is some)
      ∙ walk_both pairs (entries_left 0 (require b (leg_of leaf))) (entries (map (require b) (legs_of (drop (n + 1) leaves))))
      ∙ ap (λ y. onward y (λ rest. walk rest (entries (map (require b) (legs_of (drop (n + 1) leaves)))))) (sym e)

  pub leaf_passed : (rest : Bor (List Pair)) → walked (Ok rest) ≡ walk pairs (entries_left 0 (require b (leg_of leaf))) → walk pairs (entries (map (require b) (legs_of (drop n leaves)))) ≡ walk (pairs_of rest.now) (entries (map (require b) (legs_of (drop (n + 1) leaves))))
  leaf_passed rest e = walks (Ok rest) e

  pub leaf_wrong : (f : PairFault) → walked (Err f) ≡ walk pairs (entries_left 0 (require b (leg_of leaf))) → walk pairs (entries (map (require b) (legs_of (drop n leaves)))) ≡ Err f
  leaf_wrong f e = walks (Err f) e

-- a leaf of those that have a server
pub some_server : (leaves : List Leg) (n : ℕ) (leaf : Leg) → n < length leaves → leaf ≡ get_or leaves n leaf → All (λ l. 0 < length l.servers) (legs_of leaves) → 0 < length (leg_of leaf).servers
some_server leaves n leaf l is every =
    let here = every n (leg_of leaf) (subst (λ k. n < k) (sym (length-map leaves leg_of)) l) in
    subst (λ d. 0 < length d.servers) (get_or-map leg_of leaves n leaf ∙ ap leg_of (sym is)) here
