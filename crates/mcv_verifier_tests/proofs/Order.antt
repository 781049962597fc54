-- The block of the tests is in order.
use Rattle.std.proofs.Common.{◌≡◌, ◌∙◌, ℕ, ◌<◌, List, [], ◌∷◌, length, ap, refl, arith}
use Rattle.std.specs.Prelude.{All, AllPairs}
use Rattle.std.specs.declared.cmp.Ordering.TheVariants.{Less}
use Rattle.std.proofs.lemmas.List.Elements.{All-cons, All-nil}
use Rattle.std.proofs.lemmas.List.Kept.{AllPairs-cons}
use Rattle.mcv_cert.specs.Pair.{list_cmp, spot_cmp}
use Rattle.mcv_judge.specs.Faults.{AreInOrder, AreLegsRising, IsInOrder}
use Rattle.mcv_judge.specs.Reason.{BlockValue, LegValue}

none : {X : Type 0} (R : X → X → Type 0) → AllPairs R []
none R = λ i j d l b. absurd (omega arith)

two : {X : Type 0} (R : X → X → Type 0) (x y : X) → R x y → AllPairs R (x ∷ y ∷ [])
two R x y h = AllPairs-cons R x (y ∷ []) (All-cons (R x) y [] h (All-nil (R x))) (AllPairs-cons R y [] (All-nil (R y)) (none R))

abbrev pub Before : LegValue → LegValue → Type 0
Before l m = list_cmp l.position m.position ≡ Less

abbrev pub HasIndex : LegValue → Type 0
HasIndex l = 0 < length l.servers

before : (l m : LegValue) (p q : List ℕ) → l.position ≡ p → m.position ≡ q → list_cmp p q ≡ Less → Before l m
before l m p q is also less = ap (λ x. list_cmp x m.position) is ∙ ap (list_cmp p) also ∙ less

pub four_rise : (a b c d : LegValue) → a.position ≡ 0 ∷ 0 ∷ [] → b.position ≡ 0 ∷ 1 ∷ [] → c.position ≡ 0 ∷ 2 ∷ [] → d.position ≡ 0 ∷ 3 ∷ [] → AreLegsRising (a ∷ b ∷ c ∷ d ∷ [])
four_rise a b c d p q r s =
    AllPairs-cons Before a (b ∷ c ∷ d ∷ []) (All-cons (Before a) b (c ∷ d ∷ []) (before a b _ _ p q refl) (All-cons (Before a) c (d ∷ []) (before a c _ _ p r refl) (All-cons (Before a) d [] (before a d _ _ p s refl) (All-nil (Before a)))))
    (AllPairs-cons Before b (c ∷ d ∷ []) (All-cons (Before b) c (d ∷ []) (before b c _ _ q r refl) (All-cons (Before b) d [] (before b d _ _ q s refl) (All-nil (Before b))))
    (two Before c d (before c d _ _ r s refl)))

pub alone : {X : Type 0} (R : X → X → Type 0) (x : X) → AllPairs R (x ∷ [])
alone R x = AllPairs-cons R x [] (All-nil (R x)) (none R)

pub block_in_order : (b : BlockValue) → AreLegsRising b.readable → All HasIndex b.readable → AreLegsRising b.acknowledged → AreInOrder (b ∷ [])
block_in_order b readable indexed acknowledged = record {
  rising = alone (λ c d. spot_cmp c.spot d.spot ≡ Less) b;
  each = All-cons IsInOrder b [] (record { readable = readable; indexed = indexed; acknowledged = acknowledged }) (All-nil IsInOrder);
}
