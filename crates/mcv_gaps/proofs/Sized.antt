-- Legs of symbols that have as many indexes as they have servers.
use Rattle.std.proofs.Common.{◌≡◌, ◌<◌, ◌↔◌, ℕ, Bool, List, ◌++◌, length, get_or, map, sym, ap, ◌∙◌, subst, arith}
use Rattle.std.specs.Prelude.{IsTrue, slice_index}
use Rattle.std.specs.List.{All, Contains}
use Rattle.std.proofs.lemmas.List.{length-map}
use Rattle.std.proofs.lemmas.List.Elements.{All-append, All-contains, Contains-get_or}
use Rattle.std.proofs.lemmas.List.{get_or-map}
use Rattle.mcv_judge.specs.declared.block.Leg.{Leg}
use Rattle.mcv_judge.specs.PairsInMemory.{leg_of, legs_of}
use Rattle.mcv_judge.specs.Reason.{LegValue}
use Rattle.mcv_picks.specs.Reasons.{AreSized}
use Rattle.mcv_gaps.specs.Gaps.{AreSizedBy, HasGap, HaveGap, IsOneMissed, IsSizedLeaf, WantedValue}

-- a leaf that can be read, beside legs
pub leaf_sized : (sizes : List ℕ) (leaves legs : List LegValue) → AreSizedBy sizes (record { readable = leaves; acknowledged = legs }) → (leaf : LegValue) → Contains leaves leaf → IsSizedLeaf sizes legs leaf
leaf_sized sizes leaves legs sized leaf at = record {
  some = sized.some;
  all = sized.acknowledged leaf at;
  own = All-contains (λ (d : LegValue). length d.servers ≡ slice_index sizes d.symbol) leaves leaf sized.readable at;
}

-- more legs are sent
pub with_more : (sizes : List ℕ) (w : WantedValue) (more : List LegValue) → AreSizedBy sizes w → AreSized sizes more → AreSizedBy sizes (record { readable = w.readable; acknowledged = w.acknowledged ++ more })
with_more sizes w more sized also = record {
  some = sized.some;
  readable = sized.readable;
  acknowledged = λ leaf at. All-append (λ (d : LegValue). length d.servers ≡ slice_index sizes d.symbol) w.acknowledged more (sized.acknowledged leaf at) also;
}

-- a gap, by the legs and the leaves in memory
pub gap_by : (sizes : List ℕ) (w : WantedValue) (more leaves legs : List LegValue) (is : Bool) → leaves ≡ w.readable → legs ≡ w.acknowledged ++ more
    → (AreSizedBy sizes (record { readable = leaves; acknowledged = legs }) → IsTrue is ↔ IsOneMissed sizes legs leaves) → AreSizedBy sizes w → AreSized sizes more → IsTrue is ↔ HasGap sizes w more
gap_by sizes w more leaves legs is e f tells sized also =
    subst (λ (xs : List LegValue). IsTrue is ↔ IsOneMissed sizes (w.acknowledged ++ more) xs) e
    (subst (λ (ls : List LegValue). IsTrue is ↔ IsOneMissed sizes ls leaves) f
    (tells (subst (λ (xs : List LegValue). AreSizedBy sizes (record { readable = xs; acknowledged = legs })) (sym e)
    (subst (λ (ls : List LegValue). AreSizedBy sizes (record { readable = w.readable; acknowledged = ls })) (sym f) (with_more sizes w more sized also)))))

pub gap_same : (sizes : List ℕ) (ws : List WantedValue) (legs others : List LegValue) (is : Bool) → legs ≡ others → (AreSized sizes legs → IsTrue is ↔ HaveGap sizes ws legs) → AreSized sizes others → IsTrue is ↔ HaveGap sizes ws others
gap_same sizes ws legs others is e tells sized = subst (λ (ls : List LegValue). IsTrue is ↔ HaveGap sizes ws ls) e (tells (subst (AreSized sizes) (sym e) sized))
