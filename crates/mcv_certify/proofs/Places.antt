-- How places compare.
use Rattle.std.proofs.Common.{◌≡◌, ◌<◌, ℕ, sym, ap, ◌∙◌}
use Rattle.std.specs.Cmp.{IsTotalOrder}
use Rattle.std.specs.declared.cmp.Ordering.TheVariants.{Less}
use Rattle.std.specs.Ordering.{nat_cmp, ordering_then}
use Rattle.std.proofs.lemmas.Cmp.{nat_cmp_total, on_total, then_total, tied_itself}
use Rattle.mcv_cert.specs.Pair.{PlaceValue, index_cmp, list_cmp, place_cmp, spot_cmp}
use Rattle.mcv_cert.proofs.Rising.{places_total}
use Rattle.mcv_judge.specs.Faults.{require, place_required}
use Rattle.mcv_judge.specs.Reason.{BlockValue, LegValue}
use Rattle.mcv_judge.proofs.FirstFault.{nat_less}
use Rattle.mcv_judge.proofs.Order.{in_one_spot, in_two_spots}
use Rattle.mcv_route.proofs.RisingLists.{not_both}

abbrev pub place_in : BlockValue → LegValue → PlaceValue
place_in b leaf = place_required (require b leaf)

pub in_one_block : (b : BlockValue) (l m : LegValue) → place_cmp (place_in b l) (place_in b m) ≡ list_cmp l.position m.position
in_one_block b l m = in_one_spot b.spot l.position m.position

pub in_two_blocks : (b c : BlockValue) (l m : LegValue) → spot_cmp b.spot c.spot ≡ Less → place_cmp (place_in b l) (place_in c m) ≡ Less
in_two_blocks b c l m h = in_two_spots b.spot c.spot l.position m.position h

indexes_total : IsTotalOrder (λ (x y : PlaceValue × ℕ). ordering_then (place_cmp x.0 y.0) (nat_cmp x.1 y.1))
indexes_total = then_total (on_total (λ (x : PlaceValue × ℕ). x.0) places_total) (on_total (λ (x : PlaceValue × ℕ). x.1) nat_cmp_total)

-- not before it, where it comes before
pub not_before : (s : PlaceValue) (i : ℕ) (t : PlaceValue) (j : ℕ) → index_cmp s i t j ≡ Less → place_cmp t s ≡ Less → ⊥
not_before s i t j h g = not_both (index_cmp s i t j) (index_cmp t j s i) (indexes_total.antisymm (s, i) (t, j)) h (ap (λ x. ordering_then x (nat_cmp j i)) g)

-- before it at the same place: at a lesser index
pub lesser_index : (s : PlaceValue) (i j : ℕ) → index_cmp s i s j ≡ Less → i < j
lesser_index s i j h = nat_less i j (sym (ap (λ x. ordering_then x (nat_cmp i j)) (tied_itself places_total s)) ∙ h)
