use Rattle.std.proofs.Common.{◌≡◌, ℕ, List, false, rules, subst, sym, true}
use Rattle.std.specs.List.Sorted.{IsPartitionPoint, IsSorted}
use Rattle.std.specs.Ordering.{is_lt}
use Rattle.std.proofs.lemmas.List.Sorted.{IsPartitionPoint-from_clause}
use Rattle.mcv_cert.specs.Place.{list_cmp}
use Rattle.mcv_draw.proofs.LegsInOrder.{before_first}
use Rattle.mcv_draw.proofs.legs.Legs.count_before.Goals as goal

pub returns : goal.returns
returns c =
    let p = c.args.steps.now in
    let legs = c.as_slice.result.now in
    let sorted = subst (λ (xs : List (List ℕ)). IsSorted list_cmp xs) (sym c.as_slice.ensures.value) c.args.self.now.sorted in
    subst (λ (xs : List (List ℕ)). IsPartitionPoint (λ leg. is_lt (list_cmp leg p) ≡ true) (λ leg. is_lt (list_cmp leg p) ≡ false) xs c.partition_point.result) c.as_slice.ensures.value
    (IsPartitionPoint-from_clause (λ (leg : List ℕ). is_lt (list_cmp leg p)) legs c.partition_point.result c.partition_point.ensures.partitioned (before_first legs p sorted) (λ a r q k. search rules))
