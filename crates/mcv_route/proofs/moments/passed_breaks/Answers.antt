use Rattle.std.proofs.Common.{◌≡◌, true, false, rules}
use Rattle.std.specs.Prelude.{nat_le}
use Rattle.std.specs.List.Sorted.{IsPartitionPoint}
use Rattle.std.proofs.lemmas.List.Sorted.{IsPartitionPoint-from_clause, IsPartitionedBy-leb}
use Rattle.mcv_base.specs.declared.request.Moment.{Moment}
use Rattle.mcv_route.proofs.Breaks.{never-down, first-under, rest-over}
use Rattle.mcv_route.proofs.moments.passed_breaks.Goals as goal

pub returns : goal.returns
returns c =
    let table = c.args.table.now in
    let limit = c.args.moment.0 in
    let point : IsPartitionPoint (λ (y : Moment). nat_le y.0 limit ≡ true) (λ (y : Moment). nat_le y.0 limit ≡ false) table c.partition_point.result =
    IsPartitionPoint-from_clause (λ (y : Moment). nat_le y.0 limit) table c.partition_point.result c.partition_point.ensures.partitioned
    (IsPartitionedBy-leb (λ (y : Moment). y.0) table limit (never-down table c.requires)) (λ a r q k. search rules) in
    record {
      bound = c.partition_point.ensures.bound;
      first = first-under table c.partition_point.result limit c.partition_point.ensures.bound point.0;
      rest = rest-over table c.partition_point.result limit point.1;
    }
