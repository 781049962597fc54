-- A server that is reported is one of the table.
use Rattle.std.proofs.Common.{◌≡◌, ◌<◌, ℕ, length, Some, subst}
use Rattle.std.specs.List.{Contains}
use Rattle.std.specs.Prelude.{slice_get}
use Rattle.std.proofs.lemmas.List.Elements.{All-contains}
use Rattle.std.proofs.lemmas.Option.{get_or_from_slice_get, slice_get_within}
use Rattle.mcv_judge.specs.Reason.{BlockValue, LegValue}
use Rattle.mcv_route.specs.Routes.{IsSoundRoutes, IsSoundTree, RouteEntry, RoutesValue}
use Rattle.mcv_symbolic.specs.JustifiedRoutes.{IsReadableAt}
use Rattle.mcv_blocks.specs.Blocks.{IsBlockOf, pool_for}
use Rattle.mcv_blocks.proofs.PoolSizes.{pool_sound}
use Rattle.mcv_blocks.proofs.OneListOfBlocks.{pool_of_leg}

-- a server that a readable leaf has is one of the table
pub server_known : (r : RoutesValue) → IsSoundRoutes r → (b : BlockValue) → IsBlockOf r b → (l : LegValue) (i x : ℕ) → Contains b.readable l → slice_get l.servers i ≡ Some x → x < length r.servers
server_known r sound b own l i x has is =
    let entry = own.spot.entry in
    let there : Contains r.entries entry = (b.spot.route, slice_get_within r.entries b.spot.route entry own.spot.numbered, get_or_from_slice_get r.entries b.spot.route entry entry own.spot.numbered) in
    let tree : IsSoundTree (length r.servers) r.symbols entry.tree = All-contains (λ (e : RouteEntry). IsSoundTree (length r.servers) r.symbols e.tree) r.entries entry sound there in
    let same : IsSoundTree (length r.servers) r.symbols own.tree = subst (IsSoundTree (length r.servers) r.symbols) own.spot.has_tree tree in
    let pool = pool_of_leg own.tree (IsReadableAt own.tree own.member own.read) b.readable own.has.readable l has in
    let known = (pool_sound (length r.servers) r.symbols own.tree l.position (pool_for l) same pool).known in
    subst (λ y. y < length r.servers) (get_or_from_slice_get l.servers i x x is) (known i x (slice_get_within l.servers i x is))
