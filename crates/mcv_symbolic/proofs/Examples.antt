-- Rows of the sets, computed. The pools A, B and C have one server each.
use Rattle.std.proofs.Common.{◌≡◌, ℕ, List, [], ◌∷◌, map, None, refl}
use Rattle.mcv_base.specs.declared.operation.Op.TheVariants.{Get, Delete}
use Rattle.mcv_base.specs.declared.reply.Outcome.TheVariants.{Good, Soft, Error}
use Rattle.mcv_route.specs.Situation.{asked}
use Rattle.mcv_route.specs.Tree.{Tree, Trees, pool, null, error, many, AllSync, AllInitial, AllAsync, Failover, MissFailover, none, child}
use Rattle.mcv_rules.specs.Plan.{Plan}
use Rattle.mcv_rules.specs.Plans.{plan}
use Rattle.mcv_symbolic.specs.SetLists.{acknowledged, hits}
use Rattle.mcv_symbolic.specs.Structure.{if_all}

abbrev one : ℕ → Tree
one n = pool (record { symbol = 0; servers = n ∷ [] }) [] none

abbrev a : Tree
a = one 0

abbrev b : Tree
b = one 1

abbrev two : Tree → Tree → Trees
two t u = child t (child u none)

abbrev deleted : Tree → Plan
deleted t = plan t (asked Delete [] None)

abbrev acknowledged_of : Tree → List (List ℕ)
acknowledged_of t = map (λ l. l.position) (acknowledged (deleted t))

abbrev readable_of : Tree → List (List ℕ)
readable_of t = map (λ l. l.position) (hits (plan t (asked Get [] None)))

-- ErrorRoute can't be acknowledged, so the next child is
row-error_first : acknowledged_of (many Failover (child error (two a b))) ≡ (1 ∷ []) ∷ []
row-error_first = refl

row-error_first_done : if_all Good (deleted (many Failover (child error (two a b)))) ≡ Good
row-error_first_done = refl

-- NullRoute can't fail, so nothing behind it answers
row-null_between : readable_of (many Failover (child a (two null (one 2)))) ≡ (0 ∷ []) ∷ []
row-null_between = refl

-- an AllSyncRoute with an ErrorRoute always fails
row-sync_fails : acknowledged_of (many Failover (two (many AllSync (two a error)) b)) ≡ (0 ∷ 0 ∷ []) ∷ (1 ∷ []) ∷ []
row-sync_fails = refl

-- a failover whose first child is an ErrorRoute sends the second at once
row-first_wave : acknowledged_of (many AllInitial (two a (many Failover (two error b)))) ≡ (0 ∷ []) ∷ (1 ∷ 1 ∷ []) ∷ []
row-first_wave = refl

-- one whose first child is a pool doesn't
row-one_wave : acknowledged_of (many AllInitial (two a (many Failover (two b a)))) ≡ (0 ∷ []) ∷ (1 ∷ 0 ∷ []) ∷ []
row-one_wave = refl

row-miss_first : readable_of (many MissFailover (two null a)) ≡ (1 ∷ []) ∷ []
row-miss_first = refl

-- the worst reply is never a hit
row-sync_never_hits : readable_of (many AllSync (two a null)) ≡ []
row-sync_never_hits = refl

row-sync_hits : readable_of (many AllSync (two a b)) ≡ (0 ∷ []) ∷ (1 ∷ []) ∷ []
row-sync_hits = refl

-- a delete by it can't be acknowledged
row-never_done : if_all Good (deleted (many AllSync (two a error))) ≡ Error
row-never_done = refl

-- a default reply counts
row-async_done : if_all Good (deleted (many AllAsync (two a b))) ≡ Soft
row-async_done = refl

-- a shadow is neither acknowledged nor read
row-shadow : acknowledged_of (pool (record { symbol = 0; servers = 0 ∷ [] }) (record { first = 0; last = 0 } ∷ []) (child b none)) ≡ [] ∷ []
row-shadow = refl
