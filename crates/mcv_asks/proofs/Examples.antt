-- A row for each definition.
use Rattle.std.proofs.Common.{◌≡◌, List, [], ◌∷◌, Some, None, refl}
use Rattle.std.specs.Prelude.{pos}
use Rattle.mcv_base.specs.declared.operation.Op.TheVariants.{Get}
use Rattle.mcv_base.specs.Reply.{hit, miss}
use Rattle.mcv_route.specs.Situation.{asked}
use Rattle.mcv_route.specs.Tree.{Tree, none, pool, warm_up}
use Rattle.mcv_world.specs.World.{Recorded}
use Rattle.mcv_asks.specs.Asks.{fields_of}
use Rattle.mcv_asks.specs.Hits.{behind}
use Rattle.mcv_asks.specs.WarmUps.{warm_up_of}

abbrev one : Tree
one = pool (record { symbol = 0; servers = 1 ∷ [] }) [] none

-- a warm-up of 60 s, whose `warm` is one of 5 s
abbrev two : Tree
two = warm_up one (warm_up one one 5) 60

its_add : warm_up_of two (2 ∷ []) ≡ Some (record { depth = 0; warm = warm_up one one 5; exptime = 60 })
its_add = refl

the_add_within : warm_up_of two (1 ∷ 2 ∷ []) ≡ Some (record { depth = 1; warm = one; exptime = 5 })
the_add_within = refl

no_add : warm_up_of two (1 ∷ 0 ∷ []) ≡ None
no_add = refl

below_warm : behind (1 ∷ []) (1 ∷ 0 ∷ []) ≡ Some (0 ∷ [])
below_warm = refl

-- cold missed, and the `warm` of the inner one had the hit
abbrev heard : List Recorded
heard = record { position = 0 ∷ []; reply = miss } ∷ record { position = 1 ∷ 0 ∷ []; reply = miss } ∷ record { position = 1 ∷ 1 ∷ []; reply = hit 7 None (120 ∷ []) } ∷ []

outer_fields : fields_of two (asked Get [] None) None heard (2 ∷ []) ≡ record { flags = 7; exptime = pos 60; body = 120 ∷ []; cas = None; delta = 0 }
outer_fields = refl

inner_fields : fields_of two (asked Get [] None) None heard (1 ∷ 2 ∷ []) ≡ record { flags = 7; exptime = pos 5; body = 120 ∷ []; cas = None; delta = 0 }
inner_fields = refl
