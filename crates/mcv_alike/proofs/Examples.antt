-- Rows of the definitions: one server, by its number in two routes.
use Rattle.std.proofs.Common.{◌≡◌, ℕ, List, [], ◌∷◌, Some, None, codes, refl, inl, arith}
use Rattle.mcv_base.specs.declared.operation.Mark.TheVariants.{Plain}
use Rattle.mcv_base.specs.declared.operation.Op.TheVariants.{Delete}
use Rattle.mcv_judge.specs.Reason.{LegValue}
use Rattle.mcv_pools.specs.Symbol.{SymbolValue}
use Rattle.mcv_pools.specs.declared.symbol.HashFunc.TheVariants.{Ch3}
use Rattle.mcv_route.specs.Routes.{RoutesValue}
use Rattle.mcv_route.specs.Situation.{asked}
use Rattle.mcv_route.specs.Tree.{Tree, none, pool}
use Rattle.mcv_rules.specs.Plan.{Leg, Plan, Both, Send}
use Rattle.mcv_alike.specs.Alike.{Move, Seen, sent_by, server_text}
use Rattle.mcv_alike.specs.Plans.{AreOneLeg, AreOnePlan, AreOnePool, IsAddedLeg, IsWidened}

abbrev one : SymbolValue
one = record { func = Ch3; salt = []; n = 1 }

-- a and b, and b and a
abbrev old : RoutesValue
old = record { servers = codes "a:1" ∷ codes "b:1" ∷ []; symbols = one ∷ []; entries = []; window = 0 }

abbrev new : RoutesValue
new = record { servers = codes "b:1" ∷ codes "a:1" ∷ []; symbols = one ∷ []; entries = []; window = 0 }

-- a pool of one server
abbrev of : ℕ → Tree
of x = pool (record { symbol = 0; servers = x ∷ [] }) [] none

abbrev stay : Move
stay p = p

-- server 0 of the old routes is server 1 of the new ones
same_server : server_text old 0 ≡ server_text new 1
same_server = refl

same_sent : sent_by old (of 0) (asked Delete (codes "k") None) stay (λ _. 0) (λ _. None) ≡ sent_by new (of 1) (asked Delete (codes "k") None) stay (λ _. 0) (λ _. None)
same_sent = refl

seen_by_text : sent_by new (of 1) (asked Delete (codes "k") None) stay (λ _. 0) (λ _. None) ≡ record { position = []; server = codes "a:1"; op = Delete; mark = Plain } ∷ []
seen_by_text = refl

-- a delete to server 0, and one to server 1 beside it
abbrev leg_to : List ℕ → ℕ → Leg
leg_to p x = record { position = p; symbol = 0; servers = x ∷ []; op = Delete; mark = Plain }

abbrev needed : LegValue
needed = record { position = 1 ∷ []; symbol = 0; servers = 1 ∷ [] }

one_pool : AreOnePool old new 0 (0 ∷ []) 0 (1 ∷ [])
one_pool = record { symbol = record { symbol = one; old = refl; new = refl; some = omega arith }; servers = refl; sized = refl }

other_pool : AreOnePool old new 0 (1 ∷ []) 0 (0 ∷ [])
other_pool = record { symbol = record { symbol = one; old = refl; new = refl; some = omega arith }; servers = refl; sized = refl }

widened : IsWidened old new (needed ∷ []) (Send (leg_to [] 0)) (Both (Send (leg_to (0 ∷ []) 1)) (Send (leg_to (1 ∷ []) 0)))
widened = record {
  own = Send (leg_to (0 ∷ []) 1);
  same = record { op = refl; mark = refl; pool = one_pool };
  legs = leg_to (1 ∷ []) 0 ∷ [];
  added = (record { op = refl; mark = refl; pool = other_pool }, tt);
  joined = inl refl;
}
