-- Plans that do the same but for positions and numbers. Only private contracts cite this.
use Rattle.std.specs.Prelude.{◌≡◌, ◌⊎◌, ◌<◌, ℕ, true, List, [], ◌∷◌, Some, ⊤, fold, length, map, slice_get}
use Rattle.mcv_base.specs.Operation.{is_counting}
use Rattle.mcv_base.specs.declared.operation.Op.TheVariants.{Delete}
use Rattle.mcv_judge.specs.Reason.{LegValue}
use Rattle.mcv_pools.specs.Symbol.{SymbolValue}
use Rattle.mcv_route.specs.Routes.{RoutesValue}
use Rattle.mcv_rules.specs.NormalForm.{Part, beside, part, shade}
use Rattle.mcv_rules.specs.Plan.{Leg, Plan, Send, Reply, Both, Beside, OnError, OnMiss, OnHit, Shadowed}
use Rattle.mcv_alike.specs.Alike.{server_text}

-- a symbol of the first routes, by its number there and in the second ones
pub record AreOneSymbol (r n : RoutesValue) (s z : ℕ) : Type 0 where
  pub symbol : SymbolValue
  pub old : slice_get r.symbols s ≡ Some symbol
  pub new : slice_get n.symbols z ≡ Some symbol
  pub some : 0 < symbol.n

-- the servers of the first routes, by their numbers there and in the second ones
abbrev pub AreOneServers : RoutesValue → RoutesValue → List ℕ → List ℕ → Type 0
AreOneServers r n xs ys = map (server_text r) xs ≡ map (server_text n) ys

-- a pool of the first routes, as many servers as its symbol has, by the numbers there and in the second ones
pub record AreOnePool (r n : RoutesValue) (s : ℕ) (xs : List ℕ) (z : ℕ) (ys : List ℕ) : Type 0 where
  pub symbol : AreOneSymbol r n s z
  pub servers : AreOneServers r n xs ys
  pub sized : length xs ≡ symbol.symbol.n

-- the second leg sends what the first one does
pub record AreOneLeg (r n : RoutesValue) (k l : Leg) : Type 0 where
  pub op : k.op ≡ l.op
  pub mark : k.mark ≡ l.mark
  pub pool : AreOnePool r n k.symbol k.servers l.symbol l.servers

-- the second plan does what the first one does
abbrev pub AreOnePlan : RoutesValue → RoutesValue → Plan → Plan → Type 0
AreOnePlan r n (Send k) (Send l) = AreOneLeg r n k l
AreOnePlan r n (Reply x) (Reply y) = x ≡ y
AreOnePlan r n (Both t u) (Both v w) = AreOnePlan r n t v × AreOnePlan r n u w
AreOnePlan r n (Beside t u) (Beside v w) = AreOnePlan r n t v × AreOnePlan r n u w
AreOnePlan r n (OnError t u) (OnError v w) = AreOnePlan r n t v × AreOnePlan r n u w
AreOnePlan r n (OnMiss t u) (OnMiss v w) = AreOnePlan r n t v × AreOnePlan r n u w
AreOnePlan r n (OnHit t u) (OnHit v w) = AreOnePlan r n t v × AreOnePlan r n u w
AreOnePlan r n (Shadowed s a b t u) (Shadowed z c d v w) = AreOneSymbol r n s z × (a ≡ c) × (b ≡ d) × AreOnePlan r n t v × AreOnePlan r n u w
AreOnePlan r n t u = ⊥

-- a part of a plan, and the one that does what it does
abbrev pub AreOnePart : RoutesValue → RoutesValue → Part → Part → Type 0
AreOnePart r n (part t) (part u) = AreOnePlan r n t u
AreOnePart r n (shade s a b t) (shade z c d u) = AreOneSymbol r n s z × (a ≡ c) × (b ≡ d) × AreOnePlan r n t u
AreOnePart r n p q = ⊥

-- each part does what the one at its place does
abbrev pub AreOneParts : RoutesValue → RoutesValue → List Part → List Part → Type 0
AreOneParts r n [] [] = ⊤
AreOneParts r n [] (q ∷ qs) = ⊥
AreOneParts r n (p ∷ ps) [] = ⊥
AreOneParts r n (p ∷ ps) (q ∷ qs) = AreOnePart r n p q × AreOneParts r n ps qs

-- the leg is a delete that counts, to the pool of a leg of the first routes
pub record IsAddedLeg (r n : RoutesValue) (k : LegValue) (l : Leg) : Type 0 where
  pub op : l.op ≡ Delete
  pub mark : is_counting l.mark ≡ true
  pub pool : AreOnePool r n k.symbol k.servers l.symbol l.servers

abbrev pub AreAddedLegs : RoutesValue → RoutesValue → List LegValue → List Leg → Type 0
AreAddedLegs r n [] [] = ⊤
AreAddedLegs r n [] (l ∷ ls) = ⊥
AreAddedLegs r n (k ∷ ks) [] = ⊥
AreAddedLegs r n (k ∷ ks) (l ∷ ls) = IsAddedLeg r n k l × AreAddedLegs r n ks ls

-- the part sends such a leg
abbrev pub IsAddedPart : RoutesValue → RoutesValue → LegValue → Part → Type 0
IsAddedPart r n k (part (Send l)) = IsAddedLeg r n k l
IsAddedPart r n k p = ⊥

abbrev pub AreAddedParts : RoutesValue → RoutesValue → List LegValue → List Part → Type 0
AreAddedParts r n [] [] = ⊤
AreAddedParts r n [] (q ∷ qs) = ⊥
AreAddedParts r n (k ∷ ks) [] = ⊥
AreAddedParts r n (k ∷ ks) (q ∷ qs) = IsAddedPart r n k q × AreAddedParts r n ks qs

-- the plan waits for these legs too, or sends them beside it
abbrev pub sends_more : (Plan → Plan → Plan) → Plan → List Leg → Plan
sends_more join t ls = fold join t (map Send ls)

-- the second plan does what the first one does, and sends the legs at once
pub record IsWidened (r n : RoutesValue) (ks : List LegValue) (t u : Plan) : Type 0 where
  pub own : Plan
  pub same : AreOnePlan r n t own
  pub legs : List Leg
  pub added : AreAddedLegs r n ks legs
  pub joined : (u ≡ sends_more Both own legs) ⊎ (u ≡ sends_more Beside own legs)
