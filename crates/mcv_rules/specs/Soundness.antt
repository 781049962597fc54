-- What every plan of a route has.
use Rattle.std.specs.Prelude.{◌≡◌, ◌≢◌, ◌⊎◌, ◌<◌, ℕ, Bool, true, false, List, [], ◌∷◌, ◌++◌, length}
use Rattle.mcv_base.specs.declared.reply.Outcome.TheVariants.{Good}
use Rattle.mcv_base.specs.Operation.{is_counting}
use Rattle.mcv_rules.specs.Plan.{Plan, Send, Reply, Both, Beside, OnError, OnMiss, OnHit, Shadowed}

-- the positions of all legs that the route can ever send, in order
abbrev pub positions : Plan → List (List ℕ)
positions (Send k) = k.position ∷ []
positions (Reply x) = []
positions (Both t u) = positions t ++ positions u
positions (Beside t u) = positions t ++ positions u
positions (OnError t u) = positions t ++ positions u
positions (OnMiss t u) = positions t ++ positions u
positions (OnHit t u) = positions t ++ positions u
positions (Shadowed s a b t u) = positions t ++ positions u

-- the position is in the list
abbrev pub In : List (List ℕ) → List ℕ → Type 0
In [] p = ⊥
In (q ∷ qs) p = (q ≡ p) ⊎ In qs p

abbrev pub AreApart : Plan → Plan → Type 0
AreApart t u = (p : List ℕ) → In (positions t) p → In (positions u) p → ⊥

-- no position is at two places
abbrev pub IsApart : Plan → Type 0
IsApart (Send l) = Unit {0}
IsApart (Reply x) = Unit {0}
IsApart (Both t u) = IsApart t × IsApart u × AreApart t u
IsApart (Beside t u) = IsApart t × IsApart u × AreApart t u
IsApart (OnError t u) = IsApart t × IsApart u × AreApart t u
IsApart (OnMiss t u) = IsApart t × IsApart u × AreApart t u
IsApart (OnHit t u) = IsApart t × IsApart u × AreApart t u
IsApart (Shadowed s a b t u) = IsApart t × IsApart u × AreApart t u

-- a leg is counted exactly where it is under no shadow
abbrev pub IsMarked : Bool → Plan → Type 0
IsMarked m (Send l) = is_counting l.mark ≡ m
IsMarked m (Reply x) = Unit {0}
IsMarked m (Both t u) = IsMarked m t × IsMarked m u
IsMarked m (Beside t u) = IsMarked m t × IsMarked m u
IsMarked m (OnError t u) = IsMarked m t × IsMarked m u
IsMarked m (OnMiss t u) = IsMarked m t × IsMarked m u
IsMarked m (OnHit t u) = IsMarked m t × IsMarked m u
IsMarked m (Shadowed s a b t u) = IsMarked m t × IsMarked false u

-- the route answers nothing good by itself
abbrev pub IsHonest : Plan → Type 0
IsHonest (Send l) = Unit {0}
IsHonest (Reply x) = x ≢ Good
IsHonest (Both t u) = IsHonest t × IsHonest u
IsHonest (Beside t u) = IsHonest t × IsHonest u
IsHonest (OnError t u) = IsHonest t × IsHonest u
IsHonest (OnMiss t u) = IsHonest t × IsHonest u
IsHonest (OnHit t u) = IsHonest t × IsHonest u
IsHonest (Shadowed s a b t u) = IsHonest t × IsHonest u

-- each leg's symbol is one of those that have a size
abbrev pub IsSized : List ℕ → Plan → Type 0
IsSized sizes (Send l) = l.symbol < length sizes
IsSized sizes (Reply x) = Unit {0}
IsSized sizes (Both t u) = IsSized sizes t × IsSized sizes u
IsSized sizes (Beside t u) = IsSized sizes t × IsSized sizes u
IsSized sizes (OnError t u) = IsSized sizes t × IsSized sizes u
IsSized sizes (OnMiss t u) = IsSized sizes t × IsSized sizes u
IsSized sizes (OnHit t u) = IsSized sizes t × IsSized sizes u
IsSized sizes (Shadowed s a b t u) = IsSized sizes t × IsSized sizes u

-- what every plan of a route has
abbrev pub IsSound : List ℕ → Plan → Type 0
IsSound sizes t = IsSized sizes t × IsMarked true t × IsApart t × IsHonest t

-- nothing in it is sent after a miss or a hit, as is so of a delete; of what shadows send nothing is said
abbrev pub IsForDelete : Plan → Type 0
IsForDelete (Send l) = Unit {0}
IsForDelete (Reply x) = Unit {0}
IsForDelete (Both t u) = IsForDelete t × IsForDelete u
IsForDelete (Beside t u) = IsForDelete t × IsForDelete u
IsForDelete (OnError t u) = IsForDelete t × IsForDelete u
IsForDelete (OnMiss t u) = ⊥
IsForDelete (OnHit t u) = ⊥
IsForDelete (Shadowed s a b t u) = IsForDelete t
