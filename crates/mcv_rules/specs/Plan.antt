-- The normal form of a route: what it does with one request, without its handles (own).
use Rattle.std.specs.Prelude.{◌≡◌, ◌⊎◌, ℕ, Bool, ◌&&◌, nat_le, if◌then◌else◌, List, [], ◌∷◌, ◌++◌, Option, Some, None, slice_index}
use Rattle.mcv_base.specs.declared.reply.Outcome.{Outcome}
use Rattle.mcv_base.specs.declared.reply.Outcome.TheVariants.{Good, Soft, Error}
use Rattle.mcv_base.specs.declared.operation.Op.{Op}
use Rattle.mcv_base.specs.declared.operation.Mark.{Mark}
use Rattle.mcv_base.specs.Reply.{is_error, is_missed, is_good, worse}
use Rattle.mcv_route.specs.Outcomes.{Outcomes, Choice}

-- one request to one server of a pool
pub record Leg : Type 0 where
  pub position : List ℕ
  pub symbol : ℕ
  pub servers : List ℕ
  pub op : Op
  pub mark : Mark

-- a route, for one operation, rest and era
pub data Plan : Type 0 where
  -- one leg, whose reply is the reply
  Send : Leg → Plan
  -- a reply at once
  Reply : Outcome → Plan
  -- both at once; the worse of the two replies
  Both : Plan → Plan → Plan
  -- both at once; the first one's reply
  Beside : Plan → Plan → Plan
  -- the first; once it has replied an error, the second
  OnError : Plan → Plan → Plan
  -- the first; once it has replied and not well, the second
  OnMiss : Plan → Plan → Plan
  -- the first, whose reply is the reply; once that is good, also the second
  OnHit : Plan → Plan → Plan
  -- the first; beside it the second, a shadow, where the choice gives the symbol an index from first to last
  Shadowed : (symbol first last : ℕ) → Plan → Plan → Plan

-- the worse of two replies, once both are there
abbrev pub both : Option Outcome → Option Outcome → Option Outcome
both None y = None
both (Some x) None = None
both (Some x) (Some y) = Some (worse x y)

-- the first reply, or after an error the second
abbrev pub on_error : Option Outcome → Option Outcome → Option Outcome
on_error None y = None
on_error (Some Good) y = Some Good
on_error (Some Soft) y = Some Soft
on_error (Some Error) y = y

-- the first reply, or after one that isn't good the second
abbrev pub on_miss : Option Outcome → Option Outcome → Option Outcome
on_miss None y = None
on_miss (Some Good) y = Some Good
on_miss (Some Soft) y = y
on_miss (Some Error) y = y

-- what the route replies once exactly these outcomes are known, if anything yet
abbrev pub reply : Plan → Outcomes → Option Outcome
reply (Send l) o = o l.position
reply (Reply x) o = Some x
reply (Both t u) o = both (reply t o) (reply u o)
reply (Beside t u) o = reply t o
reply (OnError t u) o = on_error (reply t o) (reply u o)
reply (OnMiss t u) o = on_miss (reply t o) (reply u o)
reply (OnHit t u) o = reply t o
reply (Shadowed s a b t u) o = reply t o

-- a reply is there, and it isn't good
abbrev pub IsMissed : Option Outcome → Type 0
IsMissed r = (r ≡ Some Soft) ⊎ (r ≡ Some Error)

-- a hit of this leg is among the replies
abbrev pub HitAt : Plan → Outcomes → Leg → Type 0
HitAt (Send k) o l = (k ≡ l) × (o k.position ≡ Some Good)
HitAt (Reply x) o l = ⊥
HitAt (Both t u) o l = (reply t o ≡ Some Good) × (reply u o ≡ Some Good) × (HitAt t o l ⊎ HitAt u o l)
HitAt (Beside t u) o l = HitAt t o l
HitAt (OnError t u) o l = HitAt t o l ⊎ (reply t o ≡ Some Error) × HitAt u o l
HitAt (OnMiss t u) o l = HitAt t o l ⊎ IsMissed (reply t o) × HitAt u o l
HitAt (OnHit t u) o l = HitAt t o l
HitAt (Shadowed s a b t u) o l = HitAt t o l

abbrev pub server : Choice → Leg → ℕ
server c l = slice_index l.servers (c l.symbol)

-- the legs, once the reply is there and passes the test
abbrev pub on_reply : (Outcome → Bool) → Option Outcome → List Leg → List Leg
on_reply test None ls = []
on_reply test (Some x) ls = if test x then ls else []

-- the legs that are sent, in the order of their positions
abbrev pub launched : Plan → Choice → Outcomes → List Leg
launched (Send k) c o = k ∷ []
launched (Reply x) c o = []
launched (Both t u) c o = launched t c o ++ launched u c o
launched (Beside t u) c o = launched t c o ++ launched u c o
launched (OnError t u) c o = launched t c o ++ on_reply is_error (reply t o) (launched u c o)
launched (OnMiss t u) c o = launched t c o ++ on_reply is_missed (reply t o) (launched u c o)
launched (OnHit t u) c o = launched t c o ++ on_reply is_good (reply t o) (launched u c o)
launched (Shadowed s a b t u) c o = launched t c o ++ (if nat_le a (c s) && nat_le (c s) b then launched u c o else [])
