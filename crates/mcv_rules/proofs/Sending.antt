-- Plans under lists of outcomes: what they send, and which outcomes can come.
use Rattle.std.proofs.Common.{◌≡◌, ◌⊎◌, ◌↔◌, ◌≤◌, ℕ, List, [], ◌∷◌, Some, None}
use Rattle.std.specs.Prelude.{⊤}
use Rattle.mcv_base.specs.declared.reply.Outcome.{Outcome}
use Rattle.mcv_base.specs.declared.reply.Outcome.TheVariants.{Good, Error}
use Rattle.mcv_route.specs.Outcomes.{Outcomes, Choice, History, outcomes}
use Rattle.mcv_rules.specs.Laws.{Extends}
use Rattle.mcv_rules.specs.Plan.{Leg, Plan, Send, Reply, Both, Beside, OnError, OnMiss, OnHit, Shadowed, reply, IsMissed}

-- the leg is sent once exactly these outcomes are known
abbrev pub Sends : Plan → Choice → Outcomes → Leg → Type 0
Sends (Send k) c o l = k ≡ l
Sends (Reply x) c o l = ⊥
Sends (Both t u) c o l = Sends t c o l ⊎ Sends u c o l
Sends (Beside t u) c o l = Sends t c o l ⊎ Sends u c o l
Sends (OnError t u) c o l = Sends t c o l ⊎ (reply t o ≡ Some Error) × Sends u c o l
Sends (OnMiss t u) c o l = Sends t c o l ⊎ IsMissed (reply t o) × Sends u c o l
Sends (OnHit t u) c o l = Sends t c o l ⊎ (reply t o ≡ Some Good) × Sends u c o l
Sends (Shadowed s a b t u) c o l = Sends t c o l ⊎ (a ≤ c s) × (c s ≤ b) × Sends u c o l

-- each outcome is of a leg that was sent and had none
abbrev pub IsLegal : Plan → Choice → History → Type 0
IsLegal t c [] = ⊤
IsLegal t c (e ∷ es) = ((l : Leg) × (l.position ≡ e.0) × Sends t c (outcomes es) l) × (outcomes es e.0 ≡ None) × IsLegal t c es

abbrev pub IsReachable : Plan → Choice → Outcomes → Type 0
IsReachable t c o = (es : History) × IsLegal t c es × ((p : List ℕ) → outcomes es p ≡ o p)

-- each outcome is of a leg that is sent
abbrev pub IsClosed : Plan → Choice → Outcomes → Type 0
IsClosed t c o = (p : List ℕ) (x : Outcome) → o p ≡ Some x → (l : Leg) × (l.position ≡ p) × Sends t c o l

-- outcomes are reachable exactly when each is of a leg that is sent at them: no order needs to be found
abbrev pub ReachableIsClosed : Type 0
ReachableIsClosed = (t : Plan) (c : Choice) (o : Outcomes) → IsReachable t c o ↔ IsClosed t c o

abbrev pub ReplyStays : Type 0
ReplyStays = (t : Plan) (o o2 : Outcomes) (x : Outcome) → Extends o o2 → reply t o ≡ Some x → reply t o2 ≡ Some x

abbrev pub SentStays : Type 0
SentStays = (t : Plan) (c : Choice) (o o2 : Outcomes) (l : Leg) → Extends o o2 → Sends t c o l → Sends t c o2 l
