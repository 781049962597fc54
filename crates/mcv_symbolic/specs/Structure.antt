-- How the sets of a plan are found by its structure, one combination at a time. They are the sets that specs/Sets.antt defines (own).
use Rattle.std.specs.Prelude.{◌≡◌, ◌⊎◌, Some, None}
use Rattle.mcv_base.specs.Reply.{worse}
use Rattle.mcv_base.specs.declared.reply.Outcome.{Outcome}
use Rattle.mcv_base.specs.declared.reply.Outcome.TheVariants.{Good, Soft, Error}
use Rattle.mcv_route.specs.Outcomes.{Outcomes}
use Rattle.mcv_rules.specs.Plan.{Leg, Plan, Send, Reply, Both, Beside, OnError, OnMiss, OnHit, Shadowed, reply, IsMissed}

-- no outcome is known
abbrev pub nothing : Outcomes
nothing p = None

abbrev pub after_error : Outcome → Outcome → Outcome
after_error Good y = Good
after_error Soft y = Soft
after_error Error y = y

abbrev pub after_miss : Outcome → Outcome → Outcome
after_miss Good y = Good
after_miss Soft y = y
after_miss Error y = y

-- what the route replies where each leg answers x
abbrev pub if_all : Outcome → Plan → Outcome
if_all x (Send l) = x
if_all x (Reply y) = y
if_all x (Both t u) = worse (if_all x t) (if_all x u)
if_all x (Beside t u) = if_all x t
if_all x (OnError t u) = after_error (if_all x t) (if_all x u)
if_all x (OnMiss t u) = after_miss (if_all x t) (if_all x u)
if_all x (OnHit t u) = if_all x t
if_all x (Shadowed s a b t u) = if_all x t

-- the leg is sent, and is under no shadow. No choice is needed to say so
abbrev pub Counts : Plan → Outcomes → Leg → Type 0
Counts (Send k) o l = k ≡ l
Counts (Reply x) o l = ⊥
Counts (Both t u) o l = Counts t o l ⊎ Counts u o l
Counts (Beside t u) o l = Counts t o l ⊎ Counts u o l
Counts (OnError t u) o l = Counts t o l ⊎ (reply t o ≡ Some Error) × Counts u o l
Counts (OnMiss t u) o l = Counts t o l ⊎ IsMissed (reply t o) × Counts u o l
Counts (OnHit t u) o l = Counts t o l ⊎ (reply t o ≡ Some Good) × Counts u o l
Counts (Shadowed s a b t u) o l = Counts t o l

-- the legs that are sent whenever a reply is there
abbrev pub Acknowledged : Plan → Leg → Type 0
Acknowledged (Send k) l = k ≡ l
Acknowledged (Reply x) l = ⊥
Acknowledged (Both t u) l = Acknowledged t l ⊎ Acknowledged u l
Acknowledged (Beside t u) l = Acknowledged t l ⊎ Counts u nothing l
Acknowledged (OnError t u) l = Acknowledged t l ⊎ (if_all Good t ≡ Error) × Acknowledged u l
Acknowledged (OnMiss t u) l = ⊥
Acknowledged (OnHit t u) l = ⊥
Acknowledged (Shadowed s a b t u) l = Acknowledged t l

-- the legs whose hit can be the reply
abbrev pub Hits : Plan → Leg → Type 0
Hits (Send k) l = k ≡ l
Hits (Reply x) l = ⊥
Hits (Both t u) l = ((m : Leg) × Hits t m) × ((m : Leg) × Hits u m) × (Hits t l ⊎ Hits u l)
Hits (Beside t u) l = Hits t l
Hits (OnError t u) l = Hits t l ⊎ (if_all Error t ≡ Error) × Hits u l
Hits (OnMiss t u) l = Hits t l ⊎ Hits u l
Hits (OnHit t u) l = Hits t l
Hits (Shadowed s a b t u) l = Hits t l
