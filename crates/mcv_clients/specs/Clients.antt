-- The clients of a loop, each under its number (own).
use Rattle.slab.specs.Slab.{Slab, get}
use Rattle.std.specs.Prelude.{◌≡◌, ◌≢◌, ◌<◌, ◌⊎◌, ℕ, List, Option, None, Some, length}
use Rattle.mcv_desks.specs.Open.{DesksView, IsOpen}
use Rattle.mcv_text.specs.Request.{RequestValue}
use Rattle.mcv_clients.specs.Life.{ClientView}

pub record ClientsView : Type 0 where
  pub clients : Slab ClientView
  -- what they ask, and what is open there
  pub desks : DesksView
  -- the numbers of those that are to be served
  pub touched : List ℕ

-- ---- what becomes of them

abbrev pub AreSame : Slab ClientView → Slab ClientView → Type 0
AreSame old new = (number : ℕ) → get new number ≡ get old number

-- the client that was there, if one was, becomes so
abbrev pub IfChanged : (change : ClientView → ClientView → Type 0) → (old new : Option ClientView) → Type 0
IfChanged change None new = new ≡ None
IfChanged change (Some c) None = ⊥
IfChanged change (Some c) (Some d) = change c d

-- the client of this number becomes so, and the others stay
pub record ChangesAt (change : ClientView → ClientView → Type 0) (number : ℕ) (old new : Slab ClientView) : Type 0 where
  pub here : IfChanged change (get old number) (get new number)
  pub others : (other : ℕ) → other ≢ number → get new other ≡ get old other

-- the client of this number is there, and this is its request, which isn't out yet
pub record HasAsked (clients : Slab ClientView) (number : ℕ) (request : RequestValue) : Type 0 where
  pub its : ClientView
  pub there : get clients number ≡ Some its
  pub free : its.out ≡ None
  pub asked : its.session.request ≡ Some request

-- the client of this number, if it is there, has a request
abbrev pub WantsAnswer : Slab ClientView → (number : ℕ) → Type 0
WantsAnswer clients number = (c : ClientView) → get clients number ≡ Some c → (request : RequestValue) × (c.session.request ≡ Some request)

-- each that is there now was there before, under the same number
abbrev pub AreStill : Slab ClientView → Slab ClientView → Type 0
AreStill old new = (number : ℕ) (c : ClientView) → get new number ≡ Some c → (before : ClientView) × (get old number ≡ Some before) × (c.came ≡ before.came)

-- each is as before, or gone
abbrev pub AreLeft : Slab ClientView → Slab ClientView → Type 0
AreLeft old new = (number : ℕ) → (get new number ≡ get old number) ⊎ (get new number ≡ None)

-- those whose requests are out are as before
abbrev pub AskersStay : Slab ClientView → Slab ClientView → Type 0
AskersStay old new = (number : ℕ) (c : ClientView) (serial : ℕ) → get old number ≡ Some c → c.out ≡ Some serial → get new number ≡ Some c

-- ---- what is kept

-- it asks among the hubs of the desks; the number of its request that is out was given out; and where that is open at the desks it is its own
pub record IsOneOf (desks : DesksView) (next : ℕ) (c : ClientView) : Type 0 where
  pub hubs : c.hubs ≡ desks.hubs
  pub below : (number : ℕ) → c.out ≡ Some number → number < next
  pub its : (number : ℕ) (request : RequestValue) → c.out ≡ Some number → IsOpen desks number request → c.session.request ≡ Some request

abbrev pub AreOf : DesksView → (next : ℕ) → Slab ClientView → Type 0
AreOf desks next clients = (number : ℕ) (c : ClientView) → get clients number ≡ Some c → IsOneOf desks next c

pub record AreClients (desks : DesksView) (next hubs : ℕ) (clients : Slab ClientView) (room : List ℕ) : Type 0 where
  pub among : hubs ≡ desks.hubs
  pub each : AreOf desks next clients
  pub has_room : 0 < length room
