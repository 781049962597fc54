-- What becomes of the legs in flight over a connection that is lost (own).
-- A get, a delete and two sets are in flight over a connection that was kept, and of the second set no byte was written when it closes: the
-- get, the delete and that set are sent once more, and the first set is lost.
use Rattle.std.specs.Prelude.{ℕ, ◌+◌, List, [], ◌∷◌, length, leb, ltb, Bool, true, false, cond, not, ◌&&◌, ◌||◌, Err}
use Rattle.mcv_base.specs.declared.request.LegId.{LegId}
use Rattle.mcv_base.specs.declared.request.ServerId.{ServerId}
use Rattle.mcv_turn.specs.declared.arrival.Arrival.{Arrival}
use Rattle.mcv_turn.specs.declared.arrival.NoReply.TheVariants.{Lost, LostToo}
use Rattle.mcv_turn.specs.declared.flight.Flight.{Flight}
use Rattle.mcv_lines.specs.Repeat.{may_repeat}
use Rattle.mcv_lines.specs.declared.loss.Loss.{Loss}
use Rattle.mcv_lines.specs.declared.loss.Loss.TheVariants.{Idle, Broken, Late}
use Rattle.mcv_lines.specs.declared.sent.Sent.{Sent}

-- ---- legs of which no byte was written

abbrev pub texts_length : List Sent → ℕ
texts_length [] = 0
texts_length (s ∷ rest) = s.length + texts_length rest

-- of the texts that were sent so many last bytes weren't written: so many of the newest legs have their whole texts among these
abbrev pub count_unwritten : (bytes : ℕ) → List Sent → ℕ
count_unwritten bytes [] = 0
count_unwritten bytes (s ∷ rest) = cond (leb (texts_length (s ∷ rest)) bytes) (length (s ∷ rest)) (count_unwritten bytes rest)

-- how many legs are taken as unwritten, of so many that are: none over a connection over which no leg has landed, and none whose time ran out
abbrev pub taken_unwritten : Loss → (is_kept : Bool) → ℕ → ℕ
taken_unwritten Idle true count = count
taken_unwritten Broken true count = count
taken_unwritten Late true count = 0
taken_unwritten loss false count = 0

-- ---- what becomes of each

-- it is sent once more: it was sent once, and no byte of it was written, or its operation may be performed twice
abbrev pub goes_again : Loss → (is_unwritten : Bool) → Sent → Bool
goes_again loss is_unwritten s = not s.is_again && (is_unwritten || may_repeat s.flight.request.op loss)

-- those that are, in their order, where so many of the newest are unwritten
abbrev pub again_of : Loss → (unwritten : ℕ) → List Sent → List Flight
again_of loss unwritten [] = []
again_of loss unwritten (s ∷ rest) = cond (goes_again loss (ltb (length rest) unwritten) s) (s.flight ∷ again_of loss unwritten rest) (again_of loss unwritten rest)

-- the oldest one that is lost with its connection counts as a failure of the server, and no other one does
abbrev pub lost_leg : ServerId → Bool → LegId → Arrival
lost_leg server true leg = record { server = server; leg = leg; reply = Err Lost }
lost_leg server false leg = record { server = server; leg = leg; reply = Err LostToo }

-- those that aren't sent once more, in their order
abbrev pub lost_of : ServerId → Loss → (unwritten : ℕ) → (is_oldest : Bool) → List Sent → List Arrival
lost_of server loss unwritten is_oldest [] = []
lost_of server loss unwritten is_oldest (s ∷ rest) = cond (goes_again loss (ltb (length rest) unwritten) s) (lost_of server loss unwritten is_oldest rest) (lost_leg server is_oldest s.flight.leg ∷ lost_of server loss unwritten false rest)

-- what a loss is to the legs in flight over a connection: none of an idle one, where no leg has landed over it or something of the oldest one's reply may have come
abbrev pub taken_for : Loss → (is_kept : Bool) → (has_begun : Bool) → Loss
taken_for Idle true false = Idle
taken_for Idle true true = Broken
taken_for Idle false has_begun = Broken
taken_for Broken is_kept has_begun = Broken
taken_for Late is_kept has_begun = Late
