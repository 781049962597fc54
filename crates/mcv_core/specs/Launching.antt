-- Entries that are launched one after another (own).
use Rattle.std.specs.Prelude.{◌≡◌, ◌<◌, ◌≤◌, ◌+◌, ◌^◌, ℕ, suc, Bool, true, false, List, [], ◌∷◌, Option, Some, None, length, drop, nat_lt, option_map, option_and_then, slice_get}
use Rattle.mcv_queues.specs.declared.leg.Leg.{Leg}
use Rattle.mcv_queues.specs.declared.leg.State.TheVariants.{Waiting}
use Rattle.mcv_world.specs.World.{put}
use Rattle.mcv_core.specs.declared.errand.Errand.{Errand}
use Rattle.mcv_core.specs.declared.launch.Entry.{Entry}
use Rattle.mcv_core.specs.Errands.{launch_of}

-- what an entry has ready
abbrev pub errand_at : List Entry → ℕ → Option Errand
errand_at entries e = option_and_then (λ x. x.errand) (slice_get entries e)

-- of each entry the number of its leg
abbrev pub numbers_of : List Entry → ℕ → Option ℕ
numbers_of entries e = option_and_then (λ x. x.leg) (slice_get entries e)

-- of each entry the place of its reply
abbrev pub places_of : List Entry → ℕ → Option ℕ
places_of entries e = option_and_then (λ x. x.place) (slice_get entries e)

abbrev pub waiting_leg : Errand → Leg Errand
waiting_leg e = record { server = (launch_of e).server; state = Waiting; «record» = None; content = e }

-- the legs of these entries wait under the numbers from n on
abbrev pub with_legs : ℕ → List ℕ → List Entry → (ℕ → Option (Leg Errand)) → ℕ → Option (Leg Errand)
with_legs n [] entries legs = legs
with_legs n (e ∷ fresh) entries legs = with_legs (suc n) fresh entries (put legs n (option_map waiting_leg (errand_at entries e)))

-- and the entries have these numbers
abbrev pub with_numbers : ℕ → List ℕ → (ℕ → Option ℕ) → ℕ → Option ℕ
with_numbers n [] numbers = numbers
with_numbers n (e ∷ fresh) numbers = with_numbers (suc n) fresh (put numbers e (Some n))

abbrev pub is_ready : ℕ → Option Errand → Bool
is_ready servers None = false
is_ready servers (Some e) = nat_lt (launch_of e).server.0 servers

-- the entries can be launched: there is room, their numbers are free, and each has ready what its leg takes with it
pub record CanLaunch (fresh : List ℕ) (entries : List Entry) (legs : ℕ → Option (Leg Errand)) (room servers next : ℕ) : Type 0 where
  pub fits : length fresh ≤ room
  pub numbers : next + length fresh < 2 ^ 64
  pub free : (n : ℕ) → next ≤ n → legs n ≡ None
  pub ready : (i e : ℕ) → slice_get fresh i ≡ Some e → is_ready servers (errand_at entries e) ≡ true
  pub apart : (i j e : ℕ) → slice_get fresh i ≡ Some e → slice_get fresh j ≡ Some e → i ≡ j

pub record IsLaunched (next : ℕ) (fresh : List ℕ) (old new : List Entry) (legs after : ℕ → Option (Leg Errand)) : Type 0 where
  pub legs_are : after ≡ with_legs next fresh old legs
  pub numbers : numbers_of new ≡ with_numbers next fresh (numbers_of old)
  pub places : (e : ℕ) → places_of new e ≡ places_of old e
  pub len : length new ≡ length old
  -- those that aren't launched are as they were
  pub others : (e : ℕ) (x : Entry) → slice_get new e ≡ Some x → x.leg ≡ None → slice_get old e ≡ Some x

-- ---- how far it has come

-- before the i-th of them: what is left leads to what all lead to
pub record HasCome (next number i : ℕ) (fresh : List ℕ) (was entries : List Entry) (old legs : ℕ → Option (Leg Errand)) (had room : ℕ) : Type 0 where
  pub legs_are : with_legs number (drop i fresh) was legs ≡ with_legs next fresh was old
  pub numbers : with_numbers number (drop i fresh) (numbers_of entries) ≡ with_numbers next fresh (numbers_of was)
  pub places : (e : ℕ) → places_of entries e ≡ places_of was e
  pub len : length entries ≡ length was
  pub others : (e : ℕ) (x : Entry) → slice_get entries e ≡ Some x → x.leg ≡ None → slice_get was e ≡ Some x
  pub still : (j e : ℕ) → i ≤ j → slice_get fresh j ≡ Some e → slice_get entries e ≡ slice_get was e
  pub number_is : number ≡ next + i
  pub room_is : had ≤ room + i
  pub free : (n : ℕ) → number ≤ n → legs n ≡ None
