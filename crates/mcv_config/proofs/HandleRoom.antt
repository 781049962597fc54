-- What is read with room for its handles, where the pools and the table of servers stay within their limits.
use Rattle.std.proofs.Common.{ℕ, ◌+◌, ◌≤◌, List, [], ◌∷◌, ◌++◌, length, arith}
use Rattle.std.specs.List.{AllByRecursion}
use Rattle.serde_json.specs.Data.{Data, Members, no_members, member}
use Rattle.mcv_pools.specs.Table.{server_limit}
use Rattle.mcv_names.specs.Fault.{Read, good, bad, also}
use Rattle.mcv_names.specs.Lists.{each, each_member, member_names}
use Rattle.mcv_names.specs.Path.{key_step, item_step}
use Rattle.mcv_names.proofs.ReadFacts.{Holds, holds_bind}
use Rattle.mcv_config.specs.Pools.{Table, pool_limit}
use Rattle.mcv_config.specs.Walk.{SoFar}

pub holds_more : {A : Type 0} (P Q : A → Type 0) (r : Read A) → ((x : A) → P x → Q x) → Holds P r → Holds Q r
holds_more P Q (good x) k h = k x h
holds_more P Q (bad faults) k h = tt

-- what the first says is known of the second
pub holds_both : {A B : Type 0} (P : Type 0) (Q : B → Type 0) (r : Read A) (s : Read B) → Holds (λ _. P) r → (P → Holds Q s) → Holds Q (also r s)
holds_both P Q (good x) s h k = k h
holds_both P Q (bad faults) (good y) h k = tt
holds_both P Q (bad faults) (bad more) h k = tt

-- ---- pools and servers

abbrev pub IsSmallPool : List ℕ → Type 0
IsSmallPool pool = length pool ≤ pool_limit

abbrev pub AreSmall : List (List ℕ) → Type 0
AreSmall pools = AllByRecursion IsSmallPool pools

abbrev pub IsFew : Table → Type 0
IsFew table = length table ≤ server_limit

abbrev pub IsSmall : SoFar → Type 0
IsSmall w = AreSmall w.pools.servers × IsFew w.table

pub pool_more : (pools : List (List ℕ)) (pool : List ℕ) → AreSmall pools → IsSmallPool pool → AreSmall (pools ++ pool ∷ [])
pool_more [] pool h k = (k, tt)
pool_more (p ∷ pools) pool h k = (h.0, pool_more pools pool h.1 k)

-- ---- room

-- P of what was read, whose handles had room, and the pools are small with it
pub record Fits {A : Type 0} (P : A → Type 0) (count : A → ℕ) (room : ℕ) (x : A × SoFar) : Type 0 where
  pub holds : P x.0
  pub room_left : count x.0 + x.1.room ≤ room
  pub small : IsSmall x.1

abbrev pub no_handle : {A : Type 0} → A → ℕ
no_handle x = 0

pub still : {A : Type 0} (P : A → Type 0) (w : SoFar) (x : A) → IsSmall w → P x → Fits P no_handle w.room (x, w)
still P w x s h = record { holds = h; room_left = omega arith; small = s }

-- the handles of all
abbrev pub counts : {A : Type 0} → (A → ℕ) → List A → ℕ
counts count [] = 0
counts count (x ∷ xs) = count x + counts count xs

module _ {A : Type 0} (P : A → Type 0) (count : A → ℕ) where
  abbrev pub Each : List A → Type 0
  Each xs = AllByRecursion P xs

  pub none_fit : (w : SoFar) → IsSmall w → Fits Each (counts count) w.room ([], w)
  none_fit w s = record { holds = tt; room_left = omega arith; small = s }

  pub more_fit : (room : ℕ) (x : A × SoFar) (xs : List A × SoFar) → Fits P count room x → Fits Each (counts count) x.1.room xs → Fits Each (counts count) room (x.0 ∷ xs.0, xs.1)
  more_fit room x xs h k = record { holds = (h.holds, k.holds); room_left = omega (arith, h.room_left, k.room_left); small = k.small }

  pub each_fits : (reader : SoFar → List ℕ → Data → Read (A × SoFar)) → ((w : SoFar) (p : List ℕ) (d : Data) → IsSmall w → Holds (Fits P count w.room) (reader w p d))
      → (w : SoFar) (path : List ℕ) (i : ℕ) (ds : List Data) → IsSmall w → Holds (Fits Each (counts count) w.room) (each reader w path i ds)
  unfolding each
  each_fits reader one w path i [] s = none_fit w s
  each_fits reader one w path i (d ∷ ds) s =
      holds_bind (Fits P count w.room) (Fits Each (counts count) w.room) (reader w (item_step path i) d) _ (one w (item_step path i) d s)
      (λ x h. holds_bind (Fits Each (counts count) x.1.room) (Fits Each (counts count) w.room) (each reader x.1 path (i + 1) ds) _ (each_fits reader one x.1 path (i + 1) ds h.small)
      (λ xs k. more_fit w.room x xs h k))

  -- N of each name
  pub each_member_fits : (N : List ℕ → Type 0) (reader : SoFar → List ℕ → List ℕ → Data → Read (A × SoFar)) → ((w : SoFar) (p name : List ℕ) (d : Data) → N name → IsSmall w → Holds (Fits P count w.room) (reader w p name d))
      → (w : SoFar) (path : List ℕ) (ms : Members) → AllByRecursion N (member_names ms) → IsSmall w → Holds (Fits Each (counts count) w.room) (each_member reader w path ms)
  unfolding each_member
  each_member_fits N reader one w path no_members ns s = none_fit w s
  each_member_fits N reader one w path (member name d ms) ns s =
      holds_bind (Fits P count w.room) (Fits Each (counts count) w.room) (reader w (key_step path name) name d) _ (one w (key_step path name) name d ns.0 s)
      (λ x h. holds_bind (Fits Each (counts count) x.1.room) (Fits Each (counts count) w.room) (each_member reader x.1 path ms) _ (each_member_fits N reader one x.1 path ms ns.1 h.small)
      (λ xs k. more_fit w.room x xs h k))
