-- How far two heaps have become one: the invariant of the loop of `meld`.
use Rattle.std.specs.Prelude.{◌≡◌, ◌<◌, ℕ, Bool, Option, Some}
use Rattle.mcv_queues.specs.declared.rows.Rows.{Rows}
use Rattle.mcv_queues.specs.Forest.{IsForest}
use Rattle.mcv_queues.specs.Rows.{links, legs, room}
use Rattle.mcv_queues.specs.Heap.{IsBefore, IsMelding}

pub record IsUnderWay {T : Type 0} (old new : Rows T) (top other upper lower : ℕ) : Type 0 where
  pub melds : (w : ℕ → Bool) (c : Option ℕ) → top < other → IsForest w (links old) (Some top) (Some other) c → IsBefore c (Some top) → IsMelding w (links old) (links new) top upper lower c
  pub same_legs : legs new ≡ legs old
  pub same_room : room new ≡ room old
