-- How a loop comes to its end (own).
use Rattle.std.specs.Prelude.{◌≡◌, ℕ, true}
use Rattle.mcv_schedule.specs.Ending.{is_without_clients}
use Rattle.mcv_schedule.specs.declared.ending.Ending.{Ending}
use Rattle.mcv_loop.specs.declared.main_loop.LoopEnd.{LoopEnd}
use Rattle.mcv_loop.specs.declared.main_loop.LoopEnd.TheVariants as ends

-- a loop that is done was asked for its end, and has no client left; one whose sources can't go on may end at any time
abbrev pub HasEnded : LoopEnd → Ending → (clients : ℕ) → Type 0
HasEnded (ends.Done left) e clients = is_without_clients e clients ≡ true
HasEnded (ends.Fault fault) e clients = Unit {0}
