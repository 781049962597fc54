-- Eras and chapters (own).
use Rattle.std.specs.Prelude.{◌≡◌, ◌+◌, ◌<◌, ◌^◌, ℕ, Option, Some, None, option_map}
use Rattle.mcv_world.specs.Moves.{Move, EraBegan}
use Rattle.mcv_events.specs.Rows as rows
use Rattle.mcv_events.specs.Rows.{LegRow, Rows}
use Rattle.mcv_events.specs.Sums.{sum_below}
use Rattle.mcv_core.specs.CoreView.{CoreView}
use Rattle.mcv_core.specs.Soundness.{spooled_one}
use Rattle.mcv_core.specs.declared.turn.Era.{Era}

abbrev pub era_move : Option Era → Option Move
era_move None = None
era_move (Some era) = Some (EraBegan (option_map (λ m. m.0) era.since))

abbrev pub in_era : CoreView → Option ℕ → CoreView
in_era v since = record v { rows = record v.rows { since = since } }

-- how many legs are in the spool
abbrev pub spooled_legs : Rows → ℕ
spooled_legs w = sum_below spooled_one w.legs w.next_leg

-- no call runs, and each leg is in the spool and not in flight
pub record IsAtRest (v : CoreView) : Type 0 where
  pub calls : (k : ℕ) → v.rows.calls k ≡ None
  pub legs : (n : ℕ) (s : LegRow) → v.rows.legs n ≡ Some s → s.state ≡ rows.InSpool

-- and the chapter's number isn't the greatest
pub record CanTurn (v : CoreView) : Type 0 where
  pub rests : IsAtRest v
  pub number : v.chapter + 1 < 2 ^ 64

-- the next chapter, in which each leg of the spool may write an entry
abbrev pub turned : CoreView → CoreView
turned v = record v { chapter = v.chapter + 1; entries = spooled_legs v.rows }
