-- How many lines are said in a second (own).
use Rattle.std.specs.Prelude.{ℕ, Bool, ◌+◌, ◌==◌, nat_lt, if◌then◌else◌}
use Rattle.mcv_pace.specs.declared.pace.Pace.{Pace}

-- in a second of which no line has come nothing was said
abbrev pub entered : Pace → ℕ → Pace
entered p second = if p.second == second then p else record { second = second; said = 0; held = 0 }

-- how many lines weren't said in a second before it, of which nobody was told
abbrev pub left_over : Pace → ℕ → ℕ
left_over p second = if p.second == second then 0 else p.held

-- a line is said where fewer than ten were in its second
abbrev pub admits : Pace → Bool
admits p = nat_lt p.said 10

-- each line is said or counted
abbrev pub with_line : Pace → Pace
with_line p = if admits p then record p { said = p.said + 1 } else record p { held = p.held + 1 }
