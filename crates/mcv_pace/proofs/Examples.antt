-- The definitions at small counts.
use Rattle.std.proofs.Common.{◌≡◌, false, true, refl}
use Rattle.mcv_pace.specs.Pace.{admits, entered, left_over, with_line}
use Rattle.mcv_pace.specs.declared.pace.Pace.{Pace}

abbrev busy : Pace
busy = record { second = 7; said = 10; held = 3 }

tenth : admits (record { second = 7; said = 9; held = 0 }) ≡ true
tenth = refl

eleventh : admits busy ≡ false
eleventh = refl

counted : with_line busy ≡ record { second = 7; said = 10; held = 4 }
counted = refl

told : left_over busy 8 ≡ 3
told = refl

anew : entered busy 8 ≡ record { second = 8; said = 0; held = 0 }
anew = refl
