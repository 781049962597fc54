use Rattle.std.proofs.Common.{◌≡◌, take}
use Rattle.std.specs.Str.Parse.{AllDigits, digits_value}
use Rattle.mcv_text.proofs.words.number.Given as goal

abbrev pub invariant-loop-b : goal.invariant-loop-b
invariant-loop-b l = record {
  digits : AllDigits 10 (take l.b-index l.word);
  value_is : l.value ≡ digits_value 10 (take l.b-index l.word);
}
