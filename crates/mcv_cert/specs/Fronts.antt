-- What the reader found at the front of a text. No public contract cites it.
use Rattle.std.specs.Prelude.{◌≡◌, ℕ, ◌<◌, List, ◌++◌, length}
use Rattle.mcv_cert.specs.declared.read.Front.{Front}
use Rattle.mcv_cert.specs.declared.read.Front.TheVariants.{Line, Last, Nothing}
use Rattle.mcv_cert.specs.Pair.{IsPair, pair_of}
use Rattle.mcv_cert.specs.Reading.{IsNoLine}
use Rattle.mcv_cert.specs.Text.{last_line, pair_line}

abbrev pub IsFront : ℕ → List ℕ → Front → Type 0
IsFront w text (Line pair later) = IsPair w (pair_of pair) × (text ≡ pair_line w (pair_of pair) ++ later.now) × (length later.now < length text)
IsFront w text (Last later) = text ≡ last_line ++ later.now
IsFront w text Nothing = IsNoLine w text
