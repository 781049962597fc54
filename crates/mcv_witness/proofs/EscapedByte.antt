-- A word of one byte is escaped as the byte is.
use Rattle.std.proofs.Common.{◌≡◌, ℕ, [], ◌∷◌, append-nil}
use Rattle.mcv_cert.specs.Escape.{escaped, escaped_byte}

pub escaped_one : (b : ℕ) → escaped (b ∷ []) ≡ escaped_byte b
escaped_one b = append-nil (escaped_byte b)
