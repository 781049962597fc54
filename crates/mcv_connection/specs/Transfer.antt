-- What one read and one write of a connection do to its bytes (own).
use Rattle.std.specs.Prelude.{◌≤◌, ℕ, List, [], Option, length, take}
use Rattle.std.specs.Io.KnownBytes.{Appends, Consumes, IsAtEnd}
use Rattle.mcv_connection.specs.declared.transfer.Received.{Received}
use Rattle.mcv_connection.specs.declared.transfer.Received.TheVariants as received
use Rattle.mcv_connection.specs.declared.transfer.Sent.{Sent}
use Rattle.mcv_connection.specs.declared.transfer.Sent.TheVariants as sent

-- the bytes that were left begin with those in the room, and lose them; else none is lost
abbrev pub Gives : Received → (room : List ℕ) (old new : Option (List ℕ)) → Type 0
Gives (received.Bytes n) room old new = (n ≤ length room) × Consumes old new (take n room)
Gives received.NotNow room old new = Consumes old new []
Gives received.End room old new = Consumes old new [] × IsAtEnd new
Gives received.Broken room old new = Consumes old new []

-- the first of these bytes are behind those that were written; else none is
abbrev pub Takes : Sent → (bytes : List ℕ) (old new : Option (List ℕ)) → Type 0
Takes (sent.Bytes n) bytes old new = (n ≤ length bytes) × Appends old new (take n bytes)
Takes sent.NotNow bytes old new = Appends old new []
Takes sent.Broken bytes old new = Appends old new []
