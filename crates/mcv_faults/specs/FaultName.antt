-- The names of the faults of configurations, and of certificates (own).
use Rattle.std.specs.Prelude.{ℕ, List, codes}
use Rattle.mcv_names.specs.declared.fault.FaultKind.{FaultKind}
use Rattle.mcv_names.specs.declared.fault.FaultKind.TheVariants.{NotJson, UnknownKey, WrongKind, UnknownHandle, UnknownPool, Empty, Limit, BadServer, AliasTwice, LeftOut}

abbrev pub fault_name : FaultKind → List ℕ
fault_name NotJson = codes "not JSON"
fault_name UnknownKey = codes "unknown key or operation"
fault_name WrongKind = codes "wrong kind of value, or missing key"
fault_name UnknownHandle = codes "unknown route handle"
fault_name UnknownPool = codes "unknown pool"
fault_name Empty = codes "empty list"
fault_name Limit = codes "over a limit"
fault_name BadServer = codes "bad server text"
fault_name AliasTwice = codes "alias that comes twice"
fault_name LeftOut = codes "left out of mcv"
