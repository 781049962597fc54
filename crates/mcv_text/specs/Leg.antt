-- What a leg sends its server (memcached, protocol.txt): single spaces, no leading zeros, no noreply, one key.
use Rattle.std.specs.Prelude.{◌≡◌, ◌≤◌, ◌<◌, ◌^◌, ℕ, ℤ, pos, negsuc, List, [], ◌∷◌, ◌++◌, length, Option, Some, None, true, false, codes, decimal, unwrap_or}
use Rattle.std.specs.Fmt.{signed_decimal}
use Rattle.std.specs.Arc.{arc_value}
use Rattle.mcv_base.specs.declared.operation.Op.{Op}
use Rattle.mcv_base.specs.declared.operation.Op.TheVariants.{Get, Gets, Set, Add, Replace, Append, Prepend, Cas, Delete, Touch, Incr, Decr}
use Rattle.mcv_base.specs.Operation.{op_name}
use Rattle.mcv_base.specs.Key.{is_key_word}
use Rattle.mcv_base.specs.declared.request.LegRequest.{LegRequest}
use Rattle.mcv_text.specs.Request.{AskValue}
use Rattle.mcv_text.specs.Answer.{line_end}

-- one request to one server, without where it lies in memory
pub record LegValue : Type 0 where
  pub op : Op
  pub rest : List ℕ
  pub flags : ℕ
  pub exptime : ℤ
  pub body : List ℕ
  pub cas : Option ℕ
  pub delta : ℕ

abbrev pub leg_value : LegRequest → LegValue
leg_value leg = record { op = leg.op; rest = arc_value leg.rest; flags = leg.flags; exptime = leg.exptime; body = (arc_value leg.body).items; cas = leg.cas; delta = leg.delta }

-- ` <flags> <exptime> <bytes>`
abbrev pub value_words : LegValue → List ℕ
value_words leg = codes " " ++ decimal leg.flags ++ codes " " ++ signed_decimal leg.exptime ++ codes " " ++ decimal (length leg.body)

-- the words behind the key
abbrev pub more_words : Op → LegValue → List ℕ
more_words Get leg = []
more_words Gets leg = []
more_words Set leg = value_words leg
more_words Add leg = value_words leg
more_words Replace leg = value_words leg
more_words Append leg = value_words leg
more_words Prepend leg = value_words leg
more_words Cas leg = value_words leg ++ codes " " ++ decimal (unwrap_or leg.cas 0)
more_words Delete leg = []
more_words Touch leg = codes " " ++ signed_decimal leg.exptime
more_words Incr leg = codes " " ++ decimal leg.delta
more_words Decr leg = codes " " ++ decimal leg.delta

-- the value with its CR LF, where the operation has one
abbrev pub value_block : Op → LegValue → List ℕ
value_block Get leg = []
value_block Gets leg = []
value_block Set leg = leg.body ++ line_end
value_block Add leg = leg.body ++ line_end
value_block Replace leg = leg.body ++ line_end
value_block Append leg = leg.body ++ line_end
value_block Prepend leg = leg.body ++ line_end
value_block Cas leg = leg.body ++ line_end
value_block Delete leg = []
value_block Touch leg = []
value_block Incr leg = []
value_block Decr leg = []

abbrev pub leg_text : LegValue → List ℕ
leg_text leg = op_name leg.op ++ codes " " ++ leg.rest ++ more_words leg.op leg ++ line_end ++ value_block leg.op leg

-- the request that the leg is: of its rest alone, and with an answer
abbrev pub leg_ask : LegValue → AskValue
leg_ask leg = record { op = leg.op; keys = leg.rest ∷ []; flags = leg.flags; exptime = leg.exptime; body = leg.body; cas = leg.cas; delta = leg.delta; noreply = false }

-- an i64
abbrev pub IsSigned64 : ℤ → Type 0
IsSigned64 (pos n) = n < 2 ^ 63
IsSigned64 (negsuc n) = n < 2 ^ 63

-- the leg of a storing operation other than cas
pub record IsStoring (leg : LegValue) : Type 0 where
  pub flags : leg.flags < 2 ^ 32
  pub exptime : IsSigned64 leg.exptime
  pub body : length leg.body ≤ 1048576
  pub cas : leg.cas ≡ None
  pub delta : leg.delta ≡ 0

-- that of an operation with a key alone
pub record IsBare (leg : LegValue) : Type 0 where
  pub flags : leg.flags ≡ 0
  pub exptime : leg.exptime ≡ pos 0
  pub body : leg.body ≡ []
  pub cas : leg.cas ≡ None
  pub delta : leg.delta ≡ 0

pub record IsCas (leg : LegValue) : Type 0 where
  pub flags : leg.flags < 2 ^ 32
  pub exptime : IsSigned64 leg.exptime
  pub body : length leg.body ≤ 1048576
  pub number : ℕ
  pub small : number < 2 ^ 64
  pub cas : leg.cas ≡ Some number
  pub delta : leg.delta ≡ 0

pub record IsTouch (leg : LegValue) : Type 0 where
  pub flags : leg.flags ≡ 0
  pub exptime : IsSigned64 leg.exptime
  pub body : leg.body ≡ []
  pub cas : leg.cas ≡ None
  pub delta : leg.delta ≡ 0

pub record IsAdjusting (leg : LegValue) : Type 0 where
  pub flags : leg.flags ≡ 0
  pub exptime : leg.exptime ≡ pos 0
  pub body : leg.body ≡ []
  pub cas : leg.cas ≡ None
  pub delta : leg.delta < 2 ^ 64

-- the leg has each field of its operation, the others are 0, empty or None, and its value is within the limit
abbrev pub HasFields : Op → LegValue → Type 0
HasFields Get leg = IsBare leg
HasFields Gets leg = IsBare leg
HasFields Set leg = IsStoring leg
HasFields Add leg = IsStoring leg
HasFields Replace leg = IsStoring leg
HasFields Append leg = IsStoring leg
HasFields Prepend leg = IsStoring leg
HasFields Cas leg = IsCas leg
HasFields Delete leg = IsBare leg
HasFields Touch leg = IsTouch leg
HasFields Incr leg = IsAdjusting leg
HasFields Decr leg = IsAdjusting leg

pub record IsWholeLeg (leg : LegValue) : Type 0 where
  pub rest : is_key_word leg.rest ≡ true
  pub fields : HasFields leg.op leg
