-- The operations of the classic text protocol (memcached, protocol.txt).
use Rattle.std.specs.Prelude.{ℕ, List, Bool, true, false, ◌==◌, ◌||◌, codes}
use Rattle.mcv_base.specs.declared.operation.Op.{Op}
use Rattle.mcv_base.specs.declared.operation.Op.TheVariants.{Get, Gets, Set, Add, Replace, Append, Prepend, Cas, Delete, Touch, Incr, Decr}
use Rattle.mcv_base.specs.declared.operation.Mark.{Mark}
use Rattle.mcv_base.specs.declared.operation.Mark.TheVariants.{Plain, Async, Shadow}
use Rattle.mcv_base.specs.declared.operation.Mark.TheVariants.{Add as Added}

-- the first word of its request line
abbrev pub op_name : Op → List ℕ
op_name Get = codes "get"
op_name Gets = codes "gets"
op_name Set = codes "set"
op_name Add = codes "add"
op_name Replace = codes "replace"
op_name Append = codes "append"
op_name Prepend = codes "prepend"
op_name Cas = codes "cas"
op_name Delete = codes "delete"
op_name Touch = codes "touch"
op_name Incr = codes "incr"
op_name Decr = codes "decr"

-- its place in the list of operations
abbrev pub op_number : Op → ℕ
op_number Get = 0
op_number Gets = 1
op_number Set = 2
op_number Add = 3
op_number Replace = 4
op_number Append = 5
op_number Prepend = 6
op_number Cas = 7
op_number Delete = 8
op_number Touch = 9
op_number Incr = 10
op_number Decr = 11

abbrev pub is_same_op : Op → Op → Bool
is_same_op a b = op_number a == op_number b

-- a get or gets
abbrev pub is_reading : Op → Bool
is_reading Get = true
is_reading Gets = true
is_reading Set = false
is_reading Add = false
is_reading Replace = false
is_reading Append = false
is_reading Prepend = false
is_reading Cas = false
is_reading Delete = false
is_reading Touch = false
is_reading Incr = false
is_reading Decr = false

-- an incr or decr (protocol.txt, "Increment/Decrement")
abbrev pub is_adjusting : Op → Bool
is_adjusting Get = false
is_adjusting Gets = false
is_adjusting Set = false
is_adjusting Add = false
is_adjusting Replace = false
is_adjusting Append = false
is_adjusting Prepend = false
is_adjusting Cas = false
is_adjusting Delete = false
is_adjusting Touch = false
is_adjusting Incr = true
is_adjusting Decr = true

-- an operation whose Good reply tells what value the server has: get, gets, incr and decr
abbrev pub shows_value : Op → Bool
shows_value op = is_reading op || is_adjusting op

-- an operation that sends a value to be stored (protocol.txt, "Storage commands")
abbrev pub is_storing : Op → Bool
is_storing Get = false
is_storing Gets = false
is_storing Set = true
is_storing Add = true
is_storing Replace = true
is_storing Append = true
is_storing Prepend = true
is_storing Cas = true
is_storing Delete = false
is_storing Touch = false
is_storing Incr = false
is_storing Decr = false

abbrev pub is_delete : Op → Bool
is_delete Get = false
is_delete Gets = false
is_delete Set = false
is_delete Add = false
is_delete Replace = false
is_delete Append = false
is_delete Prepend = false
is_delete Cas = false
is_delete Delete = true
is_delete Touch = false
is_delete Incr = false
is_delete Decr = false

-- a leg counts for an acknowledged delete unless it is a shadow's (own)
abbrev pub is_counting : Mark → Bool
is_counting Plain = true
is_counting Async = true
is_counting Added = true
is_counting Shadow = false
