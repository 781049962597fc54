-- The text of a finding, line by line (own).
use Rattle.std.specs.Prelude.{ℕ, zero, suc, List, [], ◌∷◌, ◌++◌, ◌==◌, codes, decimal, if◌then◌else◌, nat_lt, slice_get, slice_index, unwrap_or}
use Rattle.std.specs.List.{flat_map}
use Rattle.mcv_base.specs.declared.operation.Op.{Op}
use Rattle.mcv_base.specs.declared.operation.Op.TheVariants.{Delete}
use Rattle.mcv_base.specs.declared.reply.Outcome.{Outcome}
use Rattle.mcv_base.specs.declared.reply.Outcome.TheVariants.{Good, Soft, Error}
use Rattle.mcv_base.specs.Operation.{is_adjusting, is_reading, op_name}
use Rattle.mcv_base.specs.Position.{position_text}
use Rattle.mcv_cert.specs.Escape.{escaped, escaped_byte}
use Rattle.mcv_cert.specs.Pair.{SpotValue}
use Rattle.mcv_pools.specs.declared.symbol.HashFunc.{HashFunc}
use Rattle.mcv_pools.specs.declared.symbol.HashFunc.TheVariants.{Ch3, Crc32}
use Rattle.mcv_pools.specs.Symbol.{SymbolValue}
use Rattle.mcv_route.specs.Outcomes.{History}
use Rattle.mcv_route.specs.Routes.{RoutesValue}
use Rattle.mcv_witness.specs.Finding.{FindingValue}

-- `<word> <value>`
abbrev pub line : List ℕ → List ℕ → List ℕ
line word value = word ++ codes " " ++ value ++ codes "\n"

-- ---- the index lines

abbrev pub func_name : HashFunc → List ℕ
func_name Ch3 = codes "Ch3"
func_name Crc32 = codes "Crc32"

-- `/` as `%2F` and `=` as `%3D`, and any other byte as in a class word
abbrev pub salt_byte : ℕ → List ℕ
salt_byte b = if b == 47 then codes "%2F" else (if b == 61 then codes "%3D" else escaped_byte b)

-- `<func>/<salt>/<n>=<i>`
abbrev pub index_text : SymbolValue → ℕ → List ℕ
index_text s i = func_name s.func ++ codes "/" ++ flat_map salt_byte s.salt ++ codes "/" ++ decimal s.n ++ codes "=" ++ decimal i

-- a line for a symbol over more than one server
abbrev pub index_line : SymbolValue → ℕ → List ℕ
index_line s i = if nat_lt 1 s.n then line (codes "index") (index_text s i) else []

-- those of the symbols from number k on, in the order of the table
abbrev pub index_lines : List ℕ → ℕ → List SymbolValue → List ℕ
index_lines choice k [] = []
index_lines choice k (s ∷ symbols) = index_line s (slice_index choice k) ++ index_lines choice (suc k) symbols

-- ---- the lines of the get and the delete

abbrev pub read_word : Outcome → List ℕ
read_word Good = codes "hit"
read_word Soft = codes "miss"
read_word Error = codes "error"

abbrev pub number_word : Outcome → List ℕ
number_word Good = codes "number"
number_word Soft = codes "absent"
number_word Error = codes "error"

abbrev pub done_word : Outcome → List ℕ
done_word Good = codes "deleted"
done_word Soft = codes "absent"
done_word Error = codes "error"

abbrev pub outcome_word : Op → Outcome → List ℕ
outcome_word op x = if is_reading op then read_word x else if is_adjusting op then number_word x else done_word x

-- `<position>=<word>`
abbrev pub answer_text : Op → List ℕ × Outcome → List ℕ
answer_text op e = position_text e.0 ++ codes "=" ++ outcome_word op e.1

-- these with single spaces between them, or `-` where there are none
abbrev pub answers_text : Op → History → List ℕ
answers_text op [] = codes "-"
answers_text op (e ∷ es) = answer_text op e ++ flat_map (λ x. codes " " ++ answer_text op x) es

-- ---- the whole

-- the delete's era, and with a window that of the get
abbrev pub eras_text : ℕ → SpotValue → List ℕ
eras_text zero s = decimal s.era
eras_text (suc w) s = decimal s.era ++ codes " " ++ decimal s.get_era

-- the text of the server, and none where it isn't in the table
abbrev pub lost_line : RoutesValue → FindingValue → List ℕ
lost_line r f = line (codes "lost") (unwrap_or (slice_get r.servers f.server) [])

abbrev pub finding_text : RoutesValue → FindingValue → List ℕ
finding_text r f =
    lost_line r f
    ++ line (codes "route") (decimal f.place.spot.route)
    ++ line (codes "class") (codes "=" ++ escaped f.place.spot.class)
    ++ line (codes "era") (eras_text f.window f.place.spot)
    ++ line (codes "key") (escaped f.key)
    ++ index_lines f.choice 0 r.symbols
    ++ line (op_name f.op) (answers_text f.op f.gets)
    ++ line (op_name Delete) (answers_text Delete f.deletes)
