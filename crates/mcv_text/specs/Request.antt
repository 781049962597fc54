-- Requests and items as values, without where they lie in memory.
use Rattle.std.specs.Prelude.{ℕ, ℤ, Bool, List, [], map, Option}
use Rattle.std.specs.Arc.{arc_value}
use Rattle.mcv_base.specs.declared.operation.Op.{Op}
use Rattle.mcv_base.specs.declared.request.Request.{Request}
use Rattle.mcv_base.specs.declared.request.Request.TheVariants as requests
use Rattle.mcv_text.specs.declared.item.Item.{Item}
use Rattle.mcv_text.specs.declared.item.Item.TheVariants as items
use Rattle.mcv_text.specs.declared.item.Refusal.{Refusal}
use Rattle.mcv_text.specs.declared.line.Header.{Header}

-- what a client asks servers; what an operation hasn't is 0, empty or None
pub record AskValue : Type 0 where
  pub op : Op
  pub keys : List (List ℕ)
  pub flags : ℕ
  pub exptime : ℤ
  pub body : List ℕ
  pub cas : Option ℕ
  pub delta : ℕ
  pub noreply : Bool

pub data RequestValue : Type 0 where
  asking : AskValue → RequestValue
  version : RequestValue
  quit : RequestValue

pub data ItemValue : Type 0 where
  asked : RequestValue → ItemValue
  refused : Refusal → ItemValue

abbrev pub request_value : Request → RequestValue
request_value (requests.Ask a) = asking (record { op = a.op; keys = map (λ key. key.items) a.keys.items; flags = a.flags; exptime = a.exptime; body = (arc_value a.body).items; cas = a.cas; delta = a.delta; noreply = a.noreply })
request_value requests.Version = version
request_value requests.Quit = quit

abbrev pub item_value : Item → ItemValue
item_value (items.Asked r) = asked (request_value r)
item_value (items.Refused refusal) = refused refusal

-- a storing line, before its value
abbrev pub header_value : Header → AskValue
header_value h = record { op = h.op; keys = map (λ key. key.items) h.keys.items; flags = h.flags; exptime = h.exptime; body = []; cas = h.cas; delta = 0; noreply = h.noreply }

abbrev pub with_body : AskValue → List ℕ → AskValue
with_body ask value = record ask { body = value }
