-- What a leg asks its server (memcached, protocol.txt, "Storage commands", "Increment/Decrement", "Touch", "Deletion", "Retrieval command").
use Rattle.std.specs.Prelude.{ℕ, ℤ, pos, List, [], Option, Some, None}
use Rattle.std.specs.Arc.{arc_value}
use Rattle.mcv_base.specs.declared.operation.Op.{Op}
use Rattle.mcv_base.specs.declared.request.LegRequest.{LegRequest}
use Rattle.mcv_base.specs.declared.request.Request.{Request}
use Rattle.mcv_base.specs.declared.request.Request.TheVariants.{Ask, Quit, Version}
use Rattle.mcv_base.specs.Reply.{ReplyValue, deleted, exists, fault, hit, miss, not_found, not_stored, number, stored, touched}
use Rattle.mcv_route.specs.Situation.{Situation}
use Rattle.mcv_route.specs.Tree.{Tree}
use Rattle.mcv_world.specs.World.{Recorded}
use Rattle.mcv_asks.specs.declared.request.Fields.{Fields as Kept}
use Rattle.mcv_asks.specs.Hits.{warm_reply}
use Rattle.mcv_asks.specs.WarmUps.{Warming, warm_up_of}

-- what comes with the operation and the key. Fields that the operation hasn't are 0, empty or None
pub record Fields : Type 0 where
  pub flags : ℕ
  -- seconds, or a moment, as memcached takes it
  pub exptime : ℤ
  pub body : List ℕ
  pub cas : Option ℕ
  pub delta : ℕ

abbrev pub no_fields : Fields
no_fields = record { flags = 0; exptime = pos 0; body = []; cas = None; delta = 0 }

-- those of what the client asked, if there is a client
abbrev pub client_fields : Option Request → Fields
client_fields None = no_fields
client_fields (Some (Ask a)) = record { flags = a.flags; exptime = a.exptime; body = (arc_value a.body).items; cas = a.cas; delta = a.delta }
client_fields (Some Version) = no_fields
client_fields (Some Quit) = no_fields

-- an add's: the value and the flags of the hit
abbrev pub hit_fields : ℕ → Option ReplyValue → Fields
hit_fields exptime (Some (hit flags cas body)) = record { flags = flags; exptime = pos exptime; body = body; cas = None; delta = 0 }
hit_fields exptime (Some miss) = no_fields
hit_fields exptime (Some stored) = no_fields
hit_fields exptime (Some not_stored) = no_fields
hit_fields exptime (Some exists) = no_fields
hit_fields exptime (Some not_found) = no_fields
hit_fields exptime (Some deleted) = no_fields
hit_fields exptime (Some touched) = no_fields
hit_fields exptime (Some (number value)) = no_fields
hit_fields exptime (Some (fault line)) = no_fields
hit_fields exptime None = no_fields

-- those of a leg at a position: an add that a WarmUpRoute sends has the hit of its `warm`, and any other leg what the client asked
abbrev pub fields_at : Option Request → Situation → List Recorded → List ℕ → Option Warming → Fields
fields_at request s hs p None = client_fields request
fields_at request s hs p (Some w) = hit_fields w.exptime (warm_reply s hs p w)

-- of a call: its route, what it asks of it, what the client asked, and the replies of its legs, the oldest first
abbrev pub fields_of : Tree → Situation → Option Request → List Recorded → List ℕ → Fields
fields_of t s request hs p = fields_at request s hs p (warm_up_of t p)

abbrev pub fields_in : LegRequest → Fields
fields_in r = record { flags = r.flags; exptime = r.exptime; body = (arc_value r.body).items; cas = r.cas; delta = r.delta }

abbrev pub fields_seen : Kept → Fields
fields_seen f = record { flags = f.flags; exptime = f.exptime; body = (arc_value f.body).items; cas = f.cas; delta = f.delta }
