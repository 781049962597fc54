-- Hubs and seats may cross threads, each whole, since a `search` that goes down through a hub runs out of steps.
use denote.RattleType.{RattleType}
use denote.Param.Send.{IsSend, IsSync, sendable}
use Rattle.std.proofs.Crossing.{Arc-send, crosses}
use Rattle.std.specs.contracts.sync.Arc as Arc
use Rattle.std.specs.contracts.alloc.Global as Heap
use Rattle.std.specs.contracts.impls.GlobalAllocator.TheImpl.{ghosts}
use Rattle.mcv_pools.proofs.symbol.Symbol.TheSendSync as symbol
use Rattle.mcv_hub.proofs.Crossing.{hub_send, hub_sync}
use Rattle.mcv_hubs.specs.declared.names.HubNames as hubs
use Rattle.mcv_hubs.specs.declared.names.Names.{Ghosts}
use Rattle.mcv_hubs.specs.contracts.hubs.Hubs as Hubs
use Rattle.mcv_hubs.specs.contracts.seats.Seats as Seats
use Rattle.mcv_hubs.proofs.seats.Seats.TheSendSync as seats

module _ (F G : RattleType) (h : hubs.Ghosts F.Denot) (f : Ghosts F.Denot) (g : Ghosts G.Denot) where
  pub hubs_send : IsSend (Hubs.the_field F G h f g).row
  hubs_send = search (hub_send, symbol.the_send, sendable, crosses) depth 24

  pub hubs_sync : IsSync (Hubs.the_field F G h f g).row
  hubs_sync = search (hub_sync, symbol.the_sync, sendable, crosses) depth 24

  whole_send : IsSend (Hubs.the_row F G h f g)
  whole_send = search (hub_send, symbol.the_send, sendable, crosses) depth 24

  whole_sync : IsSync (Hubs.the_row F G h f g)
  whole_sync = search (hub_sync, symbol.the_sync, sendable, crosses) depth 24

  pub shared_hubs : IsSend (Arc.the_row (Hubs.the_row F G h f g) Heap.the_row ghosts)
  shared_hubs = Arc-send (Hubs.the_row F G h f g) whole_send whole_sync

module _ (F G : RattleType) (f : Ghosts F.Denot) (g : Ghosts G.Denot) where
  pub seats_send : IsSend (Seats.the_row F G f g)
  seats_send = search (seats.the_send, sendable, crosses) depth 24
