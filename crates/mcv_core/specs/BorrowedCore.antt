-- What a core is after its dispatcher was borrowed (own).
use Rattle.std.specs.Borrow.{Fml, Lends, MutBor, RattleType}
use Rattle.mcv_core.specs.contracts.dispatcher.Dispatcher.{the_row as dispatcher_row}
use Rattle.mcv_core.specs.contracts.engine.Core.{the_row as core_row}
use Rattle.mcv_core.specs.declared.dispatcher.Dispatcher.{Dispatcher}
use Rattle.mcv_core.specs.declared.engine.Core.{Core}

-- the core has the dispatcher as it was left, and its hash
abbrev pub BorrowsEvents : (H : RattleType) → MutBor (Core H.Denot) → MutBor Dispatcher → Fml
BorrowsEvents H core r = Lends (core_row H) dispatcher_row core r (λ d. record core.now { dispatcher = d })
