-- A session that waits for nobody with a desk that answers at once; no public contract cites this.
use Rattle.std.specs.Prelude.{◌≡◌, ◌++◌, List, Result, Some, false}
use Rattle.mcv_base.specs.Reply.{ReplyValue}
use Rattle.mcv_text.specs.Request.{RequestValue, asked}
use Rattle.mcv_text.specs.Stream.{Awaits}
use Rattle.mcv_session.specs.declared.desk.DeskFault.{DeskFault}
use Rattle.mcv_session.specs.Exchange.{Exchange, item_of, ends}
use Rattle.mcv_session.specs.Machine.{History, Lived, MachineValue}
use Rattle.mcv_session.specs.Session.{Chain, Goes}

module _ {D : Type 0} (asks : D → RequestValue → Result (List ReplyValue) DeskFault → D → Type 0) where
  -- more was answered, by the desk where it was asked
  abbrev pub Drives : Awaits → History → D → D → MachineValue → Type 0
  Drives from h old new now = (more : List Exchange) × Chain asks old more new × Lived from (record h { log = h.log ++ more }) now

  -- the desk was asked what the session gave out
  pub record AsksDesk (old new : D) (before : MachineValue) : Type 0 where
    pub exchange : Exchange
    pub goes : Goes asks exchange old new
    pub request : RequestValue
    pub was : before.request ≡ Some request
    pub is : item_of exchange ≡ asked request
    pub on : ends (item_of exchange) ≡ false
