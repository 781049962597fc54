-- What becomes of one client (own).
use Rattle.std.specs.Prelude.{◌≡◌, ◌⊎◌, ℕ, List, Option, None, Some, Result}
use Rattle.mcv_base.specs.Reply.{ReplyValue}
use Rattle.mcv_session.specs.declared.desk.DeskFault.{DeskFault}
use Rattle.mcv_session.specs.Exchange.{by_desk, text_of}
use Rattle.mcv_session.specs.Machine.{Fails, Replies}
use Rattle.mcv_text.specs.Request.{AskValue, asking}
use Rattle.mcv_clients.specs.Life.{ClientView}

-- it is the same one, and the request that is out is
pub record Goes (old new : ClientView) : Type 0 where
  pub came : new.came ≡ old.came
  pub hubs : new.hubs ≡ old.hubs
  pub out : new.out ≡ old.out
  pub request : (number : ℕ) → old.out ≡ Some number → new.session.request ≡ old.session.request

-- it is the same one, no request of it is out, and its session has this answer, or failed for want of memory
pub record Told (answer : Result (List ReplyValue) DeskFault) (old new : ClientView) : Type 0 where
  pub came : new.came ≡ old.came
  pub now : new.now ≡ old.now
  pub hubs : new.hubs ≡ old.hubs
  pub out : new.out ≡ None
  pub told : (ask : AskValue) → old.session.request ≡ Some (asking ask) → Replies old.session (text_of (by_desk ask answer)) new.session ⊎ Fails old.session new.session

abbrev pub Asked : (number : ℕ) → (old new : ClientView) → Type 0
Asked number old new = new ≡ record old { out = Some number }

-- so it is, if its request that is out has this number; else nothing happened
abbrev pub ToldIf : (number : ℕ) → Result (List ReplyValue) DeskFault → (old new : ClientView) → Type 0
ToldIf number answer old new = (new ≡ old) ⊎ ((old.out ≡ Some number) × Told answer old new)
