-- What a session writes for one item, and whether it ends with it (memcached, protocol.txt; that refusals 2 and 3 end it is own).
-- `get a b` answered by a hit of a, value x, and a miss of b: VALUE a 0 1 CR LF x CR LF END CR LF.
-- `delete a noreply`: the desk is asked, and nothing is written.
use Rattle.std.specs.Prelude.{ℕ, List, [], Bool, true, false, if◌then◌else◌, Result, Ok, Err}
use Rattle.std.specs.List.{flat_map}
use Rattle.mcv_base.specs.Reply.{ReplyValue}
use Rattle.mcv_text.specs.declared.item.Refusal.{Refusal}
use Rattle.mcv_text.specs.declared.item.Refusal.TheVariants.{UnknownCommand, BadLine, BadDataChunk, ValueTooLarge}
use Rattle.mcv_text.specs.Request.{AskValue, asking, version, quit, ItemValue, asked, refused}
use Rattle.mcv_text.specs.Answer.{reply_text}
use Rattle.mcv_text.specs.Refusals.{refusal_text}
use Rattle.mcv_session.specs.declared.desk.DeskFault.{DeskFault}
use Rattle.mcv_session.specs.Desk.{fault_text}

-- one item that a session took, with what the desk answered where it was asked
pub data Exchange : Type 0 where
  by_desk : AskValue → Result (List ReplyValue) DeskFault → Exchange
  by_version : Exchange  -- version
  by_quit : Exchange  -- quit
  by_refusal : Refusal → Exchange

abbrev pub item_of : Exchange → ItemValue
item_of (by_desk ask answer) = asked (asking ask)
item_of by_version = asked version
item_of by_quit = asked quit
item_of (by_refusal refusal) = refused refusal

-- a fault of the desk is the whole answer
abbrev pub answer_text : AskValue → Result (List ReplyValue) DeskFault → List ℕ
answer_text ask (Ok replies) = reply_text (asking ask) replies
answer_text ask (Err fault) = fault_text fault

abbrev pub text_of : Exchange → List ℕ
text_of (by_desk ask answer) = if ask.noreply then [] else answer_text ask answer
text_of by_version = reply_text version []
text_of by_quit = reply_text quit []
text_of (by_refusal refusal) = refusal_text refusal

abbrev pub texts_of : List Exchange → List ℕ
texts_of log = flat_map text_of log

-- quit, and refusals 2 and 3
abbrev pub ends : ItemValue → Bool
ends (asked (asking ask)) = false
ends (asked version) = false
ends (asked quit) = true
ends (refused UnknownCommand) = false
ends (refused BadLine) = true
ends (refused BadDataChunk) = true
ends (refused ValueTooLarge) = false
