-- The text of legs and of a reply (own): a line each, the legs first.
use Rattle.std.specs.Prelude.{ℕ, List, [], ◌++◌, Option, Some, None, codes, slice_get, unwrap_or}
use Rattle.std.specs.List.{flat_map}
use Rattle.mcv_base.specs.declared.operation.Mark.{Mark}
use Rattle.mcv_base.specs.declared.operation.Mark.TheVariants.{Plain, Async, Shadow, Add}
use Rattle.mcv_base.specs.declared.reply.Outcome.{Outcome}
use Rattle.mcv_base.specs.declared.reply.Outcome.TheVariants.{Good, Soft, Error}
use Rattle.mcv_base.specs.Position.{position_text}
use Rattle.mcv_route.specs.declared.launch.Launch.{Launch}

abbrev pub mark_word : Mark → List ℕ
mark_word Plain = codes "plain"
mark_word Async = codes "async"
mark_word Shadow = codes "shadow"
mark_word Add = codes "add"

-- the word for what a reply amounts to, and for none
abbrev pub reply_word : Option Outcome → List ℕ
reply_word None = codes "none"
reply_word (Some Good) = codes "good"
reply_word (Some Soft) = codes "soft"
reply_word (Some Error) = codes "error"

-- the text of a server by its number in the table
abbrev pub server_text : List (List ℕ) → ℕ → List ℕ
server_text servers number = unwrap_or (slice_get servers number) []

-- `leg <position> <server> <mark>`
abbrev pub leg_line : List (List ℕ) → Launch → List ℕ
leg_line servers leg =
    codes "leg " ++ position_text leg.position ++ codes " " ++ server_text servers leg.server.0 ++ codes " " ++ mark_word leg.mark ++ codes "\n"

-- `reply <word>`
abbrev pub reply_line : Option Outcome → List ℕ
reply_line reply = codes "reply " ++ reply_word reply ++ codes "\n"

abbrev pub legs_text : List (List ℕ) → List Launch → Option Outcome → List ℕ
legs_text servers legs reply = flat_map (leg_line servers) legs ++ reply_line reply
