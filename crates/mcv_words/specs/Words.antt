-- What the words of a command line ask for. The words are those of the shell, the program's name
-- first; how they are read is clap's: `fault_of` lists the kinds of fault that it finds with words,
-- and `subcommand_of` the subcommand that they name.
use Rattle.std.specs.Prelude.{◌≡◌, ◌≢◌, ◌<◌, ◌≤◌, ◌^◌, ◌⊎◌, ⊤, ℕ, Bool, true, false, List, [], ◌∷◌, Option, None, Some, IsSome, codes, fold, option_map, option_to_list}
use Rattle.std.specs.Str.Parse.{IsNumeral, digits_value, without_leading_plus}
use Rattle.clap.specs.Words.{App, IsAmong, Kinds, Row, Rule, Text, fault_of, first_of, new_app, new_rule, one_of, subcommand_of, with_rule, with_subcommand}
use Rattle.clap.specs.declared.builder.action.ArgAction.TheVariants.{SetTrue}
use Rattle.clap.specs.declared.builder.value_parser.ValueParser.TheVariants as parsers
use Rattle.clap.specs.declared.error.kind.ErrorKind.{ErrorKind}
use Rattle.clap.specs.declared.error.kind.ErrorKind.TheVariants.{DisplayHelp, DisplayVersion, OutOfMemory}
use Rattle.mcv_words.specs.Table.{NumberOption, answer_bytes_option, at_option, client_timeout_option, hubs_option, max_clients_option, option_of, server_timeout_option, sessions_option, window_option}
use Rattle.mcv_words.specs.declared.options.CheckOptions.{CheckOptions}
use Rattle.mcv_words.specs.declared.options.ClientTimeout.{ClientTimeout}
use Rattle.mcv_words.specs.declared.options.MaxClients.{MaxClients}
use Rattle.mcv_words.specs.declared.options.RunOptions.{RunOptions}
use Rattle.mcv_words.specs.declared.options.ServerTimeout.{ServerTimeout}
use Rattle.mcv_words.specs.declared.options.Sessions.{Sessions}
use Rattle.mcv_words.specs.declared.options.Settings.{Settings}
use Rattle.mcv_words.specs.declared.options.SpoolOptions.{SpoolOptions}
use Rattle.mcv_words.specs.declared.table.FlagRow.{FlagRow}
use Rattle.mcv_words.specs.declared.table.OptionRow.{OptionRow}
use Rattle.mcv_words.specs.declared.table.OptionRow.TheVariants as OptionRows
use Rattle.mcv_words.specs.declared.table.TextRow.{TextRow}
use Rattle.mcv_words.specs.declared.words.Job.{Job}
use Rattle.mcv_words.specs.declared.words.Job.TheVariants.{Legs, Check, Draw, Mend, Run, Spool}
use Rattle.mcv_words.specs.declared.words.LineFault.{LineFault}
use Rattle.mcv_words.specs.declared.words.LineFault.TheVariants.{BadLine, Memory, Help, Version}

-- ---- the commands

-- an option that takes one value, named by its long name
abbrev pub option_rule : Text → Rule
option_rule name = record (new_rule name) {
  long = Some name;
  value_names = 1;
}

-- `--NAME N`: a number in the range of the option, and its default where it isn't given
abbrev pub number_rule : NumberOption → Rule
number_rule o = record (option_rule o.name) {
  parser = Some (parsers.Unsigned o.least o.most);
  defaults = option_to_list o.default;
}

-- an option that is wanted
abbrev pub required_rule : Text → Rule
required_rule name = record (option_rule name) { required = true }

-- a flag, which takes no value
abbrev pub flag_rule : Text → Rule
flag_rule name = record (new_rule name) {
  long = Some name;
  action = Some SetTrue;
}

-- what a row of the code's table says of its option
abbrev pub text_row_rule : TextRow → Rule
text_row_rule row = record (option_rule row.name.now) { required = row.is_required }

abbrev pub flag_row_rule : FlagRow → Rule
flag_row_rule row = record (flag_rule row.name.now) { short = row.short }

abbrev pub row_rule : OptionRow → Rule
row_rule (OptionRows.Number row) = number_rule (option_of row)
row_rule (OptionRows.Text row) = text_row_rule row
row_rule (OptionRows.Flag row) = flag_row_rule row

-- `legs [--at SECONDS]`
abbrev pub legs_app : App
legs_app = with_rule (new_app (codes "legs")) (number_rule at_option)

-- `-q`, `--quiet`
abbrev pub quiet_rule : Rule
quiet_rule = record (flag_rule (codes "quiet")) { short = Some 113 }

-- the options of `check`: `[--cert FILE] [--window SECONDS] [--explain] [--json] [-q]`
abbrev pub check_rules : List Rule
check_rules = option_rule (codes "cert") ∷ number_rule window_option ∷ flag_rule (codes "explain") ∷ flag_rule (codes "json") ∷ quiet_rule ∷ []

abbrev pub check_app : App
check_app = fold with_rule (new_app (codes "check")) check_rules

-- `draw [--dot]`
abbrev pub draw_app : App
draw_app = with_rule (new_app (codes "draw")) (flag_rule (codes "dot"))

-- `mend [--patch]`
abbrev pub mend_app : App
mend_app = with_rule (new_app (codes "mend")) (flag_rule (codes "patch"))

-- the options of `run`, in the order of its help: `--listen ADDRESS` and `--spool FILE` are wanted
abbrev pub run_rules : List Rule
run_rules =
    required_rule (codes "listen")
    ∷ required_rule (codes "spool")
    ∷ number_rule sessions_option
    ∷ number_rule hubs_option
    ∷ number_rule window_option
    ∷ number_rule server_timeout_option
    ∷ number_rule client_timeout_option
    ∷ number_rule max_clients_option
    ∷ number_rule answer_bytes_option
    ∷ option_rule (codes "admin")
    ∷ []

abbrev pub run_app : App
run_app = fold with_rule (new_app (codes "run")) run_rules

-- `FILE`: wanted, and told by its place
abbrev pub file_rule : Rule
file_rule = record (new_rule (codes "file")) {
  value_names = 1;
  required = true;
}

-- `spool FILE [--all]`
abbrev pub spool_app : App
spool_app = with_rule (with_rule (new_app (codes "spool")) file_rule) (flag_rule (codes "all"))

-- a command that shows its version where that is asked for
abbrev pub with_version : App → App
with_version app = record app { top = record app.top { has_version = true } }

-- a command that wants one of its subcommands
abbrev pub wanting_a_command : App → App
wanting_a_command app = record app { top = record app.top { subcommand_required = true } }

-- the commands with their options, in the order of the help
abbrev pub commands : List App
commands = check_app ∷ draw_app ∷ legs_app ∷ mend_app ∷ run_app ∷ spool_app ∷ []

-- `mcv check`, `mcv draw`, `mcv legs`, `mcv mend`, `mcv run` and `mcv spool` with their options; `mcv --version`
abbrev pub mcv_app : App
mcv_app = fold (λ (app command : App). with_subcommand app command.top) (wanting_a_command (with_version (new_app (codes "mcv")))) commands

-- ---- what words ask for

-- the faults that clap finds with the words: none where it takes them
abbrev pub faults : List Text → Kinds
faults words = fault_of mcv_app words

-- the command that the words name, with the values of its options
abbrev pub named : List Text → Option (Text × List Row)
named words = subcommand_of mcv_app words

-- the value of the option spells the number in decimal digits, a plus sign before them or none
abbrev pub IsNumberOf : (option : Text) → List Row → ℕ → Type 0
IsNumberOf option rows n = (text : Text) × (one_of option rows ≡ Some text) × IsNumeral 10 (without_leading_plus text)
    × (n ≡ digits_value 10 (without_leading_plus text))

-- whether a flag is given: clap reads it as `true`, and as `false` where it isn't
abbrev pub IsFlag : (flag : Text) → List Row → Bool → Type 0
IsFlag flag rows b =
    (one_of flag rows ≡ Some (codes "true") → b ≡ true) × (one_of flag rows ≡ Some (codes "false") → b ≡ false) × (one_of flag rows ≡ None → b ≡ false)

-- the value of `--cert`, or none, that of `--window`, and whether `--explain`, `--json` and `-q` are given
abbrev pub HasCheckValues : List Row → (cert : Option Text) → CheckOptions → Type 0
HasCheckValues rows cert options = (cert ≡ first_of (codes "cert") rows) × IsNumberOf window_option.name rows options.window.seconds
    × IsFlag (codes "explain") rows options.explain × IsFlag (codes "json") rows options.json × IsFlag (codes "quiet") rows options.quiet

-- clap takes the words, and they name the command `check` with these values
abbrev pub AsksCheck : List Text → (cert : Option Text) → CheckOptions → Type 0
AsksCheck words cert options = (faults words ≡ []) × (rows : List Row) × (named words ≡ Some (codes "check", rows)) × HasCheckValues rows cert options

-- clap takes the words, and they name the command `mend`, with `--patch` or without
abbrev pub AsksMend : List Text → (patch : Bool) → Type 0
AsksMend words patch = (faults words ≡ []) × (rows : List Row) × (named words ≡ Some (codes "mend", rows)) × IsFlag (codes "patch") rows patch

-- clap takes the words, and they name the command `draw`, with `--dot` or without
abbrev pub AsksDraw : List Text → (dot : Bool) → Type 0
AsksDraw words dot = (faults words ≡ []) × (rows : List Row) × (named words ≡ Some (codes "draw", rows)) × IsFlag (codes "dot") rows dot

-- the value of an option that may be left out: none, or a number
abbrev pub IsNumberIfGiven : (option : Text) → List Row → Option ℕ → Type 0
IsNumberIfGiven option rows None = one_of option rows ≡ None
IsNumberIfGiven option rows (Some n) = IsNumberOf option rows n

-- the numbers that the options of `run` have, none where one wasn't given
pub record HasSettings (rows : List Row) (s : Settings) : Type 0 where
  pub sessions : IsNumberIfGiven sessions_option.name rows (option_map (λ (n : Sessions). n.count) s.sessions)
  pub hubs : IsNumberOf hubs_option.name rows s.hubs.count
  pub window : IsNumberOf window_option.name rows s.window.seconds
  pub server_timeout : IsNumberIfGiven server_timeout_option.name rows (option_map (λ (t : ServerTimeout). t.millis) s.server_timeout)
  pub client_timeout : IsNumberIfGiven client_timeout_option.name rows (option_map (λ (t : ClientTimeout). t.millis) s.client_timeout)
  pub max_clients : IsNumberIfGiven max_clients_option.name rows (option_map (λ (n : MaxClients). n.count) s.max_clients)
  pub answer_bytes : IsNumberOf answer_bytes_option.name rows s.answer_bytes.bytes

-- what `run` is asked for: the address, the name of the spool's file, the operator's address or none, and the numbers, each of which is in its
-- range by its type
pub record RunOrder : Type 0 where
  pub listen : Text
  pub spool : Text
  pub admin : Option Text
  pub settings : Settings

abbrev pub order_of : RunOptions → RunOrder
order_of o = record { listen = o.listen.now; spool = o.spool.now; admin = option_map (λ address. address.now) o.admin; settings = o.settings }

-- the values of the options of `run`
pub record HasRunValues (rows : List Row) (order : RunOrder) : Type 0 where
  pub listen : first_of (codes "listen") rows ≡ Some order.listen
  pub spool : first_of (codes "spool") rows ≡ Some order.spool
  pub admin : order.admin ≡ first_of (codes "admin") rows
  pub settings : HasSettings rows order.settings

-- clap takes the words, and they name the command `run` with these values
abbrev pub AsksRun : List Text → RunOrder → Type 0
AsksRun words order = (faults words ≡ []) × (rows : List Row) × (named words ≡ Some (codes "run", rows)) × HasRunValues rows order

-- what `spool` is asked for: the name of the spool's file, and whether records that are done are shown, too
pub record SpoolOrder : Type 0 where
  pub file : Text
  pub all : Bool

abbrev pub spool_order_of : SpoolOptions → SpoolOrder
spool_order_of o = record { file = o.file.now; all = o.all }

-- the values of the arguments of `spool`
abbrev pub HasSpoolValues : List Row → SpoolOrder → Type 0
HasSpoolValues rows order = (first_of (codes "file") rows ≡ Some order.file) × IsFlag (codes "all") rows order.all

-- clap takes the words, and they name the command `spool` with these values
abbrev pub AsksSpool : List Text → SpoolOrder → Type 0
AsksSpool words order = (faults words ≡ []) × (rows : List Row) × (named words ≡ Some (codes "spool", rows)) × HasSpoolValues rows order

-- the job of `check` with these values
abbrev pub IsCheckOf : List Row → Job → Type 0
IsCheckOf rows (Legs at) = ⊥
IsCheckOf rows (Check cert options) = HasCheckValues rows (option_map (λ name. name.now) cert) options
IsCheckOf rows (Draw dot) = ⊥
IsCheckOf rows (Mend patch) = ⊥
IsCheckOf rows (Run options) = ⊥
IsCheckOf rows (Spool options) = ⊥

-- the job of `draw` with these values
abbrev pub IsDrawOf : List Row → Job → Type 0
IsDrawOf rows (Legs at) = ⊥
IsDrawOf rows (Check cert options) = ⊥
IsDrawOf rows (Draw dot) = IsFlag (codes "dot") rows dot
IsDrawOf rows (Mend patch) = ⊥
IsDrawOf rows (Run options) = ⊥
IsDrawOf rows (Spool options) = ⊥

-- the job of `mend` with these values
abbrev pub IsMendOf : List Row → Job → Type 0
IsMendOf rows (Legs at) = ⊥
IsMendOf rows (Check cert options) = ⊥
IsMendOf rows (Draw dot) = ⊥
IsMendOf rows (Mend patch) = IsFlag (codes "patch") rows patch
IsMendOf rows (Run options) = ⊥
IsMendOf rows (Spool options) = ⊥

-- the job of `run` with these values
abbrev pub IsRunOf : List Row → Job → Type 0
IsRunOf rows (Legs at) = ⊥
IsRunOf rows (Check cert options) = ⊥
IsRunOf rows (Draw dot) = ⊥
IsRunOf rows (Mend patch) = ⊥
IsRunOf rows (Run options) = HasRunValues rows (order_of options)
IsRunOf rows (Spool options) = ⊥

-- the job of `spool` with these values
abbrev pub IsSpoolOf : List Row → Job → Type 0
IsSpoolOf rows (Legs at) = ⊥
IsSpoolOf rows (Check cert options) = ⊥
IsSpoolOf rows (Draw dot) = ⊥
IsSpoolOf rows (Mend patch) = ⊥
IsSpoolOf rows (Run options) = ⊥
IsSpoolOf rows (Spool options) = HasSpoolValues rows (spool_order_of options)

-- the option is given a number of its range
abbrev pub IsGivenIn : NumberOption → List Row → Type 0
IsGivenIn o rows = (n : ℕ) × IsNumberOf o.name rows n × (o.least ≤ n) × (n ≤ o.most) × (n < 2 ^ 64)

-- it is given none, or one of its range
abbrev pub MayBeGivenIn : NumberOption → List Row → Type 0
MayBeGivenIn o rows = (one_of o.name rows ≡ None) ⊎ IsGivenIn o rows

-- the options of `run` that are wanted are given, and each number is in its range
pub record CanRun (rows : List Row) : Type 0 where
  pub listen : IsSome (first_of (codes "listen") rows)
  pub spool : IsSome (first_of (codes "spool") rows)
  pub sessions : MayBeGivenIn sessions_option rows
  pub hubs : IsGivenIn hubs_option rows
  pub window : IsGivenIn window_option rows
  pub server_timeout : MayBeGivenIn server_timeout_option rows
  pub client_timeout : MayBeGivenIn client_timeout_option rows
  pub max_clients : MayBeGivenIn max_clients_option rows
  pub answer_bytes : IsGivenIn answer_bytes_option rows

-- clap takes the words, and they name the job's command with the values that the job has
abbrev pub IsJobOf : List Text → Job → Type 0
IsJobOf words (Check cert options) = AsksCheck words (option_map (λ name. name.now) cert) options
IsJobOf words (Legs at) = (faults words ≡ []) × (rows : List Row) × (named words ≡ Some (codes "legs", rows)) × IsNumberOf at_option.name rows at.0
IsJobOf words (Draw dot) = AsksDraw words dot
IsJobOf words (Mend patch) = AsksMend words patch
IsJobOf words (Run options) = AsksRun words (order_of options)
IsJobOf words (Spool options) = AsksSpool words (spool_order_of options)

-- why words ask for no job: clap finds a fault with them that isn't the wish for help or for the
-- version; memory ran out; they ask for help; they ask for the version
abbrev pub IsLineFault : List Text → LineFault → Type 0
IsLineFault words BadLine = (kind : ErrorKind) × (kind ≢ DisplayHelp) × (kind ≢ DisplayVersion) × IsAmong kind (faults words)
IsLineFault words Memory = ⊤
IsLineFault words (Help text) = IsAmong DisplayHelp (faults words)
IsLineFault words Version = IsAmong DisplayVersion (faults words)

-- which fault clap's kind of error is; the text of the help takes memory too
abbrev pub IsFaultOfKind : ErrorKind → LineFault → Type 0
IsFaultOfKind kind BadLine = (kind ≢ OutOfMemory) × (kind ≢ DisplayHelp) × (kind ≢ DisplayVersion)
IsFaultOfKind kind Memory = (kind ≡ OutOfMemory) ⊎ (kind ≡ DisplayHelp)
IsFaultOfKind kind (Help text) = kind ≡ DisplayHelp
IsFaultOfKind kind Version = kind ≡ DisplayVersion

abbrev pub line_fault_number : LineFault → ℕ
line_fault_number BadLine = 1
line_fault_number Memory = 2
line_fault_number (Help text) = 3
line_fault_number Version = 4
