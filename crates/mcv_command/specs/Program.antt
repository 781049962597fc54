-- What the program does for the words of a command line.
use Rattle.std.specs.Prelude.{◌≡◌, ◌≢◌, ◌⊎◌, ℕ, Bool, List, [], Option, Some, None, IfSome, MatchOption, codes, take, if◌then◌else◌, ⊤, true, false}
use Rattle.std.specs.Io.KnownBytes.{Appends}
use Rattle.clap.specs.Words.{IsAmong, Row, Text, one_of}
use Rattle.clap.specs.declared.error.kind.ErrorKind.TheVariants.{DisplayHelp, DisplayVersion}
use Rattle.mcv_base.specs.declared.request.Moment.{Moment}
use Rattle.mcv_input.specs.Fault.{AreNamedBy, IsOutside}
use Rattle.mcv_input.specs.declared.fault.RunFault.TheVariants as run_faults
use Rattle.mcv_legs.specs.Answer.{IsAnswer}
use Rattle.mcv_legs.specs.Fault as legs
use Rattle.mcv_mend.specs.Mending.{IsMendFault, IsMendingOn}
use Rattle.mcv_mend.specs.declared.fault.MendFault.TheVariants as mend_faults
use Rattle.mcv_mend.specs.declared.fault.Mending.{Mending}
use Rattle.mcv_mend_patch.specs.Patching.{IsPatchOn}
use Rattle.mcv_picture.specs.Drawing.{IsDrawnOn}
use Rattle.mcv_records.specs.Text.{records_text, slot_lines}
use Rattle.mcv_records.specs.declared.list.Shown.{Shown}
use Rattle.mcv_records.specs.declared.list.Shown.TheVariants.{Pending, All}
use Rattle.mcv_route.specs.Routes.{RoutesValue, within}
use Rattle.mcv_show.specs.AsAsked.{IsVerdictAs}
use Rattle.mcv_show.specs.Reported.{IsFaultText}
use Rattle.mcv_spool.specs.File.{damage, slots}
use Rattle.mcv_symbolic.specs.CoveredRoutes.{AreCovered}
use Rattle.mcv_verdict.specs.Fault as check
use Rattle.mcv_verdict.specs.Verdict.{IsVerdictOn}
use Rattle.mcv_verdict.specs.declared.verdict.Verdict.{Verdict}
use Rattle.mcv_verdict.specs.declared.verdict.Verdict.TheVariants as verdicts
use Rattle.mcv_words.specs.Words.{AsksCheck, AsksDraw, AsksMend, AsksRun, AsksSpool, IsJobOf, IsLineFault, RunOrder, SpoolOrder, faults, named}
use Rattle.mcv_words.specs.declared.options.CheckOptions.{CheckOptions}
use Rattle.mcv_words.specs.declared.words.Job.TheVariants as jobs
use Rattle.mcv_words.specs.declared.words.LineFault.TheVariants as line_fault
use Rattle.mcv_command.specs.declared.stop.Ending.{Ending}
use Rattle.mcv_command.specs.declared.stop.Ending.TheVariants.{Done, Lost}
use Rattle.mcv_command.specs.declared.stop.Stop.{Stop}
use Rattle.mcv_command.specs.declared.stop.Stop.TheVariants.{BadLine, Mended, NoChange, Run, Damaged}

-- what files hold by their names, where that is known
abbrev pub Held : Type 0
Held = Text → Option Text

-- what follows from the certificate that is given: none, or what the file of this name holds; where that isn't known, some bytes
abbrev pub IfGiven : Held → Option Text → (Option Text → Type 0) → Type 0
IfGiven held None P = P None
IfGiven held (Some name) P = MatchOption (held name) ((bytes : Text) × P (Some bytes)) (λ text. P (Some text))

abbrev pub ending_of : Verdict → Ending
ending_of (verdicts.Covered pairs) = Done
ending_of verdicts.Lost = Lost

-- the verdict on the input within the window was written, by the certificate that is given, and the program ends so
abbrev pub IsJudged : Held → Option Text → (window : ℕ) → (input old new : Option Text) → Ending → Type 0
IsJudged held cert window input old new ending =
    (verdict : Verdict) × (text : Text) × IfSome input (λ bytes. IfGiven held cert (λ certificate. IsVerdictOn bytes window certificate verdict text))
    × Appends old new text × (ending ≡ ending_of verdict)

-- the same, as the options ask
abbrev pub IsJudgedAs : CheckOptions → Held → Option Text → (input old new : Option Text) → Ending → Type 0
IsJudgedAs options held cert input old new ending =
    (verdict : Verdict) × (text : Text) × IfSome input (λ bytes. IfGiven held cert (λ certificate. IsVerdictAs options bytes certificate verdict text))
    × Appends old new text × (ending ≡ ending_of verdict)

-- memory ran out, or a device failed; or the fault is in the input or in the certificate that is given
abbrev pub IsJudgingFault : Held → Option Text → (window : ℕ) → (input : Option Text) → Stop → Type 0
IsJudgingFault held cert window input BadLine = ⊥
IsJudgingFault held cert window input (Damaged slot) = ⊥
IsJudgingFault held cert window input (Run fault) = IsOutside fault ⊎ IfSome input (λ bytes. IfGiven held cert (λ certificate. check.IsRunFault bytes window certificate fault))
IsJudgingFault held cert window input (Mended fault) = ⊥
IsJudgingFault held cert window input NoChange = ⊥

-- the picture of the input's routes was written
abbrev pub IsDrawn : (is_dot : Bool) → (input old new : Option Text) → Ending → Type 0
IsDrawn is_dot input old new ending = (verdict : Verdict) × (text : Text) × IfSome input (λ bytes. IsDrawnOn is_dot bytes 0 verdict text) × Appends old new text × (ending ≡ Done)

-- why there is none: memory ran out, a device failed, or the fault is in the input
abbrev pub IsDrawingStop : (input : Option Text) → Stop → Type 0
IsDrawingStop input BadLine = ⊥
IsDrawingStop input (Run fault) = IfSome input (λ bytes. check.IsRunFault bytes 0 None fault)
IsDrawingStop input (Mended fault) = ⊥
IsDrawingStop input NoChange = ⊥
IsDrawingStop input (Damaged slot) = ⊥

-- what becomes of the input was written: the input with the legs that its deletes lack, or as it is where it is covered
abbrev pub IsMended : (input old new : Option Text) → Ending → Type 0
IsMended input old new ending = (mending : Mending) × (text : Text) × IfSome input (λ bytes. IsMendingOn bytes mending text) × Appends old new text × (ending ≡ Done)

-- the patch that makes this of the input was written, the empty one where it is covered
abbrev pub IsPatched : (input old new : Option Text) → Ending → Type 0
IsPatched input old new ending = (mending : Mending) × (text : Text) × IfSome input (λ bytes. IsPatchOn bytes mending text) × Appends old new text × (ending ≡ Done)

abbrev pub IsMendedAs : (patch : Bool) → (input old new : Option Text) → Ending → Type 0
IsMendedAs true input old new ending = IsPatched input old new ending
IsMendedAs false input old new ending = IsMended input old new ending

-- why nothing is mended: memory ran out, a device failed, or the fault is in the input; or it can lose a delete, and its mended text is over a
-- limit, or no change was found
abbrev pub IsMendingStop : (input : Option Text) → Stop → Type 0
IsMendingStop input BadLine = ⊥
IsMendingStop input (Run fault) = IfSome input (λ bytes. IsMendFault bytes (mend_faults.Run fault))
IsMendingStop input (Mended fault) = IfSome input (λ bytes. IsMendFault bytes (mend_faults.Limit fault))
IsMendingStop input NoChange = IfSome input (λ bytes. IsMendFault bytes mend_faults.GaveUp)
IsMendingStop input (Damaged slot) = ⊥

-- what it is that routes were served as `run` was asked for, from what the writer held to what it holds
abbrev pub Serves : Type 1
Serves = RoutesValue → RunOrder → (old new : Option Text) → Type 0

-- the input names routes, these are covered within the window, and the proxy served them; or the verdict that they aren't was written
abbrev pub IsServed : Held → Serves → RunOrder → (input old new : Option Text) → Ending → Type 0
IsServed held serves order input old new ending =
    ((r : RoutesValue) × IfSome input (λ bytes. AreNamedBy bytes r) × AreCovered (within order.settings.window.seconds r)
    × serves (within order.settings.window.seconds r) order old new × (ending ≡ Done))
    ⊎ (IsJudged held None order.settings.window.seconds input old new Lost × (ending ≡ Lost))

-- the words ask for a run
abbrev pub AsksAnyRun : List Text → Type 0
AsksAnyRun words = (order : RunOrder) × AsksRun words order

abbrev pub shown_of : Bool → Shown
shown_of all = if all then All else Pending

-- no slot of the file is damaged, and the text of its records was written, where it is known what the file holds
abbrev pub IsListed : Held → SpoolOrder → (old new : Option Text) → Type 0
IsListed held order old new = IfSome (held order.file) (λ file. (damage 0 (slots file) ≡ None) × Appends old new (records_text (shown_of order.all) file))

-- this slot is the first that is damaged, and the lines of those before it were written
abbrev pub IsListedTo : ℕ → Held → SpoolOrder → (old new : Option Text) → Type 0
IsListedTo slot held order old new =
    IfSome (held order.file) (λ file. (damage 0 (slots file) ≡ Some slot) × Appends old new (slot_lines (shown_of order.all) 0 (take slot (slots file))))

-- memory ran out, or a device failed; or a slot of the file is damaged
abbrev pub IsListingStop : Stop → Type 0
IsListingStop BadLine = ⊥
IsListingStop (Run fault) = IsOutside fault
IsListingStop (Mended fault) = ⊥
IsListingStop NoChange = ⊥
IsListingStop (Damaged slot) = ⊤

-- the words ask for a verdict as a report, which a fault of the configuration or of the certificate has, too
abbrev pub AsksReport : List Text → Type 0
AsksReport words = (cert : Option Text) × (options : CheckOptions) × AsksCheck words cert options × (options.json ≡ true)

-- the words name `check`, and clap reads their `--json` as given
abbrev pub GivesJson : List Text → Type 0
GivesJson words = (faults words ≡ []) × (rows : List Row) × (named words ≡ Some (codes "check", rows)) × (one_of (codes "json") rows ≡ Some (codes "true"))

-- the report on the fault was written; of the input the first bytes are looked at, one more than a configuration may have. Where memory ran out or a device failed, there may be none
abbrev pub IsReportedStop : (input old new : Option Text) → Stop → Type 0
IsReportedStop input old new BadLine = ⊤
IsReportedStop input old new (Damaged slot) = ⊤
IsReportedStop input old new (Run fault) =
    fault ≢ run_faults.Memory → fault ≢ run_faults.Device → (text : Text) × IfSome input (λ bytes. IsFaultText (take 16777217 bytes) fault text) × Appends old new text
IsReportedStop input old new (Mended fault) = ⊤
IsReportedStop input old new NoChange = ⊤

-- the words ask for the records of a spool's file
abbrev pub AsksAnySpool : List Text → Type 0
AsksAnySpool words = (order : SpoolOrder) × AsksSpool words order

abbrev pub version_line : Text
version_line = codes "mcv 1\n"

-- what is shown where words ask for it: help, whose text is left open, or the version
abbrev pub IsShownFor : List Text → Text → Type 0
IsShownFor words text = IsAmong DisplayHelp (faults words) ⊎ (IsAmong DisplayVersion (faults words) × (text ≡ version_line))

-- help or the version was asked for and shown; or the words ask for legs at a moment, and what answers the input at that moment was written; or they
-- ask for a verdict, and it was written as they ask; or they ask for the input mended, and that or its patch was written; or they ask for a run, and the
-- proxy served as they ask, or the verdict was written by which it doesn't; or they ask for the records of a spool's file, and their text was written; or
-- they ask for a picture of the input, and it was written
abbrev pub IsDone : List Text → Held → Serves → (input old new : Option Text) → Ending → Type 0
IsDone words held serves input old new ending =
    ((text : Text) × IsShownFor words text × Appends old new text × (ending ≡ Done))
    ⊎ (((at : Moment) × IsJobOf words (jobs.Legs at) × (text : Text) × IfSome input (λ bytes. IsAnswer at.0 bytes text) × Appends old new text × (ending ≡ Done))
    ⊎ (((cert : Option Text) × (options : CheckOptions) × AsksCheck words cert options × IsJudgedAs options held cert input old new ending)
    ⊎ (((patch : Bool) × AsksMend words patch × IsMendedAs patch input old new ending)
    ⊎ (((order : RunOrder) × AsksRun words order × IsServed held serves order input old new ending)
    ⊎ (((order : SpoolOrder) × AsksSpool words order × IsListed held order old new × (ending ≡ Done))
    ⊎ ((is_dot : Bool) × AsksDraw words is_dot × IsDrawn is_dot input old new ending))))))

-- the words are at fault; or memory ran out, or a device failed; or the words ask for legs, for a verdict, for the input mended or drawn, or for a run,
-- and the fault is in what was read; or it isn't mended; or they ask for the records of a spool's file, and one of its slots is damaged
abbrev pub IsStop : List Text → Held → (input : Option Text) → Stop → Type 0
IsStop words held input BadLine = IsLineFault words line_fault.BadLine
IsStop words held input (Damaged slot) = AsksAnySpool words
IsStop words held input (Run fault) =
    IsOutside fault
    ⊎ (((at : Moment) × IsJobOf words (jobs.Legs at) × IfSome input (λ bytes. legs.IsRunFault bytes fault))
    ⊎ (((cert : Option Text) × (options : CheckOptions) × AsksCheck words cert options × IsJudgingFault held cert options.window.seconds input (Run fault))
    ⊎ (((patch : Bool) × AsksMend words patch × IsMendingStop input (Run fault))
    ⊎ (((order : RunOrder) × AsksRun words order × IsJudgingFault held None order.settings.window.seconds input (Run fault))
    ⊎ ((is_dot : Bool) × AsksDraw words is_dot × IsDrawingStop input (Run fault))))))
IsStop words held input (Mended fault) = (patch : Bool) × AsksMend words patch × IsMendingStop input (Mended fault)
IsStop words held input NoChange = (patch : Bool) × AsksMend words patch × IsMendingStop input NoChange
