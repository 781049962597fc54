-- What the program did, by what the words asked for.
use Rattle.std.proofs.Common.{◌≡◌, ◌≢◌, ◌∙◌, ap, inl, inr, refl, ◌+◌, ◌<◌, ◌≤◌, ℕ, Bool, true, false, List, [], length, take, true≢false, Option, None, Some, Result, Ok, Err, subst, sym, arith}
use Rattle.std.specs.Prelude.{IfErr, IfSome, MatchOption, bytes_eq, codes}
use Rattle.std.proofs.lemmas.List.{length-take}
use Rattle.std.proofs.lemmas.Option.{IfSome_then}
use Rattle.clap.specs.Words.{Row, Text, one_of}
use Rattle.mcv_cert.specs.Reading.{Reading, Says, headless, over, reads, text_limit}
use Rattle.mcv_input.proofs.FirstBytes.{whole}
use Rattle.mcv_input.specs.Fault.{IsOutside}
use Rattle.mcv_input.specs.declared.fault.RunFault.{RunFault}
use Rattle.mcv_records.specs.declared.fault.RecordsFault.{RecordsFault}
use Rattle.mcv_records.specs.declared.fault.RecordsFault.TheVariants as records
use Rattle.mcv_input.specs.declared.fault.RunFault.TheVariants.{Line, NoRoute, Config, CertificateText, Certificate, Window, Memory, Device}
use Rattle.mcv_mend.specs.Mending.{IsMendFault}
use Rattle.mcv_mend.specs.declared.fault.MendFault.{MendFault}
use Rattle.mcv_mend.specs.declared.fault.MendFault.TheVariants as mend_faults
use Rattle.mcv_show.specs.AsAsked.{IsVerdictAs, IsVerdictIf}
use Rattle.mcv_show.specs.Explained.{IsExplainedOn}
use Rattle.mcv_show.specs.Reported.{IsReportedOn}
use Rattle.mcv_verdict.specs.Fault as check
use Rattle.mcv_verdict.specs.Verdict.{IsVerdictOn}
use Rattle.mcv_verdict.specs.declared.verdict.Verdict.{Verdict}
use Rattle.mcv_verdict.specs.declared.verdict.Verdict.TheVariants.{Covered, Lost}
use Rattle.mcv_command.specs.declared.stop.Ending.{Ending}
use Rattle.mcv_command.specs.declared.stop.Stop.{Stop}
use Rattle.mcv_command.specs.declared.stop.Stop.TheVariants.{BadLine, Mended, NoChange, Run, Damaged}
use Rattle.mcv_command.specs.Program.{AsksAnyRun, AsksAnySpool, AsksReport, GivesJson, Held, IfGiven, IsDrawingStop, IsJudgingFault, IsListingStop, IsMendingStop, IsReportedStop, IsStop}
use Rattle.mcv_command.specs.Stop.{of_records, stop_of_mending}
use Rattle.mcv_words.specs.Words.{AsksCheck, AsksDraw, AsksMend, AsksRun, AsksSpool, RunOrder, SpoolOrder, named}
use Rattle.mcv_words.specs.declared.options.CheckOptions.{CheckOptions}

-- ---- the faults of a verdict, as the program's

pub judging_stop : (words : List Text) (held : Held) (input : Option Text) (cert : Option Text) (options : CheckOptions) (stop : Stop) → AsksCheck words cert options
    → IsJudgingFault held cert options.window.seconds input stop → IsStop words held input stop
judging_stop words held input cert options BadLine asks holds = absurd holds
judging_stop words held input cert options (Damaged slot) asks holds = absurd holds
judging_stop words held input cert options (Run fault) asks holds = inr (inr (inl (cert, options, asks, holds)))
judging_stop words held input cert options (Mended fault) asks holds = absurd holds
judging_stop words held input cert options NoChange asks holds = absurd holds

pub running_stop : (words : List Text) (held : Held) (input : Option Text) (order : RunOrder) (stop : Stop) → AsksRun words order
    → IsJudgingFault held None order.settings.window.seconds input stop → IsStop words held input stop
running_stop words held input order BadLine asks holds = absurd holds
running_stop words held input order (Damaged slot) asks holds = absurd holds
running_stop words held input order (Run fault) asks holds = inr (inr (inr (inr (inl (order, asks, holds)))))
running_stop words held input order (Mended fault) asks holds = absurd holds
running_stop words held input order NoChange asks holds = absurd holds

-- a call that writes nothing on a fault where no report is asked for writes nothing where the words ask for none
pub silent_unless_json : {T : Type 0} (words : List Text) (json : Bool) (r : Result T Stop) (Same : Type 0) → (json ≡ true → AsksReport words)
    → (json ≡ false → IfErr r (λ stop. stop ≢ Run Device → Same))
    → IfErr r (λ stop. stop ≢ Run Device → (stop ≡ Run Memory → ¬ AsksAnyRun words) → ¬ AsksAnySpool words → ¬ AsksReport words → Same)
silent_unless_json words json (Ok x) Same asks silent = tt
silent_unless_json words true (Err stop) Same asks silent = λ no_device unasked unlisted unreported. absurd (unreported (asks refl))
silent_unless_json words false (Err stop) Same asks silent = λ no_device unasked unlisted unreported. silent refl no_device

-- ---- a report in place of a verdict

-- a fault of a run that was reported
pub reported_stop : (input old new : Option Text) (stop : Stop) (fault : RunFault) → stop ≡ Run fault → IsReportedStop input old new (Run fault) → IsReportedStop input old new stop
reported_stop input old new stop fault is holds = subst (λ (s : Stop). IsReportedStop input old new s) (sym is) holds

-- where memory ran out or a device failed, nothing is said of a report
pub outside_unreported : (input old new : Option Text) (stop : Stop) (fault : RunFault) → stop ≡ Run fault → IsOutside fault → IsReportedStop input old new stop
outside_unreported input old new stop fault is (inl memory) = reported_stop input old new stop fault is (λ no_memory no_device. absurd (no_memory memory))
outside_unreported input old new stop fault is (inr device) = reported_stop input old new stop fault is (λ no_memory no_device. absurd (no_device device))

-- the values of the command
abbrev rows_of : Option (Text × List Row) → List Row
rows_of None = []
rows_of (Some command) = command.1

-- the command is `check`
abbrev is_check : Option (Text × List Row) → Bool
is_check None = false
is_check (Some command) = bytes_eq command.0 (codes "check")

-- words that give `--json` ask for a report
pub json_asked : (words : List Text) (cert : Option Text) (options : CheckOptions) → AsksCheck words cert options → GivesJson words → options.json ≡ true
json_asked words cert options asks gives =
    let same : gives.1 ≡ asks.1 = ap rows_of (sym gives.2 ∙ asks.2) in
    let values = asks.3 in
    let json = values.3 in
    json.0 (subst (λ (rows : List Row). one_of (codes "json") rows ≡ Some (codes "true")) same gives.3)

-- .. and name no other command
pub json_of_check : (words : List Text) (name : Text) (rows : List Row) → GivesJson words → named words ≡ Some (name, rows) → bytes_eq name (codes "check") ≡ false → ⊥
json_of_check words name rows gives is other = true≢false (ap is_check (sym gives.2 ∙ is) ∙ other)

-- ---- what isn't mended

pub mending_fault : (input : Option Text) (fault : MendFault) → IfSome input (λ bytes. IsMendFault bytes fault) → IsMendingStop input (stop_of_mending fault)
mending_fault input (mend_faults.Run fault) holds = holds
mending_fault input (mend_faults.Limit fault) holds = holds
mending_fault input mend_faults.GaveUp holds = holds

pub mending_stop : (words : List Text) (held : Held) (input : Option Text) (patch : Bool) (stop : Stop) → AsksMend words patch → IsMendingStop input stop → IsStop words held input stop
mending_stop words held input patch BadLine asks holds = absurd holds
mending_stop words held input patch (Damaged slot) asks holds = absurd holds
mending_stop words held input patch (Run fault) asks holds = inr (inr (inr (inl (patch, asks, holds))))
mending_stop words held input patch (Mended fault) asks holds = (patch, asks, holds)
mending_stop words held input patch NoChange asks holds = (patch, asks, holds)

-- ---- what isn't drawn

pub drawing_stop : (words : List Text) (held : Held) (input : Option Text) (is_dot : Bool) (stop : Stop) → AsksDraw words is_dot → IsDrawingStop input stop → IsStop words held input stop
drawing_stop words held input is_dot BadLine asks holds = absurd holds
drawing_stop words held input is_dot (Damaged slot) asks holds = absurd holds
drawing_stop words held input is_dot (Run fault) asks holds = inr (inr (inr (inr (inr (is_dot, asks, holds)))))
drawing_stop words held input is_dot (Mended fault) asks holds = absurd holds
drawing_stop words held input is_dot NoChange asks holds = absurd holds

-- ---- a run's faults

-- a fault that is outside is out of memory or a device's
pub outside_stop : (stop : Stop) (fault : RunFault) → stop ≡ Run fault → IsOutside fault → stop ≢ Run Device → stop ≢ Run Memory → ⊥
outside_stop stop fault is (inl memory) no_device no_memory = no_memory (is ∙ ap Run memory)
outside_stop stop fault is (inr device) no_device no_memory = no_device (is ∙ ap Run device)

-- ---- the records of a spool

pub listing_stop : (words : List Text) (held : Held) (input : Option Text) (order : SpoolOrder) (stop : Stop) → AsksSpool words order → IsListingStop stop
    → IsStop words held input stop
listing_stop words held input order BadLine asks holds = absurd holds
listing_stop words held input order (Run fault) asks holds = inl holds
listing_stop words held input order (Mended fault) asks holds = absurd holds
listing_stop words held input order NoChange asks holds = absurd holds
listing_stop words held input order (Damaged slot) asks holds = (order, asks)

-- what is said of the file that a view shows is said of what the file holds
pub listed_whole : (known : Option Text) (K : Type 0) (seen : Text) (P : Text → Type 0) → IfSome known (λ all. K × (seen ≡ all)) → (K → P seen) → IfSome known P
listed_whole None K seen P shows holds = tt
listed_whole (Some all) K seen P shows holds = subst P shows.1 (holds shows.0)

pub records_stop : (fault : RecordsFault) (stop : Stop) → stop ≡ of_records fault → IsListingStop stop
records_stop (records.Damaged slot) stop is = subst (λ (s : Stop). IsListingStop s) (sym is) tt
records_stop records.Device stop is = subst (λ (s : Stop). IsListingStop s) (sym is) (inr refl)
records_stop records.Memory stop is = subst (λ (s : Stop). IsListingStop s) (sym is) (inl refl)

same_slot : (one other : ℕ) → Damaged one ≡ Damaged other → one ≡ other
same_slot one other is = cc

not_damaged : (fault : RunFault) (slot : ℕ) → Run fault ≡ Damaged slot → ⊥
not_damaged fault slot is = cc

same_stop : (result : Result Ending Stop) (one other : Stop) → result ≡ Err one → result ≡ Err other → one ≡ other
same_stop result one other is too = let same : ◌≡◌ {A = Result Ending Stop} (Err one) (Err other) = sym is ∙ too in cc

-- a fault of a run is no damaged slot
pub run_is_whole : (result : Result Ending Stop) (stop : Stop) (fault : RunFault) (slot : ℕ) → result ≡ Err stop → stop ≡ Run fault → result ≡ Err (Damaged slot) → ⊥
run_is_whole result stop fault slot is by damaged = not_damaged fault slot (sym by ∙ same_stop result stop (Damaged slot) is damaged)

-- .. nor is one of a verdict
pub judged_whole : (result : Result Ending Stop) (held : Held) (cert : Option Text) (window : ℕ) (input : Option Text) (slot : ℕ)
    → IfErr result (IsJudgingFault held cert window input) → result ≡ Err (Damaged slot) → ⊥
judged_whole result held cert window input slot holds damaged = subst (λ (r : Result Ending Stop). IfErr r (IsJudgingFault held cert window input)) damaged holds

-- .. nor is one of a configuration that isn't mended
pub mended_whole : (result : Result Ending Stop) (input : Option Text) (slot : ℕ) → IfErr result (IsMendingStop input) → result ≡ Err (Damaged slot) → ⊥
mended_whole result input slot holds damaged = subst (λ (r : Result Ending Stop). IfErr r (IsMendingStop input)) damaged holds

-- .. nor is one of a configuration that isn't drawn
pub drawn_whole : (result : Result Ending Stop) (input : Option Text) (slot : ℕ) → IfErr result (IsDrawingStop input) → result ≡ Err (Damaged slot) → ⊥
drawn_whole result input slot holds damaged = subst (λ (r : Result Ending Stop). IfErr r (IsDrawingStop input)) damaged holds

-- a damaged slot is one of the records'
pub damaged_records : (result : Result Ending Stop) (fault : RecordsFault) (stop : Stop) (slot : ℕ) → result ≡ Err stop → stop ≡ of_records fault → result ≡ Err (Damaged slot)
    → fault ≡ records.Damaged slot
damaged_records result (records.Damaged number) stop slot is of damaged =
    ap records.Damaged (same_slot number slot (sym of ∙ same_stop result stop (Damaged slot) is damaged))
damaged_records result records.Device stop slot is of damaged = absurd (run_is_whole result stop Device slot is of damaged)
damaged_records result records.Memory stop slot is of damaged = absurd (run_is_whole result stop Memory slot is of damaged)

-- ---- a certificate's text by its first bytes

abbrev pub read_limit : ℕ
read_limit = text_limit + 1

says_all : (text first : List ℕ) (r : Reading) → first ≡ take read_limit text → Says first r → Says text r
says_all text first r is (over long) =
    let cut : length (take read_limit text) ≤ length text = omega (arith, length-take read_limit text) in
    let more : length first ≤ length text = subst (λ (xs : List ℕ). length xs ≤ length text) (sym is) cut in
    over (omega arith)
says_all text first r is (headless short none) =
    let same : first ≡ text = is ∙ whole read_limit text (subst (λ (xs : List ℕ). length xs < read_limit) is (omega arith)) in
    subst (λ (xs : List ℕ). Says xs r) same (headless short none)
says_all text first r is (reads w body s small short starts behind) =
    let same : first ≡ text = is ∙ whole read_limit text (subst (λ (xs : List ℕ). length xs < read_limit) is (omega arith)) in
    subst (λ (xs : List ℕ). Says xs s) same (reads w body s small short starts behind)

verdict_by_all : (input : List ℕ) (window : ℕ) (text first : List ℕ) (verdict : Verdict) (written : List ℕ) → first ≡ take read_limit text
    → IsVerdictOn input window (Some first) verdict written → IsVerdictOn input window (Some text) verdict written
verdict_by_all input window text first (Covered n) written is on = (on.0, on.1, (on.2.0, says_all text first _ is on.2.1, on.2.2, on.2.3, on.2.4))
verdict_by_all input window text first Lost written is on = absurd on.2

explained_by_all : (input : List ℕ) (window : ℕ) (text first : List ℕ) (verdict : Verdict) (written : List ℕ) → first ≡ take read_limit text
    → IsExplainedOn input window (Some first) verdict written → IsExplainedOn input window (Some text) verdict written
explained_by_all input window text first (Covered n) written is on =
    let explained = on.4.2 in
    (on.0, on.1, on.2, on.3, (on.4.0, on.4.1, (explained.0, explained.1, says_all text first _ is explained.2, explained.3, explained.4)))
explained_by_all input window text first Lost written is on = absurd on.4.2

reported_by_all : (input : List ℕ) (window : ℕ) (text first : List ℕ) (verdict : Verdict) (written : List ℕ) → first ≡ take read_limit text
    → IsReportedOn input window (Some first) verdict written → IsReportedOn input window (Some text) verdict written
reported_by_all input window text first (Covered n) written is on =
    let reported = on.4 in
    (on.0, on.1, on.2, on.3, (reported.0, reported.1, says_all text first _ is reported.2, reported.3, reported.4))
reported_by_all input window text first Lost written is on = absurd on.4

-- the same as the options ask
pub verdict_as_by_all : (options : CheckOptions) (input text first : List ℕ) (verdict : Verdict) (written : List ℕ) → first ≡ take read_limit text
    → IsVerdictAs options input (Some first) verdict written → IsVerdictAs options input (Some text) verdict written
verdict_as_by_all options input text first verdict written is on = go options.json options.explain on
  where
    go : (json explain : Bool) → IsVerdictIf json explain input options.window.seconds (Some first) verdict written
        → IsVerdictIf json explain input options.window.seconds (Some text) verdict written
    go true explain here = reported_by_all input options.window.seconds text first verdict written is here
    go false true here = explained_by_all input options.window.seconds text first verdict written is here
    go false false here = verdict_by_all input options.window.seconds text first verdict written is here

pub fault_by_all : (input : List ℕ) (window : ℕ) (text first : List ℕ) (fault : RunFault) → first ≡ take read_limit text → check.IsRunFault input window (Some first) fault
    → check.IsRunFault input window (Some text) fault
fault_by_all input window text first Line is holds = holds
fault_by_all input window text first NoRoute is holds = holds
fault_by_all input window text first (Config fault) is holds = holds
fault_by_all input window text first (CertificateText fault) is holds = (holds.0, holds.1, says_all text first _ is holds.2)
fault_by_all input window text first (Certificate fault) is holds = (holds.0, holds.1, (holds.2.0, says_all text first _ is holds.2.1, holds.2.2))
fault_by_all input window text first Window is holds = (holds.0, holds.1, (holds.2.0, holds.2.1, says_all text first _ is holds.2.2, holds.2.3))
fault_by_all input window text first Memory is holds = tt
fault_by_all input window text first Device is holds = tt

-- what follows from the first bytes of a file follows from what it holds; where that isn't known, these are some bytes
given_one : (known : Option Text) (first : List ℕ) (P : Option Text → Type 0) → IfSome known (λ all. first ≡ take read_limit all)
    → ((all : List ℕ) → first ≡ take read_limit all → P (Some first) → P (Some all)) → P (Some first)
    → MatchOption known ((bytes : Text) × P (Some bytes)) (λ text. P (Some text))
given_one None first P read more here = (first, here)
given_one (Some all) first P read more here = more all read here

pub given_all : (held : Held) (name : Text) (first : List ℕ) (input : Option Text) (P : List ℕ → Option Text → Type 0) → IfSome (held name) (λ all. first ≡ take read_limit all)
    → ((bytes all : List ℕ) → first ≡ take read_limit all → P bytes (Some first) → P bytes (Some all)) → IfSome input (λ bytes. P bytes (Some first))
    → IfSome input (λ bytes. IfGiven held (Some name) (P bytes))
given_all held name first input P read more holds =
    IfSome_then input holds (λ bytes here. given_one (held name) first (P bytes) read (λ all is was. more bytes all is was) here)
