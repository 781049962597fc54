-- What is written of a verdict, by the options: its own text, the explanation behind it, or the report in its place (own).
use Rattle.std.specs.Prelude.{ℕ, Bool, true, false, List, Option}
use Rattle.mcv_show.specs.Explained.{IsExplainedOn}
use Rattle.mcv_show.specs.Reported.{IsReportedOn}
use Rattle.mcv_verdict.specs.Verdict.{IsVerdictOn}
use Rattle.mcv_verdict.specs.declared.verdict.Verdict.{Verdict}
use Rattle.mcv_words.specs.declared.options.CheckOptions.{CheckOptions}

-- a report explains no more where an explanation is asked for, too
abbrev pub IsVerdictIf : (json explain : Bool) → (input : List ℕ) → (window : ℕ) → (certificate : Option (List ℕ)) → Verdict → (text : List ℕ) → Type 0
IsVerdictIf true explain input window certificate verdict text = IsReportedOn input window certificate verdict text
IsVerdictIf false true input window certificate verdict text = IsExplainedOn input window certificate verdict text
IsVerdictIf false false input window certificate verdict text = IsVerdictOn input window certificate verdict text

-- the text says the verdict on the input as the options ask
abbrev pub IsVerdictAs : CheckOptions → (input : List ℕ) → (certificate : Option (List ℕ)) → Verdict → (text : List ℕ) → Type 0
IsVerdictAs o input certificate verdict text = IsVerdictIf o.json o.explain input o.window.seconds certificate verdict text
