-- What is said of routes, by what was found of them.
use Rattle.std.proofs.Common.{◌≡◌, ◌++◌, ℕ, Bool, true, false, List, Option, None, Some, length, refl, subst, sym, true≢false}
use Rattle.std.proofs.lemmas.List.{append-nil}
use Rattle.serde_json.specs.Data.{Data}
use Rattle.mcv_cert.specs.Pair.{CertificateValue}
use Rattle.mcv_explain.specs.Explanation.{explanation}
use Rattle.mcv_input.specs.declared.fault.RunFault.TheVariants.{Memory}
use Rattle.mcv_route.specs.Eras.{IsBreakTable, breaks_of}
use Rattle.mcv_route.specs.Routes.{RoutesValue}
use Rattle.mcv_report.specs.CertificateReport.{covered_report}
use Rattle.mcv_report.specs.FindingReport.{lost_report}
use Rattle.mcv_report.specs.Json.{IsJsonOf}
use Rattle.mcv_show.specs.AsAsked.{IsVerdictAs, IsVerdictIf}
use Rattle.mcv_show.specs.Explained.{IsExplainedOf, IsExplainedOn, covered_explained, if_made, is_made, scene}
use Rattle.mcv_show.specs.Reported.{IsReportedOf, IsReportedOn}
use Rattle.mcv_verdict.specs.Fault.{IsRefusedFor}
use Rattle.mcv_verdict.specs.Verdict.{IsJudgedFor, IsVerdictOn}
use Rattle.mcv_verdict.specs.declared.verdict.Judged.TheVariants as judged
use Rattle.mcv_verdict.specs.declared.verdict.Verdict.{Verdict}
use Rattle.mcv_verdict.specs.declared.verdict.Verdict.TheVariants.{Covered, Lost}
use Rattle.mcv_witness.specs.Finding.{finding_of}
use Rattle.mcv_witness.specs.Text.{finding_text}
use Rattle.mcv_witness.specs.declared.finding.Finding.{Finding}
use Rattle.mcv_words.specs.declared.options.CheckOptions.{CheckOptions}

-- memory may run out of any routes
pub memory_refuses : (r : RoutesValue) (given : Option (List ℕ)) → IsRefusedFor r given Memory
memory_refuses r None = refl
memory_refuses r (Some certificate) = tt

-- ---- by the options

pub plain_as : (o : CheckOptions) (input : List ℕ) (given : Option (List ℕ)) (v : Verdict) (text : List ℕ) → o.json ≡ false → o.explain ≡ false
    → IsVerdictOn input o.window.seconds given v text → IsVerdictAs o input given v text
plain_as o input given v text no_json unexplained on =
    subst (λ (b : Bool). IsVerdictIf b o.explain input o.window.seconds given v text) (sym no_json)
    (subst (λ (b : Bool). IsVerdictIf false b input o.window.seconds given v text) (sym unexplained) on)

pub explained_as : (o : CheckOptions) (input : List ℕ) (given : Option (List ℕ)) (v : Verdict) (text : List ℕ) → o.json ≡ false → o.explain ≡ true
    → IsExplainedOn input o.window.seconds given v text → IsVerdictAs o input given v text
explained_as o input given v text no_json is on =
    subst (λ (b : Bool). IsVerdictIf b o.explain input o.window.seconds given v text) (sym no_json)
    (subst (λ (b : Bool). IsVerdictIf false b input o.window.seconds given v text) (sym is) on)

pub reported_as : (o : CheckOptions) (input : List ℕ) (given : Option (List ℕ)) (v : Verdict) (text : List ℕ) → o.json ≡ true → IsReportedOn input o.window.seconds given v text
    → IsVerdictAs o input given v text
reported_as o input given v text json on = subst (λ (b : Bool). IsVerdictIf b o.explain input o.window.seconds given v text) (sym json) on

-- ---- the certificate, where it was made here

pub is_added : (b : Bool) (old text : List ℕ) → b ≡ true → old ++ text ≡ old ++ if_made b text
is_added true old text is = refl
is_added false old text is = absurd (true≢false (sym is))

pub is_left_out : (b : Bool) (old text : List ℕ) → b ≡ false → old ≡ old ++ if_made b text
is_left_out true old text is = absurd (true≢false is)
is_left_out false old text is = sym (append-nil old)

-- ---- what is lost

pub explained_lost : (d : Data) (r routes : RoutesValue) (given : Option (List ℕ)) (f : Finding) (v : Verdict) (table text : List ℕ)
    → IsJudgedFor r given (judged.Lost routes f) → v ≡ Lost → IsBreakTable (breaks_of routes) table
    → text ≡ finding_text routes (finding_of f) ++ explanation (scene d routes (finding_of f)) table → IsExplainedOf d r given v text
explained_lost d r routes None f v table text found is breaks said =
    subst (λ (w : Verdict). IsExplainedOf d r None w text) (sym is) (
      table,
      subst (λ (x : RoutesValue). IsBreakTable (breaks_of x) table) found.0 breaks,
      (
        finding_of f,
        found.1,
        subst (λ (x : RoutesValue). text ≡ finding_text x (finding_of f) ++ explanation (scene d x (finding_of f)) table) found.0 said,
      ),
    )
explained_lost d r routes (Some certificate) f v table text found is breaks said = absurd found

-- ---- what is covered

pub explained_covered : (d : Data) (r routes : RoutesValue) (given : Option (List ℕ)) (made : Bool) (c : CertificateValue) (v : Verdict) (table text : List ℕ)
    → IsJudgedFor r given (judged.Covered routes c) → made ≡ is_made given → v ≡ Covered (length c.pairs) → IsBreakTable (breaks_of routes) table
    → text ≡ covered_explained made c table → IsExplainedOf d r given v text
explained_covered d r routes None made c v table text found by is breaks said =
    let shown : text ≡ covered_explained true c table = subst (λ (m : Bool). text ≡ covered_explained m c table) by said in
    subst (λ (w : Verdict). IsExplainedOf d r None w text) (sym is)
    (table, subst (λ (x : RoutesValue). IsBreakTable (breaks_of x) table) found.0 breaks, (c, found.1, found.2, refl, shown))
explained_covered d r routes (Some certificate) made c v table text found by is breaks said =
    let shown : text ≡ covered_explained false c table = subst (λ (m : Bool). text ≡ covered_explained m c table) by said in
    subst (λ (w : Verdict). IsExplainedOf d r (Some certificate) w text) (sym is)
    (table, subst (λ (x : RoutesValue). IsBreakTable (breaks_of x) table) found.0 breaks, (c, found.2, found.1, refl, shown))

-- ---- reports

pub reported_lost : (d : Data) (r routes : RoutesValue) (given : Option (List ℕ)) (f : Finding) (v : Verdict) (table text : List ℕ)
    → IsJudgedFor r given (judged.Lost routes f) → v ≡ Lost → IsBreakTable (breaks_of routes) table → IsJsonOf text (lost_report (scene d routes (finding_of f)) table)
    → IsReportedOf d r given v text
reported_lost d r routes None f v table text found is breaks said =
    subst (λ (w : Verdict). IsReportedOf d r None w text) (sym is) (
      finding_of f,
      found.1,
      table,
      subst (λ (x : RoutesValue). IsBreakTable (breaks_of x) table) found.0 breaks,
      subst (λ (x : RoutesValue). IsJsonOf text (lost_report (scene d x (finding_of f)) table)) found.0 said,
    )
reported_lost d r routes (Some certificate) f v table text found is breaks said = absurd found

pub reported_covered : (d : Data) (r routes : RoutesValue) (given : Option (List ℕ)) (c : CertificateValue) (v : Verdict) (text : List ℕ)
    → IsJudgedFor r given (judged.Covered routes c) → v ≡ Covered (length c.pairs) → IsJsonOf text (covered_report d c) → IsReportedOf d r given v text
reported_covered d r routes None c v text found is said = subst (λ (w : Verdict). IsReportedOf d r None w text) (sym is) (c, found.1, found.2, refl, said)
reported_covered d r routes (Some certificate) c v text found is said =
    subst (λ (w : Verdict). IsReportedOf d r (Some certificate) w text) (sym is) (c, found.2, found.1, refl, said)
