-- The verdict on routes, with their picture.
use Rattle.std.proofs.Common.{◌≡◌, ℕ, Bool, List, Option, Some, None, IfSome, length, refl, subst, sym}
use Rattle.mcv_cert.specs.Pair.{CertificateValue}
use Rattle.mcv_input.specs.Fault.{AreNamedBy}
use Rattle.mcv_route.specs.Routes.{RoutesValue, within}
use Rattle.mcv_verdict.specs.Text.{covered_line}
use Rattle.mcv_verdict.specs.Verdict.{IsJudged}
use Rattle.mcv_verdict.specs.declared.verdict.Judged.TheVariants as judged
use Rattle.mcv_verdict.specs.declared.verdict.Verdict.{Verdict}
use Rattle.mcv_verdict.specs.declared.verdict.Verdict.TheVariants.{Covered, Lost}
use Rattle.mcv_witness.specs.Finding.{finding_of}
use Rattle.mcv_witness.specs.Text.{finding_text}
use Rattle.mcv_witness.specs.declared.finding.Finding.{Finding}
use Rattle.mcv_picture.specs.Drawing.{IsDrawnOf, IsDrawnOn, IsDrawnWith, ShowsFinding, certificate_marks}

pub drawn_covered : (is_dot : Bool) (r accepted : RoutesValue) (c : CertificateValue) (verdict : Verdict) (text : List ℕ) → IsJudged r (judged.Covered accepted c)
    → verdict ≡ Covered (length c.pairs) → IsDrawnWith (λ number m. m ≡ certificate_marks c number) is_dot accepted (covered_line (length c.pairs)) text → IsDrawnOf is_dot r verdict text
drawn_covered is_dot r accepted c verdict text found is drawn =
    subst (λ (v : Verdict). IsDrawnOf is_dot r v text) (sym is)
    (c, found.1, found.2, refl, subst (λ (own : RoutesValue). IsDrawnWith (λ number m. m ≡ certificate_marks c number) is_dot own (covered_line (length c.pairs)) text) found.0 drawn)

pub drawn_lost : (is_dot : Bool) (r routes : RoutesValue) (f : Finding) (verdict : Verdict) (text : List ℕ) → IsJudged r (judged.Lost routes f) → verdict ≡ Lost
    → IsDrawnWith (ShowsFinding routes (finding_of f)) is_dot routes (finding_text routes (finding_of f)) text → IsDrawnOf is_dot r verdict text
drawn_lost is_dot r routes f verdict text found is drawn =
    subst (λ (v : Verdict). IsDrawnOf is_dot r v text) (sym is)
    (finding_of f, found.1, subst (λ (own : RoutesValue). IsDrawnWith (ShowsFinding own (finding_of f)) is_dot own (finding_text own (finding_of f)) text) found.0 drawn)

drawn_on : (is_dot : Bool) (input : List ℕ) (window : ℕ) (r own : RoutesValue) (verdict : Verdict) (drawn text : List ℕ) → AreNamedBy input r → own ≡ within window r
    → IsDrawnOf is_dot own verdict drawn → text ≡ drawn → IsDrawnOn is_dot input window verdict text
drawn_on is_dot input window r own verdict drawn text named is of same =
    (r, named, subst (λ (x : RoutesValue). IsDrawnOf is_dot x verdict text) is (subst (λ (t : List ℕ). IsDrawnOf is_dot own verdict t) (sym same) of))

-- .. of the input, where it is known which it is
pub drawn_known : (known : Option (List ℕ)) (is_dot : Bool) (window : ℕ) (r own : RoutesValue) (verdict : Verdict) (drawn text : List ℕ) → IfSome known (λ input. AreNamedBy input r)
    → own ≡ within window r → IsDrawnOf is_dot own verdict drawn → text ≡ drawn → IfSome known (λ input. IsDrawnOn is_dot input window verdict text)
drawn_known None is_dot window r own verdict drawn text named is of same = tt
drawn_known (Some input) is_dot window r own verdict drawn text named is of same = drawn_on is_dot input window r own verdict drawn text named is of same
