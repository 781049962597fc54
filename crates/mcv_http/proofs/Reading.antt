-- What httparse says of the bytes, as what is known from them.
use Rattle.std.proofs.Common.{◌≡◌, ◌≢◌, ◌∙◌, ℕ, ◌<◌, ◌≤◌, List, [], ◌++◌, length, drop, append-nil, refl, sym, ap, subst, arith, Option, None, Some, Result, Ok, Err}
use Rattle.httparse.specs.Grammar.{HasNoRequest, NeverHasRequest, ReadsRequest, RequestHead}
use Rattle.httparse.specs.Spans.{IsRequestAt, IsRequestOf, RequestExceeds, RequestOverflows, span_bytes}
use Rattle.httparse.specs.declared.Error.{Error}
use Rattle.httparse.specs.declared.Error.TheVariants.{TooManyHeaders}
use Rattle.httparse.specs.declared.spans.HeaderSpan.{HeaderSpan}
use Rattle.httparse.specs.declared.spans.RequestSpans.{RequestSpans}
use Rattle.mcv_http.specs.Reading.{Answers, IsAnswered, IsKnown, IsRefused, answered, field_limit, no_request, refusal_by, too_many}
use Rattle.mcv_http.specs.Request.{answer}
use Rattle.mcv_http.specs.declared.request.Refusal.{Refusal}
use Rattle.mcv_http.specs.declared.request.Request.{Request}

known_answer : (bytes : List ℕ) (r : Result Request Refusal) → Answers bytes r → IsKnown bytes (Some r)
known_answer bytes (Ok request) is = is
known_answer bytes (Err refusal) is = answered refusal is

module _ (bytes : List ℕ) (headers : List HeaderSpan) (spans : RequestSpans) (method target : List ℕ) (r : Result Request Refusal)
    (method_is : method ≡ span_bytes bytes spans.method) (target_is : target ≡ span_bytes bytes spans.path) (r_is : r ≡ answer method target) where
  answer_is : (h : RequestHead) → IsRequestAt bytes headers spans h → r ≡ answer h.method h.target
  answer_is h at = r_is ∙ (λ i. answer ((method_is ∙ at.method) i) ((target_is ∙ at.path) i))

  pub whole_is_known : IsRequestOf bytes headers spans → IsKnown bytes (Some r)
  whole_is_known whole = known_answer bytes r (record { head = whole.0; rest = drop spans.len bytes; reads = whole.1.reads; is = answer_is whole.0 whole.1 })

  pub whole_is_answered : (h : RequestHead) → IsRequestAt bytes headers spans h → Some r ≡ Some (answer h.method h.target)
  whole_is_answered h at = ap Some (answer_is h at)

-- bytes that httparse doesn't read are refused, by its error
pub refused_by : (bytes : List ℕ) (error : Error) → RequestOverflows field_limit bytes → (error ≡ TooManyHeaders → RequestExceeds field_limit bytes)
    → (error ≢ TooManyHeaders → NeverHasRequest bytes) → IsRefused bytes (refusal_by error)
refused_by bytes TooManyHeaders over exceeds never = too_many over (exceeds refl)
refused_by bytes _ over exceeds never = no_request (never (λ is. cc))

-- .. and have no head with so few fields
pub none_that_fits : (bytes : List ℕ) → RequestOverflows field_limit bytes → (head : RequestHead) (rest : List ℕ) → ReadsRequest bytes head rest → length head.fields ≤ field_limit → ⊥
none_that_fits bytes over head rest reads few =
    let many = over [] head rest (subst (λ (l : List ℕ). ReadsRequest l head rest) (sym (append-nil bytes)) reads) in
    omega (arith, many, few)
