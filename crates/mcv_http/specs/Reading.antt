-- What is read of the bytes of a request (own; its grammar is that of httparse, after RFC 9112).
use Rattle.std.specs.Prelude.{◌≡◌, ℕ, ◌<◌, ◌≤◌, List, length, Option, Some, None, Result, Ok, Err}
use Rattle.httparse.specs.Grammar.{HasNoRequest, MayBecomeRequest, NeverHasRequest, ReadsRequest, RequestHead}
use Rattle.httparse.specs.Spans.{RequestExceeds, RequestOverflows}
use Rattle.httparse.specs.declared.Error.{Error}
use Rattle.httparse.specs.declared.Error.TheVariants.{TooManyHeaders}
use Rattle.mcv_http.specs.Request.{answer}
use Rattle.mcv_http.specs.declared.request.Request.{Request}
use Rattle.mcv_http.specs.declared.request.Refusal.{Refusal}
use Rattle.mcv_http.specs.declared.request.Refusal.TheVariants.{BadRequest, TooLong}

-- the most bytes and the most fields of a head
abbrev pub byte_limit : ℕ
byte_limit = 8192

abbrev pub field_limit : ℕ
field_limit = 64

-- the bytes begin with a head whose method and target have this answer
pub record Answers (bytes : List ℕ) (result : Result Request Refusal) : Type 0 where
  pub head : RequestHead
  pub rest : List ℕ
  pub reads : ReadsRequest bytes head rest
  pub is : result ≡ answer head.method head.target

-- why bytes are refused
pub data IsRefused (bytes : List ℕ) : Refusal → Type 0 where
  answered : (refusal : Refusal) → Answers bytes (Err refusal) → IsRefused bytes refusal
  no_request : NeverHasRequest bytes → IsRefused bytes BadRequest
  too_many : RequestOverflows field_limit bytes → RequestExceeds field_limit bytes → IsRefused bytes TooLong
  too_long : byte_limit ≤ length bytes → HasNoRequest bytes → IsRefused bytes TooLong

-- why bytes are refused that httparse doesn't read, by its error
abbrev pub refusal_by : Error → Refusal
refusal_by TooManyHeaders = TooLong
refusal_by _ = BadRequest

-- what is known from bytes: nothing yet, what they ask for, or why they are refused
abbrev pub IsKnown : List ℕ → Option (Result Request Refusal) → Type 0
IsKnown bytes None = HasNoRequest bytes × MayBecomeRequest bytes × (length bytes < byte_limit)
IsKnown bytes (Some (Ok request)) = Answers bytes (Ok request)
IsKnown bytes (Some (Err refusal)) = IsRefused bytes refusal

-- a head that is there, with no more fields than it may have, is answered
abbrev pub IsAnswered : List ℕ → Option (Result Request Refusal) → Type 0
IsAnswered bytes known = (head : RequestHead) (rest : List ℕ) → ReadsRequest bytes head rest → length head.fields ≤ field_limit → known ≡ Some (answer head.method head.target)
