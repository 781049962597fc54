-- What a method and a target ask for (own).
use Rattle.std.specs.Prelude.{ℕ, ◌+◌, ◌==◌, ◌&&◌, Bool, nat_lt, List, [], length, take, drop, position, Option, Some, None, Result, Ok, Err, codes, if◌then◌else◌}
use Rattle.std.specs.List.{list_all}
use Rattle.std.specs.Char.{is_ascii_digit}
use Rattle.std.specs.Str.{bytes_eq}
use Rattle.mcv_base.specs.Key.{begins_with}
use Rattle.mcv_base.specs.Server.{number}
use Rattle.mcv_http.specs.declared.request.Method.{Method}
use Rattle.mcv_http.specs.declared.request.Method.TheVariants.{Get, Post}
use Rattle.mcv_http.specs.declared.request.Request.{Request}
use Rattle.mcv_http.specs.declared.request.Request.TheVariants as requests
use Rattle.mcv_http.specs.declared.request.Refusal.{Refusal}
use Rattle.mcv_http.specs.declared.request.Refusal.TheVariants.{BadRequest, NotFound, MethodNotAllowed}
use Rattle.mcv_http.specs.declared.request.Resource.{Resource}
use Rattle.mcv_http.specs.declared.request.Resource.TheVariants.{Metrics, Health, Drain}

abbrev pub method_word : Method → List ℕ
method_word Get = codes "GET"
method_word Post = codes "POST"

abbrev pub resource_at : List ℕ → Option Resource
resource_at path =
    if bytes_eq path (codes "/metrics") then Some Metrics
    else if bytes_eq path (codes "/health") then Some Health
    else if bytes_eq path (codes "/drain") then Some Drain else None

-- the one method that it has
abbrev pub method_of : Resource → Method
method_of Metrics = Get
method_of Health = Get
method_of Drain = Post

-- one to five digits
abbrev pub short_number : List ℕ → Option ℕ
short_number digits = if nat_lt 0 (length digits) && (nat_lt (length digits) 6 && list_all is_ascii_digit digits) then Some (number digits) else None

-- `seconds=` and such a number; 30 where the query is empty
abbrev pub seconds_of : List ℕ → Option ℕ
seconds_of query =
    if nat_lt 0 (length query) then (if begins_with query (codes "seconds=") then short_number (drop 8 query) else None)
    else Some 30

abbrev pub drain_of : Option ℕ → Result Request Refusal
drain_of None = Err BadRequest
drain_of (Some seconds) = Ok (requests.Drain seconds)

-- what is asked of it with this query, which only a drain looks at
abbrev pub request_for : Resource → List ℕ → Result Request Refusal
request_for Metrics query = Ok requests.Metrics
request_for Health query = Ok requests.Health
request_for Drain query = drain_of (seconds_of query)

abbrev pub answer_for : Option Resource → List ℕ → List ℕ → Result Request Refusal
answer_for None method query = Err NotFound
answer_for (Some r) method query = if bytes_eq method (method_word (method_of r)) then request_for r query else Err (MethodNotAllowed (method_of r))

abbrev pub answer_at : List ℕ → List ℕ → List ℕ → Result Request Refusal
answer_at method path query = answer_for (resource_at path) method query

abbrev pub is_question_mark : ℕ → Bool
is_question_mark b = b == 63

-- the path is what comes before the first question mark, the query what comes behind it (RFC 9112, 3.2.1)
abbrev pub answer_cut : List ℕ → List ℕ → Option ℕ → Result Request Refusal
answer_cut method target None = answer_at method target []
answer_cut method target (Some place) = answer_at method (take place target) (drop (place + 1) target)

abbrev pub answer : List ℕ → List ℕ → Result Request Refusal
answer method target = answer_cut method target (position is_question_mark target)
