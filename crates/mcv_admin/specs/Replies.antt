-- The responses to an operator's requests (own).
use Rattle.std.specs.Prelude.{◌≡◌, ℕ, List, Result, Ok, Err, codes}
use Rattle.mcv_http.specs.Response.{response_text}
use Rattle.mcv_http.specs.declared.request.Request.{Request}
use Rattle.mcv_http.specs.declared.request.Request.TheVariants as requests
use Rattle.mcv_http.specs.declared.request.Refusal.{Refusal}
use Rattle.mcv_http.specs.declared.request.Refusal.TheVariants.{BadRequest, NotFound, MethodNotAllowed, TooLong}
use Rattle.mcv_http.specs.declared.response.Status.{Status}
use Rattle.mcv_http.specs.declared.response.Status.TheVariants.{Done, Unavailable, Refused}
use Rattle.mcv_metrics.specs.Text.{metrics_text}
use Rattle.mcv_metrics.specs.declared.snapshot.Snapshot.{Snapshot}
use Rattle.mcv_admin.specs.declared.panel.Health.{Health}
use Rattle.mcv_admin.specs.declared.panel.Health.TheVariants.{Serving, Draining, Refusing}

abbrev pub plain_text : List ℕ
plain_text = codes "text/plain; charset=utf-8"

-- the type of Prometheus' text (its page "Text-based format")
abbrev pub metrics_type : List ℕ
metrics_type = codes "text/plain; version=0.0.4; charset=utf-8"

-- 200 where clients are accepted and deletes are kept, else 503
abbrev pub health_status : Health → Status
health_status Serving = Done
health_status Draining = Unavailable
health_status Refusing = Unavailable

abbrev pub health_text : Health → List ℕ
health_text Serving = codes "ok\n"
health_text Draining = codes "draining\n"
health_text Refusing = codes "the spool refuses records\n"

abbrev pub refusal_text : Refusal → List ℕ
refusal_text BadRequest = codes "bad request\n"
refusal_text NotFound = codes "not found\n"
refusal_text (MethodNotAllowed allowed) = codes "method not allowed\n"
refusal_text TooLong = codes "too long\n"

-- the text of what may be said to have been counted
abbrev pub ShowsCounts : (Snapshot → Type 0) → List ℕ → Type 0
ShowsCounts has_counted bytes = (s : Snapshot) × has_counted s × (bytes ≡ response_text Done metrics_type (metrics_text s))

-- the text of what may be said of the clients
abbrev pub ShowsHealth : (Health → Type 0) → List ℕ → Type 0
ShowsHealth is_in bytes = (h : Health) × is_in h × (bytes ≡ response_text (health_status h) plain_text (health_text h))

-- the bytes of the response to a request, or to what is none
abbrev pub IsReply : (Snapshot → Type 0) → (Health → Type 0) → Result Request Refusal → List ℕ → Type 0
IsReply has_counted is_in (Ok requests.Metrics) bytes = ShowsCounts has_counted bytes
IsReply has_counted is_in (Ok requests.Health) bytes = ShowsHealth is_in bytes
IsReply has_counted is_in (Ok (requests.Drain seconds)) bytes = bytes ≡ response_text Done plain_text (codes "draining\n")
IsReply has_counted is_in (Err refusal) bytes = bytes ≡ response_text (Refused refusal) plain_text (refusal_text refusal)

-- a drain, and nothing else, was asked of the panel where the request asks for one
abbrev pub WasAsked : {P : Type 0} → (P → ℕ → P → Type 0) → (old new : P) → Result Request Refusal → Type 0
WasAsked drains old new (Ok requests.Metrics) = new ≡ old
WasAsked drains old new (Ok requests.Health) = new ≡ old
WasAsked drains old new (Ok (requests.Drain seconds)) = drains old seconds new
WasAsked drains old new (Err refusal) = new ≡ old
