-- The definitions at small requests.
use Rattle.std.proofs.Common.{◌≡◌, codes, refl, Ok, Err}
use Rattle.std.specs.Fmt.{digits}
use Rattle.mcv_http.specs.Request.{answer}
use Rattle.mcv_http.specs.Response.{response_text}
use Rattle.mcv_http.specs.declared.request.Method.TheVariants.{Get}
use Rattle.mcv_http.specs.declared.request.Refusal.TheVariants.{BadRequest, NotFound, MethodNotAllowed}
use Rattle.mcv_http.specs.declared.request.Request.TheVariants.{Metrics, Drain}
use Rattle.mcv_http.specs.declared.response.Status.TheVariants.{Done}

metrics : answer (codes "GET") (codes "/metrics?a=b") ≡ Ok Metrics
metrics = refl

drain : answer (codes "POST") (codes "/drain?seconds=120") ≡ Ok (Drain 120)
drain = refl

drain_for_thirty : answer (codes "POST") (codes "/drain") ≡ Ok (Drain 30)
drain_for_thirty = refl

no_number : answer (codes "POST") (codes "/drain?seconds=") ≡ Err BadRequest
no_number = refl

other_path : answer (codes "GET") (codes "/metric") ≡ Err NotFound
other_path = refl

other_method : answer (codes "HEAD") (codes "/health") ≡ Err (MethodNotAllowed Get)
other_method = refl

response : response_text Done (codes "text/plain") (codes "ok\n") ≡ codes "HTTP/1.1 200 OK\r\nContent-Type: text/plain\r\nContent-Length: 3\r\nConnection: close\r\n\r\nok\n"
unfolding digits
response = refl
