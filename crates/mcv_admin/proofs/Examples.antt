-- The responses to small requests.
use Rattle.std.proofs.Common.{◌≡◌, codes, refl}
use Rattle.std.specs.Fmt.{digits}
use Rattle.mcv_http.specs.Response.{response_text}
use Rattle.mcv_admin.specs.Replies.{health_status, health_text, plain_text}
use Rattle.mcv_admin.specs.declared.panel.Health.TheVariants.{Draining}

draining : response_text (health_status Draining) plain_text (health_text Draining)
    ≡ codes "HTTP/1.1 503 Service Unavailable\r\nContent-Type: text/plain; charset=utf-8\r\nContent-Length: 9\r\nConnection: close\r\n\r\ndraining\n"
unfolding digits
draining = refl
