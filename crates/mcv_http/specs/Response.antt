-- The bytes of a response (RFC 9112, 4 and 6.2; RFC 9110, 10.2.1 for Allow).
use Rattle.std.specs.Prelude.{ℕ, List, ◌++◌, length, codes, decimal}
use Rattle.mcv_http.specs.declared.request.Method.TheVariants.{Get, Post}
use Rattle.mcv_http.specs.declared.request.Refusal.TheVariants.{BadRequest, NotFound, MethodNotAllowed, TooLong}
use Rattle.mcv_http.specs.declared.response.Status.{Status}
use Rattle.mcv_http.specs.declared.response.Status.TheVariants.{Done, Unavailable, Refused}

-- the status line, and for 405 the method that is allowed
abbrev pub status_lines : Status → List ℕ
status_lines Done = codes "HTTP/1.1 200 OK\r\n"
status_lines Unavailable = codes "HTTP/1.1 503 Service Unavailable\r\n"
status_lines (Refused BadRequest) = codes "HTTP/1.1 400 Bad Request\r\n"
status_lines (Refused NotFound) = codes "HTTP/1.1 404 Not Found\r\n"
status_lines (Refused (MethodNotAllowed Get)) = codes "HTTP/1.1 405 Method Not Allowed\r\nAllow: GET\r\n"
status_lines (Refused (MethodNotAllowed Post)) = codes "HTTP/1.1 405 Method Not Allowed\r\nAllow: POST\r\n"
status_lines (Refused TooLong) = codes "HTTP/1.1 431 Request Header Fields Too Large\r\n"

abbrev pub response_text : Status → List ℕ → List ℕ → List ℕ
response_text status content_type body =
    status_lines status ++ codes "Content-Type: " ++ content_type ++ codes "\r\nContent-Length: " ++ decimal (length body)
    ++ codes "\r\nConnection: close\r\n\r\n" ++ body
