-- THE HEAD OF AN ANSWER (RFC 9112, section 4; RFC 9110, section 15), byte by byte
use Rattle.std.specs.Prelude.{ℕ, List, [], ◌∷◌, ◌++◌, codes}
use Rattle.http_request.specs.declared.answer.Refusal.{Refusal}
use Rattle.http_request.specs.declared.answer.Refusal.TheVariants.{BadRequest, MethodNotAllowed, NotFound, Forbidden, ServiceUnavailable}

-- the number of a refusal
abbrev pub code_of : Refusal → ℕ
code_of BadRequest = 400
code_of MethodNotAllowed = 405
code_of NotFound = 404
code_of Forbidden = 403
code_of ServiceUnavailable = 503

-- a line ends in CR LF
abbrev pub line_of : List ℕ → List ℕ
line_of text = text ++ (13 ∷ 10 ∷ [])

-- a status line, one field, the field that says that the link closes, and an empty line
abbrev pub head_of : List ℕ → List ℕ → List ℕ
head_of status field =
    line_of (codes "HTTP/1.1 " ++ status) ++ (line_of field ++ (line_of (codes "Connection: close") ++ line_of []))

abbrev pub status_of : Refusal → List ℕ
status_of BadRequest = codes "400 Bad Request"
status_of MethodNotAllowed = codes "405 Method Not Allowed"
status_of NotFound = codes "404 Not Found"
status_of Forbidden = codes "403 Forbidden"
status_of ServiceUnavailable = codes "503 Service Unavailable"

-- WHAT A REFUSED REQUEST IS TOLD: a head without content
unfoldable pub text_of : Refusal → List ℕ
text_of r = head_of (status_of r) (codes "Content-Length: 0")

-- WHAT A GRANTED REQUEST IS TOLD before its content, which ends with the link
unfoldable pub granted_text : List ℕ
granted_text = head_of (codes "200 OK") (codes "Content-Type: video/x-flv")
