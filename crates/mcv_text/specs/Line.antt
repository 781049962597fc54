-- What one line says, by the table of requests (memcached, protocol.txt).
use Rattle.std.specs.Prelude.{ℕ, ℤ, pos, List, [], ◌∷◌, Bool, false, nat_lt, Option, Some, None, if◌then◌else◌, codes}
use Rattle.std.specs.List.{list_all}
use Rattle.std.specs.Str.{bytes_eq}
use Rattle.mcv_base.specs.Key.{is_key_word}
use Rattle.mcv_base.specs.declared.operation.Op.{Op}
use Rattle.mcv_base.specs.declared.operation.Op.TheVariants as ops
use Rattle.mcv_text.specs.Request.{AskValue, RequestValue, asking, version, quit}
use Rattle.mcv_text.specs.Words.{line_words, number32_said, number64_said, signed_said, noreply_said, delete_options_said}

pub data LineValue : Type 0 where
  whole : RequestValue → LineValue  -- a request
  stores : AskValue → ℕ → LineValue  -- a request whose value of so many bytes follows
  unknown : LineValue  -- no first word, or one that names no request
  bad : LineValue  -- a first word that names a request, and the rest doesn't read
  too_large : ℕ → LineValue  -- a request whose value of so many bytes is over the limit

-- the most bytes of a value
abbrev pub value_limit : ℕ
value_limit = 1048576

-- a line is bad where a part of it doesn't read
abbrev pub reads : {X : Type 0} → Option X → (X → LineValue) → LineValue
reads None line = bad
reads (Some x) line = line x

-- a request without a value
abbrev pub plain : Op → List (List ℕ) → ℤ → ℕ → Bool → LineValue
plain op keys exptime delta noreply =
    if list_all is_key_word keys then whole (asking (record { op = op; keys = keys; flags = 0; exptime = exptime; body = []; cas = None; delta = delta; noreply = noreply }))
    else bad

-- a request with a value of n bytes
abbrev pub storing : Op → List ℕ → ℕ → ℤ → ℕ → Option ℕ → Bool → LineValue
storing op key flags exptime n cas noreply =
    if is_key_word key then
    (if nat_lt value_limit n then too_large n
    else stores (record { op = op; keys = key ∷ []; flags = flags; exptime = exptime; body = []; cas = cas; delta = 0; noreply = noreply }) n)
    else bad

-- <key>+
abbrev pub reading_said : Op → List (List ℕ) → LineValue
reading_said op [] = bad
reading_said op (key ∷ keys) = plain op (key ∷ keys) (pos 0) 0 false

-- <key> <flags> <exptime> <bytes> [noreply]
abbrev pub storing_said : Op → List (List ℕ) → LineValue
storing_said op (key ∷ flags ∷ exptime ∷ size ∷ options) =
    reads (number32_said flags) (λ f. reads (signed_said exptime) (λ e. reads (number32_said size) (λ n. reads (noreply_said options) (λ noreply.
    storing op key f e n None noreply))))
storing_said op other = bad

-- <key> <flags> <exptime> <bytes> <cas> [noreply]
abbrev pub cas_said : List (List ℕ) → LineValue
cas_said (key ∷ flags ∷ exptime ∷ size ∷ cas ∷ options) =
    reads (number32_said flags) (λ f. reads (signed_said exptime) (λ e. reads (number32_said size) (λ n. reads (number64_said cas) (λ c. reads (noreply_said options) (λ noreply.
    storing ops.Cas key f e n (Some c) noreply)))))
cas_said other = bad

-- <key> [0] [noreply]
abbrev pub delete_said : List (List ℕ) → LineValue
delete_said [] = bad
delete_said (key ∷ options) = reads (delete_options_said options) (λ noreply. plain ops.Delete (key ∷ []) (pos 0) 0 noreply)

-- <key> <exptime> [noreply]
abbrev pub touch_said : List (List ℕ) → LineValue
touch_said (key ∷ exptime ∷ options) = reads (signed_said exptime) (λ e. reads (noreply_said options) (λ noreply. plain ops.Touch (key ∷ []) e 0 noreply))
touch_said other = bad

-- <key> <value> [noreply]
abbrev pub adjusting_said : Op → List (List ℕ) → LineValue
adjusting_said op (key ∷ delta ∷ options) = reads (number64_said delta) (λ d. reads (noreply_said options) (λ noreply. plain op (key ∷ []) (pos 0) d noreply))
adjusting_said op other = bad

-- no more words
abbrev pub alone_said : RequestValue → List (List ℕ) → LineValue
alone_said request [] = whole request
alone_said request (word ∷ more) = bad

-- the words of a line
abbrev pub said : List (List ℕ) → LineValue
said [] = unknown
said (command ∷ arguments) =
    if bytes_eq command (codes "get") then reading_said ops.Get arguments
    else (if bytes_eq command (codes "gets") then reading_said ops.Gets arguments
    else (if bytes_eq command (codes "set") then storing_said ops.Set arguments
    else (if bytes_eq command (codes "add") then storing_said ops.Add arguments
    else (if bytes_eq command (codes "replace") then storing_said ops.Replace arguments
    else (if bytes_eq command (codes "append") then storing_said ops.Append arguments
    else (if bytes_eq command (codes "prepend") then storing_said ops.Prepend arguments
    else (if bytes_eq command (codes "cas") then cas_said arguments
    else (if bytes_eq command (codes "delete") then delete_said arguments
    else (if bytes_eq command (codes "touch") then touch_said arguments
    else (if bytes_eq command (codes "incr") then adjusting_said ops.Incr arguments
    else (if bytes_eq command (codes "decr") then adjusting_said ops.Decr arguments
    else (if bytes_eq command (codes "version") then alone_said version arguments
    else (if bytes_eq command (codes "quit") then alone_said quit arguments
    else unknown)))))))))))))

-- a line, without its LF
unfoldable pub meaning : List ℕ → LineValue
meaning line = said (line_words line)
