-- What a client is answered (memcached, protocol.txt; that an error comes alone in place of all hits is own).
use Rattle.std.specs.Prelude.{ℕ, List, [], ◌∷◌, ◌++◌, length, Option, Some, None, Bool, codes, decimal, if◌then◌else◌}
use Rattle.std.specs.List.{find, flat_map}
use Rattle.mcv_base.specs.declared.operation.Op.{Op}
use Rattle.mcv_base.specs.declared.operation.Op.TheVariants.{Gets}
use Rattle.mcv_base.specs.Operation.{is_reading}
use Rattle.mcv_base.specs.Reply.{ReplyValue, hit, miss, stored, not_stored, exists, not_found, deleted, touched, number, fault, outcome_of, is_error}
use Rattle.mcv_text.specs.Request.{RequestValue, asking, version, quit}

-- CR LF
abbrev pub line_end : List ℕ
line_end = 13 ∷ 10 ∷ []

-- the line of a reply that has no value, without its end
abbrev pub reply_line : ReplyValue → List ℕ
reply_line (hit flags cas body) = codes "END"
reply_line miss = codes "END"
reply_line stored = codes "STORED"
reply_line not_stored = codes "NOT_STORED"
reply_line exists = codes "EXISTS"
reply_line not_found = codes "NOT_FOUND"
reply_line deleted = codes "DELETED"
reply_line touched = codes "TOUCHED"
reply_line (number value) = decimal value
reply_line (fault line) = line

-- the number of the value is in an answer to gets alone
abbrev pub cas_text : Op → Option ℕ → List ℕ
cas_text Gets (Some cas) = codes " " ++ decimal cas
cas_text op cas = []

-- what the reply for one key adds to the answer: a hit its VALUE line with the client's own key word and its value, any other nothing
abbrev pub hit_text : Op → List ℕ → ReplyValue → List ℕ
hit_text op key (hit flags cas body) =
    codes "VALUE " ++ key ++ codes " " ++ decimal flags ++ codes " " ++ decimal (length body) ++ cas_text op cas ++ line_end ++ body ++ line_end
hit_text op key other = []

-- all hits, in the order of the keys
abbrev pub hits_text : Op → List (List ℕ) → List ReplyValue → List ℕ
hits_text op (key ∷ keys) (reply ∷ replies) = hit_text op key reply ++ hits_text op keys replies
hits_text op keys replies = []

abbrev pub is_fault : ReplyValue → Bool
is_fault reply = is_error (outcome_of reply)

-- the line of this reply, or this text where there is none
abbrev pub line_or : Option ReplyValue → List ℕ → List ℕ
line_or None text = text
line_or (Some reply) text = reply_line reply ++ line_end

-- get and gets: all hits and END, or the first error alone; the others: the line of the reply
abbrev pub ask_text : Op → List (List ℕ) → List ReplyValue → List ℕ
ask_text op keys replies =
    if is_reading op then line_or (find is_fault replies) (hits_text op keys replies ++ codes "END" ++ line_end)
    else flat_map (λ reply. reply_line reply ++ line_end) replies

-- the replies come in the order of the keys, one for each
abbrev pub reply_text : RequestValue → List ReplyValue → List ℕ
reply_text (asking ask) replies = ask_text ask.op ask.keys replies
reply_text version replies = codes "VERSION mcv 1" ++ line_end
reply_text quit replies = []
