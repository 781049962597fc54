-- The words by which calls, replies and refusals are counted (own).
use Rattle.std.specs.Prelude.{ℕ, List, [], ◌∷◌, codes, map, string_bytes}
use Rattle.mcv_base.specs.Reply.{ReplyValue, hit, miss, stored, not_stored, exists, not_found, deleted, touched, number, fault}
use Rattle.mcv_metrics.specs.declared.snapshot.WordCount.{WordCount}
use Rattle.mcv_session.specs.declared.desk.DeskFault.{DeskFault}
use Rattle.mcv_session.specs.declared.desk.DeskFault.TheVariants.{NoRoute, BadKey, Busy, Memory}
use Rattle.mcv_tally.specs.declared.words.WordTally.{WordTally}

-- what a call came to; a value is a hit, whichever operation asked for it
abbrev pub reply_word : ReplyValue → List ℕ
reply_word (hit flags cas body) = codes "hit"
reply_word miss = codes "miss"
reply_word stored = codes "stored"
reply_word not_stored = codes "not_stored"
reply_word exists = codes "exists"
reply_word not_found = codes "not_found"
reply_word deleted = codes "deleted"
reply_word touched = codes "touched"
reply_word (number value) = codes "number"
reply_word (fault line) = codes "fault"

abbrev pub cause_word : DeskFault → List ℕ
cause_word NoRoute = codes "no_route"
cause_word BadKey = codes "bad_key"
cause_word Busy = codes "busy"
cause_word Memory = codes "memory"

abbrev pub operations : List (List ℕ)
operations = codes "get" ∷ codes "gets" ∷ codes "set" ∷ codes "add" ∷ codes "replace" ∷ codes "append" ∷ codes "prepend" ∷ codes "cas" ∷ codes "delete" ∷ codes "touch" ∷ codes "incr" ∷ codes "decr" ∷ []

abbrev pub outcomes : List (List ℕ)
outcomes = codes "hit" ∷ codes "miss" ∷ codes "stored" ∷ codes "not_stored" ∷ codes "exists" ∷ codes "not_found" ∷ codes "deleted" ∷ codes "touched" ∷ codes "number" ∷ codes "fault" ∷ []

abbrev pub causes : List (List ℕ)
causes = codes "no_route" ∷ codes "bad_key" ∷ codes "busy" ∷ codes "memory" ∷ []

-- the words that are counted
abbrev pub tallied_words : List WordTally → List (List ℕ)
tallied_words tallies = map (λ t. string_bytes t.word) tallies

-- the words of which something is said
abbrev pub counted_words : List WordCount → List (List ℕ)
counted_words counts = map (λ c. string_bytes c.word) counts
