-- The lines that a proxy prints, and the one that it answers who finds no seat (own).
use Rattle.std.specs.Prelude.{ℕ, List, [], ◌∷◌, ◌++◌, codes, decimal}

-- where clients may come, and how many records of the spool are pending
abbrev pub listening_line : List ℕ → ℕ → List ℕ
listening_line address pending = codes "mcv listening " ++ address ++ codes " pending " ++ decimal pending ++ 10 ∷ []

-- how many calls were begun
abbrev pub closed_line : ℕ → List ℕ
closed_line calls = codes "mcv closed calls " ++ decimal calls ++ 10 ∷ []

-- what a client is answered for which there is no seat (the SERVER_ERROR of protocol.txt)
abbrev pub too_many_line : List ℕ
too_many_line = codes "SERVER_ERROR too many clients" ++ 13 ∷ 10 ∷ []
