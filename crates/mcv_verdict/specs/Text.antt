-- The line of the verdict that routes are covered (own). What is written of a finding is `finding_text` of mcv_witness.
use Rattle.std.specs.Prelude.{ℕ, List, ◌++◌, codes, decimal}

-- `covered <number of pairs>`
abbrev pub covered_line : ℕ → List ℕ
covered_line pairs = codes "covered " ++ decimal pairs ++ codes "\n"
