-- Worked rows of the definitions.
use Rattle.std.proofs.Common.{◌≡◌, ℕ, [], ◌∷◌, Result, Ok, Err, refl}
use Rattle.mcv_core.specs.declared.fault.CoreFault.{CoreFault}
use Rattle.mcv_hub.specs.declared.receipts.ReceiptFault.TheVariants.{Twice}
use Rattle.mcv_hubs.specs.Choice.{hub_number}
use Rattle.mcv_hubs.specs.Counts.{begun_by, change_at, sums, tally, unused}
use Rattle.mcv_hubs.specs.Reports.{together}

-- ---- hub_number

-- the hash of `a` is af63dc4c8601ec8c, that of `b` af63df4c8601f1a5
a_of_two : hub_number 2 (97 ∷ []) ≡ 0
a_of_two = refl

b_of_two : hub_number 2 (98 ∷ []) ≡ 1
b_of_two = refl

b_of_one : hub_number 1 (98 ∷ []) ≡ 0
b_of_one = refl

-- ---- change_at, sums

abbrev a_call : Result ℕ CoreFault
a_call = Ok 7

begun_at_the_second : change_at 1 (begun_by a_call) (unused ∷ unused ∷ []) ≡ unused ∷ tally 1 0 1 1 ∷ []
begun_at_the_second = refl

two_sessions : sums (tally 1 2 1 1 ∷ []) (tally 3 4 1 1 ∷ []) ≡ tally 4 6 2 2 ∷ []
two_sessions = refl

-- ---- together

two_reports : together (Ok (record { begun = 2; taken = 1; older = 0 }) ∷ Ok (record { begun = 3; taken = 3; older = 1 }) ∷ []) ≡ Ok (record { begun = 5; taken = 4; older = 1 })
two_reports = refl

one_refused : together (Ok (record { begun = 2; taken = 1; older = 0 }) ∷ Err Twice ∷ []) ≡ Err Twice
one_refused = refl
