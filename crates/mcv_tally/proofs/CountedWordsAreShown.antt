-- Each word that is counted is one of those that are shown.
use Rattle.std.proofs.Common.{◌≡◌, ℕ, List, refl, sym, subst, arith}
use Rattle.std.specs.List.{Contains}
use Rattle.mcv_base.specs.declared.operation.Op.{Op}
use Rattle.mcv_base.specs.declared.operation.Op.TheVariants.{Get, Gets, Set, Add, Replace, Append, Prepend, Cas, Delete, Touch, Incr, Decr}
use Rattle.mcv_base.specs.Operation.{op_name}
use Rattle.mcv_base.specs.Reply.{ReplyValue, hit, miss, stored, not_stored, exists, not_found, deleted, touched, number, fault}
use Rattle.mcv_session.specs.declared.desk.DeskFault.{DeskFault}
use Rattle.mcv_session.specs.declared.desk.DeskFault.TheVariants.{NoRoute, BadKey, Busy, Memory}
use Rattle.mcv_tally.specs.Words.{cause_word, causes, operations, outcomes, reply_word, tallied_words}
use Rattle.mcv_tally.specs.declared.words.WordTally.{WordTally}

operation_there : (op : Op) → Contains operations (op_name op)
operation_there Get = (0, omega arith, refl)
operation_there Gets = (1, omega arith, refl)
operation_there Set = (2, omega arith, refl)
operation_there Add = (3, omega arith, refl)
operation_there Replace = (4, omega arith, refl)
operation_there Append = (5, omega arith, refl)
operation_there Prepend = (6, omega arith, refl)
operation_there Cas = (7, omega arith, refl)
operation_there Delete = (8, omega arith, refl)
operation_there Touch = (9, omega arith, refl)
operation_there Incr = (10, omega arith, refl)
operation_there Decr = (11, omega arith, refl)

outcome_there : (reply : ReplyValue) → Contains outcomes (reply_word reply)
outcome_there (hit flags cas body) = (0, omega arith, refl)
outcome_there miss = (1, omega arith, refl)
outcome_there stored = (2, omega arith, refl)
outcome_there not_stored = (3, omega arith, refl)
outcome_there exists = (4, omega arith, refl)
outcome_there not_found = (5, omega arith, refl)
outcome_there deleted = (6, omega arith, refl)
outcome_there touched = (7, omega arith, refl)
outcome_there (number value) = (8, omega arith, refl)
outcome_there (fault line) = (9, omega arith, refl)

cause_there : (why : DeskFault) → Contains causes (cause_word why)
cause_there NoRoute = (0, omega arith, refl)
cause_there BadKey = (1, omega arith, refl)
cause_there Busy = (2, omega arith, refl)
cause_there Memory = (3, omega arith, refl)

-- it is among those that are tallied so
pub counts_operation : (op : Op) (tallies : List WordTally) (word : List ℕ) → tallied_words tallies ≡ operations → word ≡ op_name op → Contains (tallied_words tallies) word
counts_operation op tallies word all is = subst (λ w. Contains (tallied_words tallies) w) (sym is) (subst (λ l. Contains l (op_name op)) (sym all) (operation_there op))

-- it is among those that are tallied so
pub counts_outcome : (reply : ReplyValue) (tallies : List WordTally) (word : List ℕ) → tallied_words tallies ≡ outcomes → word ≡ reply_word reply → Contains (tallied_words tallies) word
counts_outcome reply tallies word all is = subst (λ w. Contains (tallied_words tallies) w) (sym is) (subst (λ l. Contains l (reply_word reply)) (sym all) (outcome_there reply))

-- it is among those that are tallied so
pub counts_cause : (why : DeskFault) (tallies : List WordTally) (word : List ℕ) → tallied_words tallies ≡ causes → word ≡ cause_word why → Contains (tallied_words tallies) word
counts_cause why tallies word all is = subst (λ w. Contains (tallied_words tallies) w) (sym is) (subst (λ l. Contains l (cause_word why)) (sym all) (cause_there why))
