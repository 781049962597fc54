use Rattle.std.proofs.Common.{◌∙◌, sym, true≢false}
use Rattle.serde_json.specs.View.{view}
use Rattle.mcv_faults.proofs.standing.reads_as.Goals as goal

pub returns-in-Some : goal.returns-in-Some
returns-in-Some c = λ yes.
    (view c.in-Some.there, rw c.in-Some.is at c.in_ok-there.ensures, sym c.as_str.ensures ∙ (c.is_same_text.ensures yes ∙ c.as_str-in-Some.ensures))

pub returns-in-None : goal.returns-in-None
returns-in-None c = λ yes. absurd (true≢false (sym yes))
