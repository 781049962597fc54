-- The desks, and the numbers of the requests that they are asked (own).
use Rattle.std.specs.Prelude.{◌<◌, ℕ}
use Rattle.mcv_desks.specs.Open.{DesksView, IsOpen}
use Rattle.mcv_text.specs.Request.{RequestValue}

-- the desks, and the number of the next request
pub record AskingView : Type 0 where
  pub desks : DesksView
  pub next : ℕ

-- the next request's number is that of no open one
abbrev pub AreAsked : DesksView → (next : ℕ) → Type 0
AreAsked desks next = (number : ℕ) (request : RequestValue) → IsOpen desks number request → number < next
