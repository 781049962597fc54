-- The serial numbers of the requests that are open at the desks: below that of the next one.
use Rattle.std.proofs.Common.{◌≡◌, ◌≤◌, ◌+◌, inl, inr, ℕ, arith, refl, subst, sym}
use Rattle.mcv_desks.specs.Open.{AreSameRequests, DesksView, IsOneMore, IsOpen, NoneOpens}
use Rattle.mcv_text.specs.Request.{RequestValue}
use Rattle.mcv_clients.specs.Asking.{AreAsked, AskingView}

-- nothing was asked
pub none_asked : (was now : AskingView) → was ≡ now → (now.next ≤ was.next) × AreSameRequests now.desks was.desks
none_asked was now same =
    subst (λ (v : AskingView). (v.next ≤ was.next) × AreSameRequests v.desks was.desks) same (omega arith, record { hubs = refl; most = refl; none_opens = λ number request its_open. its_open; none_closes = λ number request its_open. its_open })

-- no request opens
pub asked_before : (d e : DesksView) (next later : ℕ) → NoneOpens d e → next ≤ later → AreAsked d next → AreAsked e later
asked_before d e next later none most asked = λ number request its_open. let lt = asked number request (none number request its_open) in omega (arith, lt, most)

-- the next one opens
pub asked_next : (d e : DesksView) (next later : ℕ) (request : RequestValue) → IsOneMore d e next request → later ≡ next + 1 → AreAsked d next → AreAsked e later
asked_next d e next later request more is_later asked = λ number other its_open.
    elim (more.others number other its_open) [
      | inl was ↦ let lt = asked number other was in omega (arith, lt, is_later)
      | inr same ↦ let at = same.0 in omega (arith, at, is_later)
    ]

-- none is open under the number of the next one
pub is_fresh : (was now : AskingView) (next : ℕ) → was ≡ now → AreAsked was.desks next → (request : RequestValue) → IsOpen now.desks next request → ⊥
is_fresh was now next same asked request its_open = let lt = asked next request (subst (λ (v : AskingView). IsOpen v.desks next request) (sym same) its_open) in omega (arith, lt)
