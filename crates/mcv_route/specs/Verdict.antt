-- What outcomes can come, what can be read, and when a route is covered.
use Rattle.std.specs.Prelude.{◌≡◌, ◌≢◌, ◌⊎◌, ℕ, true, List, [], ◌∷◌, Option, Some, None, ⊤}
use Rattle.mcv_base.specs.declared.operation.Op.{Op}
use Rattle.mcv_base.specs.declared.operation.Op.TheVariants.{Delete}
use Rattle.mcv_base.specs.declared.reply.Outcome.{Outcome}
use Rattle.mcv_base.specs.declared.reply.Outcome.TheVariants.{Good, Error}
use Rattle.mcv_base.specs.Operation.{is_counting, shows_value}
use Rattle.mcv_route.specs.Outcomes.{Outcomes, Choice, IsChoice, History, outcomes}
use Rattle.mcv_route.specs.Eras.{IsEra, IsNear}
use Rattle.mcv_route.specs.Routes.{RoutesValue}
use Rattle.mcv_route.specs.Tree.{Tree}
use Rattle.mcv_route.specs.Situation.{Situation, asked}
use Rattle.mcv_route.specs.Replies.{leg, replies}
use Rattle.mcv_route.specs.Launched.{launched}

-- some member of the list has the property
abbrev pub Has : {A : Type 0} → List A → (A → Type 0) → Type 0
Has [] P = ⊥
Has (x ∷ xs) P = P x ⊎ Has xs P

-- each outcome of the list, the newest first, is of a leg that was sent and had none
abbrev pub IsLegal : Tree → Situation → Choice → History → Type 0
IsLegal t s c [] = ⊤
IsLegal t s c (e ∷ es) = Has (launched t s c (outcomes es)) (λ l. l.position ≡ e.0) × (outcomes es e.0 ≡ None) × IsLegal t s c es

abbrev pub IsReachable : Tree → Situation → Choice → Outcomes → Type 0
IsReachable t s c o = (es : History) × IsLegal t s c es × ((p : List ℕ) → outcomes es p ≡ o p)

-- each outcome is of a leg that is sent once all of them are known
abbrev pub IsClosed : Tree → Situation → Choice → Outcomes → Type 0
IsClosed t s c o = (p : List ℕ) (x : Outcome) → o p ≡ Some x → Has (launched t s c o) (λ l. l.position ≡ p)

-- a hit of the leg at the position is among the replies
abbrev pub IsHit : Tree → Situation → Outcomes → List ℕ → Type 0
IsHit t s o p = Has (replies t s o) (λ a. a ≡ record { outcome = Good; source = leg p })

-- under some outcomes a leg to the server hits
abbrev pub CanHit : Tree → Situation → Choice → ℕ → Type 0
CanHit t s c x = (o : Outcomes) × IsReachable t s c o × Has (launched t s c o) (λ l. (l.server.0 ≡ x) × IsHit t s o l.position)

-- an operation whose answer shows the value can be answered by the server
abbrev pub IsReadable : Tree → List ℕ → Option ℕ → Choice → ℕ → Type 0
IsReadable t rest since c x = (op : Op) × (shows_value op ≡ true) × CanHit t (asked op rest since) c x

-- the same in some era that is near this one, within the window of the routes
abbrev pub IsReadableNear : RoutesValue → Tree → List ℕ → Option ℕ → Choice → ℕ → Type 0
IsReadableNear r t rest since c x = (read : Option ℕ) × IsEra r read × IsNear r r.window since read × IsReadable t rest read c x

-- the delete was sent to the server by a leg that counts
abbrev pub IsSent : Tree → List ℕ → Option ℕ → Choice → Outcomes → ℕ → Type 0
IsSent t rest since c o x = Has (launched t (asked Delete rest since) c o) (λ l. (l.server.0 ≡ x) × (is_counting l.mark ≡ true))

-- the delete has a reply that isn't an error
abbrev pub IsDone : Tree → List ℕ → Option ℕ → Outcomes → Type 0
IsDone t rest since o = Has (replies t (asked Delete rest since) o) (λ a. a.outcome ≢ Error)

-- under every choice, a delete in one era that is done was sent to each server that can be read in the other
abbrev pub IsCovered : List ℕ → Tree → List ℕ → (since read : Option ℕ) → Type 0
IsCovered sizes t rest since read =
    (c : Choice) (o : Outcomes) → IsChoice sizes c → IsReachable t (asked Delete rest since) c o → IsDone t rest since o
    → (x : ℕ) → IsReadable t rest read c x → IsSent t rest since c o x
