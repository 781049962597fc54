-- Which requests of sessions are open at the desks: asked, and not answered yet (own).
use Rattle.slab.specs.Slab.{Slab, get}
use Rattle.std.specs.Prelude.{◌≡◌, ◌≢◌, ◌<◌, ◌⊎◌, ℕ, zero, suc, Bool, List, Option, None, Some, option_map}
use Rattle.mcv_hub.specs.declared.receipts.Receipt.{Receipt}
use Rattle.mcv_hubs.specs.Counts.{Tally}
use Rattle.mcv_text.specs.Request.{RequestValue, request_value}
use Rattle.mcv_turn.specs.OpenRequests.{open_at}
use Rattle.mcv_turn.specs.Question.{QuestionView}
use Rattle.mcv_turn.specs.declared.answer.Asker.TheVariants.{Session}
use Rattle.mcv_turn.specs.declared.servers.Servers.{Servers}
use Rattle.mcv_desks.specs.Mixed.{MixedRequest, MixedView}

-- one of eight, by its number; from the eighth on the last
abbrev pub eight : {X : Type 0} → (x0 x1 x2 x3 x4 x5 x6 x7 : X) → ℕ → X
eight x0 x1 x2 x3 x4 x5 x6 x7 zero = x0
eight x0 x1 x2 x3 x4 x5 x6 x7 (suc zero) = x1
eight x0 x1 x2 x3 x4 x5 x6 x7 (suc (suc zero)) = x2
eight x0 x1 x2 x3 x4 x5 x6 x7 (suc (suc (suc zero))) = x3
eight x0 x1 x2 x3 x4 x5 x6 x7 (suc (suc (suc (suc zero)))) = x4
eight x0 x1 x2 x3 x4 x5 x6 x7 (suc (suc (suc (suc (suc zero))))) = x5
eight x0 x1 x2 x3 x4 x5 x6 x7 (suc (suc (suc (suc (suc (suc zero)))))) = x6
eight x0 x1 x2 x3 x4 x5 x6 x7 (suc (suc (suc (suc (suc (suc (suc n))))))) = x7

abbrev pub Eight : Type 0 → Type 0
Eight X = X × X × X × X × X × X × X × X

abbrev pub of_eight : {X : Type 0} → Eight X → ℕ → X
of_eight x = eight x.0 x.1 x.2 x.3 x.4 x.5 x.6 x.7

-- the request with keys of several hubs at this place, where there is one
abbrev pub mixed_at : Slab MixedView → ℕ → Option MixedRequest
mixed_at mixed place = option_map (λ m. m.request) (get mixed place)

pub record DesksView : Type 0 where
  -- how many hubs have keys
  pub hubs : ℕ
  -- how many bytes the values of an answer may have
  pub most : ℕ
  -- the requests whose keys have several hubs
  pub mixed : Slab MixedView
  -- at the desk of each hub: what is open there, whether something was asked since its last turn, how many requests wait to begin, and what
  -- is known of the servers
  pub questions : Eight (Slab QuestionView)
  pub asked : Eight Bool
  pub entering : Eight ℕ
  pub servers : Eight Servers
  -- what was counted, hub by hub, and the receipts that were kept, those of the first hub first
  pub tallies : List Tally
  pub receipts : List Receipt

-- the request with keys of several hubs at this place; and the others of the hub of this number
abbrev pub mixed_of : DesksView → ℕ → Option MixedRequest
mixed_of v = mixed_at v.mixed

abbrev pub questions_of : DesksView → ℕ → Slab QuestionView
questions_of v = of_eight v.questions

abbrev pub asked_of : DesksView → ℕ → Bool
asked_of v = of_eight v.asked

abbrev pub entering_of : DesksView → ℕ → ℕ
entering_of v = of_eight v.entering

abbrev pub servers_of : DesksView → ℕ → Servers
servers_of v = of_eight v.servers

-- the session's request of this number is open: at the desk of a hub, or among those whose keys have several hubs
pub data IsOpen (v : DesksView) (number : ℕ) (request : RequestValue) : Type 0 where
  at_one : (hub place : ℕ) → hub < 8 → open_at (questions_of v hub) place ≡ Some (Session number, request) → IsOpen v number request
  of_several : (place : ℕ) (q : MixedRequest) → (mixed_of v) place ≡ Some q → q.number ≡ number → request_value q.asked ≡ request → IsOpen v number request

-- whatever is open was so before
abbrev pub NoneOpens : DesksView → DesksView → Type 0
NoneOpens old new = (number : ℕ) (request : RequestValue) → IsOpen new number request → IsOpen old number request

-- whatever was open still is
abbrev pub NoneCloses : DesksView → DesksView → Type 0
NoneCloses old new = (number : ℕ) (request : RequestValue) → IsOpen old number request → IsOpen new number request

-- the same requests are open
pub record AreSameRequests (old new : DesksView) : Type 0 where
  pub hubs : new.hubs ≡ old.hubs
  pub most : new.most ≡ old.most
  pub none_opens : NoneOpens old new
  pub none_closes : NoneCloses old new

-- this one is open too
pub record IsOneMore (old new : DesksView) (number : ℕ) (request : RequestValue) : Type 0 where
  pub hubs : new.hubs ≡ old.hubs
  pub most : new.most ≡ old.most
  pub is_open : IsOpen new number request
  pub others : (other : ℕ) (its : RequestValue) → IsOpen new other its → IsOpen old other its ⊎ ((other ≡ number) × (its ≡ request))
  pub none_closes : NoneCloses old new

-- this one was open; those of other numbers still are
pub record IsOneLess (old new : DesksView) (number : ℕ) (request : RequestValue) : Type 0 where
  pub hubs : new.hubs ≡ old.hubs
  pub most : new.most ≡ old.most
  pub was : IsOpen old number request
  pub none_opens : NoneOpens old new
  pub others : (other : ℕ) (its : RequestValue) → other ≢ number → IsOpen old other its → IsOpen new other its

-- ---- place by place

-- a session's request at a desk is at the same place there
abbrev pub Carries : Slab QuestionView → Slab QuestionView → Type 0
Carries old new = (place number : ℕ) (request : RequestValue) → open_at old place ≡ Some (Session number, request) → open_at new place ≡ Some (Session number, request)

abbrev pub CarriesAll : (ℕ → Slab QuestionView) → (ℕ → Slab QuestionView) → Type 0
CarriesAll old new = (hub : ℕ) → hub < 8 → Carries (old hub) (new hub)

-- each session's request is at its place, and no other one is
pub record AreInPlace (old new : DesksView) : Type 0 where
  pub hubs : new.hubs ≡ old.hubs
  pub most : new.most ≡ old.most
  pub mixed : (place : ℕ) → (mixed_of new) place ≡ (mixed_of old) place
  pub kept : CarriesAll (questions_of old) (questions_of new)
  pub no_more : CarriesAll (questions_of new) (questions_of old)

-- the one with keys of several hubs at this place is gone, and each other one is at its place
pub record IsTakenAway (old new : DesksView) (place number : ℕ) (request : RequestValue) : Type 0 where
  pub hubs : new.hubs ≡ old.hubs
  pub most : new.most ≡ old.most
  pub q : MixedRequest
  pub there : (mixed_of old) place ≡ Some q
  pub number_is : q.number ≡ number
  pub request_is : request_value q.asked ≡ request
  pub gone : (mixed_of new) place ≡ None
  pub others : (other : ℕ) → other ≢ place → (mixed_of new) other ≡ (mixed_of old) other
  pub kept : CarriesAll (questions_of old) (questions_of new)
  pub no_more : CarriesAll (questions_of new) (questions_of old)
