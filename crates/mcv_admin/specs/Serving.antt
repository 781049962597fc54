-- A request on a connection (own): what was read of it, and what was written.
use Rattle.std.specs.Prelude.{◌≡◌, ℕ, List, take, Option, Some, None, Result, ⊤}
use Rattle.std.specs.Io.KnownBytes.{Appends, Consumes, IsAtEnd}
use Rattle.mcv_http.specs.Reading.{IsAnswered, IsKnown, byte_limit}
use Rattle.mcv_http.specs.declared.request.Request.{Request}
use Rattle.mcv_http.specs.declared.request.Refusal.{Refusal}
use Rattle.mcv_metrics.specs.declared.snapshot.Snapshot.{Snapshot}
use Rattle.mcv_admin.specs.Replies.{IsReply, WasAsked}
use Rattle.mcv_admin.specs.declared.panel.Health.{Health}

abbrev pub EndsThere : Option (List ℕ) → Option (Result Request Refusal) → Type 0
EndsThere left None = IsAtEnd left
EndsThere left (Some known) = ⊤

-- these bytes were read, and this is known from them; the connection is at its end where nothing is
pub record IsRead (unread left : Option (List ℕ)) (known : Option (Result Request Refusal)) : Type 0 where
  pub bytes : List ℕ
  pub reads : Consumes unread left bytes
  pub is : IsKnown (take byte_limit bytes) known
  pub answered : IsAnswered (take byte_limit bytes) known
  pub ended : EndsThere left known

-- what was known from the bytes that were read was answered, as the panel says; nothing where nothing was
abbrev pub IsAnswerTo : {P : Type 0} → (P → Snapshot → Type 0) → (P → Health → Type 0) → (P → ℕ → P → Type 0) → (old new : P) → (before after : Option (List ℕ))
    → Option (Result Request Refusal) → Type 0
IsAnswerTo has_counted is_in drains old new before after None = (new ≡ old) × (after ≡ before)
IsAnswerTo has_counted is_in drains old new before after (Some known) =
    (text : List ℕ) × IsReply (has_counted old) (is_in old) known text × WasAsked drains old new known × Appends before after text

abbrev pub IsServed : {P : Type 0} → (P → Snapshot → Type 0) → (P → Health → Type 0) → (P → ℕ → P → Type 0) → (old new : P) → (unread left before after : Option (List ℕ)) → Type 0
IsServed has_counted is_in drains old new unread left before after =
    (known : Option (Result Request Refusal)) × IsRead unread left known × IsAnswerTo has_counted is_in drains old new before after known
