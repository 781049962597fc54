-- The legs in flight over a line are for its server, and the length of each one's text is noted.
use Rattle.std.proofs.Common.{◌≡◌, ℕ, Bool, All, List, [], ◌∷◌, ◌++◌, length, take, drop, sym, subst, inl, inr, Option, Result, Ok, Err}
use Rattle.std.proofs.lemmas.List.{take-append-drop}
use Rattle.std.proofs.lemmas.List.Elements.{All-push, All-tail}
use Rattle.std.specs.declared.time.Instant.{Instant}
use Rattle.mcv_base.specs.declared.request.ServerId.{ServerId}
use Rattle.mcv_turn.specs.declared.arrival.Arrival.{Arrival}
use Rattle.mcv_turn.specs.declared.flight.Flight.{Flight}
use Rattle.mcv_lines.specs.Channel.{ChannelValue, request_text}
use Rattle.mcv_lines.specs.Legs.{HasLength, Hears, SendsFlight}
use Rattle.mcv_lines.specs.declared.sent.Sent.{Sent}
use Rattle.mcv_lines.specs.declared.took.Heard.{Heard}

abbrev pub IsFor : ServerId → Sent → Type 0
IsFor server one = one.flight.server.0 ≡ server.0

all_behind : (P : Sent → Type 0) (xs ys : List Sent) → All P (xs ++ ys) → All P ys
all_behind P [] ys all = all
all_behind P (x ∷ xs) ys all = all_behind P xs ys (All-tail P x (xs ++ ys) all)

pub sent_for : (server : ServerId) (flight : Flight) (now : Option Instant) (is_again : Bool) (sent then_sent : List Sent) (channel then_channel : ChannelValue) (result : Result (Unit {0}) Flight) → flight.server.0 ≡ server.0 → All (IsFor server) sent
    → SendsFlight flight now is_again sent channel result then_sent then_channel → All (IsFor server) then_sent
sent_for server flight now is_again sent then_sent channel then_channel (Ok done) own all s =
    let one : Sent = record { flight = flight; at = now; is_again = is_again; length = length (request_text flight.request) } in
    subst (λ (xs : List Sent). All (IsFor server) xs) (sym s.0) (All-push (IsFor server) sent one all own)
sent_for server flight now is_again sent then_sent channel then_channel (Err back) own all s = subst (λ (xs : List Sent). All (IsFor server) xs) (sym s.1) all

pub heard_for : (server : ServerId) (room : List ℕ) (sent then_sent : List Sent) (channel then_channel : ChannelValue) (result : Heard) (arrivals : List Arrival) → All (IsFor server) sent
    → Hears server room sent channel result arrivals then_sent then_channel → All (IsFor server) then_sent
heard_for server room sent then_sent channel then_channel result arrivals all (inl piece) =
    all_behind (IsFor server) piece.gone then_sent (subst (λ (xs : List Sent). All (IsFor server) xs) piece.legs all)
heard_for server room sent then_sent channel then_channel result arrivals all (inr none) = subst (λ (xs : List Sent). All (IsFor server) xs) (sym none.still) all

-- ---- the lengths of their texts

pub sent_length : (flight : Flight) (now : Option Instant) (is_again : Bool) (sent then_sent : List Sent) (length_is : ℕ) → All HasLength sent → length_is ≡ length (request_text flight.request)
    → then_sent ≡ sent ++ record { flight = flight; at = now; is_again = is_again; length = length_is } ∷ [] → All HasLength then_sent
sent_length flight now is_again sent then_sent length_is all is more =
    let one : Sent = record { flight = flight; at = now; is_again = is_again; length = length_is } in
    subst (λ (xs : List Sent). All HasLength xs) (sym more) (All-push HasLength sent one all is)

pub left_lengths : (n : ℕ) (sent then_sent : List Sent) → All HasLength sent → then_sent ≡ drop n sent → All HasLength then_sent
left_lengths n sent then_sent all left =
    subst (λ (xs : List Sent). All HasLength xs) (sym left) (all_behind HasLength (take n sent) (drop n sent) (subst (λ (xs : List Sent). All HasLength xs) (sym (take-append-drop n sent)) all))
