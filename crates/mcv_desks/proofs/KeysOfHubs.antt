-- The hub of a key, and what a desk answers where all keys of a request have one.
use Rattle.std.proofs.Common.{◌≡◌, ◌∙◌, ◌++◌, ◌<◌, ◌≤◌, ℕ, zero, suc, List, [], ◌∷◌, Option, None, Some, Result, Ok, Err, inl, inr, ap, arith, length, refl, subst, sym}
use Rattle.std.specs.Prelude.{option_map, slice_get}
use Rattle.std.specs.List.{All}
use Rattle.std.proofs.lemmas.List.Elements.{All-cons, All-get_or, All-nil}
use Rattle.std.proofs.lemmas.Option.{get_or_from_slice_get, slice_get-map, slice_get_within}
use Rattle.mcv_base.specs.Key.{IsCut, IsKeyFault}
use Rattle.mcv_base.specs.Reply.{ReplyValue}
use Rattle.mcv_base.specs.declared.operation.Op.{Op}
use Rattle.mcv_base.specs.declared.request.Request.{Request}
use Rattle.mcv_base.specs.declared.request.Request.TheVariants.{Ask, Version, Quit}
use Rattle.mcv_core.specs.Asking.{HasNoKey, word_in}
use Rattle.mcv_core.specs.CoreView.{CoreView}
use Rattle.mcv_core.specs.declared.fault.CoreFault.TheVariants.{BadKey}
use Rattle.mcv_hub.specs.declared.seat.TakenReply.{TakenReply}
use Rattle.mcv_hubs.specs.Choice.{IsHubOf, IsRestOf, hub_number, keyed, unkeyed}
use Rattle.mcv_route.specs.Routes.{RoutesValue}
use Rattle.mcv_session.specs.Desk.{keys_of}
use Rattle.mcv_session.specs.declared.desk.DeskFault.{DeskFault}
use Rattle.mcv_text.specs.Request.{RequestValue, asking, version, quit, request_value}
use Rattle.mcv_turn.specs.Answers.{IsAnswer, IsFor, WasTaken, word_at}
use Rattle.mcv_desks.specs.Desks.{AsksHubs, HaveHub, WasTakenOf}
use Rattle.mcv_turn.proofs.Routed.{NoRestReadsEmpty, OneReading, unrouted_is_not_routed}

same_some : {A : Type 0} {x y : A} → Some x ≡ Some y → x ≡ y
same_some e = cc

no_some : {A Z : Type 0} {x : A} → None ≡ Some x → Z
no_some e = cc

-- a request and its value have the same words
words_mapped : {A : Type 0} (items : A → List ℕ) (op : Op) (o : Option A) → option_map {U = Op × List ℕ} (λ word. (op, word)) (option_map items o) ≡ option_map {U = Op × List ℕ} (λ word. (op, items word)) o
words_mapped items op None = refl
words_mapped items op (Some w) = refl

same_words : (request : Request) (key : ℕ) → word_at (request_value request) key ≡ word_in request key
same_words (Ask a) key = ap (option_map {U = Op × List ℕ} (λ word. (a.op, word))) (slice_get-map (λ word. word.items) a.keys.items key) ∙ words_mapped (λ word. word.items) a.op (slice_get a.keys.items key)
same_words Version key = refl
same_words Quit key = refl

module _ (one : OneReading) (empty : NoRestReadsEmpty) (hubs : ℕ) (request : Request) (key hub : ℕ) (r : RoutesValue) (t : TakenReply) (f : IsFor r (request_value request) key t) where
  by_rest : (rest : List ℕ) → IsRestOf request key rest → hub ≡ hub_number hubs rest → hub_number hubs t.asked.rest ≡ hub
  by_rest rest k e =
      let w : (k.op, k.is.word) ≡ (t.asked.op, f.word) = same_some (sym k.is.there ∙ sym (same_words request key) ∙ f.there) in
      let cut : IsCut f.word k.prefix rest = subst (λ z. IsCut z k.prefix rest) (ap (λ x. x.1) w) k.is.cut in
      let same : (k.prefix ≡ f.routed.prefix) × (rest ≡ t.asked.rest) = one f.word k.prefix rest f.routed.prefix t.asked.rest cut f.routed.cut in
      sym (ap (hub_number hubs) same.1) ∙ sym e

  by_none : HasNoKey request key → ⊥
  by_none (inl absent) = no_some (sym absent ∙ sym (same_words request key) ∙ f.there)
  by_none (inr no_key) =
      let w : (no_key.op, no_key.word) ≡ (t.asked.op, f.word) = same_some (sym no_key.there ∙ sym (same_words request key) ∙ f.there) in
      unrouted_is_not_routed one empty r f.word BadKey t.asked.route t.asked.rest (record { fault = no_key.fault; faulty = subst (λ z. IsKeyFault z no_key.fault) (ap (λ x. x.1) w) no_key.faulty }) f.routed

  -- the rest of a reply has the hub of the key that it is for
  pub hub_of_reply : IsHubOf hubs request key hub → hub_number hubs t.asked.rest ≡ hub
  hub_of_reply (keyed rest k e) = by_rest rest k e
  hub_of_reply (unkeyed none e) = absurd (by_none none)

-- ---- all keys of a request

mapped_some : {A B : Type 0} (f : A → B) (o : Option A) (x : B) → option_map f o ≡ Some x → (y : A) × (o ≡ Some y)
mapped_some f None x e = no_some e
mapped_some f (Some y) x e = (y, refl)

key_within : (request : RequestValue) (key : ℕ) (x : Op × List ℕ) → word_at request key ≡ Some x → key < length (keys_of request)
key_within (asking ask) key x e = let word = mapped_some (λ word. (ask.op, word)) (slice_get ask.keys key) x e in slice_get_within ask.keys key word.0 word.1
key_within version key x e = no_some e
key_within quit key x e = no_some e

pub all_have_hub : OneReading → NoRestReadsEmpty → (hubs : ℕ) (request : Request) (hub count : ℕ) → ((k : ℕ) → k < count → IsHubOf hubs request k hub) → length (keys_of (request_value request)) ≤ count → HaveHub hubs (request_value request) hub
all_have_hub one empty hubs request hub count each all r key t f = let within = key_within (request_value request) key _ f.there in hub_of_reply one empty hubs request key hub r t f (each key (omega (arith, within, all)))

-- ---- what one hub answers for all of them

pub all_by_index : {X : Type 0} (P : X → Type 0) (xs : List X) → ((k : ℕ) (x : X) → slice_get xs k ≡ Some x → P x) → All P xs
all_by_index P [] h = All-nil P
all_by_index P (x ∷ xs) h = All-cons P x xs (h 0 x refl) (all_by_index P xs (λ k y e. h (suc k) y e))

pub at_index : {X : Type 0} (P : X → Type 0) (xs : List X) (k : ℕ) (x : X) → slice_get xs k ≡ Some x → All P xs → P x
at_index P xs k x e all = subst P (get_or_from_slice_get xs k x x e) (All-get_or P xs k x (slice_get_within xs k x e) all)

module _ (opened_of : ℕ → CoreView) (hubs hub : ℕ) (request : RequestValue) (there : hub < hubs) (have : HaveHub hubs request hub) where
  pub asked_one_hub : (answer : Result (List ReplyValue) DeskFault) → IsAnswer (opened_of hub) request answer → AsksHubs opened_of hubs request answer
  asked_one_hub (Ok replies) h =
      let taken = h.taken in
      let by = h.answered.0 in
      let has : (key : ℕ) (t : TakenReply) → slice_get taken key ≡ Some t → hub_number hubs t.asked.rest ≡ hub = λ key t e. have (opened_of hub).routes key t (by.for_keys key t e) in
      record {
        taken = taken;
        are = record {
          each = all_by_index (WasTakenOf opened_of hubs) taken (λ key t e. subst (λ k. WasTaken (opened_of k) t) (sym (has key t e)) (at_index (WasTaken (opened_of hub)) taken key t e h.each));
          for_keys = λ key t e. subst (λ k. IsFor (opened_of k).routes request key t) (sym (has key t e)) (by.for_keys key t e);
        };
        one_each = by.one_each;
        replies_are = by.replies_are;
      }
  asked_one_hub (Err fault) h = inr (inl (record { hub = hub; there = there; have = have; asked = h }))

-- ---- requests, one for each key

-- nothing is in an empty list
pub no_item : {X Z : Type 0} (xs : List X) (k : ℕ) (x : X) → xs ≡ [] → slice_get xs k ≡ Some x → Z
no_item [] k x e there = no_some there
no_item (y ∷ ys) k x e there = cc

-- one more, at the end
pub at_push : {X : Type 0} (P : ℕ → X → Type 0) (xs : List X) (n : ℕ) (x : X) → length xs ≡ n → ((k : ℕ) (y : X) → slice_get xs k ≡ Some y → P k y) → P n x → (k : ℕ) (y : X) → slice_get (xs ++ x ∷ []) k ≡ Some y → P k y
at_push P [] n x len all here zero y e = let at : P zero x = subst (λ m. P m x) (sym len) here in subst (P zero) (same_some e) at
at_push P [] n x len all here (suc k) y e = no_some e
at_push P (z ∷ zs) n x len all here zero y e = all zero y e
at_push P (z ∷ zs) n x len all here (suc k) y e = at_push (λ m w. P (suc m) w) zs (length zs) x refl (λ m w same. all (suc m) w same) (subst (λ m. P m x) (sym len) here) k y e
