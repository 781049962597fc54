-- Where key words lead.
use Rattle.std.proofs.Common.{◌≡◌, ◌∙◌, ◌+◌, ◌<◌, inl, inr, ℕ, List, [], true, false, None, Some, ap, sym, refl, subst, get_or, length, arith, true≢false}
use Rattle.std.specs.Prelude.{slice_get}
use Rattle.std.proofs.lemmas.Bool.{cases_lt}
use Rattle.std.proofs.lemmas.Option.{slice_get_read}
use Rattle.std.specs.List.{list_all}
use Rattle.std.proofs.lemmas.Grind.{common_steps}
use Rattle.std.proofs.lemmas.Bool.Decides.{nat_tests}
use Rattle.mcv_base.specs.Key.{IsCut, IsKeyFault, is_key_byte, is_key_word}
use Rattle.mcv_base.specs.declared.key.KeyFault.{KeyFault}
use Rattle.mcv_base.specs.declared.key.KeyFault.TheVariants.{Empty, TooLong, BadByte, NoRest}
use Rattle.mcv_base.specs.declared.operation.Op.{Op}
use Rattle.mcv_core.specs.declared.fault.CoreFault.{CoreFault}
use Rattle.mcv_core.specs.declared.fault.CoreFault.TheVariants.{UnknownPrefix, BadKey, LegsFull, ChapterFull, NothingWaiting, NoSuchLeg, Busy, ClockBack, Memory, NoSuchCall}
use Rattle.mcv_hub.specs.declared.seat.TakenReply.{TakenReply}
use Rattle.mcv_route.specs.Places.{route_of_prefix}
use Rattle.mcv_route.specs.Routes.{RoutesValue}
use Rattle.mcv_text.specs.Request.{RequestValue}
use Rattle.mcv_turn.specs.Answers.{AreFor, IsUnrouted, IsFor, IsRouted, word_at}

abbrev pub OneReading : Type 0
OneReading = (word prefix rest other more : List ℕ) → IsCut word prefix rest → IsCut word other more → (prefix ≡ other) × (rest ≡ more)

abbrev pub NoRestReadsEmpty : Type 0
NoRestReadsEmpty = (word prefix rest : List ℕ) → IsKeyFault word NoRest → IsCut word prefix rest → rest ≡ []

same_in_some : {A : Type 0} {x y : A} → Some x ≡ Some y → x ≡ y
same_in_some e = cc

-- a word has one route and one rest
pub one_routed : OneReading → (r : RoutesValue) (word : List ℕ) (route other : ℕ) (rest more : List ℕ) → IsRouted r word route rest → IsRouted r word other more → (route ≡ other) × (rest ≡ more)
one_routed one r word route other rest more p q =
    let e : (p.prefix ≡ q.prefix) × (rest ≡ more) = one word p.prefix rest q.prefix more p.cut q.cut in
    (same_in_some (sym p.routed ∙ ap (λ x. route_of_prefix x r.entries) e.0 ∙ q.routed), e.1)

clash : {Z : Type 0} {n : ℕ} → None ≡ Some n → Z
clash e = cc

empty_is_no_key : (word : List ℕ) → word ≡ [] → is_key_word word ≡ true → ⊥
empty_is_no_key word e k = true≢false (sym k ∙ ap is_key_word e)

long_is_no_key : (word : List ℕ) → 250 < length word → is_key_word word ≡ true → ⊥
long_is_no_key word h k = grind (arith, nat_tests)

bad_byte_is_no_key : (word : List ℕ) → list_all is_key_byte word ≡ false → is_key_word word ≡ true → ⊥
bad_byte_is_no_key word h k = grind (arith, common_steps)

is_some_key : NoRestReadsEmpty → (r : RoutesValue) (word : List ℕ) (route : ℕ) (rest : List ℕ) (fault : KeyFault) → IsKeyFault word fault → IsRouted r word route rest → ⊥
is_some_key empty r word route rest Empty h p = empty_is_no_key word h p.is_key
is_some_key empty r word route rest TooLong h p = long_is_no_key word h p.is_key
is_some_key empty r word route rest BadByte h p = bad_byte_is_no_key word h.2 p.is_key
is_some_key empty r word route rest NoRest h p = p.some (empty word p.prefix rest h p.cut)

-- and a word that no route takes has none
pub unrouted_is_not_routed : OneReading → NoRestReadsEmpty → (r : RoutesValue) (word : List ℕ) (fault : CoreFault) (route : ℕ) (rest : List ℕ) → IsUnrouted r word fault → IsRouted r word route rest → ⊥
unrouted_is_not_routed one empty r word UnknownPrefix route rest h p = clash (sym h.unrouted ∙ ap (λ x. route_of_prefix x r.entries) (one word h.prefix h.rest p.prefix rest h.cut p.cut).0 ∙ p.routed)
unrouted_is_not_routed one empty r word BadKey route rest h p = is_some_key empty r word route rest h.fault h.faulty p
unrouted_is_not_routed one empty r word LegsFull route rest h p = h
unrouted_is_not_routed one empty r word ChapterFull route rest h p = h
unrouted_is_not_routed one empty r word NothingWaiting route rest h p = h
unrouted_is_not_routed one empty r word NoSuchLeg route rest h p = h
unrouted_is_not_routed one empty r word Busy route rest h p = h
unrouted_is_not_routed one empty r word ClockBack route rest h p = h
unrouted_is_not_routed one empty r word Memory route rest h p = h
unrouted_is_not_routed one empty r word NoSuchCall route rest h p = h

-- ---- replies and keys

-- no reply is for a key that isn't there
pub not_there : (r : RoutesValue) (request : RequestValue) (key : ℕ) (t : TakenReply) → word_at request key ≡ None → IsFor r request key t → ⊥
not_there r request key t e f = absent (sym e ∙ f.there)
  where
    absent : {A Z : Type 0} {x : A} → None ≡ Some x → Z
    absent n = cc

same_word : {request : RequestValue} (r : RoutesValue) (key : ℕ) (t : TakenReply) (op : Op) (word : List ℕ) → word_at request key ≡ Some (op, word) → (f : IsFor r request key t) → (t.asked.op ≡ op) × (f.word ≡ word)
same_word r key t op word e f =
    let w : (t.asked.op, f.word) ≡ (op, word) = same_in_some (sym f.there ∙ e) in
    (ap (λ x. x.0) w, ap (λ x. x.1) w)

-- nor for one that no route takes
pub not_for_unrouted : OneReading → NoRestReadsEmpty → (r : RoutesValue) (request : RequestValue) (key : ℕ) (t : TakenReply) (op : Op) (word : List ℕ) (fault : CoreFault)
    → word_at request key ≡ Some (op, word) → IsUnrouted r word fault → IsFor r request key t → ⊥
not_for_unrouted one empty r request key t op word fault e h f =
    let P : List ℕ → Type 0 = λ w. IsRouted r w t.asked.route t.asked.rest in
    unrouted_is_not_routed one empty r word fault t.asked.route t.asked.rest h (subst P (same_word r key t op word e f).1 f.routed)

abbrev pub AskedAt : TakenReply → Op → ℕ → List ℕ → Type 0
AskedAt t op route rest = (t.asked.op ≡ op) × (t.asked.route ≡ route) × (t.asked.rest ≡ rest)

-- one is for the key of this route and rest exactly where its call asked this there
pub asked_at : OneReading → (r : RoutesValue) (request : RequestValue) (key : ℕ) (t : TakenReply) (op : Op) (word : List ℕ) (route : ℕ) (rest : List ℕ)
    → word_at request key ≡ Some (op, word) → IsRouted r word route rest → IsFor r request key t → AskedAt t op route rest
asked_at one r request key t op word route rest e p f =
    let P : List ℕ → Type 0 = λ w. IsRouted r w t.asked.route t.asked.rest in
    let s = same_word r key t op word e f in
    let q = one_routed one r word t.asked.route route t.asked.rest rest (subst P s.1 f.routed) p in
    (s.0, q.0, q.1)

pub is_for_asked : (r : RoutesValue) (request : RequestValue) (key : ℕ) (t : TakenReply) (op : Op) (word : List ℕ) (route : ℕ) (rest : List ℕ)
    → word_at request key ≡ Some (op, word) → IsRouted r word route rest → AskedAt t op route rest → IsFor r request key t
is_for_asked r request key t op word route rest e p a =
    let P : ℕ → Type 0 = λ n. IsRouted r word n t.asked.rest in
    let Q : List ℕ → Type 0 = λ x. IsRouted r word route x in
    record { word = word; there = e ∙ ap (λ o. Some (o, word)) (sym a.0); routed = subst P (sym a.1) (subst Q (sym a.2) p) }

-- one more
pub one_more : (P : ℕ → TakenReply → Type 0) (taken : List TakenReply) (n : ℕ) (x : TakenReply) → n < length taken → x ≡ get_or taken n x
    → ((k : ℕ) (t : TakenReply) → k < n → slice_get taken k ≡ Some t → P k t) → P n x → (k : ℕ) (t : TakenReply) → k < n + 1 → slice_get taken k ≡ Some t → P k t
one_more P taken n x within is before here k t low e =
    elim (cases_lt k n) [
      | inl under ↦ before k t under e
      | inr high ↦ last (omega (arith, low, high))
    ]
  where
    last : k ≡ n → P k t
    last same =
        let at : slice_get taken n ≡ Some x = slice_get_read taken (length taken) n x refl within is in
        let one : x ≡ t = same_in_some (sym at ∙ ap (slice_get taken) (sym same) ∙ e) in
        let Q : ℕ → Type 0 = λ m. P m t in
        subst Q (sym same) (subst (P n) one here)

pub none_is_for : (r : RoutesValue) (request : RequestValue) → AreFor r request []
none_is_for r request key t e = absurd (no_first e)
  where
    no_first : None ≡ Some t → ⊥
    no_first n = cc
