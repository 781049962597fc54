-- What the desks are asked, as requests come and go.
use Rattle.slab.specs.Slab.{Slab}
use Rattle.std.proofs.Common.{◌≡◌, ◌∙◌, ◌+◌, ◌<◌, ◌⊎◌, ℕ, inl, inr, List, Option, None, Some, Result, Ok, Err, OnErr, OnOk, ap, arith, refl, subst, sym}
use Rattle.std.specs.Prelude.{IfNone, IfSome}
use Rattle.std.specs.Arc.{arc_value}
use Rattle.std.proofs.lemmas.Bool.{cases_eq}
use Rattle.mcv_base.specs.Reply.{ReplyValue}
use Rattle.mcv_core.specs.CoreView.{CoreView}
use Rattle.mcv_session.specs.declared.desk.DeskFault.{DeskFault}
use Rattle.mcv_text.specs.Request.{RequestValue, request_value}
use Rattle.mcv_turn.specs.Answers.{IsAnswer}
use Rattle.mcv_turn.specs.OpenRequests.{AreSameOpen, Closes, Opens, open_at}
use Rattle.mcv_turn.specs.Question.{QuestionView}
use Rattle.mcv_turn.specs.declared.answer.Answer.{Answer}
use Rattle.mcv_turn.specs.declared.answer.Asker.{Asker}
use Rattle.mcv_turn.specs.declared.answer.Asker.TheVariants.{Key, Session}
use Rattle.mcv_hubs.specs.Choice.{IsHubOf}
use Rattle.mcv_desks.specs.Asked.{AreAsked, AreDesks, AreKnown, AreSomeLeft, AtOne, IfWhole, IsAnswerOf, IsAskedOf, IsNextKey, joined_of}
use Rattle.mcv_desks.specs.Desks.{AsksHubs}
use Rattle.mcv_desks.specs.Mixed.{IsKeyAlone, IsKeyAnswer, MixedRequest}
use Rattle.mcv_desks.specs.declared.desks.Joined.{Joined}
use Rattle.mcv_desks.specs.declared.desks.NextKey.{NextKey}
use Rattle.mcv_desks.proofs.KeysOfHubs.{asked_one_hub}

no_some : {A Z : Type 0} {x : A} → None ≡ Some x → Z
no_some e = cc

same_some : {A : Type 0} {x y : A} → Some x ≡ Some y → x ≡ y
same_some e = cc

-- ---- the requests that are open

module _ (hubs next : ℕ) (mixed : ℕ → Option MixedRequest) (old new : ℕ → Slab QuestionView) (asked : AreAsked hubs next mixed old) where
  -- the same ones
  pub same_open : ((hub : ℕ) → AreSameOpen (old hub) (new hub)) → AreAsked hubs next mixed new
  same_open same hub within number asker request there = asked hub within number asker request (sym (same hub number) ∙ there)

  -- at the other hubs than this
  elsewhere : (hub other : ℕ) → (other < 8 → new other ≡ old other) → other < 8 → (number : ℕ) (asker : Asker) (request : RequestValue) → open_at (new other) number ≡ Some (asker, request) → IsAskedOf hubs other next mixed asker request
  elsewhere hub other stay within number asker request there = asked other within number asker request (sym (ap (λ (s : Slab QuestionView). open_at s number) (stay within)) ∙ there)

  module _ (hub : ℕ) (within : hub < 8) where
    -- one more
    opened_here : (who : Asker) (what : RequestValue) → IsAskedOf hubs hub next mixed who what → Opens (old hub) (new hub) who what → (number : ℕ) (asker : Asker) (request : RequestValue) → open_at (new hub) number ≡ Some (asker, request) → IsAskedOf hubs hub next mixed asker request
    opened_here who what its h number asker request there =
        elim (cases_eq number h.number) [
          | inl same ↦
              let e : (who, what) ≡ (asker, request) = same_some (sym h.put ∙ sym (ap (open_at (new hub)) same) ∙ there) in
              subst (λ (p : Asker × RequestValue). IsAskedOf hubs hub next mixed p.0 p.1) e its
          | inr apart ↦ asked hub within number asker request (sym (h.others number apart) ∙ there)
        ]

    asked_here : {T E : Type 0} (r : Result T E) (who : Asker) (what : RequestValue) → IsAskedOf hubs hub next mixed who what → OnOk r (Opens (old hub) (new hub) who what) → OnErr r (AreSameOpen (old hub) (new hub)) → (number : ℕ) (asker : Asker) (request : RequestValue) → open_at (new hub) number ≡ Some (asker, request) → IsAskedOf hubs hub next mixed asker request
    asked_here (Ok v) who what its opens same number asker request there = opened_here who what its opens number asker request there
    asked_here (Err e) who what its opens same number asker request there = asked hub within number asker request (sym (same number) ∙ there)

    pub one_asked : {T E : Type 0} (r : Result T E) (who : Asker) (what : RequestValue) → IsAskedOf hubs hub next mixed who what → AtOne (λ o n. OnOk r (Opens o n who what) × OnErr r (AreSameOpen o n)) hub old new → AreAsked hubs next mixed new
    one_asked r who what its h other other_within number asker request there =
        elim (cases_eq other hub) [
          | inl same ↦
              let here = asked_here r who what its h.here.0 h.here.1 number asker request (sym (ap (λ (k : ℕ). open_at (new k) number) same) ∙ there) in
              subst (λ (k : ℕ). IsAskedOf hubs k next mixed asker request) (sym same) here
          | inr apart ↦ elsewhere hub other (h.others other apart) other_within number asker request there
        ]

    -- one less
    closed_here : (who : Asker) (what : RequestValue) → Closes (old hub) (new hub) who what → (number : ℕ) (asker : Asker) (request : RequestValue) → open_at (new hub) number ≡ Some (asker, request) → IsAskedOf hubs hub next mixed asker request
    closed_here who what h number asker request there =
        elim (cases_eq number h.number) [
          | inl same ↦ no_some (sym h.gone ∙ sym (ap (open_at (new hub)) same) ∙ there)
          | inr apart ↦ asked hub within number asker request (sym (h.others number apart) ∙ there)
        ]

    answered_here : {A : Type 0} (who : A → Asker) (what : A → RequestValue) (o : Option A) → IfSome o (λ a. Closes (old hub) (new hub) (who a) (what a)) → IfNone o (AreSameOpen (old hub) (new hub)) → (number : ℕ) (asker : Asker) (request : RequestValue) → open_at (new hub) number ≡ Some (asker, request) → IsAskedOf hubs hub next mixed asker request
    answered_here who what (Some a) closes same number asker request there = closed_here (who a) (what a) closes number asker request there
    answered_here who what None closes same number asker request there = asked hub within number asker request (sym (same number) ∙ there)

    pub one_answered : {A : Type 0} (who : A → Asker) (what : A → RequestValue) (o : Option A) → AtOne (λ s n. IfSome o (λ a. Closes s n (who a) (what a)) × IfNone o (AreSameOpen s n)) hub old new → AreAsked hubs next mixed new
    one_answered who what o h other other_within number asker request there =
        elim (cases_eq other hub) [
          | inl same ↦
              let here = answered_here who what o h.here.0 h.here.1 number asker request (sym (ap (λ (k : ℕ). open_at (new k) number) same) ∙ there) in
              subst (λ (k : ℕ). IsAskedOf hubs k next mixed asker request) (sym same) here
          | inr apart ↦ elsewhere hub other (h.others other apart) other_within number asker request there
        ]

    -- what is answered was asked
    pub was_asked : (who : Asker) (what : RequestValue) → Closes (old hub) (new hub) who what → IsAskedOf hubs hub next mixed who what
    was_asked who what h = asked hub within h.number who what h.was

-- ---- the requests with keys of several hubs

if_same : (f g : Option MixedRequest) (P : MixedRequest → Type 0) → (g ≡ f) ⊎ (g ≡ None) → IfSome f P → IfSome g P
if_same f g P (inl same) h = subst (λ (o : Option MixedRequest). IfSome o P) (sym same) h
if_same f g P (inr gone) h = subst (λ (o : Option MixedRequest). IfSome o P) (sym gone) tt

module _ (hubs next : ℕ) (old new : ℕ → Option MixedRequest) (left : AreSomeLeft old new) where
  still_asked : (hub : ℕ) (asker : Asker) (request : RequestValue) → IsAskedOf hubs hub next old asker request → IsAskedOf hubs hub next new asker request
  still_asked hub (Session number) request h = h
  still_asked hub (Key number serial key) request h = (h.0, if_same (old number) (new number) (λ q. q.serial ≡ serial → IsKeyAlone q key request × IsHubOf hubs q.asked key hub) (left number) h.1)

  still_known : AreKnown hubs next old → AreKnown hubs next new
  still_known known number q there = elim (left number) [ inl same ↦ known number q (sym same ∙ there) | inr gone ↦ no_some (sym gone ∙ there) ]

  pub some_left : (questions : ℕ → Slab QuestionView) → AreDesks hubs next old questions → AreDesks hubs next new questions
  some_left questions h = record {
    asked = λ hub within number asker request there. still_asked hub asker request (h.asked hub within number asker request there);
    known = still_known h.known;
  }

-- one more, which has the next serial number
module _ (hubs next more : ℕ) (old new : ℕ → Option MixedRequest) (q : MixedRequest) (place : ℕ) (later : more ≡ next + 1) (its : q.serial ≡ next) (of : q.hubs ≡ hubs) (put : new place ≡ Some q) (others : (other : ℕ) → (other ≡ place → ⊥) → new other ≡ old other) where
  before_it : (number serial : ℕ) (P : MixedRequest → Type 0) → serial < next → IfSome (old number) (λ r. r.serial ≡ serial → P r) → IfSome (new number) (λ r. r.serial ≡ serial → P r)
  before_it number serial P lower h =
      let Q : Option MixedRequest → Type 0 = λ o. IfSome o (λ r. r.serial ≡ serial → P r) in
      elim (cases_eq number place) [
        | inl same ↦ subst Q (sym (ap new same ∙ put)) (λ e. absurd (omega (arith, lower, e, its)))
        | inr apart ↦ subst Q (sym (others number apart)) h
      ]

  asked_before : (hub : ℕ) (asker : Asker) (request : RequestValue) → IsAskedOf hubs hub next old asker request → IsAskedOf hubs hub more new asker request
  asked_before hub (Session number) request h = h
  asked_before hub (Key number serial key) request h = (omega (arith, later, h.0), before_it number serial (λ r. IsKeyAlone r key request × IsHubOf hubs r.asked key hub) h.0 h.1)

  known_too : AreKnown hubs next old → AreKnown hubs more new
  known_too known number r there =
      elim (cases_eq number place) [
        | inl same ↦
            let e : q ≡ r = same_some (sym put ∙ sym (ap new same) ∙ there) in
            let P : MixedRequest → Type 0 = λ x. (x.hubs ≡ hubs) × (x.serial < more) in
            subst P e (of, omega (arith, later, its))
        | inr apart ↦
            let h = known number r (sym (others number apart) ∙ there) in
            (h.0, omega (arith, later, h.1))
      ]

  pub one_more : (questions : ℕ → Slab QuestionView) → AreDesks hubs next old questions → AreDesks hubs more new questions
  one_more questions h = record {
    asked = λ hub within number asker request there. asked_before hub asker request (h.asked hub within number asker request there);
    known = known_too h.known;
  }

-- none at all
pub none_asked : (hubs : ℕ) (mixed : ℕ → Option MixedRequest) (questions : ℕ → Slab QuestionView) → ((number : ℕ) → mixed number ≡ None) → ((hub number : ℕ) → open_at (questions hub) number ≡ None) → AreDesks hubs 0 mixed questions
none_asked hubs mixed questions no_mixed none = record {
  asked = λ hub within number asker request there. no_some (sym (none hub number) ∙ there);
  known = λ number q there. no_some (sym (no_mixed number) ∙ there);
}

-- ---- what desks side by side keep

module _ (hubs next : ℕ) (mixed : ℕ → Option MixedRequest) (old new : ℕ → Slab QuestionView) where
  pub desks_asked : (hub : ℕ) → hub < 8 → {T E : Type 0} (r : Result T E) (who : Asker) (what : RequestValue) → IsAskedOf hubs hub next mixed who what → AtOne (λ o n. OnOk r (Opens o n who what) × OnErr r (AreSameOpen o n)) hub old new → AreDesks hubs next mixed old → AreDesks hubs next mixed new
  desks_asked hub within r who what its h is = record { asked = one_asked hubs next mixed old new is.asked hub within r who what its h; known = is.known }

  pub desks_answered : (hub : ℕ) → hub < 8 → {A : Type 0} (who : A → Asker) (what : A → RequestValue) (o : Option A) → AtOne (λ s n. IfSome o (λ a. Closes s n (who a) (what a)) × IfNone o (AreSameOpen s n)) hub old new → AreDesks hubs next mixed old → AreDesks hubs next mixed new
  desks_answered hub within who what o h is = record { asked = one_answered hubs next mixed old new is.asked hub within who what o h; known = is.known }

  pub desks_turned : ((hub : ℕ) → AreSameOpen (old hub) (new hub)) → AreDesks hubs next mixed old → AreDesks hubs next mixed new
  desks_turned same is = record { asked = same_open hubs next mixed old new is.asked same; known = is.known }

-- the next key of a request that is there is asked of its hub
pub key_is_asked : (hubs next : ℕ) (mixed : ℕ → Option MixedRequest) (number : ℕ) (k : NextKey) → AreKnown hubs next mixed → IsNextKey hubs (mixed number) k → IsAskedOf hubs k.hub next mixed (Key number k.serial k.key) (request_value (arc_value k.alone))
key_is_asked hubs next mixed number k known h =
    let its = known number h.request h.there in
    let P : Option MixedRequest → Type 0 = λ o. IfSome o (λ q. q.serial ≡ k.serial → IsKeyAlone q k.key (request_value (arc_value k.alone)) × IsHubOf hubs q.asked k.key k.hub) in
    (omega (arith, its.1, h.serial), subst P (sym h.there) (λ _. (h.alone, h.of_key)))

-- ---- answers

pub if_some : {A : Type 0} (P Q : A → Type 0) (o : Option A) → ((a : A) → P a → Q a) → IfSome o P → IfSome o Q
if_some P Q None f h = tt
if_some P Q (Some a) f h = f a h

pub if_whole : (P : Answer → Type 0) (o : Option Answer) (joined : Joined) → joined ≡ joined_of o → IfSome o P → IfWhole joined P
if_whole P None joined e h = subst (λ (x : Joined). IfWhole x P) (sym e) tt
if_whole P (Some a) joined e h = subst (λ (x : Joined). IfWhole x P) (sym e) h

module _ (opened_of : ℕ → CoreView) (hubs hub next : ℕ) (mixed : ℕ → Option MixedRequest) where
  answer_to_key : (serial key : ℕ) (request : RequestValue) (answer : Result (List ReplyValue) DeskFault) (o : Option MixedRequest) → ((q : MixedRequest) → o ≡ Some q → (q.hubs ≡ hubs) × (q.serial < next)) → IfSome o (λ q. q.serial ≡ serial → IsKeyAlone q key request × IsHubOf hubs q.asked key hub) → IsAnswer (opened_of hub) request answer
      → IfSome o (λ q. q.serial ≡ serial → IsKeyAnswer opened_of q key answer)
  answer_to_key serial key request answer None known asked is = tt
  answer_to_key serial key request answer (Some q) known asked is = λ e.
      let a = asked e in
      record {
        hub = hub;
        of_key = subst (λ (k : ℕ). IsHubOf k q.asked key hub) (sym (known q refl).0) a.1;
        is = subst (λ (r : RequestValue). IsAnswer (opened_of hub) r answer) a.0.is is;
      }

  -- what is asked for a key alone is answered for that key
  pub key_is_answered : (number serial key : ℕ) (request : RequestValue) (answer : Result (List ReplyValue) DeskFault) → AreKnown hubs next mixed → IsAskedOf hubs hub next mixed (Key number serial key) request → IsAnswer (opened_of hub) request answer → IfSome (mixed number) (λ q. q.serial ≡ serial → IsKeyAnswer opened_of q key answer)
  key_is_answered number serial key request answer known asked is = answer_to_key serial key request answer (mixed number) (known number) asked.1 is

  -- what is asked whole is answered by its hub
  pub whole_is_answered : (number : ℕ) (request : RequestValue) (answer : Result (List ReplyValue) DeskFault) → IsAskedOf hubs hub next mixed (Session number) request → IsAnswer (opened_of hub) request answer → AsksHubs opened_of hubs request answer
  whole_is_answered number request answer asked is = asked_one_hub opened_of hubs hub request asked.0 asked.1 answer is

  -- what is answered key by key is answered by the hubs
  pub keys_are_answered : (number : ℕ) (asker : Asker) (request : RequestValue) (answer : Result (List ReplyValue) DeskFault) → AreKnown hubs next mixed → IsAnswerOf opened_of (mixed number) asker request answer → AsksHubs opened_of hubs request answer
  keys_are_answered number asker request answer known h = subst (λ (k : ℕ). AsksHubs opened_of k request answer) (known number h.its h.there).0 h.asks
