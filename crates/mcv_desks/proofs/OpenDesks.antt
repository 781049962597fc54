-- Requests of sessions that come to the desks, stay and go.
use Rattle.slab.specs.Slab.{Slab}
use Rattle.std.proofs.Common.{◌≡◌, ◌∙◌, ◌<◌, ◌⊎◌, ◌++◌, ℕ, List, inl, inr, Option, None, Some, Result, Ok, Err, OnErr, OnOk, ap, refl, subst, sym}
use Rattle.std.specs.Prelude.{◌≢◌, IfNone, IfOk, IfSome, Vec, false, is_some, true}
use Rattle.std.specs.declared.alloc.Global.{Global}
use Rattle.std.specs.Arc.{arc_value}
use Rattle.std.proofs.lemmas.Bool.{cases_eq}
use Rattle.mcv_core.specs.CoreView.{CoreView}
use Rattle.mcv_hub.specs.declared.receipts.Receipt.{Receipt}
use Rattle.mcv_session.specs.Desk.{answer_value}
use Rattle.mcv_text.specs.Request.{RequestValue, request_value}
use Rattle.mcv_turn.specs.OpenRequests.{AreSameOpen, Closes, Opens, open_at}
use Rattle.mcv_turn.specs.Question.{QuestionView}
use Rattle.mcv_turn.specs.declared.answer.Answer.{Answer}
use Rattle.mcv_turn.specs.declared.answer.Asker.{Asker}
use Rattle.mcv_turn.specs.declared.answer.Asker.TheVariants.{Key, Session}
use Rattle.mcv_desks.specs.Asked.{AtOne, IfNotWhole, IsAnswerOf, joined_of}
use Rattle.mcv_desks.specs.Mixed.{MixedRequest}
use Rattle.mcv_desks.specs.Open.{AreInPlace, AreSameRequests, Carries, CarriesAll, DesksView, IsOneLess, IsOneMore, IsOpen, IsTakenAway, NoneCloses, NoneOpens, mixed_of, questions_of, at_one, of_several}
use Rattle.mcv_desks.specs.declared.desks.Joined.{Joined}

no_some : {A Z : Type 0} {x : A} → None ≡ Some x → Z
no_some e = cc

same_some : {A : Type 0} {x y : A} → Some x ≡ Some y → x ≡ y
same_some e = cc

no_key : {Z : Type 0} (place serial key number : ℕ) → Key place serial key ≡ Session number → Z
no_key place serial key number e = cc

same_number : (a b : ℕ) → Session a ≡ Session b → a ≡ b
same_number a b e = cc

-- ---- at one desk

module _ (old new : Slab QuestionView) where
  pub same_carries : AreSameOpen old new → Carries old new
  same_carries same place number request there = same place ∙ there

  pub same_carries_back : AreSameOpen old new → Carries new old
  same_carries_back same place number request there = sym (same place) ∙ there

  module _ (who : Asker) (what : RequestValue) where
    pub opens_carries : Opens old new who what → Carries old new
    opens_carries h place number request there =
        elim (cases_eq place h.number) [
          | inl same ↦ no_some (sym h.vacant ∙ sym (ap (open_at old) same) ∙ there)
          | inr apart ↦ h.others place apart ∙ there
        ]

    -- what is there was, or it is the one that comes
    pub was_or_comes : Opens old new who what → (place number : ℕ) (request : RequestValue) → open_at new place ≡ Some (Session number, request) → (open_at old place ≡ Some (Session number, request)) ⊎ (◌≡◌ {A = Asker × RequestValue} (who, what) (Session number, request))
    was_or_comes h place number request there =
        elim (cases_eq place h.number) [
          | inl same ↦ inr (same_some (sym h.put ∙ sym (ap (open_at new) same) ∙ there))
          | inr apart ↦ inl (sym (h.others place apart) ∙ there)
        ]

    pub closes_back : Closes old new who what → Carries new old
    closes_back h place number request there =
        elim (cases_eq place h.number) [
          | inl same ↦ no_some (sym h.gone ∙ sym (ap (open_at new) same) ∙ there)
          | inr apart ↦ sym (h.others place apart) ∙ there
        ]

    -- what was there stays, or it is the one that goes
    pub stays_or_goes : Closes old new who what → (place number : ℕ) (request : RequestValue) → open_at old place ≡ Some (Session number, request) → (open_at new place ≡ Some (Session number, request)) ⊎ (◌≡◌ {A = Asker × RequestValue} (who, what) (Session number, request))
    stays_or_goes h place number request there =
        elim (cases_eq place h.number) [
          | inl same ↦ inr (same_some (sym h.was ∙ sym (ap (open_at old) same) ∙ there))
          | inr apart ↦ inl (h.others place apart ∙ there)
        ]

  -- what is asked for a key alone is no session's request
  module _ (at serial key : ℕ) (what : RequestValue) where
    pub key_comes : Opens old new (Key at serial key) what → Carries new old
    key_comes h place number request there =
        elim (was_or_comes (Key at serial key) what h place number request there) [
          | inl was ↦ was
          | inr e ↦ no_key at serial key number (ap (λ (p : Asker × RequestValue). p.0) e)
        ]

    pub key_goes : Closes old new (Key at serial key) what → Carries old new
    key_goes h place number request there =
        elim (stays_or_goes (Key at serial key) what h place number request there) [
          | inl stays ↦ stays
          | inr e ↦ no_key at serial key number (ap (λ (p : Asker × RequestValue). p.0) e)
        ]

-- ---- at all desks

module _ (old new : ℕ → Slab QuestionView) (hub : ℕ) (change : Slab QuestionView → Slab QuestionView → Type 0) (h : AtOne change hub old new) where
  pub all_carry : (change (old hub) (new hub) → Carries (old hub) (new hub)) → CarriesAll old new
  all_carry here other within place number request there =
      elim (cases_eq other hub) [
        | inl same ↦ subst (λ (k : ℕ). open_at (new k) place ≡ Some (Session number, request)) (sym same) (here h.here place number request (sym (ap (λ (k : ℕ). open_at (old k) place) same) ∙ there))
        | inr apart ↦ ap (λ (s : Slab QuestionView). open_at s place) (h.others other apart within) ∙ there
      ]

  pub all_carry_back : (change (old hub) (new hub) → Carries (new hub) (old hub)) → CarriesAll new old
  all_carry_back here other within place number request there =
      elim (cases_eq other hub) [
        | inl same ↦ subst (λ (k : ℕ). open_at (old k) place ≡ Some (Session number, request)) (sym same) (here h.here place number request (sym (ap (λ (k : ℕ). open_at (new k) place) same) ∙ there))
        | inr apart ↦ sym (ap (λ (s : Slab QuestionView). open_at s place) (h.others other apart within)) ∙ there
      ]

-- ---- place by place

pub in_place : (v : DesksView) → AreInPlace v v
in_place v = record { hubs = refl; most = refl; mixed = λ place. refl; kept = λ hub within place number request there. there; no_more = λ hub within place number request there. there }

pub in_place_on : (old mid new : DesksView) → AreInPlace old mid → AreInPlace mid new → AreInPlace old new
in_place_on old mid new h k = record {
  hubs = k.hubs ∙ h.hubs;
  most = k.most ∙ h.most;
  mixed = λ place. k.mixed place ∙ h.mixed place;
  kept = λ hub within place number request there. k.kept hub within place number request (h.kept hub within place number request there);
  no_more = λ hub within place number request there. h.no_more hub within place number request (k.no_more hub within place number request there);
}

-- whatever is open at its place still is, if each is at its place
pub open_still : (old new : DesksView) → ((place : ℕ) (q : MixedRequest) → (mixed_of old) place ≡ Some q → (mixed_of new) place ≡ Some q) → CarriesAll (questions_of old) (questions_of new) → NoneCloses old new
open_still old new mixed kept number request (at_one hub place within there) = at_one hub place within (kept hub within place number request there)
open_still old new mixed kept number request (of_several place q there n r) = of_several place q (mixed place q there) n r

pub in_place_open : (old new : DesksView) → AreInPlace old new → AreSameRequests old new
in_place_open old new h = record {
  hubs = h.hubs;
  most = h.most;
  none_opens = open_still new old (λ place q there. sym (h.mixed place) ∙ there) h.no_more;
  none_closes = open_still old new (λ place q there. h.mixed place ∙ there) h.kept;
}

-- ---- the same requests

pub same_open : (v : DesksView) → AreSameRequests v v
same_open v = in_place_open v v (in_place v)

pub same_on : (old mid new : DesksView) → AreSameRequests old mid → AreSameRequests mid new → AreSameRequests old new
same_on old mid new h k = record {
  hubs = k.hubs ∙ h.hubs;
  most = k.most ∙ h.most;
  none_opens = λ number request o. h.none_opens number request (k.none_opens number request o);
  none_closes = λ number request o. k.none_closes number request (h.none_closes number request o);
}

pub less_behind : (old mid new : DesksView) (number : ℕ) (request : RequestValue) → AreSameRequests old mid → IsOneLess mid new number request → IsOneLess old new number request
less_behind old mid new number request h k = record {
  hubs = k.hubs ∙ h.hubs;
  most = k.most ∙ h.most;
  was = h.none_opens number request k.was;
  none_opens = λ other its o. h.none_opens other its (k.none_opens other its o);
  others = λ other its apart o. k.others other its apart (h.none_closes other its o);
}

-- none is open
pub none_is_open : (v : DesksView) → ((place : ℕ) → (mixed_of v) place ≡ None) → ((hub place : ℕ) → open_at ((questions_of v) hub) place ≡ None) → (number : ℕ) (request : RequestValue) → IsOpen v number request → ⊥
none_is_open v mixed none number request (at_one hub place within there) = no_some (sym (none hub place) ∙ there)
none_is_open v mixed none number request (of_several place q there n r) = no_some (sym (mixed place) ∙ there)

-- ---- one desk changes

module _ (old new : DesksView) (hubs : new.hubs ≡ old.hubs) (most : new.most ≡ old.most) (mixed : (place : ℕ) → (mixed_of new) place ≡ (mixed_of old) place) where
  pub all_same : ((hub : ℕ) → AreSameOpen ((questions_of old) hub) ((questions_of new) hub)) → AreInPlace old new
  all_same same = record {
    hubs = hubs;
    most = most;
    mixed = mixed;
    kept = λ hub within. same_carries ((questions_of old) hub) ((questions_of new) hub) (same hub);
    no_more = λ hub within. same_carries_back ((questions_of old) hub) ((questions_of new) hub) (same hub);
  }

  module _ (hub : ℕ) where
    pub one_same : AtOne AreSameOpen hub (questions_of old) (questions_of new) → AreInPlace old new
    one_same h = record {
      hubs = hubs;
      most = most;
      mixed = mixed;
      kept = all_carry (questions_of old) (questions_of new) hub AreSameOpen h (same_carries ((questions_of old) hub) ((questions_of new) hub));
      no_more = all_carry_back (questions_of old) (questions_of new) hub AreSameOpen h (same_carries_back ((questions_of old) hub) ((questions_of new) hub));
    }

    pub key_asked : {T E : Type 0} (r : Result T E) (at serial key : ℕ) (what : RequestValue) → AtOne (λ o n. OnOk r (Opens o n (Key at serial key) what) × OnErr r (AreSameOpen o n)) hub (questions_of old) (questions_of new) → AreInPlace old new
    key_asked (Ok v) at serial key what h =
        let its : AtOne (λ o n. Opens o n (Key at serial key) what) hub (questions_of old) (questions_of new) = record { here = h.here.0; others = h.others } in
        record {
          hubs = hubs;
          most = most;
          mixed = mixed;
          kept = all_carry (questions_of old) (questions_of new) hub (λ o n. Opens o n (Key at serial key) what) its (opens_carries ((questions_of old) hub) ((questions_of new) hub) (Key at serial key) what);
          no_more = all_carry_back (questions_of old) (questions_of new) hub (λ o n. Opens o n (Key at serial key) what) its (key_comes ((questions_of old) hub) ((questions_of new) hub) at serial key what);
        }
    key_asked (Err e) at serial key what h = one_same (record { here = h.here.1; others = h.others })

    pub key_answered : (at serial key : ℕ) (what : RequestValue) → AtOne (λ o n. Closes o n (Key at serial key) what) hub (questions_of old) (questions_of new) → AreInPlace old new
    key_answered at serial key what h = record {
      hubs = hubs;
      most = most;
      mixed = mixed;
      kept = all_carry (questions_of old) (questions_of new) hub (λ o n. Closes o n (Key at serial key) what) h (key_goes ((questions_of old) hub) ((questions_of new) hub) at serial key what);
      no_more = all_carry_back (questions_of old) (questions_of new) hub (λ o n. Closes o n (Key at serial key) what) h (closes_back ((questions_of old) hub) ((questions_of new) hub) (Key at serial key) what);
    }

    module _ (within : hub < 8) (number : ℕ) (request : RequestValue) where
      -- a session's request comes
      module _ (h : AtOne (λ o n. Opens o n (Session number) request) hub (questions_of old) (questions_of new)) where
        its_or_was : (other : ℕ) (its : RequestValue) → IsOpen new other its → IsOpen old other its ⊎ ((other ≡ number) × (its ≡ request))
        its_or_was other its (at_one k place w there) =
            elim (cases_eq k hub) [
              | inl same ↦ elim (was_or_comes ((questions_of old) hub) ((questions_of new) hub) (Session number) request h.here place other its (sym (ap (λ (j : ℕ). open_at ((questions_of new) j) place) same) ∙ there)) [
                | inl was ↦ inl (at_one hub place within was)
                | inr e ↦ inr (sym (same_number number other (ap (λ (p : Asker × RequestValue). p.0) e)), sym (ap (λ (p : Asker × RequestValue). p.1) e))
              ]
              | inr apart ↦ inl (at_one k place w (sym (ap (λ (s : Slab QuestionView). open_at s place) (h.others k apart w)) ∙ there))
            ]
        its_or_was other its (of_several place q there n r) = inl (of_several place q (sym (mixed place) ∙ there) n r)

        pub one_comes : IsOneMore old new number request
        one_comes = record {
          hubs = hubs;
          most = most;
          is_open = at_one hub h.here.number within h.here.put;
          others = its_or_was;
          none_closes = open_still old new (λ place q there. mixed place ∙ there) (all_carry (questions_of old) (questions_of new) hub (λ o n. Opens o n (Session number) request) h (opens_carries ((questions_of old) hub) ((questions_of new) hub) (Session number) request));
        }

      -- or goes
      module _ (h : AtOne (λ o n. Closes o n (Session number) request) hub (questions_of old) (questions_of new)) where
        stays : (other : ℕ) (its : RequestValue) → other ≢ number → IsOpen old other its → IsOpen new other its
        stays other its apart (at_one k place w there) =
            elim (cases_eq k hub) [
              | inl same ↦ elim (stays_or_goes ((questions_of old) hub) ((questions_of new) hub) (Session number) request h.here place other its (sym (ap (λ (j : ℕ). open_at ((questions_of old) j) place) same) ∙ there)) [
                | inl still ↦ at_one hub place within still
                | inr e ↦ absurd (apart (sym (same_number number other (ap (λ (p : Asker × RequestValue). p.0) e))))
              ]
              | inr away ↦ at_one k place w (ap (λ (s : Slab QuestionView). open_at s place) (h.others k away w) ∙ there)
            ]
        stays other its apart (of_several place q there n r) = of_several place q (mixed place ∙ there) n r

        pub one_goes : IsOneLess old new number request
        one_goes = record {
          hubs = hubs;
          most = most;
          was = at_one hub h.here.number within h.here.was;
          none_opens = open_still new old (λ place q there. sym (mixed place) ∙ there) (all_carry_back (questions_of old) (questions_of new) hub (λ o n. Closes o n (Session number) request) h (closes_back ((questions_of old) hub) ((questions_of new) hub) (Session number) request));
          others = stays;
        }

      pub asked_ok : {T E : Type 0} (r : Result T E) → AtOne (λ o n. OnOk r (Opens o n (Session number) request) × OnErr r (AreSameOpen o n)) hub (questions_of old) (questions_of new) → OnOk r (IsOneMore old new number request)
      asked_ok (Ok v) h = one_comes (record { here = h.here.0; others = h.others })
      asked_ok (Err e) h = tt

      pub asked_err : {T E : Type 0} (r : Result T E) → AtOne (λ o n. OnOk r (Opens o n (Session number) request) × OnErr r (AreSameOpen o n)) hub (questions_of old) (questions_of new) → OnErr r (AreSameRequests old new)
      asked_err (Ok v) h = tt
      asked_err (Err e) h = in_place_open old new (one_same (record { here = h.here.1; others = h.others }))

-- ---- one with keys of several hubs

module _ (old new : DesksView) (place number : ℕ) (request : RequestValue) (h : IsTakenAway old new place number request) where
  remains : (other : ℕ) (its : RequestValue) → other ≢ number → IsOpen old other its → IsOpen new other its
  remains other its apart (at_one hub at within there) = at_one hub at within (h.kept hub within at other its there)
  remains other its apart (of_several at q there n r) =
      elim (cases_eq at place) [
        | inl same ↦
            let e : q ≡ h.q = same_some (sym there ∙ ap (mixed_of old) same ∙ h.there) in
            absurd (apart (sym n ∙ ap (λ (x : MixedRequest). x.number) e ∙ h.number_is))
        | inr away ↦ of_several at q (h.others at away ∙ there) n r
      ]

  pub taken_is_less : IsOneLess old new number request
  taken_is_less = record {
    hubs = h.hubs;
    most = h.most;
    was = of_several place h.q h.there h.number_is h.request_is;
    none_opens = open_still new old (λ at q there. elim (cases_eq at place) [ inl same ↦ no_some (sym h.gone ∙ sym (ap (mixed_of new) same) ∙ there) | inr away ↦ sym (h.others at away) ∙ there ]) h.no_more;
    others = remains;
  }

-- it comes to a place that had none
module _ (old mid : DesksView) (hubs : mid.hubs ≡ old.hubs) (most : mid.most ≡ old.most) (place number : ℕ) (q : MixedRequest) (vacant : (mixed_of old) place ≡ None) (put : (mixed_of mid) place ≡ Some q) (others : (other : ℕ) → (other ≡ place → ⊥) → (mixed_of mid) other ≡ (mixed_of old) other) (questions : (questions_of mid) ≡ (questions_of old)) where
  carries : CarriesAll (questions_of old) (questions_of mid)
  carries hub within at other its there = ap (λ (s : ℕ → Slab QuestionView). open_at (s hub) at) questions ∙ there

  carries_back : CarriesAll (questions_of mid) (questions_of old)
  carries_back hub within at other its there = sym (ap (λ (s : ℕ → Slab QuestionView). open_at (s hub) at) questions) ∙ there

  module _ (new : DesksView) (request : RequestValue) (number_is : q.number ≡ number) (request_is : request_value q.asked ≡ request) (h : AreInPlace mid new) where
    came_or_was : (other : ℕ) (its : RequestValue) → IsOpen mid other its → IsOpen old other its ⊎ ((other ≡ number) × (its ≡ request))
    came_or_was other its (at_one hub at within there) = inl (at_one hub at within (carries_back hub within at other its there))
    came_or_was other its (of_several at x there n r) =
        elim (cases_eq at place) [
          | inl same ↦
              let e : x ≡ q = same_some (sym there ∙ ap (mixed_of mid) same ∙ put) in
              inr (sym n ∙ ap (λ (y : MixedRequest). y.number) e ∙ number_is, sym r ∙ ap (λ (y : MixedRequest). request_value y.asked) e ∙ request_is)
          | inr away ↦ inl (of_several at x (sym (others at away) ∙ there) n r)
        ]

    was_kept : NoneCloses old mid
    was_kept = open_still old mid (λ at x there. elim (cases_eq at place) [ inl same ↦ no_some (sym vacant ∙ sym (ap (mixed_of old) same) ∙ there) | inr away ↦ others at away ∙ there ]) carries

    pub several_come : IsOneMore old new number request
    several_come =
        let same = in_place_open mid new h in
        record {
          hubs = h.hubs ∙ hubs;
          most = h.most ∙ most;
          is_open = of_several place q (h.mixed place ∙ put) number_is request_is;
          others = λ other its o. came_or_was other its (same.none_opens other its o);
          none_closes = λ other its o. same.none_closes other its (was_kept other its o);
        }

  -- and is taken away again
  pub several_gone : (now new : DesksView) (its : ℕ) (request : RequestValue) → AreInPlace mid now → IsTakenAway now new place its request → AreSameRequests old new
  several_gone now new its request h k =
      in_place_open old new (record {
        hubs = k.hubs ∙ h.hubs ∙ hubs;
        most = k.most ∙ h.most ∙ most;
        mixed = λ at. elim (cases_eq at place) [ inl same ↦ ap (mixed_of new) same ∙ k.gone ∙ sym vacant ∙ sym (ap (mixed_of old) same) | inr away ↦ k.others at away ∙ h.mixed at ∙ others at away ];
        kept = λ hub within at number request there. k.kept hub within at number request (h.kept hub within at number request (carries hub within at number request there));
        no_more = λ hub within at number request there. carries_back hub within at number request (h.no_more hub within at number request (k.no_more hub within at number request there));
      })

-- ---- answers

pub if_not_whole : (X : Type 0) (o : Option Answer) (joined : Joined) → joined ≡ joined_of o → IfNone o X → IfNotWhole joined X
if_not_whole X None joined e h = subst (λ (j : Joined). IfNotWhole j X) (sym e) h
if_not_whole X (Some a) joined e h = subst (λ (j : Joined). IfNotWhole j X) (sym e) tt

pub if_none : {A : Type 0} (X Y : Type 0) (o : Option A) → (X → Y) → IfNone o X → IfNone o Y
if_none X Y None f h = f h
if_none X Y (Some a) f h = tt

pub none_there : (X : Type 0) (o : Option Answer) → is_some o ≡ false → IfNone o X → X
none_there X None e h = h
none_there X (Some a) e h = cc

pub one_there : (P : Answer → Type 0) (X : Type 0) (o : Option Answer) → is_some o ≡ true → IfSome o P → ((a : Answer) → P a → X) → X
one_there P X None e h f = cc
one_there P X (Some a) e h f = f a h

-- the one at this place is answered, and gone
pub taken_away : (opened_of : ℕ → CoreView) (old new : DesksView) (place : ℕ) → new.hubs ≡ old.hubs → new.most ≡ old.most → (questions_of new) ≡ (questions_of old) → (o : Option Answer) → IfSome o (λ a. IsAnswerOf opened_of ((mixed_of old) place) a.asker (request_value (arc_value a.request)) (answer_value a.outcome)) → IfSome o (λ a. (mixed_of new) place ≡ None)
    → ((other : ℕ) → other ≢ place → (mixed_of new) other ≡ (mixed_of old) other) → IfSome o (λ a. (number : ℕ) × (a.asker ≡ Session number) × IsTakenAway old new place number (request_value (arc_value a.request)))
taken_away opened_of old new place hubs most questions None is gone others = tt
taken_away opened_of old new place hubs most questions (Some a) is gone others =
    let its : IsTakenAway old new place is.its.number (request_value (arc_value a.request)) =
    record {
      hubs = hubs;
      most = most;
      q = is.its;
      there = is.there;
      number_is = refl;
      request_is = sym is.request_is;
      gone = gone;
      others = others;
      kept = λ hub within at number request there. ap (λ (s : ℕ → Slab QuestionView). open_at (s hub) at) questions ∙ there;
      no_more = λ hub within at number request there. sym (ap (λ (s : ℕ → Slab QuestionView). open_at (s hub) at) questions) ∙ there;
    } in
    (is.its.number, is.to, its)

-- ---- receipts

module _ {E F : Type 0} where
  pub more_kept : (all : Result (Vec Receipt Global) E) (before : Vec Receipt Global) (more : List Receipt) (r : Result (Vec Receipt Global) F) → all ≡ Ok before → IfOk r (λ v. v.items ≡ before.items ++ more) → IfOk r (λ v. (x : Vec Receipt Global) × (all ≡ Ok x) × (v.items ≡ x.items ++ more))
  more_kept all before more (Ok v) e h = (before, e, h)
  more_kept all before more (Err f) e h = tt

-- those that were kept before, and more
module _ {E F : Type 0} (all : Result (Vec Receipt Global) E) (kept more : List Receipt) (other : Vec Receipt Global) (are : other.items ≡ more) (before : IfOk all (λ v. v.items ≡ kept)) where
  pub kept_on : (r : Result (Vec Receipt Global) F) → IfOk r (λ v. (x : Vec Receipt Global) × (all ≡ Ok x) × (v.items ≡ x.items ++ other.items)) → IfOk r (λ v. v.items ≡ kept ++ more)
  kept_on (Err f) h = tt
  kept_on (Ok v) h = h.2 ∙ ap (λ (xs : List Receipt). xs ++ other.items) (subst (λ (o : Result (Vec Receipt Global) E). IfOk o (λ v. v.items ≡ kept)) h.1 before) ∙ ap (λ (xs : List Receipt). kept ++ xs) are
