-- Requests that come to a desk, stay and go.
use Rattle.slab.specs.Slab.{Slab, Updates, get, with_value}
use Rattle.slab.proofs.SlabLemmas.{Updates-with_value}
use Rattle.std.proofs.Common.{◌≡◌, ◌∙◌, ℕ, inl, inr, List, [], Option, None, Some, Result, Ok, Err, OnErr, ap, refl, subst, sym}
use Rattle.std.proofs.lemmas.Bool.{cases_eq}
use Rattle.std.specs.Prelude.{IsSome, option_map}
use Rattle.mcv_text.specs.Request.{RequestValue}
use Rattle.mcv_turn.specs.OpenRequests.{AreSameOpen, Closes, Opens, asked_in, open_at}
use Rattle.mcv_turn.specs.Question.{QuestionView}
use Rattle.mcv_turn.specs.declared.answer.Asker.{Asker}

-- what holds in any case holds of an error
pub in_any_case : {T E X : Type 0} (r : Result T E) → X → OnErr r X
in_any_case (Ok v) x = tt
in_any_case (Err e) x = x

pub none_changes : (old new : Slab QuestionView) → new ≡ old → AreSameOpen old new
none_changes old new same = λ number. ap (λ (s : Slab QuestionView). open_at s number) same

pub still_open : (old mid new : Slab QuestionView) → AreSameOpen old mid → AreSameOpen mid new → AreSameOpen old new
still_open old mid new h k = λ number. k number ∙ h number

-- the values are as they were
pub slots_same : (old new : Slab QuestionView) → new.slots ≡ old.slots → AreSameOpen old new
slots_same old new same = λ number. ap (λ (slots : List (Option QuestionView)). open_at (record old { slots = slots }) number) same

-- there is none
pub none_open : (s : Slab QuestionView) → s.slots ≡ [] → (number : ℕ) → open_at s number ≡ None
none_open s none number = ap (λ (slots : List (Option QuestionView)). open_at (record s { slots = slots }) number) none

-- a question goes on: who asks, and what, stays
pub goes_on : (s : Slab QuestionView) (number : ℕ) (old new : QuestionView) → get s number ≡ Some old → asked_in new ≡ asked_in old → AreSameOpen s (with_value s number new)
goes_on s number old new there asked =
    let u = Updates-with_value s number new (subst IsSome (sym there) refl) in
    λ other. elim (cases_eq other number) [
      | inl same ↦ ap (open_at (with_value s number new)) same ∙ ap (option_map asked_in) u.changed ∙ ap Some asked ∙ sym (ap (option_map asked_in) there) ∙ sym (ap (open_at s) same)
      | inr apart ↦ ap (option_map asked_in) (u.others other apart)
    ]

asked_by : (q : QuestionView) (asker : Asker) (request : RequestValue) → q.asker ≡ asker → q.request ≡ request → Some (asked_in q) ≡ Some (asker, request)
asked_by q asker request a r = λ j. Some (a j, r j)

module _ (old new : Slab QuestionView) (number : ℕ) (q : QuestionView) (asker : Asker) (request : RequestValue) (a : q.asker ≡ asker) (r : q.request ≡ request) where
  pub one_opens : get old number ≡ None → Updates old new number (Some q) → Opens old new asker request
  one_opens vacant h = record {
    number = number;
    vacant = ap (option_map asked_in) vacant;
    put = ap (option_map asked_in) h.changed ∙ asked_by q asker request a r;
    others = λ other apart. ap (option_map asked_in) (h.others other apart);
  }

  pub one_closes : get old number ≡ Some q → Updates old new number None → Closes old new asker request
  one_closes there h = record {
    number = number;
    was = ap (option_map asked_in) there ∙ asked_by q asker request a r;
    gone = ap (option_map asked_in) h.changed;
    others = λ other apart. ap (option_map asked_in) (h.others other apart);
  }
