-- A call's plan with how far it has come, without where it lies in memory.
use Rattle.std.specs.Prelude.{◌≡◌, ℕ, zero, suc, Bool, false, true, ⊤, List, [], ◌∷◌, ◌++◌, Option, Some, None, nat_lt, nat_le, ◌&&◌, ◌||◌, nat_eq, map, if◌then◌else◌, slice_get, slice_set}
use Rattle.mcv_base.specs.declared.reply.FixedReply.{FixedReply}
use Rattle.mcv_base.specs.declared.reply.Outcome.{Outcome}
use Rattle.mcv_route.specs.Children.{joined}
use Rattle.mcv_rules.specs.declared.arrival.After.{After}
use Rattle.mcv_plan.specs.declared.answer.Answer.{Answer}
use Rattle.mcv_plan.specs.ReachedAnswers.{Reached, Own, Changes, IsBefore, IsMerge, put, reached, at_once, goes_on_after, answer_of, waits, nothing, prevails, all_answered, stop, search_answered, searched, first_answered, is_hit}

mutual
  pub data State : Type 0 where
    send : ℕ → State
    reply : FixedReply → State
    all : List ℕ → States → ℕ → Option Answer → State
    in_turn : After → List ℕ → States → ℕ → State
    beside : List ℕ → States → State
    on_hit : State → ℕ → State → State

  pub data States : Type 0 where
    none : States
    more : State → States → States

abbrev pub states_of : List State → States
states_of [] = none
states_of (s ∷ ss) = more s (states_of ss)

-- ---- the plan

-- the plan alone: nothing answered
abbrev mutual
  pub plan : State → State
  plan (send e) = send e
  plan (reply f) = reply f
  plan (all ends ss waiting worst) = all ends (plan_each ss) 0 None
  plan (in_turn w ends ss current) = in_turn w ends (plan_each ss) 0
  plan (beside ends ss) = beside ends (plan_each ss)
  plan (on_hit s end u) = on_hit (plan s) end (plan u)

  pub plan_each : States → States
  plan_each none = none
  plan_each (more s ss) = more (plan s) (plan_each ss)

abbrev pub holds : ℕ → List ℕ → Bool
holds k [] = false
holds k (j ∷ js) = nat_eq j k || holds k js

-- the numbers of the legs
abbrev mutual
  pub entries : State → List ℕ
  entries (send e) = e ∷ []
  entries (reply f) = []
  entries (all ends ss waiting worst) = joined (entries_each ss)
  entries (in_turn w ends ss current) = joined (entries_each ss)
  entries (beside ends ss) = joined (entries_each ss)
  entries (on_hit s end u) = entries s ++ entries u

  pub entries_each : States → List (List ℕ)
  entries_each none = []
  entries_each (more s ss) = entries s ∷ entries_each ss

abbrev pub within : ℕ → ℕ → List ℕ → Bool
within from end [] = true
within from end (k ∷ ks) = nat_le from k && nat_lt k end && within from end ks

-- the legs of each have numbers from the end of the one before to its own
abbrev pub are_placed : ℕ → List ℕ → List (List ℕ) → Bool
are_placed from [] [] = true
are_placed from [] (ks ∷ kss) = false
are_placed from (e ∷ es) [] = false
are_placed from (e ∷ es) (ks ∷ kss) = nat_le from e && within from e ks && are_placed e es kss

abbrev pub all_from : ℕ → List ℕ → Bool
all_from end [] = true
all_from end (k ∷ ks) = nat_le end k && all_from end ks

abbrev mutual
  pub is_placed : State → Bool
  is_placed (send e) = true
  is_placed (reply f) = true
  is_placed (all ends ss waiting worst) = are_placed 0 ends (entries_each ss) && each_placed ss
  is_placed (in_turn w ends ss current) = are_placed 0 ends (entries_each ss) && each_placed ss
  is_placed (beside ends ss) = are_placed 0 ends (entries_each ss) && each_placed ss
  is_placed (on_hit s end u) = within 0 end (entries s) && all_from end (entries u) && is_placed s && is_placed u

  pub each_placed : States → Bool
  each_placed none = true
  each_placed (more s ss) = is_placed s && each_placed ss

-- ---- what is answered and sent

abbrev mutual
  pub answered : Own → State → Option Reached
  answered o (send e) = o e
  answered o (reply f) = Some (at_once f)
  answered o (all ends ss waiting worst) = all_answered (answered_each o ss)
  answered o (in_turn w ends ss current) = search_answered w (answered_each o ss)
  answered o (beside ends ss) = first_answered (answered_each o ss)
  answered o (on_hit s end u) = answered o s

  pub answered_each : Own → States → List (Option Reached)
  answered_each o none = []
  answered_each o (more s ss) = answered o s ∷ answered_each o ss

abbrev mutual
  pub sends : Own → State → List ℕ
  sends o (send e) = e ∷ []
  sends o (reply f) = []
  sends o (all ends ss waiting worst) = joined (sends_each o ss)
  sends o (in_turn w ends ss current) = searched w (map answer_of (answered_each o ss)) (sends_each o ss)
  sends o (beside ends ss) = joined (sends_each o ss)
  sends o (on_hit s end u) = sends o s ++ (if is_hit (answer_of (answered o s)) then sends o u else [])

  pub sends_each : Own → States → List (List ℕ)
  sends_each o none = []
  sends_each o (more s ss) = sends o s ∷ sends_each o ss

-- ---- that the state has heard just these outcomes

-- none of the legs has its outcome
abbrev pub IsUnheard : Own → List ℕ → Type 0
IsUnheard o ks = (k : ℕ) → holds k ks ≡ true → o k ≡ None

abbrev pub answers_each : Own → States → List (Option Answer)
answers_each o ss = map answer_of (answered_each o ss)

abbrev pub Either : Bool → Type 0 → Type 0 → Type 0
Either true P Q = P
Either false P Q = Q

abbrev mutual
  pub Reflects : Own → State → Type 0
  Reflects o (send e) = ⊤
  Reflects o (reply f) = ⊤
  Reflects o (all ends ss waiting worst) = (waiting ≡ waits (answered_each o ss)) × (worst ≡ answer_of (prevails (answered_each o ss))) × ReflectEach o ss
  Reflects o (in_turn w ends ss current) = (current ≡ stop w (answers_each o ss)) × ReflectTurn w o ss
  Reflects o (beside ends ss) = ReflectEach o ss
  Reflects o (on_hit s end u) = Reflects o s × Either (is_hit (answer_of (answered o s))) (Reflects o u) (Reflects nothing u × IsUnheard o (entries u))

  pub ReflectEach : Own → States → Type 0
  ReflectEach o none = ⊤
  ReflectEach o (more s ss) = Reflects o s × ReflectEach o ss

  -- those that a search has come to are taken in, and the others wait
  pub ReflectTurn : After → Own → States → Type 0
  ReflectTurn w o none = ⊤
  ReflectTurn w o (more s ss) = Reflects o s × Either (goes_on_after w (answer_of (answered o s))) (ReflectTurn w o ss) (ReflectEach nothing ss × IsUnheard o (joined (entries_each ss)))

-- ---- what is at once

abbrev pub wave : State → List ℕ
wave s = sends nothing s

abbrev pub replies_at_once : State → Option Answer
replies_at_once s = answer_of (answered nothing s)

-- the leg is one of child i, and of no other
abbrev pub IsOnlyIn : ℕ → ℕ → List (List ℕ) → Type 0
IsOnlyIn k i [] = ⊥
IsOnlyIn k zero (ks ∷ kss) = (holds k ks ≡ true) × (holds k (joined kss) ≡ false)
IsOnlyIn k (suc i) (ks ∷ kss) = (holds k ks ≡ false) × IsOnlyIn k i kss

-- what the outcome of a leg changes: r is the reply, if that has come now, and to the legs before are added those that are sent now
pub record Heard (e : ℕ) (x : Outcome) (r : Option Answer) (before after : List ℕ) (s u : State) : Type 0 where
  pub same : plan u ≡ plan s
  pub reflects : (o : Own) (t : ℕ) → o e ≡ None → IsBefore o t → holds e (sends o s) ≡ true → Reflects o s → Reflects (put o e (reached e x t)) u
  pub reply : (o : Own) (t : ℕ) → o e ≡ None → IsBefore o t → holds e (sends o s) ≡ true → Reflects o s → Changes t r (answered o s) (answered (put o e (reached e x t)) s)
  pub fresh : (o : Own) (t : ℕ) → o e ≡ None → IsBefore o t → holds e (sends o s) ≡ true → Reflects o s
      → (ks : List ℕ) × (after ≡ before ++ ks) × IsMerge (sends o s) ks (sends (put o e (reached e x t)) s)

-- the same of child i
pub record HeardAt (e : ℕ) (x : Outcome) (r : Option Answer) (before after : List ℕ) (i : ℕ) (ss us : List State) : Type 0 where
  pub was : State
  pub «is» : State
  pub here : slice_get ss i ≡ Some was
  pub now : us ≡ slice_set ss i «is»
  pub heard : Heard e x r before after was «is»
