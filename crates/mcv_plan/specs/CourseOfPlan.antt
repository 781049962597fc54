-- That a course is that of a plan under a choice, its legs numbered from a number on.
use Rattle.std.specs.Prelude.{◌≡◌, ◌+◌, ℕ, suc, true, ⊤, List, [], ◌∷◌, length, map}
use Rattle.mcv_route.specs.declared.launch.Launch.{Launch}
use Rattle.mcv_route.specs.Outcomes.{Choice}
use Rattle.mcv_rules.specs.declared.plan.Plan.{Plan}
use Rattle.mcv_rules.specs.Places.{is_beside, is_plain, kind_of, places_of}
use Rattle.mcv_plan.specs.Entries.{legs_of, numbers}
use Rattle.mcv_plan.specs.Parts.{AnswersAs, RepliesAs, SendsAs}
use Rattle.mcv_plan.specs.ReachedAnswers.{nothing}
use Rattle.mcv_plan.specs.State.{Reflects, State, entries, is_placed}

-- the legs with the numbers from the first on are these
abbrev pub Follow : (ℕ → Launch) → ℕ → List Launch → Type 0
Follow legs from [] = ⊤
Follow legs from (l ∷ ls) = (legs from ≡ l) × Follow legs (suc from) ls

-- some of the second list, in its order
pub data IsSublist : List (List ℕ) → List (List ℕ) → Type 0 where
  done : IsSublist [] []
  kept : (p : List ℕ) (ps qs : List (List ℕ)) → IsSublist ps qs → IsSublist (p ∷ ps) (p ∷ qs)
  left_out : (q : List ℕ) (ps qs : List (List ℕ)) → IsSublist ps qs → IsSublist ps (q ∷ qs)

-- the course has the plan's legs by their numbers; it waits for all, and answers and sends what the plan does
pub record IsBuilt (c : Choice) (p : Plan) (from : ℕ) (s : State) : Type 0 where
  pub placed : is_placed s ≡ true
  pub ready : Reflects nothing s
  pub numbered : entries s ≡ numbers from (length (legs_of c p))
  pub places : IsSublist (map (λ l. l.position) (legs_of c p)) (places_of p)
  pub replies : is_plain (kind_of p) ≡ true → RepliesAs c p
  pub answers : is_plain (kind_of p) ≡ true → (legs : ℕ → Launch) → Follow legs from (legs_of c p) → AnswersAs (λ k. (legs k).position) s p
  pub sends : is_beside (kind_of p) ≡ true → (legs : ℕ → Launch) → Follow legs from (legs_of c p) → SendsAs legs c s p

-- each course is that of its plan, and ends where the next begins
abbrev pub BuiltEach : Choice → List Plan → ℕ → List ℕ → List State → Type 0
BuiltEach c [] from [] [] = ⊤
BuiltEach c [] from [] (s ∷ ss) = ⊥
BuiltEach c [] from (e ∷ es) ss = ⊥
BuiltEach c (p ∷ ps) from [] ss = ⊥
BuiltEach c (p ∷ ps) from (e ∷ es) [] = ⊥
BuiltEach c (p ∷ ps) from (e ∷ es) (s ∷ ss) = IsBuilt c p from s × (e ≡ from + length (legs_of c p)) × BuiltEach c ps e es ss
