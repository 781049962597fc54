-- Rules over what each child of a handle does, in the order of the children.
use Rattle.std.specs.Prelude.{ℕ, zero, suc, ◌+◌, ◌*◌, List, [], ◌∷◌, ◌++◌, Bool, true, false, Option, Some, None, nat_le, ◌&&◌, if◌then◌else◌, not, length, unwrap_or, option_map, fold}
use Rattle.mcv_base.specs.declared.operation.Op.{Op}
use Rattle.mcv_base.specs.Operation.{is_same_op, is_delete}
use Rattle.mcv_base.specs.Key.{begins_with}
use Rattle.mcv_route.specs.Tree.{Range}
use Rattle.mcv_route.specs.Situation.{Situation, has_passed}

abbrev pub joined : {A : Type 0} → List (List A) → List A
joined [] = []
joined (xs ∷ xss) = xs ++ joined xss

-- what child k does, or the default where there is no such child
abbrev pub child_or : {A : Type 0} → A → ℕ → List A → A
child_or d k [] = d
child_or d zero (x ∷ xs) = x
child_or d (suc k) (x ∷ xs) = child_or d k xs

abbrev pub rest_of : {A : Type 0} → List A → List A
rest_of [] = []
rest_of (x ∷ xs) = xs

-- what the first does put together with what each further child does, in turn; the default where there is no child
abbrev pub together : {A : Type 0} → (A → A → A) → A → List A → A
together put d [] = d
together put d (x ∷ xs) = fold put x xs

abbrev pub is_within : Range → ℕ → Bool
is_within r i = nat_le r.first i && nat_le i r.last

-- what the targets do whose range holds the index
abbrev pub of_those_holding : {A : Type 0} → ℕ → List Range → List (List A) → List A
of_those_holding i [] xss = []
of_those_holding i (r ∷ rs) [] = []
of_those_holding i (r ∷ rs) (xs ∷ xss) = (if is_within r i then xs else []) ++ of_those_holding i rs xss

-- the policy is that of the operation; one for get isn't used by gets
abbrev pub is_policy_for : Op → Option Op → Bool
is_policy_for op None = false
is_policy_for op (Some p) = is_same_op p op

-- the number of the operation's policy, or that of the default after all policies
abbrev pub policy_of : Op → List (Option Op) → ℕ
policy_of op [] = 0
policy_of op (p ∷ ps) = if is_policy_for op p then 0 else suc (policy_of op ps)

-- the number, from k on, and the length of the longest of the prefixes with which the rest begins
abbrev pub longest_from : ℕ → List ℕ → List (List ℕ) → Option (ℕ × ℕ)
longest_from k rest [] = None
longest_from k rest (p ∷ ps) = longer (begins_with rest p) (k, length p) (longest_from (suc k) rest ps)
  where
    longer : Bool → ℕ × ℕ → Option (ℕ × ℕ) → Option (ℕ × ℕ)
    longer false a found = found
    longer true a None = Some a
    longer true a (Some b) = if nat_le a.1 b.1 then Some b else Some a

-- the number of the longest prefix with which the rest begins, or that of the wildcard after all prefixes
abbrev pub prefix_policy : List ℕ → List (List ℕ) → ℕ
prefix_policy rest prefixes = unwrap_or (option_map (λ b. b.0) (longest_from 0 rest prefixes)) (length prefixes)

-- where a migration sends
pub data Way : Type 0 where
  to_from : Way
  to_to : Way
  to_both : Way

abbrev pub by_way : {A : Type 0} → Way → A → A → A → A
by_way to_from a b c = a
by_way to_to a b c = b
by_way to_both a b c = c

-- from the start on, deletes go to both; from one interval later the rest goes to the new place, from two later all
abbrev pub way_of : Situation → ℕ → ℕ → Way
way_of s start interval =
    if not (has_passed s.since start) then to_from
    else if has_passed s.since (start + 2 * interval) then to_to
    else if is_delete s.op then to_both
    else if has_passed s.since (start + interval) then to_to else to_from
