-- What several parts of a plan have answered together.
use Rattle.std.specs.Prelude.{◌≡◌, ℕ, suc, max, Bool, false, true, List, [], ◌∷◌, ◌++◌, Option, Some, None, option_map, nat_eq, nat_lt, nat_le, ◌&&◌, ◌||◌, ◌==◌, slice_get, slice_set, if◌then◌else◌}
use Rattle.mcv_base.specs.declared.reply.Outcome.{Outcome}
use Rattle.mcv_base.specs.declared.reply.FixedReply.{FixedReply}
use Rattle.mcv_base.specs.Reply.{outcome_of, fixed_value, is_good, badness}
use Rattle.mcv_rules.specs.declared.arrival.After.{After}
-- whether a search goes on after an outcome
pub use Rattle.mcv_rules.specs.Arrivals.{goes_on}
use Rattle.mcv_plan.specs.declared.answer.Answer.{Answer}
use Rattle.mcv_plan.specs.declared.answer.Source.TheVariants.{Entry, Fixed}

-- an answer, and how many outcomes had come when it was first there
pub record Reached : Type 0 where
  pub answer : Answer
  pub came : ℕ

-- what came of each leg, by its number
abbrev pub Own : Type 0
Own = ℕ → Option Reached

abbrev pub nothing : Own
nothing k = None

-- with the outcome of one leg more
abbrev pub put : Own → ℕ → Reached → Own
put o e r k = if nat_eq e k then Some r else o k

abbrev pub of_entry : ℕ → Outcome → Answer
of_entry e x = record { outcome = x; source = Entry e }

abbrev pub fixed_answer : FixedReply → Answer
fixed_answer f = record { outcome = outcome_of (fixed_value f); source = Fixed f }

abbrev pub at_once : FixedReply → Reached
at_once f = record { answer = fixed_answer f; came = 0 }

abbrev pub answer_of : Option Reached → Option Answer
answer_of x = option_map (λ a. a.answer) x

abbrev pub outcome_in : Option Reached → Option Outcome
outcome_in x = option_map (λ a. a.answer.outcome) x

abbrev pub reached : ℕ → Outcome → ℕ → Reached
reached e x t = record { answer = of_entry e x; came = t }

-- ---- all

-- how many have answered nothing
abbrev pub waits : List (Option Reached) → ℕ
waits [] = 0
waits (None ∷ xs) = suc (waits xs)
waits (Some a ∷ xs) = waits xs

abbrev pub weight : Reached → ℕ
weight a = badness a.answer.outcome

-- the second, where it is worse, or as bad and came no earlier
abbrev pub later : Reached → Reached → Reached
later a b = if nat_lt (weight a) (weight b) || ((weight a == weight b) && nat_le a.came b.came) then b else a

abbrev pub join : Option Reached → Option Reached → Option Reached
join None y = y
join (Some a) None = Some a
join (Some a) (Some b) = Some (later a b)

-- of those that are there the worst, and of equal ones the last
abbrev pub prevails : List (Option Reached) → Option Reached
prevails [] = None
prevails (x ∷ xs) = join x (prevails xs)

abbrev pub came_of : Option Reached → ℕ
came_of None = 0
came_of (Some a) = a.came

abbrev pub last_came : List (Option Reached) → ℕ
last_came [] = 0
last_came (x ∷ xs) = max (came_of x) (last_came xs)

abbrev pub at : ℕ → Reached → Reached
at n a = record { answer = a.answer; came = n }

-- nothing, where there are none: that is a reply at once
abbrev pub all_answered : List (Option Reached) → Option Reached
all_answered xs = if waits xs == 0 then option_map (at (last_came xs)) (prevails xs) else None

-- the worst so far, and one more
abbrev pub over : Option Answer → Answer → Answer
over None b = b
over (Some a) b = if nat_le (badness a.outcome) (badness b.outcome) then b else a

-- the worst so far, and a later reply where that is there
abbrev pub worse_of : Option Answer → Option Answer → Option Answer
worse_of w None = w
worse_of w (Some a) = Some (over w a)

-- one, where there is no reply
abbrev pub missing_in : Option Answer → ℕ
missing_in None = 1
missing_in (Some a) = 0

-- ---- one after another

abbrev pub goes_on_after : After → Option Answer → Bool
goes_on_after w None = false
goes_on_after w (Some a) = goes_on w a.outcome

abbrev pub next_answered : After → Option Reached → Option Reached → Option Reached
next_answered w None y = None
next_answered w (Some a) y = if goes_on w a.answer.outcome then option_map (λ b. at (max a.came b.came) b) y else Some a

abbrev pub search_from : After → Option Reached → List (Option Reached) → Option Reached
search_from w x [] = x
search_from w x (y ∷ ys) = next_answered w x (search_from w y ys)

abbrev pub search_answered : After → List (Option Reached) → Option Reached
search_answered w [] = None
search_answered w (x ∷ xs) = search_from w x xs

-- how much further the search reflects
abbrev pub stop_from : After → Option Answer → List (Option Answer) → ℕ
stop_from w x [] = 0
stop_from w x (y ∷ ys) = if goes_on_after w x then suc (stop_from w y ys) else 0

abbrev pub stop : After → List (Option Answer) → ℕ
stop w [] = 0
stop w (x ∷ xs) = stop_from w x xs

-- the answer there
abbrev pub answer_from : After → Option Answer → List (Option Answer) → Option Answer
answer_from w x [] = x
answer_from w x (y ∷ ys) = if goes_on_after w x then answer_from w y ys else x

abbrev pub searched : After → List (Option Answer) → List (List ℕ) → List ℕ
searched w [] ls = []
searched w (x ∷ xs) [] = []
searched w (x ∷ xs) (l ∷ ls) = l ++ (if goes_on_after w x then searched w xs ls else [])

-- ---- at once, the first alone waited for

abbrev pub first_answered : List (Option Reached) → Option Reached
first_answered [] = None
first_answered (x ∷ xs) = x

abbrev pub is_hit : Option Answer → Bool
is_hit None = false
is_hit (Some a) = is_good a.outcome

-- ---- what is new

-- what was answered and what is answered now: the same, or nothing and then this answer
abbrev pub Changes : ℕ → Option Answer → Option Reached → Option Reached → Type 0
Changes t None x y = y ≡ x
Changes t (Some a) x y = (x ≡ None) × (y ≡ Some (record { answer = a; came = t }))

-- of several, of which one has answered more
abbrev pub ChangesAt : ℕ → Option Answer → ℕ → List (Option Reached) → List (Option Reached) → Type 0
ChangesAt t None i xs ys = ys ≡ xs
ChangesAt t (Some a) i xs ys = (slice_get xs i ≡ Some None) × (ys ≡ slice_set xs i (Some (record { answer = a; came = t })))

-- no outcome came at the time or later
abbrev pub IsBefore : Own → ℕ → Type 0
IsBefore o t = (k : ℕ) → nat_lt (came_of (o k)) t ≡ true

-- the number of the child to which the leg belongs
abbrev pub child_at : List ℕ → ℕ → ℕ
child_at [] k = 0
child_at (e ∷ es) k = if nat_le e k then suc (child_at es k) else 0

-- the second has the first's elements and those that came between, in their orders
pub data IsMerge : List ℕ → List ℕ → List ℕ → Type 0 where
  done : IsMerge [] [] []
  kept : (k : ℕ) (a m b : List ℕ) → IsMerge a m b → IsMerge (k ∷ a) m (k ∷ b)
  added : (k : ℕ) (a m b : List ℕ) → IsMerge a m b → IsMerge a (k ∷ m) (k ∷ b)
