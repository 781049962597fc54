-- When a handle first had an answer, by its children: for code that computes the one reply.
use Rattle.std.specs.Prelude.{◌≡◌, ◌≢◌, ℕ, suc, max, List, [], ◌∷◌, length, if◌then◌else◌, fold, ⊤}
use Rattle.mcv_route.specs.Outcomes.{Choice, History, outcomes}
use Rattle.mcv_base.specs.Reply.{is_error, is_good}
use Rattle.mcv_route.specs.Tree.{Tree, Trees, many, AllSync, none, child}
use Rattle.mcv_route.specs.Situation.{Situation, under}
use Rattle.mcv_route.specs.Replies.{Answer, or_after_error, or_after_miss, replies}
use Rattle.mcv_route.specs.Reply.{is_waiting, came}
use Rattle.mcv_route.specs.Verdict.{IsLegal}

-- how many outcomes had come when there first was an answer
abbrev pub time : (History → List Answer) → History → ℕ
time f [] = 0
time f (e ∷ es) = if is_waiting (f es) then suc (length es) else time f es

abbrev pub came_each : ℕ → Trees → Situation → History → List ℕ
came_each k none s es = []
came_each k (child t ts) s es = came t (under k s) es ∷ came_each (suc k) ts s es

-- AllSyncRoute has its answer when the last child has
abbrev pub TimeOfAllSync : Type 0
TimeOfAllSync = (t : Tree) (ts : Trees) (s : Situation) (es : History) → came (many AllSync (child t ts)) s es ≡ fold max (came t (under 0 s) es) (came_each 1 ts s es)

-- once there is an answer in the list's past, it is the one there is now
abbrev pub IsStable : (History → List Answer) → History → Type 0
IsStable f [] = ⊤
IsStable f (e ∷ es) = (f es ≢ [] → f (e ∷ es) ≡ f es) × IsStable f es

-- a search that stops at the first child has its answer when that child has, and one that goes on when the later of both has
abbrev pub TimeAfterError : Type 0
TimeAfterError = (f g : History → List Answer) (a : Answer) (more : List Answer) (es : History) → IsStable f es → f es ≡ a ∷ more →
    time (λ h. or_after_error (f h) (g h)) es ≡ (if is_error a.outcome then max (time f es) (time g es) else time f es)

abbrev pub TimeAfterMiss : Type 0
TimeAfterMiss = (f g : History → List Answer) (a : Answer) (more : List Answer) (es : History) → IsStable f es → f es ≡ a ∷ more →
    time (λ h. or_after_miss (f h) (g h)) es ≡ (if is_good a.outcome then time f es else max (time f es) (time g es))

-- in a legal list the replies of every part of the route are stable
abbrev pub RepliesAreStable : Type 0
RepliesAreStable = (t : Tree) (s : Situation) (c : Choice) (es : History) → IsLegal t s c es → (u : Tree) (v : Situation) → IsStable (λ h. replies u v (outcomes h)) es
