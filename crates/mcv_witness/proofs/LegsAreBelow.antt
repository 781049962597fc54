-- All that a handle sends is at its position or below it.
use Rattle.std.proofs.Common.{cond, ℕ, suc, Bool, true, false, List, [], ◌∷◌, ◌++◌}
use Rattle.mcv_base.specs.declared.reply.Outcome.{Outcome}
use Rattle.mcv_route.specs.Children.{is_within, joined, of_those_holding}
use Rattle.mcv_route.specs.Launched.{launched, launched_each, once}
use Rattle.mcv_route.specs.Outcomes.{Choice, Outcomes}
use Rattle.mcv_route.specs.Replies.{Answer}
use Rattle.mcv_route.specs.Situation.{Situation, under}
use Rattle.mcv_route.specs.Tree.{Range, Tree, Trees, none, child}
use Rattle.mcv_route.specs.declared.launch.Launch.{Launch}
use Rattle.mcv_rules.proofs.Leaves.{IsOf, placed}
use Rattle.mcv_rules.proofs.EachLeg.{AllOf, launches_have}
use Rattle.mcv_witness.proofs.EachMember.{Each, each_append, each_map}
use Rattle.mcv_witness.proofs.Regions.{At, Below, From, at_below, below_from, from_later}

abbrev pub AllAt : List ℕ → List Launch → Type 0
AllAt base ls = Each (λ l. At base l.position) ls

abbrev pub AllBelow : List ℕ → ℕ → List Launch → Type 0
AllBelow base n ls = Each (λ l. Below base n l.position) ls

abbrev pub AllFrom : List ℕ → ℕ → List Launch → Type 0
AllFrom base n ls = Each (λ l. From base n l.position) ls

abbrev pub EachFrom : List ℕ → ℕ → List (List Launch) → Type 0
EachFrom base n lss = Each (AllFrom base n) lss

pub child_from : (base : List ℕ) (n : ℕ) (ls : List Launch) → AllAt (base ++ n ∷ []) ls → AllBelow base n ls
child_from base n ls h = each_map (λ l. At (base ++ n ∷ []) l.position) (λ l. Below base n l.position) ls (λ l. at_below base n l.position) h

pub below_all : (base : List ℕ) (n : ℕ) (ls : List Launch) → AllBelow base n ls → AllFrom base n ls
below_all base n ls h = each_map (λ l. Below base n l.position) (λ l. From base n l.position) ls (λ l. below_from base n l.position) h

pub later_all : (base : List ℕ) (n : ℕ) (ls : List Launch) → AllFrom base (suc n) ls → AllFrom base n ls
later_all base n ls h = each_map (λ l. From base (suc n) l.position) (λ l. From base n l.position) ls (λ l. from_later base n l.position) h

-- ---- lists of what children send

module _ (P : Launch → Type 0) where
  pub joined_each : (lss : List (List Launch)) → Each (Each P) lss → Each P (joined lss)
  joined_each [] h = tt
  joined_each (ls ∷ lss) h = each_append P ls (joined lss) h.0 (joined_each lss h.1)

  pub once_each : (test : Outcome → Bool) (r : List Answer) (ls : List Launch) → Each P ls → Each P (once test r ls)
  once_each test [] ls h = tt
  once_each test (a ∷ more) ls h = by_test (test a.outcome)
    where
      by_test : (b : Bool) → Each P (cond b ls [])
      by_test true = h
      by_test false = tt

  pub holding_each : (i : ℕ) (ranges : List Range) (lss : List (List Launch)) → Each (Each P) lss → Each P (of_those_holding i ranges lss)
  holding_each i [] lss h = tt
  holding_each i (r ∷ rs) [] h = tt
  holding_each i (r ∷ rs) (ls ∷ lss) h = each_append P (cond (is_within r i) ls []) (of_those_holding i rs lss) (by_test (is_within r i)) (holding_each i rs lss h.1)
    where
      by_test : (b : Bool) → Each P (cond b ls [])
      by_test true = h.0
      by_test false = tt

each_of : (P : Launch → Type 0) (ls : List Launch) → AllOf P ls → Each P ls
each_of P [] h = tt
each_of P (l ∷ ls) h = (h.0, each_of P ls h.1)

module _ (c : Choice) (o : Outcomes) where
  pub launched_at : (t : Tree) (s : Situation) → AllAt s.position (launched t s c o)
  launched_at t s = each_of (λ l. At s.position l.position) (launched t s c o) (launches_have (IsOf t s.position) (λ l. At s.position l.position) t s c o (λ k h. (h.rest, h.position)) (placed t s))

  pub launched_below : (t : Tree) (k : ℕ) (s : Situation) → AllBelow s.position k (launched t (under k s) c o)
  launched_below t k s = child_from s.position k (launched t (under k s) c o) (launched_at t (under k s))

  pub launched_from : (k : ℕ) (ts : Trees) (s : Situation) → EachFrom s.position k (launched_each k ts s c o)
  launched_from k none s = tt
  launched_from k (child t ts) s = (
    below_all s.position k (launched t (under k s) c o) (launched_below t k s),
    each_map (AllFrom s.position (suc k)) (AllFrom s.position k) (launched_each (suc k) ts s c o) (λ ls. later_all s.position k ls) (launched_from (suc k) ts s),
  )
