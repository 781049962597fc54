-- Where the legs and the shadows of a plan in memory are, one level at a time.
use Rattle.std.proofs.Common.{◌≡◌, ℕ, true, ◌&&◌, [], ◌∷◌, ◌++◌, map, Vec, Box, Global, rules}
use Rattle.mcv_base.specs.declared.reply.FixedReply.{FixedReply}
use Rattle.mcv_route.specs.Children.{joined}
use Rattle.mcv_rules.specs.Places.{are_led, are_plain, is_plain, kind_of, places_of, plain_if, shadow_if}
use Rattle.mcv_rules.specs.declared.arrival.After.{After}
use Rattle.mcv_rules.specs.declared.plan.PlannedLeg.{PlannedLeg}
use Rattle.mcv_rules.specs.declared.plan.Plan.{Plan, Send, Reply, All, Beside, InTurn, OnHit, Shadowed, the_lemmas}

-- ---- positions

pub places-Send : (l : PlannedLeg) → places_of (Send l) ≡ l.position ∷ []
places-Send l = search (rules, the_lemmas)

pub places-Reply : (f : FixedReply) → places_of (Reply f) ≡ []
places-Reply f = search (rules, the_lemmas)

pub places-All : (v : Vec Plan Global) → places_of (All v) ≡ joined (map places_of v.items)
places-All v = search (rules, the_lemmas)

pub places-Beside : (v : Vec Plan Global) → places_of (Beside v) ≡ joined (map places_of v.items)
places-Beside v = search (rules, the_lemmas)

pub places-InTurn : (w : After) (v : Vec Plan Global) → places_of (InTurn w v) ≡ joined (map places_of v.items)
places-InTurn w v = search (rules, the_lemmas)

pub places-OnHit : (p q : Box Plan Global) → places_of (OnHit p q) ≡ places_of p.value ++ places_of q.value
places-OnHit p q = search (rules, the_lemmas)

pub places-Shadowed : (s a b : ℕ) (p : Box Plan Global) → places_of (Shadowed s a b p) ≡ places_of p.value
places-Shadowed s a b p = search (rules, the_lemmas)

-- ---- shadows

pub kind-Send : (l : PlannedLeg) → is_plain (kind_of (Send l)) ≡ true
kind-Send l = search (rules, the_lemmas)

pub kind-Reply : (f : FixedReply) → is_plain (kind_of (Reply f)) ≡ true
kind-Reply f = search (rules, the_lemmas)

pub kind-All : (v : Vec Plan Global) → kind_of (All v) ≡ plain_if (are_plain (map kind_of v.items))
kind-All v = search (rules, the_lemmas)

pub kind-Beside : (v : Vec Plan Global) → kind_of (Beside v) ≡ plain_if (are_led (map kind_of v.items))
kind-Beside v = search (rules, the_lemmas)

pub kind-InTurn : (w : After) (v : Vec Plan Global) → kind_of (InTurn w v) ≡ plain_if (are_plain (map kind_of v.items))
kind-InTurn w v = search (rules, the_lemmas)

pub kind-OnHit : (p q : Box Plan Global) → kind_of (OnHit p q) ≡ plain_if (is_plain (kind_of p.value) && is_plain (kind_of q.value))
kind-OnHit p q = search (rules, the_lemmas)

pub kind-Shadowed : (s a b : ℕ) (p : Box Plan Global) → kind_of (Shadowed s a b p) ≡ shadow_if (is_plain (kind_of p.value))
kind-Shadowed s a b p = search (rules, the_lemmas)
