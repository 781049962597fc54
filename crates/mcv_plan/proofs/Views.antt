-- A course in memory, one level at a time.
use Rattle.std.proofs.Common.{◌≡◌, ℕ, List, Option, Vec, Box, Global, rules}
use Rattle.mcv_base.specs.declared.reply.FixedReply.{FixedReply}
use Rattle.mcv_rules.specs.declared.arrival.After.{After}
use Rattle.mcv_plan.specs.declared.answer.Answer.{Answer}
use Rattle.mcv_plan.specs.declared.course.Course.{Course, Send, Reply, All, InTurn, Beside, OnHit, the_lemmas}
use Rattle.mcv_base.specs.declared.reply.Outcome.{Outcome}
use Rattle.mcv_plan.specs.State.{Heard, send, reply, all, in_turn, beside, on_hit}
use Rattle.mcv_plan.specs.View.{seen, view}

pub view-Send : (e : ℕ) → view (Send e) ≡ send e
view-Send e = search (rules, the_lemmas)

pub view-Reply : (f : FixedReply) → view (Reply f) ≡ reply f
view-Reply f = search (rules, the_lemmas)

pub view-All : (ends : Vec ℕ Global) (cs : Vec Course Global) (waiting : ℕ) (worst : Option Answer) → view (All ends cs waiting worst) ≡ all ends.items (seen cs.items) waiting worst
view-All ends cs waiting worst = search (rules, the_lemmas)

pub view-InTurn : (w : After) (ends : Vec ℕ Global) (cs : Vec Course Global) (current : ℕ) → view (InTurn w ends cs current) ≡ in_turn w ends.items (seen cs.items) current
view-InTurn w ends cs current = search (rules, the_lemmas)

pub view-Beside : (ends : Vec ℕ Global) (cs : Vec Course Global) → view (Beside ends cs) ≡ beside ends.items (seen cs.items)
view-Beside ends cs = search (rules, the_lemmas)

pub view-OnHit : (first : Box Course Global) (end : ℕ) (second : Box Course Global) → view (OnHit first end second) ≡ on_hit (view first.value) end (view second.value)
view-OnHit first end second = search (rules, the_lemmas)

-- ---- that a part has heard, said of the parts in memory

module _ (e : ℕ) (x : Outcome) (r : Option Answer) (b a : List ℕ) where
  pub in_all : (m : Course) (ends : Vec ℕ Global) (cs : Vec Course Global) (w : ℕ) (v : Option Answer) (ends2 : Vec ℕ Global) (cs2 : Vec Course Global) (w2 : ℕ) (v2 : Option Answer) (es : List ℕ) (ds : Vec Course Global) (w3 : ℕ) (v3 : Option Answer)
      → m ≡ All ends cs w v → es ≡ ends.items → ds ≡ cs → w3 ≡ w → v3 ≡ v → ends2 ≡ ends
      → Heard e x r b a (all es (seen ds.items) w3 v3) (all es (seen cs2.items) w2 v2) → Heard e x r b a (view m) (view (All ends2 cs2 w2 v2))
  in_all m ends cs w v ends2 cs2 w2 v2 es ds w3 v3 is p q f g p2 h = rw (is, view-All ends cs w v, view-All ends2 cs2 w2 v2, p2) (rw (p, q, f, g) at h)

  pub in_in_turn : (m : Course) (k : After) (ends : Vec ℕ Global) (cs : Vec Course Global) (n : ℕ) (k2 : After) (ends2 : Vec ℕ Global) (cs2 : Vec Course Global) (n2 : ℕ) (es : List ℕ) (ds : Vec Course Global) (k3 : After) (n3 : ℕ)
      → m ≡ InTurn k ends cs n → es ≡ ends.items → ds ≡ cs → k3 ≡ k → n3 ≡ n → k2 ≡ k → ends2 ≡ ends
      → Heard e x r b a (in_turn k3 es (seen ds.items) n3) (in_turn k3 es (seen cs2.items) n2) → Heard e x r b a (view m) (view (InTurn k2 ends2 cs2 n2))
  in_in_turn m k ends cs n k2 ends2 cs2 n2 es ds k3 n3 is p q f g k_same p2 h = rw (is, view-InTurn k ends cs n, view-InTurn k2 ends2 cs2 n2, k_same, p2) (rw (p, q, f, g) at h)

  pub in_beside : (m : Course) (ends : Vec ℕ Global) (cs : Vec Course Global) (ends2 : Vec ℕ Global) (cs2 : Vec Course Global) (es : List ℕ) (ds : Vec Course Global)
      → m ≡ Beside ends cs → es ≡ ends.items → ds ≡ cs → ends2 ≡ ends
      → Heard e x r b a (beside es (seen ds.items)) (beside es (seen cs2.items)) → Heard e x r b a (view m) (view (Beside ends2 cs2))
  in_beside m ends cs ends2 cs2 es ds is p q p2 h = rw (is, view-Beside ends cs, view-Beside ends2 cs2, p2) (rw (p, q) at h)

  pub in_on_hit : (m : Course) (f : Box Course Global) (n : ℕ) (s : Box Course Global) (f2 : Box Course Global) (n2 : ℕ) (s2 : Box Course Global) (g d g2 d2 : Course) (n3 : ℕ)
      → m ≡ OnHit f n s → g ≡ f.value → d ≡ s.value → n3 ≡ n → n2 ≡ n → f2.value ≡ g2 → s2.value ≡ d2
      → Heard e x r b a (on_hit (view g) n3 (view d)) (on_hit (view g2) n3 (view d2)) → Heard e x r b a (view m) (view (OnHit f2 n2 s2))
  in_on_hit m f n s f2 n2 s2 g d g2 d2 n3 is p q n_three n_same p2 q2 h = rw (is, view-OnHit f n s, view-OnHit f2 n2 s2, n_same, p2, q2) (rw (p, q, n_three) at h)
