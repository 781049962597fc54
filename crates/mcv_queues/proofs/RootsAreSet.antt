-- Setting the root of one server's group sets no other root.
use Rattle.std.proofs.Common.{◌≡◌, inl, inr, cond, ℕ, ◌<◌, nat_eq, List, length, Option, sym, ap, subst, ◌∙◌, slice_set}
use Rattle.std.proofs.Math.ListN.{get_or}
use Rattle.std.proofs.lemmas.Bool.{cases_eq, eq-eqb, ne_eqb}
use Rattle.std.proofs.lemmas.List.{get_or-set_same, get_or-set_other}
use Rattle.mcv_queues.specs.declared.roots.Group.{Group}
use Rattle.mcv_queues.specs.declared.roots.Group.TheVariants.{WaitingFor, SpooledFor, HeldLegs, RefusedLegs, LegsInReplay}
use Rattle.mcv_queues.specs.declared.roots.Server.{Server}
use Rattle.mcv_queues.specs.declared.roots.Roots.{Roots}
use Rattle.mcv_queues.specs.Roots.{idle, server_at, root_of, put_root}

field_put : {X : Type 0} (p : Server → X) (items : List Server) (s t : ℕ) (v : Server) → s < length items → p (get_or (slice_set items s v) t idle) ≡ cond (nat_eq s t) (p v) (p (get_or items t idle))
field_put p items s t v h = elim (cases_eq s t) [
  | inl q ↦ subst (λ j. p (get_or (slice_set items s v) j idle) ≡ p v) q (ap p (get_or-set_same items s v idle h)) ∙ sym (ap (λ b. cond b (p v) (p (get_or items t idle))) (eq-eqb s t q))
  | inr ne ↦ ap p (get_or-set_other items s t v idle (λ q. ne (sym q))) ∙ sym (ap (λ b. cond b (p v) (p (get_or items t idle))) (ne_eqb s t ne))
]

cond_kept : (items : List Server) (p : Server → Option ℕ) (s t : ℕ) (x : Option ℕ) → x ≡ p (get_or items s idle) → cond (nat_eq s t) x (p (get_or items t idle)) ≡ p (get_or items t idle)
cond_kept items p s t x e = elim (cases_eq s t) [
  | inl q ↦ ap (λ b. cond b x (p (get_or items t idle))) (eq-eqb s t q) ∙ e ∙ ap (λ j. p (get_or items j idle)) q
  | inr ne ↦ ap (λ b. cond b x (p (get_or items t idle))) (ne_eqb s t ne)
]

pub set_waiting : (r r2 : Roots) (s : ℕ) (root : Option ℕ) (v : Server) (h : Group) → r2.servers.items ≡ slice_set r.servers.items s v → r2.held ≡ r.held → r2.refused ≡ r.refused → r2.in_replay ≡ r.in_replay
    → v.waiting ≡ root → v.spooled ≡ (server_at r s).spooled → s < length r.servers.items → root_of r2 h ≡ put_root (root_of r) (WaitingFor s) root h
set_waiting r r2 s root v (WaitingFor t) e eh er ey w p lt = ap (λ y. (get_or y t idle).waiting) e ∙ field_put (λ y. y.waiting) r.servers.items s t v lt ∙ ap (λ y. cond (nat_eq s t) y (server_at r t).waiting) w
set_waiting r r2 s root v (SpooledFor t) e eh er ey w p lt = ap (λ y. (get_or y t idle).spooled) e ∙ field_put (λ y. y.spooled) r.servers.items s t v lt ∙ cond_kept r.servers.items (λ y. y.spooled) s t v.spooled p
set_waiting r r2 s root v HeldLegs e eh er ey w p lt = eh
set_waiting r r2 s root v RefusedLegs e eh er ey w p lt = er
set_waiting r r2 s root v LegsInReplay e eh er ey w p lt = ey

pub set_spooled : (r r2 : Roots) (s : ℕ) (root : Option ℕ) (v : Server) (h : Group) → r2.servers.items ≡ slice_set r.servers.items s v → r2.held ≡ r.held → r2.refused ≡ r.refused → r2.in_replay ≡ r.in_replay
    → v.spooled ≡ root → v.waiting ≡ (server_at r s).waiting → s < length r.servers.items → root_of r2 h ≡ put_root (root_of r) (SpooledFor s) root h
set_spooled r r2 s root v (SpooledFor t) e eh er ey w p lt = ap (λ y. (get_or y t idle).spooled) e ∙ field_put (λ y. y.spooled) r.servers.items s t v lt ∙ ap (λ y. cond (nat_eq s t) y (server_at r t).spooled) w
set_spooled r r2 s root v (WaitingFor t) e eh er ey w p lt = ap (λ y. (get_or y t idle).waiting) e ∙ field_put (λ y. y.waiting) r.servers.items s t v lt ∙ cond_kept r.servers.items (λ y. y.waiting) s t v.waiting p
set_spooled r r2 s root v HeldLegs e eh er ey w p lt = eh
set_spooled r r2 s root v RefusedLegs e eh er ey w p lt = er
set_spooled r r2 s root v LegsInReplay e eh er ey w p lt = ey
