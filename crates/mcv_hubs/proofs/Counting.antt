-- What is counted at one of eight hubs.
use Rattle.std.proofs.Common.{◌≡◌, ◌∙◌, ◌+◌, ℕ, zero, suc, List, [], ◌∷◌, Option, Some, None, Result, Ok, Err, ap, refl, sym}
use Rattle.mcv_base.specs.declared.request.CallId.{CallId}
use Rattle.mcv_base.specs.declared.request.Request.{Request}
use Rattle.mcv_core.specs.Events.{IsTaken}
use Rattle.mcv_core.specs.View.{core_view}
use Rattle.mcv_core.specs.declared.fault.CoreFault.{CoreFault}
use Rattle.mcv_hub.proofs.Books.{begun_counts, begun_takes, refused_counts, taken_begins, taken_counts, unbegun_counts, untaken_counts}
use Rattle.mcv_hub.specs.Events.{IsHubEvent, taken_part}
use Rattle.mcv_hub.specs.Gate.{IsHubBegun}
use Rattle.mcv_hub.specs.State.{HubView}
use Rattle.mcv_hub.specs.declared.seat.TakenReply.{TakenReply}
use Rattle.mcv_hubs.specs.Counts.{Tally, begun_by, change_at, taken_by, tally}

-- ---- by one seat

pub same_tally : (a a2 t t2 p p2 q q2 : ℕ) → a2 ≡ a → t2 ≡ t → p2 ≡ p → q2 ≡ q → tally a2 t2 p2 q2 ≡ tally a t p q
same_tally a a2 t t2 p p2 q q2 begun taken begun_parts taken_parts =
    ap (λ x. tally x t2 p2 q2) begun ∙ ap (λ x. tally a x p2 q2) taken ∙ ap (λ x. tally a t x q2) begun_parts ∙ ap (λ x. tally a t p x) taken_parts

module _ (a a2 t t2 p p2 q q2 : ℕ) (old new : HubView) (begun : a2 + old.begun ≡ a + new.begun) (taken : t2 + old.taken ≡ t + new.taken) (parts : (p2 ≡ p) × (q2 ≡ q)) where
  pub begun_tally : (request : Request) (key : ℕ) (r : Result CallId CoreFault) → IsHubBegun old request key r new → tally a2 t2 p2 q2 ≡ begun_by r (tally a t p q)
  begun_tally request key (Ok call) h = same_tally (a + 1) a2 t t2 p p2 q q2 (begun_counts request key old new (Ok call) a a2 h begun) (begun_takes request key old new (Ok call) t t2 h taken) parts.0 parts.1
  begun_tally request key (Err fault) h = same_tally a a2 t t2 p p2 q q2 (unbegun_counts request key old new (Err fault) a a2 h begun) (begun_takes request key old new (Err fault) t t2 h taken) parts.0 parts.1

  pub taken_tally : (call : CallId) (r : Result (Option TakenReply) CoreFault) → IsHubEvent (IsTaken (core_view old.core) call (taken_part r)) old new → tally a2 t2 p2 q2 ≡ taken_by r (tally a t p q)
  taken_tally call (Ok (Some reply)) h = same_tally a a2 (t + 1) t2 p p2 q q2 (taken_begins call old new (Ok (Some reply)) a a2 h begun) (taken_counts call old new (Ok (Some reply)) t t2 h taken) parts.0 parts.1
  taken_tally call (Ok None) h = same_tally a a2 t t2 p p2 q q2 (taken_begins call old new (Ok None) a a2 h begun) (untaken_counts call old new (Ok None) t t2 h taken) parts.0 parts.1
  taken_tally call (Err fault) h = same_tally a a2 t t2 p p2 q q2 (taken_begins call old new (Err fault) a a2 h begun) (refused_counts call old new (Err fault) t t2 h taken) parts.0 parts.1

-- ---- at one hub of the eight

module _ (t0 t1 t2 t3 t4 t5 t6 t7 n : Tally) (f : Tally → Tally) (hub : ℕ) where
  pub at0 : hub ≡ 0 → n ≡ f t0 → n ∷ t1 ∷ t2 ∷ t3 ∷ t4 ∷ t5 ∷ t6 ∷ t7 ∷ [] ≡ change_at hub f (t0 ∷ t1 ∷ t2 ∷ t3 ∷ t4 ∷ t5 ∷ t6 ∷ t7 ∷ [])
  at0 e s = ap (λ x. x ∷ t1 ∷ t2 ∷ t3 ∷ t4 ∷ t5 ∷ t6 ∷ t7 ∷ []) s ∙ sym (ap (λ h. change_at h f (t0 ∷ t1 ∷ t2 ∷ t3 ∷ t4 ∷ t5 ∷ t6 ∷ t7 ∷ [])) e)

  pub at1 : hub ≡ 1 → n ≡ f t1 → t0 ∷ n ∷ t2 ∷ t3 ∷ t4 ∷ t5 ∷ t6 ∷ t7 ∷ [] ≡ change_at hub f (t0 ∷ t1 ∷ t2 ∷ t3 ∷ t4 ∷ t5 ∷ t6 ∷ t7 ∷ [])
  at1 e s = ap (λ x. t0 ∷ x ∷ t2 ∷ t3 ∷ t4 ∷ t5 ∷ t6 ∷ t7 ∷ []) s ∙ sym (ap (λ h. change_at h f (t0 ∷ t1 ∷ t2 ∷ t3 ∷ t4 ∷ t5 ∷ t6 ∷ t7 ∷ [])) e)

  pub at2 : hub ≡ 2 → n ≡ f t2 → t0 ∷ t1 ∷ n ∷ t3 ∷ t4 ∷ t5 ∷ t6 ∷ t7 ∷ [] ≡ change_at hub f (t0 ∷ t1 ∷ t2 ∷ t3 ∷ t4 ∷ t5 ∷ t6 ∷ t7 ∷ [])
  at2 e s = ap (λ x. t0 ∷ t1 ∷ x ∷ t3 ∷ t4 ∷ t5 ∷ t6 ∷ t7 ∷ []) s ∙ sym (ap (λ h. change_at h f (t0 ∷ t1 ∷ t2 ∷ t3 ∷ t4 ∷ t5 ∷ t6 ∷ t7 ∷ [])) e)

  pub at3 : hub ≡ 3 → n ≡ f t3 → t0 ∷ t1 ∷ t2 ∷ n ∷ t4 ∷ t5 ∷ t6 ∷ t7 ∷ [] ≡ change_at hub f (t0 ∷ t1 ∷ t2 ∷ t3 ∷ t4 ∷ t5 ∷ t6 ∷ t7 ∷ [])
  at3 e s = ap (λ x. t0 ∷ t1 ∷ t2 ∷ x ∷ t4 ∷ t5 ∷ t6 ∷ t7 ∷ []) s ∙ sym (ap (λ h. change_at h f (t0 ∷ t1 ∷ t2 ∷ t3 ∷ t4 ∷ t5 ∷ t6 ∷ t7 ∷ [])) e)

  pub at4 : hub ≡ 4 → n ≡ f t4 → t0 ∷ t1 ∷ t2 ∷ t3 ∷ n ∷ t5 ∷ t6 ∷ t7 ∷ [] ≡ change_at hub f (t0 ∷ t1 ∷ t2 ∷ t3 ∷ t4 ∷ t5 ∷ t6 ∷ t7 ∷ [])
  at4 e s = ap (λ x. t0 ∷ t1 ∷ t2 ∷ t3 ∷ x ∷ t5 ∷ t6 ∷ t7 ∷ []) s ∙ sym (ap (λ h. change_at h f (t0 ∷ t1 ∷ t2 ∷ t3 ∷ t4 ∷ t5 ∷ t6 ∷ t7 ∷ [])) e)

  pub at5 : hub ≡ 5 → n ≡ f t5 → t0 ∷ t1 ∷ t2 ∷ t3 ∷ t4 ∷ n ∷ t6 ∷ t7 ∷ [] ≡ change_at hub f (t0 ∷ t1 ∷ t2 ∷ t3 ∷ t4 ∷ t5 ∷ t6 ∷ t7 ∷ [])
  at5 e s = ap (λ x. t0 ∷ t1 ∷ t2 ∷ t3 ∷ t4 ∷ x ∷ t6 ∷ t7 ∷ []) s ∙ sym (ap (λ h. change_at h f (t0 ∷ t1 ∷ t2 ∷ t3 ∷ t4 ∷ t5 ∷ t6 ∷ t7 ∷ [])) e)

  pub at6 : hub ≡ 6 → n ≡ f t6 → t0 ∷ t1 ∷ t2 ∷ t3 ∷ t4 ∷ t5 ∷ n ∷ t7 ∷ [] ≡ change_at hub f (t0 ∷ t1 ∷ t2 ∷ t3 ∷ t4 ∷ t5 ∷ t6 ∷ t7 ∷ [])
  at6 e s = ap (λ x. t0 ∷ t1 ∷ t2 ∷ t3 ∷ t4 ∷ t5 ∷ x ∷ t7 ∷ []) s ∙ sym (ap (λ h. change_at h f (t0 ∷ t1 ∷ t2 ∷ t3 ∷ t4 ∷ t5 ∷ t6 ∷ t7 ∷ [])) e)

  pub at7 : hub ≡ 7 → n ≡ f t7 → t0 ∷ t1 ∷ t2 ∷ t3 ∷ t4 ∷ t5 ∷ t6 ∷ n ∷ [] ≡ change_at hub f (t0 ∷ t1 ∷ t2 ∷ t3 ∷ t4 ∷ t5 ∷ t6 ∷ t7 ∷ [])
  at7 e s = ap (λ x. t0 ∷ t1 ∷ t2 ∷ t3 ∷ t4 ∷ t5 ∷ t6 ∷ x ∷ []) s ∙ sym (ap (λ h. change_at h f (t0 ∷ t1 ∷ t2 ∷ t3 ∷ t4 ∷ t5 ∷ t6 ∷ t7 ∷ [])) e)

-- at none
pub at_none : (f : Tally → Tally) → ((t : Tally) → f t ≡ t) → (hub : ℕ) (ts : List Tally) → ts ≡ change_at hub f ts
at_none f same zero [] = refl
at_none f same (suc hub) [] = refl
at_none f same zero (t ∷ ts) = ap (λ x. x ∷ ts) (sym (same t))
at_none f same (suc hub) (t ∷ ts) = ap (λ xs. t ∷ xs) (at_none f same hub ts)

-- at each
pub same_eight : (a0 a1 a2 a3 a4 a5 a6 a7 b0 b1 b2 b3 b4 b5 b6 b7 : Tally) → a0 ≡ b0 → a1 ≡ b1 → a2 ≡ b2 → a3 ≡ b3 → a4 ≡ b4 → a5 ≡ b5 → a6 ≡ b6 → a7 ≡ b7 → a0 ∷ a1 ∷ a2 ∷ a3 ∷ a4 ∷ a5 ∷ a6 ∷ a7 ∷ [] ≡ b0 ∷ b1 ∷ b2 ∷ b3 ∷ b4 ∷ b5 ∷ b6 ∷ b7 ∷ []
same_eight a0 a1 a2 a3 a4 a5 a6 a7 b0 b1 b2 b3 b4 b5 b6 b7 e0 e1 e2 e3 e4 e5 e6 e7 =
    ap (λ x. x ∷ a1 ∷ a2 ∷ a3 ∷ a4 ∷ a5 ∷ a6 ∷ a7 ∷ []) e0 ∙ ap (λ x. b0 ∷ x ∷ a2 ∷ a3 ∷ a4 ∷ a5 ∷ a6 ∷ a7 ∷ []) e1 ∙ ap (λ x. b0 ∷ b1 ∷ x ∷ a3 ∷ a4 ∷ a5 ∷ a6 ∷ a7 ∷ []) e2 ∙ ap (λ x. b0 ∷ b1 ∷ b2 ∷ x ∷ a4 ∷ a5 ∷ a6 ∷ a7 ∷ []) e3 ∙ ap (λ x. b0 ∷ b1 ∷ b2 ∷ b3 ∷ x ∷ a5 ∷ a6 ∷ a7 ∷ []) e4 ∙ ap (λ x. b0 ∷ b1 ∷ b2 ∷ b3 ∷ b4 ∷ x ∷ a6 ∷ a7 ∷ []) e5 ∙ ap (λ x. b0 ∷ b1 ∷ b2 ∷ b3 ∷ b4 ∷ b5 ∷ x ∷ a7 ∷ []) e6 ∙ ap (λ x. b0 ∷ b1 ∷ b2 ∷ b3 ∷ b4 ∷ b5 ∷ b6 ∷ x ∷ []) e7
