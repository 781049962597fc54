-- A covered plan is justified, and the other way round.
use Rattle.std.proofs.Common.{◌≡◌, ◌≢◌, ◌⊎◌, ◌↔◌, inl, inr, ⊎_elim, ℕ, ◌<◌, true, List, length, refl, ap, ◌∙◌, subst}
use Rattle.std.specs.Prelude.{slice_index}
use Rattle.mcv_base.specs.Operation.{is_counting, shows_value}
use Rattle.mcv_base.specs.declared.operation.Op.{Op}
use Rattle.mcv_base.specs.declared.reply.Outcome.{Outcome}
use Rattle.mcv_base.specs.declared.reply.Outcome.TheVariants.{Good, Soft, Error}
use Rattle.mcv_route.specs.Outcomes.{Outcomes, Choice, IsChoice}
use Rattle.mcv_rules.specs.Plan.{Leg, Plan, HitAt, server}
use Rattle.mcv_rules.specs.Soundness.{IsSound, IsForDelete}
use Rattle.mcv_rules.proofs.Sending.{Sends, IsReachable}
use Rattle.mcv_symbolic.specs.Structure.{if_all, Hits}
use Rattle.mcv_symbolic.proofs.JustifiedPlans.{IsJustified}
use Rattle.mcv_symbolic.proofs.SetsAreLeast
use Rattle.mcv_symbolic.proofs.SetsAreLeast.{IsDone}
use Rattle.mcv_symbolic.proofs.RepliesSaySent
use Rattle.mcv_symbolic.proofs.Marks
use Rattle.mcv_symbolic.proofs.Symbols

abbrev pub IsReadable : Plan → Choice → ℕ → Type 0
IsReadable t c x = (o : Outcomes) × (l : Leg) × IsReachable t c o × HitAt t o l × (server c l ≡ x)

abbrev pub IsSent : Plan → Choice → Outcomes → ℕ → Type 0
IsSent t c o x = (l : Leg) × Sends t c o l × ((is_counting l.mark) ≡ true) × (server c l ≡ x)

-- under every choice, a delete that is done was sent to each server that can be read
abbrev pub IsCovered : List ℕ → (Op → Plan) → Plan → Type 0
IsCovered sizes read delete =
    (c : Choice) (o : Outcomes) → IsChoice sizes c → IsReachable delete c o → IsDone delete o → (x : ℕ) (op : Op) → shows_value op ≡ true → IsReadable (read op) c x → IsSent delete c o x

pub error_or_not : (x : Outcome) → (x ≡ Error) ⊎ (x ≢ Error)
error_or_not Good = inr (λ e. cc)
error_or_not Soft = inr (λ e. cc)
error_or_not Error = inl refl

readable_hits : (sizes : List ℕ) (t : Plan) (c : Choice) (x : ℕ) → IsSound sizes t → IsReadable t c x → (l : Leg) × Hits t l × (l.symbol < length sizes) × (server c l ≡ x)
readable_hits sizes t c x s r =
    let h = (SetsAreLeast.hits_are_exact t c r.1 s.2 s.3).0 (r.0, r.2, r.3) in
    (r.1, h, Marks.hits_sized sizes t r.1 s.0 h, r.4)

hits_readable : (sizes : List ℕ) (t : Plan) (c : Choice) (l : Leg) → IsSound sizes t → Hits t l → IsReadable t c (server c l)
hits_readable sizes t c l s h = let r = (SetsAreLeast.hits_are_exact t c l s.2 s.3).1 h in (r.0, l, r.1, r.2, refl)

pub covered_on_plans : (sizes : List ℕ) (read : Op → Plan) (delete : Plan) → ((op : Op) → IsSound sizes (read op)) → IsSound sizes delete → IsForDelete delete → IsCovered sizes read delete ↔ IsJustified sizes read delete
covered_on_plans sizes read delete sound d w = (down, up)
  where
    down : IsCovered sizes read delete → IsJustified sizes read delete
    down covered =
        elim (error_or_not (if_all Good delete)) [
          | inl e ↦ inl e
          | inr ne ↦ inr (λ l i op shows h lt.
              let size = Marks.hits_sized sizes (read op) l (sound op).0 h in
              (Symbols.symbols_are_independent sizes delete l i d.0 size lt).0 (λ c is own.
              let r = SetsAreLeast.acknowledged_is_least delete c w d.2 in
              let sent = covered c r.0 is r.1 (if_all Good delete, r.2, ne) (server c l) op shows (hits_readable sizes (read op) c l (sound op) h) in
              let counts = Marks.sent_counts delete c r.0 sent.0 d.1 sent.1 sent.2 in
              (sent.0, r.3 sent.0 counts, sent.3 ∙ ap (λ j. slice_index l.servers j) own)))
        ]

    found : IsJustified sizes read delete → (c : Choice) (o : Outcomes) → IsChoice sizes c → IsReachable delete c o → IsDone delete o → (l : Leg) (op : Op) → shows_value op ≡ true → Hits (read op) l → l.symbol < length sizes → IsSent delete c o (server c l)
    found justified c o is r done l op shows h size =
        elim justified [
          | inl e ↦ absurd (done.2 (RepliesSaySent.always_error delete o done.0 w e done.1))
          | inr all ↦
              let m = (Symbols.symbols_are_independent sizes delete l (c l.symbol) d.0 size (is l.symbol size)).1 (all l (c l.symbol) op shows h (is l.symbol size)) c is refl in
              let counts = RepliesSaySent.acknowledged_is_sent delete o done.0 m.0 w done.1 m.1 in
              let sent = Marks.counts_sent delete c o m.0 d.1 counts in
              (m.0, sent.0, sent.1, m.2)
        ]

    up : IsJustified sizes read delete → IsCovered sizes read delete
    up justified c o is r done x op shows readable =
        let h = readable_hits sizes (read op) c x (sound op) readable in
        subst (λ y. IsSent delete c o y) h.3 (found justified c o is r done h.0 op shows h.1 h.2)
