-- One choice has what each symbol has by itself.
use Rattle.std.proofs.Common.{◌≡◌, ◌⊎◌, ◌↔◌, inl, inr, ℕ, zero, suc, ◌<◌, true, false, nat_eq, List, [], ◌∷◌, length, refl, sym, ap, ◌∙◌, subst, arith}
use Rattle.std.specs.Prelude.{slice_index}
use Rattle.std.proofs.lemmas.Bool.{cases_eq, eq-eqb, ne_eqb}
use Rattle.mcv_route.specs.Outcomes.{Choice}
use Rattle.mcv_rules.specs.Plan.{Leg, Plan}
use Rattle.mcv_rules.specs.Soundness.{IsSized}
use Rattle.mcv_rules.proofs.ListMembers
use Rattle.mcv_symbolic.specs.SetLists.{acknowledged}
use Rattle.mcv_symbolic.proofs.JustifiedPlans.{IsAnswered, IsAlwaysAnswered}
use Rattle.mcv_symbolic.proofs.Marks

-- a leg of this symbol with the server x at index j
abbrev HasServer : List Leg → ℕ → ℕ → ℕ → Type 0
HasServer ls s j x = (m : Leg) × ListMembers.Among ls m × (m.symbol ≡ s) × (slice_index m.servers j ≡ x)

has_or_not : (ls : List Leg) (s j x : ℕ) → HasServer ls s j x ⊎ (HasServer ls s j x → ⊥)
has_or_not [] s j x = inr (λ h. h.1)
has_or_not (l ∷ ls) s j x =
    elim (has_or_not ls s j x) [
      | inl h ↦ inl (h.0, inr h.1, h.2, h.3)
      | inr n ↦
          elim (cases_eq l.symbol s) [
            | inl e ↦
                elim (cases_eq (slice_index l.servers j) x) [
                  | inl f ↦ inl (l, inl refl, e, f)
                  | inr f ↦ inr (λ h. elim h.1 [ inl w ↦ f (ap (λ m. slice_index m.servers j) w ∙ h.3) | inr w ↦ n (h.0, w, h.2, h.3) ])
                ]
            | inr f ↦ inr (λ h. elim h.1 [ inl w ↦ f (ap (λ m. m.symbol) w ∙ h.2) | inr w ↦ n (h.0, w, h.2, h.3) ])
          ]
    ]

-- an index that may be taken, at which no leg of the symbol has the server
abbrev IsFree : List Leg → (own i x s j : ℕ) → Type 0
IsFree ls own i x s j = (s ≡ own → j ≡ i) × (HasServer ls s j x → ⊥)

-- at each index below n that may be taken a leg of the symbol has the server
abbrev IsFull : List Leg → (own i x s n : ℕ) → Type 0
IsFull ls own i x s n = (j : ℕ) → j < n → (s ≡ own → j ≡ i) → HasServer ls s j x

may_or_not : (own i s j : ℕ) → (s ≡ own → j ≡ i) ⊎ ((s ≡ own → j ≡ i) → ⊥)
may_or_not own i s j =
    elim (cases_eq j i) [
      | inl e ↦ inl (λ w. e)
      | inr f ↦ elim (cases_eq s own) [ inl e ↦ inr (λ g. f (g e)) | inr g ↦ inl (λ e. absurd (g e)) ]
    ]

-- the least free index below n, or there is none
free_or_full : (ls : List Leg) (own i x s n : ℕ) → ((j : ℕ) × (j < n) × IsFree ls own i x s j) ⊎ IsFull ls own i x s n
free_or_full ls own i x s zero = inr (λ j lt. absurd (omega arith))
free_or_full ls own i x s (suc n) =
    elim (free_or_full ls own i x s n) [
      | inl h ↦ inl (h.0, omega (arith, h.1), h.2)
      | inr h ↦
          elim (may_or_not own i s n) [
            | inl may ↦
                elim (has_or_not ls s n x) [
                  | inl has ↦ inr (λ j lt w. elim (cases_eq j n) [ inl e ↦ subst (λ k. HasServer ls s k x) (sym e) has | inr ne ↦ h j (omega (arith, lt, ne)) w ])
                  | inr free ↦ inl (n, omega arith, (may, free))
                ]
            | inr never ↦ inr (λ j lt w. elim (cases_eq j n) [ inl e ↦ absurd (never (λ v. sym e ∙ w v)) | inr ne ↦ h j (omega (arith, lt, ne)) w ])
          ]
    ]

-- a free index for each symbol below n, or a full symbol
frees_or_full : (ls : List Leg) (own i x : ℕ) (sizes : List ℕ) (n : ℕ) →
    ((c : Choice) × ((s : ℕ) → s < n → (c s < slice_index sizes s) × IsFree ls own i x s (c s))) ⊎ ((s : ℕ) × (s < n) × IsFull ls own i x s (slice_index sizes s))
frees_or_full ls own i x sizes zero = inl ((λ s. 0), λ s lt. absurd (omega arith))
frees_or_full ls own i x sizes (suc n) =
    elim (free_or_full ls own i x n (slice_index sizes n)) [
      | inr full ↦ inr (n, omega arith, full)
      | inl free ↦
          elim (frees_or_full ls own i x sizes n) [
            | inr h ↦ inr (h.0, omega (arith, h.1), h.2)
            | inl h ↦ inl (
              changed h.0 n free.0,
              λ s lt. elim (cases_eq s n) [
                | inl e ↦ subst (λ k. (changed h.0 n free.0 k < slice_index sizes k) × IsFree ls own i x k (changed h.0 n free.0 k)) (sym e)
                    (subst (λ j. (j < slice_index sizes n) × IsFree ls own i x n j) (sym (changed_at h.0 n free.0)) (free.1, free.2))
                | inr ne ↦ subst (λ j. (j < slice_index sizes s) × IsFree ls own i x s j) (sym (changed_other h.0 n free.0 s ne)) (h.1 s (omega (arith, lt, ne)))
              ],
            )
          ]
    ]
  where
    changed : Choice → ℕ → ℕ → Choice
    changed c n j s = elim (nat_eq s n) [ true ↦ j | false ↦ c s ]

    changed_at : (c : Choice) (n j : ℕ) → changed c n j n ≡ j
    changed_at c n j = ap (λ b. elim b [ true ↦ j | false ↦ c n ]) (eq-eqb n n refl)

    changed_other : (c : Choice) (n j s : ℕ) → (s ≡ n → ⊥) → changed c n j s ≡ c s
    changed_other c n j s ne = ap (λ b. elim b [ true ↦ j | false ↦ c s ]) (ne_eqb s n ne)

pub symbols_are_independent : (sizes : List ℕ) (delete : Plan) (leaf : Leg) (i : ℕ) → IsSized sizes delete → leaf.symbol < length sizes → i < slice_index sizes leaf.symbol → IsAlwaysAnswered sizes delete leaf i ↔ IsAnswered sizes delete leaf i
symbols_are_independent sizes delete leaf i z lt below = (
  λ always.
      let x = slice_index leaf.servers i in
      elim (frees_or_full (acknowledged delete) leaf.symbol i x sizes (length sizes)) [
        | inl free ↦
            let m = always free.0 (λ s w. (free.1 s w).0) ((free.1 leaf.symbol lt).1.0 refl) in
            let f = free.1 m.0.symbol (Marks.acknowledged_sized sizes delete m.0 z m.1) in
            absurd (f.1.1 (m.0, Marks.is_acknowledged delete m.0 m.1, refl, m.2))
        | inr full ↦ (full.0, full.1, λ j w may. let m = full.2 j w may in (m.0, Marks.acknowledged_is delete m.0 m.1, m.2, m.3))
      ],
  λ answered c is own.
      let m = answered.2 (c answered.0) (is answered.0 answered.1) (λ e. ap c e ∙ own) in
      (m.0, m.1, ap (λ s. slice_index m.0.servers (c s)) m.2 ∙ m.3),
)
