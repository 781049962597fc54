-- The desks at eight hubs, of which one changes.
use Rattle.slab.specs.Slab.{Slab}
use Rattle.std.proofs.Common.{◌≡◌, ◌∙◌, ◌<◌, ◌≤◌, ℕ, zero, suc, None, ap, arith, refl, subst, sym}
use Rattle.mcv_turn.specs.OpenRequests.{AreSameOpen, open_at}
use Rattle.mcv_turn.specs.Question.{QuestionView}
use Rattle.mcv_desks.specs.Asked.{AtOne, eight}

module _ {X : Type 0} (x0 x1 x2 x3 x4 x5 x6 x7 n : X) where
  others0 : (other : ℕ) → (other ≡ 0 → ⊥) → eight n x1 x2 x3 x4 x5 x6 x7 other ≡ eight x0 x1 x2 x3 x4 x5 x6 x7 other
  others0 zero apart = absurd (apart refl)
  others0 (suc k) apart = refl

  others1 : (other : ℕ) → (other ≡ 1 → ⊥) → eight x0 n x2 x3 x4 x5 x6 x7 other ≡ eight x0 x1 x2 x3 x4 x5 x6 x7 other
  others1 zero apart = refl
  others1 (suc zero) apart = absurd (apart refl)
  others1 (suc (suc k)) apart = refl

  others2 : (other : ℕ) → (other ≡ 2 → ⊥) → eight x0 x1 n x3 x4 x5 x6 x7 other ≡ eight x0 x1 x2 x3 x4 x5 x6 x7 other
  others2 zero apart = refl
  others2 (suc zero) apart = refl
  others2 (suc (suc zero)) apart = absurd (apart refl)
  others2 (suc (suc (suc k))) apart = refl

  others3 : (other : ℕ) → (other ≡ 3 → ⊥) → eight x0 x1 x2 n x4 x5 x6 x7 other ≡ eight x0 x1 x2 x3 x4 x5 x6 x7 other
  others3 zero apart = refl
  others3 (suc zero) apart = refl
  others3 (suc (suc zero)) apart = refl
  others3 (suc (suc (suc zero))) apart = absurd (apart refl)
  others3 (suc (suc (suc (suc k)))) apart = refl

  others4 : (other : ℕ) → (other ≡ 4 → ⊥) → eight x0 x1 x2 x3 n x5 x6 x7 other ≡ eight x0 x1 x2 x3 x4 x5 x6 x7 other
  others4 zero apart = refl
  others4 (suc zero) apart = refl
  others4 (suc (suc zero)) apart = refl
  others4 (suc (suc (suc zero))) apart = refl
  others4 (suc (suc (suc (suc zero)))) apart = absurd (apart refl)
  others4 (suc (suc (suc (suc (suc k))))) apart = refl

  others5 : (other : ℕ) → (other ≡ 5 → ⊥) → eight x0 x1 x2 x3 x4 n x6 x7 other ≡ eight x0 x1 x2 x3 x4 x5 x6 x7 other
  others5 zero apart = refl
  others5 (suc zero) apart = refl
  others5 (suc (suc zero)) apart = refl
  others5 (suc (suc (suc zero))) apart = refl
  others5 (suc (suc (suc (suc zero)))) apart = refl
  others5 (suc (suc (suc (suc (suc zero))))) apart = absurd (apart refl)
  others5 (suc (suc (suc (suc (suc (suc k)))))) apart = refl

  others6 : (other : ℕ) → (other ≡ 6 → ⊥) → eight x0 x1 x2 x3 x4 x5 n x7 other ≡ eight x0 x1 x2 x3 x4 x5 x6 x7 other
  others6 zero apart = refl
  others6 (suc zero) apart = refl
  others6 (suc (suc zero)) apart = refl
  others6 (suc (suc (suc zero))) apart = refl
  others6 (suc (suc (suc (suc zero)))) apart = refl
  others6 (suc (suc (suc (suc (suc zero))))) apart = refl
  others6 (suc (suc (suc (suc (suc (suc zero)))))) apart = absurd (apart refl)
  others6 (suc (suc (suc (suc (suc (suc (suc k))))))) apart = refl

-- the one of this number changes, and no other one
module _ (change : Slab QuestionView → Slab QuestionView → Type 0) (q0 q1 q2 q3 q4 q5 q6 q7 n : Slab QuestionView) (hub : ℕ) where
  pub at0 : hub ≡ 0 → change q0 n → AtOne change hub (eight q0 q1 q2 q3 q4 q5 q6 q7) (eight n q1 q2 q3 q4 q5 q6 q7)
  at0 e h = record { here = subst (λ k. change (eight q0 q1 q2 q3 q4 q5 q6 q7 k) (eight n q1 q2 q3 q4 q5 q6 q7 k)) (sym e) h; others = λ other apart within. others0 q0 q1 q2 q3 q4 q5 q6 q7 n other (λ same. apart (same ∙ sym e)) }

  pub at1 : hub ≡ 1 → change q1 n → AtOne change hub (eight q0 q1 q2 q3 q4 q5 q6 q7) (eight q0 n q2 q3 q4 q5 q6 q7)
  at1 e h = record { here = subst (λ k. change (eight q0 q1 q2 q3 q4 q5 q6 q7 k) (eight q0 n q2 q3 q4 q5 q6 q7 k)) (sym e) h; others = λ other apart within. others1 q0 q1 q2 q3 q4 q5 q6 q7 n other (λ same. apart (same ∙ sym e)) }

  pub at2 : hub ≡ 2 → change q2 n → AtOne change hub (eight q0 q1 q2 q3 q4 q5 q6 q7) (eight q0 q1 n q3 q4 q5 q6 q7)
  at2 e h = record { here = subst (λ k. change (eight q0 q1 q2 q3 q4 q5 q6 q7 k) (eight q0 q1 n q3 q4 q5 q6 q7 k)) (sym e) h; others = λ other apart within. others2 q0 q1 q2 q3 q4 q5 q6 q7 n other (λ same. apart (same ∙ sym e)) }

  pub at3 : hub ≡ 3 → change q3 n → AtOne change hub (eight q0 q1 q2 q3 q4 q5 q6 q7) (eight q0 q1 q2 n q4 q5 q6 q7)
  at3 e h = record { here = subst (λ k. change (eight q0 q1 q2 q3 q4 q5 q6 q7 k) (eight q0 q1 q2 n q4 q5 q6 q7 k)) (sym e) h; others = λ other apart within. others3 q0 q1 q2 q3 q4 q5 q6 q7 n other (λ same. apart (same ∙ sym e)) }

  pub at4 : hub ≡ 4 → change q4 n → AtOne change hub (eight q0 q1 q2 q3 q4 q5 q6 q7) (eight q0 q1 q2 q3 n q5 q6 q7)
  at4 e h = record { here = subst (λ k. change (eight q0 q1 q2 q3 q4 q5 q6 q7 k) (eight q0 q1 q2 q3 n q5 q6 q7 k)) (sym e) h; others = λ other apart within. others4 q0 q1 q2 q3 q4 q5 q6 q7 n other (λ same. apart (same ∙ sym e)) }

  pub at5 : hub ≡ 5 → change q5 n → AtOne change hub (eight q0 q1 q2 q3 q4 q5 q6 q7) (eight q0 q1 q2 q3 q4 n q6 q7)
  at5 e h = record { here = subst (λ k. change (eight q0 q1 q2 q3 q4 q5 q6 q7 k) (eight q0 q1 q2 q3 q4 n q6 q7 k)) (sym e) h; others = λ other apart within. others5 q0 q1 q2 q3 q4 q5 q6 q7 n other (λ same. apart (same ∙ sym e)) }

  pub at6 : hub ≡ 6 → change q6 n → AtOne change hub (eight q0 q1 q2 q3 q4 q5 q6 q7) (eight q0 q1 q2 q3 q4 q5 n q7)
  at6 e h = record { here = subst (λ k. change (eight q0 q1 q2 q3 q4 q5 q6 q7 k) (eight q0 q1 q2 q3 q4 q5 n q7 k)) (sym e) h; others = λ other apart within. others6 q0 q1 q2 q3 q4 q5 q6 q7 n other (λ same. apart (same ∙ sym e)) }

  -- the last one stands for all numbers behind it
  others7 : (other : ℕ) → (other ≡ 7 → ⊥) → other < 8 → eight q0 q1 q2 q3 q4 q5 q6 n other ≡ eight q0 q1 q2 q3 q4 q5 q6 q7 other
  others7 zero apart within = refl
  others7 (suc zero) apart within = refl
  others7 (suc (suc zero)) apart within = refl
  others7 (suc (suc (suc zero))) apart within = refl
  others7 (suc (suc (suc (suc zero)))) apart within = refl
  others7 (suc (suc (suc (suc (suc zero))))) apart within = refl
  others7 (suc (suc (suc (suc (suc (suc zero)))))) apart within = refl
  others7 (suc (suc (suc (suc (suc (suc (suc zero))))))) apart within = absurd (apart refl)
  others7 (suc (suc (suc (suc (suc (suc (suc (suc k)))))))) apart within = absurd (omega (arith, within))

  pub at7 : hub ≡ 7 → change q7 n → AtOne change hub (eight q0 q1 q2 q3 q4 q5 q6 q7) (eight q0 q1 q2 q3 q4 q5 q6 n)
  at7 e h = record { here = subst (λ k. change (eight q0 q1 q2 q3 q4 q5 q6 q7 k) (eight q0 q1 q2 q3 q4 q5 q6 n k)) (sym e) h; others = λ other apart within. others7 other (λ same. apart (same ∙ sym e)) within }

-- in each the same requests are open, if they are in the one that changes
module _ (q0 q1 q2 q3 q4 q5 q6 q7 n : Slab QuestionView) where
  pub open0 : AreSameOpen q0 n → (hub : ℕ) → AreSameOpen (eight q0 q1 q2 q3 q4 q5 q6 q7 hub) (eight n q1 q2 q3 q4 q5 q6 q7 hub)
  open0 same zero = same
  open0 same (suc zero) = λ number. refl
  open0 same (suc (suc zero)) = λ number. refl
  open0 same (suc (suc (suc zero))) = λ number. refl
  open0 same (suc (suc (suc (suc zero)))) = λ number. refl
  open0 same (suc (suc (suc (suc (suc zero))))) = λ number. refl
  open0 same (suc (suc (suc (suc (suc (suc zero)))))) = λ number. refl
  open0 same (suc (suc (suc (suc (suc (suc (suc k))))))) = λ number. refl

  pub open1 : AreSameOpen q1 n → (hub : ℕ) → AreSameOpen (eight q0 q1 q2 q3 q4 q5 q6 q7 hub) (eight q0 n q2 q3 q4 q5 q6 q7 hub)
  open1 same zero = λ number. refl
  open1 same (suc zero) = same
  open1 same (suc (suc zero)) = λ number. refl
  open1 same (suc (suc (suc zero))) = λ number. refl
  open1 same (suc (suc (suc (suc zero)))) = λ number. refl
  open1 same (suc (suc (suc (suc (suc zero))))) = λ number. refl
  open1 same (suc (suc (suc (suc (suc (suc zero)))))) = λ number. refl
  open1 same (suc (suc (suc (suc (suc (suc (suc k))))))) = λ number. refl

  pub open2 : AreSameOpen q2 n → (hub : ℕ) → AreSameOpen (eight q0 q1 q2 q3 q4 q5 q6 q7 hub) (eight q0 q1 n q3 q4 q5 q6 q7 hub)
  open2 same zero = λ number. refl
  open2 same (suc zero) = λ number. refl
  open2 same (suc (suc zero)) = same
  open2 same (suc (suc (suc zero))) = λ number. refl
  open2 same (suc (suc (suc (suc zero)))) = λ number. refl
  open2 same (suc (suc (suc (suc (suc zero))))) = λ number. refl
  open2 same (suc (suc (suc (suc (suc (suc zero)))))) = λ number. refl
  open2 same (suc (suc (suc (suc (suc (suc (suc k))))))) = λ number. refl

  pub open3 : AreSameOpen q3 n → (hub : ℕ) → AreSameOpen (eight q0 q1 q2 q3 q4 q5 q6 q7 hub) (eight q0 q1 q2 n q4 q5 q6 q7 hub)
  open3 same zero = λ number. refl
  open3 same (suc zero) = λ number. refl
  open3 same (suc (suc zero)) = λ number. refl
  open3 same (suc (suc (suc zero))) = same
  open3 same (suc (suc (suc (suc zero)))) = λ number. refl
  open3 same (suc (suc (suc (suc (suc zero))))) = λ number. refl
  open3 same (suc (suc (suc (suc (suc (suc zero)))))) = λ number. refl
  open3 same (suc (suc (suc (suc (suc (suc (suc k))))))) = λ number. refl

  pub open4 : AreSameOpen q4 n → (hub : ℕ) → AreSameOpen (eight q0 q1 q2 q3 q4 q5 q6 q7 hub) (eight q0 q1 q2 q3 n q5 q6 q7 hub)
  open4 same zero = λ number. refl
  open4 same (suc zero) = λ number. refl
  open4 same (suc (suc zero)) = λ number. refl
  open4 same (suc (suc (suc zero))) = λ number. refl
  open4 same (suc (suc (suc (suc zero)))) = same
  open4 same (suc (suc (suc (suc (suc zero))))) = λ number. refl
  open4 same (suc (suc (suc (suc (suc (suc zero)))))) = λ number. refl
  open4 same (suc (suc (suc (suc (suc (suc (suc k))))))) = λ number. refl

  pub open5 : AreSameOpen q5 n → (hub : ℕ) → AreSameOpen (eight q0 q1 q2 q3 q4 q5 q6 q7 hub) (eight q0 q1 q2 q3 q4 n q6 q7 hub)
  open5 same zero = λ number. refl
  open5 same (suc zero) = λ number. refl
  open5 same (suc (suc zero)) = λ number. refl
  open5 same (suc (suc (suc zero))) = λ number. refl
  open5 same (suc (suc (suc (suc zero)))) = λ number. refl
  open5 same (suc (suc (suc (suc (suc zero))))) = same
  open5 same (suc (suc (suc (suc (suc (suc zero)))))) = λ number. refl
  open5 same (suc (suc (suc (suc (suc (suc (suc k))))))) = λ number. refl

  pub open6 : AreSameOpen q6 n → (hub : ℕ) → AreSameOpen (eight q0 q1 q2 q3 q4 q5 q6 q7 hub) (eight q0 q1 q2 q3 q4 q5 n q7 hub)
  open6 same zero = λ number. refl
  open6 same (suc zero) = λ number. refl
  open6 same (suc (suc zero)) = λ number. refl
  open6 same (suc (suc (suc zero))) = λ number. refl
  open6 same (suc (suc (suc (suc zero)))) = λ number. refl
  open6 same (suc (suc (suc (suc (suc zero))))) = λ number. refl
  open6 same (suc (suc (suc (suc (suc (suc zero)))))) = same
  open6 same (suc (suc (suc (suc (suc (suc (suc k))))))) = λ number. refl

  pub open7 : AreSameOpen q7 n → (hub : ℕ) → AreSameOpen (eight q0 q1 q2 q3 q4 q5 q6 q7 hub) (eight q0 q1 q2 q3 q4 q5 q6 n hub)
  open7 same zero = λ number. refl
  open7 same (suc zero) = λ number. refl
  open7 same (suc (suc zero)) = λ number. refl
  open7 same (suc (suc (suc zero))) = λ number. refl
  open7 same (suc (suc (suc (suc zero)))) = λ number. refl
  open7 same (suc (suc (suc (suc (suc zero))))) = λ number. refl
  open7 same (suc (suc (suc (suc (suc (suc zero)))))) = λ number. refl
  open7 same (suc (suc (suc (suc (suc (suc (suc k))))))) = same

-- none is open in any, if none is in each
abbrev IsIdle : Slab QuestionView → Type 0
IsIdle q = (number : ℕ) → open_at q number ≡ None

pub none_open : (q0 q1 q2 q3 q4 q5 q6 q7 : Slab QuestionView) → IsIdle q0 → IsIdle q1 → IsIdle q2 → IsIdle q3 → IsIdle q4 → IsIdle q5 → IsIdle q6 → IsIdle q7 → (hub number : ℕ) → open_at (eight q0 q1 q2 q3 q4 q5 q6 q7 hub) number ≡ None
none_open q0 q1 q2 q3 q4 q5 q6 q7 h0 h1 h2 h3 h4 h5 h6 h7 zero = h0
none_open q0 q1 q2 q3 q4 q5 q6 q7 h0 h1 h2 h3 h4 h5 h6 h7 (suc zero) = h1
none_open q0 q1 q2 q3 q4 q5 q6 q7 h0 h1 h2 h3 h4 h5 h6 h7 (suc (suc zero)) = h2
none_open q0 q1 q2 q3 q4 q5 q6 q7 h0 h1 h2 h3 h4 h5 h6 h7 (suc (suc (suc zero))) = h3
none_open q0 q1 q2 q3 q4 q5 q6 q7 h0 h1 h2 h3 h4 h5 h6 h7 (suc (suc (suc (suc zero)))) = h4
none_open q0 q1 q2 q3 q4 q5 q6 q7 h0 h1 h2 h3 h4 h5 h6 h7 (suc (suc (suc (suc (suc zero))))) = h5
none_open q0 q1 q2 q3 q4 q5 q6 q7 h0 h1 h2 h3 h4 h5 h6 h7 (suc (suc (suc (suc (suc (suc zero)))))) = h6
none_open q0 q1 q2 q3 q4 q5 q6 q7 h0 h1 h2 h3 h4 h5 h6 h7 (suc (suc (suc (suc (suc (suc (suc k))))))) = h7

-- the one of a number
module _ {X : Type 0} (x0 x1 x2 x3 x4 x5 x6 x7 : X) where
  pub is0 : (hub : ℕ) → hub ≡ 0 → eight x0 x1 x2 x3 x4 x5 x6 x7 hub ≡ x0
  is0 hub e = ap (eight x0 x1 x2 x3 x4 x5 x6 x7) e

  pub is1 : (hub : ℕ) → hub ≡ 1 → eight x0 x1 x2 x3 x4 x5 x6 x7 hub ≡ x1
  is1 hub e = ap (eight x0 x1 x2 x3 x4 x5 x6 x7) e

  pub is2 : (hub : ℕ) → hub ≡ 2 → eight x0 x1 x2 x3 x4 x5 x6 x7 hub ≡ x2
  is2 hub e = ap (eight x0 x1 x2 x3 x4 x5 x6 x7) e

  pub is3 : (hub : ℕ) → hub ≡ 3 → eight x0 x1 x2 x3 x4 x5 x6 x7 hub ≡ x3
  is3 hub e = ap (eight x0 x1 x2 x3 x4 x5 x6 x7) e

  pub is4 : (hub : ℕ) → hub ≡ 4 → eight x0 x1 x2 x3 x4 x5 x6 x7 hub ≡ x4
  is4 hub e = ap (eight x0 x1 x2 x3 x4 x5 x6 x7) e

  pub is5 : (hub : ℕ) → hub ≡ 5 → eight x0 x1 x2 x3 x4 x5 x6 x7 hub ≡ x5
  is5 hub e = ap (eight x0 x1 x2 x3 x4 x5 x6 x7) e

  pub is6 : (hub : ℕ) → hub ≡ 6 → eight x0 x1 x2 x3 x4 x5 x6 x7 hub ≡ x6
  is6 hub e = ap (eight x0 x1 x2 x3 x4 x5 x6 x7) e

  pub is7 : (hub : ℕ) → 7 ≤ hub → eight x0 x1 x2 x3 x4 x5 x6 x7 hub ≡ x7
  is7 zero w = absurd (omega (arith, w))
  is7 (suc zero) w = absurd (omega (arith, w))
  is7 (suc (suc zero)) w = absurd (omega (arith, w))
  is7 (suc (suc (suc zero))) w = absurd (omega (arith, w))
  is7 (suc (suc (suc (suc zero)))) w = absurd (omega (arith, w))
  is7 (suc (suc (suc (suc (suc zero))))) w = absurd (omega (arith, w))
  is7 (suc (suc (suc (suc (suc (suc zero)))))) w = absurd (omega (arith, w))
  is7 (suc (suc (suc (suc (suc (suc (suc k))))))) w = refl
