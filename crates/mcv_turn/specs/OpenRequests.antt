-- Which requests are open at a desk: asked, and not answered yet (own).
use Rattle.slab.specs.Slab.{Slab, get}
use Rattle.std.specs.Prelude.{◌≡◌, ◌≢◌, ℕ, Option, None, Some, option_map}
use Rattle.mcv_text.specs.Request.{RequestValue}
use Rattle.mcv_turn.specs.Question.{QuestionView}
use Rattle.mcv_turn.specs.declared.answer.Asker.{Asker}

-- who asks, and what
abbrev pub asked_in : QuestionView → Asker × RequestValue
asked_in q = (q.asker, q.request)

-- the same of the question of this number, where there is one
abbrev pub open_at : Slab QuestionView → ℕ → Option (Asker × RequestValue)
open_at questions number = option_map asked_in (get questions number)

-- the same requests are open, of the same askers
abbrev pub AreSameOpen : Slab QuestionView → Slab QuestionView → Type 0
AreSameOpen old new = (number : ℕ) → open_at new number ≡ open_at old number

-- one more is, at a number that had none
pub record Opens (old new : Slab QuestionView) (asker : Asker) (request : RequestValue) : Type 0 where
  pub number : ℕ
  pub vacant : open_at old number ≡ None
  pub put : open_at new number ≡ Some (asker, request)
  pub others : (other : ℕ) → other ≢ number → open_at new other ≡ open_at old other

-- one isn't any more
pub record Closes (old new : Slab QuestionView) (asker : Asker) (request : RequestValue) : Type 0 where
  pub number : ℕ
  pub was : open_at old number ≡ Some (asker, request)
  pub gone : open_at new number ≡ None
  pub others : (other : ℕ) → other ≢ number → open_at new other ≡ open_at old other
