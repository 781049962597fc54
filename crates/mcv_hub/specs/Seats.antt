-- What clauses see of a session's shares (own).
use Rattle.std.specs.Prelude.{ℕ}

-- some parts of a book, and what was counted with them
pub record ShareView : Type 0 where
  pub amount : ℕ
  pub parts : ℕ

-- a session's shares of the books of calls begun and of replies taken
pub record SeatView : Type 0 where
  pub begun : ShareView
  pub taken : ShareView

-- what so many seats are made of
pub record PassesView : Type 0 where
  pub left : ℕ
  pub begun : ShareView
  pub taken : ShareView
