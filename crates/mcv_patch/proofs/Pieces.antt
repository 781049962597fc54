-- A text that grows by one piece of what is left.
use Rattle.std.proofs.Common.{◌≡◌, List, ℕ, ◌++◌, append_assoc}

pub one_more_piece : (text grown piece rest left whole : List ℕ) → text ++ left ≡ whole → left ≡ piece ++ rest → grown ≡ text ++ piece → grown ++ rest ≡ whole
one_more_piece text grown piece rest left whole leads is made = rw (made, append_assoc, ← is) leads
