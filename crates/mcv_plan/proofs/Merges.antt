-- Lists of legs with those of a part that has sent more.
use Rattle.std.proofs.Common.{ℕ, List, [], ◌∷◌, ◌++◌, append-nil}
use Rattle.mcv_plan.specs.ReachedAnswers.{IsMerge, done, kept, added}

pub merge_same : (xs : List ℕ) → IsMerge xs [] xs
merge_same [] = done
merge_same (x ∷ xs) = kept x xs [] xs (merge_same xs)

pub merge_new : (xs : List ℕ) → IsMerge [] xs xs
merge_new [] = done
merge_new (x ∷ xs) = added x [] xs xs (merge_new xs)

pub merge_append : (a m b c n d : List ℕ) → IsMerge a m b → IsMerge c n d → IsMerge (a ++ c) (m ++ n) (b ++ d)
merge_append a m b c n d done g = g
merge_append a m b c n d (kept k x y z f) g = kept k (x ++ c) (y ++ n) (z ++ d) (merge_append x y z c n d f g)
merge_append a m b c n d (added k x y z f) g = added k (x ++ c) (y ++ n) (z ++ d) (merge_append x y z c n d f g)

pub merge_before : (a m b c : List ℕ) → IsMerge a m b → IsMerge (a ++ c) m (b ++ c)
merge_before a m b c f = let g = merge_append a m b c [] c f (merge_same c) in rw (append-nil m) at g

pub merge_behind : (a m b c : List ℕ) → IsMerge a m b → IsMerge (c ++ a) m (c ++ b)
merge_behind a m b c f = merge_append c [] c a m b (merge_same c) f
