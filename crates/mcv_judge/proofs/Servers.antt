-- Servers in memory and their numbers.
use Rattle.std.proofs.Common.{◌≡◌, ℕ, List, [], ◌∷◌, length, refl, ap}
use Rattle.std.specs.Prelude.{slice_get}
use Rattle.std.specs.Cmp.Lexicographic.{slice_cmp}
use Rattle.std.specs.Option.{option_map}
use Rattle.std.specs.Ordering.{nat_cmp, ordering_then}
use Rattle.std.proofs.lemmas.List.{length-map}
use Rattle.std.proofs.lemmas.Option.{slice_get-map}
use Rattle.mcv_base.specs.declared.request.ServerId.{ServerId}
use Rattle.mcv_judge.specs.PairsInMemory.{numbers}

pub servers_counted : (servers : List ServerId) → length (numbers servers) ≡ length servers
servers_counted servers = length-map servers (λ (s : ServerId). s.0)

pub server_of : (servers : List ServerId) (i : ℕ) → slice_get (numbers servers) i ≡ option_map (λ (s : ServerId). s.0) (slice_get servers i)
server_of servers i = slice_get-map (λ (s : ServerId). s.0) servers i

-- compared one by one as their numbers are
pub by_numbers : (xs ys : List ServerId) → slice_cmp (λ (x y : ServerId). nat_cmp x.0 y.0) xs ys ≡ slice_cmp nat_cmp (numbers xs) (numbers ys)
by_numbers [] [] = refl
by_numbers [] (y ∷ ys) = refl
by_numbers (x ∷ xs) [] = refl
by_numbers (x ∷ xs) (y ∷ ys) = ap (ordering_then (nat_cmp x.0 y.0)) (by_numbers xs ys)
