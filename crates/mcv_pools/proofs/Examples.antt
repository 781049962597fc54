-- The definitions at small tables, symbols and parts.
use Rattle.std.proofs.Common.{◌≡◌, ◌<◌, zero, suc, [], ◌∷◌, false, Some, None, refl, codes, arith, lit<}
use Rattle.std.specs.Str.{bytes_eq}
use Rattle.mcv_pools.specs.declared.symbol.HashFunc.TheVariants.{Ch3, Crc32}
use Rattle.mcv_pools.specs.Choice.{HasIndexEach, chosen_each}
use Rattle.mcv_pools.specs.Hash.{fnv, fnv_index, listed_index}
use Rattle.mcv_pools.specs.Symbol.{SymbolValue, same_symbol}
use Rattle.mcv_pools.specs.Table.{number_in, numbered}

-- the reference vectors of FNV-1a 64
empty : fnv [] ≡ 14695981039346656037
empty = refl

of_a : fnv (codes "a") ≡ 12638187200555641996
of_a = refl

of_foobar : fnv (codes "foobar") ≡ 9625390261332436968
of_foobar = refl

abbrev two : SymbolValue
two = record { func = Ch3; salt = []; n = 2 }

abbrev salted : SymbolValue
salted = record { func = Ch3; salt = codes "bar"; n = 18446744073709551615 }

a_is_even : fnv_index two (codes "a") ≡ 0
a_is_even = refl

b_is_odd : fnv_index two (codes "b") ≡ 1
b_is_odd = refl

-- the salt comes behind the part
part_and_salt : fnv_index salted (codes "foo") ≡ 9625390261332436968
part_and_salt = refl

choice_of_a : chosen_each fnv_index (two ∷ salted ∷ []) (codes "a") ≡ 0 ∷ fnv_index salted (codes "a") ∷ []
choice_of_a = refl

from_a_list : listed_index ((codes "a", 1) ∷ (codes "b", 5) ∷ (codes "a", 0) ∷ []) two (codes "a") ≡ 1
from_a_list = refl

modulo_two : listed_index ((codes "a", 1) ∷ (codes "b", 5) ∷ []) two (codes "b") ≡ 1
modulo_two = refl

not_listed : listed_index ((codes "a", 1) ∷ []) two (codes "c") ≡ 0
not_listed = refl

-- numbers by first appearance
in_order : numbered bytes_eq (codes "b:1" ∷ codes "a:1" ∷ codes "b:1" ∷ codes "c:1" ∷ []) ≡ codes "b:1" ∷ codes "a:1" ∷ codes "c:1" ∷ []
in_order = refl

second : number_in bytes_eq (codes "b:1" ∷ codes "a:1" ∷ []) (codes "a:1") ≡ Some 1
second = refl

absent : number_in bytes_eq (codes "b:1" ∷ codes "a:1" ∷ []) (codes "a:2") ≡ None
absent = refl

other_salt : same_symbol two (record two { salt = codes "x" }) ≡ false
other_salt = refl

other_function : same_symbol two (record two { func = Crc32 }) ≡ false
other_function = refl

other_number : same_symbol two (record two { n = 3 }) ≡ false
other_number = refl

one_symbol : numbered same_symbol (two ∷ salted ∷ two ∷ []) ≡ two ∷ salted ∷ []
one_symbol = refl

-- 0 is below 2, and 3 isn't
zero_of_two : HasIndexEach (two ∷ []) (0 ∷ [])
zero_of_two zero lt = lit< tt
zero_of_two (suc s) lt = absurd (let h : ⊥ = omega (arith, lt) in h)

not_three_of_two : HasIndexEach (two ∷ []) (3 ∷ []) → ⊥
not_three_of_two each = let lt : 3 < 2 = each 0 (lit< tt) in omega (arith, lt)
