-- Symbols that are the same are equal.
use Rattle.std.proofs.Common.{◌≡◌, refl, ap, arith}
use Rattle.std.specs.Bool.{Decides}
use Rattle.std.specs.Cmp.Lexicographic.{bytes_decides}
use Rattle.std.proofs.lemmas.Bool.Decides.{Decides-and, Decides-eqb, Decides-like}
use Rattle.mcv_pools.specs.declared.symbol.HashFunc.{HashFunc}
use Rattle.mcv_pools.specs.declared.symbol.HashFunc.TheVariants.{Ch3, Crc32}
use Rattle.mcv_pools.specs.Symbol.{SymbolValue, func_number, same_symbol}

one_function : (f g : HashFunc) → func_number f ≡ func_number g → f ≡ g
one_function Ch3 Ch3 e = refl
one_function Crc32 Crc32 e = refl
one_function Ch3 Crc32 e = absurd (omega arith)
one_function Crc32 Ch3 e = absurd (omega arith)

pub same_symbol-Decides : (a b : SymbolValue) → Decides (same_symbol a b) (a ≡ b)
same_symbol-Decides a b =
    let parts : Decides (same_symbol a b) ((func_number a.func ≡ func_number b.func) × ((a.salt ≡ b.salt) × (a.n ≡ b.n))) =
    Decides-and _ _ (Decides-eqb (func_number a.func) (func_number b.func)) (Decides-and _ _ (bytes_decides a.salt b.salt) (Decides-eqb a.n b.n)) in
    Decides-like (same_symbol a b) (λ e. λ i. record { func = one_function a.func b.func e.0 i; salt = e.1.0 i; n = e.1.1 i }) (λ e. (ap (λ s. func_number s.func) e, (ap (λ s. s.salt) e, ap (λ s. s.n) e))) parts
