-- FNV-1a in 64 bits (G. Fowler, L. C. Noll, K.-P. Vo, "The FNV Non-Cryptographic Hash Algorithm").
use Rattle.std.specs.Prelude.{ℕ, ◌*◌, ◌%◌, ◌^◌, List, [], ◌∷◌, ◌++◌, fold, bit_xor, if◌then◌else◌}
use Rattle.std.specs.Str.{bytes_eq}
use Rattle.mcv_pools.specs.Symbol.{SymbolValue}

abbrev pub offset_basis : ℕ
offset_basis = 14695981039346656037

abbrev pub fnv_prime : ℕ
fnv_prime = 1099511628211

-- xor with the byte, and then times the prime, in 64 bits
abbrev pub next_hash : ℕ → ℕ → ℕ
next_hash hash byte = (bit_xor hash byte * fnv_prime) % 2 ^ 64

abbrev pub fnv : List ℕ → ℕ
fnv bytes = fold next_hash offset_basis bytes

-- the hash of the part and the salt behind it, modulo the number of servers (own)
abbrev pub fnv_index : SymbolValue → List ℕ → ℕ
fnv_index symbol part = fnv (part ++ symbol.salt) % symbol.n

-- the index that the first row for the part gives, 0 where none is (own; for tests)
abbrev pub listed : List (List ℕ × ℕ) → List ℕ → ℕ
listed [] part = 0
listed (row ∷ rows) part = if bytes_eq row.0 part then row.1 else listed rows part

abbrev pub listed_index : List (List ℕ × ℕ) → SymbolValue → List ℕ → ℕ
listed_index rows symbol part = listed rows part % symbol.n
