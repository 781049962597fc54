-- The ledgers that hubs begin with (own).
use Rattle.std.specs.Prelude.{◌≡◌, ◌+◌, ℕ, zero, suc}
use Rattle.std.specs.declared.sync.ledger.Blank.{Blank}
use Rattle.mcv_hubs.specs.declared.names.Blanks.{Blanks}

-- it opens the ledger of this name and these parts, which are so many
abbrev pub Opens : (name parts count : ℕ) → Blank → Type 0
Opens name parts count b = (b.name ≡ name) × (b.parts ≡ parts) × (b.parts ≡ count)

-- these open the family's ledgers of this number and the three next ones
abbrev pub OpenFour : (name_of : ℕ → ℕ) → (parts_of count hub : ℕ) → (b0 b1 b2 b3 : Blank) → Type 0
OpenFour name_of parts_of count hub b0 b1 b2 b3 =
    Opens (name_of hub) parts_of count b0 × Opens (name_of (hub + 1)) parts_of count b1 × Opens (name_of (hub + 2)) parts_of count b2 × Opens (name_of (hub + 3)) parts_of count b3

-- each has so many parts
pub record HaveParts (parts : ℕ) (b : Blanks) : Type 0 where
  pub at0 : b.blank0.parts ≡ parts
  pub at1 : b.blank1.parts ≡ parts
  pub at2 : b.blank2.parts ≡ parts
  pub at3 : b.blank3.parts ≡ parts
  pub at4 : b.blank4.parts ≡ parts
  pub at5 : b.blank5.parts ≡ parts
  pub at6 : b.blank6.parts ≡ parts
  pub at7 : b.blank7.parts ≡ parts

-- each has the name that the family gives to its number
pub record AreNamed (name_of : ℕ → ℕ) (b : Blanks) : Type 0 where
  pub at0 : b.blank0.name ≡ name_of 0
  pub at1 : b.blank1.name ≡ name_of 1
  pub at2 : b.blank2.name ≡ name_of 2
  pub at3 : b.blank3.name ≡ name_of 3
  pub at4 : b.blank4.name ≡ name_of 4
  pub at5 : b.blank5.name ≡ name_of 5
  pub at6 : b.blank6.name ≡ name_of 6
  pub at7 : b.blank7.name ≡ name_of 7

-- the ledgers of the family
pub record AreOf (name_of : ℕ → ℕ) (parts_of count : ℕ) (b : Blanks) : Type 0 where
  pub named : AreNamed name_of b
  pub cut : parts_of ≡ count
  pub parts : HaveParts count b

-- the name of each number
abbrev pub name_at : Blanks → ℕ → ℕ
name_at b zero = b.blank0.name
name_at b (suc zero) = b.blank1.name
name_at b (suc (suc zero)) = b.blank2.name
name_at b (suc (suc (suc zero))) = b.blank3.name
name_at b (suc (suc (suc (suc zero)))) = b.blank4.name
name_at b (suc (suc (suc (suc (suc zero))))) = b.blank5.name
name_at b (suc (suc (suc (suc (suc (suc zero)))))) = b.blank6.name
name_at b (suc (suc (suc (suc (suc (suc (suc n))))))) = b.blank7.name
