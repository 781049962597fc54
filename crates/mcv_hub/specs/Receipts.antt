-- When receipts are good (own).
use Rattle.std.specs.Prelude.{◌≡◌, ◌<◌, ◌&&◌, ℕ, Bool, false, List, Some, ⊤, count_by, nat_eq, nat_lt, slice_get}
use Rattle.mcv_hub.specs.declared.entry.Entry.{Entry}
use Rattle.mcv_hub.specs.declared.entry.Entry.TheVariants.{Taken}
use Rattle.mcv_hub.specs.declared.receipts.Receipt.{Receipt}
use Rattle.mcv_hub.specs.declared.receipts.ReceiptFault.{ReceiptFault}
use Rattle.mcv_hub.specs.declared.receipts.ReceiptFault.TheVariants as faults

-- ---- of the hub with this number, in this chapter, with this history

-- of an earlier chapter of the hub
abbrev pub is_older : (hub chapter : ℕ) → Receipt → Bool
is_older hub chapter r = nat_eq r.hub hub && nat_lt r.chapter chapter

-- of this chapter, and its entry took the reply of its call
pub record IsGood (hub chapter : ℕ) (history : List Entry) (r : Receipt) : Type 0 where
  pub hub_is : r.hub ≡ hub
  pub chapter_is : r.chapter ≡ chapter
  pub entry : slice_get history r.entry ≡ Some (Taken r.call)

-- each receipt that isn't of an earlier chapter is good
abbrev pub AreGood : (hub chapter : ℕ) → List Entry → List Receipt → Type 0
AreGood hub chapter history receipts = (i : ℕ) (r : Receipt) → slice_get receipts i ≡ Some r → is_older hub chapter r ≡ false → IsGood hub chapter history r

-- no two of them name one entry
abbrev pub AreApart : (hub chapter : ℕ) → List Receipt → Type 0
AreApart hub chapter receipts =
    (i j : ℕ) (r s : Receipt) → slice_get receipts i ≡ Some r → slice_get receipts j ≡ Some s → is_older hub chapter r ≡ false → is_older hub chapter s ≡ false → r.entry ≡ s.entry → i ≡ j

-- the receipts pass, and so many of them are of earlier chapters
pub record ArePassed (hub chapter : ℕ) (history : List Entry) (receipts : List Receipt) (older : ℕ) : Type 0 where
  pub good : AreGood hub chapter history receipts
  pub apart : AreApart hub chapter receipts
  pub older_is : older ≡ count_by (is_older hub chapter) receipts

-- one of them isn't good
pub record HasStranger (hub chapter : ℕ) (history : List Entry) (receipts : List Receipt) : Type 0 where
  pub index : ℕ
  pub receipt : Receipt
  pub there : slice_get receipts index ≡ Some receipt
  pub current : is_older hub chapter receipt ≡ false
  pub other : IsGood hub chapter history receipt → ⊥

-- two of this hub and chapter name one entry
pub record HasTwice (hub chapter : ℕ) (receipts : List Receipt) : Type 0 where
  pub first : ℕ
  pub second : ℕ
  pub before : first < second
  pub one : Receipt
  pub other : Receipt
  pub one_there : slice_get receipts first ≡ Some one
  pub other_there : slice_get receipts second ≡ Some other
  pub one_hub : one.hub ≡ hub
  pub other_hub : other.hub ≡ hub
  pub one_chapter : one.chapter ≡ chapter
  pub other_chapter : other.chapter ≡ chapter
  pub same : one.entry ≡ other.entry

-- the receipts are refused for this reason. Memory may run out at any time
abbrev pub AreRefused : (hub chapter : ℕ) → List Entry → List Receipt → ReceiptFault → Type 0
AreRefused hub chapter history receipts faults.Stranger = HasStranger hub chapter history receipts
AreRefused hub chapter history receipts faults.Twice = HasTwice hub chapter receipts
AreRefused hub chapter history receipts faults.Memory = ⊤
