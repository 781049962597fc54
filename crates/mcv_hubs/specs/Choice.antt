-- Which hub a key has (own; the hash: G. Fowler, L. C. Noll, K.-P. Vo, "The FNV Non-Cryptographic Hash Algorithm").
use Rattle.std.specs.Prelude.{◌≡◌, ◌%◌, ℕ, List, filter, nat_eq}
use Rattle.mcv_base.specs.declared.operation.Op.{Op}
use Rattle.mcv_base.specs.declared.request.Request.{Request}
use Rattle.mcv_pools.specs.Hash.{fnv}
use Rattle.mcv_spool.specs.declared.record.SpoolRecord.{SpoolRecord}
use Rattle.mcv_core.specs.Asking.{HasNoKey, IsKeyOf}

-- the number of the hub of a rest, among so many: FNV-1a in 64 bits over its bytes, modulo how many there are
abbrev pub hub_number : (hubs : ℕ) → List ℕ → ℕ
hub_number hubs rest = fnv rest % hubs

-- the word of this number is a key with this rest
pub record IsRestOf (request : Request) (key : ℕ) (rest : List ℕ) : Type 0 where
  pub op : Op
  pub prefix : List ℕ
  pub is : IsKeyOf request key op prefix rest

-- a key has the hub of its rest, and a word that is no key hub 0, which refuses it
pub data IsHubOf (hubs : ℕ) (request : Request) (key hub : ℕ) : Type 0 where
  keyed : (rest : List ℕ) → IsRestOf request key rest → hub ≡ hub_number hubs rest → IsHubOf hubs request key hub
  unkeyed : HasNoKey request key → hub ≡ 0 → IsHubOf hubs request key hub

-- the records, each with its number, whose rests have this hub
abbrev pub records_at : (hubs hub : ℕ) → List (ℕ × SpoolRecord) → List (ℕ × SpoolRecord)
records_at hubs hub records = filter (λ r. nat_eq (hub_number hubs r.1.rest) hub) records
