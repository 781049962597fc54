-- The finding of a gap (own).
use Rattle.std.specs.Prelude.{◌≡◌, ℕ, List, Some}
use Rattle.mcv_cert.specs.Pair.{place_of}
use Rattle.mcv_classes.specs.Class.{IsMember}
use Rattle.mcv_certify.specs.declared.gap.Gap.{Gap}
use Rattle.mcv_witness.specs.Finding.{FindingValue}

-- at the gap's place and index, and it loses the same server
pub record IsAtGap (g : Gap) (f : FindingValue) : Type 0 where
  pub place : f.place ≡ place_of g.place
  pub at : f.at ≡ g.at
  pub server : f.server ≡ g.server.0

-- the class of the word has a member. Nothing but a private contract cites this
abbrev pub HasMember : List (List ℕ) → List ℕ → Type 0
HasMember words word = (m : List ℕ) × IsMember words word (Some m)
