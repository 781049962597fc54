-- The member of a class by the table of its route.
use Rattle.std.proofs.Common.{ℕ, List, [], ◌∷◌, Some, None, sym, ◌∙◌, true≢false}
use Rattle.std.specs.List.{Contains}
use Rattle.std.proofs.lemmas.List.Elements.{All-contains}
use Rattle.mcv_classes.specs.Class.{IsFree, IsMember}
use Rattle.mcv_classes.specs.Table.{IsWordTable}
use Rattle.mcv_make.specs.Place.{HasMember}

module _ (words table : List (List ℕ)) (same : IsWordTable words table) where
  free-there : (b : ℕ) → IsFree words b → IsFree table b
  free-there b f = record { small = f.small; key = f.key; unlisted = λ h. f.unlisted (All-contains (Contains words) table (b ∷ []) same.only h) }

  free-here : (b : ℕ) → IsFree table b → IsFree words b
  free-here b f = record { small = f.small; key = f.key; unlisted = λ h. f.unlisted (All-contains (Contains table) words (b ∷ []) same.all h) }

  pub member-here : (word m : List ℕ) → IsMember table word (Some m) → IsMember words word (Some m)
  member-here [] m h = (h.0, h.1, free-here h.0 h.2, λ c f. h.3 c (free-there c f))
  member-here (b ∷ word) m h = h

  pub member-there : (word : List ℕ) → HasMember words word → IsMember table word None → ⊥
  member-there [] has h = h has.1.0 (free-there has.1.0 has.1.2)
  member-there (b ∷ word) has h = true≢false (sym has.1.1 ∙ h)
