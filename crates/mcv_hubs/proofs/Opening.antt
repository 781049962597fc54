-- Which ledgers blanks open, four by four.
use Rattle.std.proofs.Common.{◌∙◌, ℕ, sym}
use Rattle.mcv_hubs.specs.Blanks.{AreOf, OpenFour}
use Rattle.mcv_hubs.specs.declared.names.Blanks.{Blanks}

module _ (name_of : ℕ → ℕ) (parts_of count : ℕ) (b : Blanks) (h : AreOf name_of parts_of count b) where
  pub first_four : OpenFour name_of parts_of count 0 b.blank0 b.blank1 b.blank2 b.blank3
  first_four =
      let all = h.parts in
      let cut = sym h.cut in
      ((h.named.at0, all.at0 ∙ cut, all.at0), (h.named.at1, all.at1 ∙ cut, all.at1), (h.named.at2, all.at2 ∙ cut, all.at2), (h.named.at3, all.at3 ∙ cut, all.at3))

  pub last_four : OpenFour name_of parts_of count 4 b.blank4 b.blank5 b.blank6 b.blank7
  last_four =
      let all = h.parts in
      let cut = sym h.cut in
      ((h.named.at4, all.at4 ∙ cut, all.at4), (h.named.at5, all.at5 ∙ cut, all.at5), (h.named.at6, all.at6 ∙ cut, all.at6), (h.named.at7, all.at7 ∙ cut, all.at7))
