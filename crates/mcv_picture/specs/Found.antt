-- What the code's value of what was found means.
use Rattle.std.specs.Prelude.{◌≡◌, ℕ}
use Rattle.mcv_draw.specs.Marks.{MarksValue}
use Rattle.mcv_route.specs.Routes.{RoutesValue}
use Rattle.mcv_witness.specs.Finding.{finding_of}
use Rattle.mcv_picture.specs.Drawing.{ShowsFinding, certificate_marks}
use Rattle.mcv_picture.specs.declared.marks.Found.{Found}
use Rattle.mcv_picture.specs.declared.marks.Found.TheVariants.{Covered, Lost}

-- what it marks in the tree of the route of a number
abbrev pub AreMarksOf : Found → RoutesValue → (number : ℕ) → MarksValue → Type 0
AreMarksOf (Covered certificate) r number m = m ≡ certificate_marks certificate.now number
AreMarksOf (Lost finding) r number m = ShowsFinding r (finding_of finding.now) number m
