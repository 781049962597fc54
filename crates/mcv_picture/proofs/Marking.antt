-- What marks are made of.
use Rattle.std.proofs.Common.{◌≡◌, ◌∙◌, ℕ, true, List, [], Some, None, ap}
use Rattle.std.specs.List.{flat_map}
use Rattle.mcv_cert.specs.Pair.{CertificateValue, PairValue}
use Rattle.mcv_draw.specs.Marks.{MarksValue, marks_by}
use Rattle.mcv_route.specs.Routes.{RoutesValue}
use Rattle.mcv_witness.specs.Finding.{FindingValue}
use Rattle.mcv_picture.specs.Drawing.{ShowsIf, certificate_marks, no_marks, own_leaf, own_legs, shown_legs}
use Rattle.mcv_picture.specs.Reached.{AreReached}

pub nothing_shown : (m : MarksValue) (deletes readable shown : List (List ℕ)) → m ≡ marks_by deletes readable shown None → shown ≡ [] → m ≡ marks_by deletes readable [] None
nothing_shown m deletes readable shown is none = is ∙ ap (λ (legs : List (List ℕ)). marks_by deletes readable legs None) none

pub nothing_marked : (m : MarksValue) (deletes readable : List (List ℕ)) → m ≡ marks_by deletes readable [] None → deletes ≡ [] → readable ≡ [] → m ≡ no_marks
nothing_marked m deletes readable is no_delete no_leaf =
    is ∙ (ap (λ (legs : List (List ℕ)). marks_by legs readable [] None) no_delete ∙ ap (λ (legs : List (List ℕ)). marks_by [] legs [] None) no_leaf)

pub marked_by : (m : MarksValue) (c : CertificateValue) (number : ℕ) (pairs : List PairValue) (deletes readable : List (List ℕ)) → m ≡ marks_by deletes readable [] None
    → deletes ≡ flat_map (own_legs number) pairs → readable ≡ flat_map (own_leaf number) pairs → pairs ≡ c.pairs → m ≡ certificate_marks c number
marked_by m c number pairs deletes readable is legs leaves of =
    is
    ∙ (ap (λ (xs : List (List ℕ)). marks_by xs readable [] None) (legs ∙ ap (flat_map (own_legs number)) of)
    ∙ ap (λ (xs : List (List ℕ)). marks_by (flat_map (own_legs number) c.pairs) xs [] None) (leaves ∙ ap (flat_map (own_leaf number)) of))

pub legs_shown : (r : RoutesValue) (f : FindingValue) (m : MarksValue) (deletes readable shown : List (List ℕ)) (marked : List ℕ) → AreReached r f deletes readable
    → m ≡ marks_by deletes readable shown (Some marked) → shown ≡ shown_legs f → marked ≡ f.place.leaf → ShowsIf true r f m
legs_shown r f m deletes readable shown marked reached is same at =
    (deletes, readable, reached, is ∙ (ap (λ (xs : List (List ℕ)). marks_by deletes readable xs (Some marked)) same ∙ ap (λ (xs : List ℕ). marks_by deletes readable (shown_legs f) (Some xs)) at))
