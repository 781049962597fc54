-- What is drawn of a configuration (own).
use Rattle.std.specs.Prelude.{◌≡◌, ◌==◌, ◌+◌, ℕ, Bool, true, false, List, [], ◌∷◌, ◌++◌, Some, None, if◌then◌else◌, length, map}
use Rattle.std.specs.List.{All, flat_map, slice_split}
use Rattle.mcv_cert.specs.Pair.{CertificateValue, PairValue}
use Rattle.mcv_cert.specs.Reason.{ReasonValue, never, twin, same, all}
use Rattle.mcv_certify.specs.PickedReasons.{IsPickedOf}
use Rattle.mcv_draw.specs.Dot.{dot}
use Rattle.mcv_draw.specs.Drawn.{DrawingValue, behind, drawn, top}
use Rattle.mcv_draw.specs.Element.{ElementValue}
use Rattle.mcv_draw.specs.Marks.{MarksValue, marks_by}
use Rattle.mcv_draw.specs.Svg.{svg}
use Rattle.mcv_input.specs.Fault.{AreNamedBy}
use Rattle.mcv_picture.specs.Reached.{AreReached}
use Rattle.mcv_route.specs.Routes.{RouteEntry, RoutesValue, within}
use Rattle.mcv_verdict.specs.Text.{covered_line}
use Rattle.mcv_verdict.specs.Verdict.{AreCoveredBy, IsLossBy}
use Rattle.mcv_verdict.specs.declared.verdict.Verdict.{Verdict}
use Rattle.mcv_verdict.specs.declared.verdict.Verdict.TheVariants.{Covered, Lost}
use Rattle.mcv_witness.specs.Finding.{FindingValue}
use Rattle.mcv_witness.specs.Text.{finding_text}

-- ---- what is marked

-- the legs that a reason names
abbrev pub reason_legs : ReasonValue → List (List ℕ)
reason_legs never = []
reason_legs (twin leg) = leg ∷ []
reason_legs (same index leg) = leg ∷ []
reason_legs (all index legs) = legs

-- of a pair of the route of a number the legs, and the leaf; of another pair none
abbrev pub own_legs : (number : ℕ) → PairValue → List (List ℕ)
own_legs number p = if p.place.spot.route == number then reason_legs p.reason else []

abbrev pub own_leaf : (number : ℕ) → PairValue → List (List ℕ)
own_leaf number p = if p.place.spot.route == number then p.place.leaf ∷ [] else []

-- what a certificate marks in the tree of a route: to the legs that reasons name deletes go, and its leaves can be read
abbrev pub certificate_marks : CertificateValue → (number : ℕ) → MarksValue
certificate_marks c number = marks_by (flat_map (own_legs number) c.pairs) (flat_map (own_leaf number) c.pairs) [] None

abbrev pub no_marks : MarksValue
no_marks = marks_by [] [] [] None

-- the legs that answer a finding's delete and its get, and the leaf that is read
abbrev pub shown_legs : FindingValue → List (List ℕ)
shown_legs f = map (λ e. e.0) f.deletes ++ map (λ e. e.0) f.gets ++ f.place.leaf ∷ []

-- in the tree of its own route: to what its deletes reach deletes go, what its gets reach can be read, the legs that answer are shown, and the leaf's server is lost; in another tree nothing
abbrev pub ShowsIf : (is_own : Bool) → RoutesValue → FindingValue → MarksValue → Type 0
ShowsIf true r f m = (deletes : List (List ℕ)) × (readable : List (List ℕ)) × AreReached r f deletes readable × (m ≡ marks_by deletes readable (shown_legs f) (Some f.place.leaf))
ShowsIf false r f m = m ≡ no_marks

-- what a finding marks in the tree of the route of a number
abbrev pub ShowsFinding : RoutesValue → FindingValue → (number : ℕ) → MarksValue → Type 0
ShowsFinding r f number m = ShowsIf (number == f.place.spot.route) r f m

-- ---- which elements there are

-- what is drawn of the route of a number beside its tree
abbrev pub drawing : RoutesValue → (number : ℕ) → MarksValue → DrawingValue
drawing r number m = record { number = number; servers = r.servers; marks = m }

-- the elements are those of the routes from a number on, from a row on one below the other, each route with marks for which `P` holds
abbrev pub AreDrawn : (P : (number : ℕ) → MarksValue → Type 0) → RoutesValue → (number row : ℕ) → List RouteEntry → List ElementValue → Type 0
AreDrawn P r number row [] es = es ≡ []
AreDrawn P r number row (e ∷ rest) es = (m : MarksValue) × (below : List ElementValue) × P number m
    × AreDrawn P r (number + 1) (behind row (drawn (drawing r number m) top row e.tree)) rest below
    × (es ≡ drawn (drawing r number m) top row e.tree ++ below)

-- .. of all routes
abbrev pub AreDrawnOf : (P : (number : ℕ) → MarksValue → Type 0) → RoutesValue → List ElementValue → Type 0
AreDrawnOf P r es = AreDrawn P r 0 0 r.entries es

-- ---- what is said below the trees

-- a line, but for an empty one
abbrev pub if_line : List ℕ → List (List ℕ)
if_line line = if length line == 0 then [] else line ∷ []

-- the lines of a text, but for empty ones
abbrev pub note_lines : List ℕ → List (List ℕ)
note_lines text = flat_map if_line (slice_split (λ b. b == 10) text)

-- ---- the picture

-- the elements, and below them what is said, as SVG; or the elements for Graphviz
abbrev pub IsPictureOf : (is_dot : Bool) → List ElementValue → (said text : List ℕ) → Type 0
IsPictureOf true es said text = text ≡ dot es
IsPictureOf false es said text = text ≡ svg es (note_lines said)

-- the picture of the routes with such marks
abbrev pub IsDrawnWith : (P : (number : ℕ) → MarksValue → Type 0) → (is_dot : Bool) → RoutesValue → (said text : List ℕ) → Type 0
IsDrawnWith P is_dot r said text = (es : List ElementValue) × AreDrawnOf P r es × IsPictureOf is_dot es said text

-- routes that are covered, with what a certificate marks by which they are, and how many pairs it has; or others, with what the first finding shows, and its text
abbrev pub IsDrawnOf : (is_dot : Bool) → RoutesValue → Verdict → (text : List ℕ) → Type 0
IsDrawnOf is_dot r (Covered n) text = (c : CertificateValue) × AreCoveredBy r c × All (IsPickedOf r) c.pairs × (n ≡ length c.pairs)
    × IsDrawnWith (λ number m. m ≡ certificate_marks c number) is_dot r (covered_line n) text
IsDrawnOf is_dot r Lost text = (f : FindingValue) × IsLossBy r f × IsDrawnWith (ShowsFinding r f) is_dot r (finding_text r f) text

-- the input is a configuration, and the text draws its routes within the window
abbrev pub IsDrawnOn : (is_dot : Bool) → (input : List ℕ) → (window : ℕ) → Verdict → (text : List ℕ) → Type 0
IsDrawnOn is_dot input window verdict text = (r : RoutesValue) × AreNamedBy input r × IsDrawnOf is_dot (within window r) verdict text
