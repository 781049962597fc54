-- The routes' trees, drawn one below the other.
use Rattle.std.proofs.Common.{◌≡◌, ◌∙◌, ◌+◌, ℕ, suc, List, [], ◌∷◌, ◌++◌, Some, None, add-one, ap, append_assoc, drop, drop-cons, option_map, refl, subst, sym}
use Rattle.std.specs.Prelude.{slice_get}
use Rattle.std.proofs.lemmas.List.{append-nil, drop_all}
use Rattle.std.proofs.lemmas.Option.{get_or_from_slice_get, slice_get_within}
use Rattle.mcv_blocks.proofs.RouteClasses.{no_route_left, route_at}
use Rattle.mcv_draw.proofs.DrawnInTurn.{rows-append}
use Rattle.mcv_draw.specs.Drawn.{behind, drawn, top}
use Rattle.mcv_draw.specs.Element.{ElementValue, rows_of}
use Rattle.mcv_draw.specs.Marks.{MarksValue}
use Rattle.mcv_route.specs.Routes.{RouteEntry, RoutesValue}
use Rattle.mcv_route.specs.Tree.{Tree}
use Rattle.mcv_picture.specs.Drawing.{AreDrawn, AreDrawnOf, drawing}

abbrev tree_of : RouteEntry → Tree
tree_of e = e.tree

-- elements, and what is drawn of the routes from a number on below them, are what is drawn of all
abbrev pub LeadTo : (P : (number : ℕ) → MarksValue → Type 0) → RoutesValue → (number : ℕ) → List ElementValue → Type 0
LeadTo P r number es = (below : List ElementValue) → AreDrawn P r number (rows_of es) (drop number r.entries) below → AreDrawnOf P r (es ++ below)

rest_at : (es : List RouteEntry) (n : ℕ) (e : RouteEntry) → slice_get es n ≡ Some e → drop n es ≡ e ∷ drop (n + 1) es
rest_at es n e at =
    rw add-one (drop-cons es n e (slice_get_within es n e at) ∙ ap (λ (x : RouteEntry). x ∷ drop (suc n) es) (get_or_from_slice_get es n e e at))

pub none_drawn : (P : (number : ℕ) → MarksValue → Type 0) (r : RoutesValue) (es : List ElementValue) → es ≡ [] → LeadTo P r 0 es
none_drawn P r es none = subst (λ (xs : List ElementValue). LeadTo P r 0 xs) (sym none) (λ below are. are)

one_entry : (P : (number : ℕ) → MarksValue → Type 0) (r : RoutesValue) (n row : ℕ) (e : RouteEntry) (m : MarksValue) (below : List ElementValue) → P n m
    → AreDrawn P r (n + 1) (behind row (drawn (drawing r n m) top row e.tree)) (drop (n + 1) r.entries) below → slice_get r.entries n ≡ Some e
    → AreDrawn P r n row (drop n r.entries) (drawn (drawing r n m) top row e.tree ++ below)
one_entry P r n row e m below marked are at =
    subst (λ (entries : List RouteEntry). AreDrawn P r n row entries (drawn (drawing r n m) top row e.tree ++ below)) (sym (rest_at r.entries n e at)) (m, below, marked, are, refl)

pub one_drawn : (P : (number : ℕ) → MarksValue → Type 0) (r : RoutesValue) (n : ℕ) (t : Tree) (es more : List ElementValue) → Some t ≡ option_map tree_of (slice_get r.entries n)
    → ((m : MarksValue) × P n m × (more ≡ es ++ drawn (drawing r n m) top (rows_of es) t)) → LeadTo P r n es → LeadTo P r (n + 1) more
one_drawn P r n t es more has one lead below are =
    let at = route_at t (slice_get r.entries n) has in
    let m = one.0 in
    let own : List ElementValue = drawn (drawing r n m) top (rows_of es) t in
    let rows : rows_of more ≡ behind (rows_of es) own = ap rows_of one.2 ∙ rows-append es own in
    let there : AreDrawn P r (n + 1) (behind (rows_of es) own) (drop (n + 1) r.entries) below = subst (λ (row : ℕ). AreDrawn P r (n + 1) row (drop (n + 1) r.entries) below) rows are in
    let here : AreDrawn P r n (rows_of es) (drop n r.entries) (own ++ below) =
    subst (λ (tree : Tree). AreDrawn P r n (rows_of es) (drop n r.entries) (drawn (drawing r n m) top (rows_of es) tree ++ below)) at.2
    (one_entry P r n (rows_of es) at.0 m below one.1
    (subst (λ (tree : Tree). AreDrawn P r (n + 1) (behind (rows_of es) (drawn (drawing r n m) top (rows_of es) tree)) (drop (n + 1) r.entries) below) (sym at.2) there) at.1) in
    subst (λ (xs : List ElementValue). AreDrawnOf P r xs) (sym (append_assoc es own below) ∙ ap (λ (xs : List ElementValue). xs ++ below) (sym one.2)) (lead (own ++ below) here)

pub all_drawn : (P : (number : ℕ) → MarksValue → Type 0) (r : RoutesValue) (n : ℕ) (es : List ElementValue) → None ≡ option_map tree_of (slice_get r.entries n) → LeadTo P r n es
    → AreDrawnOf P r es
all_drawn P r n es none lead =
    let nothing_left : drop n r.entries ≡ [] = drop_all n r.entries (no_route_left r n none) in
    subst (λ (xs : List ElementValue). AreDrawnOf P r xs) (append-nil es)
    (lead [] (subst (λ (entries : List RouteEntry). AreDrawn P r n (rows_of es) entries []) (sym nothing_left) refl))
