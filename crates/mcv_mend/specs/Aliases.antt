-- The aliases of routes. Only private contracts cite this.
use Rattle.std.specs.Prelude.{ℕ, List, map}
use Rattle.std.specs.declared.alloc.Global.{Global}
use Rattle.std.specs.declared.vec.Vec.{Vec}
use Rattle.mcv_route.specs.Routes.{RoutesValue}

abbrev pub bytes_of : Vec ℕ Global → List ℕ
bytes_of v = v.items

abbrev pub texts_of : Vec (Vec ℕ Global) Global → List (List ℕ)
texts_of v = map bytes_of v.items

abbrev pub aliases_value : List (Vec (Vec ℕ Global) Global) → List (List (List ℕ))
aliases_value all = map texts_of all

abbrev pub route_aliases : RoutesValue → List (List (List ℕ))
route_aliases r = map (λ e. e.aliases) r.entries
