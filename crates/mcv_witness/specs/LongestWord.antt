-- How the code finds the length of the class word of a rest. Nothing but private contracts cites this.
use Rattle.std.specs.Prelude.{ℕ, ◌&&◌, List, [], ◌∷◌, if◌then◌else◌, length, nat_lt}
use Rattle.mcv_base.specs.Key.{begins_with}
use Rattle.mcv_route.specs.Tree.{Tree, Trees, pool, null, error, many, warm_up, migrate, prefix_selector, operation_selector, none, child}

-- the length of the word, where the rest begins with it and it is longer than so much
abbrev pub longer : ℕ → List ℕ → List ℕ → ℕ
longer most rest word = if nat_lt most (length word) && begins_with rest word then length word else most

-- that of the longest of the words, or so much, if none is longer
abbrev pub longest_of : ℕ → List ℕ → List (List ℕ) → ℕ
longest_of most rest [] = most
longest_of most rest (w ∷ ws) = longest_of (longer most rest w) rest ws

abbrev mutual
  -- that of the longest policy prefix of a route
  pub longest_in : ℕ → List ℕ → Tree → ℕ
  longest_in most rest (pool p ranges targets) = longest_below most rest targets
  longest_in most rest null = most
  longest_in most rest error = most
  longest_in most rest (many kind ts) = longest_below most rest ts
  longest_in most rest (warm_up cold warm exptime) = longest_in (longest_in most rest cold) rest warm
  longest_in most rest (migrate from to start interval) = longest_in (longest_in most rest from) rest to
  longest_in most rest (prefix_selector prefixes ts) = longest_below (longest_of most rest prefixes) rest ts
  longest_in most rest (operation_selector ops ts) = longest_below most rest ts

  pub longest_below : ℕ → List ℕ → Trees → ℕ
  longest_below most rest none = most
  longest_below most rest (child t ts) = longest_below (longest_in most rest t) rest ts
