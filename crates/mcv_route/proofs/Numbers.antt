-- Numbers by first appearance stay as a table grows.
use Rattle.std.proofs.Common.{◌≡◌, ℕ, ◌<◌, List, [], ◌∷◌, ◌++◌, length, Bool, true, false, not, Option, Some, refl, ap, sym, subst, ◌∙◌, arith, fold, map, length-append, append-nil, append_assoc}
use Rattle.std.specs.Prelude.{position, unwrap_or, if◌then◌else◌}
use Rattle.std.specs.List.{position_or_len, list_any, flat_map}
use Rattle.std.proofs.lemmas.Grind.{common_steps}
use Rattle.std.proofs.lemmas.List.{map-append}
use Rattle.std.proofs.lemmas.List.Concat.{flat_map-append}
use Rattle.std.proofs.lemmas.List.Folds.{prefix_len-append}
use Rattle.std.proofs.lemmas.List.Sums.{fold-append}
use Rattle.mcv_base.specs.declared.operation.Op.{Op}
use Rattle.mcv_names.specs.declared.handle.Many.{Many as Kind}
use Rattle.mcv_config.specs.ConfigValue.{Range, Named, Nameds, nameds_of, no_named, named}
use Rattle.mcv_config.specs.ConfigValue as config
use Rattle.mcv_pools.specs.declared.symbol.HashFunc.{HashFunc}
use Rattle.mcv_pools.specs.declared.symbol.HashFunc.TheVariants.{Ch3}
use Rattle.mcv_pools.specs.Symbol.{SymbolValue, same_symbol}
use Rattle.mcv_pools.specs.Table.{is_in, with_entry}
use Rattle.mcv_pools.proofs.Sameness.{same_symbol-Decides}
use Rattle.mcv_route.specs.NamedRoutes.{pool_at, server_at, symbol_of, symbols_in, symbols_below, number_of, pool_named, tree_named, trees_named}
use Rattle.mcv_route.specs.Tree.{Pool, Tree, Trees, pool, null, error, many, warm_up, migrate, prefix_selector, operation_selector, none, child}
use Rattle.mcv_route.specs.View.{trees_of}
use Rattle.mcv_route.specs.Walk.{IsBuilt}

-- p passes somewhere in the list
abbrev pub Occurs : {X : Type 0} → (X → Bool) → List X → Type 0
Occurs p xs = position_or_len p xs < length xs

module _ {X : Type 0} (p : X → Bool) where
  pub position-occurs : (xs : List X) → Occurs p xs → position p xs ≡ Some (position_or_len p xs)
  position-occurs xs h = grind (arith, common_steps)

  pub first-append : (xs ys : List X) → Occurs p xs → position_or_len p (xs ++ ys) ≡ position_or_len p xs
  first-append xs ys h = grind (arith, common_steps, prefix_len-append (λ x. not (p x)) xs ys)

  pub occurs-append : (xs ys : List X) → Occurs p xs → Occurs p (xs ++ ys)
  occurs-append xs ys h = omega (arith, first-append xs ys h, length-append xs ys)

  pub position-append : (xs ys : List X) → Occurs p xs → position p (xs ++ ys) ≡ position p xs
  position-append xs ys h = position-occurs (xs ++ ys) (occurs-append xs ys h) ∙ ap Some (first-append xs ys h) ∙ sym (position-occurs xs h)

  pub occurs-any : (xs : List X) → list_any p xs ≡ true → Occurs p xs
  occurs-any [] e = cc
  occurs-any (x ∷ xs) e = grind (arith, common_steps, occurs-any xs)

  pub occurs-push : (xs : List X) (x : X) → p x ≡ true → Occurs p (xs ++ x ∷ [])
  occurs-push [] x e = rw e (omega arith)
  occurs-push (y ∷ xs) x e = grind (arith, common_steps, occurs-push xs x e)

-- ---- a table of symbols

-- the symbol has a number
abbrev pub IsKnown : List SymbolValue → SymbolValue → Type 0
IsKnown table s = Occurs (same_symbol s) table

abbrev pub with_all : List SymbolValue → List SymbolValue → List SymbolValue
with_all table xs = fold (with_entry same_symbol) table xs

-- the table with one more symbol is it and what follows it
with_one-is : (table : List SymbolValue) (x : SymbolValue) → (more : List SymbolValue) × (with_entry same_symbol table x ≡ table ++ more)
with_one-is table x =
    elim (is_in same_symbol table x) as (λ b. (more : List SymbolValue) × ((if b then table else table ++ x ∷ []) ≡ table ++ more)) [
      | true ↦ ([], sym (append-nil table))
      | false ↦ (x ∷ [], refl)
    ]

pub with_all-is : (table xs : List SymbolValue) → (more : List SymbolValue) × (with_all table xs ≡ table ++ more)
with_all-is table [] = ([], sym (append-nil table))
with_all-is table (x ∷ xs) =
    let one = with_one-is table x in
    let all = with_all-is (with_entry same_symbol table x) xs in
    (one.0 ++ all.0, all.1 ∙ ap (λ t. t ++ all.0) one.1 ∙ append_assoc table one.0 all.0)

pub known-with_all : (table xs : List SymbolValue) (s : SymbolValue) → IsKnown table s → IsKnown (with_all table xs) s
known-with_all table xs s h =
    let all = with_all-is table xs in
    let P : List SymbolValue → Type 0 = λ t. IsKnown t s in
    subst P (sym all.1) (occurs-append (same_symbol s) table all.0 h)

pub number_of-with_all : (table xs : List SymbolValue) (s : SymbolValue) → IsKnown table s → number_of (with_all table xs) s ≡ number_of table s
number_of-with_all table xs s h =
    let all = with_all-is table xs in
    ap (λ t. number_of t s) all.1 ∙ ap (λ n. unwrap_or n 0) (position-append (same_symbol s) table all.0 h)

-- a symbol that was put in has a number
known-with_one : (table : List SymbolValue) (s : SymbolValue) → IsKnown (with_entry same_symbol table s) s
known-with_one table s = by (is_in same_symbol table s) refl
  where
    by : (b : Bool) → is_in same_symbol table s ≡ b → IsKnown (if b then table else table ++ s ∷ []) s
    by true e = occurs-any (same_symbol s) table e
    by false e = occurs-push (same_symbol s) table s ((same_symbol-Decides s s).1 refl)

-- ---- the trees stay as the table grows

abbrev mutual
  -- the table has the symbols of the handle and of those below it
  pub HasSymbols : List (List ℕ) → List SymbolValue → Named → Type 0
  HasSymbols pools table (config.pool k func salt ranges targets) = IsKnown table (symbol_of func salt (pool_at pools k)) × HaveSymbols pools table targets
  HasSymbols pools table (config.server k n) = IsKnown table (symbol_of Ch3 [] (server_at pools k n))
  HasSymbols pools table config.null = Unit {0}
  HasSymbols pools table config.error = Unit {0}
  HasSymbols pools table (config.many kind ts) = HaveSymbols pools table ts
  HasSymbols pools table (config.warm_up cold warm exptime) = HasSymbols pools table cold × HasSymbols pools table warm
  HasSymbols pools table (config.migrate from to start interval) = HasSymbols pools table from × HasSymbols pools table to
  HasSymbols pools table (config.prefix_selector prefixes ts) = HaveSymbols pools table ts
  HasSymbols pools table (config.operation_selector ops ts) = HaveSymbols pools table ts

  pub HaveSymbols : List (List ℕ) → List SymbolValue → Nameds → Type 0
  HaveSymbols pools table no_named = Unit {0}
  HaveSymbols pools table (named t ts) = HasSymbols pools table t × HaveSymbols pools table ts

mutual
  pub has-with_all : (pools : List (List ℕ)) (table xs : List SymbolValue) (t : Named) → HasSymbols pools table t → HasSymbols pools (with_all table xs) t
  has-with_all pools table xs (config.pool k func salt ranges targets) h = (known-with_all table xs (symbol_of func salt (pool_at pools k)) h.0, have-with_all pools table xs targets h.1)
  has-with_all pools table xs (config.server k n) h = known-with_all table xs (symbol_of Ch3 [] (server_at pools k n)) h
  has-with_all pools table xs config.null h = tt
  has-with_all pools table xs config.error h = tt
  has-with_all pools table xs (config.many kind ts) h = have-with_all pools table xs ts h
  has-with_all pools table xs (config.warm_up cold warm exptime) h = (has-with_all pools table xs cold h.0, has-with_all pools table xs warm h.1)
  has-with_all pools table xs (config.migrate from to start interval) h = (has-with_all pools table xs from h.0, has-with_all pools table xs to h.1)
  has-with_all pools table xs (config.prefix_selector prefixes ts) h = have-with_all pools table xs ts h
  has-with_all pools table xs (config.operation_selector ops ts) h = have-with_all pools table xs ts h

  pub have-with_all : (pools : List (List ℕ)) (table xs : List SymbolValue) (ts : Nameds) → HaveSymbols pools table ts → HaveSymbols pools (with_all table xs) ts
  have-with_all pools table xs no_named h = tt
  have-with_all pools table xs (named t ts) h = (has-with_all pools table xs t h.0, have-with_all pools table xs ts h.1)

-- of two handles, the second walked after the first
both-walked : (pools : List (List ℕ)) (table : List SymbolValue) (t u : Named) → HasSymbols pools (with_all table (symbols_in pools t)) t
    → HasSymbols pools (with_all (with_all table (symbols_in pools t)) (symbols_in pools u)) u
    → HasSymbols pools (with_all table (symbols_in pools t ++ symbols_in pools u)) t × HasSymbols pools (with_all table (symbols_in pools t ++ symbols_in pools u)) u
both-walked pools table t u h g =
    let own = symbols_in pools t in
    let e : with_all table (own ++ symbols_in pools u) ≡ with_all (with_all table own) (symbols_in pools u) = fold-append (with_entry same_symbol) table own (symbols_in pools u) in
    let P : List SymbolValue → Type 0 = λ w. HasSymbols pools w t × HasSymbols pools w u in
    subst P (sym e) (has-with_all pools (with_all table own) (symbols_in pools u) t h, g)

mutual
  pub has-walked : (pools : List (List ℕ)) (table : List SymbolValue) (t : Named) → HasSymbols pools (with_all table (symbols_in pools t)) t
  has-walked pools table (config.pool k func salt ranges targets) =
      let own = symbol_of func salt (pool_at pools k) in
      let one = with_entry same_symbol table own in
      (known-with_all one (symbols_below pools targets) own (known-with_one table own), have-walked pools one targets)
  has-walked pools table (config.server k n) = known-with_one table (symbol_of Ch3 [] (server_at pools k n))
  has-walked pools table config.null = tt
  has-walked pools table config.error = tt
  has-walked pools table (config.many kind ts) = have-walked pools table ts
  has-walked pools table (config.warm_up cold warm exptime) =
      both-walked pools table cold warm (has-walked pools table cold) (has-walked pools (with_all table (symbols_in pools cold)) warm)
  has-walked pools table (config.migrate from to start interval) =
      both-walked pools table from to (has-walked pools table from) (has-walked pools (with_all table (symbols_in pools from)) to)
  has-walked pools table (config.prefix_selector prefixes ts) = have-walked pools table ts
  has-walked pools table (config.operation_selector ops ts) = have-walked pools table ts

  pub have-walked : (pools : List (List ℕ)) (table : List SymbolValue) (ts : Nameds) → HaveSymbols pools (with_all table (symbols_below pools ts)) ts
  have-walked pools table no_named = tt
  have-walked pools table (named t ts) =
      let own = symbols_in pools t in
      let e : with_all table (own ++ symbols_below pools ts) ≡ with_all (with_all table own) (symbols_below pools ts) = fold-append (with_entry same_symbol) table own (symbols_below pools ts) in
      let P : List SymbolValue → Type 0 = λ u. HasSymbols pools u t × HaveSymbols pools u ts in
      subst P (sym e) (has-with_all pools (with_all table own) (symbols_below pools ts) t (has-walked pools table t), have-walked pools (with_all table own) ts)

pool_named-stays : (table xs : List SymbolValue) (func : HashFunc) (salt servers : List ℕ) → IsKnown table (symbol_of func salt servers)
    → pool_named (with_all table xs) func salt servers ≡ pool_named table func salt servers
pool_named-stays table xs func salt servers h = λ i. record { symbol = number_of-with_all table xs (symbol_of func salt servers) h i; servers = servers }

mutual
  pub tree_named-stays : (pools : List (List ℕ)) (table xs : List SymbolValue) (t : Named) → HasSymbols pools table t → tree_named (with_all table xs) pools t ≡ tree_named table pools t
  tree_named-stays pools table xs (config.pool k func salt ranges targets) h =
      λ i. pool (pool_named-stays table xs func salt (pool_at pools k) h.0 i) ranges (trees_named-stay pools table xs targets h.1 i)
  tree_named-stays pools table xs (config.server k n) h = λ i. pool (pool_named-stays table xs Ch3 [] (server_at pools k n) h i) [] none
  tree_named-stays pools table xs config.null h = refl
  tree_named-stays pools table xs config.error h = refl
  tree_named-stays pools table xs (config.many kind ts) h = ap (many kind) (trees_named-stay pools table xs ts h)
  tree_named-stays pools table xs (config.warm_up cold warm exptime) h = λ i. warm_up (tree_named-stays pools table xs cold h.0 i) (tree_named-stays pools table xs warm h.1 i) exptime
  tree_named-stays pools table xs (config.migrate from to start interval) h = λ i. migrate (tree_named-stays pools table xs from h.0 i) (tree_named-stays pools table xs to h.1 i) start interval
  tree_named-stays pools table xs (config.prefix_selector prefixes ts) h = ap (prefix_selector prefixes) (trees_named-stay pools table xs ts h)
  tree_named-stays pools table xs (config.operation_selector ops ts) h = ap (operation_selector ops) (trees_named-stay pools table xs ts h)

  pub trees_named-stay : (pools : List (List ℕ)) (table xs : List SymbolValue) (ts : Nameds) → HaveSymbols pools table ts → trees_named (with_all table xs) pools ts ≡ trees_named table pools ts
  trees_named-stay pools table xs no_named h = refl
  trees_named-stay pools table xs (named t ts) h = λ i. child (tree_named-stays pools table xs t h.0 i) (trees_named-stay pools table xs ts h.1 i)

-- ---- lists of handles

pub symbols_below-list : (pools : List (List ℕ)) (ns : List Named) → symbols_below pools (nameds_of ns) ≡ flat_map (symbols_in pools) ns
symbols_below-list pools [] = refl
symbols_below-list pools (n ∷ ns) = ap (λ xs. symbols_in pools n ++ xs) (symbols_below-list pools ns)

pub trees_named-list : (table : List SymbolValue) (pools : List (List ℕ)) (ns : List Named) → trees_named table pools (nameds_of ns) ≡ trees_of (map (tree_named table pools) ns)
trees_named-list table pools [] = refl
trees_named-list table pools (n ∷ ns) = ap (child (tree_named table pools n)) (trees_named-list table pools ns)

each-stays : (pools : List (List ℕ)) (table xs : List SymbolValue) (ns : List Named) → HaveSymbols pools table (nameds_of ns) → map (tree_named (with_all table xs) pools) ns ≡ map (tree_named table pools) ns
each-stays pools table xs [] h = refl
each-stays pools table xs (n ∷ ns) h = λ i. tree_named-stays pools table xs n h.0 i ∷ each-stays pools table xs ns h.1 i

-- what was built stays as more is built
pub built-append : (pools : List (List ℕ)) (t u v : List SymbolValue) (ns ms : List Named) (ts us : List Tree)
    → IsBuilt pools t ns u ts → IsBuilt pools u ms v us → IsBuilt pools t (ns ++ ms) v (ts ++ us)
built-append pools t u v ns ms ts us a b =
    let f = symbols_in pools in
    let known : HaveSymbols pools u (nameds_of ns) =
    let P : List SymbolValue → Type 0 = λ w. HaveSymbols pools w (nameds_of ns) in
    subst P (sym (a.table ∙ ap (with_all t) (sym (symbols_below-list pools ns)))) (have-walked pools t (nameds_of ns)) in
    let stay : map (tree_named v pools) ns ≡ map (tree_named u pools) ns =
    ap (λ w. map (tree_named w pools) ns) b.table ∙ each-stays pools u (flat_map f ms) ns known in
    record {
      table = b.table ∙ ap (λ w. with_all w (flat_map f ms)) a.table ∙ sym (fold-append (with_entry same_symbol) t (flat_map f ns) (flat_map f ms)) ∙ ap (with_all t) (sym (flat_map-append f ns ms));
      trees_are = ap (λ w. w ++ us) (a.trees_are ∙ sym stay) ∙ ap (λ w. map (tree_named v pools) ns ++ w) b.trees_are ∙ sym (map-append (tree_named v pools) ns ms);
    }

pub built-none : (pools : List (List ℕ)) (t : List SymbolValue) → IsBuilt pools t [] t []
built-none pools t = record { table = refl; trees_are = refl }

-- ---- handles

built-below : (pools : List (List ℕ)) (t u : List SymbolValue) (ns : List Named) (ts : List Tree) → IsBuilt pools t ns u ts → u ≡ with_all t (symbols_below pools (nameds_of ns) ++ [])
built-below pools t u ns ts b = b.table ∙ ap (with_all t) (sym (append-nil (symbols_below pools (nameds_of ns)) ∙ symbols_below-list pools ns))

trees-below : (pools : List (List ℕ)) (t u : List SymbolValue) (ns : List Named) (ts : List Tree) → IsBuilt pools t ns u ts → trees_of ts ≡ trees_named u pools (nameds_of ns)
trees-below pools t u ns ts b = ap trees_of b.trees_are ∙ sym (trees_named-list u pools ns)

-- a PoolRoute, from its leaf and from the targets of its shadows, which were built after it
pub built-pool : (pools : List (List ℕ)) (t u v : List SymbolValue) (k : ℕ) (func : HashFunc) (salt : List ℕ) (ranges : List Range) (leaf : Pool) (ns : List Named) (ts : List Tree)
    → u ≡ with_entry same_symbol t (symbol_of func salt (pool_at pools k)) → leaf ≡ pool_named u func salt (pool_at pools k) → IsBuilt pools u ns v ts
    → IsBuilt pools t (config.pool k func salt ranges (nameds_of ns) ∷ []) v (pool leaf ranges (trees_of ts) ∷ [])
built-pool pools t u v k func salt ranges leaf ns ts table is b =
    let servers = pool_at pools k in
    let own = symbol_of func salt servers in
    let known : IsKnown u own =
    let P : List SymbolValue → Type 0 = λ w. IsKnown w own in
    subst P (sym table) (known-with_one t own) in
    let stay : pool_named v func salt servers ≡ pool_named u func salt servers =
    ap (λ w. pool_named w func salt servers) b.table ∙ pool_named-stays u (flat_map (symbols_in pools) ns) func salt servers known in
    let leaf_is : leaf ≡ pool_named v func salt servers = is ∙ sym stay in
    let below = trees-below pools u v ns ts b in
    record {
      table = built-below pools u v ns ts b ∙ ap (λ w. with_all w (symbols_below pools (nameds_of ns) ++ [])) table;
      trees_are = λ i. pool (leaf_is i) ranges (below i) ∷ [];
    }

pub built-server : (pools : List (List ℕ)) (t u : List SymbolValue) (k n : ℕ) (leaf : Pool)
    → u ≡ with_entry same_symbol t (symbol_of Ch3 [] (server_at pools k n)) → leaf ≡ pool_named u Ch3 [] (server_at pools k n)
    → IsBuilt pools t (config.server k n ∷ []) u (pool leaf [] none ∷ [])
built-server pools t u k n leaf table is = record { table = table; trees_are = λ i. pool (is i) [] none ∷ [] }

-- a handle over children that were built, where its symbols are theirs
built-over : (handle : Nameds → Named) (made : Trees → Tree) → ((pools : List (List ℕ)) (ts : Nameds) → symbols_in pools (handle ts) ≡ symbols_below pools ts)
    → ((table : List SymbolValue) (pools : List (List ℕ)) (ts : Nameds) → tree_named table pools (handle ts) ≡ made (trees_named table pools ts))
    → (pools : List (List ℕ)) (t u : List SymbolValue) (ns : List Named) (ts : List Tree) → IsBuilt pools t ns u ts → IsBuilt pools t (handle (nameds_of ns) ∷ []) u (made (trees_of ts) ∷ [])
built-over handle made symbols trees pools t u ns ts b = record {
  table = built-below pools t u ns ts b ∙ ap (λ xs. with_all t (xs ++ [])) (sym (symbols pools (nameds_of ns)));
  trees_are = ap (λ x. x ∷ []) (ap made (trees-below pools t u ns ts b) ∙ sym (trees u pools (nameds_of ns)));
}

pub built-many : (kind : Kind) (pools : List (List ℕ)) (t u : List SymbolValue) (ns : List Named) (ts : List Tree) → IsBuilt pools t ns u ts → IsBuilt pools t (config.many kind (nameds_of ns) ∷ []) u (many kind (trees_of ts) ∷ [])
built-many kind = built-over (config.many kind) (many kind) (λ pools ts. refl) (λ table pools ts. refl)

pub built-prefix_selector : (prefixes : List (List ℕ)) (pools : List (List ℕ)) (t u : List SymbolValue) (ns : List Named) (ts : List Tree)
    → IsBuilt pools t ns u ts → IsBuilt pools t (config.prefix_selector prefixes (nameds_of ns) ∷ []) u (prefix_selector prefixes (trees_of ts) ∷ [])
built-prefix_selector prefixes = built-over (config.prefix_selector prefixes) (prefix_selector prefixes) (λ pools ts. refl) (λ table pools ts. refl)

pub built-operation_selector : (ops : List (Option Op)) (pools : List (List ℕ)) (t u : List SymbolValue) (ns : List Named) (ts : List Tree)
    → IsBuilt pools t ns u ts → IsBuilt pools t (config.operation_selector ops (nameds_of ns) ∷ []) u (operation_selector ops (trees_of ts) ∷ [])
built-operation_selector ops = built-over (config.operation_selector ops) (operation_selector ops) (λ pools ts. refl) (λ table pools ts. refl)

-- a handle over two that were built one after the other
built-two : (handle : Named → Named → Named) (made : Tree → Tree → Tree) → ((pools : List (List ℕ)) (n m : Named) → symbols_in pools (handle n m) ≡ symbols_in pools n ++ symbols_in pools m)
    → ((table : List SymbolValue) (pools : List (List ℕ)) (n m : Named) → tree_named table pools (handle n m) ≡ made (tree_named table pools n) (tree_named table pools m))
    → (pools : List (List ℕ)) (t u v : List SymbolValue) (n m : Named) (x y : Tree) → IsBuilt pools t (n ∷ []) u (x ∷ []) → IsBuilt pools u (m ∷ []) v (y ∷ [])
    → IsBuilt pools t (handle n m ∷ []) v (made x y ∷ [])
built-two handle made symbols trees pools t u v n m x y a b =
    let both : IsBuilt pools t (n ∷ m ∷ []) v (x ∷ y ∷ []) = built-append pools t u v (n ∷ []) (m ∷ []) (x ∷ []) (y ∷ []) a b in
    let all : x ∷ y ∷ [] ≡ tree_named v pools n ∷ tree_named v pools m ∷ [] = both.trees_are in
    let first : x ≡ tree_named v pools n = cc all in
    let second : y ≡ tree_named v pools m = cc all in
    record {
      table = both.table ∙ ap (with_all t) (sym (append_assoc (symbols_in pools n) (symbols_in pools m) [])) ∙ ap (λ xs. with_all t (xs ++ [])) (sym (symbols pools n m));
      trees_are = (λ i. made (first i) (second i) ∷ []) ∙ ap (λ z. z ∷ []) (sym (trees v pools n m));
    }

pub built-warm_up : (exptime : ℕ) (pools : List (List ℕ)) (t u v : List SymbolValue) (n m : Named) (x y : Tree) → IsBuilt pools t (n ∷ []) u (x ∷ []) → IsBuilt pools u (m ∷ []) v (y ∷ [])
    → IsBuilt pools t (config.warm_up n m exptime ∷ []) v (warm_up x y exptime ∷ [])
built-warm_up exptime = built-two (λ n m. config.warm_up n m exptime) (λ x y. warm_up x y exptime) (λ pools n m. refl) (λ table pools n m. refl)

pub built-migrate : (start interval : ℕ) (pools : List (List ℕ)) (t u v : List SymbolValue) (n m : Named) (x y : Tree) → IsBuilt pools t (n ∷ []) u (x ∷ []) → IsBuilt pools u (m ∷ []) v (y ∷ [])
    → IsBuilt pools t (config.migrate n m start interval ∷ []) v (migrate x y start interval ∷ [])
built-migrate start interval = built-two (λ n m. config.migrate n m start interval) (λ x y. migrate x y start interval) (λ pools n m. refl) (λ table pools n m. refl)
