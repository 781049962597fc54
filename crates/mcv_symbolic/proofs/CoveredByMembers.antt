-- Coverage of all rests by a member of each class.
use Rattle.std.proofs.Common.{◌≡◌, ◌<◌, ◌≤◌, inl, inr, ℕ, true, List, [], ◌∷◌, length, map, Option, Some, option_map, nat_eq, refl, sym, ap, ◌∙◌, subst, arith}
use Rattle.std.specs.Prelude.{slice_get}
use Rattle.std.specs.List.{All, Contains}
use Rattle.std.proofs.lemmas.List.{length-map}
use Rattle.std.proofs.lemmas.List.Elements.{All-cons, All-head, All-tail, All-nil, All-contains}
use Rattle.std.proofs.lemmas.Bool.{and_from, and_parts, eqb-true, false≢true}
use Rattle.std.proofs.lemmas.Option.{none-some, slice_get_cases}
use Rattle.mcv_base.specs.Key.{IsRest, begins_with, is_key_byte, is_key_word}
use Rattle.mcv_pools.specs.Symbol.{SymbolValue}
use Rattle.mcv_route.specs.Eras.{IsNear}
use Rattle.mcv_route.specs.Routes.{IsSoundTree, AreSoundTrees, IsSoundRoutes, RouteEntry, RoutesValue}
use Rattle.mcv_route.specs.Tree.{Tree, Trees, pool, null, error, many, warm_up, migrate, prefix_selector, operation_selector, none, child}
use Rattle.mcv_route.specs.Verdict.{IsCovered}
use Rattle.mcv_route.specs.WellFormedTrees.{IsWellFormed, AreWellFormed}
use Rattle.mcv_route.proofs.NearBreaks.{near_grows, near_itself}
use Rattle.mcv_classes.specs.Class.{IsClassWord, IsMember}
use Rattle.mcv_classes.specs.Words.{class_words}
use Rattle.mcv_classes.proofs.Existence.{rests_have_classes}
use Rattle.mcv_classes.proofs.Members.{members_are_inside}
use Rattle.mcv_symbolic.specs.CoveredRoutes.{CoveredByMembers, CoveredForLess, CoveredInOneEra, sizes_of}
use Rattle.mcv_symbolic.proofs.AlikeAreCovered.{alike_are_covered}
use Rattle.mcv_symbolic.proofs.StructureBySets.{covered_is_justified}

-- ---- sound trees have symbols of the table

symbol-within : (symbols : List SymbolValue) (k n : ℕ) → option_map (λ s. s.n) (slice_get symbols k) ≡ Some n → k < length symbols
symbol-within symbols k n e =
    elim (slice_get_cases symbols k).1 [
      | inl f ↦ f.1
      | inr f ↦ absurd (none-some n (ap (option_map (λ s. s.n)) (sym f.1) ∙ e))
    ]

mutual
  well-formed : (servers : ℕ) (symbols : List SymbolValue) (t : Tree) → IsSoundTree servers symbols t → IsWellFormed (map (λ s. s.n) symbols) t
  well-formed servers symbols (pool p ranges targets) h =
      let under : p.symbol < length symbols = symbol-within symbols p.symbol (length p.servers) h.0.sized in
      (omega (arith, under, length-map symbols (λ s. s.n)), well-formed-each servers symbols targets h.1)
  well-formed servers symbols null h = tt
  well-formed servers symbols error h = tt
  well-formed servers symbols (many kind ts) h = well-formed-each servers symbols ts h.1
  well-formed servers symbols (warm_up cold warm exptime) h = (well-formed servers symbols cold h.0, well-formed servers symbols warm h.1)
  well-formed servers symbols (migrate from to start interval) h = (well-formed servers symbols from h.0, well-formed servers symbols to h.1)
  well-formed servers symbols (prefix_selector prefixes ts) h = well-formed-each servers symbols ts h
  well-formed servers symbols (operation_selector ops ts) h = well-formed-each servers symbols ts h

  well-formed-each : (servers : ℕ) (symbols : List SymbolValue) (ts : Trees) → AreSoundTrees servers symbols ts → AreWellFormed (map (λ s. s.n) symbols) ts
  well-formed-each servers symbols none h = tt
  well-formed-each servers symbols (child t ts) h = (well-formed servers symbols t h.0, well-formed-each servers symbols ts h.1)

entry-formed : (r : RoutesValue) (e : RouteEntry) → IsSoundRoutes r → Contains r.entries e → IsWellFormed (sizes_of r) e.tree
entry-formed r e h at = well-formed (length r.servers) r.symbols e.tree (All-contains (λ x. IsSoundTree (length r.servers) r.symbols x.tree) r.entries e h at)

-- ---- members are rests

begins-bytes : (rest word : List ℕ) → All (λ b. b < 256) rest → begins_with rest word ≡ true → All (λ b. b < 256) word
begins-bytes rest [] h e = All-nil (λ b. b < 256)
begins-bytes [] (w ∷ word) h e = absurd (false≢true e)
begins-bytes (b ∷ rest) (w ∷ word) h e =
    let a = and_parts (nat_eq b w) (begins_with rest word) e in
    All-cons (λ x. x < 256) w word (subst (λ x. x < 256) (eqb-true b w a.0) (All-head (λ x. x < 256) b rest h)) (begins-bytes rest word (All-tail (λ x. x < 256) b rest h) a.1)

one-byte : (b : ℕ) → is_key_byte b ≡ true → is_key_word (b ∷ []) ≡ true
one-byte b e = and_from (is_key_byte b) true e refl

-- the member of a rest's class is a rest
member-rest : (words : List (List ℕ)) (rest word member : List ℕ) → IsRest rest → IsClassWord words rest word → IsMember words word (Some member) → IsRest member
member-rest words rest [] member h c m =
    subst IsRest (sym m.1) (record { key = one-byte m.0 m.2.key; bytes = All-cons (λ x. x < 256) m.0 [] m.2.small (All-nil (λ x. x < 256)) })
member-rest words rest (w ∷ word) member h c m = subst IsRest (sym m.0) (record { key = m.1; bytes = begins-bytes rest (w ∷ word) h.bytes c.begins })

-- ---- the whole

pub covered_by_members : CoveredByMembers
covered_by_members r sound = (
  λ covered e word member since read at listed m rest era other near.
      (covered_is_justified (sizes_of r) e.tree member since read (entry-formed r e sound at)).0 (covered e member since read at rest era other near),
  λ justified e rest since read at h era other near.
      let class = rests_have_classes e.tree rest h.key h.bytes in
      let inside = members_are_inside e.tree class.0 class.1 class.3 class.2.listed in
      let own = member-rest (class_words e.tree) rest class.0 class.1 h class.2 class.3 in
      let covered = (covered_is_justified (sizes_of r) e.tree class.1 since read (entry-formed r e sound at)).1 (justified e class.0 class.1 since read at class.2.listed class.3 own era other near) in
      alike_are_covered (sizes_of r) e.tree class.1 rest since read (class.0, inside.0, class.2) covered,
)

-- ---- windows

pub covered_for_less : CoveredForLess
covered_for_less r v le covered e rest since read at h era other near = covered e rest since read at h era other (near_wider r v le since read near)
  where
    near_wider : (r : RoutesValue) (v : ℕ) → v ≤ r.window → (since read : Option ℕ) → IsNear r v since read → IsNear r r.window since read
    near_wider r v le since read near = (near_grows r v r.window since read).1 le near

pub covered_in_one_era : CoveredInOneEra
covered_in_one_era r at_zero = (
  λ covered e rest since at h era. covered e rest since since at h era era (near_itself r r.window since),
  λ each e rest since read at h era other near.
      let same = (near_grows r 0 0 since read).0 (subst (λ w. IsNear r w since read) at_zero near) in
      subst (IsCovered (sizes_of r) e.tree rest since) same (each e rest since at h era),
)
