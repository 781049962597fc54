-- Tables of numbers, one entry longer.
use Rattle.std.proofs.Common.{◌≡◌, ◌<◌, ◌+◌, ℕ, zero, suc, List, [], ◌∷◌, ◌++◌, Option, Some, None, get_or, length, map, nat_eq, refl, sym, ap, ◌∙◌, subst, arith, true}
use Rattle.std.specs.Prelude.{Bool, option_map, slice_get, slice_index_or}
use Rattle.std.proofs.lemmas.Option.{same_Some}
use Rattle.std.specs.Cmp.Lexicographic.{bytes_decides}
use Rattle.std.specs.Str.{bytes_eq}
use Rattle.mcv_pools.specs.Symbol.{SymbolValue, same_symbol}
use Rattle.mcv_pools.specs.Table.{number_in}
use Rattle.std.specs.Borrow.{Bor}
use Rattle.std.specs.Slice.{IsItemAt}
use Rattle.std.proofs.lemmas.Bool.{eqb-true}
use Rattle.mcv_route.proofs.HandleChildren.{borrowed-at}
use Rattle.mcv_pools.proofs.Sameness.{same_symbol-Decides}
use Rattle.mcv_pools.proofs.Tables.{is_at_number}
use Rattle.mcv_route.specs.Routes.{RoutesValue}
use Rattle.mcv_alike.specs.Numbers.{AreSymbolNumbers, IsNumbering, IsOver, IsSymbolNumber}
use Rattle.mcv_alike.specs.Plans.{AreOnePool, AreOneServers, AreOneSymbol}
use Rattle.mcv_alike.specs.declared.numbering.Numbering.{Numbering}
use Rattle.mcv_alike.specs.Alike.{server_text}

-- what each entry of a table is, at its place
abbrev pub AreEntries : {A : Type 0} → (ℕ → A → Type 0) → List A → Type 0
AreEntries {A} P table = (i : ℕ) (x : A) → slice_get table i ≡ Some x → P i x

pub grown : {A : Type 0} (P : ℕ → A → Type 0) (table : List A) (x : A) → AreEntries P table → P (length table) x → AreEntries P (table ++ x ∷ [])
grown P [] x h p zero y e = subst (P 0) (same_Some x y e) p
grown P [] x h p (suc i) y e = absurd cc
grown P (t ∷ table) x h p zero y e = h zero y e
grown P (t ∷ table) x h p (suc i) y e = grown (λ j. P (suc j)) table x (λ j z f. h (suc j) z f) p i y e

-- the text at a number
pub text_at : (r : RoutesValue) (i : ℕ) (text : List ℕ) → slice_get r.servers i ≡ Some text → server_text r i ≡ text
text_at r i text e = at r.servers i e
  where
    at : (xs : List (List ℕ)) (k : ℕ) → slice_get xs k ≡ Some text → slice_index_or xs k [] ≡ text
    at [] k f = absurd cc
    at (x ∷ xs) zero f = same_Some x text f
    at (x ∷ xs) (suc k) f = at xs k f

-- the text is the first routes' at one number, and the second ones' at the other
pub same_server : (r n : RoutesValue) (i x : ℕ) (text : List ℕ) → slice_get r.servers i ≡ Some text → number_in bytes_eq n.servers text ≡ Some x → server_text r i ≡ server_text n x
same_server r n i x text e f = text_at r i text e ∙ sym (text_at n x text (is_at_number bytes_eq bytes_decides n.servers text x f))

-- the symbol is the first routes' at one number, and the second ones' at the other
pub same_number : (r n : RoutesValue) (s z : ℕ) (symbol : SymbolValue) → slice_get r.symbols s ≡ Some symbol → number_in same_symbol n.symbols symbol ≡ Some z → 0 < symbol.n → IsSymbolNumber r n s (z, symbol.n)
same_number r n s z symbol e f some = record { symbol = symbol; old = e; new = is_at_number same_symbol same_symbol-Decides n.symbols symbol z f; size = refl; some = some }

same_option : {X : Type 0} (o : Option X) → option_map (λ (x : X). x) o ≡ o
same_option None = refl
same_option (Some x) = refl

-- what is lent at an index is the entry there
pub lent_at : {X : Type 0} (xs : List X) (i : ℕ) (b : Bor X) → IsItemAt xs i (Some b) → slice_get xs i ≡ Some b.now
lent_at {X} xs i b h = sym (same_option (slice_get xs i)) ∙ sym (borrowed-at (λ (x : X). x) xs i (Some b) h)

module _ (r n : RoutesValue) (table : Numbering) (numbered : IsNumbering r n table) where
  -- an entry of the table of symbols, by its number
  pub one_symbol : (s z : ℕ) (e : ℕ × ℕ) → slice_get table.symbols.items s ≡ Some e → nat_eq e.0 z ≡ true → AreOneSymbol r n s z
  one_symbol s z e at same =
      let own = numbered.symbols s e at in
      record { symbol = own.symbol; old = own.old; new = subst (λ k. slice_get n.symbols k ≡ Some own.symbol) (eqb-true e.0 z same) own.new; some = own.some }

  -- and by its size
  pub over : (s k : ℕ) (e : ℕ × ℕ) → slice_get table.symbols.items s ≡ Some e → nat_eq e.1 k ≡ true → IsOver r s k
  over s k e at same = let own = numbered.symbols s e at in (own.symbol, own.old, sym own.size ∙ eqb-true e.1 k same)

  -- an entry of the table of servers
  pub one_server : (i y x : ℕ) → slice_get table.servers.items i ≡ Some x → nat_eq x y ≡ true → server_text r i ≡ server_text n y
  one_server i y x at same = numbered.servers i x at ∙ ap (server_text n) (eqb-true x y same)

-- a pool, by its symbol and its servers
pub one_pool : (r n : RoutesValue) (s z : ℕ) (xs ys : List ℕ) → AreOneSymbol r n s z → IsOver r s (length xs) → AreOneServers r n xs ys → AreOnePool r n s xs z ys
one_pool r n s z xs ys symbol sized servers = record {
  symbol = symbol;
  servers = servers;
  sized = sym sized.2 ∙ ap (λ (v : SymbolValue). v.n) (same_Some sized.0 symbol.symbol (sym sized.1 ∙ symbol.old));
}
