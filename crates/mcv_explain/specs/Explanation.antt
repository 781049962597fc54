-- What a finding says, as sentences. Each is a function of the finding, the routes and the JSON value of the
-- configuration (own). Pointers are written as URI fragments are (RFC 6901, section 6), without the `#`.
use Rattle.std.specs.Prelude.{ℕ, zero, suc, ◌+◌, ◌==◌, List, [], ◌∷◌, ◌++◌, Option, Some, None, codes, decimal, if◌then◌else◌, nat_lt, slice_get, slice_index}
use Rattle.std.specs.List.{flat_map, list_any}
use Rattle.mcv_base.specs.declared.operation.Op.{Op}
use Rattle.mcv_base.specs.declared.operation.Op.TheVariants.{Delete}
use Rattle.mcv_base.specs.declared.reply.Outcome.{Outcome}
use Rattle.mcv_base.specs.Operation.{op_name}
use Rattle.mcv_base.specs.Position.{position_text}
use Rattle.mcv_cert.specs.Escape.{escaped}
use Rattle.mcv_pools.specs.Symbol.{SymbolValue}
use Rattle.mcv_route.specs.Children.{joined}
use Rattle.mcv_route.specs.Outcomes.{History}
use Rattle.mcv_witness.specs.Text.{outcome_word}
use Rattle.mcv_explain.specs.Scene.{SceneValue, handle_pointer, leg_server, lost_server, route_of, server_pointer}

-- ---- what is lost, and for which keys

unfoldable pub lost_words : (key op server : List ℕ) → List ℕ
lost_words key op server = joined (
    codes "After a delete of the key " ∷ key ∷ codes " is acknowledged, a later " ∷ op
    ∷ codes " of it can be answered by " ∷ server ∷ codes ", to which the delete was never sent.\n" ∷ [])

-- a key, and a server that can answer it and to which its delete was never sent
abbrev pub lost_sentence : SceneValue → List ℕ
lost_sentence s = lost_words (escaped s.finding.key) (op_name s.finding.op) (lost_server s)

-- the keys of a class, by what their rest begins with
abbrev pub class_words : (class : List ℕ) → List ℕ
class_words [] = codes "begins with none of its policy prefixes"
class_words (b ∷ bs) = joined (codes "has " ∷ escaped (b ∷ bs) ∷ codes " as its longest policy prefix" ∷ [])

-- the keys for which the hashes pick the finding's indexes, where a hash has a choice
unfoldable pub hash_words : List SymbolValue → List ℕ
hash_words symbols = if list_any (λ (y : SymbolValue). nat_lt 1 y.n) symbols then codes " and for which each hash picks the index above" else []

unfoldable pub alike_words : (number route class hashes : List ℕ) → List ℕ
alike_words number route class hashes = joined (
    codes "So it is with each key of route " ∷ number ∷ codes " (" ∷ route ∷ codes ") whose rest " ∷ class ∷ hashes ∷ codes ".\n" ∷ [])

abbrev pub alike_sentence : SceneValue → List ℕ
alike_sentence s = alike_words (decimal (route_of s)) (escaped (handle_pointer s [])) (class_words s.finding.place.spot.class) (hash_words s.routes.symbols)

-- ---- the eras, where there is a migration

-- the break that opened it: none opened the first
abbrev pub opening_words : (table : List ℕ) → (era : ℕ) → List ℕ
opening_words table zero = []
opening_words table (suc k) = joined (codes ", from the moment " ∷ decimal (slice_index table k) ∷ codes " on" ∷ [])

-- the break that ends it: none ends the last
abbrev pub end_words : Option ℕ → List ℕ
end_words None = []
end_words (Some b) = joined (codes ", before the moment " ∷ decimal b ∷ [])

-- an era: its number, and the moments between which it is
unfoldable pub era_words : (table : List ℕ) → (era : ℕ) → List ℕ
era_words table era = joined (codes "era " ∷ decimal era ∷ opening_words table era ∷ end_words (slice_get table era) ∷ [])

-- with no window the delete and the read are of one era
unfoldable pub one_era_words : (op era : List ℕ) → List ℕ
one_era_words op era = joined (codes "The delete and the " ∷ op ∷ codes " are both in " ∷ era ∷ codes ": what a migration sends depends on the moment.\n" ∷ [])

-- with one each is of an era of its own
unfoldable pub two_eras_words : (delete_era op era window : List ℕ) → List ℕ
two_eras_words delete_era op era window = joined (
    codes "The delete is in " ∷ delete_era ∷ codes ", and the " ∷ op ∷ codes " in " ∷ era ∷ codes ": what a migration sends depends on the moment, and the two can be within "
    ∷ window ∷ codes " seconds.\n" ∷ [])

abbrev pub eras_sentence : SceneValue → (table : List ℕ) → List ℕ
eras_sentence s table =
    if s.finding.window == 0 then one_era_words (op_name s.finding.op) (era_words table s.finding.place.spot.era)
    else two_eras_words (era_words table s.finding.place.spot.era) (op_name s.finding.op) (era_words table s.finding.place.spot.get_era) (decimal s.finding.window)

-- the table has the moments at which what migrations do changes
abbrev pub era_sentence : SceneValue → (table : List ℕ) → List ℕ
era_sentence s [] = []
era_sentence s (b ∷ bs) = eras_sentence s (b ∷ bs)

-- ---- the legs

unfoldable pub leg_words : (position handle server pointer answer : List ℕ) → List ℕ
leg_words position handle server pointer answer = joined (
    codes "  " ∷ position ∷ codes " at " ∷ handle ∷ codes ": " ∷ server ∷ codes " (" ∷ pointer ∷ codes ") answers " ∷ answer ∷ codes "\n" ∷ [])

-- a leg: its position, its handle, its server, and what it answers
unfoldable pub leg_line : SceneValue → Op → List ℕ × Outcome → List ℕ
leg_line s op e = leg_words (position_text e.0) (escaped (handle_pointer s e.0)) (leg_server s e.0) (escaped (server_pointer s e.0)) (outcome_word op e.1)

abbrev pub leg_lines : SceneValue → Op → History → List ℕ
leg_lines s op es = flat_map (leg_line s op) es

unfoldable pub delete_sentence : History → List ℕ
delete_sentence [] = codes "The delete is acknowledged before any server has answered it.\n"
delete_sentence (e ∷ es) = codes "The delete is acknowledged once it is answered so:\n"

unfoldable pub unsent_words : (server : List ℕ) → List ℕ
unsent_words server = joined (codes "By then it was not sent to " ∷ server ∷ codes ".\n" ∷ [])

unfoldable pub get_words : (op : List ℕ) → List ℕ
get_words op = joined (codes "The " ∷ op ∷ codes " has a reply once it is answered so:\n" ∷ [])

unfoldable pub hit_words : (leaf server : List ℕ) → List ℕ
hit_words leaf server = joined (codes "The answer at " ∷ leaf ∷ codes " can be that reply: what " ∷ server ∷ codes " still has from before the delete.\n" ∷ [])

-- ---- the whole

unfoldable pub what_is_lost : SceneValue → (table : List ℕ) → List ℕ
what_is_lost s table = codes "\n" ++ lost_sentence s ++ alike_sentence s ++ era_sentence s table

unfoldable pub how_it_is_deleted : SceneValue → List ℕ
how_it_is_deleted s = delete_sentence s.finding.deletes ++ leg_lines s Delete s.finding.deletes ++ unsent_words (lost_server s)

unfoldable pub how_it_is_read : SceneValue → List ℕ
how_it_is_read s = get_words (op_name s.finding.op) ++ leg_lines s s.finding.op s.finding.gets ++ hit_words (position_text s.finding.place.leaf) (lost_server s)

abbrev pub explanation : SceneValue → (table : List ℕ) → List ℕ
explanation s table = what_is_lost s table ++ how_it_is_deleted s ++ how_it_is_read s
