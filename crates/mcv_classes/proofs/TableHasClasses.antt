-- A table of words has the classes of these words.
use Rattle.std.proofs.Common.{ℕ, List, [], ◌∷◌, Option, Some, None}
use Rattle.std.specs.List.{Contains}
use Rattle.std.proofs.lemmas.List.Elements.{All-contains, All-weaker}
use Rattle.mcv_classes.specs.Class.{ClassValue, IsClassList, IsClassOf, IsClassWord, IsFree, IsListed, IsMember}
use Rattle.mcv_classes.specs.Table.{IsWordTable}

-- two lists have the same words
record HaveSame (us vs : List (List ℕ)) : Type 0 where
  there : (w : List ℕ) → Contains us w → Contains vs w
  back : (w : List ℕ) → Contains vs w → Contains us w

turned : (us vs : List (List ℕ)) → HaveSame us vs → HaveSame vs us
turned us vs h = record { there = h.back; back = h.there }

same-free : (us vs : List (List ℕ)) (b : ℕ) → HaveSame us vs → IsFree us b → IsFree vs b
same-free us vs b h f = record { small = f.small; key = f.key; unlisted = λ at. f.unlisted (h.back (b ∷ []) at) }

same-member : (us vs : List (List ℕ)) (word : List ℕ) (m : Option (List ℕ)) → HaveSame us vs → IsMember us word m → IsMember vs word m
same-member us vs [] None h is = λ b f. is b (same-free vs us b (turned us vs h) f)
same-member us vs [] (Some m) h is = (is.0, is.1, same-free us vs is.0 h is.2, λ c f. is.3 c (same-free vs us c (turned us vs h) f))
same-member us vs (b ∷ word) None h is = is
same-member us vs (b ∷ word) (Some m) h is = is

same-word : (us vs : List (List ℕ)) (rest word : List ℕ) → HaveSame us vs → IsClassWord us rest word → IsClassWord vs rest word
same-word us vs rest word h c = record { listed = h.there word c.listed; begins = c.begins; longest = λ v at e. c.longest v (h.back v at) e }

same-listed : (us vs : List (List ℕ)) (class : ClassValue) → HaveSame us vs → IsListed us class → IsListed vs class
same-listed us vs class h l = record { word = h.there class.word l.word; member = same-member us vs class.word class.member h l.member; some = l.some }

of-table : (words table : List (List ℕ)) → IsWordTable words table → HaveSame table words
of-table words table t = record {
  there = λ w at. All-contains (Contains words) table w t.only at;
  back = λ w at. All-contains (Contains table) words w t.all at;
}

pub table-class : (words table : List (List ℕ)) (rest : List ℕ) (class : ClassValue) → IsWordTable words table → IsClassOf table rest class → IsClassOf words rest class
table-class words table rest class t c =
    let h = of-table words table t in
    record { word = same-word table words rest class.word h c.word; member = same-member table words class.word class.member h c.member }

pub table-classes : (words table : List (List ℕ)) (classes : List ClassValue) → IsWordTable words table → IsClassList table classes → IsClassList words classes
table-classes words table classes t l =
    let h = of-table words table t in
    record {
      rising = l.rising;
      only = All-weaker (IsListed table) (IsListed words) (λ c at. same-listed table words c h at) classes l.only;
      all = λ class at. l.all class (same-listed words table class (turned table words h) at);
    }
