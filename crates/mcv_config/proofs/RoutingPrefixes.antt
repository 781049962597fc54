-- A text is a routing prefix exactly when its parts are nothing, a name, a name, nothing.
use Rattle.std.proofs.Common.{◌≡◌, ◌≢◌, ℕ, ◌≤◌, zero, suc, Bool, true, false, not, ◌==◌, cond, List, [], ◌∷◌, ◌++◌, length, refl, sym, ap, subst, ◌∙◌, append_assoc, arith}
use Rattle.std.proofs.lemmas.Bool.Decides.{Decides-eqb}
use Rattle.std.specs.List.{All, AllByRecursion, list_all, onto_first, join_with_byte}
use Rattle.std.proofs.lemmas.List.Splits.{slice_split_at, join_with_byte-slice_split}
use Rattle.mcv_base.specs.Key.{lacks, slash, IsRoutingPrefix, IsCut, IsKeyFault, is_key_byte, is_key_word}
use Rattle.mcv_base.specs.declared.key.KeyFault.{KeyFault}
use Rattle.mcv_base.specs.declared.key.KeyFault.TheVariants.{Empty, TooLong, BadByte, NoRest}
use Rattle.mcv_base.proofs.Cuts.{both, joined}
use Rattle.mcv_base.proofs.Prefixes.{no_rest}
use Rattle.mcv_config.specs.Aliases.{IsAlias, are_two_names, is_alias, is_no_rest, parts}

-- ---- the parts of a text

not_true : (b : Bool) → not b ≡ true → b ≡ false
not_true true h = cc
not_true false h = refl

not_false : (b : Bool) → b ≡ false → not b ≡ true
not_false true h = cc
not_false false h = refl

-- no part has a slash
abbrev Lack : List (List ℕ) → Type 0
Lack ps = AllByRecursion (λ p. lacks slash p ≡ true) ps

onto_lacks : (b : ℕ) (ps : List (List ℕ)) → (b == slash) ≡ false → Lack ps → Lack (onto_first b ps)
onto_lacks b [] e h = (joined (not (b == slash)) true (not_false (b == slash) e) refl, tt)
onto_lacks b (p ∷ ps) e h = (joined (not (b == slash)) (lacks slash p) (not_false (b == slash) e) h.0, h.1)

parts_lack : (text : List ℕ) → Lack (parts text)
parts_lack [] = (refl, tt)
parts_lack (b ∷ bytes) = by (b == slash) refl (parts_lack bytes)
  where
    by : (t : Bool) → (b == slash) ≡ t → Lack (parts bytes) → Lack (cond t ([] ∷ parts bytes) (onto_first b (parts bytes)))
    by true e h = (refl, h)
    by false e h = onto_lacks b (parts bytes) e h

apart : (xs : List ℕ) → lacks slash xs ≡ true → All (λ b. (b == slash) ≡ false) xs
apart [] h k d l = absurd (omega arith)
apart (x ∷ xs) h zero d l = not_true (x == slash) (both (not (x == slash)) (lacks slash xs) h).0
apart (x ∷ xs) h (suc k) d l = apart xs (both (not (x == slash)) (lacks slash xs) h).1 k d (omega arith)

-- ---- both ways

in_a_row : (first second : List ℕ) → slash ∷ first ++ slash ∷ second ++ slash ∷ [] ≡ slash ∷ (first ++ (slash ∷ (second ++ (slash ∷ []))))
in_a_row first second = ap (λ t. slash ∷ t) (append_assoc first (slash ∷ second) (slash ∷ []))

named_parts : (text : List ℕ) (ps : List (List ℕ)) → parts text ≡ ps → are_two_names ps ≡ true → IsRoutingPrefix text
named_parts text ([] ∷ (x ∷ xs) ∷ (y ∷ ys) ∷ [] ∷ []) e h =
    let l = subst Lack e (parts_lack text) in
    let whole : join_with_byte slash (parts text) ≡ text = join_with_byte-slice_split slash text in
    record {
      first = x ∷ xs;
      second = y ∷ ys;
      first_is = record { some = λ e. cc; no_slash = l.1.0 };
      second_is = record { some = λ e. cc; no_slash = l.1.1.0 };
      is = sym whole ∙ ap (join_with_byte slash) e ∙ sym (in_a_row (x ∷ xs) (y ∷ ys));
    }
named_parts text _ e h = absurd (cc)

parts_of : (first second : List ℕ) → lacks slash first ≡ true → lacks slash second ≡ true
    → parts (slash ∷ (first ++ (slash ∷ (second ++ (slash ∷ []))))) ≡ [] ∷ first ∷ second ∷ [] ∷ []
parts_of first second h k =
    ap (λ ps. [] ∷ ps) (slice_split_at (λ b. b == slash) first slash (second ++ slash ∷ []) (apart first h) refl
    ∙ ap (λ ps. first ∷ ps) (slice_split_at (λ b. b == slash) second slash [] (apart second k) refl))

two_names : (first second : List ℕ) → first ≢ [] → second ≢ [] → are_two_names ([] ∷ first ∷ second ∷ [] ∷ []) ≡ true
two_names [] second h k = absurd (h refl)
two_names (x ∷ xs) [] h k = absurd (k refl)
two_names (x ∷ xs) (y ∷ ys) h k = refl

prefix_parts : (text : List ℕ) → IsRoutingPrefix text → are_two_names (parts text) ≡ true
prefix_parts text w =
    ap are_two_names (ap parts (w.is ∙ in_a_row w.first w.second) ∙ parts_of w.first w.second w.first_is.no_slash w.second_is.no_slash)
    ∙ two_names w.first w.second w.first_is.some w.second_is.some

pub alias_is : (text : List ℕ) → is_alias text ≡ true → IsAlias text
unfolding is_alias
alias_is text h =
    let two = both (are_two_names (parts text)) (list_all is_key_byte text) h in
    record { prefix = named_parts text (parts text) refl two.0; bytes = two.1 }

pub alias_from : (text : List ℕ) → IsAlias text → is_alias text ≡ true
unfolding is_alias
alias_from text w = joined (are_two_names (parts text)) (list_all is_key_byte text) (prefix_parts text w.prefix) w.bytes

-- ---- by the reading of key words

true_or_false : (b : Bool) → (b ≡ true → ⊥) → b ≡ false
true_or_false true h = absurd (h refl)
true_or_false false h = refl

-- a key word with something behind its prefix is no alias
pub word_no_alias : (text prefix rest : List ℕ) → IsCut text prefix rest → is_key_word rest ≡ true → is_alias text ≡ false
word_no_alias text prefix rest cut key =
    true_or_false (is_alias text) (λ e. let none : rest ≡ [] = no_rest text prefix rest (alias_is text e).prefix cut in
    let never : false ≡ true = subst (λ (r : List ℕ). is_key_word r ≡ true) none key in cc)

-- a key word is not empty
pub word_some : (bytes : List ℕ) → is_key_word bytes ≡ true → (length bytes == 0) ≡ false
word_some [] h = cc
word_some (b ∷ bytes) h = true_or_false (length (b ∷ bytes) == 0) (λ e. let none : length (b ∷ bytes) ≡ 0 = (Decides-eqb (length (b ∷ bytes)) 0).0 e in let never : ⊥ = omega arith in never)

no_alias : (text : List ℕ) → list_all is_key_byte text ≡ false → is_alias text ≡ false
no_alias text h = true_or_false (is_alias text) (λ e. let bytes : list_all is_key_byte text ≡ true = (alias_is text e).bytes in cc)

nothing_no_alias : is_alias [] ≡ false
unfolding is_alias
nothing_no_alias = refl

pub alias_by_fault : (text : List ℕ) (fault : KeyFault) → length text ≤ 40 → IsKeyFault text fault → is_no_rest fault ≡ is_alias text
alias_by_fault text Empty l h = sym (ap is_alias h ∙ nothing_no_alias)
alias_by_fault text TooLong l h = absurd (let n : ⊥ = omega (arith, h) in n)
alias_by_fault text BadByte l h = sym (no_alias text h.2)
alias_by_fault text NoRest l h =
    let bytes : list_all is_key_byte text ≡ true = (both _ _ (both _ _ h.0).1).1 in
    sym (alias_from text (record { prefix = h.1; bytes = bytes }))
