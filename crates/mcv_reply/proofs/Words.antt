-- First words, and what they begin with.
use Rattle.std.proofs.Common.{◌≡◌, ℕ, ◌<◌, ◌≤◌, true, ltb, List, [], ◌∷◌, length, refl, ◌∙◌, arith}
use Rattle.std.specs.List.{list_all}
use Rattle.std.proofs.lemmas.Bool.{and_parts, ltb-true, leb-true, lt-ltb, and_from}
use Rattle.mcv_base.specs.Key.{is_key_byte, is_key_word}
use Rattle.mcv_reply.specs.declared.word.Word.{Word}
use Rattle.mcv_reply.specs.declared.word.Word.TheVariants.{End, Value, Stored, NotStored, Exists, NotFound, Deleted, Touched, Count, Error, ClientError, ServerError, Version}
use Rattle.mcv_reply.specs.declared.candidate.Name.{Name}
use Rattle.mcv_reply.specs.declared.candidate.Name.TheVariants.{First, Key}
use Rattle.mcv_reply.specs.Word.{word_text}
use Rattle.mcv_reply.specs.Line.{word}
use Rattle.mcv_reply.specs.Candidate.{is_clean, name_text}
use Rattle.mcv_reply.proofs.Writing.{Starts}

pub word_clean : (first : Word) → is_clean (word_text first) ≡ true
word_clean End = refl
word_clean Value = refl
word_clean Stored = refl
word_clean NotStored = refl
word_clean Exists = refl
word_clean NotFound = refl
word_clean Deleted = refl
word_clean Touched = refl
word_clean Count = refl
word_clean Error = refl
word_clean ClientError = refl
word_clean ServerError = refl
word_clean Version = refl

pub name_clean : (name : Name) (first : Word) (key : List ℕ) → is_clean key ≡ true → is_clean (name_text name first key) ≡ true
name_clean First first key clean = word_clean first
name_clean Key first key clean = clean

pub clean_starts : (bytes : List ℕ) → is_clean bytes ≡ true → (h : ℕ) × (t : List ℕ) × (bytes ≡ h ∷ t) × (32 < h)
clean_starts [] clean = absurd (cc)
clean_starts (h ∷ t) clean = (h, t, refl, ltb-true 32 h (and_parts _ _ (and_parts _ _ clean).1).0)

pub word_starts : (bytes : List ℕ) → is_clean bytes ≡ true → Starts (word bytes)
word_starts bytes clean w is = let at = clean_starts bytes clean in (at.0, at.1, is ∙ at.2, at.3)

visible : (key : List ℕ) → list_all is_key_byte key ≡ true → list_all (λ b. ltb 32 b) key ≡ true
visible [] all = refl
visible (b ∷ key) all =
    let parts = and_parts _ _ all in
    and_from _ _ (lt-ltb 32 b (let low : 33 ≤ b = leb-true 33 b (and_parts _ _ parts.0).0 in omega arith)) (visible key parts.1)

-- a key word is one
pub key_clean : (key : List ℕ) → is_key_word key ≡ true → is_clean key ≡ true
key_clean key is = let parts = and_parts _ _ is in and_from _ _ parts.0 (visible key (and_parts _ _ parts.1).1)

pub key_short : (key : List ℕ) → is_key_word key ≡ true → length key ≤ 250
key_short key is = let parts = and_parts _ _ is in leb-true _ _ (and_parts _ _ parts.1).0
