-- What the words of a pair's line are the words of.
use Rattle.std.proofs.Common.{◌≡◌, ◌≢◌, ◌∙◌, ℕ, ◌+◌, ◌<◌, ◌^◌, ◌==◌, List, [], ◌∷◌, ◌++◌, length, get_or, take, true, Bor, Option, Some, None, sym, ap, arith, map}
use Rattle.std.specs.Prelude.{codes, decimal}
use Rattle.std.specs.List.{All, slice_split}
use Rattle.std.proofs.lemmas.List.{get_or-map, length-map, take_all, take_more}
use Rattle.std.proofs.lemmas.List.Elements.{All-get_or}
use Rattle.mcv_base.specs.Position.{position_text}
use Rattle.mcv_cert.specs.Fits.{FitsPosition, FitsReason}
use Rattle.mcv_cert.specs.Pair.{ReasonValue, never, twin, same, all, names_legs}
use Rattle.mcv_cert.specs.Text.{reason_words}
use Rattle.mcv_cert.proofs.Joined.{position_split}

-- ---- numbers between dots

-- the part at a place is the text of the number there
pub part_is : (parts : List (List ℕ)) (ns : List ℕ) (k : ℕ) (part : List ℕ) → FitsPosition ns → parts ≡ map decimal ns → k < length parts → part ≡ get_or parts k part
    → (k < length ns) × (get_or ns k 0 < 2 ^ 64) × (part ≡ decimal (get_or ns k 0))
part_is parts ns k part fits is l at =
    let within : k < length ns = omega (arith, ap length is ∙ length-map ns decimal) in
    (within, All-get_or (λ n. n < 2 ^ 64) ns k 0 within fits, at ∙ ap (λ xs. get_or xs k part) is ∙ get_or-map decimal ns k 0 part within)

pub more_taken : {A : Type 0} (xs ys : List A) (k : ℕ) (x d : A) → k < length xs → ys ≡ take k xs → x ≡ get_or xs k d → ys ++ x ∷ [] ≡ take (k + 1) xs
more_taken xs ys k x d l are is = ap (λ zs. zs ++ x ∷ []) are ∙ ap (λ z. take k xs ++ z ∷ []) is ∙ sym (take_more xs k d l)

pub all_taken : (ns parts : List ℕ) (words : List (List ℕ)) (k : ℕ) → parts ≡ take k ns → k ≡ length words → words ≡ map decimal ns → parts ≡ ns
all_taken ns parts words k are sized is = are ∙ take_all k ns (omega (arith, sized, ap length is ∙ length-map ns decimal))

pub some_is : (x y : ℕ) → Some x ≡ Some y → x ≡ y
some_is x y e = cc

pub not_some : {G : Type 0} (o : Option ℕ) (y : ℕ) → o ≡ None → o ≡ Some y → G
not_some o y e f = absurd (let h : ◌≡◌ {A = Option ℕ} None (Some y) = sym e ∙ f in cc)

-- the parts between the dots of a position's text
pub parts_are : (p word : List ℕ) → FitsPosition p → word ≡ position_text p → word ≢ codes "-" → slice_split (λ b. b == 46) word ≡ map decimal p
parts_are [] word fits is other = absurd (other is)
parts_are (n ∷ ns) word fits is other = ap (slice_split (λ b. b == 46)) is ∙ position_split n ns fits

-- ---- words of positions

-- the word at a place is the text of the position there
pub word_is : (words : List (Bor (List ℕ))) (ps : List (List ℕ)) (i : ℕ) (d : Bor (List ℕ)) → i < length words → All FitsPosition ps → map (λ (w : Bor (List ℕ)). w.now) words ≡ map position_text ps
    → (i < length ps) × FitsPosition (get_or ps i []) × ((get_or words i d).now ≡ position_text (get_or ps i []))
word_is words ps i d l fits e =
    let within : i < length ps = omega (arith, length-map words (λ (w : Bor (List ℕ)). w.now), ap length e, length-map ps position_text) in
    (within, All-get_or FitsPosition ps i [] within fits, sym (get_or-map (λ (w : Bor (List ℕ)). w.now) words i d [] l) ∙ ap (λ xs. get_or xs i []) e ∙ get_or-map position_text ps i [] [] within)

-- ---- reasons

-- what holds for the words of each kind of reason
pub by_reason : (words : List (List ℕ)) (G : ReasonValue → Type 0)
    → (words ≡ codes "never" ∷ [] → G never)
    → ((p : List ℕ) → FitsPosition p → words ≡ codes "twin" ∷ position_text p ∷ [] → G (twin p))
    → ((i : ℕ) (p : List ℕ) → i < 2 ^ 64 → FitsPosition p → words ≡ codes "same" ∷ decimal i ∷ position_text p ∷ [] → G (same i p))
    → ((i : ℕ) (ps : List (List ℕ)) → i < 2 ^ 64 → All FitsPosition ps → names_legs (all i ps) ≡ true → words ≡ codes "all" ∷ decimal i ∷ map position_text ps → G (all i ps))
    → (r : ReasonValue) → FitsReason r → names_legs r ≡ true → words ≡ reason_words r → G r
by_reason words G n t s a never fits legs e = n e
by_reason words G n t s a (twin p) fits legs e = t p fits e
by_reason words G n t s a (same i p) fits legs e = s i p fits.0 fits.1 e
by_reason words G n t s a (all i ps) fits legs e = a i ps fits.0 fits.1 legs e
