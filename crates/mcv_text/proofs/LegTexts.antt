-- What a leg sends is read as its request.
use Rattle.std.proofs.Common.{◌≡◌, ◌≢◌, ℕ, suc, ◌+◌, ◌-◌, ◌*◌, ◌<◌, ◌≤◌, ◌^◌, true, false, cond, not, nat_eq, ◌&&◌, List, [], ◌∷◌, ◌++◌, length, get_or, take, refl, sym, ap, subst, ◌∙◌, arith, append_assoc, Option, Some, None, ltb, leb, codes, decimal}
use Rattle.std.specs.Prelude.{ℤ, pos, negsuc, neg_ℤ}
use Rattle.std.specs.Fmt.{signed_decimal}
use Rattle.std.specs.List.{All, AllByRecursion, filter, slice_split, list_all}
use Rattle.std.specs.Option.{option_map}
use Rattle.std.specs.Str.Parse.{IsNumeral}
use Rattle.std.specs.Str.Lines.{strip_carriage_return}
use Rattle.std.proofs.lemmas.Bool.{ne_eqb, le-ltb, ltb-true, leb-true, and_parts}
use Rattle.std.proofs.lemmas.List.{get_or_at, take_at, length-append, append-nil}
use Rattle.std.proofs.lemmas.List.Elements.{All-from_get_or, All-weaker, All-from_recursion, All-append}
use Rattle.std.proofs.lemmas.List.Splits.{slice_split_none, slice_split_at}
use Rattle.std.proofs.lemmas.Str.Parse.{digit_at}
use Rattle.std.proofs.lemmas.Fmt.{decimal_is_IsNumeral, length-decimal-le}
use Rattle.mcv_base.specs.declared.operation.Op.{Op}
use Rattle.mcv_base.specs.declared.operation.Op.TheVariants as ops
use Rattle.mcv_base.specs.Operation.{op_name}
use Rattle.mcv_base.specs.Key.{is_key_word, is_key_byte}
use Rattle.mcv_text.specs.Request.{AskValue, asking, ItemValue, asked, with_body}
use Rattle.mcv_text.specs.Words.{is_space, words, number_said, number32_said, number64_said, signed_said, IsNumber}
use Rattle.mcv_text.specs.Line.{LineValue, whole, stores, bad, too_large, value_limit, reads, plain, storing, storing_said, cas_said, adjusting_said, said, meaning}
use Rattle.mcv_text.specs.Stream.{Held, IsLine, by_line, AfterLine, stored, in_line, Reads}
use Rattle.mcv_text.specs.Answer.{line_end}
use Rattle.mcv_text.specs.Leg.{LegValue, leg_text, leg_ask, IsWholeLeg, IsBare, IsStoring, IsCas, IsTouch, IsAdjusting, IsSigned64, HasFields}
use Rattle.mcv_text.proofs.Numbers.{number_is}

-- a word of a leg: 1 to 250 bytes, none of them a space or below
pub record IsWord (word : List ℕ) : Type 0 where
  pub some : 0 < length word
  pub short : length word ≤ 250
  pub bare : All (λ b. 33 ≤ b) word

abbrev pub joined : List ℕ → List (List ℕ) → List ℕ
joined word [] = word
joined word (next ∷ more) = word ++ 32 ∷ joined next more

no_space : (word : List ℕ) → IsWord word → All (λ b. is_space b ≡ false) word
no_space word is = All-weaker (λ b. 33 ≤ b) (λ b. is_space b ≡ false) (λ b h. ne_eqb b 32 (omega arith)) word is.bare

no_end : (word : List ℕ) → IsWord word → All (λ b. b ≢ 10) word
no_end word is = All-weaker (λ b. 33 ≤ b) (λ b. b ≢ 10) (λ b h e. omega arith) word is.bare

some_word : (word : List ℕ) → 0 < length word → not (nat_eq (length word) 0) ≡ true
some_word [] l = absurd (omega arith)
some_word (b ∷ word) l = ap not (ne_eqb (suc (length word)) 0 (λ e. omega arith))

keep : (word : List ℕ) (more : List (List ℕ)) → 0 < length word → filter (λ (w : List ℕ). not (nat_eq (length w) 0)) (word ∷ more) ≡ word ∷ filter (λ (w : List ℕ). not (nat_eq (length w) 0)) more
keep word more l = ap (λ t. cond t (word ∷ filter (λ (w : List ℕ). not (nat_eq (length w) 0)) more) (filter (λ (w : List ℕ). not (nat_eq (length w) 0)) more)) (some_word word l)

-- words that are joined by single spaces are those words again
words_joined : (word : List ℕ) (more : List (List ℕ)) → IsWord word → AllByRecursion IsWord more → words (joined word more) ≡ word ∷ more
words_joined word [] is all = ap (filter (λ (w : List ℕ). not (nat_eq (length w) 0))) (slice_split_none is_space word (no_space word is)) ∙ keep word [] is.some
words_joined word (next ∷ more) is all =
    ap (filter (λ (w : List ℕ). not (nat_eq (length w) 0))) (slice_split_at is_space word 32 (joined next more) (no_space word is) refl)
    ∙ keep word (slice_split is_space (joined next more)) is.some
    ∙ ap (λ t. word ∷ t) (words_joined next more all.0 all.1)

none_here : (b : ℕ) (bytes : List ℕ) → b ≢ 10 → All (λ b. b ≢ 10) bytes → All (λ b. b ≢ 10) (b ∷ bytes)
none_here b bytes n all = All-append (λ b. b ≢ 10) (b ∷ []) bytes (All-from_recursion (λ b. b ≢ 10) (b ∷ []) (n, tt)) all

joined_ends : (word : List ℕ) (more : List (List ℕ)) → IsWord word → AllByRecursion IsWord more → All (λ b. b ≢ 10) (joined word more)
joined_ends word [] is all = no_end word is
joined_ends word (next ∷ more) is all = All-append (λ b. b ≢ 10) word (32 ∷ joined next more) (no_end word is) (none_here 32 (joined next more) (λ e. omega arith) (joined_ends next more all.0 all.1))

joined_short : (word : List ℕ) (more : List (List ℕ)) → IsWord word → AllByRecursion IsWord more → length (joined word more) ≤ 251 * (1 + length more)
joined_short word [] is all = let short : length word ≤ 250 = is.short in omega arith
joined_short word (next ∷ more) is all = let short : length word ≤ 250 = is.short in omega (arith, length-append word (32 ∷ joined next more), joined_short next more all.0 all.1)

strip_push : (l : List ℕ) → strip_carriage_return (l ++ 13 ∷ []) ≡ l
strip_push l =
    let n : length (l ++ 13 ∷ []) - 1 ≡ length l = omega (arith, length-append l (13 ∷ [])) in
    let last : get_or (l ++ 13 ∷ []) (length (l ++ 13 ∷ []) - 1) 0 ≡ 13 = ap (λ k. get_or (l ++ 13 ∷ []) k 0) n ∙ get_or_at l 13 [] 0 (length l) refl in
    ap (λ b. cond (nat_eq b 13) (take (length (l ++ 13 ∷ []) - 1) (l ++ 13 ∷ [])) (l ++ 13 ∷ [])) last ∙ ap (λ k. take k (l ++ 13 ∷ [])) n ∙ take_at l (13 ∷ []) (length l) refl

line_is : (word : List ℕ) (more : List (List ℕ)) → IsWord word → AllByRecursion IsWord more → length more ≤ 6 → IsLine (joined word more ++ 13 ∷ [])
line_is word more is all few = record {
  no_end = All-append (λ b. b ≢ 10) (joined word more) (13 ∷ []) (joined_ends word more is all) (All-from_recursion (λ b. b ≢ 10) (13 ∷ []) ((λ e. omega arith), tt));
  short = omega (arith, length-append (joined word more) (13 ∷ []), joined_short word more is all);
}

line_means : (word : List ℕ) (more : List (List ℕ)) → IsWord word → AllByRecursion IsWord more → meaning (joined word more ++ 13 ∷ []) ≡ said (word ∷ more)
unfolding meaning
line_means word more is all = ap said (ap words (strip_push (joined word more)) ∙ words_joined word more is all)

empty_is : Reads (Held []) [] (Held [])
empty_is = (in_line (record { no_end = All-from_recursion (λ b. b ≢ 10) [] tt; short = omega arith }), refl)

-- a line of single spaces, and what comes behind it
line_reads : (word : List ℕ) (more : List (List ℕ)) (block : List ℕ) (means : LineValue) (item : ItemValue) (text : List ℕ)
    → IsWord word → AllByRecursion IsWord more → length more ≤ 6 → said (word ∷ more) ≡ means → AfterLine means block item (Held [])
    → text ≡ (joined word more ++ 13 ∷ []) ++ 10 ∷ block → Reads (Held text) (item ∷ []) (Held [])
line_reads word more block means item text is all few says after e =
    let line : IsLine (joined word more ++ 13 ∷ []) = line_is word more is all few in
    let here : AfterLine (meaning (joined word more ++ 13 ∷ [])) block item (Held []) = subst (λ (m : LineValue). AfterLine m block item (Held [])) (sym (line_means word more is all ∙ says)) after in
    (Held [], by_line (joined word more ++ 13 ∷ []) block line e here, empty_is)

-- numbers

digits_word : (ds : List ℕ) → IsNumeral 10 ds → length ds ≤ 20 → IsWord ds
digits_word ds is short = record {
  some = is.0;
  short = omega arith;
  bare = All-from_get_or (λ b. 33 ≤ b) ds 0 (λ i below. let d = digit_at ds i is.1 below in omega (arith, d));
}

decimal_word : (n : ℕ) → n < 2 ^ 64 → IsWord (decimal n)
decimal_word n l = digits_word (decimal n) (decimal_is_IsNumeral n l).0 (length-decimal-le 20 n (omega arith) (omega arith) l)

signed_word : (z : ℤ) → IsSigned64 z → IsWord (signed_decimal z)
signed_word (pos n) l = decimal_word n (omega arith)
signed_word (negsuc n) l =
    let is : IsWord (decimal (suc n)) = decimal_word (suc n) (omega arith) in
    let short : length (decimal (suc n)) ≤ 20 = length-decimal-le 20 (suc n) (omega arith) (omega arith) (omega arith) in
    record {
      some = omega arith;
      short = omega arith;
      bare = All-append (λ b. 33 ≤ b) (45 ∷ []) (decimal (suc n)) (All-from_recursion (λ b. 33 ≤ b) (45 ∷ []) (omega arith, tt)) is.bare;
    }

number_reads : (limit n : ℕ) → n ≤ limit → n < 2 ^ 64 → number_said limit (decimal n) ≡ Some n
number_reads limit n l small = sym (number_is (decimal n) limit (Some n) (decimal_is_IsNumeral n small, l))

-- a numeral has no minus sign
unsigned_reads : (word : List ℕ) (n : ℕ) → IsNumber word n → n < 2 ^ 63 → signed_said word ≡ Some (pos n)
unsigned_reads [] n is l = absurd (omega (arith, is.0.0))
unsigned_reads (b ∷ digits) n is l =
    let digit = digit_at (b ∷ digits) 0 is.0.1 (omega arith) in
    let sign : nat_eq b 45 ≡ false = ne_eqb b 45 (omega (arith, digit)) in
    ap (λ t. cond t (option_map (λ n. neg_ℤ (pos n)) (number_said (2 ^ 63) digits)) (option_map (λ n. pos n) (number_said (2 ^ 63 - 1) (b ∷ digits)))) sign
    ∙ ap (option_map (λ n. pos n)) (sym (number_is (b ∷ digits) (2 ^ 63 - 1) (Some n) (is, omega arith)))

signed_reads : (z : ℤ) → IsSigned64 z → signed_said (signed_decimal z) ≡ Some z
signed_reads (pos n) l = unsigned_reads (decimal n) n (decimal_is_IsNumeral n (omega arith)) l
signed_reads (negsuc n) l = ap (option_map (λ n. neg_ℤ (pos n))) (number_reads (2 ^ 63) (suc n) (omega arith) (omega arith))

-- key words

key_bytes : (word : List ℕ) → list_all is_key_byte word ≡ true → AllByRecursion (λ b. 33 ≤ b) word
key_bytes [] e = tt
key_bytes (b ∷ word) e =
    let both = and_parts (is_key_byte b) (list_all is_key_byte word) e in
    let byte = and_parts (leb 33 b) (not (nat_eq b 127)) both.0 in
    (leb-true 33 b byte.0, key_bytes word both.1)

key_word : (word : List ℕ) → is_key_word word ≡ true → IsWord word
key_word word e =
    let both = and_parts (ltb 0 (length word)) (leb (length word) 250 && list_all is_key_byte word) e in
    let more = and_parts (leb (length word) 250) (list_all is_key_byte word) both.1 in
    record { some = ltb-true 0 (length word) both.0; short = leb-true (length word) 250 more.0; bare = All-from_recursion (λ b. 33 ≤ b) word (key_bytes word more.1) }

abbrev ask_of : Op → List ℕ → ℕ → ℤ → List ℕ → Option ℕ → ℕ → AskValue
ask_of op rest f e body cas d = record { op = op; keys = rest ∷ []; flags = f; exptime = e; body = body; cas = cas; delta = d; noreply = false }

abbrev leg_of : Op → List ℕ → ℕ → ℤ → List ℕ → Option ℕ → ℕ → LegValue
leg_of op rest f e body cas d = record { op = op; rest = rest; flags = f; exptime = e; body = body; cas = cas; delta = d }

plain_key : (op : Op) (rest : List ℕ) (e : ℤ) (d : ℕ) → is_key_word rest ≡ true → plain op (rest ∷ []) e d false ≡ whole (asking (ask_of op rest 0 e [] None d))
plain_key op rest e d key = ap (λ t. cond (t && true) (whole (asking (ask_of op rest 0 e [] None d))) bad) key

storing_key : (op : Op) (rest : List ℕ) (f : ℕ) (e : ℤ) (n : ℕ) (cas : Option ℕ) → is_key_word rest ≡ true → n ≤ 1048576 → storing op rest f e n cas false ≡ stores (ask_of op rest f e [] cas 0) n
storing_key op rest f e n cas key l =
    ap (λ t. cond t (cond (ltb value_limit n) (too_large n) (stores (ask_of op rest f e [] cas 0) n)) bad) key
    ∙ ap (λ t. cond t (too_large n) (stores (ask_of op rest f e [] cas 0) n)) (le-ltb value_limit n l)

storing_words : (op : Op) (rest F E N : List ℕ) (f : ℕ) (e : ℤ) (n : ℕ) → number32_said F ≡ Some f → signed_said E ≡ Some e → number32_said N ≡ Some n → storing_said op (rest ∷ F ∷ E ∷ N ∷ []) ≡ storing op rest f e n None false
storing_words op rest F E N f e n ef ee en =
    ap (λ o. reads o (λ f. reads (signed_said E) (λ e. reads (number32_said N) (λ n. storing op rest f e n None false)))) ef
    ∙ ap (λ o. reads o (λ e. reads (number32_said N) (λ n. storing op rest f e n None false))) ee
    ∙ ap (λ o. reads o (λ n. storing op rest f e n None false)) en

cas_words : (rest F E N C : List ℕ) (f : ℕ) (e : ℤ) (n c : ℕ) → number32_said F ≡ Some f → signed_said E ≡ Some e → number32_said N ≡ Some n → number64_said C ≡ Some c → cas_said (rest ∷ F ∷ E ∷ N ∷ C ∷ []) ≡ storing ops.Cas rest f e n (Some c) false
cas_words rest F E N C f e n c ef ee en ec =
    ap (λ o. reads o (λ f. reads (signed_said E) (λ e. reads (number32_said N) (λ n. reads (number64_said C) (λ c. storing ops.Cas rest f e n (Some c) false))))) ef
    ∙ ap (λ o. reads o (λ e. reads (number32_said N) (λ n. reads (number64_said C) (λ c. storing ops.Cas rest f e n (Some c) false)))) ee
    ∙ ap (λ o. reads o (λ n. reads (number64_said C) (λ c. storing ops.Cas rest f e n (Some c) false))) en
    ∙ ap (λ o. reads o (λ c. storing ops.Cas rest f e n (Some c) false)) ec

-- texts

-- as a leg's text is written: the name, the key, the words behind it, and what comes behind the line
abbrev spelled : List ℕ → List ℕ → List ℕ → List ℕ → List ℕ
spelled name rest more block = name ++ codes " " ++ rest ++ more ++ line_end ++ block

two_words : (a b s t u block : List ℕ) → a ++ s ++ b ++ [] ++ (t ++ u) ++ block ≡ ((a ++ (s ++ b)) ++ t) ++ (u ++ block)
two_words a b s t u block = simp (append_assoc, append-nil)

three_words : (a b c s t u block : List ℕ) → a ++ s ++ b ++ (s ++ c) ++ (t ++ u) ++ block ≡ ((a ++ (s ++ (b ++ (s ++ c)))) ++ t) ++ (u ++ block)
three_words a b c s t u block = simp append_assoc

five_words : (a b c d e s t u block : List ℕ) → a ++ s ++ b ++ (s ++ c ++ s ++ d ++ s ++ e) ++ (t ++ u) ++ block ≡ ((a ++ (s ++ (b ++ (s ++ (c ++ (s ++ (d ++ (s ++ e)))))))) ++ t) ++ (u ++ block)
five_words a b c d e s t u block = simp append_assoc

six_words : (a b c d e f s t u block : List ℕ) → a ++ s ++ b ++ (s ++ c ++ s ++ d ++ s ++ e ++ s ++ f) ++ (t ++ u) ++ block ≡ ((a ++ (s ++ (b ++ (s ++ (c ++ (s ++ (d ++ (s ++ (e ++ (s ++ f)))))))))) ++ t) ++ (u ++ block)
six_words a b c d e f s t u block = simp append_assoc

-- operations

name_word : (op : Op) → IsWord (op_name op)
name_word ops.Get = record { some = omega arith; short = omega arith; bare = All-from_recursion (λ b. 33 ≤ b) (codes "get") (omega arith, (omega arith, (omega arith, tt))) }
name_word ops.Gets = record { some = omega arith; short = omega arith; bare = All-from_recursion (λ b. 33 ≤ b) (codes "gets") (omega arith, (omega arith, (omega arith, (omega arith, tt)))) }
name_word ops.Set = record { some = omega arith; short = omega arith; bare = All-from_recursion (λ b. 33 ≤ b) (codes "set") (omega arith, (omega arith, (omega arith, tt))) }
name_word ops.Add = record { some = omega arith; short = omega arith; bare = All-from_recursion (λ b. 33 ≤ b) (codes "add") (omega arith, (omega arith, (omega arith, tt))) }
name_word ops.Replace = record { some = omega arith; short = omega arith; bare = All-from_recursion (λ b. 33 ≤ b) (codes "replace") (omega arith, (omega arith, (omega arith, (omega arith, (omega arith, (omega arith, (omega arith, tt))))))) }
name_word ops.Append = record { some = omega arith; short = omega arith; bare = All-from_recursion (λ b. 33 ≤ b) (codes "append") (omega arith, (omega arith, (omega arith, (omega arith, (omega arith, (omega arith, tt)))))) }
name_word ops.Prepend = record { some = omega arith; short = omega arith; bare = All-from_recursion (λ b. 33 ≤ b) (codes "prepend") (omega arith, (omega arith, (omega arith, (omega arith, (omega arith, (omega arith, (omega arith, tt))))))) }
name_word ops.Cas = record { some = omega arith; short = omega arith; bare = All-from_recursion (λ b. 33 ≤ b) (codes "cas") (omega arith, (omega arith, (omega arith, tt))) }
name_word ops.Delete = record { some = omega arith; short = omega arith; bare = All-from_recursion (λ b. 33 ≤ b) (codes "delete") (omega arith, (omega arith, (omega arith, (omega arith, (omega arith, (omega arith, tt)))))) }
name_word ops.Touch = record { some = omega arith; short = omega arith; bare = All-from_recursion (λ b. 33 ≤ b) (codes "touch") (omega arith, (omega arith, (omega arith, (omega arith, (omega arith, tt))))) }
name_word ops.Incr = record { some = omega arith; short = omega arith; bare = All-from_recursion (λ b. 33 ≤ b) (codes "incr") (omega arith, (omega arith, (omega arith, (omega arith, tt)))) }
name_word ops.Decr = record { some = omega arith; short = omega arith; bare = All-from_recursion (λ b. 33 ≤ b) (codes "decr") (omega arith, (omega arith, (omega arith, (omega arith, tt)))) }

-- an operation with a key alone
bare_reads : (op : Op) (rest : List ℕ) → is_key_word rest ≡ true → said (op_name op ∷ rest ∷ []) ≡ plain op (rest ∷ []) (pos 0) 0 false
    → Reads (Held (spelled (op_name op) rest [] [])) (asked (asking (ask_of op rest 0 (pos 0) [] None 0)) ∷ []) (Held [])
bare_reads op rest key says =
    line_reads (op_name op) (rest ∷ []) [] (whole (asking (ask_of op rest 0 (pos 0) [] None 0))) _ _ (name_word op) (key_word rest key, tt) (omega arith)
    (says ∙ plain_key op rest (pos 0) 0 key) (refl, refl) (two_words (op_name op) rest (32 ∷ []) (13 ∷ []) (10 ∷ []) [])

touch_reads : (rest : List ℕ) (e : ℤ) → is_key_word rest ≡ true → IsSigned64 e
    → Reads (Held (spelled (codes "touch") rest (codes " " ++ signed_decimal e) [])) (asked (asking (ask_of ops.Touch rest 0 e [] None 0)) ∷ []) (Held [])
touch_reads rest e key l =
    line_reads (codes "touch") (rest ∷ signed_decimal e ∷ []) [] (whole (asking (ask_of ops.Touch rest 0 e [] None 0))) _ _ (name_word ops.Touch) (key_word rest key, (signed_word e l, tt)) (omega arith)
    (ap (λ o. reads o (λ e. plain ops.Touch (rest ∷ []) e 0 false)) (signed_reads e l) ∙ plain_key ops.Touch rest e 0 key) (refl, refl) (three_words (codes "touch") rest (signed_decimal e) (32 ∷ []) (13 ∷ []) (10 ∷ []) [])

value_reads : (ask : AskValue) (body : List ℕ) → AfterLine (stores ask (length body)) (body ++ 13 ∷ 10 ∷ []) (asked (asking (with_body ask body))) (Held [])
value_reads ask body = stored body [] refl refl

storing_reads : (op : Op) (rest : List ℕ) (f : ℕ) (e : ℤ) (body : List ℕ) → is_key_word rest ≡ true → f < 2 ^ 32 → IsSigned64 e → length body ≤ 1048576
    → ((arguments : List (List ℕ)) → said (op_name op ∷ arguments) ≡ storing_said op arguments)
    → Reads (Held (spelled (op_name op) rest (codes " " ++ decimal f ++ codes " " ++ signed_decimal e ++ codes " " ++ decimal (length body)) (body ++ line_end))) (asked (asking (ask_of op rest f e body None 0)) ∷ []) (Held [])
storing_reads op rest f e body key small signed short says =
    let n : ℕ = length body in
    line_reads (op_name op) (rest ∷ decimal f ∷ signed_decimal e ∷ decimal n ∷ []) (body ++ 13 ∷ 10 ∷ []) (stores (ask_of op rest f e [] None 0) n) _ _
    (name_word op) (key_word rest key, (decimal_word f (omega arith), (signed_word e signed, (decimal_word n (omega arith), tt)))) (omega arith)
    (says (rest ∷ decimal f ∷ signed_decimal e ∷ decimal n ∷ [])
    ∙ storing_words op rest (decimal f) (signed_decimal e) (decimal n) f e n (number_reads (2 ^ 32 - 1) f (omega arith) (omega arith)) (signed_reads e signed) (number_reads (2 ^ 32 - 1) n (omega arith) (omega arith))
    ∙ storing_key op rest f e n None key short)
    (value_reads (ask_of op rest f e [] None 0) body) (five_words (op_name op) rest (decimal f) (signed_decimal e) (decimal n) (32 ∷ []) (13 ∷ []) (10 ∷ []) (body ++ 13 ∷ 10 ∷ []))

cas_reads : (rest : List ℕ) (f : ℕ) (e : ℤ) (body : List ℕ) (c : ℕ) → is_key_word rest ≡ true → f < 2 ^ 32 → IsSigned64 e → length body ≤ 1048576 → c < 2 ^ 64
    → Reads (Held (spelled (codes "cas") rest (codes " " ++ decimal f ++ codes " " ++ signed_decimal e ++ codes " " ++ decimal (length body) ++ codes " " ++ decimal c) (body ++ line_end))) (asked (asking (ask_of ops.Cas rest f e body (Some c) 0)) ∷ []) (Held [])
cas_reads rest f e body c key small signed short unique =
    let n : ℕ = length body in
    line_reads (codes "cas") (rest ∷ decimal f ∷ signed_decimal e ∷ decimal n ∷ decimal c ∷ []) (body ++ 13 ∷ 10 ∷ []) (stores (ask_of ops.Cas rest f e [] (Some c) 0) n) _ _
    (name_word ops.Cas) (key_word rest key, (decimal_word f (omega arith), (signed_word e signed, (decimal_word n (omega arith), (decimal_word c unique, tt))))) (omega arith)
    (cas_words rest (decimal f) (signed_decimal e) (decimal n) (decimal c) f e n c (number_reads (2 ^ 32 - 1) f (omega arith) (omega arith)) (signed_reads e signed) (number_reads (2 ^ 32 - 1) n (omega arith) (omega arith)) (number_reads (2 ^ 64 - 1) c (omega arith) unique)
    ∙ storing_key ops.Cas rest f e n (Some c) key short)
    (value_reads (ask_of ops.Cas rest f e [] (Some c) 0) body) (six_words (codes "cas") rest (decimal f) (signed_decimal e) (decimal n) (decimal c) (32 ∷ []) (13 ∷ []) (10 ∷ []) (body ++ 13 ∷ 10 ∷ []))

adjusting_reads : (op : Op) (rest : List ℕ) (d : ℕ) → is_key_word rest ≡ true → d < 2 ^ 64 → ((arguments : List (List ℕ)) → said (op_name op ∷ arguments) ≡ adjusting_said op arguments)
    → Reads (Held (spelled (op_name op) rest (codes " " ++ decimal d) [])) (asked (asking (ask_of op rest 0 (pos 0) [] None d)) ∷ []) (Held [])
adjusting_reads op rest d key l says =
    line_reads (op_name op) (rest ∷ decimal d ∷ []) [] (whole (asking (ask_of op rest 0 (pos 0) [] None d))) _ _ (name_word op) (key_word rest key, (decimal_word d l, tt)) (omega arith)
    (says (rest ∷ decimal d ∷ []) ∙ ap (λ o. reads o (λ n. plain op (rest ∷ []) (pos 0) n false)) (number_reads (2 ^ 64 - 1) d (omega arith) l) ∙ plain_key op rest (pos 0) d key) (refl, refl) (three_words (op_name op) rest (decimal d) (32 ∷ []) (13 ∷ []) (10 ∷ []) [])

-- with the fields that the operation hasn't

abbrev ReadsAsked : List ℕ → AskValue → Type 0
ReadsAsked text ask = Reads (Held text) (asked (asking ask) ∷ []) (Held [])

bare_leg : (op : Op) (leg : LegValue) (text : List ℕ) → IsBare leg → ReadsAsked text (ask_of op leg.rest 0 (pos 0) [] None 0) → ReadsAsked text (ask_of op leg.rest leg.flags leg.exptime leg.body leg.cas leg.delta)
bare_leg op leg text is reads =
    let same : ask_of op leg.rest 0 (pos 0) [] None 0 ≡ ask_of op leg.rest leg.flags leg.exptime leg.body leg.cas leg.delta = cc (is.flags, is.exptime, is.body, is.cas, is.delta) in
    subst (λ (ask : AskValue). ReadsAsked text ask) same reads

touch_leg : (leg : LegValue) (text : List ℕ) → IsTouch leg → ReadsAsked text (ask_of ops.Touch leg.rest 0 leg.exptime [] None 0) → ReadsAsked text (ask_of ops.Touch leg.rest leg.flags leg.exptime leg.body leg.cas leg.delta)
touch_leg leg text is reads =
    let same : ask_of ops.Touch leg.rest 0 leg.exptime [] None 0 ≡ ask_of ops.Touch leg.rest leg.flags leg.exptime leg.body leg.cas leg.delta = cc (is.flags, is.body, is.cas, is.delta) in
    subst (λ (ask : AskValue). ReadsAsked text ask) same reads

adjusting_leg : (op : Op) (leg : LegValue) (text : List ℕ) → IsAdjusting leg → ReadsAsked text (ask_of op leg.rest 0 (pos 0) [] None leg.delta) → ReadsAsked text (ask_of op leg.rest leg.flags leg.exptime leg.body leg.cas leg.delta)
adjusting_leg op leg text is reads =
    let same : ask_of op leg.rest 0 (pos 0) [] None leg.delta ≡ ask_of op leg.rest leg.flags leg.exptime leg.body leg.cas leg.delta = cc (is.flags, is.exptime, is.body, is.cas) in
    subst (λ (ask : AskValue). ReadsAsked text ask) same reads

cas_free : (op : Op) (leg : LegValue) (text : List ℕ) → leg.cas ≡ None → leg.delta ≡ 0 → ReadsAsked text (ask_of op leg.rest leg.flags leg.exptime leg.body None 0) → ReadsAsked text (ask_of op leg.rest leg.flags leg.exptime leg.body leg.cas leg.delta)
cas_free op leg text none zero reads =
    let same : ask_of op leg.rest leg.flags leg.exptime leg.body None 0 ≡ ask_of op leg.rest leg.flags leg.exptime leg.body leg.cas leg.delta = cc (none, zero) in
    subst (λ (ask : AskValue). ReadsAsked text ask) same reads

storing_leg : (op : Op) (leg : LegValue) → is_key_word leg.rest ≡ true → IsStoring leg → ((arguments : List (List ℕ)) → said (op_name op ∷ arguments) ≡ storing_said op arguments)
    → ReadsAsked (spelled (op_name op) leg.rest (codes " " ++ decimal leg.flags ++ codes " " ++ signed_decimal leg.exptime ++ codes " " ++ decimal (length leg.body)) (leg.body ++ line_end)) (ask_of op leg.rest leg.flags leg.exptime leg.body leg.cas leg.delta)
storing_leg op leg key is says = cas_free op leg _ is.cas is.delta (storing_reads op leg.rest leg.flags leg.exptime leg.body key is.flags is.exptime is.body says)

cas_leg : (leg : LegValue) → is_key_word leg.rest ≡ true → IsCas leg → ReadsAsked (leg_text (record leg { op = ops.Cas })) (ask_of ops.Cas leg.rest leg.flags leg.exptime leg.body leg.cas leg.delta)
cas_leg leg key is =
    subst (λ (d : ℕ). ReadsAsked (leg_text (leg_of ops.Cas leg.rest leg.flags leg.exptime leg.body leg.cas d)) (ask_of ops.Cas leg.rest leg.flags leg.exptime leg.body leg.cas d)) (sym is.delta)
    (subst (λ (cas : Option ℕ). ReadsAsked (leg_text (leg_of ops.Cas leg.rest leg.flags leg.exptime leg.body cas 0)) (ask_of ops.Cas leg.rest leg.flags leg.exptime leg.body cas 0)) (sym is.cas)
    (cas_reads leg.rest leg.flags leg.exptime leg.body is.number key is.flags is.exptime is.body is.small))

by_op : (op : Op) (leg : LegValue) → is_key_word leg.rest ≡ true → HasFields op leg → ReadsAsked (leg_text (record leg { op = op })) (ask_of op leg.rest leg.flags leg.exptime leg.body leg.cas leg.delta)
by_op ops.Get leg key is = bare_leg ops.Get leg _ is (bare_reads ops.Get leg.rest key refl)
by_op ops.Gets leg key is = bare_leg ops.Gets leg _ is (bare_reads ops.Gets leg.rest key refl)
by_op ops.Set leg key is = storing_leg ops.Set leg key is (λ arguments. refl)
by_op ops.Add leg key is = storing_leg ops.Add leg key is (λ arguments. refl)
by_op ops.Replace leg key is = storing_leg ops.Replace leg key is (λ arguments. refl)
by_op ops.Append leg key is = storing_leg ops.Append leg key is (λ arguments. refl)
by_op ops.Prepend leg key is = storing_leg ops.Prepend leg key is (λ arguments. refl)
by_op ops.Cas leg key is = cas_leg leg key is
by_op ops.Delete leg key is = bare_leg ops.Delete leg _ is (bare_reads ops.Delete leg.rest key refl)
by_op ops.Touch leg key is = touch_leg leg _ is (touch_reads leg.rest leg.exptime key is.exptime)
by_op ops.Incr leg key is = adjusting_leg ops.Incr leg _ is (adjusting_reads ops.Incr leg.rest leg.delta key is.delta (λ arguments. refl))
by_op ops.Decr leg key is = adjusting_leg ops.Decr leg _ is (adjusting_reads ops.Decr leg.rest leg.delta key is.delta (λ arguments. refl))

pub leg_reads : (leg : LegValue) → IsWholeLeg leg → Reads (Held (leg_text leg)) (asked (asking (leg_ask leg)) ∷ []) (Held [])
leg_reads leg is = by_op leg.op leg is.rest is.fields
