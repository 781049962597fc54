-- Lines with too few words, and lines that name no operation.
use Rattle.std.proofs.Common.{◌≡◌, ◌≢◌, ℕ, ◌-◌, ◌<◌, ◌≤◌, Bool, true, false, cond, List, [], ◌∷◌, length, get_or, take, drop, map, Bor, Option, Some, None, refl, sym, ap, ◌∙◌, arith, codes}
use Rattle.std.specs.Prelude.{ℤ, pos}
use Rattle.std.proofs.lemmas.List.{take_all}
use Rattle.std.specs.Str.{bytes_eq}
use Rattle.std.proofs.lemmas.Slice.Eq.{bytes_eq-Decides}
use Rattle.mcv_base.specs.declared.operation.Op.{Op}
use Rattle.mcv_base.specs.declared.operation.Op.TheVariants as ops
use Rattle.mcv_base.specs.Operation.{op_name}
use Rattle.mcv_text.specs.Line.{LineValue, bad, unknown, said, plain, reads, storing, storing_said, cas_said, touch_said, adjusting_said}
use Rattle.mcv_text.specs.ParsedLine.{all_three, numbers_said}
use Rattle.mcv_text.specs.Words.{noreply_said, number32_said, number64_said, signed_said}

pub storing_short : (op : Op) (ws : List (List ℕ)) → length ws < 4 → bad ≡ storing_said op ws
storing_short op [] l = refl
storing_short op (a ∷ []) l = refl
storing_short op (a ∷ b ∷ []) l = refl
storing_short op (a ∷ b ∷ c ∷ []) l = refl
storing_short op (a ∷ b ∷ c ∷ d ∷ ws) l = absurd (omega arith)

pub cas_short : (ws : List (List ℕ)) → length ws < 5 → bad ≡ cas_said ws
cas_short [] l = refl
cas_short (a ∷ []) l = refl
cas_short (a ∷ b ∷ []) l = refl
cas_short (a ∷ b ∷ c ∷ []) l = refl
cas_short (a ∷ b ∷ c ∷ d ∷ []) l = refl
cas_short (a ∷ b ∷ c ∷ d ∷ e ∷ ws) l = absurd (omega arith)

pub touch_short : (ws : List (List ℕ)) → length ws < 2 → bad ≡ touch_said ws
touch_short [] l = refl
touch_short (a ∷ []) l = refl
touch_short (a ∷ b ∷ ws) l = absurd (omega arith)

three_read : (f : Option ℕ) (e : Option ℤ) (n : Option ℕ) (line : ℕ → ℤ → ℕ → LineValue) → reads f (λ a. reads e (λ b. reads n (λ c. line a b c))) ≡ reads (all_three f e n) (λ t. line t.0 t.1 t.2)
three_read None e n line = refl
three_read (Some a) None n line = refl
three_read (Some a) (Some b) None line = refl
three_read (Some a) (Some b) (Some c) line = refl

abbrev texts : List (Bor (List ℕ)) → List (List ℕ)
texts ws = map (λ (w : Bor (List ℕ)). w.now) ws

-- the numbers of a line, and the words behind the first n, as the code finds them
abbrev numbers_at : List (Bor (List ℕ)) → Bor (List ℕ) → Option (ℕ × ℤ × ℕ)
numbers_at ws d = numbers_said (get_or ws 1 d).now (get_or ws 2 d).now (get_or ws 3 d).now

abbrev noreply_at : ℕ → List (Bor (List ℕ)) → Option Bool
noreply_at n ws = noreply_said (texts (take (length ws - n) (drop n ws)))

abbrev with_noreply : Op → List ℕ → Option ℕ → Option Bool → ℕ × ℤ × ℕ → LineValue
with_noreply op key cas noreply t = reads noreply (λ b. storing op key t.0 t.1 t.2 cas b)

abbrev with_cas : List ℕ → Option ℕ → Option Bool → ℕ × ℤ × ℕ → LineValue
with_cas key cas noreply t = reads cas (λ c. with_noreply ops.Cas key (Some c) noreply t)

storing_parts : (op : Op) (ws : List (Bor (List ℕ))) (d : Bor (List ℕ)) → 4 ≤ length ws → storing_said op (texts ws) ≡ reads (numbers_at ws d) (with_noreply op (get_or ws 0 d).now None (noreply_at 4 ws))
storing_parts op [] d l = absurd (omega arith)
storing_parts op (k ∷ []) d l = absurd (omega arith)
storing_parts op (k ∷ f ∷ []) d l = absurd (omega arith)
storing_parts op (k ∷ f ∷ e ∷ []) d l = absurd (omega arith)
storing_parts op (k ∷ f ∷ e ∷ n ∷ more) d l =
    let all : take (length (k ∷ f ∷ e ∷ n ∷ more) - 4) more ≡ more = take_all (length (k ∷ f ∷ e ∷ n ∷ more) - 4) more (omega arith) in
    three_read (number32_said f.now) (signed_said e.now) (number32_said n.now) (λ a b c. with_noreply op k.now None (noreply_said (texts more)) (a, b, c))
    ∙ ap (λ ms. reads (numbers_said f.now e.now n.now) (with_noreply op k.now None (noreply_said (texts ms)))) (sym all)

cas_parts : (ws : List (Bor (List ℕ))) (d : Bor (List ℕ)) → 5 ≤ length ws → cas_said (texts ws) ≡ reads (numbers_at ws d) (with_cas (get_or ws 0 d).now (number64_said (get_or ws 4 d).now) (noreply_at 5 ws))
cas_parts [] d l = absurd (omega arith)
cas_parts (k ∷ []) d l = absurd (omega arith)
cas_parts (k ∷ f ∷ []) d l = absurd (omega arith)
cas_parts (k ∷ f ∷ e ∷ []) d l = absurd (omega arith)
cas_parts (k ∷ f ∷ e ∷ n ∷ []) d l = absurd (omega arith)
cas_parts (k ∷ f ∷ e ∷ n ∷ u ∷ more) d l =
    let all : take (length (k ∷ f ∷ e ∷ n ∷ u ∷ more) - 5) more ≡ more = take_all (length (k ∷ f ∷ e ∷ n ∷ u ∷ more) - 5) more (omega arith) in
    three_read (number32_said f.now) (signed_said e.now) (number32_said n.now) (λ a b c. with_cas k.now (number64_said u.now) (noreply_said (texts more)) (a, b, c))
    ∙ ap (λ ms. reads (numbers_said f.now e.now n.now) (with_cas k.now (number64_said u.now) (noreply_said (texts ms)))) (sym all)

-- a storing line whose words are these
module _ (op : Op) (ws : List (Bor (List ℕ))) (d : Bor (List ℕ)) (l : 4 ≤ length ws) where
  pub storing_numberless : numbers_at ws d ≡ None → bad ≡ storing_said op (texts ws)
  storing_numberless none = sym (storing_parts op ws d l ∙ ap (λ o. reads o (with_noreply op (get_or ws 0 d).now None (noreply_at 4 ws))) none)

  storing_numbered : (t : ℕ × ℤ × ℕ) → numbers_at ws d ≡ Some t → storing_said op (texts ws) ≡ with_noreply op (get_or ws 0 d).now None (noreply_at 4 ws) t
  storing_numbered t some = storing_parts op ws d l ∙ ap (λ o. reads o (with_noreply op (get_or ws 0 d).now None (noreply_at 4 ws))) some

  pub storing_optionless : (t : ℕ × ℤ × ℕ) → numbers_at ws d ≡ Some t → noreply_at 4 ws ≡ None → bad ≡ storing_said op (texts ws)
  storing_optionless t some none = sym (storing_numbered t some ∙ ap (λ o. with_noreply op (get_or ws 0 d).now None o t) none)

  pub storing_whole : (t : ℕ × ℤ × ℕ) (b : Bool) → numbers_at ws d ≡ Some t → noreply_at 4 ws ≡ Some b → storing op (get_or ws 0 d).now t.0 t.1 t.2 None b ≡ storing_said op (texts ws)
  storing_whole t b some is = sym (storing_numbered t some ∙ ap (λ o. with_noreply op (get_or ws 0 d).now None o t) is)

module _ (ws : List (Bor (List ℕ))) (d : Bor (List ℕ)) (l : 5 ≤ length ws) where
  pub cas_numberless : numbers_at ws d ≡ None → bad ≡ cas_said (texts ws)
  cas_numberless none = sym (cas_parts ws d l ∙ ap (λ o. reads o (with_cas (get_or ws 0 d).now (number64_said (get_or ws 4 d).now) (noreply_at 5 ws))) none)

  cas_numbered : (t : ℕ × ℤ × ℕ) → numbers_at ws d ≡ Some t → cas_said (texts ws) ≡ with_cas (get_or ws 0 d).now (number64_said (get_or ws 4 d).now) (noreply_at 5 ws) t
  cas_numbered t some = cas_parts ws d l ∙ ap (λ o. reads o (with_cas (get_or ws 0 d).now (number64_said (get_or ws 4 d).now) (noreply_at 5 ws))) some

  pub cas_unnumbered : (t : ℕ × ℤ × ℕ) → numbers_at ws d ≡ Some t → number64_said (get_or ws 4 d).now ≡ None → bad ≡ cas_said (texts ws)
  cas_unnumbered t some none = sym (cas_numbered t some ∙ ap (λ o. with_cas (get_or ws 0 d).now o (noreply_at 5 ws) t) none)

  pub cas_optionless : (t : ℕ × ℤ × ℕ) (u : ℕ) → numbers_at ws d ≡ Some t → number64_said (get_or ws 4 d).now ≡ Some u → noreply_at 5 ws ≡ None → bad ≡ cas_said (texts ws)
  cas_optionless t u some is none = sym (cas_numbered t some ∙ ap (λ o. with_cas (get_or ws 0 d).now o (noreply_at 5 ws) t) is ∙ ap (λ o. with_noreply ops.Cas (get_or ws 0 d).now (Some u) o t) none)

  pub cas_whole : (t : ℕ × ℤ × ℕ) (u : ℕ) (b : Bool) → numbers_at ws d ≡ Some t → number64_said (get_or ws 4 d).now ≡ Some u → noreply_at 5 ws ≡ Some b → storing ops.Cas (get_or ws 0 d).now t.0 t.1 t.2 (Some u) b ≡ cas_said (texts ws)
  cas_whole t u b some is last = sym (cas_numbered t some ∙ ap (λ o. with_cas (get_or ws 0 d).now o (noreply_at 5 ws) t) is ∙ ap (λ o. with_noreply ops.Cas (get_or ws 0 d).now (Some u) o t) last)

abbrev touch_with : List ℕ → Option Bool → ℤ → LineValue
touch_with key noreply e = reads noreply (λ b. plain ops.Touch (key ∷ []) e 0 b)

touch_parts : (ws : List (Bor (List ℕ))) (d : Bor (List ℕ)) → 2 ≤ length ws → touch_said (texts ws) ≡ reads (signed_said (get_or ws 1 d).now) (touch_with (get_or ws 0 d).now (noreply_at 2 ws))
touch_parts [] d l = absurd (omega arith)
touch_parts (k ∷ []) d l = absurd (omega arith)
touch_parts (k ∷ e ∷ more) d l =
    let all : take (length (k ∷ e ∷ more) - 2) more ≡ more = take_all (length (k ∷ e ∷ more) - 2) more (omega arith) in
    ap (λ ms. reads (signed_said e.now) (touch_with k.now (noreply_said (texts ms)))) (sym all)

-- a line of touch whose words are these
module _ (ws : List (Bor (List ℕ))) (d : Bor (List ℕ)) (l : 2 ≤ length ws) where
  pub touch_momentless : signed_said (get_or ws 1 d).now ≡ None → bad ≡ touch_said (texts ws)
  touch_momentless none = sym (touch_parts ws d l ∙ ap (λ o. reads o (touch_with (get_or ws 0 d).now (noreply_at 2 ws))) none)

  touch_at : (t : ℤ) → signed_said (get_or ws 1 d).now ≡ Some t → touch_said (texts ws) ≡ touch_with (get_or ws 0 d).now (noreply_at 2 ws) t
  touch_at t some = touch_parts ws d l ∙ ap (λ o. reads o (touch_with (get_or ws 0 d).now (noreply_at 2 ws))) some

  pub touch_optionless : (t : ℤ) → signed_said (get_or ws 1 d).now ≡ Some t → noreply_at 2 ws ≡ None → bad ≡ touch_said (texts ws)
  touch_optionless t some none = sym (touch_at t some ∙ ap (λ o. touch_with (get_or ws 0 d).now o t) none)

abbrev adjusting_with : Op → List ℕ → Option Bool → ℕ → LineValue
adjusting_with op key noreply n = reads noreply (λ b. plain op (key ∷ []) (pos 0) n b)

pub adjusting_short : (op : Op) (ws : List (List ℕ)) → length ws < 2 → bad ≡ adjusting_said op ws
adjusting_short op [] l = refl
adjusting_short op (a ∷ []) l = refl
adjusting_short op (a ∷ b ∷ ws) l = absurd (omega arith)

adjusting_parts : (op : Op) (ws : List (Bor (List ℕ))) (d : Bor (List ℕ)) → 2 ≤ length ws → adjusting_said op (texts ws) ≡ reads (number64_said (get_or ws 1 d).now) (adjusting_with op (get_or ws 0 d).now (noreply_at 2 ws))
adjusting_parts op [] d l = absurd (omega arith)
adjusting_parts op (k ∷ []) d l = absurd (omega arith)
adjusting_parts op (k ∷ n ∷ more) d l =
    let all : take (length (k ∷ n ∷ more) - 2) more ≡ more = take_all (length (k ∷ n ∷ more) - 2) more (omega arith) in
    ap (λ ms. reads (number64_said n.now) (adjusting_with op k.now (noreply_said (texts ms)))) (sym all)

-- a line of incr or decr whose words are these
module _ (op : Op) (ws : List (Bor (List ℕ))) (d : Bor (List ℕ)) (l : 2 ≤ length ws) where
  pub adjusting_numberless : number64_said (get_or ws 1 d).now ≡ None → bad ≡ adjusting_said op (texts ws)
  adjusting_numberless none = sym (adjusting_parts op ws d l ∙ ap (λ o. reads o (adjusting_with op (get_or ws 0 d).now (noreply_at 2 ws))) none)

  adjusting_at : (n : ℕ) → number64_said (get_or ws 1 d).now ≡ Some n → adjusting_said op (texts ws) ≡ adjusting_with op (get_or ws 0 d).now (noreply_at 2 ws) n
  adjusting_at n some = adjusting_parts op ws d l ∙ ap (λ o. reads o (adjusting_with op (get_or ws 0 d).now (noreply_at 2 ws))) some

  pub adjusting_optionless : (n : ℕ) → number64_said (get_or ws 1 d).now ≡ Some n → noreply_at 2 ws ≡ None → bad ≡ adjusting_said op (texts ws)
  adjusting_optionless n some none = sym (adjusting_at n some ∙ ap (λ o. adjusting_with op (get_or ws 0 d).now o n) none)

  pub adjusting_whole : (n : ℕ) (b : Bool) → number64_said (get_or ws 1 d).now ≡ Some n → noreply_at 2 ws ≡ Some b → plain op ((get_or ws 0 d).now ∷ []) (pos 0) n b ≡ adjusting_said op (texts ws)
  adjusting_whole n b some is = sym (adjusting_at n some ∙ ap (λ o. adjusting_with op (get_or ws 0 d).now o n) is)

refuted : (P : Type 0) (b : Bool) → (b ≡ true → P) → (P → ⊥) → b ≡ false
refuted P true f n = absurd (n (f refl))
refuted P false f n = refl

-- a name that isn't the word fails the test
other_name : (command name : List ℕ) → name ≢ command → bytes_eq command name ≡ false
other_name command name n = refuted (command ≡ name) (bytes_eq command name) ((bytes_eq-Decides command name).0) (λ e. n (sym e))

passed_over : (b : Bool) (x y : LineValue) → b ≡ false → cond b x y ≡ y
passed_over b x y e = ap (λ t. cond t x y) e

-- a line that names neither an operation nor version nor quit
pub unknown_said : (command : List ℕ) (arguments : List (List ℕ)) → ((op : Op) → op_name op ≢ command) → bytes_eq command (codes "version") ≡ false → bytes_eq command (codes "quit") ≡ false → unknown ≡ said (command ∷ arguments)
unknown_said command arguments none version quit =
    let other : (op : Op) → bytes_eq command (op_name op) ≡ false = λ op. other_name command (op_name op) (none op) in
    sym (passed_over _ _ _ (other ops.Get) ∙ passed_over _ _ _ (other ops.Gets) ∙ passed_over _ _ _ (other ops.Set) ∙ passed_over _ _ _ (other ops.Add)
    ∙ passed_over _ _ _ (other ops.Replace) ∙ passed_over _ _ _ (other ops.Append) ∙ passed_over _ _ _ (other ops.Prepend) ∙ passed_over _ _ _ (other ops.Cas)
    ∙ passed_over _ _ _ (other ops.Delete) ∙ passed_over _ _ _ (other ops.Touch) ∙ passed_over _ _ _ (other ops.Incr) ∙ passed_over _ _ _ (other ops.Decr) ∙ passed_over _ _ _ version ∙ passed_over _ _ _ quit)
