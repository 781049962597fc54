-- The values that words with which clap finds no fault give the options of `check`, `legs`, `run` and `spool`: each row has one that the parser of its
-- option takes, an option with a default has a row, and so has one that is wanted. clap's rules are followed from word to word; nothing
-- of the code is in it.
use Rattle.std.proofs.Common.{◌≡◌, ◌∙◌, ◌⊎◌, inl, inr, ℕ, zero, suc, Bool, cond, not, ◌&&◌, ◌||◌, ◌==◌, arith, true, false, List, [], ◌∷◌, ◌++◌, drop, length, Option, Some, None, ap, codes, fold, is_some, refl, subst, sym, true≢false}
use Rattle.std.specs.Option.{option_map_or}
use Rattle.std.specs.Str.{bytes_eq, chars}
use Rattle.std.specs.Str.Parse.{digits_value, without_leading_plus}
use Rattle.std.specs.Prelude.{IfSome, IsSome, ⊤, slice_get, encode_utf8, find}
use Rattle.std.proofs.lemmas.Bool.{ne_eqb}
use Rattle.std.proofs.lemmas.Slice.Eq.{bytes_eq-Decides}
use Rattle.clap.specs.Words.{Kinds, Row, Rule, Shape, Text, built, first_of, one_of}
use Rattle.clap.specs.Facts.{parser_of_value}
use Rattle.clap.specs.Kinds.{or_else, range_kinds}
use Rattle.clap.specs.Lexer.{long_of, short_of}
use Rattle.clap.specs.Takes.{is_given}
use Rattle.clap.specs.ValueTests.{accepts}
use Rattle.clap.specs.Simple.{built_leaf, entered, filled, help_rule, inherited, with_index}
use Rattle.clap.specs.Walk.{Held, Outcome, Step, Waiting, Walk, done, waits, plain, refused, idle, option, positional, next, trailing, subcommand, value}
use Rattle.clap.specs.Walk.{after_flag, after_step, arg_by_id, arg_by_index, arg_by_long, arg_by_short, at_row, attached_value, bundle, bundle_met, bundle_step, default_rows, finished, flag_met, has_row, is_empty, is_pending, long_met, long_or_other, more_values, nothing_held, option_met, option_word, plain_word, positional_held, reacted, reading_by, settled, settled_rows, short_met, short_or_plain, takes_several, takes_values, to_positional, used, used_by_id, walk, walk_from, walked, walked_from, with_default, with_values, without, word_met, rows_after}
use Rattle.clap.specs.Faults.{bundle_fault, bundle_step_fault, check_fault, defaults_fault, entered_fault, flag_word_fault, flags_fault, level_fault, long_fault, option_fault, positional_fault, react_fault, repeat_fault, set_fault, settle_fault, short_fault, step_fault, turn_fault, use_fault, values_fault, walk_fault, word_fault}
use Rattle.clap.specs.declared.error.kind.ErrorKind.TheVariants.{DisplayHelp, InvalidValue, MissingRequiredArgument, TooManyValues, ValueValidation, WrongNumberOfValues}
use Rattle.clap.specs.declared.builder.value_parser.ValueParser.TheVariants as parsers
use Rattle.clap.specs.declared.builder.value_parser.Reading.{Reading}
use Rattle.clap.specs.declared.builder.value_parser.Reading.TheVariants.{AsWritten}
use Rattle.clap.specs.declared.parser.matches.ValueSource.{ValueSource}
use Rattle.clap.specs.declared.parser.matches.ValueSource.TheVariants.{CommandLine, DefaultValue}
use Rattle.clap.proofs.ValueTestLemmas.{accepts-Accepts}
use Rattle.mcv_words.specs.Table.{NumberOption, answer_bytes_option, at_option, client_timeout_option, hubs_option, max_clients_option, server_timeout_option, sessions_option, window_option}
use Rattle.mcv_words.specs.Words.{CanRun, IsGivenIn, MayBeGivenIn, check_app, faults, file_rule, flag_rule, legs_app, mcv_app, named, number_rule, option_rule, run_app, spool_app}
use Rattle.mcv_words.proofs.CommandIsNamed.{StopsAtCommand, none_below, none_of, some_kind, stop_of, stops_at_command}

-- ---- rows

-- the parser of the argument with this id takes the value
abbrev Suits : List Rule → (id value : Text) → Type 0
Suits c id v = IfSome (arg_by_id c id) (λ a. accepts a.ignore_case (parser_of_value a.parser) v ≡ true)

-- the row's first value is read as it is written, and suits
abbrev IsGoodRow : List Rule → Row → Type 0
IsGoodRow c r = (v : Text) × (vs : List Text) × (r.values ≡ v ∷ vs) × (r.reading ≡ AsWritten) × Suits c r.id v

abbrev AreGood : List Rule → List Row → Type 0
AreGood c [] = ⊤
AreGood c (r ∷ rs) = IsGoodRow c r × AreGood c rs

good_append : (c : List Rule) (xs ys : List Row) → AreGood c xs → AreGood c ys → AreGood c (xs ++ ys)
good_append c [] ys gx gy = gy
good_append c (x ∷ xs) ys gx gy = (gx.0, good_append c xs ys gx.1 gy)

at_row_good : (c : List Rule) (id : Text) (change : Row → List Row) (missing rows : List Row) → ((r : Row) → IsGoodRow c r → AreGood c (change r)) → AreGood c missing → AreGood c rows
    → AreGood c (at_row id change missing rows)
at_row_good c id change missing [] changed new good = new
at_row_good c id change missing (r ∷ rs) changed new good = go (bytes_eq r.id id) (at_row_good c id change missing rs changed new good.1)
  where
    go : (b : Bool) → AreGood c (at_row id change missing rs) → AreGood c (cond b (change r ++ rs) (r ∷ at_row id change missing rs))
    go true later = good_append c (change r) rs (changed r good.0) good.1
    go false later = (good.0, later)

without_good : (c : List Rule) (id : Text) (rows : List Row) → AreGood c rows → AreGood c (without id rows)
without_good c id rows good = at_row_good c id (λ r. []) [] rows (λ r g. tt) tt good

-- values that are written to an argument's row, the first of which suits
values_good : (c : List Rule) (id : Text) (source : ValueSource) (v : Text) (vs : List Text) (rows : List Row) → Suits c id v → AreGood c rows
    → AreGood c (with_values id AsWritten source (v ∷ vs) rows)
values_good c id source v vs rows suits good =
    at_row_good c id (more_values source (v ∷ vs)) (record { id = id; values = v ∷ vs; count = None; source = Some source; reading = AsWritten } ∷ []) rows
    (λ r g. ((g.0, g.1 ++ (v ∷ vs), ap (λ (xs : List Text). xs ++ (v ∷ vs)) g.2, g.3, g.4), tt)) ((v, vs, refl, refl, suits), tt) good

-- the value of an argument that has a row
abbrev HasValue : List Rule → Text → List Row → Type 0
HasValue c id rows = (v : Text) × (first_of id rows ≡ Some v) × (one_of id rows ≡ Some v) × Suits c id v

found_value : (c : List Rule) (id : Text) (rows : List Row) → has_row id rows ≡ true → AreGood c rows → HasValue c id rows
found_value c id [] has good = absurd (true≢false (sym has))
found_value c id (r ∷ rs) has good = go (bytes_eq r.id id) refl (λ more. found_value c id rs more good.1)
  where
    go : (b : Bool) → bytes_eq r.id id ≡ b → (has_row id rs ≡ true → HasValue c id rs) → HasValue c id (r ∷ rs)
    go true is rest =
        let row = good.0 in (
          row.0,
          rw (is, row.2) refl,
          rw (is, row.2, row.3) refl,
          subst (λ (name : Text). Suits c name row.0) ((bytes_eq-Decides r.id id).0 is) row.4,
        )
    go false is rest =
        let later = rest (rw is at has) in
        (later.0, rw is later.1, rw is later.2, later.3)

-- ---- a use of an argument

-- where a use of it is no fault, it keeps the rows good
abbrev IsTame : Shape → Rule → Type 0
IsTame s a = (values : List Text) (rows : List Row) → use_fault s.args_override_self a values rows ≡ [] → AreGood s.rules rows → AreGood s.rules (used a values rows)

abbrev AreTame : Shape → List Rule → Type 0
AreTame s [] = ⊤
AreTame s (a ∷ rest) = IsTame s a × AreTame s rest

found_tame : (s : Shape) (test : Rule → Bool) (rules : List Rule) → AreTame s rules → IfSome (find test rules) (IsTame s)
found_tame s test [] tame = tt
found_tame s test (a ∷ rest) tame = go (test a) (found_tame s test rest tame.1)
  where
    go : (b : Bool) → IfSome (find test rest) (IsTame s) → IfSome (cond b (Some a) (find test rest)) (IsTame s)
    go true later = tame.0
    go false later = later

-- ---- the walk over the words of a command whose arguments keep the rows good

module _ (s : Shape) (tame : AreTame s s.rules) where
  abbrev again : Bool
  again = s.args_override_self

  abbrev Good : List Row → Type 0
  Good rows = AreGood s.rules rows

  uses : (o : Option Rule) (values : List Text) (rows : List Row) → IfSome o (IsTame s) → option_map_or (λ a. use_fault again a values rows) o [] ≡ [] → Good rows
      → Good (used_by_id o values rows)
  uses None values rows t none good = good
  uses (Some a) values rows t none good = t values rows none good

  settles : (pending : Option (Text × List Text)) (rows : List Row)
      → option_map_or (λ p. option_map_or (λ a. use_fault again a p.1 rows) (arg_by_id s.rules p.0) []) pending [] ≡ [] → Good rows
      → Good (settled_rows s.rules pending rows)
  settles None rows none good = good
  settles (Some p) rows none good = uses (arg_by_id s.rules p.0) p.1 rows (found_tame s (λ a. bytes_eq a.id p.0) s.rules tame) none good

  reacts : (a : Rule) (values : List Text) (h : Held) → IsTame s a → react_fault s.rules again a values h ≡ [] → Good h.rows → Good (reacted s.rules a values h).rows
  reacts a values h t none good =
      let both = none_of (settle_fault s.rules again h) (use_fault again a values (settled s.rules h).rows) none in
      t values (settled s.rules h).rows both.1 (settles h.pending h.rows both.0 good)

  -- ---- flags

  option_keeps : (a : Rule) (v : Option Text) (h : Held) → IsTame s a → option_fault s.rules again a v h ≡ [] → Good h.rows → Good (option_met s.rules a v h).0.rows
  option_keeps a (Some v) h t none good = reacts a (v ∷ []) h t none good
  option_keeps a None h t none good = settles h.pending h.rows none good

  flag_keeps : (a : Rule) (v : Option Text) (h : Held) → IsTame s a → cond (is_some v) (TooManyValues ∷ []) (react_fault s.rules again a [] h) ≡ [] → Good h.rows
      → Good (flag_met s.rules a v h).0.rows
  flag_keeps a (Some v) h t none good = good
  flag_keeps a None h t none good = reacts a [] h t none good

  long_keeps : (o : Option Rule) (v : Option Text) (h : Held) → IfSome o (IsTame s) → long_fault s.rules again o v h ≡ [] → Good h.rows → Good (long_met s.rules o v h).0.rows
  long_keeps None v h t none good = good
  long_keeps (Some a) v h t none good = go (takes_values a) none
    where
      go : (b : Bool) → cond b (option_fault s.rules again a v h) (cond (is_some v) (TooManyValues ∷ []) (react_fault s.rules again a [] h)) ≡ []
          → Good (cond b (option_met s.rules a v h) (flag_met s.rules a v h)).0.rows
      go true free = option_keeps a v h t free good
      go false free = flag_keeps a v h t free good

  short_keeps : (o : Option Rule) (rest : Text) (h : Held) (later : Held → Kinds) (after : Held → Held × Outcome) → IfSome o (IsTame s)
      → ((more : Held) → later more ≡ [] → Good more.rows → Good (after more).0.rows) → short_fault s.rules again o rest h later ≡ [] → Good h.rows
      → Good (short_met s.rules o rest h after).0.rows
  short_keeps None rest h later after t keeps none good = good
  short_keeps (Some a) rest h later after t keeps none good = go (takes_values a) none
    where
      go : (b : Bool) → cond b (option_fault s.rules again a (attached_value rest) h) (or_else (react_fault s.rules again a [] h) (later (reacted s.rules a [] h))) ≡ []
          → Good (cond b (option_met s.rules a (attached_value rest) h) (after (reacted s.rules a [] h))).0.rows
      go true free = option_keeps a (attached_value rest) h t free good
      go false free =
          let both = none_of (react_fault s.rules again a [] h) (later (reacted s.rules a [] h)) free in
          keeps (reacted s.rules a [] h) both.1 (reacts a [] h t both.0 good)

  bundle_step_keeps : (o : Option ℕ) (flags : Text) (skip : ℕ) (so_far : Outcome) (h : Held) (later : Text → ℕ → Held → Kinds) (after : Text → ℕ → Outcome → Held → Held × Outcome)
      → ((left : Text) (n : ℕ) (so : Outcome) (more : Held) → later left n more ≡ [] → Good more.rows → Good (after left n so more).0.rows)
      → bundle_step_fault s.rules again o flags skip h later ≡ [] → Good h.rows → Good (bundle_step s.rules o flags skip so_far h after).0.rows
  bundle_step_keeps None flags skip so_far h later after keeps none good = good
  bundle_step_keeps (Some x) flags zero so_far h later after keeps none good =
      let rest : Text = drop (length (encode_utf8 x)) flags in
      short_keeps (arg_by_short s.rules x) rest h (later rest 0) (after rest 0 done) (found_tame s _ s.rules tame) (λ more e g. keeps rest 0 done more e g) none good
  bundle_step_keeps (Some x) flags (suc skip) so_far h later after keeps none good = keeps (drop (length (encode_utf8 x)) flags) skip so_far h none good

  bundle_keeps : (k : ℕ) (flags : Text) (skip : ℕ) (so_far : Outcome) (h : Held) → flags_fault s.rules again k flags skip h ≡ [] → Good h.rows
      → Good (bundle_met s.rules k flags skip so_far h).0.rows
  unfolding flags_fault bundle_met
  bundle_keeps zero flags skip so_far h none good = good
  bundle_keeps (suc k) flags skip so_far h none good =
      bundle_step_keeps (slice_get (chars flags) 0) flags skip so_far h (flags_fault s.rules again k) (bundle_met s.rules k)
      (λ left n so more e g. bundle_keeps k left n so more e g) none good

  -- ---- one word

  pushes : (o : Option Rule) (id word : Text) (h : Held) → Good h.rows → Good (option_word o id word h).0.rows
  pushes None id word h good = good
  pushes (Some a) id word h good = good

  plain_keeps : (waiting : Waiting) (word : Text) (h : Held) → Good h.rows → Good (plain_word s.rules waiting word h).0.rows
  plain_keeps (option id) word h good = pushes (arg_by_id s.rules id) id word h good
  plain_keeps idle word h good = good
  plain_keeps positional word h good = good

  after_keeps : (waiting : Waiting) (word : Text) (h : Held) (outcome : Outcome) → Good h.rows → Good (after_flag s.rules waiting word h outcome).0.rows
  after_keeps waiting word h done good = good
  after_keeps waiting word h (waits id) good = good
  after_keeps waiting word h plain good = plain_keeps waiting word h good
  after_keeps waiting word h refused good = plain_keeps waiting word h good

  short_word_keeps : (waiting : Waiting) (word : Text) (flags : Option Text) (h : Held) → option_map_or (λ fs. bundle_fault s.rules again fs h) flags [] ≡ [] → Good h.rows
      → Good (short_or_plain s.rules waiting word flags h).0.rows
  short_word_keeps waiting word (Some flags) h none good =
      after_keeps waiting word (bundle s.rules flags h).0 (bundle s.rules flags h).1 (bundle_keeps (length flags) flags h.skip plain (record h { skip = 0 }) none good)
  short_word_keeps waiting word None h none good = plain_keeps waiting word h good

  flag_word_keeps : (waiting : Waiting) (word : Text) (long : Option (Text × Option Text)) (h : Held) → flag_word_fault s.rules again long word h ≡ [] → Good h.rows
      → Good (long_or_other s.rules waiting word long h).0.rows
  flag_word_keeps waiting word (Some p) h none good =
      let met : Held × Outcome = long_met s.rules (arg_by_long s.rules p.0) p.1 h in
      after_keeps waiting word met.0 met.1 (long_keeps (arg_by_long s.rules p.0) p.1 h (found_tame s _ s.rules tame) none good)
  flag_word_keeps waiting word None h none good = short_word_keeps waiting word (short_of word) h none good

  other_keeps : (b : Bool) (waiting : Waiting) (position : ℕ) (word : Text) (h : Held) → cond b [] (flag_word_fault s.rules again (long_of word) word h) ≡ [] → Good h.rows
      → Good (cond b (h, trailing position) (long_or_other s.rules waiting word (long_of word) h)).0.rows
  other_keeps true waiting position word h none good = good
  other_keeps false waiting position word h none good = flag_word_keeps waiting word (long_of word) h none good

  word_keeps : (is_trailing : Bool) (waiting : Waiting) (position : ℕ) (word : Text) (h : Held) → word_fault s [] is_trailing waiting word h ≡ [] → Good h.rows
      → Good (word_met s.rules [] is_trailing waiting position word h).0.rows
  word_keeps true waiting position word h none good = good
  word_keeps false idle position word h none good = other_keeps (bytes_eq word (45 ∷ 45 ∷ [])) idle position word h none good
  word_keeps false (option id) position word h none good = other_keeps (bytes_eq word (45 ∷ 45 ∷ [])) (option id) position word h none good
  word_keeps false positional position word h none good = other_keeps (bytes_eq word (45 ∷ 45 ∷ [])) positional position word h none good

  -- ---- the walk

  positional_keeps : (a : Rule) (word : Text) (h : Held) → positional_fault s.rules again a h ≡ [] → Good h.rows → Good (positional_held s.rules a word h).rows
  positional_keeps a word h none good = go (is_pending a h.pending && takes_several a) none
    where
      go : (b : Bool) → cond b [] (settle_fault s.rules again h) ≡ [] → Good (cond b h (settled s.rules h)).rows
      go true free = good
      go false free = settles h.pending h.rows free good

  to_keeps : (o : Option Rule) (word : Text) (w : Walk) (h : Held) (stray : Kinds) → option_map_or (λ a. positional_fault s.rules again a h) o stray ≡ [] → Good h.rows
      → Good (to_positional s.rules o word w h).held.rows
  to_keeps None word w h stray none good = good
  to_keeps (Some a) word w h stray none good = positional_keeps a word h none good

  step_keeps : (word : Text) (w : Walk) (h : Held) (step : Step) → step_fault s w.position h step ≡ [] → Good h.rows → Good (after_step s.rules word w h step).held.rows
  step_keeps word w h (next waiting) none good = good
  step_keeps word w h (trailing position) none good = good
  step_keeps word w h (subcommand name) none good = good
  step_keeps word w h value none good = to_keeps (arg_by_index s.rules w.position) word w h _ none good

  one_more : (stop : Option (Text × List Text)) (w : Walk) (word : Text) → w.stopped ≡ stop → turn_fault s [] w word ≡ [] → Good w.held.rows
      → Good (walked_from s.rules [] stop w word).held.rows
  one_more (Some p) w word is none good = good
  one_more None w word is none good =
      let met : Held × Step = word_met s.rules [] w.is_trailing w.waiting w.position word w.held in
      let word_kinds : Kinds = word_fault s [] w.is_trailing w.waiting word w.held in
      let step_kinds : Kinds = step_fault s w.position met.0 met.1 in
      let here : or_else word_kinds step_kinds ≡ [] = ap (λ (o : Option (Text × List Text)). cond (is_some o) [] (or_else word_kinds step_kinds)) (sym is) ∙ none in
      let both = none_of word_kinds step_kinds here in
      step_keeps word w met.0 met.1 both.1 (word_keeps w.is_trailing w.waiting w.position word w.held both.0 good)

  walks : (words : List Text) (w : Walk) → walk_fault s [] w words ≡ [] → Good w.held.rows → Good (fold (walked s.rules []) w words).held.rows
  unfolding walk_fault walked
  walks [] w none good = good
  walks (word ∷ rest) w none good =
      let both = none_of (turn_fault s [] w word) (walk_fault s [] (walked s.rules [] w word) rest) none in
      walks rest (walked s.rules [] w word) both.1 (one_more w.stopped w word refl both.0 good)

  abbrev end_of : List Text → Held
  end_of words = (walk s.rules [] nothing_held words).held

  -- before the defaults
  leaf_good : (words : List Text) → level_fault s [] nothing_held words false [] ≡ []
      → Good (settled s.rules (end_of words)).rows × (check_fault s (rows_after s.rules [] words) false ≡ [])
  leaf_good words none =
      let end : Held = end_of words in
      let defaulting : Kinds = defaults_fault (settled s.rules end).rows s.rules in
      let checking : Kinds = check_fault s (finished s.rules end) false in
      let settling : Kinds = settle_fault s.rules again end in
      let walking = none_of (walk_fault s [] (walk_from nothing_held) words) (or_else settling (or_else defaulting checking)) none in
      let later = none_of settling (or_else defaulting checking) walking.1 in
      (settles end.pending end.rows later.0 (walks words (walk_from nothing_held) walking.0 tt), (none_of defaulting checking later.1).1)

-- ---- options and help

accepted : (b : Bool) → cond b [] (ValueValidation ∷ []) ≡ [] → b ≡ true
accepted true e = refl
accepted false e = absurd (some_kind ValueValidation [] e)

-- a value of an option that passes is one that suits
written : (c : List Rule) (id v : Text) (vs : List Text) (rows : List Row) → Suits c id v → AreGood c rows → AreGood c (with_values id AsWritten CommandLine (v ∷ vs) (without id rows))
written c id v vs rows suits good = values_good c id CommandLine v vs (without id rows) suits (without_good c id rows good)

-- the first value of a use of an option that takes one
value_passes : (repeated values more : Kinds) (v : Bool) → or_else repeated (or_else (cond v [] (ValueValidation ∷ [])) more) ≡ [] → v ≡ true
value_passes repeated values more v none =
    accepted v (none_of (cond v [] (ValueValidation ∷ [])) more (none_of repeated (or_else (cond v [] (ValueValidation ∷ [])) more) none).1).0

no_value_for_flag : (n : ℕ) → range_kinds 0 0 (suc n) ≡ [] → ⊥
no_value_for_flag n none =
    let apart : (0 == suc n) ≡ false = ne_eqb 0 (suc n) (λ same. omega arith) in
    some_kind WrongNumberOfValues [] (rw apart at none)

abbrev text_option : Text → (wanted : Bool) → Rule
text_option name wanted = with_index 1 (filled (record (option_rule name) { required = wanted }))

text_tame : (s : Shape) (name : Text) (wanted : Bool) → arg_by_id s.rules name ≡ Some (text_option name wanted) → IsTame s (text_option name wanted)
text_tame s name wanted known [] rows none good = absurd (some_kind InvalidValue [] none)
text_tame s name wanted known (v ∷ vs) rows none good = written s.rules name v vs rows (rw known refl) good

abbrev number_option : NumberOption → Rule
number_option o = with_index 1 (filled (number_rule o))

number_tame : (s : Shape) (o : NumberOption) → arg_by_id s.rules o.name ≡ Some (number_option o) → IsTame s (number_option o)
number_tame s o known [] rows none good = absurd (some_kind InvalidValue [] none)
number_tame s o known (v ∷ vs) rows none good =
    let again : Bool = s.args_override_self in
    let taken = none_of (range_kinds 1 1 (suc (length vs))) (set_fault again (number_option o) (v ∷ vs) rows) none in
    let passes = value_passes (repeat_fault again o.name rows) [] (values_fault (number_option o) vs) _ taken.1 in
    written s.rules o.name v vs rows (rw known passes) good

abbrev flag_option : Text → (short : Option ℕ) → Rule
flag_option name short = with_index 1 (filled (record (flag_rule name) { short = short }))

flag_tame : (s : Shape) (name : Text) (short : Option ℕ) → arg_by_id s.rules name ≡ Some (flag_option name short) → IsTame s (flag_option name short)
flag_tame s name short known [] rows none good = written s.rules name (codes "true") [] rows (rw known refl) good
flag_tame s name short known (v ∷ vs) rows none good =
    absurd (no_value_for_flag (length vs) (none_of (range_kinds 0 0 (suc (length vs))) (set_fault s.args_override_self (flag_option name short) (v ∷ vs) rows) none).0)

help_tame : (s : Shape) → IsTame s (with_index 1 (filled help_rule))
help_tame s values rows none good = absurd (some_kind DisplayHelp [] (none_of (range_kinds 0 0 (length values)) (DisplayHelp ∷ []) none).1)

-- ---- defaults and options that are wanted

row_apart : (b c : Bool) → b || c ≡ false → (b ≡ false) × (c ≡ false)
row_apart true c e = absurd (true≢false e)
row_apart false c e = (refl, e)

-- an option that has no row has no value
no_value : (id : Text) (rows : List Row) → has_row id rows ≡ false → one_of id rows ≡ None
no_value id [] none = refl
no_value id (r ∷ rs) none =
    let both = row_apart (bytes_eq r.id id) (has_row id rs) none in
    rw both.0 (no_value id rs both.1)

added : (id : Text) (change : Row → List Row) (missing rows : List Row) → has_row id rows ≡ false → has_row id missing ≡ true → has_row id (at_row id change missing rows) ≡ true
added id change missing [] none new = new
added id change missing (r ∷ rs) none new =
    let both = row_apart (bytes_eq r.id id) (has_row id rs) none in
    rw both.0 (rw both.0 (added id change missing rs both.1 new))

-- the default of an argument suits it, where it has one
abbrev IsGoodDefault : List Rule → (id : Text) → Reading → (defaults : List Text) → Type 0
IsGoodDefault c id how [] = ⊤
IsGoodDefault c id how (v ∷ vs) = (how ≡ AsWritten) × Suits c id v

abbrev HaveGoodDefaults : List Rule → List Rule → Type 0
HaveGoodDefaults c [] = ⊤
HaveGoodDefaults c (a ∷ rest) = IsGoodDefault c a.id (reading_by a) a.defaults × HaveGoodDefaults c rest

default_good : (c : List Rule) (id : Text) (how : Reading) (defaults : List Text) (rows : List Row) → IsGoodDefault c id how defaults → AreGood c rows
    → AreGood c (cond (has_row id rows) rows (default_rows id how defaults rows))
default_good c id how defaults rows suits good = go (has_row id rows) defaults suits
  where
    go : (b : Bool) (values : List Text) → IsGoodDefault c id how values → AreGood c (cond b rows (default_rows id how values rows))
    go true values suit = good
    go false [] suit = good
    go false (v ∷ vs) suit = subst (λ (by : Reading). AreGood c (with_values id by DefaultValue (v ∷ vs) rows)) (sym suit.0) (values_good c id DefaultValue v vs rows suit.1 good)

-- after the defaults of arguments the rows are good
defaults_good : (c rules : List Rule) (rows : List Row) → HaveGoodDefaults c rules → AreGood c rows → AreGood c (fold with_default rows rules)
defaults_good c [] rows suit good = good
defaults_good c (a ∷ rest) rows suit good = defaults_good c rest (with_default rows a) suit.1 (default_good c a.id (reading_by a) a.defaults rows suit.0 good)

kept_by_or : (b c d : Bool) → b || c ≡ true → (c ≡ true → d ≡ true) → b || d ≡ true
kept_by_or true c d has more = refl
kept_by_or false c d has more = more has

-- values that are written to the row of one argument leave the row of another
kept_by_values : (id other : Text) (values : List Text) (missing rows : List Row) → has_row id rows ≡ true
    → has_row id (at_row other (more_values DefaultValue values) missing rows) ≡ true
kept_by_values id other values missing [] has = absurd (true≢false (sym has))
kept_by_values id other values missing (r ∷ rs) has =
    let behind : List Row = at_row other (more_values DefaultValue values) missing rs in
    go (bytes_eq r.id other) (kept_by_or (bytes_eq r.id id) (has_row id rs) (has_row id behind) has (λ more. kept_by_values id other values missing rs more))
  where
    go : (b : Bool) → has_row id (r ∷ at_row other (more_values DefaultValue values) missing rs) ≡ true
        → has_row id (cond b (more_values DefaultValue values r ++ rs) (r ∷ at_row other (more_values DefaultValue values) missing rs)) ≡ true
    go true later = has
    go false later = later

-- .. and so do the defaults of others
kept : (id other : Text) (how : Reading) (defaults : List Text) (rows : List Row) → has_row id rows ≡ true
    → has_row id (cond (has_row other rows) rows (default_rows other how defaults rows)) ≡ true
kept id other how defaults rows has = go (has_row other rows) defaults
  where
    go : (b : Bool) (values : List Text) → has_row id (cond b rows (default_rows other how values rows)) ≡ true
    go true values = has
    go false [] = has
    go false (v ∷ vs) = kept_by_values id other (v ∷ vs) (record { id = other; values = v ∷ vs; count = None; source = Some DefaultValue; reading = how } ∷ []) rows has

all_kept : (id : Text) (rules : List Rule) (rows : List Row) → has_row id rows ≡ true → has_row id (fold with_default rows rules) ≡ true
all_kept id [] rows has = has
all_kept id (a ∷ rest) rows has = all_kept id rest (with_default rows a) (kept id a.id (reading_by a) a.defaults rows has)

-- an argument with a default has a row then
given_row : (id : Text) (how : Reading) (defaults : List Text) (rows : List Row) → bytes_eq id id ≡ true → is_empty defaults ≡ false
    → has_row id (cond (has_row id rows) rows (default_rows id how defaults rows)) ≡ true
given_row id how defaults rows itself some = go (has_row id rows) refl defaults some
  where
    go : (b : Bool) → has_row id rows ≡ b → (values : List Text) → is_empty values ≡ false → has_row id (cond b rows (default_rows id how values rows)) ≡ true
    go true is values none = is
    go false is [] none = absurd (true≢false none)
    go false is (v ∷ vs) none =
        let missing : List Row = record { id = id; values = v ∷ vs; count = None; source = Some DefaultValue; reading = how } ∷ [] in
        let there : has_row id missing ≡ true = rw itself refl in
        added id (more_values DefaultValue (v ∷ vs)) missing rows is there

abbrev HasDefault : Text → List Rule → Type 0
HasDefault id [] = ⊥
HasDefault id (a ∷ rest) = ((a.id ≡ id) × (is_empty a.defaults ≡ false)) ⊎ HasDefault id rest

defaulted : (id : Text) (rules : List Rule) (rows : List Row) → bytes_eq id id ≡ true → HasDefault id rules → has_row id (fold with_default rows rules) ≡ true
defaulted id [] rows itself has = absurd has
defaulted id (a ∷ rest) rows itself (inl here) =
    all_kept id rest (with_default rows a)
    (subst (λ (name : Text). has_row name (with_default rows a) ≡ true) here.0
    (given_row a.id (reading_by a) a.defaults rows (subst (λ (name : Text). bytes_eq name name ≡ true) (sym here.0) itself) here.1))
defaulted id (a ∷ rest) rows itself (inr later) = defaulted id rest (with_default rows a) itself later

given_has : (id : Text) (rows : List Row) → is_given id rows ≡ true → has_row id rows ≡ true
given_has id [] given = absurd (true≢false (sym given))
given_has id (r ∷ rs) given = go (bytes_eq r.id id) refl (λ more. given_has id rs more)
  where
    go : (b : Bool) → bytes_eq r.id id ≡ b → (is_given id rs ≡ true → has_row id rs ≡ true) → has_row id (r ∷ rs) ≡ true
    go true is rest = rw is refl
    go false is rest = rw is (rest (rw is at given))

-- an option that has a row is given a number of its range
given_in : (c : List Rule) (o : NumberOption) (rows : List Row) → arg_by_id c o.name ≡ Some (number_option o) → AreGood c rows → has_row o.name rows ≡ true → IsGivenIn o rows
given_in c o rows known good has =
    let found = found_value c o.name rows has good in
    let takes = accepts-Accepts false (parsers.Unsigned o.least o.most) found.0 (rw known at found.3) in
    (digits_value 10 (without_leading_plus found.0), (found.0, found.2, takes.0, refl), takes.2, takes.3, takes.1)

may_be_given_in : (c : List Rule) (o : NumberOption) (rows : List Row) → arg_by_id c o.name ≡ Some (number_option o) → AreGood c rows → MayBeGivenIn o rows
may_be_given_in c o rows known good = go (has_row o.name rows) refl
  where
    go : (b : Bool) → has_row o.name rows ≡ b → MayBeGivenIn o rows
    go true is = inr (given_in c o rows known good is)
    go false is = inl (no_value o.name rows is)

-- the option of a text that is given has one
has_text : (c : List Rule) (name : Text) (rows : List Row) → AreGood c rows → is_given name rows ≡ true → IsSome (first_of name rows)
has_text c name rows good given =
    let found = found_value c name rows (given_has name rows given) good in
    subst (λ (o : Option Text). IsSome o) (sym found.1) refl

-- what words leave at the end, where no fault is found with them
ended : (s : Shape) → AreTame s s.rules → HaveGoodDefaults s.rules s.rules → (words : List Text) → level_fault s [] nothing_held words false [] ≡ []
    → AreGood s.rules (rows_after s.rules [] words) × (check_fault s (rows_after s.rules [] words) false ≡ [])
ended s tame suit words none =
    let leaf = leaf_good s tame words none in
    (defaults_good s.rules s.rules (settled s.rules (walk s.rules [] nothing_held words).held).rows suit leaf.0, leaf.1)

defaults_row : (s : Shape) (id : Text) (words : List Text) → bytes_eq id id ≡ true → HasDefault id s.rules → has_row id (rows_after s.rules [] words) ≡ true
defaults_row s id words itself has = defaulted id s.rules (settled s.rules (walk s.rules [] nothing_held words).held).rows itself has

-- ---- `legs`

abbrev legs : Shape
legs = built_leaf (inherited (built mcv_app).top legs_app.top)

legs_given : (words : List Text) → level_fault legs [] nothing_held words false [] ≡ [] → IsGivenIn at_option (rows_after legs.rules [] words)
legs_given words none =
    let tame : AreTame legs legs.rules = (number_tame legs at_option refl, (help_tame legs, tt)) in
    let suit : HaveGoodDefaults legs.rules legs.rules = ((refl, refl), (tt, tt)) in
    let good = (ended legs tame suit words none).0 in
    given_in legs.rules at_option (rows_after legs.rules [] words) refl good (defaults_row legs at_option.name words refl (inl (refl, refl)))

-- ---- `check`

abbrev check : Shape
check = built_leaf (inherited (built mcv_app).top check_app.top)

check_given : (words : List Text) → level_fault check [] nothing_held words false [] ≡ [] → IsGivenIn window_option (rows_after check.rules [] words)
check_given words none =
    let tame : AreTame check check.rules = (
      text_tame check (codes "cert") false refl,
      (
        number_tame check window_option refl,
        (flag_tame check (codes "explain") None refl, (flag_tame check (codes "json") None refl, (flag_tame check (codes "quiet") (Some 113) refl, (help_tame check, tt)))),
      ),
    ) in
    let suit : HaveGoodDefaults check.rules check.rules = (tt, ((refl, refl), ((refl, refl), ((refl, refl), ((refl, refl), (tt, tt)))))) in
    let good = (ended check tame suit words none).0 in
    given_in check.rules window_option (rows_after check.rules [] words) refl good (defaults_row check window_option.name words refl (inr (inl (refl, refl))))

-- ---- `run`

abbrev run : Shape
run = built_leaf (inherited (built mcv_app).top run_app.top)

run_tame : AreTame run run.rules
run_tame = (
  text_tame run (codes "listen") true refl,
  (
    text_tame run (codes "spool") true refl,
    (
      number_tame run sessions_option refl,
      (
        number_tame run hubs_option refl,
        (
          number_tame run window_option refl,
          (
            number_tame run server_timeout_option refl,
            (
              number_tame run client_timeout_option refl,
              (
                number_tame run max_clients_option refl,
                (number_tame run answer_bytes_option refl, (text_tame run (codes "admin") false refl, (help_tame run, tt))),
              ),
            ),
          ),
        ),
      ),
    ),
  ),
)

both_given : (a b : Bool) → cond (not a || (not b || false)) (MissingRequiredArgument ∷ []) [] ≡ [] → (a ≡ true) × (b ≡ true)
both_given true true e = (refl, refl)
both_given true false e = absurd (some_kind MissingRequiredArgument [] e)
both_given false b e = absurd (some_kind MissingRequiredArgument [] e)

run_given : (words : List Text) → level_fault run [] nothing_held words false [] ≡ [] → CanRun (rows_after run.rules [] words)
run_given words none =
    let suit : HaveGoodDefaults run.rules run.rules = (tt, (tt, (tt, ((refl, refl), ((refl, refl), (tt, (tt, (tt, ((refl, refl), (tt, (tt, tt))))))))))) in
    let end = ended run run_tame suit words none in
    let rows : List Row = rows_after run.rules [] words in
    let both = both_given (is_given (codes "listen") rows) (is_given (codes "spool") rows) end.1 in
    record {
      listen = has_text run.rules (codes "listen") rows end.0 both.0;
      spool = has_text run.rules (codes "spool") rows end.0 both.1;
      sessions = may_be_given_in run.rules sessions_option rows refl end.0;
      hubs = given_in run.rules hubs_option rows refl end.0 (defaults_row run hubs_option.name words refl (inr (inr (inr (inl (refl, refl))))));
      window = given_in run.rules window_option rows refl end.0 (defaults_row run window_option.name words refl (inr (inr (inr (inr (inl (refl, refl)))))));
      server_timeout = may_be_given_in run.rules server_timeout_option rows refl end.0;
      client_timeout = may_be_given_in run.rules client_timeout_option rows refl end.0;
      max_clients = may_be_given_in run.rules max_clients_option rows refl end.0;
      answer_bytes =
          given_in run.rules answer_bytes_option rows refl end.0
          (defaults_row run answer_bytes_option.name words refl (inr (inr (inr (inr (inr (inr (inr (inr (inl (refl, refl)))))))))));
    }

-- ---- `spool`

abbrev spool : Shape
spool = built_leaf (inherited (built mcv_app).top spool_app.top)

file_tame : IsTame spool (with_index 1 (filled file_rule))
file_tame [] rows none good = absurd (some_kind InvalidValue [] none)
file_tame (v ∷ vs) rows none good = written spool.rules (codes "file") v vs rows refl good

one_given : (a : Bool) → cond (not a || false) (MissingRequiredArgument ∷ []) [] ≡ [] → a ≡ true
one_given true e = refl
one_given false e = absurd (some_kind MissingRequiredArgument [] e)

spool_given : (words : List Text) → level_fault spool [] nothing_held words false [] ≡ [] → IsSome (first_of (codes "file") (rows_after spool.rules [] words))
spool_given words none =
    let tame : AreTame spool spool.rules = (file_tame, (flag_tame spool (codes "all") None refl, (help_tame spool, tt))) in
    let suit : HaveGoodDefaults spool.rules spool.rules = (tt, ((refl, refl), (tt, tt))) in
    let end = ended spool tame suit words none in
    let rows : List Row = rows_after spool.rules [] words in
    has_text spool.rules (codes "file") rows end.0 (one_given (is_given (codes "file") rows) end.1)

-- ---- all words

abbrev entered_with : Text → List Row → Option (Text × List Row)
entered_with name rows = Some (name, rows)

rows_there : (name : Text) (rows more : List Row) → entered_with name rows ≡ entered_with name more → rows ≡ more
rows_there name rows more is = ap (λ (o : Option (Text × List Row)). option_map_or (λ p. p.1) o []) is

name_apart : (a b : Text) (rows more : List Row) → bytes_eq a a ≡ true → bytes_eq b a ≡ false → entered_with a rows ≡ entered_with b more → ⊥
name_apart a b rows more itself other is = true≢false (sym itself ∙ ap (λ (o : Option (Text × List Row)). option_map_or (λ p. bytes_eq p.0 a) o false) is ∙ other)

-- where the walk stopped at a command, with the words behind it
at_name : (name called : Text) (p : Text × List Text) (rows : List Row) → p.0 ≡ called → entered (built mcv_app) (Some p) ≡ Some (name, rows)
    → entered (built mcv_app) (Some (called, p.1)) ≡ Some (name, rows)
at_name name called p rows is at = subst (λ (n : Text). entered (built mcv_app) (Some (n, p.1)) ≡ Some (name, rows)) is at

no_fault_at : (called : Text) (p : Text × List Text) → p.0 ≡ called → entered_fault (built mcv_app) (Some p) ≡ [] → entered_fault (built mcv_app) (Some (called, p.1)) ≡ []
no_fault_at called p is none = subst (λ (n : Text). entered_fault (built mcv_app) (Some (n, p.1)) ≡ []) is none

at_legs : (stop : Option (Text × List Text)) (rows : List Row) → StopsAtCommand stop → entered (built mcv_app) stop ≡ Some (codes "legs", rows)
    → entered_fault (built mcv_app) stop ≡ [] → IsGivenIn at_option rows
at_legs None rows stops at none = absurd (cc)
at_legs (Some p) rows (inl other) at none = absurd (name_apart (codes "check") (codes "legs") _ rows refl refl (at_name (codes "legs") (codes "check") p rows other at))
at_legs (Some p) rows (inr (inl other)) at none = absurd (name_apart (codes "draw") (codes "legs") _ rows refl refl (at_name (codes "legs") (codes "draw") p rows other at))
at_legs (Some p) rows (inr (inr (inr (inl other)))) at none = absurd (name_apart (codes "mend") (codes "legs") _ rows refl refl (at_name (codes "legs") (codes "mend") p rows other at))
at_legs (Some p) rows (inr (inr (inr (inr (inl other))))) at none = absurd (name_apart (codes "run") (codes "legs") _ rows refl refl (at_name (codes "legs") (codes "run") p rows other at))
at_legs (Some p) rows (inr (inr (inr (inr (inr other))))) at none = absurd (name_apart (codes "spool") (codes "legs") _ rows refl refl (at_name (codes "legs") (codes "spool") p rows other at))
at_legs (Some p) rows (inr (inr (inl is))) at none =
    let same : rows_after legs.rules [] p.1 ≡ rows = rows_there (codes "legs") (rows_after legs.rules [] p.1) rows (at_name (codes "legs") (codes "legs") p rows is at) in
    subst (λ (them : List Row). IsGivenIn at_option them) same (legs_given p.1 (no_fault_at (codes "legs") p is none))

at_check : (stop : Option (Text × List Text)) (rows : List Row) → StopsAtCommand stop → entered (built mcv_app) stop ≡ Some (codes "check", rows)
    → entered_fault (built mcv_app) stop ≡ [] → IsGivenIn window_option rows
at_check None rows stops at none = absurd (cc)
at_check (Some p) rows (inr (inl other)) at none = absurd (name_apart (codes "draw") (codes "check") _ rows refl refl (at_name (codes "check") (codes "draw") p rows other at))
at_check (Some p) rows (inr (inr (inl other))) at none = absurd (name_apart (codes "legs") (codes "check") _ rows refl refl (at_name (codes "check") (codes "legs") p rows other at))
at_check (Some p) rows (inr (inr (inr (inl other)))) at none = absurd (name_apart (codes "mend") (codes "check") _ rows refl refl (at_name (codes "check") (codes "mend") p rows other at))
at_check (Some p) rows (inr (inr (inr (inr (inl other))))) at none = absurd (name_apart (codes "run") (codes "check") _ rows refl refl (at_name (codes "check") (codes "run") p rows other at))
at_check (Some p) rows (inr (inr (inr (inr (inr other))))) at none = absurd (name_apart (codes "spool") (codes "check") _ rows refl refl (at_name (codes "check") (codes "spool") p rows other at))
at_check (Some p) rows (inl is) at none =
    let same : rows_after check.rules [] p.1 ≡ rows = rows_there (codes "check") (rows_after check.rules [] p.1) rows (at_name (codes "check") (codes "check") p rows is at) in
    subst (λ (them : List Row). IsGivenIn window_option them) same (check_given p.1 (no_fault_at (codes "check") p is none))

at_run : (stop : Option (Text × List Text)) (rows : List Row) → StopsAtCommand stop → entered (built mcv_app) stop ≡ Some (codes "run", rows)
    → entered_fault (built mcv_app) stop ≡ [] → CanRun rows
at_run None rows stops at none = absurd (cc)
at_run (Some p) rows (inl other) at none = absurd (name_apart (codes "check") (codes "run") _ rows refl refl (at_name (codes "run") (codes "check") p rows other at))
at_run (Some p) rows (inr (inl other)) at none = absurd (name_apart (codes "draw") (codes "run") _ rows refl refl (at_name (codes "run") (codes "draw") p rows other at))
at_run (Some p) rows (inr (inr (inl other))) at none = absurd (name_apart (codes "legs") (codes "run") _ rows refl refl (at_name (codes "run") (codes "legs") p rows other at))
at_run (Some p) rows (inr (inr (inr (inl other)))) at none = absurd (name_apart (codes "mend") (codes "run") _ rows refl refl (at_name (codes "run") (codes "mend") p rows other at))
at_run (Some p) rows (inr (inr (inr (inr (inr other))))) at none = absurd (name_apart (codes "spool") (codes "run") _ rows refl refl (at_name (codes "run") (codes "spool") p rows other at))
at_run (Some p) rows (inr (inr (inr (inr (inl is))))) at none =
    let same : rows_after run.rules [] p.1 ≡ rows = rows_there (codes "run") (rows_after run.rules [] p.1) rows (at_name (codes "run") (codes "run") p rows is at) in
    subst CanRun same (run_given p.1 (no_fault_at (codes "run") p is none))

at_spool : (stop : Option (Text × List Text)) (rows : List Row) → StopsAtCommand stop → entered (built mcv_app) stop ≡ Some (codes "spool", rows)
    → entered_fault (built mcv_app) stop ≡ [] → IsSome (first_of (codes "file") rows)
at_spool None rows stops at none = absurd (cc)
at_spool (Some p) rows (inl other) at none = absurd (name_apart (codes "check") (codes "spool") _ rows refl refl (at_name (codes "spool") (codes "check") p rows other at))
at_spool (Some p) rows (inr (inl other)) at none = absurd (name_apart (codes "draw") (codes "spool") _ rows refl refl (at_name (codes "spool") (codes "draw") p rows other at))
at_spool (Some p) rows (inr (inr (inl other))) at none = absurd (name_apart (codes "legs") (codes "spool") _ rows refl refl (at_name (codes "spool") (codes "legs") p rows other at))
at_spool (Some p) rows (inr (inr (inr (inl other)))) at none = absurd (name_apart (codes "mend") (codes "spool") _ rows refl refl (at_name (codes "spool") (codes "mend") p rows other at))
at_spool (Some p) rows (inr (inr (inr (inr (inl other))))) at none = absurd (name_apart (codes "run") (codes "spool") _ rows refl refl (at_name (codes "spool") (codes "run") p rows other at))
at_spool (Some p) rows (inr (inr (inr (inr (inr is))))) at none =
    let same : rows_after spool.rules [] p.1 ≡ rows = rows_there (codes "spool") (rows_after spool.rules [] p.1) rows (at_name (codes "spool") (codes "spool") p rows is at) in
    subst (λ (them : List Row). IsSome (first_of (codes "file") them)) same (spool_given p.1 (no_fault_at (codes "spool") p is none))

-- words that clap takes and that name `legs` give `--at` a value
pub legs_values : (words : List Text) (rows : List Row) → faults words ≡ [] → named words ≡ Some (codes "legs", rows) → IsGivenIn at_option rows
legs_values words rows none is = at_legs (stop_of words) rows (stops_at_command words none) is (none_below words none)

-- .. and those that name `check` give `--window` a number of its range
pub check_values : (words : List Text) (rows : List Row) → faults words ≡ [] → named words ≡ Some (codes "check", rows) → IsGivenIn window_option rows
check_values words rows none is = at_check (stop_of words) rows (stops_at_command words none) is (none_below words none)

-- .. and those that name `run` give each of its options one
pub run_values : (words : List Text) (rows : List Row) → faults words ≡ [] → named words ≡ Some (codes "run", rows) → CanRun rows
run_values words rows none is = at_run (stop_of words) rows (stops_at_command words none) is (none_below words none)

-- .. and those that name `spool` give its file
pub spool_values : (words : List Text) (rows : List Row) → faults words ≡ [] → named words ≡ Some (codes "spool", rows) → IsSome (first_of (codes "file") rows)
spool_values words rows none is = at_spool (stop_of words) rows (stops_at_command words none) is (none_below words none)
