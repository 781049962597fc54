-- Words with which clap finds no fault name the command `check`, `draw`, `legs`, `mend`, `run` or `spool`: `mcv` wants a command, and the
-- only other one, `help`, is always a fault.
use Rattle.std.proofs.Common.{◌≡◌, ◌∙◌, ◌⊎◌, inl, inr, ℕ, Bool, cond, true, false, List, [], ◌∷◌, drop, Option, Some, None, ap, codes, fold, is_some, option_map, refl, subst, sym, true≢false}
use Rattle.std.specs.Prelude.{IfSome, ⊤}
use Rattle.std.specs.Str.{bytes_eq}
use Rattle.clap.specs.Words.{Kinds, Row, Rule, Shape, Text, built}
use Rattle.clap.specs.Kinds.{or_else}
use Rattle.clap.specs.Lexer.{long_of, short_of}
use Rattle.clap.specs.Simple.{entered, names_of}
use Rattle.clap.specs.Walk.{Held, Names, Outcome, Step, Waiting, Walk, done, waits, plain, refused, idle, option, positional, next, trailing, subcommand, value}
use Rattle.clap.specs.Walk.{after_flag, after_step, answers_to, arg_by_index, arg_by_long, bundle, finished, long_met, long_or_other, nothing_held, plain_word, settled, short_or_plain, subcommand_met, subcommand_or_other, to_positional, walk, walk_from, walked, walked_from, word_met}
use Rattle.clap.specs.Faults.{check_fault, defaults_fault, entered_fault, level_fault, other_fault, settle_fault, step_fault, turn_fault, walk_fault, word_fault}
use Rattle.clap.specs.declared.error.kind.ErrorKind.{ErrorKind}
use Rattle.clap.specs.declared.error.kind.ErrorKind.TheVariants.{DisplayHelp, InvalidSubcommand, MissingSubcommand}
use Rattle.mcv_words.specs.Words.{faults, mcv_app, named as named_by}

abbrev pub NamesCommand : List Text → Text → Type 0
NamesCommand words name = (rows : List Row) × (named_by words ≡ Some (name, rows))

abbrev top : Shape
top = (built mcv_app).top

abbrev names : Names
names = names_of (built mcv_app)

abbrev pub IsCommand : Text → Type 0
IsCommand name =
    (name ≡ codes "check") ⊎ ((name ≡ codes "draw") ⊎ ((name ≡ codes "legs") ⊎ ((name ≡ codes "mend") ⊎ ((name ≡ codes "run") ⊎ (name ≡ codes "spool")))))

abbrev pub StopsAtCommand : Option (Text × List Text) → Type 0
StopsAtCommand stop = IfSome stop (λ p. IsCommand p.0)

abbrev EntersCommand : Step → Type 0
EntersCommand (subcommand name) = IsCommand name
EntersCommand _ = ⊤

pub some_kind : (k : ErrorKind) (ks : Kinds) → k ∷ ks ≡ [] → ⊥
some_kind k ks e = cc

pub none_of : (a b : Kinds) → or_else a b ≡ [] → (a ≡ []) × (b ≡ [])
none_of [] b e = (refl, e)
none_of (k ∷ ks) b e = absurd (some_kind k ks e)

-- ---- one word

-- the command of the seven that answers
abbrev answering : Bool → Bool → Bool → Bool → Bool → Bool → Bool → Option Text
answering check draw legs mend run spool help =
    option_map (λ (s : Text × List Text). s.0)
    (cond check (Some (codes "check", []))
    (cond draw (Some (codes "draw", []))
    (cond legs (Some (codes "legs", []))
    (cond mend (Some (codes "mend", [])) (cond run (Some (codes "run", [])) (cond spool (Some (codes "spool", [])) (cond help (Some (codes "help", [])) None)))))))

named : (waiting : Waiting) (word : Text) (h : Held) → other_fault top (subcommand_met names waiting word) word h ≡ [] → IfSome (subcommand_met names waiting word) IsCommand
named (option id) word h none = tt
named positional word h none = tt
named idle word h none =
    go (answers_to word (codes "check", [])) (answers_to word (codes "draw", [])) (answers_to word (codes "legs", [])) (answers_to word (codes "mend", [])) (answers_to word (codes "run", [])) (answers_to word (codes "spool", []))
    (answers_to word (codes "help", [])) none
  where
    go : (a b c d e f g : Bool) → other_fault top (answering a b c d e f g) word h ≡ [] → IfSome (answering a b c d e f g) IsCommand
    go true b c d e f g none = inl refl
    go false true c d e f g none = inr (inl refl)
    go false false true d e f g none = inr (inr (inl refl))
    go false false false true e f g none = inr (inr (inr (inl refl)))
    go false false false false true f g none = inr (inr (inr (inr (inl refl))))
    go false false false false false true g none = inr (inr (inr (inr (inr refl))))
    go false false false false false false true none = absurd (some_kind DisplayHelp (InvalidSubcommand ∷ []) none)
    go false false false false false false false none = tt

after_plain : (c : List Rule) (waiting : Waiting) (word : Text) (h : Held) → EntersCommand (plain_word c waiting word h).1
after_plain c (option id) word h = tt
after_plain c idle word h = tt
after_plain c positional word h = tt

flag_enters_none : (c : List Rule) (waiting : Waiting) (word : Text) (h : Held) (outcome : Outcome) → EntersCommand (after_flag c waiting word h outcome).1
flag_enters_none c waiting word h done = tt
flag_enters_none c waiting word h (waits id) = tt
flag_enters_none c waiting word h plain = after_plain c waiting word h
flag_enters_none c waiting word h refused = after_plain c waiting word h

short_enters_none : (c : List Rule) (waiting : Waiting) (word : Text) (flags : Option Text) (h : Held) → EntersCommand (short_or_plain c waiting word flags h).1
short_enters_none c waiting word (Some flags) h = flag_enters_none c waiting word (bundle c flags h).0 (bundle c flags h).1
short_enters_none c waiting word None h = after_plain c waiting word h

other_enters_none : (c : List Rule) (waiting : Waiting) (word : Text) (long : Option (Text × Option Text)) (h : Held) → EntersCommand (long_or_other c waiting word long h).1
other_enters_none c waiting word (Some p) h = flag_enters_none c waiting word (long_met c (arg_by_long c p.0) p.1 h).0 (long_met c (arg_by_long c p.0) p.1 h).1
other_enters_none c waiting word None h = short_enters_none c waiting word (short_of word) h

enters : (c : List Rule) (name : Option Text) (waiting : Waiting) (position : ℕ) (word : Text) (h : Held) → IfSome name IsCommand
    → EntersCommand (subcommand_or_other c name waiting position word h).1
enters c (Some name) waiting position word h is = is
enters c None waiting position word h is = go (bytes_eq word (45 ∷ 45 ∷ []))
  where
    go : (b : Bool) → EntersCommand (cond b (h, trailing position) (long_or_other c waiting word (long_of word) h)).1
    go true = tt
    go false = other_enters_none c waiting word (long_of word) h

word_enters : (is_trailing : Bool) (waiting : Waiting) (position : ℕ) (word : Text) (h : Held) → word_fault top names is_trailing waiting word h ≡ []
    → EntersCommand (word_met top.rules names is_trailing waiting position word h).1
word_enters true waiting position word h none = tt
word_enters false waiting position word h none = enters top.rules (subcommand_met names waiting word) waiting position word h (named waiting word h none)

-- ---- the walk

after : (c : List Rule) (word : Text) (w : Walk) (h : Held) (step : Step) → StopsAtCommand w.stopped → EntersCommand step → StopsAtCommand (after_step c word w h step).stopped
after c word w h (next waiting) before here = before
after c word w h (trailing position) before here = before
after c word w h (subcommand name) before here = here
after c word w h value before here = go (arg_by_index c w.position)
  where
    go : (o : Option Rule) → StopsAtCommand (to_positional c o word w h).stopped
    go None = before
    go (Some a) = tt

one_more : (stop : Option (Text × List Text)) (w : Walk) (word : Text) → w.stopped ≡ stop → StopsAtCommand stop → turn_fault top names w word ≡ []
    → StopsAtCommand (walked_from top.rules names stop w word).stopped
one_more (Some p) w word is before none = before
one_more None w word is before none =
    let met : Held × Step = word_met top.rules names w.is_trailing w.waiting w.position word w.held in
    let word_kinds : Kinds = word_fault top names w.is_trailing w.waiting word w.held in
    let step_kinds : Kinds = step_fault top w.position met.0 met.1 in
    let here : or_else word_kinds step_kinds ≡ [] = ap (λ (o : Option (Text × List Text)). cond (is_some o) [] (or_else word_kinds step_kinds)) (sym is) ∙ none in
    after top.rules word w met.0 met.1 (subst StopsAtCommand (sym is) tt) (word_enters w.is_trailing w.waiting w.position word w.held (none_of word_kinds step_kinds here).0)

stops : (words : List Text) (w : Walk) → StopsAtCommand w.stopped → walk_fault top names w words ≡ [] → StopsAtCommand (fold (walked top.rules names) w words).stopped
unfolding walk_fault walked
stops [] w before none = before
stops (word ∷ rest) w before none =
    let both = none_of (turn_fault top names w word) (walk_fault top names (walked top.rules names w word) rest) none in
    stops rest (walked top.rules names w word) (one_more w.stopped w word refl before both.0) both.1

-- ---- all words

level : (s : Shape) (known : Names) (h : Held) (words : List Text) (has : Bool) (below : Kinds) → level_fault s known h words has below ≡ []
    → (walk_fault s known (walk_from h) words ≡ []) × (below ≡ []) × (check_fault s (finished s.rules (walk s.rules known h words).held) has ≡ [])
level s known h words has below none =
    let end : Held = (walk s.rules known h words).held in
    let settling : Kinds = settle_fault s.rules s.args_override_self end in
    let defaulting : Kinds = defaults_fault (settled s.rules end).rows s.rules in
    let checking : Kinds = check_fault s (finished s.rules end) has in
    let walking = none_of (walk_fault s known (walk_from h) words) (or_else below (or_else settling (or_else defaulting checking))) none in
    let later = none_of below (or_else settling (or_else defaulting checking)) walking.1 in
    let last = none_of settling (or_else defaulting checking) later.1 in
    (walking.0, later.0, (none_of defaulting checking last.1).1)

wanted : (has : Bool) (rows : List Row) → check_fault top rows has ≡ [] → has ≡ true
wanted true rows none = refl
wanted false rows none = absurd (some_kind MissingSubcommand [] none)

abbrev Enters : Option (Text × List Text) → Text → Type 0
Enters stop name = (rows : List Row) × (entered (built mcv_app) stop ≡ Some (name, rows))

abbrev EntersOne : Option (Text × List Text) → Type 0
EntersOne stop =
    Enters stop (codes "check")
    ⊎ (Enters stop (codes "draw") ⊎ (Enters stop (codes "legs") ⊎ (Enters stop (codes "mend") ⊎ (Enters stop (codes "run") ⊎ Enters stop (codes "spool")))))

entered_as : (name : Text) (p : Text × List Text) (rows : List Row) → entered (built mcv_app) (Some (name, p.1)) ≡ Some (name, rows) → p.0 ≡ name → Enters (Some p) name
entered_as name p rows at is = (rows, subst (λ (called : Text). entered (built mcv_app) (Some (called, p.1)) ≡ Some (name, rows)) (sym is) at)

entered_command : (stop : Option (Text × List Text)) → StopsAtCommand stop → is_some (entered (built mcv_app) stop) ≡ true → EntersOne stop
entered_command None at has = absurd (true≢false (sym has))
entered_command (Some p) (inl check) has = inl (entered_as (codes "check") p _ refl check)
entered_command (Some p) (inr (inl draw)) has = inr (inl (entered_as (codes "draw") p _ refl draw))
entered_command (Some p) (inr (inr (inl legs))) has = inr (inr (inl (entered_as (codes "legs") p _ refl legs)))
entered_command (Some p) (inr (inr (inr (inl mend)))) has = inr (inr (inr (inl (entered_as (codes "mend") p _ refl mend))))
entered_command (Some p) (inr (inr (inr (inr (inl run))))) has = inr (inr (inr (inr (inl (entered_as (codes "run") p _ refl run)))))
entered_command (Some p) (inr (inr (inr (inr (inr spool))))) has = inr (inr (inr (inr (inr (entered_as (codes "spool") p _ refl spool)))))

-- where the walk over the words stops
abbrev pub stop_of : List Text → Option (Text × List Text)
stop_of words = (walk top.rules names nothing_held (drop 1 words)).stopped

abbrev meets : List Text → Bool
meets words = is_some (entered (built mcv_app) (stop_of words))

free : (words : List Text) → faults words ≡ []
    → (walk_fault top names (walk_from nothing_held) (drop 1 words) ≡ []) × (entered_fault (built mcv_app) (stop_of words) ≡ [])
    × (check_fault top (finished top.rules (walk top.rules names nothing_held (drop 1 words)).held) (meets words) ≡ [])
free words none = level top names nothing_held (drop 1 words) (meets words) (entered_fault (built mcv_app) (stop_of words)) none

pub stops_at_command : (words : List Text) → faults words ≡ [] → StopsAtCommand (stop_of words)
stops_at_command words none = stops (drop 1 words) (walk_from nothing_held) tt (free words none).0

pub none_below : (words : List Text) → faults words ≡ [] → entered_fault (built mcv_app) (stop_of words) ≡ []
none_below words none = (free words none).1

pub taken : (words : List Text) → faults words ≡ []
    → NamesCommand words (codes "check")
    ⊎ (NamesCommand words (codes "draw")
    ⊎ (NamesCommand words (codes "legs") ⊎ (NamesCommand words (codes "mend") ⊎ (NamesCommand words (codes "run") ⊎ NamesCommand words (codes "spool")))))
taken words none =
    entered_command (stop_of words) (stops_at_command words none) (wanted (meets words) (finished top.rules (walk top.rules names nothing_held (drop 1 words)).held) (free words none).2)
