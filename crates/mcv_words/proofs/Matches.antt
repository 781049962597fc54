-- What clap's matches and errors say of the words.
use Rattle.std.proofs.Common.{◌≡◌, ◌∙◌, ◌⊎◌, ◌<◌, ◌≤◌, ◌^◌, inl, inr, ℕ, List, [], Option, Some, None, codes, refl, ap, ap₂, subst, sym}
use Rattle.std.specs.Prelude.{Box, Result, Ok, Err, option_map}
use Rattle.std.specs.Str.Parse.{IsNumeral, ParsesUnsigned, digits_value, without_leading_plus}
use Rattle.std.specs.Box.{box_value}
use Rattle.clap.specs.Words.{IsAmong, ReadsOne, Row, Text, TriesOne, one_of, subcommand_rows_of, subcommand_name_of}
use Rattle.clap.specs.declared.error.kind.ErrorKind.{ErrorKind}
use Rattle.clap.specs.declared.error.kind.ErrorKind.TheVariants.{OutOfMemory}
use Rattle.clap.specs.declared.parser.matches.ArgMatches.{ArgMatches}
use Rattle.clap.specs.declared.parser.matches.ArgMatches.TheViews.{out-ArgMatches, out-SubCommand}
use Rattle.clap.specs.declared.parser.matches.SubCommand.{SubCommand}
use Rattle.clap.specs.Simple.{subcommand_rows}
use Rattle.mcv_words.specs.Table.{NumberOption}
use Rattle.mcv_words.specs.Words.{faults, named, IsCheckOf, IsDrawOf, IsFaultOfKind, IsJobOf, IsLineFault, IsNumberOf, IsRunOf, IsSpoolOf, MayBeGivenIn, IsMendOf}
use Rattle.mcv_words.specs.declared.words.Job.{Job}
use Rattle.mcv_words.specs.declared.words.Job.TheVariants.{Legs, Check, Draw, Mend, Run, Spool}
use Rattle.mcv_words.specs.declared.words.LineFault.{LineFault}
use Rattle.mcv_words.specs.declared.words.LineFault.TheVariants.{BadLine, Memory, Help, Version}

inside : {X : Type 0} (a b : X) → Some a ≡ Some b → a ≡ b
inside a b is = cc

some_pair : (o : Option (Text × List Row)) (name : Text) (rows : List Row) → option_map (λ p. p.0) o ≡ Some name → option_map (λ p. p.1) o ≡ Some rows
    → o ≡ Some (name, rows)
some_pair None name rows is at = absurd (cc)
some_pair (Some p) name rows is at =
    let pair : Text → List Row → Option (Text × List Row) = λ (a : Text) (b : List Row). Some (a, b) in
    ap₂ pair (inside p.0 name is) (inside p.1 rows at)

name_part : {Z : Type 0} (o : Option (Box SubCommand Z)) → option_map (λ p. p.0) (subcommand_rows o) ≡ option_map (λ b. (out-SubCommand (box_value b)).name.now) o
name_part None = refl
name_part (Some b) = refl

-- the subcommand with this name, and the rows of its matches
pub named_rows : (m : ArgMatches) (name : Text) (rows : List Row) → subcommand_name_of m ≡ Some name → option_map (λ p. p.1) (subcommand_rows_of m) ≡ Some rows
    → subcommand_rows_of m ≡ Some (name, rows)
named_rows m name rows is at = some_pair (subcommand_rows_of m) name rows (name_part (out-ArgMatches m).subcommand ∙ is) at

pub name_of_rows : (m : ArgMatches) (name : Text) (rows : List Row) → subcommand_rows_of m ≡ Some (name, rows) → subcommand_name_of m ≡ Some name
name_of_rows m name rows is = sym (name_part (out-ArgMatches m).subcommand) ∙ ap (λ (o : Option (Text × List Row)). option_map (λ p. p.0) o) is

-- a fault by clap's kind is one of the words, where that kind is among theirs
pub fault_of_kind : (words : List Text) (kind : ErrorKind) (fault : LineFault) → (kind ≡ OutOfMemory) ⊎ IsAmong kind (faults words) → IsFaultOfKind kind fault
    → IsLineFault words fault
fault_of_kind words kind BadLine (inl memory) by = absurd (by.0 memory)
fault_of_kind words kind BadLine (inr among) by = (kind, by.1, by.2, among)
fault_of_kind words kind Memory among by = tt
fault_of_kind words kind (Help text) (inl memory) by = absurd (cc)
fault_of_kind words kind (Help text) (inr among) by = subst (λ (k : ErrorKind). IsAmong k (faults words)) by among
fault_of_kind words kind Version (inl memory) by = absurd (cc)
fault_of_kind words kind Version (inr among) by = subst (λ (k : ErrorKind). IsAmong k (faults words)) by among

-- ---- numbers

abbrev ReadsNumbers : {E : Type 0} → (List ℕ → Result ℕ E → Type 0) → Type 0
ReadsNumbers {E} G = (t : List ℕ) (x : Result ℕ E) → G t x → ParsesUnsigned 64 10 t x

-- a text that spells a number of 64 bits is read as one
pub no_number : {E : Type 0} (G : List ℕ → Result ℕ E → Type 0) (text : List ℕ) → ReadsNumbers G → IsNumeral 10 (without_leading_plus text)
    → digits_value 10 (without_leading_plus text) < 2 ^ 64 → ReadsOne G text None → ⊥
no_number G text only spells fits read = only text (Err read.0) read.1 (spells, fits)

-- .. and as the one that it spells
pub number_of : {E : Type 0} (G : List ℕ → Result ℕ E → Type 0) (option : Text) (rows : List Row) (text : List ℕ) (n : ℕ) → ReadsNumbers G → one_of option rows ≡ Some text
    → ReadsOne G text (Some n) → IsNumberOf option rows n
number_of G option rows text n only is read =
    let spelt = only text (Ok n) read in
    (text, is, spelt.0.0, spelt.1)

-- what is read of an option is its number; none where it has no value
pub number_found : {E : Type 0} (G : List ℕ → Result ℕ E → Type 0) (option : Text) (rows : List Row) (known : Option Text) (n : ℕ) → ReadsNumbers G → one_of option rows ≡ known
    → (known ≡ None → ◌≡◌ {A = Result (Option ℕ) E} (Ok (Some n)) (Ok None)) → ((t : List ℕ) → known ≡ Some t → TriesOne G t (Ok (Some n))) → IsNumberOf option rows n
number_found {E} G option rows None n only is none read = absurd (let never : ◌≡◌ {A = Result (Option ℕ) E} (Ok (Some n)) (Ok None) = none refl in cc)
number_found G option rows (Some text) n only is none read = number_of G option rows text n only is (read text refl)

pub none_found : {E : Type 0} (G : List ℕ → Result ℕ E → Type 0) (option : Text) (rows : List Row) (known : Option Text) → one_of option rows ≡ known
    → ((t : List ℕ) → known ≡ Some t → TriesOne G t (Ok None)) → one_of option rows ≡ None
none_found G option rows None is read = is
none_found G option rows (Some text) is read = absurd (read text refl)

-- the number of an option is one
pub one_number : (option : Text) (rows : List Row) (m n : ℕ) → IsNumberOf option rows m → IsNumberOf option rows n → m ≡ n
one_number option rows m n one other =
    let same : one.0 ≡ other.0 = inside one.0 other.0 (sym one.1 ∙ other.1) in
    one.3 ∙ (ap (λ (t : Text). digits_value 10 (without_leading_plus t)) same ∙ sym other.3)

-- a number that was read is in the range in which the option is given one
pub read_in_range : (o : NumberOption) (rows : List Row) (n : ℕ) → IsNumberOf o.name rows n → MayBeGivenIn o rows → (o.least ≤ n) × (n ≤ o.most)
read_in_range o rows n number (inl none) = absurd (let never : None ≡ Some number.0 = sym none ∙ number.1 in cc)
read_in_range o rows n number (inr given) =
    let same = one_number o.name rows n given.0 number given.1 in
    (rw same given.2, rw same given.3)

-- where it is given one, or none, something is read
pub not_unread : {E : Type 0} (G : List ℕ → Result ℕ E → Type 0) (o : NumberOption) (rows : List Row) (e : E) → ReadsNumbers G
    → (one_of o.name rows ≡ None → ◌≡◌ {A = Result (Option ℕ) E} (Err e) (Ok None)) → ((t : List ℕ) → one_of o.name rows ≡ Some t → TriesOne G t (Err e)) → MayBeGivenIn o rows
    → ⊥
not_unread {E} G o rows e only none read (inl left_out) = let never : ◌≡◌ {A = Result (Option ℕ) E} (Err e) (Ok None) = none left_out in cc
not_unread G o rows e only none read (inr given) =
    let number = given.1 in
    only number.0 (Err e) (read number.0 number.1) (number.2, subst (λ (n : ℕ). n < 2 ^ 64) number.3 given.4)

-- the job of `check` that has the values of the words is what they ask for
pub check_asked : (words : List Text) (rows : List Row) (job : Job) → faults words ≡ [] → named words ≡ Some (codes "check", rows) → IsCheckOf rows job → IsJobOf words job
check_asked words rows (Legs at) none check of = absurd of
check_asked words rows (Check cert options) none check of = (none, rows, check, of)
check_asked words rows (Draw dot) none check of = absurd of
check_asked words rows (Mend patch) none check of = absurd of
check_asked words rows (Run options) none check of = absurd of
check_asked words rows (Spool options) none check of = absurd of

-- the job of `draw` that has the values of the words is what they ask for
pub draw_asked : (words : List Text) (rows : List Row) (job : Job) → faults words ≡ [] → named words ≡ Some (codes "draw", rows) → IsDrawOf rows job → IsJobOf words job
draw_asked words rows (Legs at) none draw of = absurd of
draw_asked words rows (Check cert options) none draw of = absurd of
draw_asked words rows (Draw dot) none draw of = (none, rows, draw, of)
draw_asked words rows (Mend patch) none draw of = absurd of
draw_asked words rows (Run options) none draw of = absurd of
draw_asked words rows (Spool options) none draw of = absurd of

-- the job of `mend` that has the values of the words is what they ask for
pub mend_asked : (words : List Text) (rows : List Row) (job : Job) → faults words ≡ [] → named words ≡ Some (codes "mend", rows) → IsMendOf rows job → IsJobOf words job
mend_asked words rows (Legs at) none mend of = absurd of
mend_asked words rows (Check cert options) none mend of = absurd of
mend_asked words rows (Draw dot) none mend of = absurd of
mend_asked words rows (Mend patch) none mend of = (none, rows, mend, of)
mend_asked words rows (Run options) none mend of = absurd of
mend_asked words rows (Spool options) none mend of = absurd of

-- the job of `run` that has the values of the words is what they ask for
pub run_asked : (words : List Text) (rows : List Row) (job : Job) → faults words ≡ [] → named words ≡ Some (codes "run", rows) → IsRunOf rows job → IsJobOf words job
run_asked words rows (Legs at) none run of = absurd of
run_asked words rows (Check cert options) none run of = absurd of
run_asked words rows (Draw dot) none run of = absurd of
run_asked words rows (Mend patch) none run of = absurd of
run_asked words rows (Run options) none run of = (none, rows, run, of)
run_asked words rows (Spool options) none run of = absurd of

-- the job of `spool` that has the values of the words is what they ask for
pub spool_asked : (words : List Text) (rows : List Row) (job : Job) → faults words ≡ [] → named words ≡ Some (codes "spool", rows) → IsSpoolOf rows job → IsJobOf words job
spool_asked words rows (Legs at) none spool of = absurd of
spool_asked words rows (Check cert options) none spool of = absurd of
spool_asked words rows (Draw dot) none spool of = absurd of
spool_asked words rows (Mend patch) none spool of = absurd of
spool_asked words rows (Run options) none spool of = absurd of
spool_asked words rows (Spool options) none spool of = (none, rows, spool, of)
