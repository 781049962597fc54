-- What clap makes of short command lines.
use Rattle.std.proofs.Common.{◌≡◌, [], ◌∷◌, ◌++◌, List, Option, Some, None, refl, codes, option_map}
use Rattle.clap.specs.Words.{Row, Text, first_of, one_of}
use Rattle.clap.specs.declared.error.kind.ErrorKind.TheVariants.{ArgumentConflict, DisplayHelp, DisplayVersion, InvalidSubcommand, MissingRequiredArgument, MissingSubcommand, TooManyValues, UnknownArgument, ValueValidation}
use Rattle.clap.proofs.OnLiterals.{clap_on_literals}
use Rattle.mcv_words.specs.Words.{faults, named}

legs : faults (codes "mcv" ∷ codes "legs" ∷ []) ≡ []
unfolding clap_on_literals
legs = refl

abbrev at_of : Option (Text × List Row) → Option (Option Text)
at_of = option_map (λ p. one_of (codes "at") p.1)

legs_named : at_of (named (codes "mcv" ∷ codes "legs" ∷ [])) ≡ Some (Some (codes "0"))
unfolding clap_on_literals
legs_named = refl

at : faults (codes "mcv" ∷ codes "legs" ∷ codes "--at" ∷ codes "8199" ∷ []) ≡ []
unfolding clap_on_literals
at = refl

at_named : at_of (named (codes "mcv" ∷ codes "legs" ∷ codes "--at" ∷ codes "8199" ∷ [])) ≡ Some (Some (codes "8199"))
unfolding clap_on_literals
at_named = refl

at_joined : at_of (named (codes "mcv" ∷ codes "legs" ∷ codes "--at=18446744073709551615" ∷ [])) ≡ Some (Some (codes "18446744073709551615"))
unfolding clap_on_literals
at_joined = refl

no_number : faults (codes "mcv" ∷ codes "legs" ∷ codes "--at" ∷ codes "soon" ∷ []) ≡ ValueValidation ∷ []
unfolding clap_on_literals
no_number = refl

at_twice : faults (codes "mcv" ∷ codes "legs" ∷ codes "--at" ∷ codes "1" ∷ codes "--at" ∷ codes "2" ∷ []) ≡ ArgumentConflict ∷ []
unfolding clap_on_literals
at_twice = refl

no_command : faults (codes "mcv" ∷ []) ≡ MissingSubcommand ∷ []
unfolding clap_on_literals
no_command = refl

no_words : faults [] ≡ MissingSubcommand ∷ []
unfolding clap_on_literals
no_words = refl

unknown_command : faults (codes "mcv" ∷ codes "serve" ∷ []) ≡ UnknownArgument ∷ InvalidSubcommand ∷ []
unfolding clap_on_literals
unknown_command = refl

word_after_the_command : faults (codes "mcv" ∷ codes "legs" ∷ codes "x" ∷ []) ≡ UnknownArgument ∷ []
unfolding clap_on_literals
word_after_the_command = refl

long_help : faults (codes "mcv" ∷ codes "--help" ∷ []) ≡ DisplayHelp ∷ []
unfolding clap_on_literals
long_help = refl

short_help : faults (codes "mcv" ∷ codes "-h" ∷ []) ≡ DisplayHelp ∷ []
unfolding clap_on_literals
short_help = refl

help_of_a_command : faults (codes "mcv" ∷ codes "legs" ∷ codes "--help" ∷ []) ≡ DisplayHelp ∷ []
unfolding clap_on_literals
help_of_a_command = refl

long_version : faults (codes "mcv" ∷ codes "--version" ∷ []) ≡ DisplayVersion ∷ []
unfolding clap_on_literals
long_version = refl

short_version : faults (codes "mcv" ∷ codes "-V" ∷ []) ≡ DisplayVersion ∷ []
unfolding clap_on_literals
short_version = refl

-- a command has no version of its own
version_of_a_command : faults (codes "mcv" ∷ codes "legs" ∷ codes "--version" ∷ []) ≡ UnknownArgument ∷ []
unfolding clap_on_literals
version_of_a_command = refl

-- clap leaves open here whether a further word is the name of a command
help_command : faults (codes "mcv" ∷ codes "help" ∷ []) ≡ DisplayHelp ∷ InvalidSubcommand ∷ []
unfolding clap_on_literals
help_command = refl

check : faults (codes "mcv" ∷ codes "check" ∷ []) ≡ []
unfolding clap_on_literals
check = refl

abbrev cert_of : Option (Text × List Row) → Option (Option Text)
cert_of = option_map (λ p. first_of (codes "cert") p.1)

check_named : cert_of (named (codes "mcv" ∷ codes "check" ∷ [])) ≡ Some None
unfolding clap_on_literals
check_named = refl

cert_named : cert_of (named (codes "mcv" ∷ codes "check" ∷ codes "--cert" ∷ codes "a.cert" ∷ [])) ≡ Some (Some (codes "a.cert"))
unfolding clap_on_literals
cert_named = refl

cert_twice : faults (codes "mcv" ∷ codes "check" ∷ codes "--cert" ∷ codes "a" ∷ codes "--cert" ∷ codes "b" ∷ []) ≡ ArgumentConflict ∷ []
unfolding clap_on_literals
cert_twice = refl

abbrev window_of : Option (Text × List Row) → Option (Option Text)
window_of = option_map (λ p. one_of (codes "window") p.1)

no_window_named : window_of (named (codes "mcv" ∷ codes "check" ∷ [])) ≡ Some (Some (codes "0"))
unfolding clap_on_literals
no_window_named = refl

window_named : window_of (named (codes "mcv" ∷ codes "check" ∷ codes "--window" ∷ codes "604800" ∷ [])) ≡ Some (Some (codes "604800"))
unfolding clap_on_literals
window_named = refl

too_wide_a_window : faults (codes "mcv" ∷ codes "check" ∷ codes "--window" ∷ codes "4294967296" ∷ []) ≡ ValueValidation ∷ []
unfolding clap_on_literals
too_wide_a_window = refl

draw : faults (codes "mcv" ∷ codes "draw" ∷ []) ≡ []
unfolding clap_on_literals
draw = refl

abbrev dot_of : Option (Text × List Row) → Option (Text × Option Text)
dot_of = option_map (λ p. (p.0, one_of (codes "dot") p.1))

draw_named : dot_of (named (codes "mcv" ∷ codes "draw" ∷ [])) ≡ Some (codes "draw", Some (codes "false"))
unfolding clap_on_literals
draw_named = refl

dot_named : dot_of (named (codes "mcv" ∷ codes "draw" ∷ codes "--dot" ∷ [])) ≡ Some (codes "draw", Some (codes "true"))
unfolding clap_on_literals
dot_named = refl

mend : faults (codes "mcv" ∷ codes "mend" ∷ []) ≡ []
unfolding clap_on_literals
mend = refl

abbrev name_of : Option (Text × List Row) → Option Text
name_of = option_map (λ p. p.0)

mend_named : name_of (named (codes "mcv" ∷ codes "mend" ∷ [])) ≡ Some (codes "mend")
unfolding clap_on_literals
mend_named = refl

mend_of_a_file : faults (codes "mcv" ∷ codes "mend" ∷ codes "mcrouter.json" ∷ []) ≡ UnknownArgument ∷ []
unfolding clap_on_literals
mend_of_a_file = refl

abbrev patch_of : Option (Text × List Row) → Option (Option Text)
patch_of = option_map (λ p. one_of (codes "patch") p.1)

patch_named : patch_of (named (codes "mcv" ∷ codes "mend" ∷ codes "--patch" ∷ [])) ≡ Some (Some (codes "true"))
unfolding clap_on_literals
patch_named = refl

no_patch_named : patch_of (named (codes "mcv" ∷ codes "mend" ∷ [])) ≡ Some (Some (codes "false"))
unfolding clap_on_literals
no_patch_named = refl

-- a flag takes no value
patch_with_a_value : faults (codes "mcv" ∷ codes "mend" ∷ codes "--patch=x" ∷ []) ≡ TooManyValues ∷ []
unfolding clap_on_literals
patch_with_a_value = refl

abbrev at_address : List Text
at_address = codes "mcv" ∷ codes "run" ∷ codes "--listen" ∷ codes "h:1" ∷ []

abbrev run_line : List Text
run_line = at_address ++ codes "--spool" ∷ codes "f" ∷ []

run : faults run_line ≡ []
unfolding clap_on_literals
run = refl

abbrev run_of : Option (Text × List Row) → Option (Option Text × Option Text × Option Text × Option Text × Option Text × Option Text × Option Text)
run_of = option_map (λ p. (
  first_of (codes "listen") p.1,
  first_of (codes "spool") p.1,
  one_of (codes "sessions") p.1,
  one_of (codes "hubs") p.1,
  one_of (codes "window") p.1,
  one_of (codes "server-timeout") p.1,
  one_of (codes "client-timeout") p.1,
))

run_named : run_of (named run_line) ≡ Some (Some (codes "h:1"), Some (codes "f"), None, Some (codes "1"), Some (codes "0"), None, None)
unfolding clap_on_literals
run_named = refl

sessions_named : run_of (named (run_line ++ codes "--sessions" ∷ codes "3" ∷ [])) ≡ Some (Some (codes "h:1"), Some (codes "f"), Some (codes "3"), Some (codes "1"), Some (codes "0"), None, None)
unfolding clap_on_literals
sessions_named = refl

hubs_named : run_of (named (run_line ++ codes "--hubs" ∷ codes "4" ∷ [])) ≡ Some (Some (codes "h:1"), Some (codes "f"), None, Some (codes "4"), Some (codes "0"), None, None)
unfolding clap_on_literals
hubs_named = refl

run_window_named : run_of (named (run_line ++ codes "--window" ∷ codes "60" ∷ [])) ≡ Some (Some (codes "h:1"), Some (codes "f"), None, Some (codes "1"), Some (codes "60"), None, None)
unfolding clap_on_literals
run_window_named = refl

timeouts_named : run_of (named (run_line ++ codes "--client-timeout" ∷ codes "3600000" ∷ codes "--server-timeout=200" ∷ []))
    ≡ Some (Some (codes "h:1"), Some (codes "f"), None, Some (codes "1"), Some (codes "0"), Some (codes "200"), Some (codes "3600000"))
unfolding clap_on_literals
timeouts_named = refl

max_clients_named : option_map (λ (p : Text × List Row). one_of (codes "max-clients") p.1) (named (run_line ++ codes "--max-clients" ∷ codes "1000000" ∷ [])) ≡ Some (Some (codes "1000000"))
unfolding clap_on_literals
max_clients_named = refl

no_clients : faults (run_line ++ codes "--max-clients" ∷ codes "0" ∷ []) ≡ ValueValidation ∷ []
unfolding clap_on_literals
no_clients = refl

abbrev answer_bytes_of : Option (Text × List Row) → Option (Option Text)
answer_bytes_of = option_map (λ p. one_of (codes "answer-bytes") p.1)

answer_bytes_named : answer_bytes_of (named (run_line ++ codes "--answer-bytes" ∷ codes "1099511627776" ∷ [])) ≡ Some (Some (codes "1099511627776"))
unfolding clap_on_literals
answer_bytes_named = refl

answer_bytes_left_out : answer_bytes_of (named run_line) ≡ Some (Some (codes "67108864"))
unfolding clap_on_literals
answer_bytes_left_out = refl

no_answer_bytes : faults (run_line ++ codes "--answer-bytes" ∷ codes "0" ∷ []) ≡ ValueValidation ∷ []
unfolding clap_on_literals
no_answer_bytes = refl

too_many_answer_bytes : faults (run_line ++ codes "--answer-bytes" ∷ codes "1099511627777" ∷ []) ≡ ValueValidation ∷ []
unfolding clap_on_literals
too_many_answer_bytes = refl

admin_named : option_map (λ (p : Text × List Row). one_of (codes "admin") p.1) (named (run_line ++ codes "--admin" ∷ codes "127.0.0.1:5001" ∷ [])) ≡ Some (Some (codes "127.0.0.1:5001"))
unfolding clap_on_literals
admin_named = refl

no_spool : faults at_address ≡ MissingRequiredArgument ∷ []
unfolding clap_on_literals
no_spool = refl

no_sessions : faults (run_line ++ codes "--sessions" ∷ codes "0" ∷ []) ≡ ValueValidation ∷ []
unfolding clap_on_literals
no_sessions = refl

no_hubs : faults (run_line ++ codes "--hubs" ∷ codes "0" ∷ []) ≡ ValueValidation ∷ []
unfolding clap_on_literals
no_hubs = refl

too_many_hubs : faults (run_line ++ codes "--hubs" ∷ codes "9" ∷ []) ≡ ValueValidation ∷ []
unfolding clap_on_literals
too_many_hubs = refl

no_server_timeout : faults (run_line ++ codes "--server-timeout" ∷ codes "0" ∷ []) ≡ ValueValidation ∷ []
unfolding clap_on_literals
no_server_timeout = refl

too_long_a_client_timeout : faults (run_line ++ codes "--client-timeout" ∷ codes "3600001" ∷ []) ≡ ValueValidation ∷ []
unfolding clap_on_literals
too_long_a_client_timeout = refl

abbrev spool_line : List Text
spool_line = codes "mcv" ∷ codes "spool" ∷ codes "f" ∷ []

spool : faults spool_line ≡ []
unfolding clap_on_literals
spool = refl

abbrev spool_of : Option (Text × List Row) → Option (Option Text × Option Text)
spool_of = option_map (λ p. (first_of (codes "file") p.1, one_of (codes "all") p.1))

spool_named : spool_of (named spool_line) ≡ Some (Some (codes "f"), Some (codes "false"))
unfolding clap_on_literals
spool_named = refl

all_named : spool_of (named (codes "mcv" ∷ codes "spool" ∷ codes "--all" ∷ codes "f" ∷ [])) ≡ Some (Some (codes "f"), Some (codes "true"))
unfolding clap_on_literals
all_named = refl

no_file : faults (codes "mcv" ∷ codes "spool" ∷ codes "--all" ∷ []) ≡ MissingRequiredArgument ∷ []
unfolding clap_on_literals
no_file = refl

two_files : faults (spool_line ++ codes "g" ∷ []) ≡ UnknownArgument ∷ []
unfolding clap_on_literals
two_files = refl

-- ---- the flags of `check`

abbrev flag_of : Text → Option (Text × List Row) → Option (Option Text)
flag_of flag = option_map (λ p. one_of flag p.1)

explain_named : flag_of (codes "explain") (named (codes "mcv" ∷ codes "check" ∷ codes "--explain" ∷ [])) ≡ Some (Some (codes "true"))
unfolding clap_on_literals
explain_named = refl

explain_absent : flag_of (codes "explain") (named (codes "mcv" ∷ codes "check" ∷ codes "--quiet" ∷ [])) ≡ Some (Some (codes "false"))
unfolding clap_on_literals
explain_absent = refl

json_named : flag_of (codes "json") (named (codes "mcv" ∷ codes "check" ∷ codes "--json" ∷ [])) ≡ Some (Some (codes "true"))
unfolding clap_on_literals
json_named = refl

quiet_named : flag_of (codes "quiet") (named (codes "mcv" ∷ codes "check" ∷ codes "-q" ∷ [])) ≡ Some (Some (codes "true"))
unfolding clap_on_literals
quiet_named = refl

-- a flag takes no value
flag_with_a_value : faults (codes "mcv" ∷ codes "check" ∷ codes "--explain=x" ∷ []) ≡ TooManyValues ∷ []
unfolding clap_on_literals
flag_with_a_value = refl
