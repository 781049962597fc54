-- What a walk that looks for a hit leaves behind. Nothing but private contracts cites this.
use Rattle.std.specs.Prelude.{◌≡◌, Bool, true, false, ◌++◌, Option, Some, None}
use Rattle.mcv_base.specs.declared.reply.Outcome.{Outcome}
use Rattle.mcv_base.specs.declared.reply.Outcome.TheVariants.{Soft, Error}
use Rattle.mcv_route.specs.Outcomes.{History}
use Rattle.mcv_rules.specs.Arrivals.{goes_on}
use Rattle.mcv_rules.specs.declared.arrival.After.{After}
use Rattle.mcv_rules.specs.declared.arrival.After.TheVariants as after
use Rattle.mcv_symbolic.specs.declared.shown.Added.{Added}
use Rattle.mcv_symbolic.specs.declared.shown.Added.TheVariants as added
use Rattle.mcv_symbolic.specs.declared.shown.Lead.{Lead}
use Rattle.mcv_symbolic.specs.declared.shown.Lead.TheVariants as lead

-- the answer of each leg by which a search goes on as far as it can
abbrev pub passed_on : After → Outcome
passed_on after.Error = Error
passed_on after.Miss = Soft

abbrev pub is_hit : Added → Bool
is_hit added.Hit = true
is_hit (added.Alike y) = false

-- whether a search goes on
abbrev pub goes_on_after : After → Added → Bool
goes_on_after w added.Hit = false
goes_on_after w (added.Alike y) = goes_on w y

-- what was looked for has been added; where there is none, something may have been
abbrev pub IsTried : Option History → Bool → History → History → Type 0
IsTried None found old new = (found ≡ false) × ((es : History) × (new ≡ old ++ es))
IsTried (Some es) found old new = (found ≡ true) × (new ≡ old ++ es)

-- what was looked for has been added; where there is none, these others, whose reply is y
abbrev pub IsAdded : Option History → History → Outcome → Added → History → History → Type 0
IsAdded None others y x old new = (x ≡ added.Alike y) × (new ≡ old ++ others)
IsAdded (Some es) others y x old new = (x ≡ added.Hit) × (new ≡ old ++ es)

-- what was looked for has been added; where there is none, the hit; where there is no hit either, something may have been
abbrev pub IsLead : Option History → Option History → Lead → History → History → Type 0
IsLead (Some es) hit x old new = (x ≡ lead.Led) × (new ≡ old ++ es)
IsLead None (Some es) x old new = (x ≡ lead.Hit) × (new ≡ old ++ es)
IsLead None None x old new = (x ≡ lead.Neither) × ((es : History) × (new ≡ old ++ es))
