-- What came of a call's legs where exactly these outcomes are known.
use Rattle.std.specs.Prelude.{List, Option, None, option_map, slice_index_or}
use Rattle.mcv_base.specs.declared.reply.Outcome.{Outcome}
use Rattle.mcv_plan.specs.ReachedAnswers.{Own, reached}

-- by the legs' numbers; in which order they came is left open
abbrev pub own_in : List (Option Outcome) → Own
own_in outcomes k = option_map (λ x. reached k x 0) (slice_index_or outcomes k None)
