-- The parts of a value.
use Rattle.std.specs.Prelude.{ℕ, List, Option, Some, None}
use Rattle.mcv_spans.specs.Place.{Items, Members, Place, array, object, other, text}

abbrev pub members_in : Place → Option Members
members_in (object _ ms) = Some ms
members_in (array _ _) = None
members_in (text _ _) = None
members_in (other _) = None

abbrev pub items_in : Place → Option Items
items_in (object _ _) = None
items_in (array _ ps) = Some ps
items_in (text _ _) = None
items_in (other _) = None

abbrev pub text_in : Place → Option (List ℕ)
text_in (object _ _) = None
text_in (array _ _) = None
text_in (text _ body) = Some body
text_in (other _) = None
