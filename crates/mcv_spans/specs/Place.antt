-- Values, by where they stand in their text.
use Rattle.std.specs.Prelude.{ℕ, List, [], ◌∷◌, map, string_bytes}
use Rattle.mcv_spans.specs.declared.value.Located.{Located}
use Rattle.mcv_spans.specs.declared.value.Located.TheOpen.{Located-F, Member-F}
use Rattle.mcv_spans.specs.declared.value.Located.TheFolds.{fold-Located, fold-Member}
use Rattle.mcv_spans.specs.declared.value.Member.{Member}
use Rattle.mcv_spans.specs.declared.value.Span.{Span}

mutual
  pub data Place : Type 0 where
    object : Span → Members → Place
    array : Span → Items → Place
    -- the text, without escapes
    text : Span → List ℕ → Place
    -- a number, true, false or null
    other : Span → Place

  pub data Items : Type 0 where
    no_items : Items
    item : Place → Items → Items

  pub data Members : Type 0 where
    no_members : Members
    -- its name without escapes
    member : List ℕ → Place → Members → Members

abbrev pub span_of : Place → Span
span_of (object span _) = span
span_of (array span _) = span
span_of (text span _) = span
span_of (other span) = span

-- ---- what the code's values mean

abbrev pub MemberPlace : Type 0
MemberPlace = List ℕ × Place

abbrev pub items_of : List Place → Items
items_of [] = no_items
items_of (p ∷ ps) = item p (items_of ps)

abbrev pub members_of : List MemberPlace → Members
members_of [] = no_members
members_of (m ∷ ms) = member m.0 m.1 (members_of ms)

abbrev pub view_step : Located-F Place MemberPlace → Place
view_step (Located-F.Object span members) = object span (members_of members.items)
view_step (Located-F.Array span items) = array span (items_of items.items)
view_step (Located-F.Text span body) = text span (string_bytes body)
view_step (Located-F.Other span) = other span

abbrev pub member_step : Member-F Place MemberPlace → MemberPlace
member_step m = (string_bytes m.name, m.value)

abbrev pub view : Located → Place
view = fold-Located Place MemberPlace view_step member_step

abbrev pub member_view : Member → MemberPlace
member_view = fold-Member Place MemberPlace view_step member_step

abbrev pub items_view : List Located → Items
items_view values = items_of (map view values)

abbrev pub members_view : List Member → Members
members_view members = members_of (map member_view members)
