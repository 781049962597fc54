-- When an operator is told of requests that are refused (own).
use Rattle.std.specs.Prelude.{ℕ, ◌+◌, ◌/◌, Bool, true, false, ◌||◌, ◌&&◌, ◌==◌, not, min, max, List, Option, None, Some, is_some, nat_lt, slice_get, slice_set, if◌then◌else◌}
use Rattle.mcv_watch.specs.declared.Shortage.{Shortage}
use Rattle.mcv_watch.specs.declared.Shortage.TheVariants.{Legs, Chapter}
use Rattle.mcv_net.specs.declared.shortages.Chapters.{Chapters}
use Rattle.mcv_net.specs.declared.shortages.Shortages.{Shortages}

-- so many more, of at most 2^64 - 1
abbrev pub raised : (more count : ℕ) → ℕ
raised more count = min (count + more) 18446744073709551615

-- between so many and so many there is the first one, or a thousandth
abbrev pub are_told : ℕ → ℕ → Bool
are_told before now = (before == 0 && nat_lt 0 now) || nat_lt (before / 1000) (now / 1000)

-- the chapter behind the one that is full: the one that was noted, or the next one behind the latest
abbrev pub filled : Option ℕ → ℕ → ℕ
filled None latest = min (latest + 1) 18446744073709551615
filled (Some next) latest = next

-- a chapter that was full has ended, once this one is there
abbrev pub is_over : Option ℕ → ℕ → Bool
is_over None chapter = false
is_over (Some next) chapter = not (nat_lt chapter next)

-- ---- the hubs, by number

-- a hub whose latest chapter is full
abbrev pub full_one : Chapters → Chapters
full_one c = record { latest = c.latest; full = Some (filled c.full c.latest) }

-- a hub that is in this chapter
abbrev pub entered : (chapter : ℕ) → Chapters → Chapters
entered chapter c = record { latest = max c.latest chapter; full = if is_over c.full chapter then None else c.full }

abbrev pub put_at : (hub : ℕ) → (Chapters → Chapters) → Option Chapters → List Chapters → List Chapters
put_at hub f None hubs = hubs
put_at hub f (Some c) hubs = slice_set hubs hub (f c)

-- the hub of this number is changed so, if there is one
abbrev pub changed_at : (hub : ℕ) → (Chapters → Chapters) → List Chapters → List Chapters
changed_at hub f hubs = put_at hub f (slice_get hubs hub) hubs

-- a hub has refused nothing in its latest chapter
abbrev pub is_free : Option Chapters → Bool
is_free None = false
is_free (Some c) = not (is_some c.full)

-- a hub comes to the first chapter behind one that was full
abbrev pub begins_again : Option Chapters → (chapter : ℕ) → Bool
begins_again None chapter = false
begins_again (Some c) chapter = is_over c.full chapter

-- a hub that has refused so many requests more, since its chapter is full
abbrev pub filled_by : (hub refused : ℕ) → List Chapters → List Chapters
filled_by hub refused hubs = if nat_lt 0 refused then changed_at hub full_one hubs else hubs

-- it is the first time in its chapter
abbrev pub is_first_of : (hub refused : ℕ) → List Chapters → Bool
is_first_of hub refused hubs = nat_lt 0 refused && is_free (slice_get hubs hub)

-- ---- so many requests more that a hub has refused for one of the two

abbrev pub legs_behind : Shortage → (refused legs : ℕ) → ℕ
legs_behind Legs refused legs = raised refused legs
legs_behind Chapter refused legs = legs

abbrev pub chapter_behind : Shortage → (refused chapter : ℕ) → ℕ
chapter_behind Legs refused chapter = chapter
chapter_behind Chapter refused chapter = raised refused chapter

abbrev pub hubs_behind : Shortage → (hub refused : ℕ) → List Chapters → List Chapters
hubs_behind Legs hub refused hubs = hubs
hubs_behind Chapter hub refused hubs = filled_by hub refused hubs

-- how many they are by now, where an operator is told: of the first and of each thousandth, and of the first of each chapter that is full
abbrev pub told_of : Shortage → (hub refused : ℕ) → (before now : Shortages) → Option ℕ
told_of Legs hub refused before now = if are_told before.legs now.legs then Some now.legs else None
told_of Chapter hub refused before now =
    if are_told before.chapter now.chapter || is_first_of hub refused before.hubs.items then Some now.chapter else None
