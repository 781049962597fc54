-- A reader fails behind refusals 2 and 3 alone.
use Rattle.std.proofs.Common.{◌≡◌, ℕ, ◌+◌, ◌-◌, List, [], ◌∷◌, length, drop, refl, sym, subst, ◌∙◌, inl, inr, ◌⊎◌}
use Rattle.std.proofs.lemmas.Bool.{cases_lt}
use Rattle.mcv_text.specs.Request.{AskValue, ItemValue}
use Rattle.mcv_text.specs.Line.{LineValue, whole, stores, unknown, bad, too_large, meaning}
use Rattle.mcv_text.specs.Stream.{Awaits, Held, Skips, Failed, followed, Begins, by_line, too_long, AfterLine, AfterValue, stored, no_cr, no_lf, First, Reads, IsEnding, EndsRefused}
use Rattle.mcv_text.proofs.Cuts.{skips_short, skips_long}

skipped_not_failed : (n : ℕ) (bytes : List ℕ) → Failed ≡ followed (Skips n) bytes → ⊥
skipped_not_failed n bytes e =
    elim (cases_lt (length bytes) n) [
      | inl short ↦ (let f : Failed ≡ Skips (n - length bytes) = e ∙ skips_short n bytes short in cc)
      | inr long ↦ (let f : Failed ≡ Held (drop n bytes) = e ∙ skips_long n bytes long in cc)
    ]

value_fails : (ask : AskValue) (n : ℕ) (bytes : List ℕ) (item : ItemValue) (to : Awaits) → AfterValue ask n bytes item to → to ≡ Failed → IsEnding item
value_fails ask n bytes _ _ (stored v x lv ev) e = absurd (cc)
value_fails ask n bytes _ _ (no_cr v x b lv ne ev) e = inr refl
value_fails ask n bytes _ _ (no_lf v x b lv ne ev) e = inr refl

line_fails : (m : LineValue) (bytes : List ℕ) (item : ItemValue) (to : Awaits) → AfterLine m bytes item to → to ≡ Failed → IsEnding item
line_fails (whole r) bytes item to after e = let f : Held bytes ≡ Failed = sym after.1 ∙ e in absurd (cc)
line_fails (stores ask n) bytes item to after e = value_fails ask n bytes item to after e
line_fails unknown bytes item to after e = let f : Held bytes ≡ Failed = sym after.1 ∙ e in absurd (cc)
line_fails bad bytes item to after e = inl after.0
line_fails (too_large n) bytes item to after e = absurd (skipped_not_failed (n + 2) bytes (sym e ∙ after.1))

begins_fails : (bytes : List ℕ) (item : ItemValue) (to : Awaits) → Begins bytes item to → to ≡ Failed → IsEnding item
begins_fails bytes item to (by_line l x il el after) e = line_fails (meaning l) x item to after e
begins_fails bytes item to (too_long big none is rest) e = inl is

first_fails : (from : Awaits) (item : ItemValue) (to : Awaits) → First from item to → to ≡ Failed → IsEnding item
first_fails (Held bytes) item to first e = begins_fails bytes item to first e
first_fails (Skips n) item to first e = absurd first
first_fails Failed item to first e = absurd first

ends_more : (item : ItemValue) (items : List ItemValue) → EndsRefused items → EndsRefused (item ∷ items)
ends_more item [] ends = absurd ends
ends_more item (next ∷ items) ends = ends

item_fails : (from next : Awaits) (item : ItemValue) (items : List ItemValue) → First from item next → Reads next items Failed → (next ≡ Failed) ⊎ EndsRefused items → EndsRefused (item ∷ items)
item_fails from next item items first reads (inr ends) = ends_more item items ends
item_fails from next item [] first reads (inl failed) = first_fails from item next first failed
item_fails from next item (other ∷ items) first reads (inl failed) = absurd (subst (λ (t : Awaits). First t other reads.0) failed reads.1)

pub reads_fail : (from : Awaits) (items : List ItemValue) → Reads from items Failed → (from ≡ Failed) ⊎ EndsRefused items
reads_fail from [] reads = inl (sym reads.1)
reads_fail from (item ∷ items) reads = inr (item_fails from reads.0 item items reads.1 reads.2 (reads_fail reads.0 items reads.2))
