-- Which chapters are due.
use Rattle.std.proofs.Common.{◌≡◌, ◌∙◌, ◌&&◌, ◌||◌, ◌*◌, ◌-◌, ℕ, false, List, [], ap, arith, refl}
use Rattle.std.specs.Prelude.{nat_le, nat_lt}
use Rattle.std.proofs.lemmas.Bool.{le-ltb}
use Rattle.mcv_core.specs.View.{core_view}
use Rattle.mcv_core.specs.CoreView.{CoreView}
use Rattle.mcv_hub.specs.Events.{BeginsChapter}
use Rattle.mcv_hub.specs.Gate.{IsGate, due_bytes, is_chapter_due, is_closed, is_half_full}
use Rattle.mcv_hub.specs.State.{HubView, IsSame}
use Rattle.mcv_hub.specs.Weights.{bytes_of}
use Rattle.mcv_hub.specs.declared.entry.Entry.{Entry}
use Rattle.mcv_hub.specs.declared.gate.Gate.{Gate}
use Rattle.mcv_hub.specs.declared.gate.Gate.TheVariants as gates

nothing_held : bytes_of [] ≡ 0
unfolding bytes_of
nothing_held = refl

nothing_gained : (n : ℕ) → is_half_full n n ≡ false
nothing_gained n = let least : nat_lt n n ≡ false = le-ltb n n (omega arith) in ap (λ b. b && nat_le (1000000 - n) (2 * (n - n))) least

-- one that has only what it opened with isn't
pub opening_isnt_due : (opened entries : ℕ) (es : List Entry) → opened ≡ entries → es ≡ [] → (is_half_full opened entries || nat_le due_bytes (bytes_of es)) ≡ false
opening_isnt_due opened entries es same empty =
    ap (λ o. is_half_full o entries || nat_le due_bytes (bytes_of es)) same ∙ ap (λ xs. is_half_full entries entries || nat_le due_bytes (bytes_of xs)) empty ∙ ap (λ k. is_half_full entries entries || nat_le due_bytes k) nothing_held
    ∙ ap (λ b. b || nat_le due_bytes 0) (nothing_gained entries)

pub begun_isnt_due : (old new : HubView) → BeginsChapter old new → is_chapter_due new ≡ false
begun_isnt_due old new h = opening_isnt_due new.entries_before (core_view new.core).entries new.history h.entries_before h.history

pub same_is_due : (old new : HubView) → IsSame old new → is_chapter_due new ≡ is_chapter_due old
same_is_due old new h =
    ap (λ (v : CoreView). is_half_full new.entries_before v.entries || nat_le due_bytes (bytes_of new.history)) h.core ∙ ap (λ o. is_half_full o (core_view old.core).entries || nat_le due_bytes (bytes_of new.history)) h.books.same.entries_before
    ∙ ap (λ es. is_half_full old.entries_before (core_view old.core).entries || nat_le due_bytes (bytes_of es)) h.history

-- where calls are kept waiting the next one is due, and else it isn't
pub gate_is_due : (old new : HubView) (gate : Gate) → IsGate old gate new → is_chapter_due new ≡ is_closed gate
gate_is_due old new gates.Open h = same_is_due old new h.1 ∙ h.0
gate_is_due old new (gates.Turned past) h = begun_isnt_due old new h.1
gate_is_due old new gates.Closed h = same_is_due old new h.1.same ∙ h.0
