-- What a reader awaits when its piece is used up.
use Rattle.std.proofs.Common.{◌≡◌, ℕ, ◌-◌, List, [], refl, sym, ap, subst, ◌∙◌, arith, cond, drop}
use Rattle.std.proofs.lemmas.List.{append-nil}
use Rattle.std.proofs.lemmas.Bool.{lt-ltb}
use Rattle.mcv_text.specs.declared.reader.State.{State}
use Rattle.mcv_text.specs.declared.reader.State.TheVariants as states
use Rattle.mcv_text.specs.Line.{LineValue}
use Rattle.mcv_text.specs.Stream.{Awaits, Held, Skips, Failed, followed, Rests, Reads, in_line, in_value, WaitsForValue}
use Rattle.mcv_text.specs.Reader.{awaits_of, IsKept}

pub kept_rests : (line : List ℕ) (state : State) → IsKept line state → Rests (awaits_of line state)
kept_rests line states.Line kept = in_line kept
kept_rests line (states.Value v) kept = in_value line v.body.items kept.0 refl (subst (λ (m : LineValue). WaitsForValue m v.body.items) (sym kept.2) kept.3)
kept_rests line (states.Skip n) kept = kept.0
kept_rests line states.Failed kept = tt

pub followed_nil : (s : Awaits) → Rests s → followed s [] ≡ s
followed_nil (Held bytes) rests = ap Held (append-nil bytes)
followed_nil (Skips n) rests = ap (λ b. cond b (Skips (n - 0)) (Held (drop n []))) (lt-ltb 0 n rests) ∙ ap Skips (omega arith)
followed_nil Failed rests = refl

pub rests_here : (s : Awaits) (rest : List ℕ) → Rests s → rest ≡ [] → Reads (followed s rest) [] s
rests_here s rest rests none =
    let same : followed s rest ≡ s = ap (followed s) none ∙ followed_nil s rests in
    (subst Rests (sym same) rests, sym same)
