use Rattle.std.proofs.Common.{◌∙◌, ℕ, List, [], Bor, ap, arith, get_or, length}
use Rattle.std.proofs.lemmas.List.{length-map, take_all}
use Rattle.mcv_base.specs.Position.{position_text}
use Rattle.mcv_cert.proofs.Meant.{more_taken, word_is}
use Rattle.mcv_cert.proofs.parse.read_positions.Goals as goal

pub returns-in_default : goal.returns-in_default
returns-in_default c = λ ps fits e.
    let word = word_is c.args.words.now ps c.loop-word.word-index (record { ref_ptr = (0, 0); now = [] }) c.loop-word-test.true fits e in
    let some = c.in_ok-position.ensures (get_or ps c.loop-word.word-index []) word.1 word.2 in
    let none = rw c.in_default.is at some in none

pub loop-word-preserved : goal.loop-word-preserved
loop-word-preserved c = λ ps fits e.
    let word = word_is c.args.words.now ps c.loop-word.word-index (record { ref_ptr = (0, 0); now = [] }) c.loop-word-test.true fits e in
    let some = c.in_ok-position.ensures (get_or ps c.loop-word.word-index []) word.1 word.2 in
    let position = rw c.in-Some.is at some in
    c.in_ok-push.ensures.items ∙ more_taken ps c.loop-word.positions.items c.loop-word.word-index c.in-Some.position [] word.0 (c.loop-word.invariant ps fits e) position

pub returns : goal.returns
returns c = λ ps fits e.
    c.loop-word.invariant ps fits e
    ∙ take_all c.loop-word.word-index ps (omega (arith, length-map c.args.words.now (λ (w : Bor (List ℕ)). w.now), ap length e, length-map ps position_text))
