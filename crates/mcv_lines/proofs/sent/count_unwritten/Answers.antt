use Rattle.std.proofs.Common.{◌≡◌, ◌∙◌, ◌-◌, ◌<◌, ◌≤◌, ℕ, ap, length, rules}
use Rattle.mcv_lines.proofs.Unwritten.{counted_all, counted_from}
use Rattle.mcv_lines.proofs.sent.count_unwritten.Goals as goal

pub returns-then-left-length : goal.returns-then-left-length
returns-then-left-length c =
    let some : 0 < c.loop-place.place = search rules in
    let more : c.loop-place.left < c.index.result.now.length = search rules in
    let many : c.len.result ≡ length c.args.sent.now.items = search rules in
    ap (λ (n : ℕ). n - (c.loop-place.place - 1) - 1) many
    ∙ counted_from c.args.bytes c.loop-place.left c.loop-place.place c.args.sent.now.items c.index.result.now some c.loop-place.invariant.few c.loop-place.invariant.so_far c.index.ensures more

pub returns : goal.returns
returns c =
    let none : c.loop-place.place ≤ 0 = search rules in
    let many : c.len-2.result ≡ length c.args.sent.now.items = search rules in
    many ∙ counted_all c.args.bytes c.loop-place.left c.loop-place.place c.args.sent.now.items none c.loop-place.invariant.so_far
