use Rattle.std.proofs.Common.{◌≡◌, false, codes, map, Bor, List, ℕ}
use Rattle.std.specs.Str.{bytes_eq}
use Rattle.mcv_text.proofs.Lines.{unknown_said}
use Rattle.mcv_text.proofs.line.other_of.Goals as goal

pub returns-else-eq-2-clause-means : goal.returns-else-eq-2-clause-means
returns-else-eq-2-clause-means c =
    let version : bytes_eq c.args.command.now (codes "version") ≡ false = cc (c.eq.ensures, c.as_slice.ensures, c.if-eq.false) in
    let quit : bytes_eq c.args.command.now (codes "quit") ≡ false = cc (c.eq-else-eq.ensures, c.as_slice-else-eq.ensures, c.if-eq-2.false) in
    unknown_said c.args.command.now (map (λ (word : Bor (List ℕ)). word.now) c.args.arguments.now) c.requires version quit
