use Rattle.std.proofs.Common.{◌≡◌, ◌<◌, ◌≤◌, List, ℕ, length, true, sym, subst, arith, rules}
use Rattle.std.proofs.lemmas.List.{take_rest}
use Rattle.mcv_base.specs.Key.{is_key_word}
use Rattle.mcv_base.proofs.Prefixes.{prefix_within, rest_is_key}
use Rattle.mcv_base.proofs.key.cut_key.Goals as goal

pub returns-else-cut-eq0-clause-rest : goal.returns-else-cut-eq0-clause-rest
returns-else-cut-eq0-clause-rest c =
    let word = c.args.word.now in
    let cut = c.unwrap_or-cut.result in
    let within : cut ≤ length word = prefix_within word c.prefix_len.result cut c.prefix_len.ensures.within c.unwrap_or-cut.ensures in
    let low : cut < length word = omega (arith, within, c.if-cut-word.false) in
    subst (λ (xs : List ℕ). is_key_word xs ≡ true) (sym (take_rest word cut)) (rest_is_key word cut (omega arith) (search rules) low)
