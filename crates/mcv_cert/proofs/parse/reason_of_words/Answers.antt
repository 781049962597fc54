use Rattle.std.proofs.Common.{◌≡◌, suc, [], ◌∷◌, length, map, arith}
use Rattle.std.specs.Prelude.{codes, decimal}
use Rattle.mcv_base.specs.Position.{position_text}
use Rattle.mcv_cert.proofs.Places.{sized}
use Rattle.mcv_cert.proofs.parse.reason_of_words.Goals as goal

pub returns-in_default-clause-never : goal.returns-in_default-clause-never
returns-in_default-clause-never c = λ e.
    let count : length c.args.words.now ≡ 1 = sized c.args.words.now (codes "never" ∷ []) e in
    omega (arith, c.in_default.ensures.cases)

pub returns-in_default-clause-twin : goal.returns-in_default-clause-twin
returns-in_default-clause-twin c = λ p fits e.
    let count : length c.args.words.now ≡ 2 = sized c.args.words.now (codes "twin" ∷ position_text p ∷ []) e in
    omega (arith, c.in_default.ensures.cases)

pub returns-in_default-clause-same : goal.returns-in_default-clause-same
returns-in_default-clause-same c = λ i p small fits e.
    let count : length c.args.words.now ≡ 3 = sized c.args.words.now (codes "same" ∷ decimal i ∷ position_text p ∷ []) e in
    omega (arith, c.in_default.ensures.cases)

pub returns-in_default-clause-all : goal.returns-in_default-clause-all
returns-in_default-clause-all c = λ i ps small fits legs e.
    let count : length c.args.words.now ≡ suc (suc (length (map position_text ps))) = sized c.args.words.now (codes "all" ∷ decimal i ∷ map position_text ps) e in
    omega (arith, c.in_default.ensures.cases)
