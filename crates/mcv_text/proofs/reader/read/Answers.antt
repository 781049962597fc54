use Rattle.std.proofs.Common.{◌≡◌, List, [], map, length, subst, rules}
use Rattle.std.proofs.lemmas.List.{append-nil, nil_from_length}
use Rattle.mcv_text.specs.Request.{ItemValue, item_value}
use Rattle.mcv_text.specs.Stream.{Reads, followed}
use Rattle.mcv_text.specs.Reader.{awaits_of}
use Rattle.mcv_text.proofs.KeptStates.{kept_rests, rests_here}
use Rattle.mcv_text.proofs.reader.read.Goals as goal

pub returns-clause-items : goal.returns-clause-items
returns-clause-items c =
    let none : length c.loop-rest.rest.now ≡ 0 = search rules in
    let here = rests_here (awaits_of c.loop-rest.line.items c.loop-rest.state) c.loop-rest.rest.now (kept_rests c.loop-rest.line.items c.loop-rest.state c.loop-rest.invariant.kept) (nil_from_length c.loop-rest.rest.now none) in
    subst (λ (v : List ItemValue). Reads (followed (awaits_of c.args.line.now.items c.args.state.now) c.args.piece.now) v (awaits_of c.loop-rest.line.items c.loop-rest.state))
    (append-nil (map item_value c.loop-rest.items.items))
    (c.loop-rest.invariant.so_far [] (awaits_of c.loop-rest.line.items c.loop-rest.state) here)
