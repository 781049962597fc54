use Rattle.std.proofs.Common.{◌∙◌, ◌++◌, take, ap, append_assoc}
use Rattle.mcv_http.proofs.Pieces.{take-take-append}
use Rattle.mcv_http.proofs.reader.pieces_are_one_text.Goals as goal

pub returns : goal.returns
returns c = λ before piece more. take-take-append 8192 (before ++ piece) more ∙ ap (take 8192) (append_assoc before piece more)
