use Rattle.std.proofs.Common.{◌++◌, ◌∷◌, sym, ap, [], ◌∙◌, append_assoc}
use Rattle.std.specs.Str.Lines.{strip_carriage_return}
use Rattle.mcv_reply.proofs.Spelling.{line_one}
use Rattle.mcv_reply.proofs.laws.one_version.Goals as goal

pub returns-clause-one : goal.returns-clause-one
returns-clause-one c = λ bytes version other x y. x.says ∙ ap strip_carriage_return (line_one x.line y.line [] [] x.line_is.no_end y.line_is.no_end (sym x.parts ∙ y.parts)).0 ∙ sym y.says

pub returns-clause-no_front : goal.returns-clause-no_front
returns-clause-no_front c = λ bytes more version other x y. (line_one x.line y.line more [] x.line_is.no_end y.line_is.no_end (sym (ap (λ t. t ++ more) x.parts ∙ append_assoc x.line (10 ∷ []) more) ∙ y.parts)).1
