use Rattle.std.proofs.Common.{sym, ap, ◌∙◌, position}
use Rattle.std.specs.Str.{bytes_eq}
use Rattle.std.specs.String.{string_bytes}
use Rattle.mcv_pools.proofs.Tables.{position-map}
use Rattle.mcv_pools.proofs.servers.Servers.find.Goals as goal

pub returns-in_err-number : goal.returns-in_err-number
returns-in_err-number c =
    rw c.from_residual.ensures (sym c.in_err-number.was ∙ c.get_index_of.ensures.index ∙ sym (position-map (bytes_eq c.args.text.now) (λ t. string_bytes t) c.self.inside.texts.keys) ∙ ap (λ s. position (bytes_eq c.args.text.now) s) c.self.view_is)

pub returns : goal.returns
returns c =
    sym c.in_ok-number.was ∙ c.get_index_of.ensures.index ∙ sym (position-map (bytes_eq c.args.text.now) (λ t. string_bytes t) c.self.inside.texts.keys) ∙ ap (λ s. position (bytes_eq c.args.text.now) s) c.self.view_is
