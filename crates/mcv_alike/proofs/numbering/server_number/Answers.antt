use Rattle.std.proofs.Common.{◌∙◌, ℕ, List, ap, sym}
use Rattle.std.specs.Prelude.{slice_get}
use Rattle.std.specs.Str.{bytes_eq}
use Rattle.mcv_pools.specs.Table.{number_in}
use Rattle.mcv_alike.proofs.Numbers.{same_server}
use Rattle.mcv_alike.proofs.numbering.server_number.Goals as goal

pub returns : goal.returns
returns c = same_server c.args.old.now c.args.new.now c.args.number c.in_ok-found.found.0 c.in_ok-text.text.now
    (ap (λ (xs : List (List ℕ)). slice_get xs c.args.number) (sym c.servers.ensures.value) ∙ sym c.in_ok-text.ensures)
    (ap (λ (xs : List (List ℕ)). number_in bytes_eq xs c.in_ok-text.text.now) (sym c.servers-2.ensures.value) ∙ sym c.in_ok-found.ensures)
