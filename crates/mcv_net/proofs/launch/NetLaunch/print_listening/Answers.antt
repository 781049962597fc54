use Rattle.std.proofs.Common.{◌∙◌, subst}
use Rattle.std.specs.Io.KnownBytes.{Appends}
use Rattle.mcv_net.proofs.launch.NetLaunch.print_listening.Goals as goal

pub returns : goal.returns
returns g c =
    let old = g.W.Write.contents c.args.self.now.out.now in
    let new = g.W.Write.contents c.print_line.new.out in
    (c.as_str.result.now, subst (Appends old new) (c.as_slice.ensures.value ∙ c.in_ok-line.ensures) c.in_ok-print_line.ensures)
