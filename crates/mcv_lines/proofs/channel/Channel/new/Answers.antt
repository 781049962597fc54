use Rattle.std.proofs.Common.{false, subst, sym}
use Rattle.mcv_upstream.specs.Upstream.{UpstreamValue}
use Rattle.mcv_lines.specs.Channel.{Ends}
use Rattle.mcv_lines.specs.Life.{Life}
use Rattle.mcv_lines.proofs.Life.{life_begins}
use Rattle.mcv_lines.proofs.channel.Channel.new.Goals as goal

pub invariant_of-result : goal.invariant_of-result
invariant_of-result g c =
    let ends : Ends = record { given = g.C.Connection.written c.args.connection; left = g.C.Connection.unread c.args.connection } in
    subst (λ (u : UpstreamValue). Life (record { carrier = u; ends = ends; is_kept = false; has_begun = false; unwritten = 0 })) (sym c.new.ensures) (life_begins ends)
