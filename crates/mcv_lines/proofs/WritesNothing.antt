-- A connection that takes no more isn't written to.
use Rattle.std.proofs.Common.{arith, refl}
use Rattle.std.proofs.KnownBytes.{Appends-nil, Keeps-refl}
use Rattle.mcv_connection.specs.declared.connection.Connection.{Ghosts}
use Rattle.mcv_lines.specs.Channel.{ChannelValue, WritesOf}
use Rattle.mcv_lines.specs.Line.{WritesLine}
use Rattle.mcv_lines.specs.Probe.{ProbeValue, WritesProbe}
use Rattle.mcv_lines.specs.declared.line.State.{State}
use Rattle.mcv_lines.specs.declared.line.State.TheVariants as states
use Rattle.mcv_lines.specs.declared.took.Wrote.TheVariants as wrote

channel_stays : (v : ChannelValue) → WritesOf v wrote.NotNow v
channel_stays v = record {
  writes = record { count = 0; is_count = refl; rest = refl; given = Appends-nil v.ends.given };
  legs = refl;
  unread = Keeps-refl v.ends.left;
  kept = refl;
  begun = refl;
  fewer = omega arith;
}

probe_stays : (p : ProbeValue) → WritesProbe p wrote.NotNow p
probe_stays p = record {
  writes = record { count = 0; is_count = refl; rest = refl; given = Appends-nil p.ends.given };
  reader = refl;
  unread = Keeps-refl p.ends.left;
}

module _ {C : Type 0} {g : Ghosts C} where
  pub writes_nothing : (s : State C g) → WritesLine s wrote.NotNow s
  writes_nothing states.Closed = refl
  writes_nothing (states.Open o) = (channel_stays o.channel, refl)
  writes_nothing (states.Probing p since) = (probe_stays p, refl)
