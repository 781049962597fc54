use Rattle.mcv_desks.proofs.OpenDesks.{in_place, in_place_on}
use Rattle.mcv_desks.proofs.desks.LoopDesks.ask_keys.Goals as goal

pub loop-key-init : goal.loop-key-init
loop-key-init g c = in_place c.args.self.now

pub loop-key-preserved : goal.loop-key-preserved
loop-key-preserved g c = in_place_on c.args.self.now c.loop-key.self c.ask_key.new.self c.loop-key.invariant c.ask_key.ensures

pub returns-then-not-ask_key : goal.returns-then-not-ask_key
returns-then-not-ask_key g c = in_place_on c.args.self.now c.loop-key.self c.ask_key.new.self c.loop-key.invariant c.ask_key.ensures
