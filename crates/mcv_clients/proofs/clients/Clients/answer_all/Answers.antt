use Rattle.std.proofs.Common.{◌∙◌, refl}
use Rattle.mcv_clients.proofs.Tables.{still_on, still_same}
use Rattle.mcv_clients.proofs.clients.Clients.answer_all.Goals as goal

pub loop-answer-init : goal.loop-answer-init
loop-answer-init g c = record { still = still_same c.args.self.now.clients; hubs = refl }

pub loop-answer-preserved : goal.loop-answer-preserved
loop-answer-preserved g c = record {
  still = still_on c.args.self.now.clients c.loop-answer.self.clients c.answer_one.new.self.clients c.loop-answer.invariant.still c.answer_one.ensures.still;
  hubs = c.answer_one.ensures.hubs ∙ c.loop-answer.invariant.hubs;
}

pub returns-then-not-answer_one-clause-still : goal.returns-then-not-answer_one-clause-still
returns-then-not-answer_one-clause-still g c = still_on c.args.self.now.clients c.loop-answer.self.clients c.answer_one.new.self.clients c.loop-answer.invariant.still c.answer_one.ensures.still

pub returns-then-not-answer_one-clause-hubs : goal.returns-then-not-answer_one-clause-hubs
returns-then-not-answer_one-clause-hubs g c = c.answer_one.ensures.hubs ∙ c.loop-answer.invariant.hubs
