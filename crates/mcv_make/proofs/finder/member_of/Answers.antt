use Rattle.mcv_classes.specs.Words.{class_words}
use Rattle.mcv_route.specs.View.{view}
use Rattle.mcv_make.proofs.Members.{member-here, member-there}
use Rattle.mcv_make.proofs.finder.member_of.Goals as goal

pub unreachable-requires : goal.unreachable-requires
unreachable-requires c = member-there (class_words (view c.args.route.now)) c.in_ok-table.table c.in_ok-table.ensures c.args.word.now c.requires c.in_default.ensures

pub returns : goal.returns
returns c = member-here (class_words (view c.args.route.now)) c.in_ok-table.table c.in_ok-table.ensures c.args.word.now c.in-Some.member c.in-Some.ensures
