use Rattle.mcv_classes.proofs.Existence.{rests_have_classes}
use Rattle.mcv_classes.proofs.Members.{one_class, members_are_inside, no_member_no_rest}
use Rattle.mcv_classes.proofs.laws.classes_are_by_members.Goals as goal

pub returns : goal.returns
returns c = record { one = one_class; member = members_are_inside; none = no_member_no_rest; some = rests_have_classes }
