use Rattle.std.proofs.Common.{inl, refl, sym}
use Rattle.mcv_desks.proofs.MixedRequests.{goes_on, none_changes}
use Rattle.mcv_desks.proofs.desks.refuse_at.Goals as goal

pub returns-in_default : goal.returns-in_default
returns-in_default g c = none_changes c.args.mixed.now c.args.mixed.now refl

pub refuse-requires : goal.refuse-requires
refuse-requires g c = inl refl

pub returns : goal.returns
returns g c = goes_on c.args.mixed.now c.args.place c.in-Some.one.now c.refuse.new.self (sym c.in-Some.ensures.value) c.refuse.ensures
