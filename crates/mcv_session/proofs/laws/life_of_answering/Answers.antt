use Rattle.std.proofs.Common.{refl}
use Rattle.mcv_text.specs.Request.{asking}
use Rattle.mcv_session.specs.Exchange.{by_desk}
use Rattle.mcv_session.proofs.Life.{lived_answered}
use Rattle.mcv_session.proofs.laws.life_of_answering.Goals as goal

pub returns : goal.returns
returns c = λ from h old new ask answer is_open was l p. lived_answered from h old new (by_desk ask answer) (asking ask) is_open was refl refl l p
