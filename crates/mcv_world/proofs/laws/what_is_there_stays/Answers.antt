use Rattle.mcv_world.proofs.WhatIsThereStays
use Rattle.mcv_world.proofs.laws.what_is_there_stays.Goals as goal

pub returns-clause-legs : goal.returns-clause-legs
returns-clause-legs c = WhatIsThereStays.legs_stay

pub returns-clause-replies : goal.returns-clause-replies
returns-clause-replies c = WhatIsThereStays.replies_stay
