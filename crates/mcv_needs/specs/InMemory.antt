-- What needs in memory mean.
use Rattle.std.specs.Prelude.{List, map}
use Rattle.mcv_blocks.specs.declared.classes.RouteClass.{RouteClass}
use Rattle.mcv_alike.specs.Numbers.{legs_value}
use Rattle.mcv_needs.specs.Needs.{NeedValue}
use Rattle.mcv_needs.specs.declared.needs.Need.{Need}

abbrev pub need_value : Need → NeedValue
need_value n = record { route = n.class.route; word = n.class.class.word; legs = legs_value n.legs.items }

abbrev pub needs_value : List Need → List NeedValue
needs_value needs = map need_value needs

abbrev pub class_of_need : Need → RouteClass
class_of_need n = n.class
