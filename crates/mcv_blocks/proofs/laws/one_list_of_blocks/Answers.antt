use Rattle.mcv_blocks.proofs.OneListOfBlocks.{one_list_of_blocks}
use Rattle.mcv_blocks.proofs.laws.one_list_of_blocks.Goals as goal

pub returns : goal.returns
returns c = one_list_of_blocks
