use Rattle.acct_model.proofs.Blocks.{IsLeastBlocks-started}
use Rattle.acct_model.proofs.laws.started_blocks_are_least.Goals as goal

pub returns : goal.returns
returns c = IsLeastBlocks-started
