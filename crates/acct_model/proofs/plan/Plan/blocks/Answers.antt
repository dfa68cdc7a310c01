use Rattle.acct_model.proofs.Blocks.{IsLeastBlocks-started, started_blocks-le}
use Rattle.acct_model.proofs.plan.Plan.blocks.Goals as goal

pub returns-clause-least : goal.returns-clause-least
returns-clause-least c =
    rw (c.from.ensures, c.from-block.ensures)
    (IsLeastBlocks-started c.args.self.now.block c.args.octets c.requires)

pub returns-clause-most : goal.returns-clause-most
returns-clause-most c =
    rw (c.from.ensures, c.from-block.ensures)
    (started_blocks-le c.args.self.now.block c.args.octets c.requires)
