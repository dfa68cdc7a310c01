use Rattle.std.proofs.Common.{◌^◌, ◌<◌, arith, rules, refl}
use Rattle.acct_model.proofs.Blocks.{price_fits, price-le}
use Rattle.acct_model.proofs.plan.price.Goals as goal

pub overflow_mul-result : goal.overflow_mul-result
overflow_mul-result c =
    let small : c.args.plan.now.unit < 2 ^ 64 = search rules in
    rw (c.blocks-2.ensures.exact, c.from.ensures)
    (omega (
      arith,
      price_fits c.args.plan.now.unit c.args.plan.now.block c.args.octets c.requires
          small c.ranges.octets.fits,
    ))

pub returns-clause-least : goal.returns-clause-least
returns-clause-least c = (
  c.blocks-2.result,
  c.blocks-2.ensures.least,
  rw c.from.ensures refl,
)

pub returns-clause-most : goal.returns-clause-most
returns-clause-most c =
    rw (c.blocks-2.ensures.exact, c.from.ensures)
    (price-le c.args.plan.now.unit c.args.plan.now.block c.args.octets c.requires)
