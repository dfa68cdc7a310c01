-- Started blocks.
use Rattle.std.proofs.Common.{◌+◌, ◌-◌, ◌*◌, ◌/◌, ◌^◌, ◌<◌, ◌≤◌, ℕ, arith}
use Rattle.std.proofs.Math.Nat.{div-lt_iff_lt-mul, lt-div-mul-add, mul-le-mul_left}
use Rattle.acct_model.specs.Plans.{started_blocks, IsLeastBlocks}

pub IsLeastBlocks-started : (block n : ℕ) → 0 < block
    → IsLeastBlocks block n (started_blocks block n)
IsLeastBlocks-started block n some =
    let past : n + (block - 1) < (n + (block - 1)) / block * block + block = lt-div-mul-add some in
    record {
      covers = omega (arith, past);
      least = λ j fits.
          let below : n + (block - 1) < (j + 1) * block = omega (arith, fits) in
          let turned : (n + (block - 1)) / block < j + 1 =
          (div-lt_iff_lt-mul {k = block} {x = n + (block - 1)} {y = j + 1} some).1 below in
          omega (arith, turned);
    }

pub started_blocks-le : (block n : ℕ) → 0 < block → started_blocks block n ≤ n
started_blocks-le block n some =
    let fits : n ≤ n * block = let one : 1 ≤ block = omega arith in
    omega (arith, mul-le-mul_left n one) in
    (IsLeastBlocks-started block n some).least n fits

pub price_fits : (unit block n : ℕ) → 0 < block → unit < 2 ^ 64 → n < 2 ^ 64
    → unit * started_blocks block n < 2 ^ 128
price_fits unit block n some small few =
    let k = started_blocks block n in
    let below : k ≤ n = started_blocks-le block n some in
    let few_blocks : k ≤ 2 ^ 64 - 1 = omega (arith, below) in
    let most : unit * k ≤ unit * (2 ^ 64 - 1) = mul-le-mul_left unit few_blocks in
    omega (arith, most)

pub price-le : (unit block n : ℕ) → 0 < block → unit * started_blocks block n ≤ n * unit
price-le unit block n some =
    let below : started_blocks block n ≤ n = started_blocks-le block n some in
    omega (arith, mul-le-mul_left unit below)
