-- `tests::units` meets its contract: each size by arithmetic. Assumes nothing.
use Prim.Native.Nat.{ℕ, ◌*◌, ◌/◌}
use native.Mathlib.Omega.{arith}
use Rattle.width.specs.declared.Size.{Size}
use Rattle.width.specs.declared.Size.TheVariants.{Byte, Word, Dword}
use Rattle.width.specs.Sizes.{bits, bytes}
use Rattle.shift.proofs.Turns.{few}
use Rattle.bits.specs.Parts.{Units}
use Rattle.bits.proofs.tests.units.Goals as goal

of_size : (w : Size) (n : ℕ) → Units w n (n / bits w * bytes w)
unfolding bits bytes
of_size Byte n = record { is = omega arith; below = omega arith }
of_size Word n = record { is = omega arith; below = omega arith }
of_size Dword n = record { is = omega arith; below = omega arith }

pub nonzero_div-result : goal.nonzero_div-result
nonzero_div-result c = let sizes = few c.args.w in omega arith

pub overflow_mul-result : goal.overflow_mul-result
overflow_mul-result c =
    let u = of_size c.args.w c.args.n in
    rw (c.from.ensures, c.bits.ensures, c.bytes.ensures) (record { fits = omega (arith, u.below) })

pub returns : goal.returns
returns c = rw (c.from.ensures, c.bits.ensures, c.bytes.ensures) (of_size _ _)
