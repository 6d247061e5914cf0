-- `intel_hex::image::Image::copy_to` meets its contract: the bytes before `i` are copied. Assumes nothing.
use mathlib.Core.Path.{◌≡◌, subst}
use Prim.Native.Nat.{ℕ}
use native.Mathlib.Omega.{arith}
use lib.ListN.{length}
use Rattle.intel_hex.specs.Reading.{Copied}
use Rattle.intel_hex.proofs.image.Image.copy_to.Goals as goal

pub returns : goal.returns
returns c =
    let all : c.loop-i.i ≡ length c.args.code.now = omega (arith, c.loop-i-test.false, c.loop-i.auto.i-end) in
    subst (λ (n : ℕ). Copied c.args.self.now.cells c.args.code.now n c.loop-i.code) all c.loop-i.invariant
