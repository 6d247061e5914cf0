-- The flags after a multiplication do not depend on those that 003 leaves undefined there, and these come out clear. Assumes nothing.
use Rattle.std.proofs.Common.{Bool, refl}
use Rattle.flags.specs.Results.{undefined_flag}
use Rattle.flags.specs.Undefined.{cleared, without, Settles}
use Rattle.flags.proofs.Regardless.{Aside, settles}
use Rattle.product.specs.Multiply.{product_flags}
use Rattle.product.specs.Undefined.{product_undefined}

pub product_settles : (spills : Bool) → Settles product_undefined (product_flags spills)
unfolding undefined_flag cleared without Aside product_flags product_undefined
product_settles spills = settles product_undefined (product_flags spills) (λ f. (refl, refl))
