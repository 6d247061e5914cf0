-- `shift::turned_right` meets its contract: the law of the turn, on 64 bits. Assumes nothing.
use Prim.Native.Nat.{◌*◌, ◌/◌, ◌^◌}
use native.Mathlib.Nat.{div-mul-le_self, mod-le}
use native.Mathlib.Omega.{arith}
use Rattle.shift.proofs.Turns.{turned, turned_fits}
use Rattle.shift.proofs.turned_right.Goals as goal

pub overflow_sub-result : goal.overflow_sub-result
overflow_sub-result c =
    let a = c.args
    in
    omega (arith, mod-le (a.x / 2 ^ a.k * 2 ^ a.k) (2 ^ 64), div-mul-le_self a.x (2 ^ a.k))

pub overflow_add-result : goal.overflow_add-result
overflow_add-result c =
    let p = c.requires in record { fits = turned_fits _ _ _ p.k_le_b p.x_bound p.b_bound }

pub returns : goal.returns
returns c =
    let p = c.requires in turned _ _ _ p.k_le_b p.x_bound p.b_bound
