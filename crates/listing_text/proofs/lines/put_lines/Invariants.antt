-- The lines still to come complete those of the code.
use Prim.Native.Nat.{◌-◌}
use Rattle.listing_text.proofs.Completing.{Completes}
use Rattle.listing_text.proofs.lines.put_lines.Given as goal

abbrev pub invariant-loop : goal.invariant-loop
invariant-loop l = Completes l.code l.count l.fn.out l.out l.offset (l.count - l.counter)
