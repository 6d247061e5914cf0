-- A step beside other singles: the words of the promise that integer instructions have nothing to do with them. Assumes nothing.
use Rattle.std.specs.Prelude.{◌≡◌, false, List, ◌-◌}
use Rattle.scalar.specs.declared.Xmm.{Xmm}
use Rattle.machine.specs.declared.registers.Machine.{Machine}
use Rattle.machine.specs.Registers.{with_xmm}
use Rattle.grammar.specs.Decoding.{decode_of}
use Rattle.grammar.specs.declared.instruction.Decoded.{Decoded}
use Rattle.std.specs.Prelude.{Ok}
use Rattle.blockcheck.specs.Blocks.{code_base}
use Rattle.plan.specs.Plans.{plan_of}
use Rattle.effect.specs.Singles.{on_singles}
use Rattle.run.specs.Steps.{Fixed, Moved, next, stop}

-- what stands at EIP is no instruction on singles
abbrev pub Plain : Fixed → Machine → Type 0
Plain fixed m =
    (i : Decoded) → decode_of fixed.code (m.eip - code_base) ≡ Ok i → on_singles (plan_of m.eip i).operation ≡ false

-- what a step comes to, with these singles
unfoldable pub beside : List Xmm → Moved → Moved
beside xmm (next m d) = next (with_xmm m xmm) d
beside xmm (stop n a) = stop n a
