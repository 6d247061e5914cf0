-- Lent registers beside lent XMM registers, and an effect beside other singles. Assumes nothing.
use Rattle.std.specs.Prelude.{List, ℕ}
use Rattle.flags.specs.Word.{flags_of}
use Rattle.scalar.specs.declared.Xmm.{Xmm}
use Rattle.machine.specs.declared.registers.Machine.{Machine}
use Rattle.machine.specs.Lending.{machine_of, holding, xmm_of}
use Rattle.machine.specs.Registers.{with_xmm}
use Rattle.effect.specs.Outcomes.{Effect}

-- the machine of lent registers and XMM registers, EIP and the flags word
abbrev pub lent : List ℕ → List ℕ → ℕ → ℕ → Machine
lent regs xmm eip word = machine_of regs (xmm_of xmm) eip (flags_of word)

-- the same without singles, for what neither looks at them nor changes them
abbrev pub held : List ℕ → ℕ → ℕ → Machine
held regs eip word = holding regs eip (flags_of word)

-- an effect of the machine with these singles
unfoldable pub framed : List Xmm → Effect → Effect
framed xmm e =
    record {
      outcome = e.outcome;
      machine = with_xmm e.machine xmm;
      size = e.size;
      address = e.address;
      value = e.value;
    }
