-- What a round under a prefix comes to, by what the round alone comes to. Assumes nothing.
use Rattle.std.specs.Prelude.{List, ℕ}
use Rattle.machine.specs.declared.registers.Machine.{Machine}
use Rattle.grammar.specs.declared.rule.Repeat.{Repeat}
use Rattle.sense.specs.declared.Strings.{Strings}
use Rattle.plan.specs.declared.Plan.{Plan}
use Rattle.effect.specs.Words.{onward}
use Rattle.width.specs.declared.Size.{Size}
use Rattle.effect.specs.Strings.{round, round_reads, repeated, string_reads, string_effect}
use Rattle.effect.specs.Does.{got_of, did}
use Rattle.effect.specs.Performing.{Moved, next, stop}

-- the machine after a round that leaves m
unfoldable pub after : Repeat → Strings → Plan → Machine → Machine
after Repeat.Absent op p m = onward m p
after Repeat.F2 op p m = repeated Repeat.F2 op m p
after Repeat.F3 op p m = repeated Repeat.F3 op m p

-- another machine, where there is a next one
abbrev pub on_next : (Machine → Machine) → Moved → Moved
on_next f (next m d) = next (f m) d
on_next f (stop n a) = stop n a

-- what a round comes to
unfoldable pub round_of : List ℕ → List ℕ → Strings → Machine → Size → Moved
round_of constants d op m w = did (got_of constants d (round_reads op m w)) (λ r s. round op m w r s) m d

-- what a string operation comes to
unfoldable pub string_of : List ℕ → List ℕ → Strings → Machine → Plan → Moved
string_of constants d op m p = did (got_of constants d (string_reads op m p)) (λ r s. string_effect op m p r s) m d
