-- What an operation that computes comes to settles the flags that 003 leaves undefined after it. Assumes nothing.
use mathlib.Core.Path.{◌≡◌, refl}
use mathlib.Core.List.{List}
use Prim.Native.Nat.{ℕ}
use Rattle.width.specs.declared.Size.{Size}
use Rattle.width.specs.declared.Size.TheVariants.{Byte}
use Rattle.flags.specs.declared.Flags.{Flags}
use Rattle.flags.specs.Undefined.{Flag, without, DifferOnlyIn, Regardless}
use Rattle.flags.proofs.Regardless.{all_settle}
use Rattle.arith.specs.declared.Binary.{Binary}
use Rattle.arith.specs.declared.Binary.TheVariants.{And}
use Rattle.arith.specs.Undefined.{binary_undefined}
use Rattle.arith.proofs.Regardless as Arith
use Rattle.shift.specs.declared.Shift.{Shift}
use Rattle.shift.specs.Undefined.{shift_undefined}
use Rattle.shift.proofs.Regardless as Shifts
use Rattle.bits.specs.declared.BitTest.{BitTest}
use Rattle.bits.specs.Undefined.{test_undefined}
use Rattle.bits.proofs.Regardless as Bits
use Rattle.std.specs.Prelude.{Option, None, Some}
use Rattle.product.specs.declared.Parts.{Parts}
use Rattle.product.specs.Undefined.{product_undefined, division_undefined}
use Rattle.product.proofs.Regardless as Products
use Rattle.machine.specs.declared.registers.Machine.{Machine}
use Rattle.machine.specs.Memory.{Stored, Done}
use Rattle.machine.specs.Registers.{register, with_register, with_eip, with_flags, with_xmm, with_single, part, with_part}
use Rattle.sense.specs.declared.Bits.{Bits}
use Rattle.sense.specs.declared.Arithmetic.{Arithmetic}
use Rattle.plan.specs.declared.Plan.{Plan}
use Rattle.effect.specs.Outcomes.{Outcome, Becomes, Writes, Sets, Faults, Effect, Computed}
use Rattle.effect.specs.Words.{becomes, faults, onward, value}
use Rattle.effect.specs.Bits.{bit_tested, scanned, double_shifted, bits_computed}
use Rattle.effect.specs.Arithmetic as Effects
use Rattle.effect.specs.Arithmetic.{arithmetic_effect}
use Rattle.run.specs.Steps.{Moved, next, stop, stored, committed}
use Rattle.undefined.specs.Undefined.{bits_undefined, arithmetic_undefined}
use Rattle.undefined.proofs.Unflagged.{value_same, part_same, settled_same, settled_flags}

-- what is computed from flags that differ only in those left undefined
module _ (w : Size) (a b : ℕ) (f g : Flags) where
  binary_same : (op : Binary) → DifferOnlyIn (binary_undefined op) f g → Effects.binary op w a b g ≡ Effects.binary op w a b f
  unfolding Regardless Effects.binary
  binary_same op h = rw ((Arith.binary_settles op w a b).regardless f g h, Arith.value_regardless op w a b f g h)

  test_same : DifferOnlyIn (binary_undefined And) f g → Effects.test w a b g ≡ Effects.test w a b f
  unfolding Regardless Effects.test
  test_same h = rw ((Arith.binary_settles And w a b).regardless f g h)

  shift_same : (op : Shift) → DifferOnlyIn (shift_undefined op w b) f g → Effects.shift op w a b g ≡ Effects.shift op w a b f
  unfolding Regardless Effects.shift
  shift_same op h = rw ((Shifts.shift_settles op w a b).regardless f g h, Shifts.value_regardless op w a b f g h)

  product_same : DifferOnlyIn product_undefined f g → Effects.multiplied_low w a b g ≡ Effects.multiplied_low w a b f
  unfolding Regardless Effects.multiplied_low
  product_same h = rw ((Products.product_settles _).regardless f g h)

  bit_same : (op : BitTest) → DifferOnlyIn test_undefined f g → bit_tested op w a b g ≡ bit_tested op w a b f
  unfolding Regardless bit_tested
  bit_same op h = rw ((Bits.test_settles w a b).regardless f g h)

  bits_same : (op : Bits) (count : ℕ) → DifferOnlyIn (bits_undefined op w count) f g → bits_computed op w a b count g ≡ bits_computed op w a b count f
  unfolding Regardless bits_undefined scanned double_shifted bits_computed
  bits_same (Bits.Test op) count h = bit_same op h
  bits_same (Bits.Scan op) count h = rw ((Bits.scan_settles b).regardless f g h)
  bits_same (Bits.Double op) count h = rw ((Bits.double_settles op w a b count).regardless f g h)

  bits_clear : (op : Bits) (count : ℕ) → without (bits_undefined op w count) (bits_computed op w a b count f).flags ≡ (bits_computed op w a b count f).flags
  unfolding bits_undefined bit_tested scanned double_shifted bits_computed
  bits_clear (Bits.Test op) count = (Bits.test_settles w a b).clear f
  bits_clear (Bits.Scan op) count = (Bits.scan_settles b).clear f
  bits_clear (Bits.Double op) count = (Bits.double_settles op w a b count).clear f

-- two steps come to the same, with the flags of a list clear
pub data Settled (us : List Flag) : Moved → Moved → Type 0 where
  moves : {m : Machine} {d : List ℕ} → without us m.flags ≡ m.flags → Settled us (next m d) (next m d)
  stops : {n a : ℕ} → Settled us (stop n a) (stop n a)

-- what an operation that computes comes to
unfoldable pub comes_to : Arithmetic → Machine → Plan → ℕ → List ℕ → ℕ → Moved
comes_to op m p a d r = committed (arithmetic_effect op m p a r).outcome (arithmetic_effect op m p a r) m d

module _ (m : Machine) (g : Flags) (p : Plan) (a : ℕ) (d : List ℕ) where
  -- by an effect with these flags clear
  by_write : (us : List Flag) (answer : Stored) (e : Effect) → without us e.machine.flags ≡ e.machine.flags → Settled us (stored answer e d) (stored answer e d)
  unfolding stored
  by_write us Done e h = moves h
  by_write us (Stored.Outside b) e h = stops

  by_outcome : (us : List Flag) (o : Outcome) (e : Effect) → without us e.machine.flags ≡ e.machine.flags
      → Settled us (committed o e m d) (committed o e (with_flags m g) d)
  unfolding with_flags with_xmm with_single committed
  by_outcome us Becomes e h = moves h
  by_outcome us Writes e h = by_write us _ e h
  by_outcome us Sets e h = moves h
  by_outcome us Faults e h = stops

  by_effect : (us : List Flag) (e e' : Effect) → e' ≡ e → without us e.machine.flags ≡ e.machine.flags
      → Settled us (committed e.outcome e m d) (committed e'.outcome e' (with_flags m g) d)
  by_effect us e e' same h = rw same (by_outcome us e.outcome e h)

  -- by what was computed
  by_computed : (us : List Flag) (c c' : Computed) → c' ≡ c → without us c.flags ≡ c.flags
      → Settled us (committed (Effects.settled c m p a).outcome (Effects.settled c m p a) m d)
      (committed (Effects.settled c' (with_flags m g) p a).outcome (Effects.settled c' (with_flags m g) p a) (with_flags m g) d)
  by_computed us c c' same h = by_effect us _ _ (rw same (settled_same c m g p a)) (rw (settled_flags c m p a) h)

  multiplied_same : (b : ℕ) → DifferOnlyIn product_undefined m.flags g → Effects.multiplied (with_flags m g) p b ≡ Effects.multiplied m p b
  unfolding Regardless register with_eip with_flags part onward Effects.multiplied
  multiplied_same b h = rw ((Products.product_settles _).regardless m.flags g h)

  multiplied_signed_same : (b : ℕ) → DifferOnlyIn product_undefined m.flags g
      → Effects.multiplied_signed (with_flags m g) p b ≡ Effects.multiplied_signed m p b
  unfolding Regardless register with_eip with_flags part onward Effects.multiplied_signed
  multiplied_signed_same b h = rw ((Products.product_settles _).regardless m.flags g h)

  -- a division, of which a fault leaves nothing
  by_quotient : (q : Option Parts) → DifferOnlyIn division_undefined m.flags g
      → Settled division_undefined (committed (Effects.quotient q m p).outcome (Effects.quotient q m p) m d)
      (committed (Effects.quotient q (with_flags m g) p).outcome (Effects.quotient q (with_flags m g) p) (with_flags m g) d)
  unfolding Regardless with_register with_eip with_flags with_part onward becomes faults committed division_undefined Effects.doubled Effects.quotient
  by_quotient None h = stops
  by_quotient (Some d) h = rw (← all_settle.regardless m.flags g h) (moves (all_settle.clear m.flags))

  destination_same : (r : ℕ) → value p.destination (with_flags m g) r p.size ≡ value p.destination m r p.size
  destination_same r = value_same p.destination m g r p.size

  source_same : (r : ℕ) → value p.source (with_flags m g) r p.size ≡ value p.source m r p.size
  source_same r = value_same p.source m g r p.size

  -- two machines that differ only in flags left undefined
  pub comes_settled : (op : Arithmetic) (r : ℕ) → DifferOnlyIn (arithmetic_undefined op m p r) m.flags g
      → Settled (arithmetic_undefined op m p r) (comes_to op m p a d r) (comes_to op (with_flags m g) p a d r)
  unfolding without DifferOnlyIn with_register with_flags with_part becomes bit_tested Effects.binary Effects.test Effects.single Effects.shift Effects.multiplied_low Effects.doubled Effects.multiplied Effects.multiplied_signed Effects.divided Effects.divided_signed arithmetic_effect comes_to arithmetic_undefined
  comes_settled (Arithmetic.Binary op) r h =
      by_computed _ _ _ (rw (destination_same r, source_same r) (binary_same p.size _ _ m.flags g op h)) ((Arith.binary_settles op p.size _ _).clear m.flags)
  comes_settled Arithmetic.Test r h =
      by_computed _ _ _ (rw (destination_same r, source_same r) (test_same p.size _ _ m.flags g h)) ((Arith.binary_settles And p.size _ _).clear m.flags)
  comes_settled (Arithmetic.Single op) r h = by_computed _ _ _ (rw (destination_same r, ← h)) refl
  comes_settled (Arithmetic.Shift op) r h =
      by_computed _ _ _ (rw (destination_same r, value_same p.source m g r Byte) (shift_same p.size _ _ m.flags g op h)) ((Shifts.shift_settles op p.size _ _).clear m.flags)
  comes_settled Arithmetic.Mul r h =
      rw (destination_same r) (by_effect _ _ _ (multiplied_same (value p.destination m r p.size) h) ((Products.product_settles _).clear m.flags))
  comes_settled Arithmetic.Imul r h =
      rw (destination_same r) (by_effect _ _ _ (multiplied_signed_same (value p.destination m r p.size) h) ((Products.product_settles _).clear m.flags))
  comes_settled Arithmetic.ImulLow r h =
      by_computed _ _ _ (rw (source_same r, value_same p.other m g r p.size) (product_same p.size _ _ m.flags g h)) ((Products.product_settles _).clear m.flags)
  comes_settled Arithmetic.Div r h =
      rw (destination_same r, part_same m g p.size (Effects.upper p.size), part_same m g p.size 0) (by_quotient _ h)
  comes_settled Arithmetic.Idiv r h =
      rw (destination_same r, part_same m g p.size (Effects.upper p.size), part_same m g p.size 0) (by_quotient _ h)
  comes_settled (Arithmetic.Bits op) r h =
      by_computed _ _ _ (rw (destination_same r, source_same r, value_same p.other m g r Byte) (bits_same p.size _ _ m.flags g op _ h)) (bits_clear p.size _ _ m.flags g op _)
  comes_settled (Arithmetic.BitString op) r h =
      by_computed _ _ _ (rw (destination_same r, source_same r) (bit_same p.size _ _ m.flags g op h)) ((Bits.test_settles p.size _ _).clear m.flags)
