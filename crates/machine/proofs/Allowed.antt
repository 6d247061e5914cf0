-- A load is allowed exactly if it lies wholly in data or wholly in constants, and no read lies in both; a store exactly if it lies wholly in data. Assumes nothing.
use mathlib.Core.Path.{◌≡◌, refl, sym, ◌∙◌}
use mathlib.Core.Logic.{◌↔◌}
use mathlib.Core.Bool.{Bool, true, false, true≢false}
use mathlib.Core.List.{List}
use Prim.Native.Nat.{ℕ, ◌≤◌}
use native.Mathlib.Omega.{arith}
use lib.ListN.{length}
use Rattle.width.specs.declared.Size.{Size}
use Rattle.width.specs.Sizes.{bytes}
use Rattle.width.specs.LittleEndian.{little_endian}
use Rattle.machine.specs.Memory.{data_base, constants_base, holds, first_outside, first_unread, part_of, numbered, load_of, stored_of, Loaded, Value, Stored, Done}
use Rattle.machine.specs.Allowed.{Lies, Readable, in_data, in_constants, Writable}
use Rattle.machine.proofs.Access.{is_held, is_within, first_itself, read_data, read_constants, read_outside, stored_held, stored_outside}

module _ (base len n a : ℕ) where
  -- an access that lies in an area is held by it
  pub lies_held : Lies base len n a → holds base len n a ≡ true
  lies_held l = is_held base len n a l.low l.high

  -- and lies in it if it is held
  pub held_lies : holds base len n a ≡ true → Lies base len n a
  held_lies h = record { low = (is_within base len n a h).0; high = (is_within base len n a h).1 }

  -- so not if it is not
  pub unheld : holds base len n a ≡ false → Lies base len n a → ⊥
  unheld h l = true≢false (sym (lies_held l) ∙ h)

  -- and it is not held if it does not
  pub not_held : (Lies base len n a → ⊥) → holds base len n a ≡ false
  not_held away = by (holds base len n a) refl
    where
      by : (x : Bool) → holds base len n a ≡ x → holds base len n a ≡ false
      by true h = absurd (away (held_lies h))
      by false h = h

-- what lies in data of a length that is not refused does not begin where constants do, or above
pub not_above : {len n a : ℕ} → Lies data_base len n a → len ≤ 65_536 → constants_base ≤ a → ⊥
unfolding data_base constants_base
not_above l long high = let end = l.high in omega arith

-- so no access lies in both
pub not_both : {len len' n a : ℕ} → len ≤ 65_536 → Lies data_base len n a → Lies constants_base len' n a → ⊥
not_both long l l' = not_above l long l'.low

module _ (constants d : List ℕ) (w : Size) (a : ℕ) where
  -- a load that lies in data gives the number of its bytes there
  pub load_data : Lies data_base (length d) (bytes w) a → load_of constants d w a ≡ Value (little_endian (part_of data_base d (bytes w) a))
  unfolding load_of numbered
  load_data l = rw (read_data constants d (bytes w) a (lies_held data_base (length d) (bytes w) a l))

  -- one that data does not hold and that lies in constants, of its bytes there
  load_there : holds data_base (length d) (bytes w) a ≡ false → Lies constants_base (length constants) (bytes w) a
      → load_of constants d w a ≡ Value (little_endian (part_of constants_base constants (bytes w) a))
  unfolding load_of numbered
  load_there h l = rw (read_constants constants d (bytes w) a h (lies_held constants_base (length constants) (bytes w) a l))

  -- any other gives the first address outside
  load_nowhere : holds data_base (length d) (bytes w) a ≡ false → holds constants_base (length constants) (bytes w) a ≡ false
      → load_of constants d w a ≡ Loaded.Outside (first_unread constants d a)
  unfolding load_of numbered
  load_nowhere h k = rw (read_outside constants d (bytes w) a h k)

  -- one that lies in constants gives the number of its bytes there, with data of a length that is not refused
  pub load_constants : length d ≤ 65_536 → Lies constants_base (length constants) (bytes w) a
      → load_of constants d w a ≡ Value (little_endian (part_of constants_base constants (bytes w) a))
  load_constants long l = by (holds data_base (length d) (bytes w) a) refl
    where
      by : (x : Bool) → holds data_base (length d) (bytes w) a ≡ x → load_of constants d w a ≡ Value (little_endian (part_of constants_base constants (bytes w) a))
      by true h = absurd (not_both long (held_lies data_base (length d) (bytes w) a h) l)
      by false h = load_there h l

  -- a load is outside exactly if it lies neither wholly in data nor wholly in constants, at the first address outside
  pub outside_exactly : (b : ℕ) → (load_of constants d w a ≡ Loaded.Outside b) ↔ ((Readable constants d (bytes w) a → ⊥) × (b ≡ first_unread constants d a))
  outside_exactly b = (
    λ e. to (holds data_base (length d) (bytes w) a) (holds constants_base (length constants) (bytes w) a) refl refl e,
    λ h. from (holds data_base (length d) (bytes w) a) (holds constants_base (length constants) (bytes w) a) refl refl h.0 ∙ rw h.1,
  )
    where
      neither : holds data_base (length d) (bytes w) a ≡ false → holds constants_base (length constants) (bytes w) a ≡ false
          → Readable constants d (bytes w) a → ⊥
      neither h k (in_data l) = unheld data_base (length d) (bytes w) a h l
      neither h k (in_constants l) = unheld constants_base (length constants) (bytes w) a k l

      to : (x y : Bool) → holds data_base (length d) (bytes w) a ≡ x → holds constants_base (length constants) (bytes w) a ≡ y
          → load_of constants d w a ≡ Loaded.Outside b → (Readable constants d (bytes w) a → ⊥) × (b ≡ first_unread constants d a)
      to true y h k e =
          let there = load_data (held_lies data_base (length d) (bytes w) a h) in
          absurd (let z : ◌≡◌ {A = ℕ} 0 1 = cc in omega arith)
      to false true h k e =
          let there = load_there h (held_lies constants_base (length constants) (bytes w) a k) in
          absurd (let z : ◌≡◌ {A = ℕ} 0 1 = cc in omega arith)
      to false false h k e = let nowhere = load_nowhere h k in (neither h k, cc)

      from : (x y : Bool) → holds data_base (length d) (bytes w) a ≡ x → holds constants_base (length constants) (bytes w) a ≡ y
          → (Readable constants d (bytes w) a → ⊥) → load_of constants d w a ≡ Loaded.Outside (first_unread constants d a)
      from true y h k no_area = absurd (no_area (in_data (held_lies data_base (length d) (bytes w) a h)))
      from false true h k no_area = absurd (no_area (in_constants (held_lies constants_base (length constants) (bytes w) a k)))
      from false false h k no_area = load_nowhere h k

module _ (d : List ℕ) (w : Size) (a : ℕ) where
  -- a store is done exactly if it lies wholly in data
  pub done_exactly : (stored_of d w a ≡ Done) ↔ Writable d (bytes w) a
  done_exactly = (λ e. by (holds data_base (length d) (bytes w) a) refl e, λ l. stored_held d w a (lies_held data_base (length d) (bytes w) a l))
    where
      by : (x : Bool) → holds data_base (length d) (bytes w) a ≡ x → stored_of d w a ≡ Done → Writable d (bytes w) a
      by true h e = held_lies data_base (length d) (bytes w) a h
      by false h e =
          let away = stored_outside d w a h in
          absurd (let z : ◌≡◌ {A = ℕ} 0 1 = cc in omega arith)

  -- and is outside exactly if it does not, at the first address outside
  pub undone_exactly : (b : ℕ) → (stored_of d w a ≡ Stored.Outside b) ↔ ((Writable d (bytes w) a → ⊥) × (b ≡ first_outside data_base (length d) a))
  undone_exactly b = (
    λ e. to (holds data_base (length d) (bytes w) a) refl e,
    λ h. from (holds data_base (length d) (bytes w) a) refl h.0 ∙ rw h.1,
  )
    where
      to : (x : Bool) → holds data_base (length d) (bytes w) a ≡ x → stored_of d w a ≡ Stored.Outside b
          → (Writable d (bytes w) a → ⊥) × (b ≡ first_outside data_base (length d) a)
      to true h e =
          let done = stored_held d w a h in
          absurd (let z : ◌≡◌ {A = ℕ} 0 1 = cc in omega arith)
      to false h e = let away = stored_outside d w a h in (unheld data_base (length d) (bytes w) a h, cc)

      from : (x : Bool) → holds data_base (length d) (bytes w) a ≡ x → (Writable d (bytes w) a → ⊥)
          → stored_of d w a ≡ Stored.Outside (first_outside data_base (length d) a)
      from true h not_in = absurd (not_in (held_lies data_base (length d) (bytes w) a h))
      from false h not_in = stored_outside d w a h

  -- a store at a constant's address, or above, gives this address, with data of a length that is not refused
  pub constants_unwritten : length d ≤ 65_536 → constants_base ≤ a → stored_of d w a ≡ Stored.Outside a
  constants_unwritten long high =
      (undone_exactly a).1 (
        λ l. not_above l long high,
        sym (first_itself data_base (length d) a (not_held data_base (length d) 1 a (λ l. not_above l long high))),
      )
