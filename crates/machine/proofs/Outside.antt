-- The first address outside: it lies outside, all before it lie inside, it is one of the access's bytes, and no other address is so. Assumes nothing.
use mathlib.Core.Path.{◌≡◌, refl, sym, ◌∙◌}
use mathlib.Core.Logic.{◌↔◌}
use mathlib.Core.Bool.{Bool, true, false}
use mathlib.Core.List.{List}
use Prim.Native.Nat.{ℕ, ◌+◌, ◌-◌, ◌%◌, ◌^◌, ◌<◌, ◌≤◌}
use native.Mathlib.Omega.{arith}
use lib.Dec.{ltb}
use lib.ListN.{length}
use borrow.Author.Tests.{ltb-true, ltb-false}
use Rattle.width.specs.declared.Size.{Size}
use Rattle.width.specs.Sizes.{bytes}
use Rattle.machine.specs.Memory.{data_base, constants_base, holds, first_outside, first_unread, load_of, stored_of, Loaded, Stored}
use Rattle.machine.specs.Allowed.{Lies, Readable, in_data, in_constants, First, Unread, of_data, of_constants, of_neither, Among}
use Rattle.machine.proofs.Access.{is_within, some_bytes, first_past, first_itself, unread_data, unread_constants}
use Rattle.machine.proofs.Allowed.{lies_held, held_lies, unheld, not_held, not_above, not_both, outside_exactly, undone_exactly}

module _ (base len : ℕ) where
  -- it is the first, of an area that ends below 2^32
  is_first : base + len < 2 ^ 32 → (a : ℕ) → First base len a (first_outside base len a)
  is_first short a = by (holds base len 1 a) refl
    where
      by : (x : Bool) → holds base len 1 a ≡ x → First base len a (first_outside base len a)
      by true h =
          let (low, high) = is_within base len 1 a h in
          let whole : (base + len) % 2 ^ 32 ≡ base + len = omega arith in
          rw (first_past base len a h, whole)
          (record {
            onward = omega arith;
            outside = λ l. let end = l.high in omega arith;
            before = λ c up down. record { low = omega arith; high = omega arith };
          })
      by false h =
          rw (first_itself base len a h)
          (record { onward = omega arith; outside = unheld base len 1 a h; before = λ c up down. absurd (omega arith) })

  -- no two addresses are
  only_first : {a b b' : ℕ} → First base len a b → First base len a b' → b ≡ b'
  only_first {a} {b} {b'} f g = by (ltb b b') (ltb b' b) refl refl
    where
      by : (x y : Bool) → ltb b b' ≡ x → ltb b' b ≡ y → b ≡ b'
      by true y h k = absurd (f.outside (g.before b f.onward (ltb-true b b' h)))
      by false true h k = absurd (g.outside (f.before b' g.onward (ltb-true b' b k)))
      by false false h k = omega (arith, ltb-false b b' h, ltb-false b' b k)

  -- so an address is the one given exactly if it is the first outside
  pub first_exactly : base + len < 2 ^ 32 → (a b : ℕ) → (b ≡ first_outside base len a) ↔ First base len a b
  first_exactly short a b = (λ e. rw e (is_first short a), λ f. only_first f (is_first short a))

  -- and one of the bytes of an access that does not lie in the area
  pub first_among : {n a b : ℕ} → 0 < n → (Lies base len n a → ⊥) → First base len a b → Among n a b
  first_among {n} {a} {b} some away f = by (ltb b (a + n)) refl
    where
      by : (x : Bool) → ltb b (a + n) ≡ x → Among n a b
      by true h = record { low = f.onward; high = ltb-true b (a + n) h }
      by false h =
          let past = ltb-false b (a + n) h in
          let first = f.before a (omega arith) (omega arith) in
          let last = f.before (a + (n - 1)) (omega arith) (omega arith) in
          absurd (away (record { low = first.low; high = let end = last.high in omega arith }))

-- data of a length that is not refused ends below 2^32, and so do constants
data_ends : {len : ℕ} → len ≤ 65_536 → data_base + len < 2 ^ 32
unfolding data_base
data_ends long = omega arith

constants_end : {len : ℕ} → len ≤ 65_536 → constants_base + len < 2 ^ 32
unfolding constants_base
constants_end long = omega arith

-- and no byte after one of data is a constant
not_next : {len c : ℕ} → len ≤ 65_536 → Lies data_base len 1 c → constants_base ≤ c + 1 → ⊥
unfolding data_base constants_base
not_next long l high = let end = l.high in omega arith

module _ (constants d : List ℕ) (long : length d ≤ 65_536) (long' : length constants ≤ 65_536) where
  -- for a read the address is given exactly if it is the first outside the area that holds the read's first byte, or this byte where neither does
  pub unread_exactly : (a b : ℕ) → (b ≡ first_unread constants d a) ↔ Unread constants d a b
  unread_exactly a b = (λ e. to (holds data_base (length d) 1 a) (holds constants_base (length constants) 1 a) refl refl e, from)
    where
      to : (x y : Bool) → holds data_base (length d) 1 a ≡ x → holds constants_base (length constants) 1 a ≡ y
          → b ≡ first_unread constants d a → Unread constants d a b
      to true y h k e =
          of_data (held_lies data_base (length d) 1 a h)
          ((first_exactly data_base (length d) (data_ends long) a b).0 (e ∙ unread_data constants d a h))
      to false true h k e =
          of_constants (held_lies constants_base (length constants) 1 a k)
          ((first_exactly constants_base (length constants) (constants_end long') a b).0 (e ∙ unread_constants constants d a h))
      to false false h k e =
          of_neither neither (e ∙ unread_constants constants d a h ∙ first_itself constants_base (length constants) a k)
        where
          neither : Readable constants d 1 a → ⊥
          neither (in_data l) = unheld data_base (length d) 1 a h l
          neither (in_constants l) = unheld constants_base (length constants) 1 a k l

      from : Unread constants d a b → b ≡ first_unread constants d a
      from (of_data l f) =
          (first_exactly data_base (length d) (data_ends long) a b).1 f
          ∙ sym (unread_data constants d a (lies_held data_base (length d) 1 a l))
      from (of_constants l f) =
          (first_exactly constants_base (length constants) (constants_end long') a b).1 f
          ∙ sym (unread_constants constants d a (not_held data_base (length d) 1 a (λ there. not_both long there l)))
      from (of_neither away e) =
          e
          ∙ sym (first_itself constants_base (length constants) a (not_held constants_base (length constants) 1 a (λ l. away (in_constants l))))
          ∙ sym (unread_constants constants d a (not_held data_base (length d) 1 a (λ l. away (in_data l))))

  -- it lies in neither area
  pub unread_outside : {a b : ℕ} → Unread constants d a b → Readable constants d 1 b → ⊥
  unread_outside (of_data l f) (in_data there) = f.outside there
  unread_outside {a} {b} (of_data l f) (in_constants there) = by (ltb a b) refl
    where
      by : (x : Bool) → ltb a b ≡ x → ⊥
      by true h =
          let up = ltb-true a b h in
          let last = f.before (b - 1) (omega arith) (omega arith) in
          let low = there.low in
          not_next long last (omega arith)
      by false h = f.outside (let up = ltb-false a b h in let same : b ≡ a = omega arith in rw same l)
  unread_outside (of_constants l f) (in_data there) = not_above there long (omega arith)
  unread_outside (of_constants l f) (in_constants there) = f.outside there
  unread_outside (of_neither away e) there = away (rw (← e) there)

  -- and is one of the bytes of a read that lies in neither
  pub unread_among : {n a b : ℕ} → 0 < n → (Readable constants d n a → ⊥) → Unread constants d a b → Among n a b
  unread_among some away (of_data l f) = first_among data_base (length d) some (λ there. away (in_data there)) f
  unread_among some away (of_constants l f) = first_among constants_base (length constants) some (λ there. away (in_constants there)) f
  unread_among some away (of_neither _ e) = record { low = omega arith; high = omega arith }

  -- what a load gives that is outside
  pub load_given : (w : Size) (a b : ℕ) → load_of constants d w a ≡ Loaded.Outside b → Unread constants d a b × Among (bytes w) a b
  load_given w a b e =
      let (away, is) = (outside_exactly constants d w a b).0 e in
      let first = (unread_exactly a b).0 is in (first, unread_among (some_bytes w) away first)

-- what a store gives that is outside
pub store_given : (d : List ℕ) → length d ≤ 65_536 → (w : Size) (a b : ℕ) → stored_of d w a ≡ Stored.Outside b
    → First data_base (length d) a b × Among (bytes w) a b
store_given d long w a b e =
    let (away, is) = (undone_exactly d w a b).0 e in
    let first = (first_exactly data_base (length d) (data_ends long) a b).0 is in
    (first, first_among data_base (length d) (some_bytes w) away first)
