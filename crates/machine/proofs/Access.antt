-- Accesses to the lent areas: what each is by whether an area holds it, and a load of what was stored. Assumes nothing.
use mathlib.Core.Path.{◌≡◌, refl, sym, ap, ◌∙◌}
use mathlib.Core.Bool.{Bool, true, false, cond, and-eq-true_iff}
use mathlib.Core.List.{List, [], append_assoc}
use Prim.Native.Nat.{ℕ, zero, suc, ◌+◌, ◌-◌, ◌*◌, ◌%◌, ◌^◌, ◌<◌, ◌≤◌}
use native.Mathlib.Omega.{arith}
use Rattle.std.specs.Prelude.{Option, Some, None}
use lib.Dec.{leb}
use lib.ListN.{length, get_or, take, drop, length-drop}
use lib.Seq.{sets, length-sets, sets-eq, take_at, drop_at, take_all, length-take-le}
use borrow.Author.Tests.{leb-true, le-leb, lt-leb}
use Rattle.width.specs.declared.Size.{Size}
use Rattle.width.specs.declared.Size.TheVariants.{Byte, Word, Dword}
use Rattle.width.specs.Sizes.{bits, bytes, modulus}
use Rattle.width.specs.LittleEndian.{little_endian, bytes_of}
use Rattle.width.proofs.LittleEndian.{number_one, number_two, number_four}
use Rattle.machine.specs.Memory.{data_base, constants_base, holds, place_of, first_outside, first_unread, part_of, Read, part, outside, read_of, held, Loaded, Value, Stored, Done, numbered, load_of, stored_of, store_of}

module _ (base len n a : ℕ) where
  -- an area holds an access that lies in it
  pub is_held : base ≤ a → a + n ≤ base + len → holds base len n a ≡ true
  unfolding holds
  is_held low high = rw (le-leb base a low, le-leb (a + n) (base + len) high)

  -- none that begins below it
  pub below_area : a < base → holds base len n a ≡ false
  unfolding holds
  below_area low = rw (lt-leb base a low)

  -- none that ends past it
  pub past_area : base ≤ a → base + len < a + n → holds base len n a ≡ false
  unfolding holds
  past_area low high = rw (le-leb base a low, lt-leb (a + n) (base + len) high)

  -- an access that an area holds lies in it
  pub is_within : holds base len n a ≡ true → (base ≤ a) × (a + n ≤ base + len)
  unfolding holds
  is_within h =
      let parts = (and-eq-true_iff (leb base a) (leb (a + n) (base + len))).0 h in
      (leb-true base a parts.0, leb-true (a + n) (base + len) parts.1)

  -- so that its place and its bytes fit
  pub fits_in : holds base len n a ≡ true → a - base + n ≤ len
  fits_in h = let (low, high) = is_within h in omega arith

  -- the area holds the access, from at on
  pub record Placed (at : ℕ) : Type 0 where
    pub inside : holds base len n a ≡ true
    pub place : at ≡ a - base
    pub fits : at + n ≤ len

  -- the area does not hold the access
  pub record Missed : Type 0 where
    pub outside : holds base len n a ≡ false

-- what a place that was found says of the access
pub placed : {p : Option ℕ} {base len m n a at : ℕ} → m ≡ n → p ≡ place_of base len m a → p ≡ Some at → Placed base len n a at
unfolding place_of
placed {p} {base} {len} {m} {n} {a} {at} size found is = by (holds base len n a) refl (rw size at (sym found ∙ is))
  where
    by : (t : Bool) → holds base len n a ≡ t → cond t (Some (a - base)) None ≡ Some at → Placed base len n a at
    by true h e =
        let within = fits_in base len n a h in
        let place : at ≡ a - base = cc in
        record { inside = h; place = place; fits = omega arith }
    by false h e = absurd (let z : ◌≡◌ {A = ℕ} 0 1 = cc in omega arith)

-- what an answer that none was found says of it
pub missed : {p : Option ℕ} {base len m n a : ℕ} → m ≡ n → p ≡ place_of base len m a → p ≡ None → Missed base len n a
unfolding place_of
missed {p} {base} {len} {m} {n} {a} size found is = by (holds base len n a) refl (rw size at (sym found ∙ is))
  where
    by : (t : Bool) → holds base len n a ≡ t → cond t (Some (a - base)) None ≡ None → Missed base len n a
    by true h e = absurd (let z : ◌≡◌ {A = ℕ} 0 1 = cc in omega arith)
    by false h e = record { outside = h }

module _ (base len a : ℕ) where
  -- from an address in an area on, its end is the first outside
  pub first_past : holds base len 1 a ≡ true → first_outside base len a ≡ (base + len) % 2 ^ 32
  unfolding first_outside
  first_past h = rw h

  -- from any other on, this address itself
  pub first_itself : holds base len 1 a ≡ false → first_outside base len a ≡ a
  unfolding first_outside
  first_itself h = rw h

module _ (constants d : List ℕ) (a : ℕ) where
  -- for a read that begins in data it is data's
  pub unread_data : holds data_base (length d) 1 a ≡ true → first_unread constants d a ≡ first_outside data_base (length d) a
  unfolding first_unread
  unread_data h = rw h

  -- for any other, that of the constants
  pub unread_constants : holds data_base (length d) 1 a ≡ false → first_unread constants d a ≡ first_outside constants_base (length constants) a
  unfolding first_unread
  unread_constants h = rw h

module _ (constants d : List ℕ) (n a : ℕ) where
  -- a read that data holds is a part of data
  pub read_data : holds data_base (length d) n a ≡ true → read_of constants d n a ≡ part (part_of data_base d n a)
  unfolding read_of
  read_data h = rw h

  module _ (elsewhere : holds data_base (length d) n a ≡ false) where
    -- one that constants hold is a part of constants
    pub read_constants : holds constants_base (length constants) n a ≡ true
        → read_of constants d n a ≡ part (part_of constants_base constants n a)
    unfolding read_of
    read_constants h = rw (elsewhere, h)

    -- any other gives the first address outside
    pub read_outside : holds constants_base (length constants) n a ≡ false → read_of constants d n a ≡ outside (first_unread constants d a)
    unfolding read_of
    read_outside h = rw (elsewhere, h)

  -- data holds the bytes from its place on
  pub held_data : {at : ℕ} → Placed data_base (length d) n a at → take (at + n - at) (drop at d) ≡ held (read_of constants d n a)
  unfolding part_of held
  held_data {at} p = let long : at + n - at ≡ n = omega arith in rw (read_data p.inside, long, p.place)

  -- constants hold them
  pub held_constants : {at : ℕ} → Missed data_base (length d) n a → Placed constants_base (length constants) n a at
      → take (at + n - at) (drop at constants) ≡ held (read_of constants d n a)
  unfolding part_of held
  held_constants {at} missing p =
      let long : at + n - at ≡ n = omega arith in rw (read_constants missing.outside p.inside, long, p.place)

  -- neither does
  pub held_none : Missed data_base (length d) n a → Missed constants_base (length constants) n a → [] ≡ held (read_of constants d n a)
  unfolding held
  held_none missing missing' = rw (read_outside missing.outside missing'.outside)

  -- the part has as many bytes as were to be read
  part_long : (base : ℕ) (area : List ℕ) → holds base (length area) n a ≡ true → length (part_of base area n a) ≡ n
  unfolding part_of
  part_long base area h =
      let within = fits_in base (length area) n a h in
      length-take-le n (drop (a - base) area) (rw (length-drop (a - base) area) (omega arith))

  -- what is read: so many bytes, or none, and then the first address outside is told
  pub data Reads : Read → Type 0 where
    whole : {bytes : List ℕ} → length bytes ≡ n → Reads (part bytes)
    none : Reads (outside (first_unread constants d a))

  pub reads : Reads (read_of constants d n a)
  unfolding read_of
  reads = by (holds data_base (length d) n a) (holds constants_base (length constants) n a) refl refl
    where
      by : (x y : Bool) → holds data_base (length d) n a ≡ x → holds constants_base (length constants) n a ≡ y
          → Reads (cond x (part (part_of data_base d n a)) (cond y (part (part_of constants_base constants n a)) (outside (first_unread constants d a))))
      by true y h k = whole (part_long data_base d h)
      by false true h k = whole (part_long constants_base constants k)
      by false false h k = none

-- every size has a byte
pub some_bytes : (w : Size) → 0 < bytes w
unfolding bytes
some_bytes Byte = omega arith
some_bytes Word = omega arith
some_bytes Dword = omega arith

module _ (constants d : List ℕ) (w : Size) (a : ℕ) {m : ℕ} {got : List ℕ} (size : m ≡ bytes w) (is : got ≡ held (read_of constants d m a)) where
  -- with no byte held a load gives the first address outside
  pub load_none : length got ≡ 0 → Loaded.Outside (first_unread constants d a) ≡ load_of constants d w a
  unfolding held numbered load_of
  load_none empty = by (read_of constants d (bytes w) a) (reads constants d (bytes w) a) (rw size at is)
    where
      by : (r : Read) → Reads constants d (bytes w) a r → got ≡ held r → Loaded.Outside (first_unread constants d a) ≡ numbered r
      by (part l) (whole long) e = absurd (let some = some_bytes w in let z : length l ≡ 0 = rw (← e) empty in omega arith)
      by (outside b) none e = refl

  -- with some it gives the number of as many as the size has
  pub load_some : (length got ≡ 0 → ⊥) → (length got ≡ bytes w) × (Value (little_endian got) ≡ load_of constants d w a)
  unfolding held numbered load_of
  load_some some = by (read_of constants d (bytes w) a) (reads constants d (bytes w) a) (rw size at is)
    where
      by : (r : Read) → Reads constants d (bytes w) a r → got ≡ held r → (length got ≡ bytes w) × (Value (little_endian got) ≡ numbered r)
      by (part l) (whole long) e = (rw e long, rw e)
      by (outside b) none e = absurd (some (rw e))

module _ (d : List ℕ) (w : Size) (a : ℕ) where
  -- a store that data holds is done
  pub stored_held : holds data_base (length d) (bytes w) a ≡ true → stored_of d w a ≡ Done
  unfolding stored_of
  stored_held h = rw h

  -- any other gives the first address outside
  pub stored_outside : holds data_base (length d) (bytes w) a ≡ false → stored_of d w a ≡ Stored.Outside (first_outside data_base (length d) a)
  unfolding stored_of
  stored_outside h = rw h

  module _ (v : ℕ) where
    -- a store that data holds puts the number's bytes at its place
    pub store_held : holds data_base (length d) (bytes w) a ≡ true
        → store_of d w a v ≡ sets d (a - data_base) (bytes_of (bytes w) v)
    unfolding store_of
    store_held h = rw h

    -- any other leaves the data as it was
    pub store_outside : holds data_base (length d) (bytes w) a ≡ false → store_of d w a v ≡ d
    unfolding store_of
    store_outside h = rw h

    -- a store leaves the data as long as it was
    pub store_length : length (store_of d w a v) ≡ length d
    unfolding store_of
    store_length = by (holds data_base (length d) (bytes w) a)
      where
        by : (b : Bool) → length (cond b (sets d (a - data_base) (bytes_of (bytes w) v)) d) ≡ length d
        by true = length-sets d (a - data_base) (bytes_of (bytes w) v)
        by false = refl

module _ (l : List ℕ) where
  -- the number of a part of one byte
  pub number_of_one : length l ≡ 1 → little_endian l ≡ get_or l 0 0
  number_of_one long = ap little_endian (sym (take_all 1 l (omega arith))) ∙ number_one l 0 (omega arith)

  -- of two
  pub number_of_two : length l ≡ 2 → little_endian l ≡ get_or l 0 0 + 256 * get_or l 1 0
  number_of_two long = ap little_endian (sym (take_all 2 l (omega arith))) ∙ number_two l 0 (omega arith)

  -- of four
  pub number_of_four : length l ≡ 4 → little_endian l ≡ get_or l 0 0 + 256 * get_or l 1 0 + 65536 * (get_or l 2 0 + 256 * get_or l 3 0)
  number_of_four long = ap little_endian (sym (take_all 4 l (omega arith))) ∙ number_four l 0 (omega arith)

-- so many bytes are as many
length_bytes : (n v : ℕ) → length (bytes_of n v) ≡ n
unfolding bytes_of
length_bytes zero v = refl
length_bytes (suc n) v = ap suc (length_bytes n _)

-- the number of a number's bytes is its rest
number_bytes : (w : Size) (v : ℕ) → little_endian (bytes_of (bytes w) v) ≡ v % modulus w
unfolding little_endian bytes_of bytes modulus bits
number_bytes Byte v = omega arith
number_bytes Word v = omega arith
number_bytes Dword v = omega arith

-- elements stored from a place on are there
part_sets : (vs l : List ℕ) (i n : ℕ) → length vs ≡ n → i + n ≤ length l → take n (drop i (sets l i vs)) ≡ vs
part_sets vs l i n e h =
    rw (
      sets-eq vs l i (omega arith),
      append_assoc (take i l) vs _,
      drop_at (take i l) _ i (length-take-le i l (omega arith)),
      take_at vs _ n e,
    )

-- a load of what was stored in data gives the number's rest at the size
pub load_store_same : (constants d : List ℕ) (w : Size) (a v : ℕ) → holds data_base (length d) (bytes w) a ≡ true
    → load_of constants (store_of d w a v) w a ≡ Value (v % modulus w)
unfolding load_of numbered part_of
load_store_same constants d w a v h =
    let still : holds data_base (length (store_of d w a v)) (bytes w) a ≡ true = rw (store_length d w a v) h in
    let within = fits_in data_base (length d) (bytes w) a h in
    rw (
      read_data constants (store_of d w a v) (bytes w) a still,
      store_held d w a v h,
      part_sets (bytes_of (bytes w) v) d (a - data_base) (bytes w) (length_bytes (bytes w) v) within,
      number_bytes w v,
    )
