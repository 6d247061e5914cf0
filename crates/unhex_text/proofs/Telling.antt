-- The answer to a file, from what is read: code that lies in its area, or a refusal. Assumes nothing.
use mathlib.Core.Path.{◌≡◌, refl}
use mathlib.Core.List.{List}
use Prim.Native.Nat.{ℕ, ◌≤◌, ◌<◌}
use native.Mathlib.Omega.{arith}
use lib.ListN.{length}
use Rattle.intel_hex.specs.Files.{Outcome, refused as refused_line, no_end, no_data, read}
use Rattle.intel_hex.proofs.Outcomes.{accepted_sized, refused_untouched}
use Rattle.std.specs.Prelude.{Some, None, IfSome}
use Rattle.std.specs.declared.option.Option.{Option}
use Rattle.text.specs.Fields.{refusal}
use Rattle.unhex_text.specs.Unhexing.{most, code_line, Told, code, refused, too_long}

-- a file that is read
pub told_code : {text area after : List ℕ} {size : ℕ} → length text ≤ most → Outcome text area 0 size after → Told text area (Some size) after (code_line size)
told_code short o = code short (accepted_sized o).0 o

-- a file that is refused
pub told_refused : {text area after : List ℕ} {number line : ℕ} → length text ≤ most → 0 < number → Outcome text area number line after
    → Told text area None after (refusal number line)
told_refused {number} {line} short some o =
    let untouched = refused_untouched o (omega arith) in
    rw untouched (refused {number = number} {line = line} short some (rw untouched at o))

-- the area is as long as it was
area_kept : {text area after : List ℕ} {number value : ℕ} → Outcome text area number value after → length after ≡ length area
area_kept (refused_line earlier line later e stand first) = refl
area_kept (no_end stands ended) = refl
area_kept (no_data stands ended blank) = refl
area_kept (read stands ended holds) = holds.long

-- the code lies in the area
pub code_inside : {size : Option ℕ} {text area after line : List ℕ} → Told text area size after line → IfSome size (λ n. n ≤ length after)
code_inside (code short some o) =
    let (_, inside, room) = accepted_sized o in
    omega (arith, area_kept o)
code_inside (refused short some o) = tt
code_inside (too_long long) = tt
