-- A value with the word of the flags that come with it. For the functions that give both; nothing here need be believed. Assumes nothing.
use Rattle.std.specs.Prelude.{◌≡◌, ℕ}
use Rattle.flags.specs.declared.Flags.{Flags}
use Rattle.flags.specs.Word.{flags_of}
use Rattle.arith.specs.declared.Worked.{Worked}

-- r has the value, and its word means the flags
pub record Works (value : ℕ) (f : Flags) (r : Worked) : Type 0 where
  pub is : r.value ≡ value
  pub means : flags_of r.word ≡ f
