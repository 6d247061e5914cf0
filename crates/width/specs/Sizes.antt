-- The three operand sizes, and how many numbers each has. Assumes nothing.
use Rattle.std.specs.Prelude.{ℕ, ◌-◌, ◌^◌}
use Rattle.width.specs.declared.Size.{Size}
use Rattle.width.specs.declared.Size.TheVariants.{Byte, Word, Dword}

-- how many bits a number of the size has
unfoldable pub bits : Size → ℕ
bits Byte = 8
bits Word = 16
bits Dword = 32

-- how many bytes
unfoldable pub bytes : Size → ℕ
bytes Byte = 1
bytes Word = 2
bytes Dword = 4

-- how many numbers the size has
unfoldable pub modulus : Size → ℕ
modulus w = 2 ^ bits w

-- half as many: the least number whose sign bit is set
unfoldable pub half : Size → ℕ
half w = 2 ^ (bits w - 1)
