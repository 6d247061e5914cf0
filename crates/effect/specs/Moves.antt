-- Operations that move a value or set flags: what each does, beside 003's page for it. m is the machine before, a the effective address, r what was read. Assumes nothing.
use Rattle.std.specs.Prelude.{Bool, true, false, not, ℕ, if◌then◌else◌}
use Rattle.width.specs.declared.Size.{Size}
use Rattle.width.specs.declared.Size.TheVariants.{Byte, Word, Dword}
use Rattle.width.specs.Numbers.{bit, sign_extended, sign_filled, reversed}
use Rattle.flags.specs.declared.Flags.{Flags}
use Rattle.flags.specs.Conditions.{meets}
use Rattle.flags.specs.Word.{ah_of, from_ah}
use Rattle.machine.specs.declared.registers.Machine.{Machine}
use Rattle.machine.specs.Registers.{part, with_part, with_flags}
use Rattle.sense.specs.declared.Move.{Move}
use Rattle.sense.specs.declared.Flagging.{Flagging}
use Rattle.plan.specs.declared.Plan.{Plan}
use Rattle.effect.specs.Outcomes.{Effect, Reads, Nothing}
use Rattle.effect.specs.Words.{becomes, onward, value, assign, assigned, read_of}

-- the source is read, by MOVZX and MOVSX at its own size, by CMOVcc whether its condition is met or not; of XCHG the destination
unfoldable pub move_reads : Move → Plan → ℕ → Reads
move_reads Move.Mov p a = read_of p.source a p.size
move_reads (Move.MovZero from) p a = read_of p.source a from
move_reads (Move.MovSign from) p a = read_of p.source a from
move_reads Move.Lea p a = Nothing
move_reads Move.Xchg p a = read_of p.destination a p.size
move_reads Move.Convert p a = Nothing
move_reads Move.Spread p a = Nothing
move_reads Move.Bswap p a = Nothing
move_reads (Move.Set n) p a = Nothing
move_reads Move.Lahf p a = Nothing
move_reads Move.Sahf p a = Nothing
move_reads (Move.MovIf n) p a = read_of p.source a p.size

-- 003 "XCHG": DEST and SRC change places
unfoldable pub exchanged : Machine → Plan → ℕ → ℕ → ℕ → Effect
exchanged m p a x y = assign p.destination a (assigned p.source (onward m p) p.size x) p.size y

-- 003 "CMOVcc": SRC if the condition is met, else what DEST was
unfoldable pub chosen : ℕ → Machine → Plan → ℕ → ℕ
chosen n m p r = if meets n m.flags then value p.source m r p.size else value p.destination m r p.size

-- half a size
unfoldable pub smaller : Size → Size
smaller Byte = Byte
smaller Word = Byte
smaller Dword = Word

-- what the operation does
unfoldable pub move_effect : Move → Machine → Plan → ℕ → ℕ → Effect
-- 003 "MOV": DEST ← SRC
move_effect Move.Mov m p a r = assign p.destination a (onward m p) p.size (value p.source m r p.size)
-- 003 "MOVZX": DEST ← SRC, extended by zero
move_effect (Move.MovZero from) m p a r = assign p.destination a (onward m p) p.size (value p.source m r from)
-- 003 "MOVSX": DEST ← SRC, extended by sign
move_effect (Move.MovSign from) m p a r =
    assign p.destination a (onward m p) p.size (sign_extended from p.size (value p.source m r from))
-- 003 "LEA": DEST ← the effective address of SRC
move_effect Move.Lea m p a r = assign p.destination a (onward m p) p.size a
move_effect Move.Xchg m p a r =
    exchanged m p a (value p.destination m r p.size) (value p.source m r p.size)
-- 003 "CBW/CWDE": AX ← AL, or EAX ← AX, extended by sign
move_effect Move.Convert m p a r =
    becomes (with_part (onward m p) p.size 0 (sign_extended (smaller p.size) p.size (part m (smaller p.size) 0)))
-- 003 "CWD/CDQ": each bit of DX, or EDX, ← the sign of AX, or EAX
move_effect Move.Spread m p a r = becomes (with_part (onward m p) p.size 2 (sign_filled p.size (part m p.size 0)))
-- 003 "BSWAP": the register's bytes in the opposite order
move_effect Move.Bswap m p a r =
    assign p.destination a (onward m p) p.size (reversed (value p.destination m r p.size))
-- 003 "SETcc": DEST ← 1 if the condition is met, else 0
move_effect (Move.Set n) m p a r = assign p.destination a (onward m p) p.size (bit (meets n m.flags))
-- 003 "LAHF": AH ← the flags
move_effect Move.Lahf m p a r = becomes (with_part (onward m p) Byte 4 (ah_of m.flags))
-- 003 "SAHF": the flags ← AH
move_effect Move.Sahf m p a r = becomes (with_flags (onward m p) (from_ah (part m Byte 4) m.flags))
move_effect (Move.MovIf n) m p a r = assign p.destination a (onward m p) p.size (chosen n m p r)

-- the flags with another CF
unfoldable pub with_cf : Flags → Bool → Flags
with_cf f c =
    record {
      cf = c;
      pf = f.pf;
      af = f.af;
      zf = f.zf;
      sf = f.sf;
      df = f.df;
      of = f.of;
    }

-- the flags with another DF
unfoldable pub with_df : Flags → Bool → Flags
with_df f d =
    record {
      cf = f.cf;
      pf = f.pf;
      af = f.af;
      zf = f.zf;
      sf = f.sf;
      df = d;
      of = f.of;
    }

-- 003 "CMC", "CLC", "STC", "CLD", "STD"
unfoldable pub flagged : Flagging → Flags → Flags
flagged Flagging.Cmc f = with_cf f (not f.cf)
flagged Flagging.Clc f = with_cf f false
flagged Flagging.Stc f = with_cf f true
flagged Flagging.Cld f = with_df f false
flagged Flagging.Std f = with_df f true

-- what the operation does
unfoldable pub flagging_effect : Flagging → Machine → Plan → Effect
flagging_effect op m p = becomes (with_flags (onward m p) (flagged op m.flags))
