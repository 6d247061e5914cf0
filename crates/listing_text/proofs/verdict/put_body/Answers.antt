-- The body of each answer.
use mathlib.Core.Path.{◌≡◌, refl}
use mathlib.Core.List.{List}
use Prim.Native.Nat.{ℕ}
use Rattle.std.specs.Prelude.{Err}
use Rattle.blockcheck.specs.Blocks.{number_of, value_of}
use Rattle.blockcheck.specs.declared.Refusal.{Refusal}
use Rattle.text.specs.Fields.{refusal}
use Rattle.listing_text.specs.Listing.{body_of}
use Rattle.listing_text.proofs.verdict.put_body.Goals as goal

-- what follows the header where the block is refused
refused_body : (code : List ℕ) (r : Refusal) → body_of code (number_of (Err r)) (value_of (Err r)) ≡ refusal (number_of (Err r)) (value_of (Err r))
unfolding body_of
refused_body code Refusal.Length = refl
refused_body code Refusal.Marks = refl
refused_body code (Refusal.Cut i) = refl
refused_body code (Refusal.Unknown i) = refl
refused_body code (Refusal.Astray i) = refl

pub returns-in-Ok : goal.returns-in-Ok
unfolding body_of
returns-in-Ok c = rw c.in-Ok.is c.put_accepted.ensures

pub returns-in-Err : goal.returns-in-Err
returns-in-Err c =
    rw (c.in-Err.is, refused_body c.args.code.now c.in-Err.refusal, ← c.number.ensures, ← c.offset.ensures) c.refusal.ensures
