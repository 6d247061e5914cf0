-- From what the passes give to the answer and the marks left. Assumes nothing.
use mathlib.Core.Path.{◌≡◌, ap}
use mathlib.Core.List.{List}
use Prim.Native.Nat.{ℕ}
use lib.ListN.{length, replicate}
use Rattle.blockcheck.specs.Blocks.{Verdict, Sized, cut_at, unknown_at, astray_at, accepted}
use Rattle.blockcheck.specs.Passes.{finished, Divided, Whole, Sought, Concluded}
use Rattle.blockcheck.specs.Passes as passes
use Rattle.std.specs.Prelude.{None, Some, Ok, Err}
use Rattle.blockcheck.specs.declared.Refusal.{Refusal}
use Rattle.blockcheck.proofs.Cuts.{cut_unique}
use Rattle.blockcheck.proofs.Levels.{coded_long}

-- there are as many marks as bytes
pub divided_long : {code marks : List ℕ} {verdict : Verdict} → Divided code verdict marks → length marks ≡ length code
divided_long (passes.whole cut coded) = coded_long coded
divided_long (passes.cut_at reached long some prefix) = long
divided_long (passes.unknown_at reached long begins prefix) = long

-- as many marks, none of them left
zeros : {n m : ℕ} → n ≡ m → ◌≡◌ {A = List ℕ} (replicate n 0) (replicate m 0)
zeros same = ap (λ (n : ℕ). replicate n 0) same

-- cutting fails
pub concluded_refused : {code marks : List ℕ} {r : Refusal} → Sized code → Divided code (Err r) marks
    → Concluded code (Err r) (finished (Err r) marks)
unfolding Concluded
concluded_refused sized (passes.cut_at reached long some prefix) other same =
    rw (zeros long) (cut_at sized same reached some prefix)
concluded_refused sized (passes.unknown_at reached long begins prefix) other same =
    rw (zeros long) (unknown_at sized same reached begins prefix)

-- a displacement goes astray
pub concluded_astray : {code marks : List ℕ} {count i : ℕ} → Sized code → Divided code (Ok count) marks → Sought code (Some i)
    → Concluded code (Err (Refusal.Astray i)) (finished (Err (Refusal.Astray i)) marks)
unfolding Concluded
concluded_astray sized divided (passes.astray_at cut astray) other same = rw (zeros (divided_long divided)) (astray_at sized same cut astray)

-- all is good
pub concluded_good : {code marks : List ℕ} {count : ℕ} → Sized code → Divided code (Ok count) marks → Sought code None
    → Concluded code (Ok count) (finished (Ok count) marks)
unfolding Concluded
concluded_good sized (passes.whole whole coded) (passes.all_good cut good) other same =
    rw (coded.level, cut_unique whole cut) (accepted sized same cut good)
