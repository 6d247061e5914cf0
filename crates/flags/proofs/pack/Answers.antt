-- `flags::pack` meets its contract. Assumes nothing.
use native.Mathlib.Omega.{arith}
use Rattle.width.proofs.Truths.{truth}
use Rattle.flags.specs.Word.{word_of}
use Rattle.flags.proofs.pack.Goals as goal

pub returns : goal.returns
unfolding word_of
returns c =
    let f = c.args.f in
    omega (arith, truth f.cf, truth f.pf, truth f.af, truth f.zf, truth f.sf, truth f.df, truth f.of)
