-- `grammar::reader::own_bytes` meets its contract, at any place and for any length.
-- Assumes nothing.
use mathlib.Core.Path.{◌≡◌, ap, ◌∙◌}
use Prim.Native.Nat.{ℕ, ◌-◌}
use native.Mathlib.Omega.{arith}
use lib.ListN.{length, take, drop, length-drop}
use lib.Seq.{take_all}
use Rattle.std.proofs.lemmas.List.{take_min, drop_min}
use Rattle.grammar.specs.Answers.{own_bytes}
use Rattle.grammar.proofs.reader.own_bytes.Goals as goal

pub returns : goal.returns
unfolding own_bytes
returns c =
    let a = c.args in
    let rest = take (length a.code.now - c.min.result) (drop c.min.result a.code.now) in
    let all : rest ≡ drop a.at a.code.now =
    take_all (length a.code.now - c.min.result) (drop c.min.result a.code.now) (omega (arith, length-drop c.min.result a.code.now))
    ∙ ap (λ (k : ℕ). drop k a.code.now) c.min.ensures ∙ drop_min a.at a.code.now in
    ap (λ (k : ℕ). take k rest) c.min-2.ensures ∙ take_min a.d.length rest ∙ ap (take a.d.length) all
