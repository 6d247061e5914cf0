-- `blockcheck::marks::level` meets its contract: the marks so far are levelled. Assumes nothing.
use Rattle.std.proofs.Common.{◌<◌, length, get_or, arith}
use Rattle.std.proofs.lemmas.List.Edits.{map_over_more}
use Rattle.std.proofs.lemmas.List.{get_or_default}
use Rattle.blockcheck.specs.Passes.{level_of}
use Rattle.blockcheck.proofs.marks.level.Goals as goal

pub loop-mark-preserved : goal.loop-mark-preserved
loop-mark-preserved c =
    let i = c.loop-mark.mark-index in
    let ys = c.loop-mark.marks in
    let x = get_or ys i 0 in
    let within : i < length ys = omega arith in
    let inside : i < length c.args.marks.now = omega arith in
    rw c.level_of.ensures (map_over_more level_of c.args.marks.now ys i x inside c.loop-mark.invariant (get_or_default ys i 0 x within))
