-- `listing_text::write_list` meets its contract: the text ends inside the buffer. Assumes nothing.
use mathlib.Core.Path.{sym}
use Prim.Native.Nat.{zero-le}
use lib.Seq.{length-take-le}
use Rattle.text.proofs.Writing.{wrote_end}
use Rattle.listing_text.proofs.write_list.Goals as goal

pub slice_bounds-write_all-end : goal.slice_bounds-write_all-end
slice_bounds-write_all-end g c = wrote_end c.list-end.ensures.wrote zero-le

pub slice_bounds-write_all-end-2 : goal.slice_bounds-write_all-end-2
slice_bounds-write_all-end-2 g c = sym (length-take-le _ _ (wrote_end c.list-end.ensures.wrote zero-le))
