-- `vector_text::areas::begins` meets its contract: each byte of the area is the string's. Assumes nothing.
use Rattle.std.proofs.Common.{rules, tests}
use Rattle.std.proofs.lemmas.Iterator.{YieldsList-from_slice}
use Rattle.std.proofs.lemmas.Iterator.Consumers.{YieldsList-at, YieldsList-from_enumerate}
use Rattle.std.proofs.lemmas.Iterator.Search.{all_from_yields_List}
use Rattle.vector_text.specs.Hex.{bytes_of}
use Rattle.vector_text.proofs.Bytes.{is_there, all_there}
use Rattle.vector_text.proofs.areas.begins.Goals as goal

pub returns : goal.returns
returns c =
    let bytes = bytes_of c.args.text.now in
    rw (← all_there c.args.area.now bytes 0)
    (all_from_yields_List (is_there bytes) _ _ _ c.all.ensures.ran (YieldsList-from_enumerate (YieldsList-at c.enumerate.ensures.source (YieldsList-from_slice c.args.area.now cc)) c.enumerate.ensures.count) (λ x b q k. search (rules, tests)))
