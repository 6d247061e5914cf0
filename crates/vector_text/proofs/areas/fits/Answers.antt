-- `vector_text::areas::fits` meets its contract: two digits a byte. Assumes nothing.
use Rattle.vector_text.proofs.Bytes.{bytes_length}
use Rattle.vector_text.proofs.areas.fits.Goals as goal

pub returns : goal.returns
returns c = rw bytes_length
