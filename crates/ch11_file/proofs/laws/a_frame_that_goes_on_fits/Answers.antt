use Rattle.ch11_file.proofs.OpenPieces.{single_fits, further_fits}
use Rattle.ch11_file.proofs.laws.a_frame_that_goes_on_fits.Goals as goal

pub returns : goal.returns
returns c = record { first = single_fits; further = further_fits }
