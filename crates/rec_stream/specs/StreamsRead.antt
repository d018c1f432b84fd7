-- What a reader finds in a stream.
use Rattle.std.specs.Prelude.{◌≡◌, Bool, true, false, if◌then◌else◌, List, [], ◌∷◌, None, Some}
use Rattle.std.specs.List.{flat_map}
use Rattle.ch11_clock.specs.declared.civil.CivilTime.{CivilTime}
use Rattle.ch11_merge.specs.Kept.{Held}
use Rattle.ch11_merge.specs.Kept.Held.{HeldFrame, HeldRecord}
use Rattle.ch11_file.specs.declared.setup.FileSetup.{FileSetup}
use Rattle.ch11_file.specs.FileBlocks.{BlockContent}
use Rattle.ch11_file.specs.FileBlocks.BlockContent.{SetupBlock, TimeBlock, PieceBlock, NodeBlock}
use Rattle.ch11_file.specs.FileBlocks.BlockContent.{RootBlock}
use Rattle.ch11_file.specs.WholeFile.{setup_text}

-- a setup record has this text, of some date
abbrev pub HasSetupText : FileSetup → BlockContent → Type 0
HasSetupText setup (SetupBlock text) = (time : CivilTime) × (text ≡ setup_text setup time)
HasSetupText setup (TimeBlock is_external time) = Unit {0}
HasSetupText setup (PieceBlock channel piece) = Unit {0}
HasSetupText setup (NodeBlock entries) = Unit {0}
HasSetupText setup (RootBlock nodes last) = Unit {0}

-- whether it has a counter: a frame, a program, or an end that was offered a frame
abbrev pub has_counter : Held → Bool
has_counter (HeldFrame frame) = true
has_counter (HeldRecord (Some counter) body) = true
has_counter (HeldRecord None body) = false

abbrev pub if_counted : Held → List Held
if_counted held = if has_counter held then held ∷ [] else []

abbrev pub if_uncounted : Held → List Held
if_uncounted held = if has_counter held then [] else held ∷ []

-- those that have a counter, in order, and those that have none
abbrev pub with_counters : List Held → List Held
with_counters held = flat_map if_counted held

abbrev pub without_counters : List Held → List Held
without_counters held = flat_map if_uncounted held
