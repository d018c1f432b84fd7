-- The clock of a whole file by SETUP.
use Rattle.std.proofs.Common.{List, ◌≡◌, ◌∙◌, ap}
use Rattle.ch11_clock.specs.declared.origin.Origin.{Origin}
use Rattle.ch11_clock.specs.Clock.{started, held_origins}
use Rattle.rec_words.specs.declared.setup_file.RecordingSettings.{RecordingSettings}
use Rattle.cli_chapter11.specs.WholeFiles.{clock_said}

pub clock_of_setup : (recording : RecordingSettings) (clock origins : List Origin) → clock ≡ held_origins (started origins)
    → origins ≡ recording.origins.items → clock ≡ clock_said recording
clock_of_setup recording clock origins held is = held ∙ ap (λ l. held_origins (started l)) is
