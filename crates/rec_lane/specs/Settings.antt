-- What a lane is set to, as data.
use Rattle.std.specs.Prelude.{ℕ, None, Some}
use Rattle.rec_lane.specs.declared.spec.LaneSpec.{LaneSpec}
use Rattle.rec_lane.specs.Pieces.{LaneSettings}

-- settings without a span
abbrev pub settings_of : (channel net speed limit : ℕ) → LaneSettings
settings_of channel net speed limit =
    record { channel = channel; net = net; speed = speed; limit = limit; span = None }

-- and with one
abbrev pub with_span : LaneSettings → (span : ℕ) → LaneSettings
with_span settings span = record settings { span = Some span }

abbrev pub spec_data : LaneSpec → LaneSettings
spec_data spec =
    record (settings_of spec.channel spec.net spec.speed spec.limit) { span = spec.span }
