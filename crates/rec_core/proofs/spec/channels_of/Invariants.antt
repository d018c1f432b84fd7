use Rattle.std.proofs.Common.{◌≡◌, ◌≢◌, ℕ, take}
use Rattle.std.specs.Prelude.{All}
use Rattle.arrayvec.specs.ArrayVec.{array_vec_len}
use Rattle.rec_core.specs.Openings.{channels_of_specs}
use Rattle.rec_core.specs.Views.{specs_data}
use Rattle.rec_core.proofs.spec.channels_of.Given as goal

abbrev pub invariant-specs : goal.invariant-specs
invariant-specs l =
    (l.channels.items ≡ take l.k (channels_of_specs (specs_data l.specs)))
    × (array_vec_len l.channels ≡ l.k)
    × All (λ (channel : ℕ). channel ≢ 0) l.channels.items
