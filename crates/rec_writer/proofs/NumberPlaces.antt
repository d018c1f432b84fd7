-- Where a channel ID stands among the numbers.
use Rattle.std.proofs.Common.{ℕ, ◌≡◌, ◌≢◌, ◌<◌, ◌≤◌, List, length, get_or, sym, ◌∙◌, ap, arith}
use Rattle.std.specs.Prelude.{unwrap_or, Contains}
use Rattle.std.proofs.lemmas.Option.{slice_get-get_or}
use Rattle.std.proofs.Math.ListN.{get_or-map}
use Rattle.rec_writer.specs.declared.numbers.Numbered.{Numbered}
use Rattle.rec_writer.specs.Numbers.{numbered_channels}

-- which value stands in for one past the end makes no difference within
pub other_default : {X : Type 0} (xs : List X) (k : ℕ) (d e : X) → k < length xs → get_or xs k d ≡ get_or xs k e
other_default xs k d e within = ap (λ o. unwrap_or o d) (sym (slice_get-get_or xs k d within) ∙ slice_get-get_or xs k e within)

pub channel_at : (numbers : List Numbered) (at : ℕ) → get_or (numbered_channels numbers) at 0 ≡ (get_or numbers at (record { channel = 0; next = 0 })).channel
channel_at numbers at = get_or-map (λ (n : Numbered). n.channel) numbers at (record { channel = 0; next = 0 })

pub not_contained : (channels : List ℕ) (channel at : ℕ) → length channels ≤ at → ((j : ℕ) → j < at → get_or channels j 0 ≢ channel)
    → ¬ Contains channels channel
not_contained channels channel at past none found = none found.0 (let e = found.1 in
    omega (arith, e, past)) (other_default channels found.0 0 channel found.1 ∙ found.2)
