-- The laws of a source that closes what it reads from, proved: nothing is left once it has ended,
-- and it ends by a failure only once the device has failed.
use Rattle.std.specs.Prelude.{ℕ, ◌≡◌, ◌<◌, ◌+◌, nat_lt, Bool, true, false, length, Option, None}
use Rattle.std.specs.Prelude.{Some, IfSome, refl}
use Rattle.std.specs.Option.{option_map}
use Rattle.std.proofs.Common.{sym, ap, subst}
use Rattle.std.proofs.lemmas.Bool.{cond_both, false≢true}
use Rattle.eth_frame.specs.Source.{Left, no_frames}
use Rattle.eth_frame.specs.declared.source.SourceFault.{SourceFault}
use Rattle.eth_frame.specs.declared.source.SourceFault.TheVariants.{Device}
use Rattle.eth_frame.specs.declared.source.SourceEnding.{SourceEnding}
use Rattle.eth_frame.specs.declared.source.SourceEnding.TheVariants.{End, Fault}
use Rattle.cli_record_streams.specs.declared.closing.Held.{Held}
use Rattle.cli_record_streams.specs.declared.closing.Held.TheVariants.{Open, Closed}
use Rattle.cli_record_streams.specs.Closing.{at_most, closed_as, left_of, failures_of, ending_of}

pub left_once_closed : {S : Type 0} (left : S → Option Left) (held : Held S) (last : SourceEnding)
    → ending_of held ≡ Some last → IfSome (left_of left held) (λ l. l ≡ no_frames last)
left_once_closed left (Open source further) last e = cc
left_once_closed left (Closed was ending) last e =
    subst (λ (o : Option SourceEnding). no_frames (closed_as o) ≡ no_frames last) (sym e) refl

abbrev is_device : SourceFault → Bool
is_device Device = true
is_device fault = false

abbrev is_failure : SourceEnding → Bool
is_failure End = false
is_failure (Fault fault) = is_device fault

-- an end is no failure
end_is_none : {P : Type 0} → End ≡ Fault Device → P
end_is_none e = absurd (false≢true (ap is_failure e))

-- the first frames of a source end by a failure only where all of them do
first_failed : (known : Option Left) (max failures : ℕ)
    → IfSome known (λ l. l.ending ≡ Fault Device → 0 < failures)
    → IfSome (option_map (at_most max) known) (λ l. l.ending ≡ Fault Device → 0 < failures)
first_failed None max failures h = tt
first_failed (Some l) max failures h =
    cond_both (nat_lt (length l.frames) max) l.ending End
    (λ (e : SourceEnding). e ≡ Fault Device → 0 < failures) (λ _. h) (λ _. end_is_none)

-- a source that is closed ended by a failure only where its device had failed
closed_failed : (ending : Option SourceEnding) (failures : ℕ)
    → (ending ≡ Some (Fault Device) → 0 < failures) → closed_as ending ≡ Fault Device → 0 < failures
closed_failed None failures known e = end_is_none e
closed_failed (Some ending) failures known e = known (ap Some e)

pub failed_once_closed : {S : Type 0} (left : S → Option Left) (failures : S → ℕ) (held : Held S)
    → (ending_of held ≡ Some (Fault Device) → 0 < failures_of failures held)
    → ((below : S) → IfSome (left below) (λ l. l.ending ≡ Fault Device → 0 < failures below))
    → IfSome (left_of left held) (λ l. l.ending ≡ Fault Device → 0 < failures_of failures held)
failed_once_closed left failures (Open source further) failed law =
    first_failed (left source) (further + 1) (failures source) (law source)
failed_once_closed left failures (Closed was ending) failed law =
    closed_failed ending (failures was.value) failed
