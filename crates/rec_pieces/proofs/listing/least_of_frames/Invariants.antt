use Rattle.std.proofs.Common.{◌≡◌, ◌<◌, ◌^◌, map}
use Rattle.std.specs.Prelude.{IfSome}
use Rattle.rec_pieces.specs.Listings.{frame_counter, lesser, least_of}
use Rattle.rec_pieces.proofs.listing.least_of_frames.Given as goal

-- the least of the frames so far and of those that are left
abbrev pub invariant-frames : goal.invariant-frames
invariant-frames l = record {
  is : lesser l.least (least_of (map frame_counter l.frame-iterator)) ≡ least_of (map frame_counter l.initial.frame-iterator);
  fits : IfSome l.least (λ counter. counter < 2 ^ 48);
}
