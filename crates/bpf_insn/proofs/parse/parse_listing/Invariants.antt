use Rattle.std.proofs.Common.{◌≡◌, ◌++◌, List, length, Ok}
use Rattle.bpf_insn.specs.Parts.{Part}
use Rattle.bpf_insn.specs.Listing.{insns_of}
use Rattle.bpf_insn.specs.Views.{pieces_in}
use Rattle.bpf_insn.proofs.Listings.{after}
use Rattle.bpf_insn.proofs.parse.parse_listing.Given as goal

-- what was read so far and what the rest reads as are what all pieces read as
abbrev pub invariant-pieces : goal.invariant-pieces
invariant-pieces l = record {
  whole : after l.program.items (insns_of (pieces_in l.rest)) ≡ insns_of (pieces_in l.initial.rest);
  done : (pieces : List Part) × (pieces ++ pieces_in l.rest ≡ pieces_in l.initial.rest) × (insns_of pieces ≡ Ok l.program.items);
}

abbrev pub decreases-pieces : goal.decreases-pieces
decreases-pieces l = length l.rest.bytes.now
