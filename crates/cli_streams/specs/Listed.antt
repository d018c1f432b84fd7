-- What a text lists.
use Rattle.std.specs.Prelude.{ℕ, ◌≡◌, List, Ok}
use Rattle.bpf_insn.specs.declared.insn.Insn.{Insn}
use Rattle.bpf_insn.specs.Listing.{listing}
use Rattle.bpf_verify.specs.Validity.{Valid}

-- this listing lists the program, which is valid
abbrev pub Lists : List ℕ → List Insn → Type 0
Lists listing_text program = (listing listing_text ≡ Ok program) × Valid program
