-- Instructions read piece by piece.
use Rattle.std.proofs.Common.{ℕ, ◌≡◌, ◌<◌, length, List, [], ◌∷◌, ◌++◌, Result, Ok, Err, refl, sym, ◌∙◌, ap, append_assoc}
use Rattle.bpf_insn.specs.declared.insn.Insn.{Insn}
use Rattle.bpf_insn.specs.declared.parse.ListingFault.{ListingFault}
use Rattle.bpf_insn.specs.Listing.{count_of, insn_of, insns_of, ReadsAnInsn, ◌>>=◌}
use Rattle.bpf_insn.specs.Parts.{Part}

-- instructions, with those before them
abbrev pub after : List Insn → Result (List Insn) ListingFault → Result (List Insn) ListingFault
after before (Ok insns) = Ok (before ++ insns)
after before (Err fault) = Err fault

one_more : (before : List Insn) (insn : Insn) (r : Result (List Insn) ListingFault)
    → after (before ++ insn ∷ []) r ≡ after before (r >>= λ insns. Ok (insn ∷ insns))
one_more before insn (Ok insns) = ap Ok (append_assoc before (insn ∷ []) insns)
one_more before insn (Err fault) = refl

-- a piece that reads as an instruction, and the pieces after it
pub after_piece : (before : List Insn) (piece : Part) (pieces : List Part) (insn : Insn) → insn_of piece ≡ Ok insn
    → after (before ++ insn ∷ []) (insns_of pieces) ≡ after before (insns_of (piece ∷ pieces))
after_piece before piece pieces insn e = one_more before insn (insns_of pieces)
    ∙ sym (ap (λ r. after before (r >>= λ insn. (insns_of pieces >>= λ insns. Ok (insn ∷ insns)))) e)

parts : (r : Result Insn ListingFault) (rs : Result (List Insn) ListingFault) (insns : List Insn)
    → (r >>= λ insn. (rs >>= λ insns. Ok (insn ∷ insns))) ≡ Ok insns
    → (insn : Insn) × (rest : List Insn) × (r ≡ Ok insn) × (rs ≡ Ok rest) × (insn ∷ rest ≡ insns)
parts (Ok insn) (Ok rest) insns e = (insn, rest, refl, refl, (let same : insn ∷ rest ≡ insns = cc in same))
parts (Ok insn) (Err fault) insns e = cc
parts (Err fault) rs insns e = cc

-- one more piece that is read
pub done_more : (done : List Part) (piece : Part) (insns : List Insn) (insn : Insn) → insns_of done ≡ Ok insns → insn_of piece ≡ Ok insn
    → insns_of (done ++ piece ∷ []) ≡ Ok (insns ++ insn ∷ [])
done_more [] piece insns insn so_far e =
    let none : [] ≡ insns = cc in
    rw e (ap (λ before. Ok (before ++ insn ∷ [])) none)
done_more (first ∷ done) piece insns insn so_far e =
    let two = parts (insn_of first) (insns_of done) insns so_far in
    let more = done_more done piece two.1 insn two.3 e in
    rw (two.2, more) (ap (λ before. Ok (before ++ insn ∷ [])) two.4)

pub reads_an_insn : (first : Part) (done left : List Part) (count : ℕ) (insns : List Insn) → count_of first ≡ Ok count → insns_of done ≡ Ok insns
    → 0 < length done → ReadsAnInsn (first ∷ (done ++ left))
reads_an_insn first done left count insns counted is some = (rw counted refl, (done, left, refl, some, rw is refl))
