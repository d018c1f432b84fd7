-- The instructions of a program's record.
use Rattle.std.proofs.Common.{◌≡◌, ℕ, ◌+◌, ◌*◌, ◌<◌, List, [], ◌∷◌, ◌++◌, length, get_or, take, refl, sym, ap, ◌∙◌, arith}
use Rattle.std.specs.List.{flat_map}
use Rattle.std.proofs.lemmas.List.{length-append, take_more, flat_map_more}
use Rattle.bpf_insn.specs.declared.insn.Insn.{Insn}
use Rattle.bpf_insn.specs.Bytes.{insn_bytes}

-- each takes 8 bytes
pub length-insns : (insns : List Insn) → length (flat_map insn_bytes insns) ≡ 8 * length insns
length-insns [] = refl
length-insns (i ∷ is) = omega (arith, length-append (insn_bytes i) (flat_map insn_bytes is), length-insns is)

-- the next one is added
pub insns_more : (head body bytes new : List ℕ) (insns : List Insn) (at : ℕ) (d : Insn) → at < length insns → body ≡ head ++ flat_map insn_bytes (take at insns)
    → bytes ≡ insn_bytes (get_or insns at d) → new ≡ body ++ bytes → new ≡ head ++ flat_map insn_bytes (take (at + 1) insns)
insns_more head body bytes new insns at d lt so_far next added =
    added ∙ ap (λ l. l ++ bytes) so_far ∙ ap (λ l. (head ++ flat_map insn_bytes (take at insns)) ++ l) next
    ∙ flat_map_more insn_bytes head (take at insns) (get_or insns at d)
    ∙ ap (λ l. head ++ flat_map insn_bytes l) (sym (take_more insns at d lt))
