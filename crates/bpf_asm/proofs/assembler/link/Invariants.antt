use Rattle.std.proofs.Common.{◌≡◌, List, take, vec_len}
use Rattle.bpf_asm.specs.Denotes.{Label, AreInsns}
use Rattle.bpf_asm.specs.Drafts.{IsTableOf, templates_in}
use Rattle.bpf_asm.proofs.assembler.link.Given as goal

-- the instructions so far are those of the table
abbrev pub invariant-insns : goal.invariant-insns
invariant-insns l = record {
  count : vec_len l.program ≡ l.unlinked-index;
  linked : (labels : List Label) → IsTableOf labels l.draft.labels → AreInsns labels 0
      (templates_in (take l.unlinked-index l.draft.insns.items)) l.program.items;
}
