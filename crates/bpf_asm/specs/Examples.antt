-- A worked example: the filter that accepts ARP frames, whose EtherType is 0x0806.
use Rattle.std.specs.Prelude.{ℕ, codes, List, [], ◌∷◌, ◌++◌}
use Rattle.bpf_insn.specs.declared.insn.Insn.{Insn}

-- four lines
abbrev pub arp_text : List ℕ
arp_text =
    codes "ldh [12]" ++ (10 ∷ (codes "jne #0x806, drop"
    ++ (10 ∷ (codes "ret #-1" ++ (10 ∷ codes "drop: ret #0")))))

-- four instructions
abbrev pub arp_program : List Insn
arp_program =
    record { code = 0x28; jt = 0; jf = 0; k = 12 } ∷
    record { code = 0x15; jt = 0; jf = 1; k = 2054 } ∷
    record { code = 0x06; jt = 0; jf = 0; k = 4294967295 } ∷
    record { code = 0x06; jt = 0; jf = 0; k = 0 } ∷ []
