use Rattle.std.proofs.Common.{◌≡◌, ◌++◌, drop, string_bytes}
use Rattle.bpf_dis.specs.ProgramText.{lines_text, program_text}
use Rattle.bpf_dis.proofs.text.write_lines.Given as goal

-- what is written and the lines from here on are the whole text
abbrev pub invariant-lines : goal.invariant-lines
invariant-lines l = string_bytes l.text ++ lines_text l.program l.at (drop l.at l.program) ≡ program_text l.program
