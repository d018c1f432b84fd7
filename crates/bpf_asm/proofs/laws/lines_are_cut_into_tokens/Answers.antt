use Rattle.std.proofs.Common.{List, ℕ, subst}
use Rattle.bpf_asm.specs.Lexing.{Spells}
use Rattle.bpf_asm.proofs.Lexings.{spelled_is, line_spelled}
use Rattle.bpf_asm.proofs.laws.lines_are_cut_into_tokens.Goals as goal

pub returns : goal.returns
returns c = λ line spellings. (spelled_is line spellings, λ e. let P : List (List ℕ) → Type 0 = λ ls. Spells line ls in subst P e (line_spelled line))
