use Rattle.std.proofs.Common.{List, ℕ, sym, subst}
use Rattle.bpf_asm.specs.Comments.{Blanks}
use Rattle.bpf_asm.proofs.BlankedTexts.{text_blanks, blanks_text}
use Rattle.bpf_asm.proofs.laws.comments_are_blanked.Goals as goal

pub returns : goal.returns
returns c = λ text shown. (blanks_text text shown, λ e. let P : List ℕ → Type 0 = λ s. Blanks text s in subst P (sym e) (text_blanks text))
