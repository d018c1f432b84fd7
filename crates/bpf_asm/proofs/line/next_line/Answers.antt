use Rattle.std.proofs.Common.{◌∙◌, ◌∷◌, ap, sym}
use Rattle.bpf_asm.specs.Views.{bytes_in, line_in}
use Rattle.bpf_asm.proofs.LineEnds.{later_lines, lines_split, at_line_feed}
use Rattle.bpf_asm.proofs.line.next_line.Goals as goal

pub returns-then-byte-eq10-clause-lines : goal.returns-then-byte-eq10-clause-lines
returns-then-byte-eq10-clause-lines c =
    let later =
    sym c.bytes.invariant.later ∙ (ap later_lines c.in-Some.ensures.first ∙ at_line_feed c.in-Some.byte (bytes_in c.in-Some.after) c.if-byte-eq10.true) in
    lines_split (bytes_in c.args.text) ∙ ap (λ ls. line_in c.args.text ∷ ls) later

pub returns-clause-lines : goal.returns-clause-lines
returns-clause-lines c =
    let later = sym c.bytes.invariant.later ∙ ap later_lines c.in_default.ensures.first in
    lines_split (bytes_in c.args.text) ∙ ap (λ ls. line_in c.args.text ∷ ls) later
