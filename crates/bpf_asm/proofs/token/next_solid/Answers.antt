use Rattle.std.proofs.Common.{◌∙◌, ◌≡◌, true, ap, sym, arith}
use Rattle.std.specs.List.{before_first}
use Rattle.bpf_asm.specs.Blanked.{is_line_feed}
use Rattle.bpf_asm.specs.Tokens.{is_text_blank, lexemes}
use Rattle.bpf_asm.specs.Views.{bytes_in}
use Rattle.bpf_asm.proofs.Lexemes.{line_more, blank_more}
use Rattle.bpf_asm.proofs.token.next_solid.Goals as goal

pub returns-then-not-is_blank-clause-found : goal.returns-then-not-is_blank-clause-found
returns-then-not-is_blank-clause-found c =
    sym c.blanks.invariant.same ∙ (ap (λ bs. lexemes (before_first is_line_feed bs)) c.in-Some.ensures.first ∙ ap lexemes
    (line_more c.in-Some.byte (bytes_in c.in-Some.after) c.if-byte-eq10.false))

pub blanks-preserved : goal.blanks-preserved
blanks-preserved c =
    let blank : is_text_blank c.in-Some.byte ≡ true = sym c.is_blank.ensures ∙ c.if-not-is_blank.false in
    record {
      same = sym (ap (λ bs. lexemes (before_first is_line_feed bs)) c.in-Some.ensures.first ∙ blank_more c.in-Some.byte
          (bytes_in c.in-Some.after) c.if-byte-eq10.false blank) ∙ c.blanks.invariant.same;
      shorter = omega (arith, c.in-Some.ensures.shorter, c.blanks.invariant.shorter);
    }
