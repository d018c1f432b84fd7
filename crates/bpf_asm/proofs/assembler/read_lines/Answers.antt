use Rattle.std.proofs.Common.{◌≡◌, List, ℕ, [], ◌∷◌, ◌++◌, refl, sym, ◌∙◌, ap, subst, append_assoc, length-append, arith}
use Rattle.std.proofs.lemmas.Result.{err_from_is_err_and}
use Rattle.bpf_asm.specs.Blanked.{without_comments, lines_of}
use Rattle.bpf_asm.specs.Denotes.{HaveShapes}
use Rattle.bpf_asm.specs.Views.{bytes_in, line_in, lines_in}
use Rattle.bpf_asm.proofs.LineEnds.{later_lines, lines_split}
use Rattle.bpf_asm.proofs.ShapeLists.{one_more_shape}
use Rattle.bpf_asm.proofs.Assembling.{well_so_far, next_number, line_breaks}
use Rattle.bpf_asm.proofs.assembler.read_lines.Goals as goal

pub lines-init : goal.lines-init
lines-init c = record { before = []; whole = refl; number = omega arith; bytes = omega arith; shapes = []; shaped = tt; drafted = c.new-draft.ensures }

pub returns-in_err-add_line-clause-lines : goal.returns-in_err-add_line-clause-lines
returns-in_err-add_line-clause-lines c =
    let i = c.lines.invariant in
    let rest = bytes_in c.lines.rest in
    let whole : lines_of (without_comments c.args.text.now) ≡ i.before ++ line_in c.lines.rest ∷ later_lines rest =
    ap lines_of (sym c.of-rest.ensures) ∙ (i.whole ∙ ap (λ ls. i.before ++ ls) (lines_split rest)) in
    let p = err_from_is_err_and c.from_residual.result c.from_residual.ensures.1 in
    rw (p.1, p.2) (line_breaks (lines_of (without_comments c.args.text.now)) i.before (line_in c.lines.rest)
    (later_lines rest) i.shapes c.lines.draft c.lines.line c.in_err-add_line.field-0.0 whole i.number i.shaped i.drafted
    (c.in_err-add_line.ensures.added i.shapes (next_number i.before i.shapes c.lines.line i.shaped i.number) i.drafted))

pub returns-in_err-add_line-clause-memory : goal.returns-in_err-add_line-clause-memory
returns-in_err-add_line-clause-memory c =
    let i = c.lines.invariant in
    let rest = bytes_in c.lines.rest in
    let whole : lines_of (without_comments c.args.text.now) ≡ i.before ++ line_in c.lines.rest ∷ later_lines rest =
    ap lines_of (sym c.of-rest.ensures) ∙ (i.whole ∙ ap (λ ls. i.before ++ ls) (lines_split rest)) in
    let p = err_from_is_err_and c.from_residual.result c.from_residual.ensures.1 in
    rw (p.1, p.2) (λ e. record {
      here = record {
        before = i.before;
        line = line_in c.lines.rest;
        after = later_lines rest;
        whole = whole;
        shapes = i.shapes;
        well = well_so_far i.before i.shapes c.lines.draft i.shaped i.drafted;
      };
      content = c.in_err-add_line.ensures.memory e;
    })

pub returns-in_default-clause-lines : goal.returns-in_default-clause-lines
returns-in_default-clause-lines c =
    let i = c.lines.invariant in
    let line = line_in c.lines.rest in
    let next = c.in_ok-add_line.ensures.added i.shapes (next_number i.before i.shapes c.lines.line i.shaped i.number) i.drafted in
    let whole : lines_of (without_comments c.args.text.now) ≡ i.before ++ line ∷ [] =
    ap lines_of (sym c.of-rest.ensures) ∙ (i.whole ∙ ap (λ ls. i.before ++ ls) c.in_default.ensures.lines) in
    let P : List (List ℕ) → Type 0 = λ ls. HaveShapes ls (i.shapes ++ next.0 ∷ []) in
    (i.shapes ++ next.0 ∷ [], subst P (sym whole) (one_more_shape i.before i.shapes line next.0 i.shaped next.1), next.2)

pub lines-preserved : goal.lines-preserved
lines-preserved c =
    let i = c.lines.invariant in
    let line = line_in c.lines.rest in
    let next = c.in_ok-add_line.ensures.added i.shapes (next_number i.before i.shapes c.lines.line i.shaped i.number) i.drafted in
    record {
      before = i.before ++ line ∷ [];
      whole = i.whole ∙ (ap (λ ls. i.before ++ ls) c.in-Some.ensures.lines ∙ sym (append_assoc i.before (line ∷ []) (lines_in c.in-Some.after)));
      number = omega (arith, i.number, length-append i.before (line ∷ []));
      bytes = omega (arith, i.bytes, c.in-Some.ensures.shorter);
      shapes = i.shapes ++ next.0 ∷ [];
      shaped = one_more_shape i.before i.shapes line next.0 i.shaped next.1;
      drafted = next.2;
    }
