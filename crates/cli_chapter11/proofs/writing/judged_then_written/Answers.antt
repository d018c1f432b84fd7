use Rattle.std.proofs.Common.{Option, List, ℕ, None, sym, subst, ◌≡◌, ◌∙◌, arith, ap}
use Rattle.std.proofs.lemmas.Bool.Decides.{nat_tests}
use Rattle.std.specs.Io.Buffered.{writer_contents}
use Rattle.rec_whole.specs.declared.refusal.WholeRefusal.{WholeRefusal}
use Rattle.rec_whole.specs.declared.refusal.WholeEnd.{WholeEnd}
use Rattle.rec_whole.specs.declared.refusal.WholeEnd.TheVariants.{Refused as IsRefused}
use Rattle.cli_chapter11.proofs.SeenSame.{as_said, same_seen}
use Rattle.cli_chapter11.proofs.writing.judged_then_written.Goals as goal

pub returns-in-Err-Refused-clause-refused : goal.returns-in-Err-Refused-clause-refused
returns-in-Err-Refused-clause-refused g c = λ refusal is.
    let ended = subst (λ (end : WholeEnd). g.P.Passes.fails c.args.whole.now None None end) c.in-Err-Refused.field-0-is c.in-Err-Refused.ensures.wrote.1 in
    let same : c.in-Err-Refused.refusal ≡ refusal = cc in
    subst (λ (r : WholeRefusal). g.P.Passes.fails c.args.whole.now None None (IsRefused r)) same ended

pub returns-in-Ok-flush-clause-written : goal.returns-in-Ok-flush-clause-written
returns-in-Ok-flush-clause-written g c = (
  writer_contents g.O.File.Write.contents c.in-Ok-pass.written.1,
  subst (λ s. g.P.Passes.writes s (g.O.Uncreated.held c.args.out.now) (writer_contents g.O.File.Write.contents c.in-Ok-pass.written.1)
      c.in-Ok-pass.written.0.counts) c.pass.ensures.next
      (subst (λ (before : Option (List ℕ)). g.P.Passes.writes c.pass.new.self before (writer_contents g.O.File.Write.contents c.in-Ok-pass.written.1)
      c.in-Ok-pass.written.0.counts) c.in-Ok-create.ensures c.in-Ok-pass.ensures.wrote),
  c.flush.ensures.bytes,
)

pub returns-in-Ok-flush-clause-compared : goal.returns-in-Ok-flush-clause-compared
returns-in-Ok-flush-clause-compared g c = λ first second says also.
    let judged = c.in-Ok.seen in
    let written = c.in-Ok-pass.written.0 in
    let equal = sym c.ne.ensures ∙ c.if-ne.false in
    let saw : judged ≡ first = as_said (g.P.Passes.sees c.args.whole.now) judged first c.in-Ok.ensures.seen says in
    let wrote : written ≡ second = as_said (g.P.Passes.sees c.pass.new.self) written second c.in-Ok-pass.ensures.seen
    (ap g.P.Passes.sees c.pass.ensures.next ∙ also) in
    let same : written ≡ judged = same_seen written judged
    (grind (arith, nat_tests, equal)) (grind (arith, nat_tests, equal)) (grind (arith, nat_tests, equal))
    (grind (arith, nat_tests, equal)) (grind (arith, nat_tests, equal)) (grind (arith, nat_tests, equal)) in
    sym saw ∙ sym same ∙ wrote
