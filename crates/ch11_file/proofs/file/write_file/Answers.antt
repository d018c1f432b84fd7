use Rattle.std.proofs.Common.{refl, sym, subst, ◌∙◌}
use Rattle.std.proofs.lemmas.Result.{err_from_is_err_and}
use Rattle.ch11_file.specs.WholeFile.{facts_of}
use Rattle.ch11_file.specs.FileEnds.{HoldsFile}
use Rattle.ch11_file.proofs.FileFronts.{first_is, front_start, start_sent}
use Rattle.ch11_file.proofs.file.write_file.Goals as goal

pub returns : goal.returns
returns g c = λ left said.
    let facts = facts_of c.args.setup.now c.args.clock.now c.args.least c.args.most left in
    let held = g.W.Write.contents c.args.out.now in
    let is = sym c.next.ensures ∙ c.in-Some.is in
    let first = first_is c.args.least c.args.clock.now c.new-times.result.next c.in-Some.first is c.new-times.ensures.first in
    let front = c.in_ok-put_front.ensures.put facts held left refl c.new-times.ensures.walks
    (start_sent facts held c.in-Ok.sent c.in-Some.first c.in-Ok.ensures first) in
    subst (HoldsFile facts held (g.W.Write.contents c.put_rest.new.out)) (sym c.counts.ensures)
    (c.in_ok-put_rest.ensures facts held refl (record { left = left; said = said; walks = front.1; has_sent = front.0 }))

pub returns-in-Err : goal.returns-in-Err
returns-in-Err g c = λ left said.
    let facts = facts_of c.args.setup.now c.args.clock.now c.args.least c.args.most left in
    let is = sym c.next.ensures ∙ c.in-Some.is in
    front_start facts (g.W.Write.contents c.args.out.now) c.in-Some.first
    (first_is c.args.least c.args.clock.now c.new-times.result.next c.in-Some.first is c.new-times.ensures.first)

pub returns-in_err-put_front : goal.returns-in_err-put_front
returns-in_err-put_front g c = λ left said.
    let p = err_from_is_err_and c.from_residual.result c.from_residual.ensures.1 in
    let facts = facts_of c.args.setup.now c.args.clock.now c.args.least c.args.most left in
    let held = g.W.Write.contents c.args.out.now in
    let is = sym c.next.ensures ∙ c.in-Some.is in
    let first = first_is c.args.least c.args.clock.now c.new-times.result.next c.in-Some.first is c.new-times.ensures.first in
    rw (p.1, p.2) (c.in_err-put_front.ensures.put facts held left refl c.new-times.ensures.walks
    (start_sent facts held c.in-Ok.sent c.in-Some.first c.in-Ok.ensures first))

pub returns-in_err-put_rest : goal.returns-in_err-put_rest
returns-in_err-put_rest g c = λ left said.
    let p = err_from_is_err_and c.from_residual-in_err-put_rest.result c.from_residual-in_err-put_rest.ensures.1 in
    let facts = facts_of c.args.setup.now c.args.clock.now c.args.least c.args.most left in
    let held = g.W.Write.contents c.args.out.now in
    let is = sym c.next.ensures ∙ c.in-Some.is in
    let first = first_is c.args.least c.args.clock.now c.new-times.result.next c.in-Some.first is c.new-times.ensures.first in
    let front = c.in_ok-put_front.ensures.put facts held left refl c.new-times.ensures.walks
    (start_sent facts held c.in-Ok.sent c.in-Some.first c.in-Ok.ensures first) in
    rw (p.1, p.2) (c.in_err-put_rest.ensures facts held refl (record { left = left; said = said; walks = front.1; has_sent = front.0 }))
