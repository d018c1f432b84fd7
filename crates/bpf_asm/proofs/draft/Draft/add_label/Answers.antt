use Rattle.std.proofs.Common.{rules, arith, ◌≡◌, sym, ◌∙◌, None}
use Rattle.bpf_asm.specs.Drafts.{index_in}
use Rattle.bpf_asm.proofs.LabelTables.{draft_label, draft_twice, is_there, is_absent}
use Rattle.bpf_asm.proofs.draft.Draft.add_label.Goals as goal

pub returns-then-is_some-clause-added : goal.returns-then-is_some-clause-added
returns-then-is_some-clause-added c = λ shapes names at h.
    let found = is_there c.in_ok-earlier.earlier (sym c.is_some.ensures ∙ c.if-is_some.true) in
    let twice = draft_twice shapes names c.args.name.now found.0 c.args.self.now h (sym c.in_ok-earlier.ensures.earlier ∙ found.1) in
    search rules

pub returns-clause-added : goal.returns-clause-added
returns-clause-added c = λ shapes names at h.
    let none : index_in c.args.self.now.labels c.args.name.now ≡ None =
    sym c.in_ok-earlier.ensures.earlier ∙ is_absent c.in_ok-earlier.earlier (sym c.is_some.ensures ∙ c.if-is_some.false) in
    let added = draft_label shapes names c.args.name.now c.args.line _ c.args.self.now c.define.new.self at (omega (arith, c.len.ensures)) h none
    c.in_ok-earlier.ensures.set in
    search rules
