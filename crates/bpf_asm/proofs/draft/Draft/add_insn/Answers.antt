use Rattle.std.proofs.Common.{◌≡◌, ◌+◌, vec_len, rules, refl, sym, ◌∙◌}
use Rattle.bpf_asm.proofs.LabelTables.{draft_insn, draft_full}
use Rattle.bpf_asm.proofs.draft.Draft.add_insn.Goals as goal

pub returns-then-len-eq-MAX_INSNS : goal.returns-then-len-eq-MAX_INSNS
returns-then-len-eq-MAX_INSNS c = record {
  added = λ shapes names at h.
      let full = draft_full shapes names c.args.self.now h (sym c.len.ensures ∙ c.if-len-eq-MAX_INSNS.true) in
      search rules;
}

pub returns : goal.returns
returns c = record {
  added = λ shapes names at h.
      let long : vec_len c.push.new.self ≡ vec_len c.args.self.now.insns + 1 = c.in_ok-push.ensures.len in
      draft_insn shapes names c.args.line (record { template = c.args.template; line = c.args.line }) c.args.self.now _ at refl
      (λ full. c.if-len-eq-MAX_INSNS.false (c.len.ensures ∙ full)) h c.in_ok-push.ensures.items long refl refl;
}
