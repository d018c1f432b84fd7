use Rattle.std.proofs.Common.{◌∙◌, ◌≡◌, ◌+◌, ◌∷◌, take, ap}
use Rattle.bpf_asm.proofs.Lexemes.{first_lexeme, take_more}
use Rattle.bpf_asm.proofs.token.next_lexeme.Goals as goal

pub returns-clause-found : goal.returns-clause-found
returns-clause-found c =
    let first = c.in_ok-from.first in
    let after = c.in_ok-from.after in
    let n = c.joined_len-more.result in
    let spelling : take (1 + n) c.in_ok-from.from.now ≡ first ∷ take n after.bytes.now =
    ap (take (1 + n)) c.in_ok-from.ensures.bytes ∙ take_more n first after.bytes.now in
    rw (spelling, c.split_at.ensures.back) (c.in_ok-from.ensures.found
    ∙ first_lexeme first after.commented n after.bytes.now c.in_ok-from.ensures.solid c.in_ok-from.ensures.outside c.joined_len-more.ensures.value)
