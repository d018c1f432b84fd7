use Rattle.std.proofs.Common.{sym, ◌∙◌, arith}
use Rattle.cli_streams.proofs.DigitWords.{read_is_said, unread_is_great}
use Rattle.cli_streams.proofs.channel_word.channel_in.Goals as goal

pub returns-in-Ok : goal.returns-in-Ok
returns-in-Ok c =
    read_is_said 16 c.args.word.now c.in-Ok.channel (sym c.if-starts_with.false ∙ c.starts_with.ensures.byte (omega arith) (omega arith) (λ w o finds. finds))
    c.in-Ok.ensures.value.0

pub returns-in-Err : goal.returns-in-Err
returns-in-Err c = unread_is_great 16 c.args.word.now c.in-Err.field-0 c.in-Err.ensures.value.0
