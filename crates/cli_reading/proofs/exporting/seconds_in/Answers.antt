use Rattle.std.proofs.Common.{sym, ◌∙◌, arith}
use Rattle.cli_streams.proofs.DigitWords.{read_is_said, unread_is_great, one_number}
use Rattle.cli_reading.proofs.exporting.seconds_in.Goals as goal

pub returns-in-Ok : goal.returns-in-Ok
returns-in-Ok c =
    let few = c.if-seconds-le-MAX_ORIGIN.true in (
      read_is_said 64 c.args.word.now c.in-Ok.seconds
          (sym c.if-starts_with.false ∙ c.starts_with.ensures.byte (omega arith) (omega arith) (λ w o finds. finds)) c.in-Ok.ensures.value.0,
      omega (arith, few),
    )

pub returns-in_default : goal.returns-in_default
returns-in_default c = λ number says.
    (let great = c.if-seconds-le-MAX_ORIGIN.false in
    let same = one_number c.args.word.now c.in-Ok.seconds number
    (read_is_said 64 c.args.word.now c.in-Ok.seconds (sym c.if-starts_with.false
    ∙ c.starts_with.ensures.byte (omega arith) (omega arith) (λ w o finds. finds)) c.in-Ok.ensures.value.0) says in
    omega (arith, great, same))

pub returns-in_default-2 : goal.returns-in_default-2
returns-in_default-2 c = λ number says.
    (let great = unread_is_great 64 c.args.word.now c.in_default.field-0 c.in_default.ensures.value.0 number says in
    omega (arith, great))
