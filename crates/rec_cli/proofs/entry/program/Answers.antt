use Rattle.std.proofs.Common.{◌≡◌, ◌<◌, length, map, string_bytes, sym, ◌∙◌, arith, rules, Result, Ok, Err}
use Rattle.std.specs.Prelude.{OnOk}
use Rattle.cli_streams.specs.declared.ending.CommandEnding.{CommandEnding}
use Rattle.rec_cli.specs.Answered.{AnswersWords}
use Rattle.rec_cli.proofs.entry.program.Goals.{then-is_empty, else-is_empty}
use Rattle.rec_cli.proofs.entry.program.Goals as goal

at_ok : (result : Result (Unit {0}) CommandEnding) (done : Unit {0}) (Answers : Result (Unit {0}) CommandEnding → Type 0)
    → result ≡ Ok done → OnOk result (Answers result) → Answers (Ok tt)
at_ok (Ok it) done Answers is answers = answers
at_ok (Err ending) done Answers is answers = absurd (cc)

pub returns-in-Ok-clause-asked : goal.returns-in-Ok-clause-asked
returns-in-Ok-clause-asked g c = λ some answered.
    elim c.if-is_empty.branch [
      | then-is_empty w ↦ let empty : length c.args.words.now ≡ 0 = search rules in absurd (omega (arith, empty, some))
      | else-is_empty w ↦ rw w.output-is (at_ok w.obey-answer.result c.in-Ok.field-0
          (λ result. AnswersWords (map string_bytes c.args.words.now) (g.I.Read.remaining c.args.input) (g.O.Write.contents c.args.output.now)
          (g.O.Write.contents w.obey-answer.new.output) result)
          (sym w.answer-is ∙ c.in-Ok.is) w.obey-answer.ensures)
    ]
