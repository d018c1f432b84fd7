use Rattle.std.specs.Prelude.{string_bytes}
use Rattle.std.proofs.lemmas.Result.{on_ok_weaker}
use Rattle.cli_filters.proofs.AnswerLines.{lines_answered}
use Rattle.cli_filters.proofs.no_words.answer_lines.Goals as goal

pub returns : goal.returns
returns g c =
    on_ok_weaker c.print_outcome.result
    (lines_answered (g.I.Read.remaining c.args.input.now) (g.O.Write.contents c.args.output.now) (g.O.Write.contents c.print_outcome.new.output)
    (string_bytes c.in_ok-text.text) c.cut_line.result.0.now c.cut_line.result.1.now c.cut_line-2.result.0.now
    c.in_ok-outcome.outcome.steps c.in_ok-outcome.outcome.value
    c.in_ok-text.ensures (rw c.as_str.ensures.value at c.cut_line.ensures.line) (rw c.as_str.ensures.value at c.cut_line.ensures.rest) c.cut_line-2.ensures.line
    c.in_ok-outcome.ensures)
    c.print_outcome.ensures
