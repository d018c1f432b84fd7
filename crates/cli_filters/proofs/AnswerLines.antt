-- From the two lines that were read to the input that was known.
use Rattle.std.proofs.Common.{ℕ, ◌≡◌, List, Option, None, Some, ◌∙◌, ap, subst}
use Rattle.std.specs.Prelude.{IfSome, ◌==◌}
use Rattle.std.specs.List.{before_first, after_first}
use Rattle.std.specs.Io.KnownBytes.{Appends}
use Rattle.cli_filters.specs.Lines.{AnswersLines, RunsOn, first_line, outcome_line, second_line, without_return}

pub lines_answered : (known before after : Option (List ℕ)) (text first rest second : List ℕ) (steps value : ℕ)
    → IfSome known (λ bytes. text ≡ bytes)
    → first ≡ without_return (before_first (λ b. b == 10) text) → rest ≡ after_first (λ b. b == 10) text
    → second ≡ without_return (before_first (λ b. b == 10) rest)
    → RunsOn first second steps value → Appends before after (outcome_line value steps)
    → IfSome known (λ bytes. AnswersLines bytes before after)
lines_answered None before after text first rest second steps value same first_is rest_is second_is runs wrote = tt
lines_answered (Some bytes) before after text first rest second steps value same first_is rest_is second_is runs wrote =
    let one : first ≡ first_line bytes = first_is ∙ ap first_line same in
    let two : second ≡ second_line bytes = second_is ∙ (ap (λ xs. without_return (before_first (λ b. b == 10) xs)) rest_is ∙ ap second_line same) in
    (steps, value, subst (λ xs. RunsOn (first_line bytes) xs steps value) two (subst (λ xs. RunsOn xs second steps value) one runs), wrote)
