use Rattle.std.proofs.Common.{◌≡◌, true, refl, ◌∙◌, ap, subst, map}
use Rattle.std.specs.Prelude.{string_bytes}
use Rattle.clap.specs.Faults.{is_simple_and_free}
use Rattle.clap.specs.Words.{HasKind, fault_of, is_simple, subcommand_of, takes}
use Rattle.clap.proofs.OnLiterals.{clap_on_literals}
use Rattle.rec_words.specs.Commands.{AsksFor, bpfrec_app}
use Rattle.rec_words.proofs.words.words_of.Goals as goal

simple : is_simple bpfrec_app ≡ true
unfolding clap_on_literals
simple = refl

free : is_simple_and_free bpfrec_app ≡ true
unfolding clap_on_literals
free = refl

pub returns-in-Ok-clause-asked : goal.returns-in-Ok-clause-asked
returns-in-Ok-clause-asked c =
    let app = c.in_ok-command.ensures.app in
    let rows = (c.in-Ok.ensures.matches (ap is_simple app ∙ simple)).1 in
    subst (λ a. AsksFor (subcommand_of a (map string_bytes c.args.words.now)) c.command_in.result) app
    (subst (λ o. AsksFor o c.command_in.result) rows c.command_in.ensures)

pub returns-in-Err-clause-takes : goal.returns-in-Err-clause-takes
returns-in-Err-clause-takes c = λ taken. c.fault_from.ensures.memory
    (c.in-Err.ensures.passes (ap (λ a. takes a (map string_bytes c.args.words.now)) c.in_ok-command.ensures.app ∙ taken))

pub returns-in-Err-clause-kinds : goal.returns-in-Err-clause-kinds
returns-in-Err-clause-kinds c =
    let app = c.in_ok-command.ensures.app in
    let words = map string_bytes c.args.words.now in
    let kinds = c.in-Err.ensures.kinds (ap is_simple_and_free app ∙ free) in
    c.fault_from.ensures.kinds (fault_of bpfrec_app words) (subst (λ a. HasKind (fault_of a words) c.in-Err.error) app kinds)
