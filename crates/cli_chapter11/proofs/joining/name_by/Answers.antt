use Rattle.std.proofs.Common.{ℕ, ◌∙◌, ap, sym, ◌∷◌, [], List}
use Rattle.rec_words.specs.SetupFile.{ChannelSetupData}
use Rattle.cli_chapter11.proofs.JoinedRecordings.{name_found, name_missing}
use Rattle.cli_chapter11.proofs.joining.name_by.Goals as goal

pub returns-then-said-channel : goal.returns-then-said-channel
returns-then-said-channel c =
    let named : List ℕ → ChannelSetupData = λ name. record { id = c.args.channel.now.id; name = name; net = c.said-item.result.net } in
    name_found c.args.recording.now c.args.channel.now c.as_slice-said-items.result.now c.said.said-index
    c.said-item.result c.as_slice-said-items.ensures.value c.said-test.true
    c.said-item.is c.if-said-channel.true c.said.invariant
    ∙ ap (λ name. named name ∷ []) (sym c.as_str.ensures.value)

pub returns : goal.returns
returns c =
    name_missing c.args.recording.now c.args.channel.now c.as_slice-said-items.result.now c.said.said-index
    c.as_slice-said-items.ensures.value c.said-test.false c.said.invariant
