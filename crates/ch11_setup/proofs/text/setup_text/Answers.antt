use Rattle.std.proofs.Common.{string_bytes}
use Rattle.ch11_setup.specs.Lines.{comment_attribute}
use Rattle.ch11_setup.specs.Setups.{recording_attributes, source_attributes, given_attributes}
use Rattle.ch11_setup.proofs.SetupLines.{whole_text}
use Rattle.ch11_setup.proofs.text.setup_text.Goals as goal

pub returns : goal.returns
returns c =
    let setup = c.args.setup.now in
    whole_text (string_bytes c.new-text.result) (string_bytes c.push_recording.new.text) (string_bytes c.push_sources.new.text)
    (string_bytes c.push_attribute.new.text) (string_bytes c.push_given.new.text) (recording_attributes setup) (source_attributes setup)
    (given_attributes setup.attributes.now) comment_attribute c.new-text.ensures.bytes c.in_ok-push_recording.ensures c.in_ok-push_sources.ensures
    c.in_ok-push_attribute.ensures c.in_ok-push_given.ensures
