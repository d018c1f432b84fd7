use Rattle.std.proofs.Common.{string_bytes}
use Rattle.ch11_setup.specs.Lines.{index_attributes}
use Rattle.ch11_setup.proofs.SetupLines.{content_added}
use Rattle.ch11_setup.proofs.recording.push_content.Goals as goal

pub returns : goal.returns
returns c = content_added c.push_number.result (string_bytes c.args.text.now) (string_bytes c.push_attribute.new.text)
    (string_bytes c.push_index.new.text) (string_bytes c.push_attribute-2.new.text) (string_bytes c.push_number.new.text)
    (index_attributes c.args.is_indexed) _ _ _ c.in_ok-push_attribute.ensures c.in_ok-push_index.ensures c.in_ok-push_attribute-2.ensures
    c.push_number.ensures
