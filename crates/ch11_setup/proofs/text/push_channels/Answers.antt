use Rattle.std.proofs.Common.{arith, string_bytes, ◌++◌, ◌∙◌, ap}
use Rattle.ch11_setup.specs.Attributes.{attributes_text}
use Rattle.ch11_setup.specs.Names.{cleaned}
use Rattle.ch11_setup.specs.Setups.{channels_attributes}
use Rattle.ch11_setup.proofs.SetupLines.{one_channel}
use Rattle.ch11_setup.proofs.text.push_channels.Goals as goal

pub channels-preserved : goal.channels-preserved
channels-preserved c = record {
  n = omega (arith, c.channels.invariant.n);
  text = one_channel (string_bytes c.channels.text) (string_bytes c.push_channel.new.text)
      (string_bytes c.args.text.now ++ attributes_text (channels_attributes 2 c.args.channels.now)) c.channels.n c.channels.channel-index
      c.args.channels.now _ c.as_bytes-in-channels.result.now c.deref.result.now c.deref-in-channels.result.now c.channels-test.true
      (c.deref.ensures ∙ c.in_ok-source.ensures) c.as_bytes-in-channels.ensures.value
      (c.deref-in-channels.ensures ∙ c.in_ok-name.ensures ∙ ap cleaned c.as_bytes.ensures.value) c.in_ok-push_channel.ensures c.channels.invariant.text;
}
