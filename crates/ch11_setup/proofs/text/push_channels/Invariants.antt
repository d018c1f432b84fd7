use Rattle.std.proofs.Common.{◌≡◌, ◌+◌, ◌++◌, drop, string_bytes}
use Rattle.ch11_setup.specs.Attributes.{attributes_text}
use Rattle.ch11_setup.specs.Setups.{channels_attributes}
use Rattle.ch11_setup.proofs.text.push_channels.Given as goal

-- the text so far, with the channels that are left, is that with all
abbrev pub invariant-channels : goal.invariant-channels
invariant-channels l = record {
  n : l.n ≡ 2 + l.channel-index;
  text : string_bytes l.text ++ attributes_text (channels_attributes l.n (drop l.channel-index l.channels))
      ≡ string_bytes l.fn.text ++ attributes_text (channels_attributes 2 l.channels);
}
