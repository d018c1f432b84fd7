use Rattle.rec_words.proofs.SettingsRead.{repeated_here}
use Rattle.rec_words.proofs.settings.reading.repeated.Goals as goal

pub returns-then-has_id : goal.returns-then-has_id
returns-then-has_id c =
    rw (
      c.channels.invariant,
      repeated_here c.args.channels.now c.channels.k c.index-channels-k.result c.channels-test.true,
      ← c.has_id.ensures,
      c.if-has_id.true,
    )

pub channels-preserved : goal.channels-preserved
channels-preserved c =
    rw (
      c.channels.invariant,
      repeated_here c.args.channels.now c.channels.k c.index-channels-k.result c.channels-test.true,
      ← c.has_id.ensures,
      c.if-has_id.false,
    )
