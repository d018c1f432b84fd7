use Rattle.std.proofs.Common.{◌∙◌, sym}
use Rattle.rec_words.proofs.SettingsRead.{distinct_fault, distinct_ok}
use Rattle.rec_words.proofs.settings.reading.settings_in.Goals as goal

pub returns-in-Some : goal.returns-in-Some
returns-in-Some c =
    let tables = c.in_ok-channel_tables.ensures in
    let same = rw c.as_slice.ensures.value at (sym c.in-Some.ensures) in
    rw (
      c.in_ok-only.ensures,
      c.in_ok-limit.ensures,
      c.in_ok-ring.ensures.number,
      (rw c.from.ensures at c.in_ok-version.ensures.number),
      tables.2,
      c.in_ok-channels.ensures tables.0 tables.1,
      distinct_fault c.in_ok-channels.channels.items c.in-Some.id same,
    )

pub returns : goal.returns
returns c =
    let tables = c.in_ok-channel_tables.ensures in
    rw (
      c.in_ok-only.ensures,
      c.in_ok-limit.ensures,
      c.in_ok-ring.ensures.number,
      (rw c.from.ensures at c.in_ok-version.ensures.number),
      tables.2,
      c.in_ok-channels.ensures tables.0 tables.1,
      distinct_ok c.in_ok-channels.channels.items (rw c.as_slice.ensures.value at (sym c.repeated.ensures ∙ c.in_default.is)),
    )
