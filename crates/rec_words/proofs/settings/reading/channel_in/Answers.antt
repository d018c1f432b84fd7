use Rattle.rec_words.proofs.settings.reading.channel_in.Goals as goal

pub returns : goal.returns
returns c =
    rw (
      c.in_ok-only.ensures,
      (rw c.from.ensures at c.in_ok-number_at.ensures.number),
      c.in_ok-text_at.ensures,
      c.in_ok-text_at-2.ensures,
      (rw c.from-2.ensures at c.in_ok-number_or.ensures.number),
      (rw c.from-3.ensures at c.in_ok-number_or-2.ensures.number),
      c.in_ok-number_or-3.ensures.number,
      c.in_ok-number_or-4.ensures.number,
    )
