use Rattle.rec_words.proofs.SettingsRead.{keys_of_entries}
use Rattle.rec_words.proofs.keys.other_key.Goals as goal

pub keys-init : goal.keys-init
keys-init c = rw (c.into_iter-key-iterator.ensures.into_iter_gives, c.keys-key-items.ensures.rest, keys_of_entries c.args.table.now.entries)
