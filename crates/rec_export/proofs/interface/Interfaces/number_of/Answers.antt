use Rattle.std.proofs.Common.{◌∙◌, ap, sym}
use Rattle.std.specs.Prelude.{nat_eq}
use Rattle.std.specs.Map.{keys_of}
use Rattle.std.proofs.lemmas.Map.Entries.{length-keys_of}
use Rattle.rec_export.specs.Interfaces.{number_of}
use Rattle.rec_export.proofs.InterfaceEntries.{number_found, next_number, number_is}
use Rattle.rec_export.proofs.interface.Interfaces.number_of.Goals as goal

pub returns-in-Some : goal.returns-in-Some
returns-in-Some c =
    let entries = c.self.inside.channels.entries in
    number_found (nat_eq c.args.channel) (keys_of entries) c.in-Some.number c.in-Some.ensures.index ∙ number_is c.args.channel entries
    ∙ ap (number_of c.args.channel) c.self.view_is

pub returns-in-None : goal.returns-in-None
returns-in-None c =
    let entries = c.self.inside.channels.entries in
    c.len.ensures.len ∙ sym (length-keys_of entries) ∙ next_number (nat_eq c.args.channel) (keys_of entries) c.in-None.ensures.index
    ∙ number_is c.args.channel entries ∙ ap (number_of c.args.channel) c.self.view_is
