use Rattle.std.proofs.Common.{◌∙◌, ap}
use Rattle.std.specs.Option.{option_and_then}
use Rattle.rec_export.specs.Interfaces.{later_of}
use Rattle.rec_export.proofs.InterfaceEntries.{later_is}
use Rattle.rec_export.proofs.interface.Interfaces.later_of.Goals as goal

pub returns-in-Some : goal.returns-in-Some
returns-in-Some c =
    ap (option_and_then (λ later. later)) c.in-Some.ensures.value ∙ later_is c.args.channel c.self.inside.channels.entries
    ∙ ap (later_of c.args.channel) c.self.view_is

pub returns-in-None : goal.returns-in-None
returns-in-None c =
    ap (option_and_then (λ later. later)) c.in-None.ensures.value ∙ later_is c.args.channel c.self.inside.channels.entries
    ∙ ap (later_of c.args.channel) c.self.view_is
