use Rattle.std.proofs.Common.{◌∙◌, ap}
use Rattle.rec_export.specs.Interfaces.{interfaces_of, with_interface}
use Rattle.rec_export.proofs.InterfaceEntries.{put_entry}
use Rattle.rec_export.proofs.interface.Interfaces.put.Goals as goal

pub returns : goal.returns
returns c =
    ap interfaces_of c.in_ok-insert.ensures.entries ∙ put_entry c.args.channel c.args.later c.self.inside.channels.entries
    ∙ ap (with_interface c.args.channel c.args.later) c.self.view_is
