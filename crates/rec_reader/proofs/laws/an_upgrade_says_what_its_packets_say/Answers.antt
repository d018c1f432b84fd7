use Rattle.std.proofs.Common.{Ok}
use Rattle.rec_reader.specs.Channels.{saying_of}
use Rattle.rec_reader.specs.Packets.{PacketData}
use Rattle.rec_reader.specs.Upgrades.{upgrade}
use Rattle.rec_reader.proofs.Alike.{all_swapped, map_same, same_saying, frames_same, audits_same}
use Rattle.rec_reader.proofs.Upgrading.{alike_upgrade}
use Rattle.rec_reader.proofs.laws.an_upgrade_says_what_its_packets_say.Goals as goal

pub returns-clause-frames : goal.returns-clause-frames
returns-clause-frames c = λ channel packets begin. frames_same channel packets (upgrade packets) (alike_upgrade packets begin)

pub returns-clause-held : goal.returns-clause-held
returns-clause-held c = λ packets begin. map_same (λ (p : PacketData). p.what) (λ p q a. a.what) packets (upgrade packets) (alike_upgrade packets begin)

pub returns-clause-said : goal.returns-clause-said
returns-clause-said c = λ packets begin. map_same saying_of same_saying packets (upgrade packets) (alike_upgrade packets begin)

pub returns-clause-audit : goal.returns-clause-audit
returns-clause-audit c = λ packets answer begin.
    let alike = alike_upgrade packets begin in
    (audits_same packets (upgrade packets) answer alike, audits_same (upgrade packets) packets answer (all_swapped packets (upgrade packets) alike))

pub returns-clause-one : goal.returns-clause-one
returns-clause-one c = λ packets answer other begin before after here there.
    let back = audits_same (upgrade packets) packets other (all_swapped packets (upgrade packets) (alike_upgrade packets begin)) after in
    c.packets_have_one_audit.ensures.one packets answer other before back here there

pub returns-clause-approved : goal.returns-clause-approved
returns-clause-approved c = λ packets audit begin is.
    let back = audits_same (upgrade packets) packets (Ok audit) (all_swapped packets (upgrade packets) (alike_upgrade packets begin)) is in
    c.an_approved_recording_is_what_it_says.ensures.approved packets audit back

pub returns-clause-ends : goal.returns-clause-ends
returns-clause-ends c = λ packets audit begin is.
    let back = audits_same (upgrade packets) packets (Ok audit) (all_swapped packets (upgrade packets) (alike_upgrade packets begin)) is in
    c.an_approved_recording_is_what_it_says.ensures.ends packets audit back
