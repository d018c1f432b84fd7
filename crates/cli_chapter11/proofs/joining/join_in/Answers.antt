use Rattle.std.proofs.Common.{◌∙◌, ◌+◌, ◌-◌, ◌∷◌, ◌++◌, ◌<◌, ◌^◌, [], ap, sym, subst, length, arith, drop, List}
use Rattle.std.specs.Prelude.{IfSome}
use Rattle.std.specs.Option.{option_map}
use Rattle.std.proofs.lemmas.List.{length-drop, take_all}
use Rattle.cli_chapter11.specs.declared.joined_channels.ListedRecording.{ListedRecording}
use Rattle.rec_reader.specs.Readers.{HasRead}
use Rattle.rec_pieces.specs.Entries.{places_of}
use Rattle.cli_chapter11.specs.Joining.{packets_there}
use Rattle.cli_chapter11.specs.Joining.{AreReadings, IsMovedBy}
use Rattle.cli_chapter11.proofs.JoinedRecordings.{held_at, held_len, moved_more, readings_more}
use Rattle.cli_chapter11.proofs.joining.join_in.Goals as goal

pub files-preserved : goal.files-preserved
files-preserved g c =
    let held = g.F.PlacedRead.held in
    let k = c.files.place in
    let file = c.index-files-place.result in
    let table = c.index-recordings-place.result in
    let listed = c.index-all-place.result in
    let later : List ListedRecording = drop (k + 1) c.args.all.now in
    let pushed = c.in-Ok-add.ensures.pushed in (
      moved_more held c.args.start c.args.channels.now c.args.files.now c.args.recordings.now c.args.all.now
          c.files.joined.parts.items c.add.new.self.parts.items
          k file table listed pushed.0
          c.files-test.true (omega (arith, c.files-test.true, c.requires.tables)) (omega (arith, c.files-test.true, c.requires.listed))
          c.index-files-place.is c.index-recordings-place.is c.index-all-place.is
          pushed.1 (
            ap (packets_there held) pushed.2 ∙ c.new.ensures,
            subst (λ moves. IsMovedBy c.args.start c.args.channels.now table listed later moves) (sym pushed.3)
                (subst (λ l. IsMovedBy c.args.start c.args.channels.now table listed l c.in-Ok.moves)
                (take_all (length c.args.all.now - (k + 1)) later (omega (arith, length-drop (k + 1) c.args.all.now))) c.in-Ok.ensures),
            tt,
          )
          c.files.invariant.0,
      λ recordings are. (
          let so = c.files.invariant.1 recordings are in
          let at = held_at held c.args.files.now recordings k file are c.files-test.true c.index-files-place.is in
          let begins : HasRead at.recording [] c.in-Ok-reader_of.reader =
          subst (λ h. IfSome h (λ bytes. length bytes < 2 ^ 64 → HasRead bytes [] c.in-Ok-reader_of.reader)) at.said c.in-Ok-reader_of.ensures at.few in
          let joins = c.in-Ok-add.ensures.joined so.0 at.recording (places_of at.recording) so.2 begins
          (c.new.ensures ∙ ap (option_map places_of) at.said)
          (λ own reads. c.packets_are_read_at_their_places.ensures at.recording own reads) in
          (so.0 ++ joins.own ∷ [], readings_more held file recordings k so.0 joins.own at so.1 joins.reads, joins.is_joined)),
    )

pub returns-clause-joined : goal.returns-clause-joined
returns-clause-joined g c = λ recordings are. (
    let so = c.files.invariant.1 recordings are in
    let all = take_all c.files.place recordings (omega (arith, c.files-test.false, held_len g.F.PlacedRead.held c.args.files.now recordings are)) in
    (so.0, subst (λ l. AreReadings l so.0) all so.1, so.2))
