use Rattle.std.proofs.Common.{List, subst}
use Rattle.rec_words.specs.declared.setup_file.RecordingSettings.{RecordingSettings}
use Rattle.cli_chapter11.specs.JoinedFiles.{AreNamesInTables}
use Rattle.cli_chapter11.specs.Joining.{AreMovedBy}
use Rattle.cli_chapter11.proofs.several.write_whole.Goals as goal

pub returns-in-Ok-judged_then_written-clause-written :
    goal.returns-in-Ok-judged_then_written-clause-written
returns-in-Ok-judged_then_written-clause-written g c =
    let wrote = c.in-Ok-judged_then_written.ensures.written in (
      wrote.0,
      record {
        joined = c.in-Ok.joined;
        moved = subst (λ (tables : List RecordingSettings). AreMovedBy g.F.PlacedRead.held c.args.start c.args.channels.now c.args.files.now tables
            c.args.all.now c.in-Ok.joined.parts.items) c.deref.ensures.value c.in-Ok.ensures.moved;
        written = λ bytes held.
            let read = c.in-Ok.ensures.joined bytes held in
            let whole = wrote.1 read.0 read.2 in (
              read.0,
              read.1,
              read.2,
              whole.0,
              subst (λ (tables : List RecordingSettings).
                  AreNamesInTables c.args.settings.now.general tables c.args.all.now c.args.channels.now whole.0) c.deref-2.ensures.value whole.1,
              whole.2,
            );
      },
      wrote.2,
    )
