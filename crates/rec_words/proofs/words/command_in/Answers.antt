use Rattle.std.proofs.Common.{◌≡◌, Some, codes, sym, ◌∙◌}
use Rattle.std.proofs.lemmas.Slice.Eq.{bytes_eq-Decides}
use Rattle.clap.specs.Words.{found_of, rows_of, subcommand_rows_of}
use Rattle.rec_words.proofs.Matches.{pair_is}
use Rattle.rec_words.proofs.words.command_in.Goals as goal

pub returns-then-eq : goal.returns-then-eq
returns-then-eq c =
    let rows = rows_of (found_of c.in-Some.inner.now) in
    let named : c.in-Some.name.now ≡ codes "asm" = (bytes_eq-Decides c.in-Some.name.now (codes "asm")).0 (sym c.eq.ensures ∙ c.if-eq.true) in
    let met : subcommand_rows_of c.args.matches.now ≡ Some (c.in-Some.name.now, rows) =
    pair_is _ _ c.in-Some.name.now rows c.in-Some.ensures.name c.in-Some.ensures.rows in
    (rows, rw named at met, c.word_for-file.ensures)

pub returns-then-eq-2 : goal.returns-then-eq-2
returns-then-eq-2 c =
    let rows = rows_of (found_of c.in-Some.inner.now) in
    let named : c.in-Some.name.now ≡ codes "dis" = (bytes_eq-Decides c.in-Some.name.now (codes "dis")).0 (sym c.eq-2.ensures ∙ c.if-eq-2.true) in
    let met : subcommand_rows_of c.args.matches.now ≡ Some (c.in-Some.name.now, rows) =
    pair_is _ _ c.in-Some.name.now rows c.in-Some.ensures.name c.in-Some.ensures.rows in
    (rows, rw named at met, c.word_for-file.ensures)

pub returns-then-eq-3 : goal.returns-then-eq-3
returns-then-eq-3 c =
    let rows = rows_of (found_of c.in-Some.inner.now) in
    let named : c.in-Some.name.now ≡ codes "verify" = (bytes_eq-Decides c.in-Some.name.now (codes "verify")).0 (sym c.eq-3.ensures ∙ c.if-eq-3.true) in
    let met : subcommand_rows_of c.args.matches.now ≡ Some (c.in-Some.name.now, rows) =
    pair_is _ _ c.in-Some.name.now rows c.in-Some.ensures.name c.in-Some.ensures.rows in
    (rows, rw named at met, c.word_for-file.ensures)

pub returns-then-eq-4 : goal.returns-then-eq-4
returns-then-eq-4 c =
    let rows = rows_of (found_of c.in-Some.inner.now) in
    let named : c.in-Some.name.now ≡ codes "run" = (bytes_eq-Decides c.in-Some.name.now (codes "run")).0 (sym c.eq-4.ensures ∙ c.if-eq-4.true) in
    let met : subcommand_rows_of c.args.matches.now ≡ Some (c.in-Some.name.now, rows) =
    pair_is _ _ c.in-Some.name.now rows c.in-Some.ensures.name c.in-Some.ensures.rows in
    (rows, rw named at met, c.word_for-file.ensures, c.word_for-view.ensures)

pub returns-then-eq-5 : goal.returns-then-eq-5
returns-then-eq-5 c =
    let rows = rows_of (found_of c.in-Some.inner.now) in
    let named : c.in-Some.name.now ≡ codes "list" = (bytes_eq-Decides c.in-Some.name.now (codes "list")).0 (sym c.eq-5.ensures ∙ c.if-eq-5.true) in
    let met : subcommand_rows_of c.args.matches.now ≡ Some (c.in-Some.name.now, rows) =
    pair_is _ _ c.in-Some.name.now rows c.in-Some.ensures.name c.in-Some.ensures.rows in
    (rows, rw named at met, c.word_for-file.ensures)

pub returns-then-eq-6 : goal.returns-then-eq-6
returns-then-eq-6 c =
    let rows = rows_of (found_of c.in-Some.inner.now) in
    let named : c.in-Some.name.now ≡ codes "audit" = (bytes_eq-Decides c.in-Some.name.now (codes "audit")).0 (sym c.eq-6.ensures ∙ c.if-eq-6.true) in
    let met : subcommand_rows_of c.args.matches.now ≡ Some (c.in-Some.name.now, rows) =
    pair_is _ _ c.in-Some.name.now rows c.in-Some.ensures.name c.in-Some.ensures.rows in
    (rows, rw named at met, c.word_for-file.ensures)

pub returns-then-eq-7 : goal.returns-then-eq-7
returns-then-eq-7 c =
    let rows = rows_of (found_of c.in-Some.inner.now) in
    let named : c.in-Some.name.now ≡ codes "extract" = (bytes_eq-Decides c.in-Some.name.now (codes "extract")).0 (sym c.eq-7.ensures ∙ c.if-eq-7.true) in
    let met : subcommand_rows_of c.args.matches.now ≡ Some (c.in-Some.name.now, rows) =
    pair_is _ _ c.in-Some.name.now rows c.in-Some.ensures.name c.in-Some.ensures.rows in
    (rows, rw named at met, c.word_for-file.ensures, c.word_for-channel.ensures, c.word_for-out.ensures)

pub returns-then-eq-8 : goal.returns-then-eq-8
returns-then-eq-8 c =
    let rows = rows_of (found_of c.in-Some.inner.now) in
    let named : c.in-Some.name.now ≡ codes "upgrade" = (bytes_eq-Decides c.in-Some.name.now (codes "upgrade")).0 (sym c.eq-8.ensures ∙ c.if-eq-8.true) in
    let met : subcommand_rows_of c.args.matches.now ≡ Some (c.in-Some.name.now, rows) =
    pair_is _ _ c.in-Some.name.now rows c.in-Some.ensures.name c.in-Some.ensures.rows in
    (rows, rw named at met, c.word_for-recording.ensures, c.word_for-out-then-eq-8.ensures)

pub returns-then-eq-9 : goal.returns-then-eq-9
returns-then-eq-9 c =
    let rows = rows_of (found_of c.in-Some.inner.now) in
    let named : c.in-Some.name.now ≡ codes "export" = (bytes_eq-Decides c.in-Some.name.now (codes "export")).0 (sym c.eq-9.ensures ∙ c.if-eq-9.true) in
    let met : subcommand_rows_of c.args.matches.now ≡ Some (c.in-Some.name.now, rows) =
    pair_is _ _ c.in-Some.name.now rows c.in-Some.ensures.name c.in-Some.ensures.rows in
    (rows, rw named at met, c.word_for-file.ensures, c.word_for-out-then-eq-9.ensures, c.optional_word_for-origin.ensures)

pub returns-then-eq-10 : goal.returns-then-eq-10
returns-then-eq-10 c =
    let rows = rows_of (found_of c.in-Some.inner.now) in
    let named : c.in-Some.name.now ≡ codes "chapter11" = (bytes_eq-Decides c.in-Some.name.now (codes "chapter11")).0 (sym c.eq-10.ensures ∙ c.if-eq-10.true) in
    let met : subcommand_rows_of c.args.matches.now ≡ Some (c.in-Some.name.now, rows) =
    pair_is _ _ c.in-Some.name.now rows c.in-Some.ensures.name c.in-Some.ensures.rows in
    (rows, rw named at met, c.word_for-recording-then-eq-10.ensures, c.word_for-setup.ensures, c.word_for-out-then-eq-10.ensures)

pub returns-then-eq-11 : goal.returns-then-eq-11
returns-then-eq-11 c =
    let rows = rows_of (found_of c.in-Some.inner.now) in
    let named : c.in-Some.name.now ≡ codes "record" = (bytes_eq-Decides c.in-Some.name.now (codes "record")).0 (sym c.eq-11.ensures ∙ c.if-eq-11.true) in
    let met : subcommand_rows_of c.args.matches.now ≡ Some (c.in-Some.name.now, rows) =
    pair_is _ _ c.in-Some.name.now rows c.in-Some.ensures.name c.in-Some.ensures.rows in
    (rows, rw named at met, c.word_for-settings.ensures, c.word_for-out-then-eq-11.ensures)
