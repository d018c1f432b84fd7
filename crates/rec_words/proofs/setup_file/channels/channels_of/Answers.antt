use Rattle.std.proofs.Common.{◌∙◌, map, [], ◌∷◌}
use Rattle.std.proofs.lemmas.List.{map-append}
use Rattle.std.proofs.lemmas.Option.{none-some}
use Rattle.std.proofs.lemmas.Result.{err_from_is_err_and}
use Rattle.toml.specs.View.{table_view}
use Rattle.rec_words.specs.SetupFile.{setup_channel_in, each_after}
use Rattle.rec_words.specs.SetupViews.{setup_channel_data}
use Rattle.rec_words.proofs.SettingsRead.{reports_like, table_here}
use Rattle.rec_words.proofs.SetupRead.{left_fault, left_more}
use Rattle.rec_words.proofs.setup_file.channels.channels_of.Goals.{in-Some+in_ok-channel+in_ok-push, in_default}
use Rattle.rec_words.proofs.setup_file.channels.channels_of.Goals as goal

pub returns-in_err-channel : goal.returns-in_err-channel
returns-in_err-channel c tables h =
    let p = err_from_is_err_and c.from_residual.result c.from_residual.ensures.1 in
    let before = map setup_channel_data c.values.channels.items in
    rw (p.1, p.2) (reports_like (setup_channel_in before (table_view c.in-Some.table.now)) (each_after setup_channel_in [] tables)
    (λ fault e. left_fault setup_channel_in tables before c.args.values.now c.values.value-index c.value-item.result (table_view c.in-Some.table.now)
    fault c.values-test.true c.value-item.is (rw c.in-Some.is at c.as_table.ensures) (c.values.invariant tables h) e)
    c.in_err-channel.field-0.0 (rw c.deref.ensures.value at c.in_err-channel.ensures))

pub values-preserved : goal.values-preserved
values-preserved c tables h =
    let left = c.values.invariant tables h in
    let before = map setup_channel_data c.values.channels.items in
    elim c.match-as_table.branch [
      | in-Some+in_ok-channel+in_ok-push w ↦
          rw (w.channels-is, w.in_ok-push.ensures.items, map-append setup_channel_data c.values.channels.items (w.in_ok-channel.channel ∷ []))
          (left_more setup_channel_in tables before c.args.values.now c.values.value-index c.value-item.result (table_view w.in-Some.table.now)
          (setup_channel_data w.in_ok-channel.channel) c.values-test.true c.value-item.is (rw w.in-Some.is at c.as_table.ensures)
          (rw w.deref.ensures.value at w.in_ok-channel.ensures) left)
      | in_default w ↦
          let here = table_here c.args.values.now c.values.value-index c.value-item.result left.0 c.values-test.true c.value-item.is left.1 in
          absurd (none-some here.0 (w.in_default.ensures ∙ here.2))
    ]
