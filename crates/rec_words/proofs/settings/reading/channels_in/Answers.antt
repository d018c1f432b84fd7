use Rattle.std.proofs.Common.{◌∙◌, sym, map, [], ◌∷◌}
use Rattle.std.proofs.lemmas.List.{map-append}
use Rattle.std.proofs.lemmas.Option.{none-some}
use Rattle.std.proofs.lemmas.Result.{err_from_is_err_and}
use Rattle.toml.specs.View.{table_view}
use Rattle.rec_words.specs.Settings.{channel_in, channels_in}
use Rattle.rec_words.specs.SettingsViews.{channel_data}
use Rattle.rec_words.proofs.SettingsRead.{ahead_end, ahead_fault, ahead_more, followed_none, reports_like, table_here}
use Rattle.rec_words.proofs.settings.reading.channels_in.Goals.{in-Some+in_ok-channel_in+in_ok-push, in_default}
use Rattle.rec_words.proofs.settings.reading.channels_in.Goals as goal

pub values-init : goal.values-init
values-init c tables h = (tables, h, rw (c.new-channels.ensures.items) (sym (followed_none (channels_in tables))))

pub returns-in_err-channel_in : goal.returns-in_err-channel_in
returns-in_err-channel_in c tables h =
    let p = err_from_is_err_and c.from_residual.result c.from_residual.ensures.1 in
    rw (p.1, p.2) (reports_like (channel_in (table_view c.in-Some.table.now)) (channels_in tables)
    (λ fault e. ahead_fault tables (map channel_data c.values.channels.items) c.args.values.now c.values.value-index
    c.value-item.result (table_view c.in-Some.table.now) fault c.values-test.true c.value-item.is
    (rw c.in-Some.is at c.as_table.ensures) (c.values.invariant tables h) e)
    c.in_err-channel_in.field-0.0 c.in_err-channel_in.ensures)

pub values-preserved : goal.values-preserved
values-preserved c tables h =
    let ahead = c.values.invariant tables h in
    elim c.match-as_table.branch [
      | in-Some+in_ok-channel_in+in_ok-push w ↦
          rw (w.channels-is, w.in_ok-push.ensures.items, map-append channel_data c.values.channels.items (w.in_ok-channel_in.field-0 ∷ []))
          (ahead_more tables (map channel_data c.values.channels.items) c.args.values.now c.values.value-index c.value-item.result
          (table_view w.in-Some.table.now) (channel_data w.in_ok-channel_in.field-0) c.values-test.true c.value-item.is
          (rw w.in-Some.is at c.as_table.ensures) w.in_ok-channel_in.ensures ahead)
      | in_default w ↦
          let here = table_here c.args.values.now c.values.value-index c.value-item.result ahead.0 c.values-test.true c.value-item.is ahead.1 in
          absurd (none-some here.0 (w.in_default.ensures ∙ here.2))
    ]

pub returns : goal.returns
returns c tables h =
    ahead_end tables (map channel_data c.values.channels.items) c.args.values.now c.values.value-index c.values-test.false (c.values.invariant tables h)
