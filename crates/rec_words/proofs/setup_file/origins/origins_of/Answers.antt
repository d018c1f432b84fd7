use Rattle.std.proofs.Common.{◌∙◌, map, [], ◌∷◌}
use Rattle.std.proofs.lemmas.List.{map-append}
use Rattle.std.proofs.lemmas.Option.{none-some}
use Rattle.toml.specs.View.{table_view}
use Rattle.rec_words.specs.SetupFile.{origin_in}
use Rattle.rec_words.specs.SetupViews.{origin_data}
use Rattle.rec_words.proofs.SettingsRead.{table_here}
use Rattle.rec_words.proofs.SetupRead.{left_more, length_more}
use Rattle.rec_words.proofs.setup_file.origins.origins_of.Goals.{in-Some+in_ok-origin_in+in_ok-push, in_default}
use Rattle.rec_words.proofs.setup_file.origins.origins_of.Goals as goal

pub values-preserved : goal.values-preserved
values-preserved c tables h =
    let left = c.values.invariant tables h in
    let before = map origin_data c.values.origins.items in
    elim c.match-as_table.branch [
      | in-Some+in_ok-origin_in+in_ok-push w ↦ (
        rw (w.origins-is, w.in_ok-push.ensures.items, map-append origin_data c.values.origins.items (w.in_ok-origin_in.field-0 ∷ []))
            (left_more (λ _ members. origin_in c.args.unknown members) tables before c.args.values.now c.values.value-index c.value-item.result
            (table_view w.in-Some.table.now) (origin_data w.in_ok-origin_in.field-0) c.values-test.true c.value-item.is
            (rw w.in-Some.is at c.as_table.ensures) w.in_ok-origin_in.ensures left.0),
        rw (w.origins-is, w.in_ok-push.ensures.items) (length_more c.values.origins.items w.in_ok-origin_in.field-0 c.values.value-index left.1),
      )
      | in_default w ↦
          let here = table_here c.args.values.now c.values.value-index c.value-item.result left.0.0 c.values-test.true c.value-item.is left.0.1 in
          absurd (none-some here.0 (w.in_default.ensures ∙ here.2))
    ]
