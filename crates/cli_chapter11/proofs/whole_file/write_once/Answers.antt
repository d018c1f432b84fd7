use Rattle.std.proofs.Common.{List, refl, subst, inl, inr, ◌∙◌, map, ap}
use Rattle.std.proofs.KnownBytes.{Appends-nil}
use Rattle.std.specs.Option.{option_map}
use Rattle.std.proofs.lemmas.Result.{err_from_is_err_and}
use Rattle.ch11_clock.specs.declared.origin.Origin.{Origin}
use Rattle.ch11_index.specs.declared.index.TheConstants.{MOST_NAMED}
use Rattle.ch11_setup.specs.Setups.{given_attribute}
use Rattle.rec_pieces.specs.Entries.{places_of}
use Rattle.rec_whole.specs.WholeRecordings.{WholeFails, WritesRecording}
use Rattle.rec_words.specs.SetupViews.{attribute_data, recording_data, setup_channel_data}
use Rattle.cli_chapter11.specs.WholeFiles.{channel_said}
use Rattle.cli_chapter11.proofs.WrittenFiles.{clock_of_setup}
use Rattle.cli_chapter11.proofs.whole_file.write_once.Goals as goal

pub returns-in_err-channels : goal.returns-in_err-channels
returns-in_err-channels g c =
    let p = err_from_is_err_and c.from_residual.result c.from_residual.ensures.1 in
    rw (p.1, p.2) (c.args.output, λ bytes packets known reads lists. inl (refl, Appends-nil _))

pub returns-in_err-attributes : goal.returns-in_err-attributes
returns-in_err-attributes g c =
    let p = err_from_is_err_and c.from_residual-in_err-attributes.result c.from_residual-in_err-attributes.ensures.1 in
    rw (p.1, p.2) (c.args.output, λ bytes packets known reads lists. inl (refl, Appends-nil _))

pub returns-in_err-clock : goal.returns-in_err-clock
returns-in_err-clock g c =
    let p = err_from_is_err_and c.from_residual-in_err-clock.result c.from_residual-in_err-clock.ensures.1 in
    rw (p.1, p.2) (c.args.output, λ bytes packets known reads lists. inl (refl, Appends-nil _))

pub names_of-names-requires : goal.names_of-names-requires
names_of-names-requires g c = ap (map given_attribute) c.as_slice-5.ensures.value
    ∙ (c.in_ok-attributes.ensures ∙ ap (map attribute_data) c.as_slice-2.ensures.value)

pub returns-in-Ok : goal.returns-in-Ok
returns-in-Ok g c = λ bytes packets known reads lists. (
  c.names_of-names.result,
  c.names_of-names.ensures (recording_data c.args.whole.now.recording.now)
      (ap (map channel_said) c.as_slice-4.ensures.value ∙ (c.in_ok-channels.ensures ∙ ap (map setup_channel_data) c.as_slice.ensures.value)),
  subst (λ (rules : List Origin). WritesRecording packets c.names_of-names.result rules MOST_NAMED (g.W.Write.contents c.args.output)
      (g.W.Write.contents c.write_whole_file-written.new.out.out) c.in-Ok.counts)
      (clock_of_setup c.args.whole.now.recording.now c.in_ok-clock.clock _ c.in_ok-clock.ensures.held c.as_slice-3.ensures.value)
      (c.in-Ok.ensures (places_of bytes) packets (c.new-packets.ensures ∙ ap (option_map places_of) known)
      (c.packets_are_read_at_their_places.ensures bytes packets reads) lists),
)

pub returns : goal.returns
returns g c = (
  c.write_whole_file-written.new.out.out,
  λ bytes packets known reads lists. inr (
    c.names_of-names.result,
    c.names_of-names.ensures (recording_data c.args.whole.now.recording.now)
        (ap (map channel_said) c.as_slice-4.ensures.value ∙ (c.in_ok-channels.ensures ∙ ap (map setup_channel_data) c.as_slice.ensures.value)),
    subst (λ (rules : List Origin). WholeFails packets c.names_of-names.result rules MOST_NAMED (g.W.Write.contents c.args.output)
        (g.W.Write.contents c.write_whole_file-written.new.out.out) c.in-Err.end)
        (clock_of_setup c.args.whole.now.recording.now c.in_ok-clock.clock _ c.in_ok-clock.ensures.held c.as_slice-3.ensures.value)
        (c.in-Err.ensures (places_of bytes) packets (c.new-packets.ensures ∙ ap (option_map places_of) known)
        (c.packets_are_read_at_their_places.ensures bytes packets reads) lists),
  ),
)
