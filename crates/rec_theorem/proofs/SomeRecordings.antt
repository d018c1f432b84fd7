-- There are channels that can be recorded, recordings of them, and programs for them.
use Rattle.std.proofs.Common.{ℕ, zero, suc, ◌^◌, ◌≡◌, ◌≤◌, ◌<◌, inl, inr, List, [], ◌∷◌, length, None, Some, All, refl, sym, ap, subst, arith}
use Rattle.std.specs.Prelude.{slice_get, AllPairs}
use Rattle.std.proofs.lemmas.List.Elements.{All-nil, All-cons, All-weaker}
use Rattle.std.proofs.lemmas.List.Kept.{AllPairs-cons}
use Rattle.std.proofs.lemmas.Option.{none-some}
use Rattle.bpf_insn.specs.declared.insn.Insn.{Insn}
use Rattle.bpf_insn.specs.Bytes.{InRange, AreInRange}
use Rattle.bpf_insn.specs.Flow.{FormJumpsOut}
use Rattle.bpf_insn.specs.Forms.{form}
use Rattle.bpf_insn.specs.Uses.{FormReadsWord, FormWritesWord}
use Rattle.bpf_verify.specs.Validity.{Valid, FormDividesByZero}
use Rattle.eth_frame.specs.Frame.{FrameData, IsFrame}
use Rattle.rec_channel.specs.History.{Version}
use Rattle.rec_channel.specs.declared.limits.TheConstants.{MAX_VERSIONS}
use Rattle.rec_lane.specs.Pieces.{LaneSettings}
use Rattle.rec_lane.proofs.FramesMet.{some_is}
use Rattle.rec_writer.specs.Encoding.{writer_output}
use Rattle.rec_writer.specs.Numbers.{AreDistinctChannels}
use Rattle.rec_writer.specs.Recording.{RecordedChannel, IsRecording}
use Rattle.rec_core.specs.Openings.{IsFilter}
use Rattle.rec_core.proofs.ChannelServing.{OfTheirChannel}
use Rattle.rec_run.specs.Jobs.{AreLaneSettings}
use Rattle.rec_theorem.specs.Existence.{channel_ids}
use Rattle.rec_theorem.specs.Recordable.{IsRecordable, AreRecordable}
use Rattle.rec_theorem.proofs.SomePieces.{SomeOffered, some_pieces}

-- ---- recordings

-- the pieces of the channels, one after the other, written
pub some_recording : SomeOffered → OfTheirChannel → (version : ℕ) (channels : List RecordedChannel) → AreRecordable channels
    → AreDistinctChannels (channel_ids channels) → (bytes : List ℕ) × IsRecording version channels bytes
some_recording some theirs version channels are distinct =
    let pieces = some_pieces some theirs channels are distinct in
    (writer_output version pieces.0, (pieces.0, refl, pieces.1))

-- ---- channels

-- a program with mark 0, and versions after it, whose marks rise up to the number of frames
pub some_channel : (settings : LaneSettings) (frames : List FrameData) (times : List (List ℕ)) (first : List Insn) (later : List Version)
    → AreLaneSettings settings → All IsFrame frames → length frames < 2 ^ 64 → length times ≡ length frames → IsFilter first
    → All (λ (v : Version). IsFilter v.program) later → AllPairs (λ (v w : Version). v.mark ≤ w.mark) later
    → All (λ (v : Version). v.mark ≤ length frames) later → length later < MAX_VERSIONS
    → IsRecordable (record { settings = settings; frames = frames; times = times; history = record { program = first; mark = 0 } ∷ later })
some_channel settings frames times first later is framed few timed filter filters rise past short =
    let v : Version = record { program = first; mark = 0 } in
    record {
      settings = is;
      framed = framed;
      few_frames = few;
      timed = timed;
      history = record {
        some = omega arith;
        valid = All-cons (λ (w : Version). Valid w.program) v later filter.valid
            (All-weaker (λ (w : Version). IsFilter w.program) (λ (w : Version). Valid w.program) (λ w f. f.valid) later filters);
        in_range = All-cons (λ (w : Version). AreInRange w.program) v later filter.in_range
            (All-weaker (λ (w : Version). IsFilter w.program) (λ (w : Version). AreInRange w.program) (λ w f. f.in_range) later filters);
        first = λ w there. ap (λ (x : Version). x.mark) (sym (some_is v w there));
        rise = AllPairs-cons (λ (x y : Version). x.mark ≤ y.mark) v later (λ k d within. omega arith) rise;
        past = All-cons (λ (w : Version). w.mark ≤ length frames) v later (omega arith) past;
      };
      few_versions = omega (arith, short);
    }

-- ---- programs

-- the instruction RET #k
abbrev returns : ℕ → Insn
returns k = record { code = 6; jt = 0; jf = 0; k = k }

module _ (k : ℕ) where
  -- it is the one instruction
  only_one : (at : ℕ) (insn : Insn) → slice_get (returns k ∷ []) at ≡ Some insn → insn ≡ returns k
  only_one zero insn is = sym (some_is (returns k) insn is)
  only_one (suc at) insn is = absurd (none-some insn is)

  -- what doesn't hold of it holds of none
  none_of : (P : Insn → Type 0) → (P (returns k) → ⊥) → (at : ℕ) → (insn : Insn) × (slice_get (returns k ∷ []) at ≡ Some insn) × P insn → ⊥
  none_of P fails at found = fails (subst P (only_one at found.0 found.1) found.2)

  -- it has a form, and reads, writes, divides and jumps nowhere
  valid_one : Valid (returns k ∷ [])
  valid_one = record {
    some = omega arith;
    fits = omega arith;
    formed = none_of (λ (i : Insn). form i.code ≡ None) (λ none. cc);
    scratch = λ at (word, uses, past). elim uses [
      | inl reads ↦ none_of (λ (i : Insn). FormReadsWord (form i.code) i word) (λ r. r) at reads
      | inr writes ↦ none_of (λ (i : Insn). FormWritesWord (form i.code) i word) (λ w. w) at writes
    ];
    divisors = none_of (λ (i : Insn). FormDividesByZero (form i.code) i) (λ divides. divides);
    targets = λ at. none_of (λ (i : Insn). FormJumpsOut 1 (form i.code) i at) (λ jumps. jumps.1) at;
    ends = (returns k, refl, tt);
    no_unset_read = λ path word (at, unset). none_of (λ (i : Insn). FormReadsWord (form i.code) i word) (λ r. r) at unset.3;
  }

-- so it is a filter
pub some_program : (k : ℕ) → k < 2 ^ 32 → IsFilter (record { code = 6; jt = 0; jf = 0; k = k } ∷ [])
some_program k small = record {
  valid = valid_one k;
  in_range = All-cons InRange (returns k) [] (record { code = omega arith; jt = omega arith; jf = omega arith; k = omega (arith, small) }) (All-nil InRange);
}
