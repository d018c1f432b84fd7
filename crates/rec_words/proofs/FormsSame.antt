-- What is read of an only recording is the same in either form.
-- idea: each key that is read has the same in both; where all are well, the order in which they are read doesn't matter.
use Rattle.std.proofs.Common.{ℕ, ◌≡◌, ◌↔◌, Bool, true, false, List, [], ◌∷◌, Option, None, Some, Result, Ok, Err}
use Rattle.std.proofs.Common.{refl, sym, ap, ◌∙◌, codes}
use Rattle.std.specs.Prelude.{bytes_eq}
use Rattle.toml.specs.Data.{Data, string, integer, float, boolean, datetime, array, table as table_data, item, no_items, Members, get_member}
use Rattle.rec_words.specs.Settings.{Fault, ◌>>=◌}
use Rattle.rec_words.specs.SetupFile.{OriginData, ChannelSetupData, GeneralData, FileData, file_keys, recording_keys}
use Rattle.rec_words.specs.SetupFile.{ahead_of, unknown_scale, origins_in, setup_channels_in, general_in, file_by, file_in}
use Rattle.rec_words.specs.SetupForms.{HasSame, SayOneRecording}
use Rattle.rec_words.proofs.KeysRead.{only_ok}

-- ---- the order

first : Result (List OriginData) Fault → Result GeneralData Fault → Result (List ChannelSetupData) Fault → Result FileData Fault
first origins general channels =
    origins >>= (λ o. general >>= (λ g. channels >>= (λ c. Ok (record { recordings = record { origins = o; after = None; channels = c } ∷ []; general = g }))))

second : Result (List OriginData) Fault → Result GeneralData Fault → Result (List ChannelSetupData) Fault → Result FileData Fault
second origins general channels =
    ((origins >>= (λ o. channels >>= (λ c. Ok (record { origins = o; after = None; channels = c })))) >>= (λ r. Ok (r ∷ [])))
    >>= (λ rs. general >>= (λ g. Ok (record { recordings = rs; general = g })))

no_file : (fault : Fault) (file : FileData) → Err fault ≡ Ok file → ⊥
no_file fault file e = cc

same_outcome : (origins : Result (List OriginData) Fault) (general : Result GeneralData Fault) (channels : Result (List ChannelSetupData) Fault)
    (file : FileData) → (first origins general channels ≡ Ok file) ↔ (second origins general channels ≡ Ok file)
unfolding first second
same_outcome (Ok o) (Ok g) (Ok c) file = (λ e. e, λ e. e)
same_outcome (Ok o) (Ok g) (Err f) file = (λ e. absurd (no_file f file e), λ e. absurd (no_file f file e))
same_outcome (Ok o) (Err f) (Ok c) file = (λ e. absurd (no_file f file e), λ e. absurd (no_file f file e))
same_outcome (Ok o) (Err f) (Err h) file = (λ e. absurd (no_file f file e), λ e. absurd (no_file h file e))
same_outcome (Err f) g c file = (λ e. absurd (no_file f file e), λ e. absurd (no_file f file e))

-- ---- what keys have

same_ahead : (name : List ℕ) (a b : Members) → HasSame a b (codes "tai_offset") → ahead_of None name a ≡ ahead_of None name b
same_ahead name a b same = by (bytes_eq name (codes "UTC")) (bytes_eq name (codes "TAI")) refl refl
  where
    by : (utc tai : Bool) → bytes_eq name (codes "UTC") ≡ utc → bytes_eq name (codes "TAI") ≡ tai → ahead_of None name a ≡ ahead_of None name b
    by true tai u t = rw (u, same) refl
    by false true u t = rw (u, t, same) refl
    by false false u t = rw (u, t) refl

same_scale : (a b : Members) → HasSame a b (codes "scale") → HasSame a b (codes "tai_offset") → unknown_scale a ≡ unknown_scale b
same_scale a b scale offset = by (get_member (codes "scale") b) refl
  where
    by : (found : Option Data) → get_member (codes "scale") b ≡ found → unknown_scale a ≡ unknown_scale b
    by None is = rw (scale, is, offset) refl
    by (Some (string name)) is = rw (scale, is) (ap (λ r. r >>= (λ ahead. Ok (Some ahead))) (same_ahead name a b offset))
    by (Some (integer n)) is = rw (scale, is) refl
    by (Some (float f)) is = rw (scale, is) refl
    by (Some (boolean b)) is = rw (scale, is) refl
    by (Some (datetime t)) is = rw (scale, is) refl
    by (Some (array items)) is = rw (scale, is) refl
    by (Some (table_data ms)) is = rw (scale, is) refl

module _ (top tabled table : Members) (say : SayOneRecording top tabled table) where
  same_general : general_in top ≡ general_in tabled
  same_general = rw (say.host, say.program, say.external, say.attributes) refl

  at_top : (unknown : Option ℕ) → file_by 1 unknown top None ≡ first (origins_in unknown top) (general_in top) (setup_channels_in top)
  unfolding first
  at_top unknown = refl

  in_table : (unknown : Option ℕ) → file_by 1 unknown tabled (Some (array (item (table_data table) no_items)))
      ≡ second (origins_in unknown table) (general_in tabled) (setup_channels_in table)
  unfolding second
  in_table unknown = rw (say.no_origin, say.no_origins, say.no_channel, only_ok recording_keys table say.table_known, say.no_after) refl

  by_scale : (scale : Result (Option ℕ) Fault) (file : FileData)
      → ((scale >>= (λ unknown. file_by 1 unknown top None)) ≡ Ok file)
      ↔ ((scale >>= (λ unknown. file_by 1 unknown tabled (Some (array (item (table_data table) no_items))))) ≡ Ok file)
  by_scale (Err f) file = (λ e. e, λ e. e)
  by_scale (Ok unknown) file =
      let both = same_outcome (origins_in unknown top) (general_in top) (setup_channels_in top) file in
      let moved : second (origins_in unknown top) (general_in top) (setup_channels_in top)
      ≡ second (origins_in unknown table) (general_in tabled) (setup_channels_in table) =
      ap (λ g. second (origins_in unknown top) g (setup_channels_in top)) same_general
      ∙ rw (say.origin, say.origins, say.channel) refl in (
        λ e. in_table unknown ∙ (sym moved ∙ both.0 (sym (at_top unknown) ∙ e)),
        λ e. at_top unknown ∙ both.1 (moved ∙ (sym (in_table unknown) ∙ e)),
      )

  pub same_files : (file : FileData) → (file_in 1 top ≡ Ok file) ↔ (file_in 1 tabled ≡ Ok file)
  same_files file =
      let both = by_scale (unknown_scale top) file in
      let top_is : file_in 1 top ≡ (unknown_scale top >>= (λ unknown. file_by 1 unknown top None)) =
      rw (only_ok file_keys top say.top_known, say.no_table) refl in
      let tabled_is : file_in 1 tabled
      ≡ (unknown_scale top >>= (λ unknown. file_by 1 unknown tabled (Some (array (item (table_data table) no_items))))) =
      rw (only_ok file_keys tabled say.tabled_known, say.one_table)
      (ap (λ s. s >>= (λ unknown. file_by 1 unknown tabled (Some (array (item (table_data table) no_items)))))
      (sym (same_scale top tabled say.scale say.tai_offset))) in (
        λ e. tabled_is ∙ both.0 (sym top_is ∙ e),
        λ e. top_is ∙ both.1 (sym tabled_is ∙ e),
      )
