-- Histories that begin and grow, and the version in force at a frame.
use Rattle.std.proofs.Common.{ℕ, ◌-◌, ◌≡◌, ◌<◌, ◌≤◌, List, [], ◌∷◌, ◌++◌, length, Some, get_or, arith, All}
use Rattle.std.specs.Prelude.{slice_get}
use Rattle.std.proofs.lemmas.List.{length-append}
use Rattle.std.proofs.lemmas.List.Elements.{All-append, All-cons, All-nil}
use Rattle.std.proofs.lemmas.List.Quantifiers.{all_pairs_push}
use Rattle.std.proofs.lemmas.Option.{slice_get_within, slice_get-get_or, slice_get-map, slice_get_read}
use Rattle.bpf_insn.specs.Bytes.{AreInRange}
use Rattle.bpf_verify.specs.Validity.{Valid}
use Rattle.rec_channel.specs.History.{Version, IsHistory, InForce}
use Rattle.rec_channel.proofs.Versions.{rows}

abbrev pub IsValid : Version → Type 0
IsValid v = Valid v.program

abbrev pub IsInRange : Version → Type 0
IsInRange v = AreInRange v.program

abbrev pub Within : ℕ → Version → Type 0
Within offered v = v.mark ≤ offered

all_one : (P : Version → Type 0) (v : Version) → P v → All P (v ∷ [])
all_one P v h = All-cons P v [] h (All-nil P)

first_of_more : (history : List Version) (v w : Version) → 0 < length history → slice_get (history ++ v ∷ []) 0 ≡ Some w → slice_get history 0 ≡ Some w
first_of_more [] v w some is = absurd (omega (arith, some))
first_of_more (x ∷ xs) v w some is = is

-- a program that is installed at the present count leaves a history one
pub one_version_more : (history : List Version) (offered : ℕ) (v : Version) → IsHistory offered history → Valid v.program → AreInRange v.program
    → v.mark ≡ offered → IsHistory offered (history ++ v ∷ [])
one_version_more history offered v h valid ranged now = record {
  some = let e = length-append history (v ∷ []) in omega (arith, e);
  valid = All-append IsValid history (v ∷ []) h.valid (all_one IsValid v valid);
  in_range = All-append IsInRange history (v ∷ []) h.in_range (all_one IsInRange v ranged);
  first = λ w is. h.first w (first_of_more history v w h.some is);
  rise = all_pairs_push (λ (x y : Version). x.mark ≤ y.mark) history v h.rise (λ k d within. let e = h.past k d within in omega (arith, e, now));
  past = All-append (Within offered) history (v ∷ []) h.past (all_one (Within offered) v (omega (arith, now)));
}

-- the last version is in force at every frame from now on
pub last_is_in_force : (history : List Version) (offered : ℕ) → IsHistory offered history → InForce history offered (length history - 1)
last_is_in_force history offered h =
    let v : Version = record { program = []; mark = 0 } in
    let last : length history - 1 < length history = let e = h.some in omega (arith, e) in
    record {
      entry = get_or history (length history - 1) v;
      stands = slice_get-get_or history (length history - 1) v last;
      begun = h.past (length history - 1) v last;
      last = λ other w is begun. let e = slice_get_within history other w is in omega (arith, e);
    }

-- the last version, its program, and that it is in force
pub ruleset last_version = (rows, slice_get-map, slice_get_read, last_is_in_force)
