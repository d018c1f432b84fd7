-- Frames that a program accepts.
use Rattle.std.proofs.Common.{◌≡◌, ◌≢◌, ℕ, ◌+◌, ◌≤◌, true, false, not, eqb, IsTrue, List, [], ◌∷◌, ◌++◌}
use Rattle.std.proofs.Common.{length, All, sym, ap, subst, ◌∙◌, arith, ne_eqb, eq-eqb}
use Rattle.std.proofs.lemmas.List.{append_assoc, append-nil, length-append}
use Rattle.std.proofs.lemmas.List.Elements.{All-push, All-same}
use Rattle.bpf_insn.specs.declared.insn.Insn.{Insn}
use Rattle.bpf_verify.specs.Validity.{Valid}
use Rattle.bpf_machine.specs.Machine.{Runs}
use Rattle.eth_frame.specs.Frame.{FrameData, view}
use Rattle.ch11_packet.specs.FramesRead.{ReadFrameData, frame_in}
use Rattle.rec_reader.specs.Audits.{IsWhole, Accepts, RefusesFirst}

-- a program has one value on a view
abbrev pub OneRun : Type 0
OneRun = (program : List Insn) (seen : List ℕ) (steps value count other : ℕ) → Runs program seen steps value → Runs program seen count other
    → (steps ≡ count) × (value ≡ other)

not_zero : (value : ℕ) → IsTrue (not (eqb value 0)) → value ≢ 0
not_zero value test = λ e. (let zero_is : not (eqb value 0) ≡ false = ap not (eq-eqb value 0 e) in let wrong : true ≡ false = sym test ∙ zero_is in cc)

pub accepts_is : OneRun → (program : List Insn) (read : ReadFrameData) (frame : FrameData) (steps value : ℕ)
    → Valid program → IsWhole read → frame ≡ frame_in read → Runs program (view frame) steps value
    → (IsTrue (not (eqb value 0)) → Accepts program read) × (Accepts program read → IsTrue (not (eqb value 0)))
accepts_is one program read frame steps value valid whole same runs =
    let here = subst (λ bytes. Runs program bytes steps value) (ap view same) runs in (
      λ test. record { valid = valid; whole = whole; steps = steps; value = value; runs = here; accepted = not_zero value test },
      λ accepts. ap not (ne_eqb value 0 (λ e. accepts.accepted (sym
          (one program (view (frame_in read)) steps value accepts.steps accepts.value here accepts.runs).1 ∙ e))),
    )

-- one frame more that is accepted
pub one_more_accepted : (program : List Insn) (frames before left rest : List ReadFrameData) (frame : ReadFrameData) (number : ℕ)
    → frames ≡ before ++ left → left ≡ frame ∷ rest → number ≡ length before → All (Accepts program) before → Accepts program frame → length frames ≤ 65535
    → (after : List ReadFrameData) × (frames ≡ after ++ rest) × (number + 1 ≡ length after) × All (Accepts program) after × (length frames ≤ 65535)
one_more_accepted program frames before left rest frame number whole first many accepted accepts few = (
  before ++ frame ∷ [],
  whole ∙ ap (λ l. before ++ l) first ∙ sym (append_assoc before (frame ∷ []) rest),
  (let long = length-append before (frame ∷ []) in omega arith),
  All-push (Accepts program) before frame accepted accepts,
  few,
)

pub all_accepted : (program : List Insn) (frames before left : List ReadFrameData) → frames ≡ before ++ left → left ≡ [] → All (Accepts program) before
    → All (Accepts program) frames
all_accepted program frames before left whole none accepted =
    All-same (Accepts program) frames before (whole ∙ ap (λ l. before ++ l) none ∙ append-nil before) accepted
