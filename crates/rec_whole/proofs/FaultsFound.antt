-- Where the audit answers no fault of packets, it answers none of those that say the same of each channel.
-- idea: a packet passes or has a fault, and to refute a fault it is enough that this can't be refuted; so nothing is run.
use Rattle.std.proofs.Common.{ℕ, zero, suc, ◌≡◌, ◌≢◌, ◌<◌, ◌⊎◌, inl, inr, List, [], ◌∷◌, ◌++◌, length, Option, None, Some, refl, sym, subst, ap, ◌∙◌, arith}
use Rattle.std.specs.List.{AllByRecursion}
use Rattle.std.proofs.lemmas.Bool.{cases_eq}
use Rattle.std.proofs.lemmas.List.{append_assoc, append-nil}
use Rattle.std.proofs.lemmas.List.Elements.{All-from_recursion, All-nil, All-cons}
use Rattle.bpf_insn.specs.declared.insn.Insn.{Insn}
use Rattle.bpf_verify.specs.Validity.{Valid}
use Rattle.ch11_packet.specs.FramesRead.{ReadFrameData}
use Rattle.rec_reader.specs.declared.audits.answer.AuditFault.{AuditFault}
use Rattle.rec_reader.specs.declared.audits.answer.AuditFault.TheVariants.{NoProgram, BadProgram, NotAccepted, Order, NoEnd, Counts, Memory}
use Rattle.rec_reader.specs.declared.audits.channel.ChannelProgram.{ChannelProgram}
use Rattle.rec_reader.specs.declared.audits.channel.ChannelEnd.{ChannelEnd}
use Rattle.rec_reader.specs.Packets.{PacketData}
use Rattle.rec_reader.specs.ChannelFrames.{channel_frames}
use Rattle.rec_reader.specs.Channels.{Saying, saying_of, IsNamed, last_program, last_end, capped}
use Rattle.rec_reader.specs.Channels.Saying.{OfFrames, OfProgram, OfEnd}
use Rattle.rec_reader.specs.Audits.{Accepts, RefusesFirst, FollowsProgram, IsJudgement, JudgesSaying, EachPasses}
use Rattle.rec_reader.specs.Audits.{HasCounts, IsClosing, Closes}
use Rattle.rec_reader.proofs.OneAudit.{stops_or_passes}
use Rattle.rec_reader.proofs.Walking.{none_pass, passes_one_more}
use Rattle.rec_whole.specs.FilesFound.{HasNoFault}
use Rattle.rec_whole.proofs.PassingChannels.{SaysSome, SayTheSame, closes_found, each_found, named_found}

-- it can't be refuted
abbrev CanBe : Type 0 → Type 0
CanBe A = (A → ⊥) → ⊥

-- nothing is wrong, or a fault other than that of memory
abbrev Answered : (Option AuditFault → Type 0) → Type 0
Answered Is = Is None ⊎ ((fault : AuditFault) × (fault ≢ Memory) × Is (Some fault))

-- ---- a packet

accepted_or_not : (program : List Insn) (frames : List ReadFrameData)
    → CanBe (AllByRecursion (Accepts program) frames ⊎ ((number : ℕ) × RefusesFirst program frames number))
accepted_or_not program [] k = k (inl tt)
accepted_or_not program (f ∷ fs) k =
    let no : Accepts program f → ⊥ = λ yes. accepted_or_not program fs (λ rest. elim rest as (λ _. ⊥) [
      | inl all ↦ k (inl (yes, all))
      | inr (number, refused) ↦ k (inr (
        suc number,
        record {
          before = f ∷ refused.before;
          frame = refused.frame;
          after = refused.after;
          whole = ap (λ l. f ∷ l) refused.whole;
          number_is = ap suc refused.number_is;
          accepted = All-cons (Accepts program) f refused.before yes refused.accepted;
          refused = refused.refused;
        },
      ))
    ]) in
    k (inr (
      0,
      record {
        before = [];
        frame = f;
        after = fs;
        whole = refl;
        number_is = refl;
        accepted = All-nil (Accepts program);
        refused = no;
      },
    ))

order_isnt : (n : ℕ) → Order n ≢ Memory
order_isnt n e = cc

no_program_isnt : (n : ℕ) → NoProgram n ≢ Memory
no_program_isnt n e = cc

not_accepted_isnt : (n k : ℕ) → NotAccepted n k ≢ Memory
not_accepted_isnt n k e = cc

bad_program_isnt : (n : ℕ) → BadProgram n ≢ Memory
bad_program_isnt n e = cc

no_end_isnt : (n : ℕ) → NoEnd n ≢ Memory
no_end_isnt n e = cc

counts_isnt : (n : ℕ) → Counts n ≢ Memory
counts_isnt n e = cc

judgement : (number : ℕ) (end : Option ChannelEnd) (saying : Saying) (last : Option ChannelProgram) → CanBe (Answered (IsJudgement number end saying last))
judgement number (Some end) saying last k = k (inr (Order number, order_isnt number, refl))
judgement number None (OfFrames frames) None k = k (inr (NoProgram number, no_program_isnt number, refl))
judgement number None (OfFrames frames) (Some program) k = accepted_or_not program.insns frames (λ rest. elim rest as (λ _. ⊥) [
  | inl all ↦ k (inl (All-from_recursion (Accepts program.insns) frames all))
  | inr refused ↦ k (inr (NotAccepted number refused.0, not_accepted_isnt number refused.0, (refused.0, refl, refused.1)))
])
judgement number None (OfProgram program) last k =
    let no : FollowsProgram last program → ⊥ = λ follows.
    let bad : Valid program.insns → ⊥ = λ valid. k (inl (follows, valid)) in
    k (inr (BadProgram number, bad_program_isnt number, inr (refl, follows, bad))) in
    k (inr (Order number, order_isnt number, inl (refl, no)))
judgement number None (OfEnd end) last k = k (inl refl)

judged_said : (before : List PacketData) (said : Option (ℕ × Saying)) → CanBe (Answered (JudgesSaying before said))
judged_said before None k = k (inl refl)
judged_said before (Some (channel, saying)) k =
    judgement (capped (length before)) (last_end channel before) saying (last_program channel before) k

-- ---- all packets

module _ (packets : List PacketData) (right : HasNoFault packets) where
  passes_from : (before rest : List PacketData) → packets ≡ before ++ rest → EachPasses before → CanBe (EachPasses packets)
  passes_from before [] whole passed k = k (subst EachPasses (sym (whole ∙ append-nil before)) passed)
  passes_from before (p ∷ ps) whole passed k = judged_said before (saying_of p) (λ answer. elim answer as (λ _. ⊥) [
    | inl pass ↦ passes_from (before ++ p ∷ []) ps (whole ∙ sym (append_assoc before (p ∷ []) ps)) (passes_one_more before p passed pass) k
    | inr wrong ↦ wrong.1 (right wrong.0 (inr (inl (record {
      before = before;
      packet = p;
      after = ps;
      whole = whole;
      passed = passed;
      judged = wrong.2;
    }))))
  ])

  passes : CanBe (EachPasses packets)
  passes = passes_from [] packets refl none_pass

  closing : (channel : ℕ) (end : Option ChannelEnd) (last : Option ChannelProgram) (frames : ℕ) → CanBe (Answered (IsClosing channel end last frames))
  closing channel None last frames k = k (inr (NoEnd channel, no_end_isnt channel, refl))
  closing channel (Some end) last frames k =
      let no : HasCounts last frames end → ⊥ = λ has. k (inl has) in
      k (inr (Counts channel, counts_isnt channel, (refl, no)))

  closed_or_not : (channel : ℕ) → CanBe (Answered (Closes packets channel))
  closed_or_not channel = closing channel (last_end channel packets) (last_program channel packets) (length (channel_frames channel packets))

  abbrev CloseBelow : (end : ℕ) → Type 0
  CloseBelow end = (channel : ℕ) → channel < end → IsNamed channel packets → Closes packets channel None

  one_more : (end : ℕ) → CloseBelow end → (IsNamed end packets → Closes packets end None) → CloseBelow (suc end)
  one_more end low last channel less named = elim (cases_eq channel end) as (λ _. Closes packets channel None) [
    | inl same ↦ subst (λ n. Closes packets n None) (sym same) (last (subst (λ n. IsNamed n packets) same named))
    | inr other ↦ low channel (omega (arith, less, other)) named
  ]

  close_below : EachPasses packets → (end : ℕ) → CanBe (CloseBelow end)
  close_below passed zero k = k (λ channel less named. absurd (omega (arith, less)))
  close_below passed (suc end) k = close_below passed end (λ low. closed_or_not end (λ answer. elim answer as (λ _. ⊥) [
    | inl closed ↦ k (one_more end low (λ named. closed))
    | inr wrong ↦ k (one_more end low (λ named. absurd (wrong.1 (right wrong.0 (inr (inr (record {
      passed = passed;
      channel = end;
      named = named;
      lower = low;
      closed = wrong.2;
    })))))))
  ]))

  closes : EachPasses packets → (channel : ℕ) → IsNamed channel packets → CanBe (Closes packets channel None)
  closes passed channel named k = close_below passed (suc channel) (λ low. k (low channel (omega arith) named))

not_both : (channel : ℕ) (end : Option ChannelEnd) (last : Option ChannelProgram) (frames : ℕ) (fault : AuditFault)
    → IsClosing channel end last frames None → IsClosing channel end last frames (Some fault) → ⊥
not_both channel None last frames fault a b = cc
not_both channel (Some end) last frames fault a b = b.1 a

pub no_fault_found : (packets found : List PacketData) → SayTheSame packets found → AllByRecursion (λ (p : PacketData). SaysSome (saying_of p)) found
    → HasNoFault packets → HasNoFault found
no_fault_found packets found same some right fault (inl memory) = memory
no_fault_found packets found same some right fault (inr (inl stops)) =
    absurd (passes packets right (λ passed. stops_or_passes found fault stops (each_found packets found same some passed)))
no_fault_found packets found same some right fault (inr (inr ends)) =
    absurd (passes packets right (λ passed.
    closes packets right passed ends.channel (named_found packets found ends.channel same some ends.named) (λ closed.
    not_both ends.channel _ _ _ fault (closes_found packets found ends.channel same closed) ends.closed)))
