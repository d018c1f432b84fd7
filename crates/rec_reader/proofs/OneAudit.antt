-- Packets have one audit.
-- idea: the first packet that doesn't pass is one packet, since those before it pass; what is wrong with it is one fault,
-- since the faults are looked for in an order; and lines in ascending order of the same channels are one list.
use Rattle.std.proofs.Common.{◌≡◌, ◌≢◌, ℕ, ◌<◌, inl, inr, List, [], ◌∷◌, ◌++◌, length, map, All, Contains}
use Rattle.std.proofs.Common.{Option, None, Some, Result, Ok, Err, refl, sym, ap, subst, ◌∙◌, arith}
use Rattle.std.specs.List.Sorted.{IsStrictlySortedBy, IsStrictlyIncreasing}
use Rattle.std.specs.Ordering.{nat_cmp}
use Rattle.std.specs.declared.cmp.Ordering.TheVariants.{Less}
use Rattle.std.proofs.lemmas.Bool.{cases_order}
use Rattle.std.proofs.lemmas.Cmp.{ranked}
use Rattle.std.proofs.lemmas.Map.Views.{All-after_first}
use Rattle.std.proofs.lemmas.Map.Keys.{sorted_tail, sorted_from_strictly_increasing}
use Rattle.std.proofs.lemmas.List.Elements.{All-contains, Contains-append_right}
use Rattle.bpf_insn.specs.declared.insn.Insn.{Insn}
use Rattle.ch11_packet.specs.FramesRead.{ReadFrameData}
use Rattle.rec_reader.specs.declared.audits.answer.Audit.{Audit}
use Rattle.rec_reader.specs.declared.audits.answer.AuditLine.{AuditLine}
use Rattle.rec_reader.specs.declared.audits.answer.AuditFault.{AuditFault}
use Rattle.rec_reader.specs.declared.audits.answer.AuditFault.TheVariants.{NotAccepted, Memory}
use Rattle.rec_reader.specs.declared.audits.channel.ChannelProgram.{ChannelProgram}
use Rattle.rec_reader.specs.declared.audits.channel.ChannelEnd.{ChannelEnd}
use Rattle.rec_reader.specs.Packets.{PacketData}
use Rattle.rec_reader.specs.Channels.{Saying, saying_of, last_program, last_end, capped}
use Rattle.rec_reader.specs.Channels.Saying.{OfFrames, OfProgram, OfEnd}
use Rattle.rec_reader.specs.Audits.{Accepts, RefusesFirst, IsJudgement, JudgesSaying, Judges, EachPasses, StopsAt}
use Rattle.rec_reader.specs.Audits.{IsClosing, Closes, EndsWith, line_of, AreLines, IsAudit, Audits}
use Rattle.rec_reader.proofs.ListSplits.{meets, first_of, later_of, first_or_later, none_in}

-- ---- one packet

pub in_middle : {A : Type 0} (P : A → Type 0) (before : List A) (x : A) (after : List A) → All P (before ++ x ∷ after) → P x
in_middle P before x after all =
    All-contains P (before ++ x ∷ after) x all (Contains-append_right before (x ∷ after) x (let first : Contains (x ∷ after) x = (0, omega arith, refl) in
    first))

pub refuses_some : (program : List Insn) (frames : List ReadFrameData) (number : ℕ) → RefusesFirst program frames number → All (Accepts program) frames → ⊥
refuses_some program frames number refuses all =
    refuses.refused (in_middle (Accepts program) refuses.before refuses.frame refuses.after (subst (All (Accepts program)) refuses.whole all))

one_refusal : (program : List Insn) (frames : List ReadFrameData) (number other : ℕ) → RefusesFirst program frames number → RefusesFirst program frames other
    → number ≡ other
one_refusal program frames number other a b =
    elim (meets a.before a.frame a.after b.before b.frame b.after (sym a.whole ∙ b.whole)) [
      | inl same ↦ a.number_is ∙ ap length same.0 ∙ sym b.number_is
      | inr (inl earlier) ↦ absurd (a.refused (in_middle (Accepts program) a.before a.frame earlier.0 (subst (All (Accepts program)) earlier.1 b.accepted)))
      | inr (inr later) ↦ absurd (b.refused (in_middle (Accepts program) b.before b.frame later.0 (subst (All (Accepts program)) later.1 a.accepted)))
    ]

one_judgement : (place : ℕ) (end : Option ChannelEnd) (saying : Saying) (last : Option ChannelProgram) (answer other : Option AuditFault)
    → IsJudgement place end saying last answer → IsJudgement place end saying last other → answer ≡ other
one_judgement place (Some end) saying last answer other a b = a ∙ sym b
one_judgement place None (OfFrames frames) None answer other a b = a ∙ sym b
one_judgement place None (OfFrames frames) (Some program) None None a b = refl
one_judgement place None (OfFrames frames) (Some program) None (Some fault) a b = absurd (refuses_some program.insns frames b.0 b.2 a)
one_judgement place None (OfFrames frames) (Some program) (Some fault) None a b = absurd (refuses_some program.insns frames a.0 a.2 b)
one_judgement place None (OfFrames frames) (Some program) (Some fault) (Some other) a b =
    ap Some (a.1 ∙ ap (NotAccepted place) (one_refusal program.insns frames a.0 b.0 a.2 b.2) ∙ sym b.1)
one_judgement place None (OfProgram program) last None None a b = refl
one_judgement place None (OfProgram program) last None (Some fault) a (inl b) = absurd (b.1 a.0)
one_judgement place None (OfProgram program) last None (Some fault) a (inr b) = absurd (b.2 a.1)
one_judgement place None (OfProgram program) last (Some fault) None (inl a) b = absurd (a.1 b.0)
one_judgement place None (OfProgram program) last (Some fault) None (inr a) b = absurd (a.2 b.1)
one_judgement place None (OfProgram program) last (Some fault) (Some other) (inl a) (inl b) = ap Some (a.0 ∙ sym b.0)
one_judgement place None (OfProgram program) last (Some fault) (Some other) (inl a) (inr b) = absurd (a.1 b.1)
one_judgement place None (OfProgram program) last (Some fault) (Some other) (inr a) (inl b) = absurd (b.1 a.1)
one_judgement place None (OfProgram program) last (Some fault) (Some other) (inr a) (inr b) = ap Some (a.0 ∙ sym b.0)
one_judgement place None (OfEnd end) last answer other a b = a ∙ sym b

one_saying : (before : List PacketData) (said : Option (ℕ × Saying)) (answer other : Option AuditFault) → JudgesSaying before said answer
    → JudgesSaying before said other → answer ≡ other
one_saying before None answer other a b = a ∙ sym b
one_saying before (Some (channel, saying)) answer other a b =
    one_judgement (capped (length before)) (last_end channel before) saying (last_program channel before) answer other a b

pub one_answer : (before : List PacketData) (packet : PacketData) (answer other : Option AuditFault) → Judges before packet answer → Judges before packet other
    → answer ≡ other
one_answer before packet answer other a b = one_saying before (saying_of packet) answer other a b

no_answer : (before : List PacketData) (packet : PacketData) (fault : AuditFault) → Judges before packet None → Judges before packet (Some fault) → ⊥
no_answer before packet fault a b = let e = one_answer before packet None (Some fault) a b in cc

one_fault : (before : List PacketData) (packet : PacketData) (fault other : AuditFault) → Judges before packet (Some fault) → Judges before packet (Some other)
    → fault ≡ other
one_fault before packet fault other a b = let e = one_answer before packet (Some fault) (Some other) a b in cc

-- ---- one channel at the end

one_closing : (channel : ℕ) (end : Option ChannelEnd) (last : Option ChannelProgram) (frames : ℕ) (answer other : Option AuditFault)
    → IsClosing channel end last frames answer → IsClosing channel end last frames other → answer ≡ other
one_closing channel None last frames answer other a b = a ∙ sym b
one_closing channel (Some end) last frames None None a b = refl
one_closing channel (Some end) last frames None (Some fault) a b = absurd (b.1 a)
one_closing channel (Some end) last frames (Some fault) None a b = absurd (a.1 b)
one_closing channel (Some end) last frames (Some fault) (Some other) a b = ap Some (a.0 ∙ sym b.0)

open_and_closed : (packets : List PacketData) (channel : ℕ) (fault : AuditFault) → Closes packets channel None → Closes packets channel (Some fault) → ⊥
open_and_closed packets channel fault a b = let e = one_closing channel _ _ _ None (Some fault) a b in cc

one_end_fault : (packets : List PacketData) (channel : ℕ) (fault other : AuditFault) → Closes packets channel (Some fault)
    → Closes packets channel (Some other) → fault ≡ other
one_end_fault packets channel fault other a b = let e = one_closing channel _ _ _ (Some fault) (Some other) a b in cc

-- ---- the packets

pub stops_or_passes : (packets : List PacketData) (fault : AuditFault) → StopsAt packets fault → EachPasses packets → ⊥
stops_or_passes packets fault stops passed = no_answer stops.before stops.packet fault (passed stops.before stops.packet stops.after stops.whole) stops.judged

one_stop : (packets : List PacketData) (fault other : AuditFault) → StopsAt packets fault → StopsAt packets other → fault ≡ other
one_stop packets fault other a b =
    elim (meets a.before a.packet a.after b.before b.packet b.after (sym a.whole ∙ b.whole)) [
      | inl same ↦ one_fault a.before a.packet fault other a.judged
          (subst (λ ps. Judges ps a.packet (Some other)) (sym same.0) (subst (λ p. Judges b.before p (Some other)) (sym same.1) b.judged))
      | inr (inl earlier) ↦ absurd (no_answer a.before a.packet fault (b.passed a.before a.packet earlier.0 earlier.1) a.judged)
      | inr (inr later) ↦ absurd (no_answer b.before b.packet other (a.passed b.before b.packet later.0 later.1) b.judged)
    ]

one_end : (packets : List PacketData) (fault other : AuditFault) → EndsWith packets fault → EndsWith packets other → fault ≡ other
one_end packets fault other a b =
    elim (cases_order a.channel b.channel) [
      | inl same ↦ one_end_fault packets a.channel fault other a.closed (subst (λ c. Closes packets c (Some other)) (sym same) b.closed)
      | inr (inl less) ↦ absurd (open_and_closed packets a.channel fault (b.lower a.channel less a.named) a.closed)
      | inr (inr more) ↦ absurd (open_and_closed packets b.channel other (a.lower b.channel more b.named) b.closed)
    ]

ends_or_closes : (packets : List PacketData) (audit : Audit) (fault : AuditFault) → IsAudit packets audit → EndsWith packets fault → ⊥
ends_or_closes packets audit fault is ends = open_and_closed packets ends.channel fault (is.closed ends.channel ends.named) ends.closed

-- ---- the lines

-- each number of a list is above this one
abbrev Above : ℕ → List ℕ → Type 0
Above x xs = (y : ℕ) → Contains xs y → x < y

-- each number is above those before it
Ascends : List ℕ → Type 0
Ascends [] = Unit {0}
Ascends (x ∷ xs) = Above x xs × Ascends xs

-- two such lists of the same numbers are one
same_list : (xs ys : List ℕ) → Ascends xs → Ascends ys → ((x : ℕ) → Contains xs x → Contains ys x) → ((y : ℕ) → Contains ys y → Contains xs y) → xs ≡ ys
unfolding Ascends
same_list [] [] a b there back = refl
same_list [] (y ∷ ys) a b there back = absurd (none_in y (back y (first_of y ys)))
same_list (x ∷ xs) [] a b there back = absurd (none_in x (there x (first_of x xs)))
same_list (x ∷ xs) (y ∷ ys) a b there back =
    let head : x ≡ y =
    elim (first_or_later y ys x (there x (first_of x xs))) [
      | inl e ↦ sym e
      | inr in_ys ↦ (
          elim (first_or_later x xs y (back y (first_of y ys))) [
            | inl e ↦ e
            | inr in_xs ↦ (let less = b.0 x in_ys in let more = a.0 y in_xs in absurd (omega arith))
          ])
    ] in
    let tail : xs ≡ ys =
    same_list xs ys a.1 b.1
    (λ z has. elim (first_or_later y ys z (there z (later_of x xs z has))) [ inl e ↦ (let above = a.0 z has in absurd (omega arith)) | inr later ↦ later ])
    (λ z has. elim (first_or_later x xs z (back z (later_of y ys z has))) [ inl e ↦ (let above = b.0 z has in absurd (omega arith)) | inr later ↦ later ]) in
    cc

ascends : (xs : List ℕ) → IsStrictlySortedBy nat_cmp xs → Ascends xs
unfolding Ascends
ascends [] sorted = tt
ascends (x ∷ xs) sorted = (
  λ y has. ranked x y Less (sym (All-contains (λ z. nat_cmp x z ≡ Less) xs y (All-after_first nat_cmp x xs sorted) has)),
  ascends xs (sorted_tail nat_cmp x xs sorted),
)

pub one_list : (xs ys : List ℕ) → IsStrictlyIncreasing xs → IsStrictlyIncreasing ys → ((x : ℕ) → Contains xs x → Contains ys x)
    → ((y : ℕ) → Contains ys y → Contains xs y) → xs ≡ ys
one_list xs ys a b there back =
    same_list xs ys (ascends xs (sorted_from_strictly_increasing xs a)) (ascends ys (sorted_from_strictly_increasing ys b)) there back

one_lines : (packets : List PacketData) (lines others : List AuditLine) → AreLines packets lines → AreLines packets others → lines ≡ others
one_lines packets lines others a b =
    let channels = one_list a.channels b.channels a.ascending b.ascending (λ c has. (b.all c).1 ((a.all c).0 has)) (λ c has. (a.all c).1 ((b.all c).0 has)) in
    a.lines_are ∙ ap (map (line_of packets)) channels ∙ sym b.lines_are

-- ---- the answer

same_parts : (channels others : List AuditLine) (n m : ℕ) → channels ≡ others → n ≡ m
    → ◌≡◌ {A = Audit} (record { channels = channels; other = n }) (record { channels = others; other = m })
same_parts channels others n m e f = cc

same_audit : (audit other : Audit) → audit.channels ≡ other.channels → audit.other ≡ other.other → audit ≡ other
same_audit audit other channels count = same_parts audit.channels other.channels audit.other other.other channels count

pub one_audit : (packets : List PacketData) (answer other : Result Audit AuditFault) → Audits packets answer → Audits packets other → answer ≢ Err Memory
    → other ≢ Err Memory → answer ≡ other
one_audit packets (Ok audit) (Ok other) a b here there =
    ap Ok (same_audit audit other (one_lines packets audit.channels other.channels a.lines b.lines) (a.other ∙ sym b.other))
one_audit packets (Ok audit) (Err fault) a (inl b) here there = absurd (there (ap Err b))
one_audit packets (Ok audit) (Err fault) a (inr (inl b)) here there = absurd (stops_or_passes packets fault b a.passed)
one_audit packets (Ok audit) (Err fault) a (inr (inr b)) here there = absurd (ends_or_closes packets audit fault a b)
one_audit packets (Err fault) (Ok audit) (inl a) b here there = absurd (here (ap Err a))
one_audit packets (Err fault) (Ok audit) (inr (inl a)) b here there = absurd (stops_or_passes packets fault a b.passed)
one_audit packets (Err fault) (Ok audit) (inr (inr a)) b here there = absurd (ends_or_closes packets audit fault b a)
one_audit packets (Err fault) (Err other) (inl a) b here there = absurd (here (ap Err a))
one_audit packets (Err fault) (Err other) (inr a) (inl b) here there = absurd (there (ap Err b))
one_audit packets (Err fault) (Err other) (inr (inl a)) (inr (inl b)) here there = ap Err (one_stop packets fault other a b)
one_audit packets (Err fault) (Err other) (inr (inl a)) (inr (inr b)) here there = absurd (stops_or_passes packets fault a b.passed)
one_audit packets (Err fault) (Err other) (inr (inr a)) (inr (inl b)) here there = absurd (stops_or_passes packets other b a.passed)
one_audit packets (Err fault) (Err other) (inr (inr a)) (inr (inr b)) here there = ap Err (one_end packets fault other a b)
