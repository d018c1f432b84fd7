-- What packets say decides their audit and the frames of their channels.
-- idea: the audit reads of a packet its channel and what it says, so lists whose packets are alike place by place have
-- the same saying at each place, and each definition of the audit is taken over from one to the other.
use Rattle.std.proofs.Common.{◌≡◌, ℕ, ◌+◌, inl, inr, List, [], ◌∷◌, ◌++◌, length, map, cond, Option, None, Some, Result, Ok, Err, refl, sym, ap, subst, ◌∙◌}
use Rattle.std.specs.Prelude.{◌==◌, if◌then◌else◌}
use Rattle.std.specs.List.{AllZip, flat_map, last_or}
use Rattle.std.proofs.lemmas.List.Elements.{length_all_zip}
use Rattle.std.proofs.lemmas.List.Sums.{sum_by-cons}
use Rattle.ch11_packet.specs.Classes.{data_in}
use Rattle.rec_reader.specs.declared.audits.answer.Audit.{Audit}
use Rattle.rec_reader.specs.declared.audits.answer.AuditLine.{AuditLine}
use Rattle.rec_reader.specs.declared.audits.answer.AuditFault.{AuditFault}
use Rattle.rec_reader.specs.Packets.{PacketData}
use Rattle.rec_reader.specs.ChannelFrames.{packet_frames, frames_held, channel_frames}
use Rattle.rec_reader.specs.Channels.{Saying, saying_in, saying_of, IsNamed, program_said, programs_of, end_said, ends_of, last_program, last_end, capped}
use Rattle.rec_reader.specs.Audits.{IsJudgement, JudgesSaying, Judges, EachPasses, StopsAt, IsClosing, Closes}
use Rattle.rec_reader.specs.Audits.{EndsWith, line_with, line_of, AreLines, is_other, other_count, Audits}

-- ---- two packets

-- they are of one channel, and hold the same
pub record Alike (one other : PacketData) : Type 0 where
  pub channel : other.header.channel ≡ one.header.channel
  pub what : other.what ≡ one.what
  pub bytes : data_in other.header other.body ≡ data_in one.header one.body

swapped : (p q : PacketData) → Alike p q → Alike q p
swapped p q a = record { channel = sym a.channel; what = sym a.what; bytes = sym a.bytes }

pub same_saying : (p q : PacketData) → Alike p q → saying_of q ≡ saying_of p
same_saying p q a =
    ap (λ c. saying_in c q.what (data_in q.header q.body)) a.channel
    ∙ ap (λ w. saying_in p.header.channel w (data_in q.header q.body)) a.what
    ∙ ap (λ d. saying_in p.header.channel p.what d) a.bytes

same_held : (p q : PacketData) → Alike p q → packet_frames q ≡ packet_frames p
same_held p q a = ap (λ w. frames_held w (data_in q.header q.body)) a.what ∙ ap (λ d. frames_held p.what d) a.bytes

-- ---- lists of them

-- each packet is like the one at its place
abbrev pub AreAlike : List PacketData → List PacketData → Type 0
AreAlike ps qs = AllZip Alike ps qs

pub all_swapped : (ps qs : List PacketData) → AreAlike ps qs → AreAlike qs ps
all_swapped [] [] a = tt
all_swapped [] (q ∷ qs) a = absurd a
all_swapped (p ∷ ps) [] a = absurd a
all_swapped (p ∷ ps) (q ∷ qs) a = (swapped p q a.0, all_swapped ps qs a.1)

pub map_same : {A : Type 0} (f : PacketData → A) → ((p q : PacketData) → Alike p q → f q ≡ f p) → (ps qs : List PacketData) → AreAlike ps qs
    → map f qs ≡ map f ps
map_same f same [] [] a = refl
map_same f same [] (q ∷ qs) a = absurd a
map_same f same (p ∷ ps) [] a = absurd a
map_same f same (p ∷ ps) (q ∷ qs) a = ap (λ x. x ∷ map f qs) (same p q a.0) ∙ ap (λ l. f p ∷ l) (map_same f same ps qs a.1)

flat_same : {A : Type 0} (f : PacketData → List A) → ((p q : PacketData) → Alike p q → f q ≡ f p) → (ps qs : List PacketData) → AreAlike ps qs
    → flat_map f qs ≡ flat_map f ps
flat_same f same [] [] a = refl
flat_same f same [] (q ∷ qs) a = absurd a
flat_same f same (p ∷ ps) [] a = absurd a
flat_same f same (p ∷ ps) (q ∷ qs) a = ap (λ l. l ++ flat_map f qs) (same p q a.0) ∙ ap (λ l. f p ++ l) (flat_same f same ps qs a.1)

pub frames_same : (channel : ℕ) (ps qs : List PacketData) → AreAlike ps qs → channel_frames channel qs ≡ channel_frames channel ps
frames_same channel =
    flat_same (λ (p : PacketData). if p.header.channel == channel then packet_frames p else [])
    (λ p q a. ap (λ n. if n == channel then packet_frames q else []) a.channel ∙ ap (λ l. if p.header.channel == channel then l else []) (same_held p q a))

programs_same : (channel : ℕ) (ps qs : List PacketData) → AreAlike ps qs → programs_of channel qs ≡ programs_of channel ps
programs_same channel =
    flat_same (λ (p : PacketData). program_said channel (saying_of p)) (λ p q a. ap (program_said channel) (same_saying p q a))

ends_same : (channel : ℕ) (ps qs : List PacketData) → AreAlike ps qs → ends_of channel qs ≡ ends_of channel ps
ends_same channel =
    flat_same (λ (p : PacketData). end_said channel (saying_of p)) (λ p q a. ap (end_said channel) (same_saying p q a))

last_same : (channel : ℕ) (ps qs : List PacketData) → AreAlike ps qs → last_program channel qs ≡ last_program channel ps
last_same channel ps qs a = ap (last_or None) (programs_same channel ps qs a)

last_end_same : (channel : ℕ) (ps qs : List PacketData) → AreAlike ps qs → last_end channel qs ≡ last_end channel ps
last_end_same channel ps qs a = ap (last_or None) (ends_same channel ps qs a)

others_same : (ps qs : List PacketData) → AreAlike ps qs → other_count qs ≡ other_count ps
others_same [] [] a = refl
others_same [] (q ∷ qs) a = absurd a
others_same (p ∷ ps) [] a = absurd a
others_same (p ∷ ps) (q ∷ qs) a =
    sum_by-cons (λ (r : PacketData). cond (is_other r.what) 1 0) q qs
    ∙ ap (λ w. cond (is_other w) 1 0 + other_count qs) a.0.what
    ∙ ap (λ n. cond (is_other p.what) 1 0 + n) (others_same ps qs a.1)
    ∙ sym (sum_by-cons (λ (r : PacketData). cond (is_other r.what) 1 0) p ps)

-- the packets that are like those before a packet, it, and those after it
record Parts (ps before : List PacketData) (q : PacketData) (after : List PacketData) : Type 0 where
  front : List PacketData
  packet : PacketData
  back : List PacketData
  whole : ps ≡ front ++ packet ∷ back
  alike : AreAlike front before
  here : Alike packet q

parts : (before : List PacketData) (q : PacketData) (after ps : List PacketData) → AreAlike ps (before ++ q ∷ after) → Parts ps before q after
parts [] q after [] a = absurd a
parts [] q after (p ∷ ps) a = record { front = []; packet = p; back = ps; whole = refl; alike = tt; here = a.0 }
parts (b ∷ before) q after [] a = absurd a
parts (b ∷ before) q after (p ∷ ps) a =
    let rest = parts before q after ps a.1 in
    record { front = p ∷ rest.front; packet = rest.packet; back = rest.back; whole = ap (λ l. p ∷ l) rest.whole; alike = (a.0, rest.alike); here = rest.here }

-- ---- an audit of them

judges_said : (ps qs : List PacketData) → AreAlike ps qs → (said : Option (ℕ × Saying)) (answer : Option AuditFault) → JudgesSaying ps said answer
    → JudgesSaying qs said answer
judges_said ps qs a None answer judged = judged
judges_said ps qs a (Some (channel, saying)) answer judged =
    subst (λ n. IsJudgement (capped n) (last_end channel qs) saying (last_program channel qs) answer) (length_all_zip Alike ps qs a)
    (subst (λ e. IsJudgement (capped (length ps)) e saying (last_program channel qs) answer) (sym (last_end_same channel ps qs a))
    (subst (λ l. IsJudgement (capped (length ps)) (last_end channel ps) saying l answer) (sym (last_same channel ps qs a)) judged))

judges_same : (ps qs : List PacketData) (p q : PacketData) (answer : Option AuditFault) → AreAlike ps qs → Alike p q → Judges ps p answer → Judges qs q answer
judges_same ps qs p q answer a here judged =
    judges_said ps qs a (saying_of q) answer (subst (λ s. JudgesSaying ps s answer) (sym (same_saying p q here)) judged)

passes_same : (ps qs : List PacketData) → AreAlike ps qs → EachPasses ps → EachPasses qs
passes_same ps qs a passed = λ before q after e.
    let split = parts before q after ps (subst (λ l. AreAlike ps l) e a) in
    judges_same split.front before split.packet q None split.alike split.here (passed split.front split.packet split.back split.whole)

named_same : (channel : ℕ) (ps qs : List PacketData) → AreAlike ps qs → IsNamed channel qs → IsNamed channel ps
named_same channel ps qs a named =
    let split = parts named.before named.packet named.after ps (subst (λ l. AreAlike ps l) named.whole a) in
    record {
      before = split.front;
      packet = split.packet;
      after = split.back;
      whole = split.whole;
      names = (named.names.0, sym (same_saying split.packet named.packet split.here) ∙ named.names.1);
    }

stops_same : (ps qs : List PacketData) (fault : AuditFault) → AreAlike ps qs → StopsAt ps fault → StopsAt qs fault
stops_same ps qs fault a stops =
    let split = parts stops.before stops.packet stops.after qs (subst (λ l. AreAlike qs l) stops.whole (all_swapped ps qs a)) in
    let front = all_swapped split.front stops.before split.alike in
    record {
      before = split.front;
      packet = split.packet;
      after = split.back;
      whole = split.whole;
      passed = passes_same stops.before split.front front stops.passed;
      judged = judges_same stops.before split.front stops.packet split.packet (Some fault) front (swapped split.packet stops.packet split.here) stops.judged;
    }

closes_same : (ps qs : List PacketData) (channel : ℕ) (answer : Option AuditFault) → AreAlike ps qs → Closes ps channel answer → Closes qs channel answer
closes_same ps qs channel answer a closed =
    subst (λ n. IsClosing channel (last_end channel qs) (last_program channel qs) n answer) (sym (ap (λ l. length l) (frames_same channel ps qs a)))
    (subst (λ l. IsClosing channel (last_end channel qs) l (length (channel_frames channel ps)) answer) (sym (last_same channel ps qs a))
    (subst (λ e. IsClosing channel e (last_program channel ps) (length (channel_frames channel ps)) answer) (sym (last_end_same channel ps qs a)) closed))

ends_with_same : (ps qs : List PacketData) (fault : AuditFault) → AreAlike ps qs → EndsWith ps fault → EndsWith qs fault
ends_with_same ps qs fault a ends =
    let back = all_swapped ps qs a in
    record {
      passed = passes_same ps qs a ends.passed;
      channel = ends.channel;
      named = named_same ends.channel qs ps back ends.named;
      lower = λ other less named. closes_same ps qs other None a (ends.lower other less (named_same other ps qs a named));
      closed = closes_same ps qs ends.channel (Some fault) a ends.closed;
    }

line_same : (ps qs : List PacketData) → AreAlike ps qs → (channel : ℕ) → line_of ps channel ≡ line_of qs channel
line_same ps qs a channel =
    ap (λ l. line_with channel (capped (length l)) (length (channel_frames channel ps)) (last_end channel ps)) (sym (programs_same channel ps qs a))
    ∙ ap (λ l. line_with channel (capped (length (programs_of channel qs))) (length l) (last_end channel ps)) (sym (frames_same channel ps qs a))
    ∙ ap (λ e. line_with channel (capped (length (programs_of channel qs))) (length (channel_frames channel qs)) e) (sym (last_end_same channel ps qs a))

map_agree : (f g : ℕ → AuditLine) → ((n : ℕ) → f n ≡ g n) → (ns : List ℕ) → map f ns ≡ map g ns
map_agree f g same [] = refl
map_agree f g same (n ∷ ns) = ap (λ x. x ∷ map f ns) (same n) ∙ ap (λ l. g n ∷ l) (map_agree f g same ns)

lines_same : (ps qs : List PacketData) (lines : List AuditLine) → AreAlike ps qs → AreLines ps lines → AreLines qs lines
lines_same ps qs lines a are = record {
  channels = are.channels;
  ascending = are.ascending;
  all = λ channel. (
    λ has. named_same channel qs ps (all_swapped ps qs a) ((are.all channel).0 has),
    λ named. (are.all channel).1 (named_same channel ps qs a named),
  );
  lines_are = are.lines_are ∙ map_agree (line_of ps) (line_of qs) (line_same ps qs a) are.channels;
}

-- what is answered of packets is answered of those that say the same
pub audits_same : (ps qs : List PacketData) (answer : Result Audit AuditFault) → AreAlike ps qs → Audits ps answer → Audits qs answer
audits_same ps qs (Ok audit) a is = record {
  passed = passes_same ps qs a is.passed;
  closed = λ channel named. closes_same ps qs channel None a (is.closed channel (named_same channel ps qs a named));
  lines = lines_same ps qs audit.channels a is.lines;
  other = is.other ∙ ap capped (sym (others_same ps qs a));
}
audits_same ps qs (Err fault) a (inl memory) = inl memory
audits_same ps qs (Err fault) a (inr (inl stops)) = inr (inl (stops_same ps qs fault a stops))
audits_same ps qs (Err fault) a (inr (inr ends)) = inr (inr (ends_with_same ps qs fault a ends))
