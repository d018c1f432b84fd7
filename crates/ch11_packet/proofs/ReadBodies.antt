-- The body of frames that bytes are: they are one body at most, or have one fault.
use Rattle.std.proofs.Common.{◌≡◌, ℕ, ◌+◌, ◌-◌, ◌*◌, ◌/◌, ◌%◌, ◌^◌, ◌<◌, ◌≤◌, inl, inr, List, [], ◌∷◌, ◌++◌, length}
use Rattle.std.proofs.Common.{get_or, take, drop, Result, Ok, Err, refl, sym, ap, subst, ◌∙◌, arith}
use Rattle.std.proofs.Props.{props}
use Rattle.std.proofs.Math.Logic.{∥∥₁_elim, ∥∥₁_map}
use Rattle.std.specs.Int.{w32, to_le_bytes}
use Rattle.std.proofs.lemmas.Nat.{from_le_bytes-to_le_bytes_4}
use Rattle.std.proofs.lemmas.List.{append-nil, length-append, nil_from_length, take_rest}
use Rattle.ch11_packet.specs.declared.frames.word.TheConstants.{BODY_WORD_LEN}
use Rattle.ch11_packet.specs.declared.frames.decode.BodyFault.{BodyFault}
use Rattle.ch11_packet.specs.declared.frames.decode.BodyFault.TheVariants.{Format, Short, LeftOver}
use Rattle.eth_frame.specs.Bytes.{AreBytes, u32_at}
use Rattle.ch11_packet.specs.FramesRead.{ReadFrameData, first_reads, FrameStandsFirst, BeginsFrames, IsCutFrame, AreFrames}
use Rattle.ch11_packet.specs.FramesRead.{SpellsBody, IsBodyOf, count_in, HasFormat, FramesEnd, MoreFollows, HasBodyFault}
use Rattle.eth_frame.proofs.Bytes.{four_bytes}
use Rattle.ch11_packet.proofs.FirstFrames.{goes_on, GoesOn, not_cut, Begins-snoc, first_reads-Begins, length-first_reads}

-- ---- a body's word

-- what the bytes of a body say
pub record IsBody (frames : List ReadFrameData) (bytes : List ℕ) : Type 0 where
  pub is_format : HasFormat bytes
  pub all : length frames ≡ count_in bytes
  pub held : BeginsFrames frames (drop BODY_WORD_LEN bytes) []

pub IsBody-SpellsBody : (frames : List ReadFrameData) (bytes : List ℕ) → SpellsBody frames bytes → IsBody frames bytes
IsBody-SpellsBody frames bytes body =
    let word = length frames + body.spare * 2 ^ 16 in
    let few = body.few in
    let fits = body.spare_fits in
    let said : u32_at bytes 0 ≡ word = ap (λ l. u32_at l 0) body.whole ∙ from_le_bytes-to_le_bytes_4 word (omega arith) in
    record {
      is_format = record { word = omega (arith, ap length body.whole); format = omega (arith, said) };
      all = omega (arith, said);
      held = subst (λ l. BeginsFrames frames l []) (sym (ap (drop BODY_WORD_LEN) body.whole)) body.held;
    }

word_cells : (bytes : List ℕ) → BODY_WORD_LEN ≤ length bytes
    → bytes ≡ (get_or bytes 0 0 ∷ get_or bytes 1 0 ∷ get_or bytes 2 0 ∷ get_or bytes 3 0 ∷ []) ++ drop BODY_WORD_LEN bytes
word_cells (a ∷ b ∷ c ∷ d ∷ rest) long = refl
word_cells other long = absurd (omega arith)

pub SpellsBody-IsBody : (frames : List ReadFrameData) (bytes : List ℕ) → AreBytes bytes → IsBody frames bytes → SpellsBody frames bytes
SpellsBody-IsBody frames bytes fit body =
    let said = u32_at bytes 0 in
    let all = body.all in
    let format = body.is_format.format in
    let word : length frames + said / 2 ^ 16 * 2 ^ 16 ≡ said = omega arith in
    record {
      few = omega arith;
      spare = said / 2 ^ 16;
      spare_fits = omega arith;
      rest = drop BODY_WORD_LEN bytes;
      whole = word_cells bytes body.is_format.word
          ∙ ap (λ l. l ++ drop BODY_WORD_LEN bytes) (sym (ap (to_le_bytes w32) word
          ∙ four_bytes (get_or bytes 0 0) (get_or bytes 1 0) (get_or bytes 2 0) (get_or bytes 3 0) (fit 0) (fit 1) (fit 2) (fit 3)));
      held = body.held;
    }

-- ---- one outcome

later_of : (frames others : List ReadFrameData) (rest : List ℕ) (more : List ℕ) → length others ≡ length frames → GoesOn frames others rest more
    → (others ≡ frames) × (more ≡ rest)
later_of frames others rest more same on =
    let none : on.later ≡ [] = nil_from_length on.later (omega (arith, ap length on.whole, length-append frames on.later)) in
    (on.whole ∙ ap (λ l. frames ++ l) none ∙ append-nil frames, sym (subst (λ l. BeginsFrames l rest more) none on.begins))

-- two readings of as many frames are one
pub one_reading : (frames others : List ReadFrameData) (bytes rest more : List ℕ) → BeginsFrames frames bytes rest → BeginsFrames others bytes more
    → length others ≡ length frames → (others ≡ frames) × (more ≡ rest)
one_reading frames others bytes rest more a b same =
    later_of frames others rest more same (goes_on frames others bytes rest more a b (omega arith))

-- where a reading is cut there is none of more frames
cut_first : (later : List ReadFrameData) (rest more : List ℕ) → 0 < length later → IsCutFrame rest → BeginsFrames later rest more → ⊥
cut_first [] rest more some cut begins = omega arith
cut_first (f ∷ fs) rest more some cut begins = not_cut f rest begins.0 begins.1 cut

none_longer : (frames others : List ReadFrameData) (bytes rest more : List ℕ) → BeginsFrames frames bytes rest → IsCutFrame rest
    → BeginsFrames others bytes more → length frames < length others → ⊥
none_longer frames others bytes rest more a cut b longer =
    let on = goes_on frames others bytes rest more a b (omega arith) in
    cut_first on.later rest more (omega (arith, ap length on.whole, length-append frames on.later)) cut on.begins

-- a body has no fault
pub no_fault : (frames : List ReadFrameData) (bytes : List ℕ) (fault : BodyFault) → SpellsBody frames bytes → HasBodyFault bytes fault → ⊥
no_fault frames bytes Format spells fault = fault.1 (IsBody-SpellsBody frames bytes spells).is_format.format
no_fault frames bytes Short spells (inl short) =
    let is = IsBody-SpellsBody frames bytes spells in omega (arith, is.is_format.word, short)
no_fault frames bytes Short spells (inr ends) =
    let is = IsBody-SpellsBody frames bytes spells in
    none_longer ends.frames frames (drop BODY_WORD_LEN bytes) ends.rest [] ends.held ends.cut is.held (omega (arith, is.all, ends.fewer))
no_fault frames bytes LeftOver spells more =
    let is = IsBody-SpellsBody frames bytes spells in
    more.more (one_reading frames more.frames (drop BODY_WORD_LEN bytes) [] more.rest is.held more.held (omega (arith, is.all, more.all))).1

-- a body is one
pub one_body : (frames others : List ReadFrameData) (bytes : List ℕ) → SpellsBody frames bytes → SpellsBody others bytes → frames ≡ others
one_body frames others bytes a b =
    let x = IsBody-SpellsBody frames bytes a in
    let y = IsBody-SpellsBody others bytes b in
    sym (one_reading frames others (drop BODY_WORD_LEN bytes) [] [] x.held y.held (omega (arith, x.all, y.all))).0

-- the frames end, and no more follows them
not_both : (bytes : List ℕ) → FramesEnd bytes → MoreFollows bytes → ⊥
not_both bytes ends more =
    none_longer ends.frames more.frames (drop BODY_WORD_LEN bytes) ends.rest more.rest ends.held ends.cut more.held (omega (arith, ends.fewer, more.all))

-- a fault is one
pub one_fault : (bytes : List ℕ) (fault other : BodyFault) → HasBodyFault bytes fault → HasBodyFault bytes other → fault ≡ other
one_fault bytes Format Format a b = refl
one_fault bytes Format Short a (inl b) = absurd (omega (arith, a.0, b))
one_fault bytes Format Short a (inr b) = absurd (a.1 b.is_format.format)
one_fault bytes Format LeftOver a b = absurd (a.1 b.is_format.format)
one_fault bytes Short Format (inl a) b = absurd (omega (arith, b.0, a))
one_fault bytes Short Format (inr a) b = absurd (b.1 a.is_format.format)
one_fault bytes Short Short a b = refl
one_fault bytes Short LeftOver (inl a) b = absurd (omega (arith, b.is_format.word, a))
one_fault bytes Short LeftOver (inr a) b = absurd (not_both bytes a b)
one_fault bytes LeftOver Format a b = absurd (b.1 a.is_format.format)
one_fault bytes LeftOver Short a (inl b) = absurd (omega (arith, a.is_format.word, b))
one_fault bytes LeftOver Short a (inr b) = absurd (not_both bytes b a)
one_fault bytes LeftOver LeftOver a b = refl

-- ---- what is answered

pub fault_answered : (A : Type 0) (bytes : List ℕ) (fault : BodyFault) → HasBodyFault bytes fault → (other : BodyFault)
    → (◌≡◌ {A = Result A BodyFault} (Err fault) (Err other) → HasBodyFault bytes other)
    × (HasBodyFault bytes other → ◌≡◌ {A = Result A BodyFault} (Err fault) (Err other))
fault_answered A bytes fault has other =
    (λ e. subst (HasBodyFault bytes) (let same : fault ≡ other = cc in same) has, λ h. ap (λ f. Err f) (one_fault bytes fault other has h))

-- ---- frame by frame

-- so many frames were passed over
pub record Passed (count : ℕ) (bytes rest : List ℕ) : Type 0 where
  pub frames : List ReadFrameData
  pub held : BeginsFrames frames bytes rest
  pub many : length frames ≡ count

pub Passed-next : (count : ℕ) (frame : ReadFrameData) (bytes rest more : List ℕ) → Passed count bytes rest → FrameStandsFirst frame rest more
    → Passed (count + 1) bytes more
Passed-next count frame bytes rest more passed first = record {
  frames = passed.frames ++ frame ∷ [];
  held = Begins-snoc passed.frames frame bytes rest more passed.held first;
  many = omega (arith, passed.many, length-append passed.frames (frame ∷ []));
}

-- ---- what was passed over

-- the bytes behind a body's word
abbrev behind : List ℕ → List ℕ
behind body = take (length body - BODY_WORD_LEN) (drop BODY_WORD_LEN body)

held_behind : (body rest : List ℕ) (frames : List ReadFrameData) → BeginsFrames frames (behind body) rest → BeginsFrames frames (drop BODY_WORD_LEN body) rest
held_behind body rest frames held = subst (λ l. BeginsFrames frames l rest) (take_rest body BODY_WORD_LEN) held

pub read_format : (body : List ℕ) (word : ℕ) → BODY_WORD_LEN ≤ length body → word ≡ u32_at body 0 → word / 2 ^ 28 ≡ 0 → HasFormat body
read_format body word long said format = record { word = long; format = rw said at format }

pub frames_end : (body rest : List ℕ) (word passed : ℕ) → HasFormat body → word ≡ u32_at body 0 → Passed passed (behind body) rest → passed < word % 2 ^ 16
    → IsCutFrame rest → HasBodyFault body Short
frames_end body rest word passed is_format said over fewer cut = inr (record {
  is_format = is_format;
  frames = over.frames;
  rest = rest;
  held = held_behind body rest over.frames over.held;
  fewer = let few : passed < count_in body = rw said at fewer in omega (arith, over.many, few);
  cut = cut;
})

pub more_follows : (body rest : List ℕ) (word passed : ℕ) → HasFormat body → word ≡ u32_at body 0 → Passed passed (behind body) rest → passed ≡ word % 2 ^ 16
    → (rest ≡ [] → ⊥) → HasBodyFault body LeftOver
more_follows body rest word passed is_format said over all more = record {
  is_format = is_format;
  frames = over.frames;
  rest = rest;
  held = held_behind body rest over.frames over.held;
  all = over.many ∙ all ∙ ap (λ w. w % 2 ^ 16) said;
  more = more;
}

-- the frames that were passed over are those that are read
passed_frames : (count : ℕ) (bytes rest : List ℕ) (over : Passed count bytes rest) → first_reads count bytes ≡ over.frames
passed_frames count bytes rest over =
    ap (λ n. first_reads n bytes) (sym over.many) ∙ first_reads-Begins over.frames bytes rest over.held

pub AreFrames-Passed : (count passed : ℕ) (bytes rest : List ℕ) → Passed passed bytes rest → passed ≡ count → rest ≡ [] → AreFrames count bytes
AreFrames-Passed count passed bytes rest over all none =
    let same : first_reads count bytes ≡ over.frames = ap (λ n. first_reads n bytes) (sym all) ∙ passed_frames passed bytes rest over in
    subst (λ l. BeginsFrames l bytes []) (sym same) (subst (λ l. BeginsFrames over.frames bytes l) none over.held)

pub SpellsBody-AreFrames : (body : List ℕ) (word : ℕ) → AreBytes body → HasFormat body → word ≡ u32_at body 0 → AreFrames (word % 2 ^ 16) (behind body)
    → SpellsBody (first_reads (word % 2 ^ 16) (behind body)) body
SpellsBody-AreFrames body word fit is_format said are = SpellsBody-IsBody (first_reads (word % 2 ^ 16) (behind body)) body fit (record {
  is_format = is_format;
  all = length-first_reads (word % 2 ^ 16) (behind body) ∙ ap (λ w. w % 2 ^ 16) said;
  held = held_behind body [] (first_reads (word % 2 ^ 16) (behind body)) are;
})

pub no_fault_answered : (A : Type 0) (answer : A) (frames : List ReadFrameData) (bytes : List ℕ) → SpellsBody frames bytes → (other : BodyFault)
    → (◌≡◌ {A = Result A BodyFault} (Ok answer) (Err other) → HasBodyFault bytes other)
    × (HasBodyFault bytes other → ◌≡◌ {A = Result A BodyFault} (Ok answer) (Err other))
no_fault_answered A answer frames bytes spells other = (λ e. absurd cc, λ h. absurd (no_fault frames bytes other spells h))

-- ---- a body of which it is known that it has so many frames

pub word_held : (count : ℕ) (bytes : List ℕ) → ∥ IsBodyOf count bytes ∥₁ → BODY_WORD_LEN ≤ length bytes
word_held count bytes known =
    ∥∥₁_elim known (hlevel props) (λ of. (IsBody-SpellsBody of.0 bytes of.1).is_format.word)

pub frames_held : (count : ℕ) (bytes : List ℕ) → ∥ IsBodyOf count bytes ∥₁ → ∥ AreFrames count (behind bytes) ∥₁
frames_held count bytes known = ∥∥₁_map known (λ of.
    let rest = drop BODY_WORD_LEN bytes in
    let held = (IsBody-SpellsBody of.0 bytes of.1).held in
    let same : first_reads count rest ≡ of.0 = ap (λ n. first_reads n rest) (sym of.2) ∙ first_reads-Begins of.0 rest [] held in
    subst (AreFrames count) (sym (take_rest bytes BODY_WORD_LEN)) (subst (λ l. BeginsFrames l rest []) (sym same) held))

pub held_read : (count : ℕ) (frames : List ReadFrameData) (bytes : List ℕ) → ∥ IsBodyOf count bytes ∥₁ → SpellsBody frames bytes
    → first_reads count (behind bytes) ≡ frames
held_read count frames bytes known spells = ∥∥₁_elim known (hlevel props) (λ of.
    let rest = drop BODY_WORD_LEN bytes in
    let many : count ≡ length frames = sym of.2 ∙ ap length (one_body of.0 frames bytes of.1 spells) in
    ap (first_reads count) (take_rest bytes BODY_WORD_LEN) ∙ ap (λ n. first_reads n rest) many
    ∙ first_reads-Begins frames rest [] (IsBody-SpellsBody frames bytes spells).held)
