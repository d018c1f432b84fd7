-- A channel keeps the number of its interface, and no other channel has it.
use Rattle.std.proofs.Common.{◌≡◌, ℕ, ◌+◌, ◌<◌, ◌≤◌, ◌⊎◌, inl, inr, Bool, true, false, cond, List, [], ◌∷◌, ◌++◌, length, length-set, get_or}
use Rattle.std.proofs.Common.{Option, None, Some, refl, sym, ap, subst, ◌∙◌, arith}
use Rattle.std.specs.Prelude.{◌==◌, nat_lt, slice_set}
use Rattle.std.proofs.lemmas.Bool.{eqb-true, eq-eqb, ne_eqb, ltb-true, ltb-false, lt-ltb, cond-true, cond-false, cases_Bool}
use Rattle.std.proofs.lemmas.List.{length-append}
use Rattle.std.proofs.lemmas.List.Sums.{passes_at_first, prefix_len-le-length}
use Rattle.std.proofs.lemmas.List.Folds.{position_or_len-set, position_or_len_push}
use Rattle.rec_reader.specs.Packets.{PacketData}
use Rattle.rec_reader.specs.Channels.{Saying, saying_of}
use Rattle.rec_reader.specs.Channels.Saying.{OfFrames, OfProgram, OfEnd}
use Rattle.rec_export.specs.declared.version.LaterVersions.{LaterVersions}
use Rattle.rec_export.specs.Interfaces.{Interface, number_of, is_described, with_interface}
use Rattle.rec_export.specs.Export.{ExportState, state_said, state_behind, state_behind_all}

-- ---- one list of interfaces

abbrev pub no_interface : Interface
no_interface = record { channel = 0; later = None }

-- the number is at most that of the next interface
pub most : (channel : ℕ) (interfaces : List Interface) → number_of channel interfaces ≤ length interfaces
most channel interfaces = prefix_len-le-length _ interfaces

-- a channel's interface stands at its number
pub stands_at : (channel : ℕ) (interfaces : List Interface) → is_described channel interfaces ≡ true
    → (get_or interfaces (number_of channel interfaces) no_interface).channel ≡ channel
stands_at channel interfaces is =
    eqb-true _ _ (passes_at_first (λ (interface : Interface). interface.channel == channel) interfaces no_interface (ltb-true _ _ is))

-- two channels with one number are one
pub one_channel : (channel other : ℕ) (interfaces : List Interface) → is_described channel interfaces ≡ true
    → number_of channel interfaces ≡ number_of other interfaces → channel ≡ other
one_channel channel other interfaces is same =
    let also : is_described other interfaces ≡ true = subst (λ n. nat_lt n (length interfaces) ≡ true) same is in
    sym (stands_at channel interfaces is) ∙ ap (λ n. (get_or interfaces n no_interface).channel) same ∙ stands_at other interfaces also

-- what stays of a channel's number where the interface of another one, or its own, is put
pub record Keeps (channel : ℕ) (old new : List Interface) : Type 0 where
  pub number : number_of channel new ≡ number_of channel old
  pub described : is_described channel new ≡ true

length-put : (channel : ℕ) (later : Option LaterVersions) (interfaces : List Interface) → length interfaces ≤ length (with_interface channel later interfaces)
length-put channel later interfaces = put (is_described channel interfaces) (cases_Bool (is_described channel interfaces))
  where
    put : (b : Bool) → (b ≡ true) ⊎ (b ≡ false)
        → length interfaces ≤ length (cond b (slice_set interfaces (number_of channel interfaces) (record { channel = channel; later = later }))
        (interfaces ++ record { channel = channel; later = later } ∷ []))
    put true is = let same = length-set interfaces (number_of channel interfaces) (record { channel = channel; later = later }) in omega (arith, same)
    put false is = let more = length-append interfaces (record { channel = channel; later = later } ∷ []) in omega (arith, more)

-- the interface of a channel that has one is put in its place
pub number_in_place : (channel other : ℕ) (later : Option LaterVersions) (interfaces : List Interface) → is_described other interfaces ≡ true
    → number_of channel (with_interface other later interfaces) ≡ number_of channel interfaces
number_in_place channel other later interfaces is =
    ap (number_of channel) (cond-true (is_described other interfaces) _ _ is)
    ∙ position_or_len-set (λ (interface : Interface). interface.channel == channel) interfaces (number_of other interfaces) _ no_interface
    (ap (λ c. c == channel) (sym (stands_at other interfaces is)))

-- the interface of one that has none is put behind all
pub number_behind : (channel other : ℕ) (later : Option LaterVersions) (interfaces : List Interface) → is_described other interfaces ≡ false
    → number_of channel (with_interface other later interfaces)
    ≡ cond (number_of channel interfaces == length interfaces) (length interfaces + cond (other == channel) 0 1) (number_of channel interfaces)
number_behind channel other later interfaces isnt =
    ap (number_of channel) (cond-false (is_described other interfaces) _ _ isnt)
    ∙ position_or_len_push (λ (interface : Interface). interface.channel == channel) interfaces (record { channel = other; later = later })

-- a channel with an interface keeps its number
pub keeps_number : (channel other : ℕ) (later : Option LaterVersions) (interfaces : List Interface) → is_described channel interfaces ≡ true
    → Keeps channel interfaces (with_interface other later interfaces)
keeps_number channel other later interfaces is =
    let within = ltb-true (number_of channel interfaces) (length interfaces) is in
    let more = length-put other later interfaces in
    let number : number_of channel (with_interface other later interfaces) ≡ number_of channel interfaces = by_cases within (cases_Bool
    (is_described other interfaces)) in
    record { number = number; described = lt-ltb _ _ (omega (arith, within, more, number)) }
  where
    by_cases : number_of channel interfaces < length interfaces → (is_described other interfaces ≡ true) ⊎ (is_described other interfaces ≡ false)
        → number_of channel (with_interface other later interfaces) ≡ number_of channel interfaces
    by_cases within (inl also) = number_in_place channel other later interfaces also
    by_cases within (inr isnt) =
        number_behind channel other later interfaces isnt
        ∙ cond-false (number_of channel interfaces == length interfaces) _ _
        (ne_eqb (number_of channel interfaces) (length interfaces) (λ same. let s = same in omega (arith, within, s)))

plus_none : (n : ℕ) → n + 0 ≡ n
plus_none n = omega arith

-- a channel whose interface is put has the number that it had, or that of the next one
pub takes_number : (channel : ℕ) (later : Option LaterVersions) (interfaces : List Interface)
    → Keeps channel interfaces (with_interface channel later interfaces)
takes_number channel later interfaces = by_cases (cases_Bool (is_described channel interfaces))
  where
    by_cases : (is_described channel interfaces ≡ true) ⊎ (is_described channel interfaces ≡ false)
        → Keeps channel interfaces (with_interface channel later interfaces)
    by_cases (inl is) = keeps_number channel channel later interfaces is
    by_cases (inr isnt) =
        let last : number_of channel interfaces ≡ length interfaces =
        (let least = ltb-false (number_of channel interfaces) (length interfaces) isnt in let upper = most channel interfaces in omega (arith, least, upper)) in
        let number : number_of channel (with_interface channel later interfaces) ≡ length interfaces =
        number_behind channel channel later interfaces isnt
        ∙ cond-true (number_of channel interfaces == length interfaces) _ _ (eq-eqb _ _ last)
        ∙ ap (λ b. length interfaces + cond b 0 1) (eq-eqb channel channel refl) ∙ plus_none (length interfaces) in
        let longer : length (with_interface channel later interfaces) ≡ length interfaces + 1 =
        ap (λ (l : List Interface). length l) (cond-false (is_described channel interfaces) _ _ isnt)
        ∙ length-append interfaces (record { channel = channel; later = later } ∷ []) in
        record { number = number ∙ sym last; described = lt-ltb _ _ (omega (arith, number, longer)) }

-- ---- all packets

-- a channel with an interface keeps it behind a packet
keeps_said : (channel : ℕ) (state : ExportState) (said : Option (ℕ × Saying)) → is_described channel state.interfaces ≡ true
    → Keeps channel state.interfaces (state_said state said).interfaces
keeps_said channel state (Some (other, OfFrames frames)) is = keeps_number channel other _ state.interfaces is
keeps_said channel state (Some (other, OfProgram program)) is = keeps_number channel other _ state.interfaces is
keeps_said channel state (Some (other, OfEnd end)) is = record { number = refl; described = is }
keeps_said channel state None is = record { number = refl; described = is }

pub keeps_all : (channel : ℕ) (state : ExportState) (packets : List PacketData) → is_described channel state.interfaces ≡ true
    → Keeps channel state.interfaces (state_behind_all state packets).interfaces
keeps_all channel state [] is = record { number = refl; described = is }
keeps_all channel state (packet ∷ packets) is =
    let first = keeps_said channel state (saying_of packet) is in
    let rest = keeps_all channel (state_behind state packet) packets first.described in
    record { number = rest.number ∙ first.number; described = rest.described }
