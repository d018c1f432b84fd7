-- The channels of a file are those that are named, each once and with an ID of its own, and there is one numbering.
-- idea: behind some channels the next is new among their owners; its ID is its own, which none of them has in its recordings,
-- or is free.
use Rattle.std.proofs.Common.{ℕ, ◌≡◌, ◌≢◌, ◌<◌, ◌+◌, ◌==◌, ◌⊎◌, inl, inr, Bool, true, false, true≢false, List, [], ◌∷◌, ◌++◌, map, length, get_or, drop}
use Rattle.std.proofs.Common.{refl, sym, ap, subst, ◌∙◌, eq-eqb, if◌then◌else◌, arith}
use Rattle.std.specs.Prelude.{◌||◌, ◌&&◌}
use Rattle.std.specs.List.{list_any, All, AllByRecursion, AllPairs}
use Rattle.std.proofs.lemmas.Bool.{cases_Bool, cases_order, and_from}
use Rattle.std.proofs.lemmas.List.{append-nil, append_assoc, map-append, drop_more}
use Rattle.std.proofs.lemmas.List.Elements.{All-push}
use Rattle.std.proofs.lemmas.List.Folds.{list_any-append, list_any_at}
use Rattle.std.proofs.lemmas.List.Quantifiers.{all_pairs_push}
use Rattle.ch11_channels.specs.declared.channels.RunChannel.{RunChannel}
use Rattle.ch11_channels.specs.declared.channels.FileChannel.{FileChannel}
use Rattle.ch11_channels.specs.FreeIds.{IsLeastFree, AreAllTaken}
use Rattle.ch11_channels.specs.GivenIds.{AreNumberedChannels, HasId, HaveIds, NoIdIsFree}
use Rattle.ch11_channels.specs.GivenIds.{each_once, has_own, is_given, is_owned_by, is_same, is_taken_id, owner, was_own}

-- ---- tests

not_both : (b : Bool) → b ≡ true → b ≡ false → ⊥
not_both b on off = true≢false (sym on ∙ off)

or_left : (a b : Bool) → (a || b) ≡ false → a ≡ false
or_left true b e = e
or_left false b e = refl

or_right : (a b : Bool) → (a || b) ≡ false → b ≡ false
or_right true b e = absurd (true≢false e)
or_right false b e = e

or_first : (a b : Bool) → a ≡ true → (a || b) ≡ true
or_first a b on = ap (λ x. x || b) on

or_last : (a b : Bool) → b ≡ true → (a || b) ≡ true
or_last true b on = refl
or_last false b on = on

is_itself : (one : RunChannel) → is_same one one ≡ true
is_itself one = and_from (one.run == one.run) (one.channel == one.channel) (eq-eqb one.run one.run refl) (eq-eqb one.channel one.channel refl)

same_if : (one other : RunChannel) → other ≡ one → is_same one other ≡ true
same_if one other is = subst (λ x. is_same one x ≡ true) (sym is) (is_itself one)

pub any_owner : (of : RunChannel) (channels : List FileChannel) → list_any (is_owned_by of) channels ≡ list_any (is_same of) (map owner channels)
any_owner of [] = refl
any_owner of (channel ∷ channels) = ap (λ b. is_same of channel.of || b) (any_owner of channels)

-- ---- one more

pub push_ids : (named : List RunChannel) (ahead channels : List FileChannel) (one : FileChannel) → HaveIds named ahead channels
    → HasId named (ahead ++ channels) one → HaveIds named ahead (channels ++ one ∷ [])
push_ids named ahead [] one have has = (subst (λ l. HasId named l one) (append-nil ahead) has, tt)
push_ids named ahead (channel ∷ channels) one have has =
    (have.0, push_ids named (ahead ++ channel ∷ []) channels one have.1 (subst (λ l. HasId named l one) (sym (append_assoc ahead (channel ∷ []) channels)) has))

module _ (before named : List RunChannel) (k : ℕ) (one : RunChannel) (within : k < length named) (at : one ≡ get_or named k one) where
  next_named : drop k named ≡ one ∷ drop (k + 1) named
  next_named = drop_more named k one within ∙ ap (λ x. x ∷ drop (k + 1) named) (sym at)

  pub once_new : list_any (is_same one) before ≡ false
      → before ++ each_once before (drop k named) ≡ (before ++ one ∷ []) ++ each_once (before ++ one ∷ []) (drop (k + 1) named)
  once_new new = ap (λ l. before ++ each_once before l) next_named
      ∙ ap (λ b. before ++ (if b then each_once before (drop (k + 1) named) else one ∷ each_once (before ++ one ∷ []) (drop (k + 1) named))) new
      ∙ sym (append_assoc before (one ∷ []) (each_once (before ++ one ∷ []) (drop (k + 1) named)))

  pub once_old : list_any (is_same one) before ≡ true → before ++ each_once before (drop k named) ≡ before ++ each_once before (drop (k + 1) named)
  once_old old = ap (λ l. before ++ each_once before l) next_named
      ∙ ap (λ b. before ++ (if b then each_once before (drop (k + 1) named) else one ∷ each_once (before ++ one ∷ []) (drop (k + 1) named))) old

-- ---- one numbering

free_one : (p : ℕ → Bool) (a b : ℕ) → IsLeastFree p a → IsLeastFree p b → a ≡ b
free_one p a b one other = by (cases_order a b)
  where
    by : (a ≡ b) ⊎ ((a < b) ⊎ (b < a)) → a ≡ b
    by (inl same) = same
    by (inr (inl less)) = absurd (not_both (p a) (other.least a one.from_one less) one.free)
    by (inr (inr more)) = absurd (not_both (p b) (one.least b other.from_one more) other.free)

abbrev given_as : (of : RunChannel) (id : ℕ) → FileChannel
given_as of id = record { of = of; id = id }

one_id : (named : List RunChannel) (ahead : List FileChannel) (a b : FileChannel) → a.of ≡ b.of → HasId named ahead a → HasId named ahead b → a.id ≡ b.id
one_id named ahead a b same (inl own) (inl its) = own.1 ∙ (ap (λ (x : RunChannel). x.channel) same ∙ sym its.1)
one_id named ahead a b same (inl own) (inr free) =
    absurd (not_both _ free.0 (subst (λ (x : RunChannel). list_any (was_own x.channel) ahead ≡ false) same own.0))
one_id named ahead a b same (inr free) (inl own) =
    absurd (not_both _ (subst (λ (x : RunChannel). list_any (was_own x.channel) ahead ≡ true) same free.0) own.0)
one_id named ahead a b same (inr free) (inr other) = free_one (is_taken_id named ahead) a.id b.id free.1 other.1

one_channel : (named : List RunChannel) (ahead : List FileChannel) (a b : FileChannel) → a.of ≡ b.of → HasId named ahead a → HasId named ahead b → a ≡ b
one_channel named ahead a b same has its = ap (λ of. given_as of a.id) same ∙ ap (λ id. given_as b.of id) (one_id named ahead a b same has its)

same_channels : (named : List RunChannel) (ahead xs ys : List FileChannel) → map owner xs ≡ map owner ys → HaveIds named ahead xs
    → HaveIds named ahead ys → xs ≡ ys
same_channels named ahead [] [] same have its = refl
same_channels named ahead [] (y ∷ ys) same have its = absurd (let no : ⊥ = cc in no)
same_channels named ahead (x ∷ xs) [] same have its = absurd (let no : ⊥ = cc in no)
same_channels named ahead (x ∷ xs) (y ∷ ys) same have its =
    let first : x.of ≡ y.of = cc in
    let rest : map owner xs ≡ map owner ys = cc in
    let one = one_channel named ahead x y first have.0 its.0 in
    ap (λ l. x ∷ l) (same_channels named (ahead ++ x ∷ []) xs ys rest have.1
    (subst (λ c. HaveIds named (ahead ++ c ∷ []) ys) (sym one) its.1)) ∙ ap (λ c. c ∷ ys) one

pub one_numbering : (named : List RunChannel) (xs ys : List FileChannel) → AreNumberedChannels named xs → AreNumberedChannels named ys → xs ≡ ys
one_numbering named xs ys are its = same_channels named [] xs ys (are.each ∙ sym its.each) are.ids its.ids

-- ---- no numbering

-- the channel that has this owner behind some
record IsSplit (channels : List FileChannel) (of : RunChannel) (out : List FileChannel) : Type 0 where
  front : List FileChannel
  one : FileChannel
  behind : List FileChannel
  out_is : out ≡ front ++ one ∷ behind
  owners : map owner front ≡ map owner channels
  owned : one.of ≡ of

split_at : (channels : List FileChannel) (of : RunChannel) (rest : List RunChannel) (out : List FileChannel) → map owner out ≡ map owner channels ++ of ∷ rest
    → IsSplit channels of out
split_at [] of rest [] is = absurd (let no : ⊥ = cc in no)
split_at [] of rest (one ∷ out) is = record { front = []; one = one; behind = out; out_is = refl; owners = refl; owned = cc }
split_at (channel ∷ channels) of rest [] is = absurd (let no : ⊥ = cc in no)
split_at (channel ∷ channels) of rest (one ∷ out) is =
    let later = split_at channels of rest out cc in
    record {
      front = one ∷ later.front;
      one = later.one;
      behind = later.behind;
      out_is = ap (λ l. one ∷ l) later.out_is;
      owners = ap (λ l. one.of ∷ l) later.owners ∙ ap (λ x. x ∷ map owner channels) (let first : one.of ≡ channel.of = cc in first);
      owned = later.owned;
    }

ids_at : (named : List RunChannel) (ahead front : List FileChannel) (one : FileChannel) (behind : List FileChannel)
    → HaveIds named ahead (front ++ one ∷ behind) → HaveIds named ahead front × HasId named (ahead ++ front) one
ids_at named ahead [] one behind have = (tt, subst (λ l. HasId named l one) (sym (append-nil ahead)) have.0)
ids_at named ahead (channel ∷ front) one behind have =
    let later = ids_at named (ahead ++ channel ∷ []) front one behind have.1 in
    ((have.0, later.0), subst (λ l. HasId named l one) (append_assoc ahead (channel ∷ []) front) later.1)

pub no_numbering : (named : List RunChannel) (channels : List FileChannel) (of : RunChannel) (rest : List RunChannel) → HaveIds named [] channels
    → map owner channels ++ of ∷ rest ≡ each_once [] named → list_any (was_own of.channel) channels ≡ true → AreAllTaken (is_taken_id named channels)
    → NoIdIsFree named
no_numbering named channels of rest have each own taken out are =
    let split = split_at channels of rest out (are.each ∙ sym each) in
    let parts = ids_at named [] split.front split.one split.behind (subst (HaveIds named []) split.out_is are.ids) in
    let same = same_channels named [] split.front channels split.owners parts.0 have in
    by split.one split.owned (subst (λ l. HasId named l split.one) same parts.1)
  where
    by : (one : FileChannel) → one.of ≡ of → HasId named channels one → ⊥
    by one is (inl kept) = not_both _ own (subst (λ (x : RunChannel). list_any (was_own x.channel) channels ≡ false) is kept.0)
    by one is (inr free) = not_both _ (taken one.id free.1.from_one free.1.is_id) free.1.free

-- ---- each once

-- each is new behind those before it
abbrev AreNew : List RunChannel → List RunChannel → Type 0
AreNew before [] = Unit {0}
AreNew before (one ∷ rest) = (list_any (is_same one) before ≡ false) × AreNew (before ++ one ∷ []) rest

once_are_new : (before named : List RunChannel) → AreNew before (each_once before named)
once_are_new before [] = tt
once_are_new before (one ∷ named) = elim (cases_Bool (list_any (is_same one) before)) as (λ _. AreNew before (each_once before (one ∷ named))) [
  | inl on ↦ rw on (once_are_new before named)
  | inr off ↦ rw off (off, once_are_new (before ++ one ∷ []) named)
]

owners_new : (named : List RunChannel) (channels : List FileChannel) → AreNumberedChannels named channels → AreNew [] (map owner channels)
owners_new named channels are = subst (AreNew []) (sym are.each) (once_are_new [] named)

-- each is there, among these or behind them
all_there : (before named all : List RunChannel) → before ++ each_once before named ≡ all → AllByRecursion (λ of. list_any (is_same of) all ≡ true) named
all_there before [] all is = tt
all_there before (one ∷ named) all is =
    by (list_any (is_same one) before) refl is (λ same. all_there before named all same) (λ same. all_there (before ++ one ∷ []) named all same)
  where
    by : (b : Bool) → list_any (is_same one) before ≡ b
        → before ++ (if b then each_once before named else one ∷ each_once (before ++ one ∷ []) named) ≡ all
        → (before ++ each_once before named ≡ all → AllByRecursion (λ of. list_any (is_same of) all ≡ true) named)
        → ((before ++ one ∷ []) ++ each_once (before ++ one ∷ []) named ≡ all → AllByRecursion (λ of. list_any (is_same of) all ≡ true) named)
        → AllByRecursion (λ of. list_any (is_same of) all ≡ true) (one ∷ named)
    by true on is old new = (
      subst (λ l. list_any (is_same one) l ≡ true) is (list_any-append (is_same one) before (each_once before named) ∙ or_first _ _ on),
      old is,
    )
    by false off is old new =
        let later = each_once (before ++ one ∷ []) named in (
          subst (λ l. list_any (is_same one) l ≡ true) is
              (list_any-append (is_same one) before (one ∷ later) ∙ or_last _ _ (or_first _ (list_any (is_same one) later) (is_itself one))),
          new (append_assoc before (one ∷ []) later ∙ is),
        )

owned_there : (channels : List FileChannel) (named : List RunChannel) → AllByRecursion (λ of. list_any (is_same of) (map owner channels) ≡ true) named
    → AllByRecursion (λ of. list_any (is_owned_by of) channels ≡ true) named
owned_there channels [] all = tt
owned_there channels (one ∷ named) all = (any_owner one channels ∙ all.0, owned_there channels named all.1)

pub each_named : (named : List RunChannel) (channels : List FileChannel) → AreNumberedChannels named channels
    → AllByRecursion (λ of. list_any (is_owned_by of) channels ≡ true) named
each_named named channels are = owned_there channels named (all_there [] named (map owner channels) (sym are.each))

-- ---- pairs

abbrev AreOthers : List FileChannel → Type 0
AreOthers channels = AllPairs (λ (one other : FileChannel). one.of ≢ other.of) channels

abbrev HaveOtherIds : List FileChannel → Type 0
HaveOtherIds channels = AllPairs (λ (one other : FileChannel). one.id ≢ other.id) channels

no_pairs : (R : FileChannel → FileChannel → Type 0) → AllPairs R []
no_pairs R = λ i j d before within. absurd (omega (arith, within))

others_of : (ahead channels : List FileChannel) → AreOthers ahead → AreNew (map owner ahead) (map owner channels) → AreOthers (ahead ++ channels)
others_of ahead [] others new = subst AreOthers (sym (append-nil ahead)) others
others_of ahead (one ∷ channels) others new =
    let none : list_any (is_owned_by one.of) ahead ≡ false = any_owner one.of ahead ∙ new.0 in
    let more : AreOthers (ahead ++ one ∷ []) = all_pairs_push (λ (a b : FileChannel). a.of ≢ b.of) ahead one others
    (λ k d within same. not_both _ (list_any_at (is_owned_by one.of) ahead k d within (same_if one.of _ same)) none) in
    subst AreOthers (append_assoc ahead (one ∷ []) channels)
    (others_of (ahead ++ one ∷ []) channels more
    (subst (λ l. AreNew l (map owner channels)) (sym (map-append owner ahead (one ∷ []))) new.1))

pub are_others : (named : List RunChannel) (channels : List FileChannel) → AreNumberedChannels named channels → AreOthers channels
are_others named channels are = others_of [] channels (no_pairs (λ (a b : FileChannel). a.of ≢ b.of)) (owners_new named channels are)

-- ---- IDs

-- an ID is a channel's own, or no recording names it
abbrev IsKept : List RunChannel → FileChannel → Type 0
IsKept named channel = (channel.id ≡ channel.of.channel) ⊎ (list_any (has_own channel.id) named ≡ false)

kept_by : (named : List RunChannel) (ahead : List FileChannel) (channel : FileChannel) → HasId named ahead channel → IsKept named channel
kept_by named ahead channel (inl own) = inl own.1
kept_by named ahead channel (inr free) = inr (or_left _ _ free.1.free)

abbrev IsNamed : List RunChannel → RunChannel → Type 0
IsNamed named of = list_any (has_own of.channel) named ≡ true

other_id : (named : List RunChannel) (ahead : List FileChannel) (one : FileChannel) → IsNamed named one.of → HasId named ahead one
    → (k : ℕ) (d : FileChannel) → k < length ahead → IsKept named (get_or ahead k d) → (get_or ahead k d).id ≢ one.id
other_id named ahead one is_named (inl own) k d within (inl kept) same =
    not_both _ (list_any_at (was_own one.of.channel) ahead k d within (eq-eqb _ one.of.channel (sym kept ∙ (same ∙ own.1)))) own.0
other_id named ahead one is_named (inl own) k d within (inr unnamed) same =
    not_both _ is_named (subst (λ id. list_any (has_own id) named ≡ false) (same ∙ own.1) unnamed)
other_id named ahead one is_named (inr free) k d within kept same =
    not_both _ (list_any_at (is_given one.id) ahead k d within (eq-eqb _ one.id same)) (or_right _ _ free.1.free)

apart_behind : (named : List RunChannel) (ahead channels : List FileChannel) → HaveOtherIds ahead → All (IsKept named) ahead
    → AllByRecursion (IsNamed named) (map owner channels) → HaveIds named ahead channels → HaveOtherIds (ahead ++ channels)
apart_behind named ahead [] apart kept are have = subst HaveOtherIds (sym (append-nil ahead)) apart
apart_behind named ahead (one ∷ channels) apart kept are have =
    let more : HaveOtherIds (ahead ++ one ∷ []) = all_pairs_push (λ (a b : FileChannel). a.id ≢ b.id) ahead one apart
    (λ k d within. other_id named ahead one are.0 have.0 k d within (kept k d within)) in
    subst HaveOtherIds (append_assoc ahead (one ∷ []) channels)
    (apart_behind named (ahead ++ one ∷ []) channels more (All-push (IsKept named) ahead one kept (kept_by named ahead one have.0)) are.1 have.1)

-- all that are kept once are named
once_named : (P : RunChannel → Type 0) (before named : List RunChannel) → AllByRecursion P named → AllByRecursion P (each_once before named)
once_named P before [] all = tt
once_named P before (one ∷ named) all = elim (cases_Bool (list_any (is_same one) before)) as (λ _. AllByRecursion P (each_once before (one ∷ named))) [
  | inl on ↦ rw on (once_named P before named all.1)
  | inr off ↦ rw off (all.0, once_named P (before ++ one ∷ []) named all.1)
]

named_themselves : (front named : List RunChannel) → AllByRecursion (IsNamed (front ++ named)) named
named_themselves front [] = tt
named_themselves front (one ∷ named) = (
  list_any-append (has_own one.channel) front (one ∷ named)
      ∙ or_last _ _ (or_first _ (list_any (has_own one.channel) named) (eq-eqb one.channel one.channel refl)),
  subst (λ l. AllByRecursion (IsNamed l) named) (append_assoc front (one ∷ []) named) (named_themselves (front ++ one ∷ []) named),
)

pub have_other_ids : (named : List RunChannel) (channels : List FileChannel) → AreNumberedChannels named channels → HaveOtherIds channels
have_other_ids named channels are = apart_behind named [] channels (no_pairs (λ (a b : FileChannel). a.id ≢ b.id))
    (λ k d within. absurd (omega (arith, within)))
    (subst (AllByRecursion (IsNamed named)) (sym are.each) (once_named (IsNamed named) [] named (named_themselves [] named))) are.ids

-- ---- one run

abbrev IsOfRun : ℕ → RunChannel → Type 0
IsOfRun run of = of.run ≡ run

run_same : (run : ℕ) (one : RunChannel) (ahead : List FileChannel) → one.run ≡ run → AllByRecursion (IsOfRun run) (map owner ahead)
    → list_any (was_own one.channel) ahead ≡ list_any (is_same one) (map owner ahead)
run_same run one [] is all = refl
run_same run one (channel ∷ ahead) is all =
    let here : (channel.of.run == one.run) ≡ true = eq-eqb channel.of.run one.run (all.0 ∙ sym is) in
    ap (λ b. (channel.of.channel == one.channel) || b) (run_same run one ahead is all.1)
    ∙ ap (λ b. (b && (channel.of.channel == one.channel)) || list_any (is_same one) (map owner ahead)) (sym here)

runs_push : (run : ℕ) (ahead : List FileChannel) (one : FileChannel) → AllByRecursion (IsOfRun run) (map owner ahead) → one.of.run ≡ run
    → AllByRecursion (IsOfRun run) (map owner (ahead ++ one ∷ []))
runs_push run [] one all is = (is, tt)
runs_push run (channel ∷ ahead) one all is = (all.0, runs_push run ahead one all.1 is)

own_ids : (run : ℕ) (named : List RunChannel) (ahead channels : List FileChannel) → AllByRecursion (IsOfRun run) (map owner ahead)
    → AllByRecursion (IsOfRun run) (map owner channels) → AreNew (map owner ahead) (map owner channels) → HaveIds named ahead channels
    → AllByRecursion (λ (channel : FileChannel). channel.id ≡ channel.of.channel) channels
own_ids run named ahead [] before all new have = tt
own_ids run named ahead (one ∷ channels) before all new have = (
  by have.0,
  own_ids run named (ahead ++ one ∷ []) channels (runs_push run ahead one before all.0) all.1
      (subst (λ l. AreNew l (map owner channels)) (sym (map-append owner ahead (one ∷ []))) new.1) have.1,
)
  where
    by : HasId named ahead one → one.id ≡ one.of.channel
    by (inl own) = own.1
    by (inr free) = absurd (not_both _ free.0 (run_same run one.of ahead all.0 before ∙ new.0))

pub keep_ids : (run : ℕ) (named : List RunChannel) (channels : List FileChannel) → AllByRecursion (IsOfRun run) named → AreNumberedChannels named channels
    → AllByRecursion (λ (channel : FileChannel). channel.id ≡ channel.of.channel) channels
keep_ids run named channels all are = own_ids run named [] channels tt
    (subst (AllByRecursion (IsOfRun run)) (sym are.each) (once_named (IsOfRun run) [] named all)) (owners_new named channels are) are.ids
