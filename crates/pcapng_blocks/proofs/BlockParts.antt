-- What an output took of the parts of a block.
use Rattle.std.proofs.Common.{◌≡◌, ℕ, zero, suc, ◌+◌, ◌/◌, ◌%◌, ◌^◌, ◌<◌, ◌≤◌, false, true≢false, List, [], ◌∷◌, ◌++◌, length, take, drop, take-add}
use Rattle.std.proofs.Common.{get_or, Option, refl, sym, ap, subst, ◌∙◌, arith}
use Rattle.std.specs.Prelude.{◌-◌, ◌==◌, Result, Ok, Err, OnErr}
use Rattle.std.specs.Int.{w16, w32, to_le_bytes}
use Rattle.std.specs.List.{flat_map}
use Rattle.std.specs.Io.KnownBytes.{Appends, Keeps}
use Rattle.std.proofs.KnownBytes.{Appends-trans, Appends-kept}
use Rattle.std.proofs.lemmas.Grind.{common_steps}
use Rattle.std.proofs.lemmas.List.{append_assoc, take-append-drop, take_all, length-append, length-replicate}
use Rattle.std.proofs.lemmas.List.Concat.{flat_map-cons}
use Rattle.pcapng_blocks.specs.declared.option.BlockOption.{BlockOption}
use Rattle.pcapng_blocks.specs.Bytes.{padding, padded_len, lacking}
use Rattle.pcapng_blocks.specs.Options.{OptionData, option_bytes, options_bytes, end_of_options}
use Rattle.pcapng_blocks.specs.Blocks.{CapturedData, packet_body, block_bytes}
use Rattle.pcapng_blocks.specs.Blocks.BlockData.{OfPacket}
use Rattle.pcapng_blocks.specs.Outputs.{TakesStart}
use Rattle.pcapng_blocks.specs.Views.{option_data, options_data}

-- ---- parts

-- the start of the first part is one of the whole
pub of_first : (old new : Option (List ℕ)) (xs ys : List ℕ) → TakesStart old new xs → TakesStart old new (xs ++ ys)
of_first old new xs ys took =
    record {
      start = took.start;
      rest = took.rest ++ ys;
      whole = ap (λ l. l ++ ys) took.whole ∙ append_assoc took.start took.rest ys;
      taken = took.taken;
    }

-- all of the first part, and the start of the second
pub of_second : (old mid new : Option (List ℕ)) (xs ys : List ℕ) → Appends old mid xs → TakesStart mid new ys → TakesStart old new (xs ++ ys)
of_second old mid new xs ys all took =
    record {
      start = xs ++ took.start;
      rest = took.rest;
      whole = ap (λ l. xs ++ l) took.whole ∙ sym (append_assoc xs took.start took.rest);
      taken = Appends-trans old mid new xs took.start all took.taken;
    }

-- the first `at` bytes are a start
pub first_bytes : (old new : Option (List ℕ)) (bytes : List ℕ) (at : ℕ) → Appends old new (take at bytes) → TakesStart old new bytes
first_bytes old new bytes at took =
    record {
      start = take at bytes;
      rest = drop at bytes;
      whole = sym (take-append-drop at bytes);
      taken = took;
    }

some_taken : (n m : ℕ) (l : List ℕ) → m ≤ length (take (length l - n) (drop n l)) → take m (take (length l - n) (drop n l)) ≡ take m (drop n l)
some_taken n m l h = grind (arith, common_steps)

-- some bytes, and some of the rest
pub more_taken : (old mid new : Option (List ℕ)) (bytes : List ℕ) (n m : ℕ)
    → Appends old mid (take n bytes) → Appends mid new (take m (take (length bytes - n) (drop n bytes)))
    → m ≤ length (take (length bytes - n) (drop n bytes))
    → Appends old new (take (n + m) bytes)
more_taken old mid new bytes n m first second few =
    subst (λ bs. Appends old new bs) (sym (take-add n m bytes))
    (Appends-trans _ _ _ _ _ first (subst (λ l. Appends mid new l) (some_taken n m bytes few) second))

-- ---- answers

-- what holds in any case holds of a fault
pub on_err : {T E : Type 0} {X : Type 0} (result : Result T E) → X → OnErr result X
on_err (Ok value) x = tt
on_err (Err error) x = x

-- what follows of a fault
pub err_map : {T E : Type 0} {X Y : Type 0} (result : Result T E) → (X → Y) → OnErr result X → OnErr result Y
err_map (Ok value) f x = tt
err_map (Err error) f x = f x

-- a write that took nothing
pub none_taken : (old mid new : Option (List ℕ)) (bytes : List ℕ) (at : ℕ) → Appends old mid (take at bytes) → Keeps mid new → TakesStart old new bytes
none_taken old mid new bytes at took keeps = first_bytes old new bytes at (Appends-kept _ _ _ _ took keeps)

-- the fault of the first of two parts, and of the second
pub first_fails : {T E : Type 0} (result : Result T E) (old new : Option (List ℕ)) (whole xs ys : List ℕ) → xs ++ ys ≡ whole
    → TakesStart old new xs → OnErr result (TakesStart old new whole)
first_fails result old new whole xs ys is took = on_err result (subst (TakesStart old new) is (of_first old new xs ys took))

pub second_fails : {T E : Type 0} (result : Result T E) (old mid new : Option (List ℕ)) (whole xs ys : List ℕ) → xs ++ ys ≡ whole
    → Appends old mid xs → OnErr result (TakesStart mid new ys) → OnErr result (TakesStart old new whole)
second_fails result old mid new whole xs ys is all = err_map result (λ took. subst (TakesStart old new) is (of_second old mid new xs ys all took))

-- the four bytes before an option's value
pub head_is : (code len : List ℕ) (c n : ℕ) → code ≡ to_le_bytes w16 c → len ≡ to_le_bytes w16 n
    → get_or code 0 0 ∷ get_or code 1 0 ∷ get_or len 0 0 ∷ get_or len 1 0 ∷ [] ≡ to_le_bytes w16 c ++ to_le_bytes w16 n
head_is code len c n first second =
    ap (λ (l : List ℕ). get_or l 0 0 ∷ get_or l 1 0 ∷ get_or len 0 0 ∷ get_or len 1 0 ∷ []) first
    ∙ ap (λ (l : List ℕ). get_or (to_le_bytes w16 c) 0 0 ∷ get_or (to_le_bytes w16 c) 1 0 ∷ get_or l 0 0 ∷ get_or l 1 0 ∷ []) second

-- ---- options

-- the bytes of options as the code has them
abbrev pub bytes_of : List BlockOption → List ℕ
bytes_of options = flat_map option_bytes (options_data options)

pub bytes_of-cons : (option : BlockOption) (options : List BlockOption) → bytes_of (option ∷ options) ≡ option_bytes (option_data option) ++ bytes_of options
bytes_of-cons option options = flat_map-cons option_bytes (option_data option) (options_data options)

pub length-option : (option : OptionData) → length (option_bytes option) ≡ 4 + padded_len (length option.value)
length-option option =
    let all = length-append option.value (padding (length option.value)) in
    let zeros = length-replicate {A = ℕ} (lacking (length option.value)) 0 in
    omega (arith, all, zeros)

-- the first options and the next one have no more bytes than all
pub option_fits : (options : List BlockOption) (n : ℕ) (d : BlockOption) → n < length options
    → 4 + length (bytes_of (take n options)) + (4 + padded_len (length (option_data (get_or options n d)).value)) ≤ 4 + length (bytes_of options)
option_fits [] n d within = absurd (omega (arith, within))
option_fits (o ∷ os) zero d within =
    let parts = ap (λ (l : List ℕ). length l) (bytes_of-cons o os) ∙ length-append (option_bytes (option_data o)) (bytes_of os) in
    let len = length-option (option_data o) in
    omega (arith, parts, len)
option_fits (o ∷ os) (suc n) d within =
    let parts = ap (λ (l : List ℕ). length l) (bytes_of-cons o os) ∙ length-append (option_bytes (option_data o)) (bytes_of os) in
    let front = ap (λ (l : List ℕ). length l) (bytes_of-cons o (take n os)) ∙ length-append (option_bytes (option_data o)) (bytes_of (take n os)) in
    let rest = option_fits os n d (omega (arith, within)) in
    omega (arith, parts, front, rest)

-- the first options, the next one, and those behind it
pub split_at : (options : List BlockOption) (n : ℕ) (d : BlockOption) → n < length options
    → bytes_of (take n options) ++ (option_bytes (option_data (get_or options n d)) ++ bytes_of (drop (suc n) options)) ≡ bytes_of options
split_at [] n d within = absurd (omega (arith, within))
split_at (o ∷ os) zero d within = sym (bytes_of-cons o os)
split_at (o ∷ os) (suc n) d within =
    let all = option_bytes (option_data o) in
    let more = option_bytes (option_data (get_or os n d)) ++ bytes_of (drop (suc n) os) in
    ap (λ l. l ++ more) (bytes_of-cons o (take n os))
    ∙ append_assoc all (bytes_of (take n os)) more
    ∙ ap (λ l. all ++ l) (split_at os n d (omega (arith, within)))
    ∙ sym (bytes_of-cons o os)

-- the bytes of options, if there are some
pub some_options : (options : List BlockOption) (n : ℕ) → n < length options → bytes_of options ++ end_of_options ≡ options_bytes (options_data options)
some_options [] n within = absurd (omega (arith, within))
some_options (o ∷ os) n within = refl

pub not_empty : (options : List BlockOption) → false ≡ (length options == 0) → bytes_of options ++ end_of_options ≡ options_bytes (options_data options)
not_empty [] is = absurd (true≢false (sym is))
not_empty (o ∷ os) is = refl

-- the start of an option behind the first ones is one of all
pub option_fails : {T E : Type 0} (result : Result T E) (old mid new : Option (List ℕ)) (options : List BlockOption) (n : ℕ) (d : BlockOption)
    → n < length options → Appends old mid (bytes_of (take n options))
    → TakesStart mid new (option_bytes (option_data (get_or options n d))) → OnErr result (TakesStart old new (options_bytes (options_data options)))
option_fails result old mid new options n d within took start =
    first_fails result old new _ (bytes_of options) end_of_options (some_options options n within)
    (subst (λ l. TakesStart old new l) (split_at options n d within)
    (of_second old mid new _ _ took (of_first mid new _ _ start)))

-- the end of options behind them all
pub end_fails : {T E : Type 0} (result : Result T E) (old mid new : Option (List ℕ)) (options : List BlockOption) (n : ℕ)
    → length options ≤ n → false ≡ (length options == 0) → Appends old mid (bytes_of (take n options))
    → OnErr result (TakesStart mid new end_of_options) → OnErr result (TakesStart old new (options_bytes (options_data options)))
end_fails result old mid new options n end some took =
    second_fails result old mid new _ (bytes_of options) end_of_options (not_empty options some)
    (subst (λ l. Appends old mid (bytes_of l)) (take_all n options end) took)

-- ---- packets

pub length-packet_body : (packet : CapturedData)
    → 28 + padded_len (length packet.bytes) + (length (options_bytes packet.options) + 4) ≡ length (packet_body packet) + 12
length-packet_body packet =
    let all = length-append packet.bytes (padding (length packet.bytes) ++ options_bytes packet.options) in
    let more = length-append (padding (length packet.bytes)) (options_bytes packet.options) in
    let zeros = length-replicate {A = ℕ} (lacking (length packet.bytes)) 0 in
    omega (arith, all, more, zeros)

-- the parts of a packet's block
pub packet_parts : (packet : CapturedData) (head : List ℕ) (len : ℕ) → len ≡ length (packet_body packet) + 12
    → head ≡ to_le_bytes w32 6 ++ (to_le_bytes w32 len ++ (to_le_bytes w32 packet.interface ++ (to_le_bytes w32 (packet.time / 2 ^ 32)
    ++ (to_le_bytes w32 (packet.time % 2 ^ 32) ++ (to_le_bytes w32 (length packet.bytes) ++ to_le_bytes w32 (length packet.bytes))))))
    → head ++ (packet.bytes ++ (padding (length packet.bytes) ++ (options_bytes packet.options ++ to_le_bytes w32 len))) ≡ block_bytes (OfPacket packet)
packet_parts packet head len is headed =
    let bytes = packet.bytes in
    let filler = padding (length packet.bytes) in
    let options = options_bytes packet.options in
    let before = λ (n : ℕ). to_le_bytes w32 6 ++ (to_le_bytes w32 n ++ (to_le_bytes w32 packet.interface ++ (to_le_bytes w32 (packet.time / 2 ^ 32)
    ++ (to_le_bytes w32 (packet.time % 2 ^ 32) ++ (to_le_bytes w32 (length packet.bytes) ++ to_le_bytes w32 (length packet.bytes)))))) in
    ap (λ l. l ++ (bytes ++ (filler ++ (options ++ to_le_bytes w32 len)))) headed
    ∙ ap (λ n. before n ++ (bytes ++ (filler ++ (options ++ to_le_bytes w32 n)))) is
    ∙ ap (λ l. before (length (packet_body packet) + 12) ++ l)
    (ap (λ l. bytes ++ l) (sym (append_assoc filler options (to_le_bytes w32 (length (packet_body packet) + 12))))
    ∙ sym (append_assoc bytes (filler ++ options) (to_le_bytes w32 (length (packet_body packet) + 12))))

-- there is room for the first options and the next one
pub option_room : (options : List BlockOption) (n : ℕ) (d : BlockOption) (len : ℕ) → n < length options
    → len ≡ length (option_data (get_or options n d)).value → length (options_bytes (options_data options)) < 2 ^ 32
    → 4 + length (bytes_of (take n options)) + (4 + padded_len len) < 2 ^ 32
option_room options n d len within is few =
    let fits = option_fits options n d within in
    let all = ap (λ (l : List ℕ). length l) (some_options options n within) in
    let whole = length-append (bytes_of options) end_of_options in
    let same = ap (λ k. padded_len k) is in
    omega (arith, fits, all, whole, same, few)
