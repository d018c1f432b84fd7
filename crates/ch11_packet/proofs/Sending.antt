-- The bytes that an output took of a packet: of its parts, and of one of them.
use Rattle.std.proofs.Common.{ℕ, zero, suc, refl, [], ◌∷◌, ◌≡◌, ◌+◌, ◌<◌, ◌≤◌, List, ◌++◌, length, take, drop, take-add, Option, sym, ◌∙◌, ap, subst, arith}
use Rattle.std.specs.Prelude.{◌-◌, replicate}
use Rattle.std.specs.Int.{w32, to_le_bytes}
use Rattle.ch11_packet.specs.Sums.{body_sum}
use Rattle.ch11_packet.specs.Header.{HeaderData, header_bytes}
use Rattle.ch11_packet.specs.Profiles.Profile.{WithSum}
use Rattle.ch11_packet.specs.PacketLen.{packet_len}
use Rattle.ch11_packet.specs.Packet.{packet_filler, packet_trailer, packet_bytes}
use Rattle.std.specs.Io.KnownBytes.{Appends}
use Rattle.ch11_packet.specs.Outputs.{AppendsPart}
use Rattle.std.proofs.KnownBytes.{Appends-trans}
use Rattle.std.proofs.lemmas.Grind.{common_steps}
use Rattle.std.proofs.lemmas.List.{append_assoc, length-append, take-append-le}
use Rattle.std.proofs.Math.Seq.{take-append-add}

front : (xs ys : List ℕ) (n : ℕ) → n < length xs → take n (xs ++ ys) ≡ take n xs
front xs ys n below = take-append-le n xs ys (omega (arith, below))

-- all of the first of three texts, and a part of the second
pub second_part : (old mid new : Option (List ℕ)) (xs ys zs : List ℕ) (n : ℕ)
    → Appends old mid xs → Appends mid new (take n ys) → n < length ys
    → AppendsPart old new (xs ++ (ys ++ zs)) (length xs + n)
second_part old mid new xs ys zs n first second below = (
  omega (arith, below, length-append xs (ys ++ zs), length-append ys zs),
  subst (λ bytes. Appends old new bytes)
      (sym (take-append-add xs (ys ++ zs) n ∙ ap (λ ws. xs ++ ws) (front ys zs n below)))
      (Appends-trans _ _ _ _ _ first second),
)

-- all of the first and of the second, and a part of the third
pub third_part : (old mid more new : Option (List ℕ)) (xs ys zs : List ℕ) (n : ℕ)
    → Appends old mid xs → Appends mid more ys → Appends more new (take n zs) → n < length zs
    → AppendsPart old new (xs ++ (ys ++ zs)) (length xs + length ys + n)
third_part old mid more new xs ys zs n first second third below = (
  omega (arith, below, length-append xs (ys ++ zs), length-append ys zs),
  subst (λ bytes. Appends old new bytes)
      (sym (ap (λ ws. take (length xs + length ys + n) ws) (sym (append_assoc xs ys zs))
      ∙ (ap (λ k. take (k + n) ((xs ++ ys) ++ zs)) (sym (length-append xs ys)) ∙ take-append-add (xs ++ ys) zs n)))
      (Appends-trans _ _ _ _ _ (Appends-trans _ _ _ _ _ first second) third),
)

taken : (n m : ℕ) (l : List ℕ) → m ≤ length (take (length l - n) (drop n l)) → take m (take (length l - n) (drop n l)) ≡ take m (drop n l)
taken n m l h = grind (arith, common_steps)

-- some bytes, and some of the rest
pub more_taken : (old mid new : Option (List ℕ)) (bytes : List ℕ) (n m : ℕ)
    → Appends old mid (take n bytes) → Appends mid new (take m (take (length bytes - n) (drop n bytes)))
    → m ≤ length (take (length bytes - n) (drop n bytes))
    → Appends old new (take (n + m) bytes)
more_taken old mid new bytes n m first second few =
    subst (λ bs. Appends old new bs) (sym (take-add n m bytes))
    (Appends-trans _ _ _ _ _ first (subst (λ l. Appends mid new l) (taken n m bytes few) second))

-- ---- what stands behind a body

trailer_taken : (k s0 s1 s2 s3 : ℕ) → k ≤ 3 → take {A = ℕ} (7 - (3 - k)) (drop (3 - k) (0 ∷ 0 ∷ 0 ∷ s0 ∷ s1 ∷ s2 ∷ s3 ∷ []))
    ≡ replicate k 0 ++ (s0 ∷ s1 ∷ s2 ∷ s3 ∷ [])
trailer_taken zero s0 s1 s2 s3 few = refl
trailer_taken (suc zero) s0 s1 s2 s3 few = refl
trailer_taken (suc (suc zero)) s0 s1 s2 s3 few = refl
trailer_taken (suc (suc (suc zero))) s0 s1 s2 s3 few = refl
trailer_taken (suc (suc (suc (suc k)))) s0 s1 s2 s3 few = absurd (omega (arith, few))

-- the filler and the data checksum, out of three zero bytes and those of the sum
pub trailer_is : (body : List ℕ) (len sum s0 s1 s2 s3 : ℕ) → len ≡ packet_len (length body) → sum ≡ body_sum body → s0 ∷ s1 ∷ s2 ∷ s3 ∷ [] ≡ to_le_bytes w32 sum
    → take {A = ℕ} (7 - (3 - (len - 24 - length body))) (drop (3 - (len - 24 - length body)) (0 ∷ 0 ∷ 0 ∷ s0 ∷ s1 ∷ s2 ∷ s3 ∷ [])) ≡ packet_trailer WithSum body
trailer_is body len sum s0 s1 s2 s3 is summed bytes =
    let same : len - 24 - length body ≡ packet_len (length body) - (24 + length body) = omega (arith, is) in
    trailer_taken (len - 24 - length body) s0 s1 s2 s3 (omega (arith, is))
    ∙ ap (λ k. replicate k 0 ++ (s0 ∷ s1 ∷ s2 ∷ s3 ∷ [])) same
    ∙ ap (λ l. packet_filler (length body) ++ l) (bytes ∙ ap (to_le_bytes w32) summed)

-- the parts of a packet
pub parts_are : (header : HeaderData) (body head trailer : List ℕ) → head ≡ header_bytes header → trailer ≡ packet_trailer WithSum body
    → head ++ (body ++ trailer) ≡ packet_bytes WithSum header body
parts_are header body head trailer first last = ap (λ l. l ++ (body ++ trailer)) first ∙ ap (λ l. header_bytes header ++ (body ++ l)) last
