-- The operand that is read is the one that the grammar has.
-- idea: one direction takes the reader apart, step by step, and each step that gave a value says which token it took; the
-- other computes the reader on the tokens that the grammar writes
use Rattle.std.proofs.Common.{ℕ, ◌≡◌, ◌⊎◌, inl, inr, Bool, true, false, cond, eqb, List, [], ◌∷◌, ◌++◌, Option, None, Some, codes, refl, sym, ◌∙◌, ap, subst}
use Rattle.std.specs.Option.{option_and_then}
use Rattle.std.proofs.lemmas.Bool.{eqb-true}
use Rattle.std.proofs.lemmas.Option.{cond_some}
use Rattle.std.proofs.lemmas.Slice.Eq.{bytes_eq-Decides}
use Rattle.bpf_insn.specs.declared.form.Src.{Src}
use Rattle.bpf_insn.specs.declared.form.Src.TheVariants.{K, X}
use Rattle.bpf_asm.specs.Tokens.{Token}
use Rattle.bpf_asm.specs.Tokens.Token.{NameToken, NumberToken, SignToken}
use Rattle.bpf_asm.specs.Operands.{Operand, is_name, after_sign, first_number, first_name, at_end, number_in_brackets, after_x}
use Rattle.bpf_asm.specs.Operands.{after_index, indexed_operand, load_operand, second_target, targets, header_length, after_number}
use Rattle.bpf_asm.specs.Operands.{after_name, after_constant, after_hash, after_register, after_percent, operand_of}
use Rattle.bpf_asm.specs.Operands.Operand.{Nothing, Absolute, Indexed, Scratch, Immediate, Bare, Word, HashWord}
use Rattle.bpf_asm.specs.Operands.Operand.{IndexRegister, Accumulator, Length, HeaderLength, Targets}
use Rattle.bpf_asm.specs.Grammar.{IsIndex, IsSource, IsOperand, target_tokens}

bind_some : {A B : Type 0} (o : Option A) (f : A → Option B) (y : B) → option_and_then f o ≡ Some y → (x : A) × (o ≡ Some x) × (f x ≡ Some y)
bind_some (Some x) f y e = (x, refl, e)
bind_some None f y e = cc

-- the way that a test went
chosen : {A : Type 0} (b : Bool) (x y : Option A) (z : A) → cond b x y ≡ Some z → ((b ≡ true) × (x ≡ Some z)) ⊎ ((b ≡ false) × (y ≡ Some z))
chosen true x y z e = inl (refl, e)
chosen false x y z e = inr (refl, e)

word_is : (name word : List ℕ) → is_name name word ≡ true → name ≡ word
word_is name word e = (bytes_eq-Decides name word).0 e

sign_is : (c : ℕ) (ts rest : List Token) → after_sign c ts ≡ Some rest → ts ≡ SignToken c ∷ rest
sign_is c [] rest e = cc
sign_is c (NameToken name ∷ ts) rest e = cc
sign_is c (NumberToken k ∷ ts) rest e = cc
sign_is c (SignToken b ∷ ts) rest e =
    let both = cond_some (eqb b c) ts rest e in
    let same : b ≡ c = eqb-true b c both.0 in
    let after : ts ≡ rest = both.1 in
    cc

number_is : (ts : List Token) (r : ℕ × List Token) → first_number ts ≡ Some r → ts ≡ NumberToken r.0 ∷ r.1
number_is [] r e = cc
number_is (NameToken name ∷ ts) r e = cc
number_is (SignToken c ∷ ts) r e = cc
number_is (NumberToken k ∷ ts) r e = let same : (k, ts) ≡ r = cc in ap (λ (x : ℕ × List Token). NumberToken x.0 ∷ x.1) same

name_is : (ts : List Token) (r : List ℕ × List Token) → first_name ts ≡ Some r → ts ≡ NameToken r.0 ∷ r.1
name_is [] r e = cc
name_is (NumberToken k ∷ ts) r e = cc
name_is (SignToken c ∷ ts) r e = cc
name_is (NameToken name ∷ ts) r e = let same : (name, ts) ≡ r = cc in ap (λ (x : List ℕ × List Token). NameToken x.0 ∷ x.1) same

end_is : {A : Type 0} (x y : A) (ts : List Token) → at_end x ts ≡ Some y → (ts ≡ []) × (x ≡ y)
end_is x y [] e = (refl, (let same : x ≡ y = cc in same))
end_is x y (t ∷ ts) e = cc

in_brackets_is : (ts : List Token) (r : ℕ × List Token) → number_in_brackets ts ≡ Some r → ts ≡ SignToken 91 ∷ NumberToken r.0 ∷ SignToken 93 ∷ r.1
unfolding number_in_brackets
in_brackets_is ts r e =
    let open_ = bind_some (after_sign 91 ts) _ r e in
    let number = bind_some (first_number open_.0) _ r open_.2 in
    let close = bind_some (after_sign 93 number.0.1) _ r number.2 in
    let first = sign_is 91 ts open_.0 open_.1 in
    let second = number_is open_.0 number.0 number.1 in
    let third = sign_is 93 number.0.1 close.0 close.1 in
    let same : (number.0.0, close.0) ≡ r = cc in
    first ∙ ap (λ xs. SignToken 91 ∷ xs) (second ∙ ap (λ xs. NumberToken number.0.0 ∷ xs) third) ∙ ap
    (λ (x : ℕ × List Token). SignToken 91 ∷ NumberToken x.0 ∷ SignToken 93 ∷ x.1) same

guarded : {A : Type 0} (b : Bool) (x : Option A) (z : A) → cond b x None ≡ Some z → (b ≡ true) × (x ≡ Some z)
guarded true x z e = (refl, e)
guarded false x z e = cc

spelled : (o p : Operand) (ts : List Token) → p ≡ o → IsOperand p ts → IsOperand o ts
spelled o p ts e h = let P : Operand → Type 0 = λ q. IsOperand q ts in subst P e h

spelled_so : (o : Operand) (ts us : List Token) → us ≡ ts → IsOperand o ts → IsOperand o us
spelled_so o ts us e h = let P : List Token → Type 0 = λ xs. IsOperand o xs in subst P (sym e) h

x_is : (ts rest : List Token) → after_x ts ≡ Some rest → ts ≡ NameToken (codes "x") ∷ rest
x_is [] rest e = cc
x_is (NumberToken k ∷ ts) rest e = cc
x_is (SignToken c ∷ ts) rest e = cc
x_is (NameToken name ∷ ts) rest e =
    let both = cond_some (is_name name (codes "x")) ts rest e in
    ap (λ n. NameToken n ∷ ts) (word_is name (codes "x") both.0) ∙ ap (λ xs. NameToken (codes "x") ∷ xs) both.1

index_is : (ts rest : List Token) → after_index ts ≡ Some rest → (x : List Token) × IsIndex x × (ts ≡ x ++ rest)
index_is [] rest e = cc
index_is (NumberToken k ∷ ts) rest e = cc
index_is (NameToken name ∷ ts) rest e = (NameToken (codes "x") ∷ [], inl refl, x_is (NameToken name ∷ ts) rest e)
index_is (SignToken c ∷ ts) rest e =
    let both = guarded (eqb c 37) (after_x ts) rest e in (
      SignToken 37 ∷ NameToken (codes "x") ∷ [],
      inr refl,
      ap (λ b. SignToken b ∷ ts) (eqb-true c 37 both.0) ∙ ap (λ xs. SignToken 37 ∷ xs)
          (x_is ts rest both.1),
    )

indexed_is : (ts : List Token) (o : Operand) → indexed_operand ts ≡ Some o → IsOperand o (SignToken 91 ∷ ts)
unfolding indexed_operand
indexed_is ts o e =
    let index = bind_some (after_index ts) _ o e in
    let plus = bind_some (after_sign 43 index.0) _ o index.2 in
    let number = bind_some (first_number plus.0) _ o plus.2 in
    let close = bind_some (after_sign 93 number.0.1) _ o number.2 in
    let end = end_is (Indexed number.0.0) o close.0 close.2 in
    let x = index_is ts index.0 index.1 in
    let rest =
    sign_is 43 index.0 plus.0 plus.1 ∙ ap (λ xs. SignToken 43 ∷ xs)
    (number_is plus.0 number.0 number.1 ∙ ap (λ xs. NumberToken number.0.0 ∷ xs)
    (sign_is 93 number.0.1 close.0 close.1 ∙ ap (λ xs. SignToken 93 ∷ xs) end.0)) in
    spelled o (Indexed number.0.0) (SignToken 91 ∷ ts) end.1 (x.0, x.1, ap (λ xs. SignToken 91 ∷ xs) (x.2 ∙ ap (λ xs. x.0 ++ xs) rest))

loaded_is : (ts : List Token) (o : Operand) → load_operand ts ≡ Some o → IsOperand o (SignToken 91 ∷ ts)
loaded_is [] o e = indexed_is [] o e
loaded_is (NameToken name ∷ ts) o e = indexed_is (NameToken name ∷ ts) o e
loaded_is (SignToken c ∷ ts) o e = indexed_is (SignToken c ∷ ts) o e
loaded_is (NumberToken k ∷ ts) o e =
    let close = bind_some (after_sign 93 ts) (at_end (Absolute k)) o e in
    let end = end_is (Absolute k) o close.0 close.2 in
    spelled o (Absolute k) (SignToken 91 ∷ NumberToken k ∷ ts) end.1
    (ap (λ xs. SignToken 91 ∷ NumberToken k ∷ xs) (sign_is 93 ts close.0 close.1 ∙ ap (λ xs. SignToken 93 ∷ xs) end.0))

second_is : (src : Src) (k : ℕ) (first : List ℕ) (ts : List Token) (o : Operand) → second_target src k first ts ≡ Some o
    → (second : Option (List ℕ)) × (Targets src k first second ≡ o) × (SignToken 44 ∷ NameToken first ∷ ts ≡ target_tokens first second)
second_is src k first [] o e = (None, (let same : Targets src k first None ≡ o = cc in same), refl)
second_is src k first (t ∷ ts) o e =
    let comma = bind_some (after_sign 44 (t ∷ ts)) _ o e in
    let name = bind_some (first_name comma.0) _ o comma.2 in
    let end = end_is (Targets src k first (Some name.0.0)) o name.0.1 name.2 in (
      Some name.0.0,
      end.1,
      ap (λ xs. SignToken 44 ∷ NameToken first ∷ xs)
          (sign_is 44 (t ∷ ts) comma.0 comma.1 ∙ ap (λ xs. SignToken 44 ∷ xs) (name_is comma.0 name.0 name.1 ∙ ap (λ xs. NameToken name.0.0 ∷ xs) end.0)),
    )

targets_is : (src : Src) (k : ℕ) (front ts : List Token) (o : Operand) → IsSource src k front → targets src k ts ≡ Some o → IsOperand o (front ++ ts)
unfolding targets
targets_is src k front ts o is_source e =
    let comma = bind_some (after_sign 44 ts) _ o e in
    let name = bind_some (first_name comma.0) _ o comma.2 in
    let second = second_is src k name.0.0 name.0.1 o name.2 in
    let written = sign_is 44 ts comma.0 comma.1 ∙ ap (λ xs. SignToken 44 ∷ xs) (name_is comma.0 name.0 name.1) ∙ second.2 in
    spelled o (Targets src k name.0.0 second.0) (front ++ ts) second.1 (front, is_source, ap (λ xs. front ++ xs) written)

header_is : (m : ℕ) (ts : List Token) (o : Operand) → header_length m ts ≡ Some o → IsOperand o (NumberToken m ∷ ts)
unfolding header_length
header_is m ts o e =
    let star = bind_some (after_sign 42 ts) _ o e in
    let open_ = bind_some (after_sign 40 star.0) _ o star.2 in
    let place = bind_some (number_in_brackets open_.0) _ o open_.2 in
    let and_ = bind_some (after_sign 38 place.0.1) _ o place.2 in
    let mask = bind_some (first_number and_.0) _ o and_.2 in
    let close = bind_some (after_sign 41 mask.0.1) _ o mask.2 in
    let end = end_is (HeaderLength m place.0.0 mask.0.0) o close.0 close.2 in
    let last =
    number_is and_.0 mask.0 mask.1 ∙ ap (λ xs. NumberToken mask.0.0 ∷ xs) (sign_is 41 mask.0.1 close.0 close.1 ∙ ap (λ xs. SignToken 41 ∷ xs) end.0) in
    let middle =
    in_brackets_is open_.0 place.0 place.1 ∙ ap (λ xs. SignToken 91 ∷ NumberToken place.0.0 ∷ SignToken 93 ∷ xs)
    (sign_is 38 place.0.1 and_.0 and_.1 ∙ ap (λ xs. SignToken 38 ∷ xs) last) in
    let written = sign_is 42 ts star.0 star.1 ∙ ap (λ xs. SignToken 42 ∷ xs) (sign_is 40 star.0 open_.0 open_.1 ∙ ap (λ xs. SignToken 40 ∷ xs) middle) in
    spelled o (HeaderLength m place.0.0 mask.0.0) (NumberToken m ∷ ts) end.1 (ap (λ xs. NumberToken m ∷ xs) written)

number_operand_is : (k : ℕ) (ts : List Token) (o : Operand) → after_number k ts ≡ Some o → IsOperand o (NumberToken k ∷ ts)
number_operand_is k [] o e = spelled o (Bare k) _ (let same : Bare k ≡ o = cc in same) refl
number_operand_is k (t ∷ ts) o e = header_is k (t ∷ ts) o e

scratch_is : (ts : List Token) (o : Operand) → option_and_then (λ (k : ℕ × List Token). at_end (Scratch k.0) k.1) (number_in_brackets ts) ≡ Some o
    → IsOperand o (NameToken (codes "M") ∷ ts)
scratch_is ts o e =
    let place = bind_some (number_in_brackets ts) (λ (k : ℕ × List Token). at_end (Scratch k.0) k.1) o e in
    let end = end_is (Scratch place.0.0) o place.0.1 place.2 in
    spelled o (Scratch place.0.0) (NameToken (codes "M") ∷ ts) end.1
    (ap (λ xs. NameToken (codes "M") ∷ xs) (in_brackets_is ts place.0 place.1 ∙ ap (λ xs. SignToken 91 ∷ NumberToken place.0.0 ∷ SignToken 93 ∷ xs) end.0))

name_cases : (name : List ℕ) (ts : List Token) (o : Operand) (scratch : Option Operand)
    → (scratch ≡ Some o → IsOperand o (NameToken (codes "M") ∷ ts))
    → ((is_name name (codes "M") ≡ true) × (scratch ≡ Some o)) ⊎ ((is_name name (codes "M") ≡ false)
    × (cond (is_name name (codes "x")) (targets X 0 ts) None ≡ Some o))
    → IsOperand o (NameToken name ∷ ts)
name_cases name ts o scratch known (inl both) =
    spelled_so o (NameToken (codes "M") ∷ ts) _ (ap (λ n. NameToken n ∷ ts) (word_is name (codes "M") both.0)) (known both.1)
name_cases name ts o scratch known (inr both) =
    let x = guarded (is_name name (codes "x")) (targets X 0 ts) o both.1 in
    spelled_so o (NameToken (codes "x") ∷ ts) _ (ap (λ n. NameToken n ∷ ts) (word_is name (codes "x") x.0))
    (targets_is X 0 (NameToken (codes "x") ∷ []) ts o (refl, inl refl) x.1)

name_operand_is : (name : List ℕ) (ts : List Token) (o : Operand) → after_name name ts ≡ Some o → IsOperand o (NameToken name ∷ ts)
name_operand_is name [] o e = spelled o (Word name) _ (let same : Word name ≡ o = cc in same) refl
name_operand_is name (t ∷ ts) o e =
    name_cases name (t ∷ ts) o _ (scratch_is (t ∷ ts) o)
    (chosen (is_name name (codes "M")) _ (cond (is_name name (codes "x")) (targets X 0 (t ∷ ts)) None) o e)

constant_is : (k : ℕ) (ts : List Token) (o : Operand) → after_constant k ts ≡ Some o → IsOperand o (SignToken 35 ∷ NumberToken k ∷ ts)
constant_is k [] o e = spelled o (Immediate k) _ (let same : Immediate k ≡ o = cc in same) refl
constant_is k (t ∷ ts) o e = targets_is K k (SignToken 35 ∷ NumberToken k ∷ []) (t ∷ ts) o refl e

hash_is : (ts : List Token) (o : Operand) → after_hash ts ≡ Some o → IsOperand o (SignToken 35 ∷ ts)
hash_is [] o e = cc
hash_is (SignToken c ∷ ts) o e = cc
hash_is (NumberToken k ∷ ts) o e = constant_is k ts o e
hash_is (NameToken name ∷ ts) o e =
    let end = end_is (HashWord name) o ts e in
    spelled o (HashWord name) _ end.1 (ap (λ xs. SignToken 35 ∷ NameToken name ∷ xs) end.0)

register_is : (ts : List Token) (o : Operand) → after_register ts ≡ Some o → IsOperand o (SignToken 37 ∷ NameToken (codes "x") ∷ ts)
register_is [] o e = spelled o IndexRegister _ (let same : IndexRegister ≡ o = cc in same) refl
register_is (t ∷ ts) o e = targets_is X 0 (SignToken 37 ∷ NameToken (codes "x") ∷ []) (t ∷ ts) o (refl, inr refl) e

percent_cases : (name : List ℕ) (ts : List Token) (o : Operand)
    → ((is_name name (codes "x") ≡ true) × (after_register ts ≡ Some o)) ⊎ ((is_name name (codes "x") ≡ false)
    × (cond (is_name name (codes "a")) (at_end Accumulator ts) None ≡ Some o))
    → IsOperand o (SignToken 37 ∷ NameToken name ∷ ts)
percent_cases name ts o (inl both) =
    spelled_so o (SignToken 37 ∷ NameToken (codes "x") ∷ ts) _ (ap (λ n. SignToken 37 ∷ NameToken n ∷ ts) (word_is name (codes "x") both.0))
    (register_is ts o both.1)
percent_cases name ts o (inr both) =
    let a = guarded (is_name name (codes "a")) (at_end Accumulator ts) o both.1 in
    let end = end_is Accumulator o ts a.1 in
    spelled o Accumulator _ end.1 (ap (λ n. SignToken 37 ∷ NameToken n ∷ ts) (word_is name (codes "a") a.0) ∙ ap
    (λ xs. SignToken 37 ∷ NameToken (codes "a") ∷ xs) end.0)

percent_is : (ts : List Token) (o : Operand) → after_percent ts ≡ Some o → IsOperand o (SignToken 37 ∷ ts)
percent_is [] o e = cc
percent_is (SignToken c ∷ ts) o e = cc
percent_is (NumberToken k ∷ ts) o e = cc
percent_is (NameToken name ∷ ts) o e =
    percent_cases name ts o (chosen (is_name name (codes "x")) (after_register ts) (cond (is_name name (codes "a")) (at_end Accumulator ts) None) o e)

with_sign : (o : Operand) (b c : ℕ) (ts : List Token) → eqb b c ≡ true → IsOperand o (SignToken c ∷ ts) → IsOperand o (SignToken b ∷ ts)
with_sign o b c ts e h = spelled_so o (SignToken c ∷ ts) _ (ap (λ s. SignToken s ∷ ts) (eqb-true b c e)) h

hash_cases : (c : ℕ) (ts : List Token) (o : Operand)
    → ((eqb c 35 ≡ true) × (after_hash ts ≡ Some o)) ⊎ ((eqb c 35 ≡ false) × (cond (eqb c 37) (after_percent ts) None ≡ Some o))
    → IsOperand o (SignToken c ∷ ts)
hash_cases c ts o (inl both) = with_sign o c 35 ts both.0 (hash_is ts o both.1)
hash_cases c ts o (inr both) = let percent = guarded (eqb c 37) (after_percent ts) o both.1 in with_sign o c 37 ts percent.0 (percent_is ts o percent.1)

sign_cases : (c : ℕ) (ts : List Token) (o : Operand)
    → ((eqb c 91 ≡ true) × (load_operand ts ≡ Some o)) ⊎ ((eqb c 91 ≡ false)
    × (cond (eqb c 35) (after_hash ts) (cond (eqb c 37) (after_percent ts) None) ≡ Some o)) → IsOperand o (SignToken c ∷ ts)
sign_cases c ts o (inl both) = with_sign o c 91 ts both.0 (loaded_is ts o both.1)
sign_cases c ts o (inr both) = hash_cases c ts o (chosen (eqb c 35) (after_hash ts) (cond (eqb c 37) (after_percent ts) None) o both.1)

-- an operand that is read is written so
pub operand_is : (ts : List Token) (o : Operand) → operand_of ts ≡ Some o → IsOperand o ts
operand_is [] o e = spelled o Nothing _ (let same : Nothing ≡ o = cc in same) refl
operand_is (NumberToken k ∷ ts) o e = number_operand_is k ts o e
operand_is (NameToken name ∷ ts) o e = name_operand_is name ts o e
operand_is (SignToken c ∷ ts) o e = sign_cases c ts o (chosen (eqb c 91) (load_operand ts) _ o e)

index_read : (k : ℕ) (x : List Token) → IsIndex x → operand_of (SignToken 91 ∷ (x ++ SignToken 43 ∷ NumberToken k ∷ SignToken 93 ∷ [])) ≡ Some (Indexed k)
unfolding indexed_operand
index_read k x (inl e) = ap (λ xs. operand_of (SignToken 91 ∷ (xs ++ SignToken 43 ∷ NumberToken k ∷ SignToken 93 ∷ []))) e
index_read k x (inr e) = ap (λ xs. operand_of (SignToken 91 ∷ (xs ++ SignToken 43 ∷ NumberToken k ∷ SignToken 93 ∷ []))) e

index_targets_read : (first : List ℕ) (second : Option (List ℕ)) (front : List Token) → IsIndex front
    → operand_of (front ++ target_tokens first second) ≡ Some (Targets X 0 first second)
unfolding targets
index_targets_read first None front (inl e) = ap (λ xs. operand_of (xs ++ target_tokens first None)) e
index_targets_read first None front (inr e) = ap (λ xs. operand_of (xs ++ target_tokens first None)) e
index_targets_read first (Some second) front (inl e) = ap (λ xs. operand_of (xs ++ target_tokens first (Some second))) e
index_targets_read first (Some second) front (inr e) = ap (λ xs. operand_of (xs ++ target_tokens first (Some second))) e

targets_read : (src : Src) (k : ℕ) (first : List ℕ) (second : Option (List ℕ)) (front : List Token) → IsSource src k front
    → operand_of (front ++ target_tokens first second) ≡ Some (Targets src k first second)
unfolding targets
targets_read K k first None front e = ap (λ xs. operand_of (xs ++ target_tokens first None)) e
targets_read K k first (Some second) front e = ap (λ xs. operand_of (xs ++ target_tokens first (Some second))) e
targets_read X k first second front e = index_targets_read first second front e.1 ∙ ap (λ n. Some (Targets X n first second)) (sym e.0)

-- an operand is read as it is written
pub operand_read : (o : Operand) (ts : List Token) → IsOperand o ts → operand_of ts ≡ Some o
unfolding number_in_brackets header_length
operand_read Nothing ts h = ap operand_of h
operand_read (Absolute k) ts h = ap operand_of h
operand_read (Indexed k) ts h = ap operand_of h.2 ∙ index_read k h.0 h.1
operand_read (Scratch k) ts h = ap operand_of h
operand_read (Immediate k) ts h = ap operand_of h
operand_read (Bare k) ts h = ap operand_of h
operand_read (Word name) ts h = ap operand_of h
operand_read (HashWord name) ts h = ap operand_of h
operand_read IndexRegister ts h = ap operand_of h
operand_read Accumulator ts h = ap operand_of h
operand_read Length ts h = absurd h
operand_read (HeaderLength m k n) ts h = ap operand_of h
operand_read (Targets src k first second) ts h = ap operand_of h.2 ∙ targets_read src k first second h.0 h.1
