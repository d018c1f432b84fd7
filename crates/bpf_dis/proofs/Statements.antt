-- Each instruction's text is written as the grammar of a line has it.
-- idea: a line is a list of pieces (names, numbers, signs, spaces), whose written form is the text and whose tokens are the
-- grammar's by computing; each shape of operand has one lemma, and each form takes its shape's
use Rattle.std.proofs.Common.{Contains, ℕ, ◌+◌, ◌<◌, ◌≤◌, ◌^◌, ◌≡◌, inl, true, codes, decimal, List, [], ◌∷◌, ◌++◌}
use Rattle.std.proofs.Common.{Option, None, Some, option_and_then, if◌then◌else◌, refl, ap, arith}
use Rattle.std.proofs.lemmas.List.{append-nil}
use Rattle.bpf_insn.specs.declared.insn.Insn.{Insn}
use Rattle.bpf_insn.specs.declared.form.Form.{Form}
use Rattle.bpf_insn.specs.declared.form.Form.TheVariants.{LdImm, LdAbs, LdInd, LdMem, LdLen, LdxImm, LdxMem, LdxLen, LdxMsh}
use Rattle.bpf_insn.specs.declared.form.Form.TheVariants.{St, Stx, Alu, Neg, Ja, Test, RetK, RetA, Tax, Txa}
use Rattle.bpf_insn.specs.declared.form.Size.{Size}
use Rattle.bpf_insn.specs.declared.form.Size.TheVariants.{W, H, B}
use Rattle.bpf_insn.specs.declared.form.Src.TheVariants.{K, X}
use Rattle.bpf_insn.specs.declared.form.Op.{Op}
use Rattle.bpf_insn.specs.declared.form.Op.TheVariants.{Add, Sub, Mul, Div, Or, And, Lsh, Rsh, Mod, Xor}
use Rattle.bpf_insn.specs.declared.form.Cond.{Cond}
use Rattle.bpf_insn.specs.declared.form.Cond.TheVariants.{Eq, Gt, Ge, Set}
use Rattle.bpf_insn.specs.Bytes.{InRange}
use Rattle.bpf_insn.specs.Flow.{jump_targets}
use Rattle.bpf_asm.specs.Denotes.{Label, HasJumpFields}
use Rattle.bpf_dis.specs.Faults.{UnusedAreZero}
use Rattle.bpf_insn.specs.Mnemonics.{load_name, op_name, cond_name}
use Rattle.bpf_insn.specs.Uses.{uses_k}
use Rattle.bpf_asm.specs.Tokens.{Token}
use Rattle.bpf_asm.specs.Tokens.Token.{NameToken, NumberToken, SignToken}
use Rattle.bpf_asm.specs.Operands.{Operand}
use Rattle.bpf_asm.specs.Operands.Operand.{Nothing, Absolute, Indexed, Scratch, Immediate, HeaderLength, Targets}
use Rattle.bpf_asm.specs.Operands.Operand.{Word as WordOperand}
use Rattle.bpf_asm.specs.Mnemonics.{mnemonic_of}
use Rattle.bpf_asm.specs.Templates.{Template, Jump, template_of}
use Rattle.bpf_asm.specs.Templates.Jump.{NoJump, Always, Branch}
use Rattle.bpf_asm.specs.Grammar.{IsOperand, WritesInsn}
use Rattle.bpf_asm.proofs.MnemonicNames.{takes, op_takes, cond_takes}
use Rattle.bpf_dis.specs.ProgramText.{label_name, form_text}
use Rattle.bpf_dis.proofs.Numbers.{decimal_words}
use Rattle.bpf_dis.proofs.LinePieces.{Piece, written, tokens, IsWordOf, Fine, is_name, name_word, number_word}
use Rattle.bpf_dis.proofs.LinePieces.Piece.{Word, Sign, Space}

-- A text is an instruction's: its pieces, and that the grammar has their tokens.
pub record Says (text : List ℕ) (template : Template) : Type 0 where
  pub pieces : List Piece
  pub same : written pieces ≡ text
  pub fine : Fine pieces
  pub insn : WritesInsn template (tokens pieces)

-- where an instruction goes by labels
abbrev pub form_jump : Form → ℕ → Insn → Jump
form_jump Ja at insn = Always (label_name (at + 1 + insn.k))
form_jump (Test cond src) at insn = Branch (Some (label_name (at + 1 + insn.jt))) (Some (label_name (at + 1 + insn.jf)))
form_jump _ at insn = NoJump

-- the constant that a line shows: 0 where there is none, or a label stands for it
abbrev pub form_constant : Form → ℕ → ℕ
form_constant Ja k = 0
form_constant form k = if uses_k form then k else 0

-- an instruction that is no jump
abbrev plain : Form → ℕ → Template
plain form k = record { form = form; k = k; jump = NoJump }

-- what the line of the instruction with this index says, its labels left open
abbrev pub form_template : Form → ℕ → Insn → Template
form_template form at insn = record { form = form; k = form_constant form insn.k; jump = form_jump form at insn }

bind_some : {A B : Type 0} (o : Option A) (f : A → Option B) (y : B) → option_and_then f o ≡ Some y → (x : A) × (o ≡ Some x) × (f x ≡ Some y)
bind_some (Some x) f y e = (x, refl, e)
bind_some None f y e = cc

-- a mnemonic with an operand that it takes
writes : (name : List ℕ) (operand : Operand) (ts : List Token) (template : Template) → takes name operand ≡ Some template → IsOperand operand ts
    → WritesInsn template (NameToken name ∷ ts)
writes name operand ts template taken written =
    let mnemonic = bind_some (mnemonic_of name) (λ mnemonic. template_of mnemonic operand) template taken in
    record {
      name = name;
      mnemonic = mnemonic.0;
      operand = operand;
      operand_tokens = ts;
      tokens = refl;
      known = mnemonic.1;
      written = written;
      taken = mnemonic.2;
    }

-- a mnemonic alone
alone : (name : List ℕ) (template : Template) → is_name name ≡ true → takes name Nothing ≡ Some template → Says name template
alone name template h taken = record {
  pieces = Word name (NameToken name) ∷ [];
  same = append-nil name;
  fine = (name_word name h, tt, tt);
  insn = writes name Nothing [] _ taken refl;
}

-- #k
immediate : (name : List ℕ) (k : ℕ) (template : Template) → is_name name ≡ true → k ≤ 4294967295 → takes name (Immediate k) ≡ Some template
    → Says (name ++ (codes " #" ++ decimal k)) template
immediate name k template h within taken = record {
  pieces = Word name (NameToken name) ∷ Space ∷ Sign 35 ∷ Word (decimal k) (NumberToken k) ∷ [];
  same = ap (λ ds. name ++ (codes " #" ++ ds)) (append-nil (decimal k));
  fine = (name_word name h, refl, (refl, (number_word k within, tt, tt)));
  insn = writes name (Immediate k) (SignToken 35 ∷ NumberToken k ∷ []) _ taken refl;
}

-- [k]
absolute : (name : List ℕ) (k : ℕ) (template : Template) → is_name name ≡ true → k ≤ 4294967295 → takes name (Absolute k) ≡ Some template
    → Says (name ++ (codes " [" ++ (decimal k ++ codes "]"))) template
absolute name k template h within taken = record {
  pieces = Word name (NameToken name) ∷ Space ∷ Sign 91 ∷ Word (decimal k) (NumberToken k) ∷ Sign 93 ∷ [];
  same = refl;
  fine = (name_word name h, refl, (refl, (number_word k within, refl, (refl, tt))));
  insn = writes name (Absolute k) (SignToken 91 ∷ NumberToken k ∷ SignToken 93 ∷ []) _ taken refl;
}

-- [x + k]
indexed : (name : List ℕ) (k : ℕ) (template : Template) → is_name name ≡ true → k ≤ 4294967295 → takes name (Indexed k) ≡ Some template
    → Says (name ++ (codes " [x + " ++ (decimal k ++ codes "]"))) template
indexed name k template h within taken = record {
  pieces = Word name (NameToken name) ∷ Space ∷ Sign 91 ∷ Word (codes "x") (NameToken (codes "x")) ∷ Space ∷ Sign 43 ∷ Space ∷ Word (decimal k)
      (NumberToken k) ∷ Sign 93 ∷ [];
  same = refl;
  fine = (name_word name h, refl, (refl, (name_word (codes "x") refl, refl, (refl, (number_word k within, refl, (refl, tt))))));
  insn = writes name (Indexed k) (SignToken 91 ∷ NameToken (codes "x") ∷ SignToken 43 ∷ NumberToken k ∷ SignToken 93 ∷ []) _ taken
      (NameToken (codes "x") ∷ [], inl refl, refl);
}

-- M[k]
scratch : (name : List ℕ) (k : ℕ) (template : Template) → is_name name ≡ true → k ≤ 4294967295 → takes name (Scratch k) ≡ Some template
    → Says (name ++ (codes " M[" ++ (decimal k ++ codes "]"))) template
scratch name k template h within taken = record {
  pieces = Word name (NameToken name) ∷ Space ∷ Word (codes "M") (NameToken (codes "M")) ∷ Sign 91 ∷ Word (decimal k) (NumberToken k) ∷ Sign 93 ∷ [];
  same = refl;
  fine = (name_word name h, refl, (name_word (codes "M") refl, refl, (refl, (number_word k within, refl, (refl, tt)))));
  insn = writes name (Scratch k) (NameToken (codes "M") ∷ SignToken 91 ∷ NumberToken k ∷ SignToken 93 ∷ []) _ taken refl;
}

-- 4*([k]&0xf)
header_length : (k : ℕ) → k ≤ 4294967295 → Says (codes "ldxb 4*([" ++ (decimal k ++ codes "]&0xf)")) (plain LdxMsh k)
header_length k within =
    let four : IsWordOf (codes "4") (NumberToken 4) = (omega arith, refl, refl) in
    let fifteen : IsWordOf (codes "0xf") (NumberToken 15) = (omega arith, refl, refl) in
    record {
      pieces = Word (codes "ldxb") (NameToken (codes "ldxb")) ∷ Space ∷ Word (codes "4") (NumberToken 4) ∷ Sign 42 ∷ Sign 40 ∷ Sign 91 ∷ Word (decimal k)
          (NumberToken k) ∷ Sign 93 ∷ Sign 38 ∷ Word (codes "0xf") (NumberToken 15) ∷ Sign 41 ∷ [];
      same = refl;
      fine = (
        name_word (codes "ldxb") refl,
        refl,
        (four, refl, (refl, (refl, (refl, (number_word k within, refl, (refl, (refl, (fifteen, refl, (refl, tt))))))))),
      );
      insn = writes (codes "ldxb") (HeaderLength 4 k 15)
          (NumberToken 4 ∷ SignToken 42 ∷ SignToken 40
          ∷ SignToken 91 ∷ NumberToken k ∷ SignToken 93 ∷ SignToken 38 ∷ NumberToken 15 ∷ SignToken 41 ∷ []) _ refl refl;
    }

-- a single name: x, a, len or a label
single : (name : List ℕ) (word : List ℕ) (template : Template) → is_name name ≡ true → is_name word ≡ true → takes name (WordOperand word) ≡ Some template
    → Says (name ++ (codes " " ++ word)) template
single name word template h w taken = record {
  pieces = Word name (NameToken name) ∷ Space ∷ Word word (NameToken word) ∷ [];
  same = ap (λ bs. name ++ (codes " " ++ bs)) (append-nil word);
  fine = (name_word name h, refl, (name_word word w, tt, tt));
  insn = writes name (WordOperand word) (NameToken word ∷ []) _ taken refl;
}

-- the rest of a test after the source
abbrev after_source : List ℕ → List ℕ → List ℕ
after_source holds fails = codes "," ++ (holds ++ (codes "," ++ fails))

-- #k,L,L
constant_test : (name : List ℕ) (k : ℕ) (holds fails : List ℕ) (template : Template) → is_name name ≡ true → k ≤ 4294967295 → is_name holds ≡ true
    → is_name fails ≡ true
    → takes name (Targets K k holds (Some fails)) ≡ Some template
    → Says (name ++ (codes " " ++ ((codes "#" ++ decimal k) ++ after_source holds fails))) template
constant_test name k holds fails template h within one two taken = record {
  pieces = Word name (NameToken name) ∷ Space ∷ Sign 35 ∷ Word (decimal k) (NumberToken k) ∷ Sign 44 ∷ Word holds (NameToken holds) ∷ Sign 44 ∷ Word fails
      (NameToken fails) ∷ [];
  same = ap (λ bs. name ++ (codes " " ++ ((codes "#" ++ decimal k) ++ after_source holds bs))) (append-nil fails);
  fine = (name_word name h, refl, (refl, (number_word k within, refl, (refl, (name_word holds one, refl, (refl, (name_word fails two, tt, tt)))))));
  insn = writes name (Targets K k holds (Some fails))
      (SignToken 35 ∷ NumberToken k ∷ SignToken 44 ∷ NameToken holds ∷ SignToken 44 ∷ NameToken fails ∷ []) _ taken
      (SignToken 35 ∷ NumberToken k ∷ [], refl, refl);
}

-- x,L,L
index_test : (name : List ℕ) (holds fails : List ℕ) (template : Template) → is_name name ≡ true → is_name holds ≡ true → is_name fails ≡ true
    → takes name (Targets X 0 holds (Some fails)) ≡ Some template → Says (name ++ (codes " " ++ (codes "x" ++ after_source holds fails))) template
index_test name holds fails template h one two taken = record {
  pieces = Word name (NameToken name) ∷ Space ∷ Word (codes "x") (NameToken (codes "x")) ∷ Sign 44 ∷ Word holds (NameToken holds) ∷ Sign 44 ∷ Word fails
      (NameToken fails) ∷ [];
  same = ap (λ bs. name ++ (codes " " ++ (codes "x" ++ after_source holds bs))) (append-nil fails);
  fine = (name_word name h, refl, (name_word (codes "x") refl, refl, (refl, (name_word holds one, refl, (refl, (name_word fails two, tt, tt))))));
  insn = writes name (Targets X 0 holds (Some fails)) (NameToken (codes "x") ∷ SignToken 44 ∷ NameToken holds ∷ SignToken 44 ∷ NameToken fails ∷ []) _ taken
      (NameToken (codes "x") ∷ [], (refl, inl refl), refl);
}

load_says : (size : Size) (k : ℕ) → k ≤ 4294967295 → Says (load_name size ++ (codes " [" ++ (decimal k ++ codes "]"))) (plain (LdAbs size) k)
load_says W k within = absolute (codes "ld") k _ refl within refl
load_says H k within = absolute (codes "ldh") k _ refl within refl
load_says B k within = absolute (codes "ldb") k _ refl within refl

indexed_says : (size : Size) (k : ℕ) → k ≤ 4294967295 → Says (load_name size ++ (codes " [x + " ++ (decimal k ++ codes "]"))) (plain (LdInd size) k)
indexed_says W k within = indexed (codes "ld") k _ refl within refl
indexed_says H k within = indexed (codes "ldh") k _ refl within refl
indexed_says B k within = indexed (codes "ldb") k _ refl within refl

op_is_name : (op : Op) → is_name (op_name op) ≡ true
op_is_name Add = refl
op_is_name Sub = refl
op_is_name Mul = refl
op_is_name Div = refl
op_is_name Or = refl
op_is_name And = refl
op_is_name Lsh = refl
op_is_name Rsh = refl
op_is_name Mod = refl
op_is_name Xor = refl

cond_is_name : (cond : Cond) → is_name (cond_name cond) ≡ true
cond_is_name Eq = refl
cond_is_name Gt = refl
cond_is_name Ge = refl
cond_is_name Set = refl

-- a label is a name
pub label_is_name : (to : ℕ) → to < 2 ^ 64 → is_name (label_name to) ≡ true
label_is_name to small = (decimal_words to small).1

said : (f : Form) (at : ℕ) (insn : Insn) → insn.k ≤ 4294967295 → is_name (label_name (at + 1 + insn.k)) ≡ true
    → is_name (label_name (at + 1 + insn.jt)) ≡ true → is_name (label_name (at + 1 + insn.jf)) ≡ true
    → Says (form_text f at insn) (form_template f at insn)
said LdImm at insn k always holds fails = immediate (codes "ld") insn.k _ refl k refl
said (LdAbs size) at insn k always holds fails = load_says size insn.k k
said (LdInd size) at insn k always holds fails = indexed_says size insn.k k
said LdMem at insn k always holds fails = scratch (codes "ld") insn.k _ refl k refl
said LdLen at insn k always holds fails = single (codes "ld") (codes "len") _ refl refl refl
said LdxImm at insn k always holds fails = immediate (codes "ldx") insn.k _ refl k refl
said LdxMem at insn k always holds fails = scratch (codes "ldx") insn.k _ refl k refl
said LdxLen at insn k always holds fails = single (codes "ldx") (codes "len") _ refl refl refl
said LdxMsh at insn k always holds fails = header_length insn.k k
said St at insn k always holds fails = scratch (codes "st") insn.k _ refl k refl
said Stx at insn k always holds fails = scratch (codes "stx") insn.k _ refl k refl
said (Alu op K) at insn k always holds fails = immediate (op_name op) insn.k _ (op_is_name op) k (op_takes op _)
said (Alu op X) at insn k always holds fails = single (op_name op) (codes "x") _ (op_is_name op) refl (op_takes op _)
said Neg at insn k always holds fails = alone (codes "neg") _ refl refl
said Ja at insn k always holds fails = single (codes "jmp") (label_name (at + 1 + insn.k)) _ refl always refl
said (Test cond K) at insn k always holds fails =
    constant_test (cond_name cond) insn.k (label_name (at + 1 + insn.jt)) (label_name (at + 1 + insn.jf)) _ (cond_is_name cond) k holds fails
    (cond_takes cond _)
said (Test cond X) at insn k always holds fails =
    index_test (cond_name cond) (label_name (at + 1 + insn.jt)) (label_name (at + 1 + insn.jf)) _ (cond_is_name cond) holds fails (cond_takes cond _)
said RetK at insn k always holds fails = immediate (codes "ret") insn.k _ refl k refl
said RetA at insn k always holds fails = single (codes "ret") (codes "a") _ refl refl refl
said Tax at insn k always holds fails = alone (codes "tax") _ refl refl
said Txa at insn k always holds fails = alone (codes "txa") _ refl refl

-- the text of an instruction of this form says what its template has
pub form_says : (f : Form) (at : ℕ) (insn : Insn) → InRange insn → at + 1 + 4294967296 < 2 ^ 64 → Says (form_text f at insn) (form_template f at insn)
form_says f at insn range room =
    let k : insn.k ≤ 4294967295 = omega (arith, range.k) in
    let always = label_is_name (at + 1 + insn.k) (omega (arith, k, room)) in
    let holds = label_is_name (at + 1 + insn.jt) (omega (arith, range.jt, room)) in
    let fails = label_is_name (at + 1 + insn.jf) (omega (arith, range.jf, room)) in
    said f at insn k always holds fails

abbrev pub label_at : ℕ → Label
label_at to = record { name = label_name to; at = to }

-- each of these targets has its label
abbrev pub EachKnown : List Label → List ℕ → Type 0
EachKnown labels [] = Unit {0}
EachKnown labels (target ∷ targets) = Contains labels (label_at target) × EachKnown labels targets

-- the fields are those that the text says, the others 0
pub fields : (f : Form) (labels : List Label) (at : ℕ) (insn : Insn) → UnusedAreZero f insn → insn.jt ≤ 255 → insn.jf ≤ 255
    → EachKnown labels (jump_targets (Some f) insn at)
    → HasJumpFields labels at (form_template f at insn).jump (form_template f at insn).k insn
fields LdImm labels at insn z t f known = ((z.1 refl).0, (z.1 refl).1, refl)
fields (LdAbs size) labels at insn z t f known = ((z.1 refl).0, (z.1 refl).1, refl)
fields (LdInd size) labels at insn z t f known = ((z.1 refl).0, (z.1 refl).1, refl)
fields LdMem labels at insn z t f known = ((z.1 refl).0, (z.1 refl).1, refl)
fields LdLen labels at insn z t f known = ((z.1 refl).0, (z.1 refl).1, z.0 refl)
fields LdxImm labels at insn z t f known = ((z.1 refl).0, (z.1 refl).1, refl)
fields LdxMem labels at insn z t f known = ((z.1 refl).0, (z.1 refl).1, refl)
fields LdxLen labels at insn z t f known = ((z.1 refl).0, (z.1 refl).1, z.0 refl)
fields LdxMsh labels at insn z t f known = ((z.1 refl).0, (z.1 refl).1, refl)
fields St labels at insn z t f known = ((z.1 refl).0, (z.1 refl).1, refl)
fields Stx labels at insn z t f known = ((z.1 refl).0, (z.1 refl).1, refl)
fields (Alu op K) labels at insn z t f known = ((z.1 refl).0, (z.1 refl).1, refl)
fields (Alu op X) labels at insn z t f known = ((z.1 refl).0, (z.1 refl).1, z.0 refl)
fields Neg labels at insn z t f known = ((z.1 refl).0, (z.1 refl).1, z.0 refl)
fields Ja labels at insn z t f known = ((z.1 refl).0, (z.1 refl).1, known.0)
fields (Test cond K) labels at insn z t f known = ((t, known.0), (f, known.1.0), refl)
fields (Test cond X) labels at insn z t f known = ((t, known.0), (f, known.1.0), z.0 refl)
fields RetK labels at insn z t f known = ((z.1 refl).0, (z.1 refl).1, refl)
fields RetA labels at insn z t f known = ((z.1 refl).0, (z.1 refl).1, z.0 refl)
fields Tax labels at insn z t f known = ((z.1 refl).0, (z.1 refl).1, z.0 refl)
fields Txa labels at insn z t f known = ((z.1 refl).0, (z.1 refl).1, z.0 refl)
