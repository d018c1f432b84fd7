-- The first fault of a text that denotes no program. first come the faults of lines, in the text's
-- order: a fault of the line's tokens, a name that is a label for the second time, a fault of its
-- mnemonic and operand, one instruction too many then come labels that no instruction follows, and
-- then, jump by jump, the labels that jumps name
use Rattle.std.specs.Prelude.{ℕ, ◌+◌, ◌≡◌, ◌≢◌, ◌<◌, ◌≤◌, ◌⊎◌, List, [], ◌∷◌, ◌++◌, length, Option}
use Rattle.std.specs.Prelude.{None, Some, Ok, Err, All, AllPairs, Contains}
use Rattle.std.specs.List.{flat_map}
use Rattle.bpf_insn.specs.declared.insn.Insn.{Insn}
use Rattle.bpf_insn.specs.declared.insn.TheConstants.{MAX_INSNS}
use Rattle.bpf_asm.specs.declared.fault.LineFault.{LineFault}
use Rattle.bpf_asm.specs.declared.fault.LineFault.TheVariants as line
use Rattle.bpf_asm.specs.declared.fault.AsmFault.{AsmFault}
use Rattle.bpf_asm.specs.declared.fault.AsmFault.TheVariants.{Syntax, Number, UnknownMnemonic}
use Rattle.bpf_asm.specs.declared.fault.AsmFault.TheVariants.{OperandNotAllowed}
use Rattle.bpf_asm.specs.declared.fault.AsmFault.TheVariants.{LabelMissing, LabelTwice, Backward}
use Rattle.bpf_asm.specs.declared.fault.AsmFault.TheVariants.{TooFar, TooLong}
use Rattle.bpf_asm.specs.Blanked.{without_comments, lines_of}
use Rattle.bpf_asm.specs.Tokens.{line_tokens}
use Rattle.bpf_asm.specs.Templates.{Template, Jump}
use Rattle.bpf_asm.specs.Templates.Jump.{NoJump, Always, Branch}
use Rattle.bpf_asm.specs.Lines.{Reading, reading_of}
use Rattle.bpf_asm.specs.Grammar.{Shape}
use Rattle.bpf_asm.specs.Denotes.{HaveShapes, Label, labels_from, templates_of, Leads}
use Rattle.bpf_asm.specs.Denotes.{BranchesToLabels, AreInsns, Denotes}

-- a fault of one line, in the line with this number
abbrev pub in_line : ℕ → LineFault → AsmFault
in_line number line.Syntax = Syntax number
in_line number line.Number = Number number
in_line number line.UnknownMnemonic = UnknownMnemonic number
in_line number line.OperandNotAllowed = OperandNotAllowed number

-- the names of all labels, in their order
abbrev pub names_of : List Shape → List (List ℕ)
names_of shapes = flat_map (λ shape. shape.labels) shapes

-- no name stands twice
abbrev pub Once : List (List ℕ) → Type 0
Once names = AllPairs (λ first second. first ≢ second) names

-- lines without a fault: each has its shape, no name is a label twice, and there are no more
-- instructions than a program may have
pub record AreWell (lines : List (List ℕ)) (shapes : List Shape) : Type 0 where
  pub shaped : HaveShapes lines shapes
  pub once : Once (names_of shapes)
  pub size : length (templates_of shapes) ≤ MAX_INSNS

-- no name stands twice among the labels of lines with these shapes and of the next line
abbrev pub LabelsOnce : List Shape → Reading → Type 0
LabelsOnce shapes reading = Once (names_of shapes ++ reading.labels)

-- the first fault of the line with this number, which stands after lines with these shapes
pub data LineBreaks (shapes : List Shape) (line : List ℕ) (number : ℕ) : AsmFault → Type 0 where
  -- a fault of its tokens
  InTokens : (fault : LineFault) → line_tokens line ≡ Err fault
      → LineBreaks shapes line number (in_line number fault)
  -- one of its labels is the second of its name
  InLabels : (reading : Reading) → reading_of line ≡ Ok reading → ¬ LabelsOnce shapes reading
      → LineBreaks shapes line number (LabelTwice number)
  -- a fault of its mnemonic or operand
  InInsn : (reading : Reading) (fault : LineFault) → reading_of line ≡ Ok reading
      → LabelsOnce shapes reading → reading.insn ≡ Err fault
      → LineBreaks shapes line number (in_line number fault)
  -- an instruction, where there are already as many as a program may have
  InLength : (reading : Reading) (template : Template) → reading_of line ≡ Ok reading
      → LabelsOnce shapes reading → reading.insn ≡ Ok (Some template)
      → length (templates_of shapes) ≡ MAX_INSNS → LineBreaks shapes line number TooLong

-- one of the lines, and no line before it has a fault
pub record AfterWellLines (lines : List (List ℕ)) : Type 0 where
  pub before : List (List ℕ)
  pub line : List ℕ
  pub after : List (List ℕ)
  pub whole : lines ≡ before ++ line ∷ after
  pub shapes : List Shape
  pub well : AreWell before shapes

-- a line has a fault, and no line before it has one
pub record FaultInLine (lines : List (List ℕ)) (fault : AsmFault) : Type 0 where
  pub here : AfterWellLines lines
  pub breaks : LineBreaks here.shapes here.line (length here.before + 1) fault

-- each label has an instruction after it
abbrev pub AreFollowed : List Shape → Type 0
AreFollowed shapes = All (λ label. label.at < length (templates_of shapes)) (labels_from 0 shapes)

-- a line with neither a label nor an instruction
abbrev pub IsEmpty : Shape → Type 0
IsEmpty shape = (shape.labels ≡ []) × (shape.insn ≡ None)

-- the last labels stand in the line with this number, and no instruction follows them
pub record Unfollowed (shapes : List Shape) (number : ℕ) : Type 0 where
  pub before : List Shape
  pub last : Shape
  pub after : List Shape
  pub whole : shapes ≡ before ++ last ∷ after
  pub labelled : last.labels ≢ []
  pub alone : last.insn ≡ None
  pub empty : All IsEmpty after
  pub numbered : number ≡ length before + 1

-- no line has a fault, but no instruction follows the last labels
pub record FaultAtEnd (lines : List (List ℕ)) (fault : AsmFault) : Type 0 where
  pub shapes : List Shape
  pub well : AreWell lines shapes
  pub number : ℕ
  pub labels : Unfollowed shapes number
  pub reported : fault ≡ Syntax number

-- what is wrong with a label that the instruction with this index names, in the line with this
-- number
pub data LabelBreaks (labels : List Label) (at number : ℕ) (name : List ℕ) : AsmFault → Type 0 where
  -- no instruction has this label
  Missing : All (λ label. label.name ≢ name) labels
      → LabelBreaks labels at number name (LabelMissing number)
  -- the instruction itself has it, or one before it
  Back : (target : ℕ) → Contains labels (record { name = name; at = target }) → target ≤ at
      → LabelBreaks labels at number name (Backward number)

-- the label of a test leads past the greatest offset, that of a byte
abbrev pub LeadsTooFar : List Label → ℕ → List ℕ → Type 0
LeadsTooFar labels at name = (offset : ℕ) × Leads labels at name offset × (255 < offset)

-- the fault of a test's label, whose offset is a byte; a label that is left out has no fault
abbrev pub TargetBreaks : List Label → ℕ → ℕ → Option (List ℕ) → AsmFault → Type 0
TargetBreaks labels at number None fault = ⊥
TargetBreaks labels at number (Some name) fault =
    LabelBreaks labels at number name fault ⊎ (LeadsTooFar labels at name × (fault ≡ TooFar number))

-- the first fault among the labels that an instruction names: of a test's two labels, where it
-- holds goes first
abbrev pub JumpBreaks : List Label → ℕ → ℕ → Jump → AsmFault → Type 0
JumpBreaks labels at number NoJump fault = ⊥
JumpBreaks labels at number (Always name) fault = LabelBreaks labels at number name fault
JumpBreaks labels at number (Branch holds fails) fault =
    TargetBreaks labels at number holds fault
    ⊎ (((offset : ℕ) × BranchesToLabels labels at holds offset)
    × TargetBreaks labels at number fails fault)

-- a jump names a label with a fault, and the instructions before it are those of the table
pub record Misled (shapes : List Shape) (fault : AsmFault) : Type 0 where
  pub before : List Shape
  pub jump : Shape
  pub after : List Shape
  pub whole : shapes ≡ before ++ jump ∷ after
  pub template : Template
  pub written : jump.insn ≡ Some template
  pub insns : List Insn
  pub lead : AreInsns (labels_from 0 shapes) 0 (templates_of before) insns
  pub breaks :
      JumpBreaks (labels_from 0 shapes) (length (templates_of before)) (length before + 1)
      template.jump fault

-- no line has a fault and an instruction follows each label, but a jump names a label with a fault
pub record FaultInJump (lines : List (List ℕ)) (fault : AsmFault) : Type 0 where
  pub shapes : List Shape
  pub well : AreWell lines shapes
  pub followed : AreFollowed shapes
  pub misled : Misled shapes fault

-- the first fault of lines
abbrev pub FirstFaultOf : List (List ℕ) → AsmFault → Type 0
FirstFaultOf lines fault =
    FaultInLine lines fault ⊎ (FaultAtEnd lines fault ⊎ FaultInJump lines fault)

-- the first fault of a text
abbrev pub FirstFault : List ℕ → AsmFault → Type 0
FirstFault text fault = FirstFaultOf (lines_of (without_comments text)) fault

-- the text has some first fault
abbrev pub HasFirstFault : List ℕ → Type 0
HasFirstFault text = (fault : AsmFault) × FirstFault text fault

-- no program is denoted by the text
abbrev pub DenotesNone : List ℕ → Type 0
DenotesNone text = (program : List Insn) → ¬ Denotes text program

-- the tokens of a line have no fault, and it has a label or an instruction
abbrev pub HasContent : List ℕ → Type 0
HasContent line =
    (reading : Reading) × (reading_of line ≡ Ok reading)
    × ((reading.labels ≢ []) ⊎ ((template : Template) × (reading.insn ≡ Ok (Some template))))

-- after lines without a fault there is one with a label or an instruction
pub record KeepsSomething (lines : List (List ℕ)) : Type 0 where
  pub here : AfterWellLines lines
  pub content : HasContent here.line
