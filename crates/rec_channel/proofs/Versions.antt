-- Versions put together from their programs and marks, and taken apart again.
use Rattle.std.proofs.Common.{ℕ, suc, ◌+◌, ◌≡◌, List, [], ◌∷◌, ◌++◌, length, refl, sym, ◌∙◌, ap, arith}
use Rattle.std.specs.Prelude.{map, vec_len}
use Rattle.std.specs.Arc.{arc_value}
use Rattle.std.specs.declared.sync.Arc.{Arc}
use Rattle.std.specs.declared.alloc.Global.{Global}
use Rattle.std.specs.declared.vec.Vec.{Vec}
use Rattle.std.proofs.lemmas.List.{length-map, map-append, length-append}
use Rattle.bpf_verify.specs.declared.verified.Verified.{Verified}
use Rattle.bpf_insn.specs.declared.insn.Insn.{Insn}
use Rattle.rec_channel.specs.Slots.{versions_of, programs_in, marks_in}

pub count_back : (programs : List (List Insn)) (marks : List ℕ) → length programs ≡ length marks → length (versions_of programs marks) ≡ length programs
count_back [] marks same = refl
count_back (p ∷ programs) [] same = absurd (omega (arith, same))
count_back (p ∷ programs) (m ∷ marks) same = ap suc (count_back programs marks (omega (arith, same)))

pub programs_back : (programs : List (List Insn)) (marks : List ℕ) → length programs ≡ length marks → programs_in (versions_of programs marks) ≡ programs
programs_back [] marks same = refl
programs_back (p ∷ programs) [] same = absurd (omega (arith, same))
programs_back (p ∷ programs) (m ∷ marks) same = ap (λ ps. p ∷ ps) (programs_back programs marks (omega (arith, same)))

pub marks_back : (programs : List (List Insn)) (marks : List ℕ) → length programs ≡ length marks → marks_in (versions_of programs marks) ≡ marks
marks_back [] [] same = refl
marks_back [] (m ∷ marks) same = absurd (omega (arith, same))
marks_back (p ∷ programs) [] same = absurd (omega (arith, same))
marks_back (p ∷ programs) (m ∷ marks) same = ap (λ ms. m ∷ ms) (marks_back programs marks (omega (arith, same)))

-- a program and a mark added at the ends are a version added at the end
pub one_more : (programs : List (List Insn)) (marks : List ℕ) (program : List Insn) (mark : ℕ) → length programs ≡ length marks
    → versions_of (programs ++ program ∷ []) (marks ++ mark ∷ []) ≡ versions_of programs marks ++ record { program = program; mark = mark } ∷ []
one_more [] [] program mark same = refl
one_more [] (m ∷ marks) program mark same = absurd (omega (arith, same))
one_more (p ∷ programs) [] program mark same = absurd (omega (arith, same))
one_more (p ∷ programs) (m ∷ marks) program mark same = ap (λ vs. record { program = p; mark = m } ∷ vs)
    (one_more programs marks program mark (omega (arith, same)))

-- a slot's history has as many versions as the slot has programs
pub count_of : (programs : Vec (Arc Verified Global) Global) (marks : List ℕ) → length (map arc_value programs.items) ≡ length marks
    → length (versions_of (map arc_value programs.items) marks) ≡ vec_len programs
count_of programs marks same = count_back (map arc_value programs.items) marks same ∙ (length-map programs.items arc_value ∙ sym programs.ok.0)

-- a program and a mark pushed are a version added at the end
pub grown : (programs : Vec (Arc Verified Global) Global) (marks : Vec ℕ Global) (mark : ℕ) (program : Arc Verified Global)
    (more_programs : Vec (Arc Verified Global) Global) (more_marks : Vec ℕ Global)
    → length (map arc_value programs.items) ≡ length marks.items
    → more_programs.items ≡ programs.items ++ program ∷ []
    → more_marks.items ≡ marks.items ++ mark ∷ []
    → versions_of (map arc_value more_programs.items) more_marks.items
    ≡ versions_of (map arc_value programs.items) marks.items ++ record { program = arc_value program; mark = mark } ∷ []
grown programs marks mark program more_programs more_marks same pushed noted =
    ap (λ ps. versions_of (map arc_value ps) more_marks.items) pushed
    ∙ (ap (λ ms. versions_of (map arc_value (programs.items ++ program ∷ [])) ms) noted
    ∙ (ap (λ ps. versions_of ps (marks.items ++ mark ∷ [])) (map-append arc_value programs.items (program ∷ []))
    ∙ one_more (map arc_value programs.items) marks.items (arc_value program) mark same))

pub lengths_grown : (programs : Vec (Arc Verified Global) Global) (marks : Vec ℕ Global) (mark : ℕ) (program : Arc Verified Global)
    (more_programs : Vec (Arc Verified Global) Global) (more_marks : Vec ℕ Global)
    → more_programs.items ≡ programs.items ++ program ∷ []
    → more_marks.items ≡ marks.items ++ mark ∷ []
    → (length (map arc_value more_programs.items) ≡ length (map arc_value programs.items) + 1) × (length more_marks.items ≡ length marks.items + 1)
lengths_grown programs marks mark program more_programs more_marks pushed noted =
    let mapped = length-map more_programs.items arc_value in
    let before = length-map programs.items arc_value in
    let more = ap (λ (ps : List (Arc Verified Global)). length ps) pushed ∙ length-append programs.items (program ∷ []) in
    (omega (arith, mapped, before, more), ap (λ (ms : List ℕ). length ms) noted ∙ length-append marks.items (mark ∷ []))

-- the rows of programs and marks are those of their versions
pub ruleset rows = (count_of, count_back, programs_back, marks_back)

-- and with a version more
pub ruleset longer_rows = (rows, grown, lengths_grown)
