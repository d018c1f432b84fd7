-- What is concluded of a result.
use Rattle.std.proofs.Common.{ℕ, ◌≡◌, ◌∙◌, List, ◌++◌, append_assoc}
use Rattle.std.specs.Prelude.{Result, Ok, Err, OnOk}

pub on_ok : {A E : Type 0} (result : Result A E) (P Q : Type 0) → (P → Q) → OnOk result P → OnOk result Q
on_ok (Ok value) P Q so p = so p
on_ok (Err fault) P Q so p = tt

-- bytes that are added one part after the other
pub five_parts : (out a b c d e : List ℕ) → ((((out ++ a) ++ b) ++ c) ++ d) ++ e ≡ out ++ (a ++ (b ++ (c ++ (d ++ e))))
five_parts out a b c d e =
    append_assoc (((out ++ a) ++ b) ++ c) d e ∙ append_assoc ((out ++ a) ++ b) c (d ++ e) ∙ append_assoc (out ++ a) b (c ++ (d ++ e))
    ∙ append_assoc out a (b ++ (c ++ (d ++ e)))
