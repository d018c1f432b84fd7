-- The log of a channel's changes, one entry after the other.
use Rattle.std.proofs.Common.{◌≡◌, ℕ, ◌+◌, List, [], ◌∷◌, length, refl, sym, ap, subst, ◌∙◌, arith}
use Rattle.std.specs.Prelude.{drop, MatchBool}
use Rattle.std.proofs.lemmas.Bool.{eq-eqb}
use Rattle.std.specs.declared.sync.Arc.{Arc}
use Rattle.std.specs.declared.alloc.Global.{Global}
use Rattle.bpf_insn.specs.declared.insn.Insn.{Insn}
use Rattle.rec_channel.specs.History.{Version}
use Rattle.rec_run.specs.Reports.{history_in}
use Rattle.rec_run.specs.Control.{IsNext, FollowsVersions}
use Rattle.rec_run.specs.declared.control.change.Logged.{Logged}

rest_history : (programs : List (Arc (List Insn) Global)) (marks : List ℕ) → history_in (drop 1 programs) (drop 1 marks) ≡ drop 1 (history_in programs marks)
rest_history [] [] = refl
rest_history [] (m ∷ ms) = refl
rest_history (p ∷ ps) [] = none ps
  where
    none : (qs : List (Arc (List Insn) Global)) → history_in qs [] ≡ []
    none [] = refl
    none (q ∷ qs) = refl
rest_history (p ∷ ps) (m ∷ ms) = refl

pub follows_here : (channel version next : ℕ) (programs rest_programs : List (Arc (List Insn) Global)) (marks rest_marks : List ℕ) (entry : Logged)
    (log later : List Logged)
    → log ≡ entry ∷ later → entry.told.channel ≡ channel → next ≡ version + 1 → rest_programs ≡ drop 1 programs → rest_marks ≡ drop 1 marks
    → IsNext version (history_in programs marks) entry → FollowsVersions channel next (history_in rest_programs rest_marks) later
    → FollowsVersions channel version (history_in programs marks) log
follows_here channel version next programs rest_programs marks rest_marks entry log later is here counted ps ms is_next follows =
    let vs = history_in programs marks in
    let history : history_in rest_programs rest_marks ≡ drop 1 vs =
    ap (λ xs. history_in xs rest_marks) ps ∙ ap (λ xs. history_in (drop 1 programs) xs) ms ∙ rest_history programs marks in
    let rest : FollowsVersions channel (version + 1) (drop 1 vs) later =
    subst (λ n. FollowsVersions channel n (drop 1 vs) later) counted (subst (λ h. FollowsVersions channel next h later) history follows) in
    subst (λ l. FollowsVersions channel version vs l) (sym is)
    (subst (λ b. MatchBool b (IsNext version vs entry × FollowsVersions channel (version + 1) (drop 1 vs) later) (FollowsVersions channel version vs later))
    (sym (eq-eqb entry.told.channel channel here)) (is_next, rest))

-- no version is left
pub none_left : (programs : List (Arc (List Insn) Global)) (marks : List ℕ) → length marks ≡ 0 → history_in programs marks ≡ []
none_left [] marks none = refl
none_left (p ∷ ps) [] none = refl
none_left (p ∷ ps) (m ∷ ms) none = absurd (omega (arith, none))

pub ends_here : (channel version : ℕ) (versions : List Version) (log : List Logged) → log ≡ [] → versions ≡ [] → FollowsVersions channel version versions log
ends_here channel version versions log no_more none = subst (λ l. FollowsVersions channel version versions l) (sym no_more) none
