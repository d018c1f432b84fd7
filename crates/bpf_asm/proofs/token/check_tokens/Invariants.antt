use Rattle.std.proofs.Common.{◌≡◌, length, Ok, Err}
use Rattle.bpf_asm.specs.declared.fault.LineFault.{LineFault}
use Rattle.bpf_asm.specs.Tokens.{tokens_of}
use Rattle.bpf_asm.specs.Views.{lexemes_in, tokens_in}
use Rattle.bpf_asm.proofs.token.check_tokens.Given as goal

-- where the rest has no fault, the line has none; the first fault of the rest is that of the line
abbrev pub invariant-lexemes : goal.invariant-lexemes
invariant-lexemes l = record {
  well : tokens_of (lexemes_in l.rest) ≡ Ok (tokens_in l.rest) → tokens_of (lexemes_in l.initial.rest) ≡ Ok (tokens_in l.initial.rest);
  fault : (fault : LineFault) → tokens_of (lexemes_in l.rest) ≡ Err fault → tokens_of (lexemes_in l.initial.rest) ≡ Err fault;
}

abbrev pub decreases-lexemes : goal.decreases-lexemes
decreases-lexemes l = length l.rest.bytes.now
