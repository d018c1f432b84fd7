use Rattle.std.proofs.Common.{sym, arith, subst, refl}
use Rattle.rec_channel.proofs.Versions.{count_of, count_back, grown, lengths_grown}
use Rattle.rec_channel.proofs.Histories.{one_version_more}
use Rattle.rec_channel.specs.History.{IsHistory}
use Rattle.rec_channel.proofs.slot.Slot.install.Goals as goal

pub invariant_of-self : goal.invariant_of-self
invariant_of-self c =
    let same = c.self.invariant.paired in
    let counted = count_back _ _ same in
    let count = count_of c.self.inside.programs _ same in
    let few = c.self.invariant.few in
    let grows = grown c.self.inside.programs c.self.inside.marks c.self.inside.offered c.args.program c.push_reserved.new.self c.push_reserved-2.new.self same
    c.push_reserved.ensures.items c.push_reserved-2.ensures.items in
    let lengths = lengths_grown c.self.inside.programs c.self.inside.marks c.self.inside.offered c.args.program c.push_reserved.new.self
    c.push_reserved-2.new.self c.push_reserved.ensures.items c.push_reserved-2.ensures.items in
    record {
      paired = omega (arith, same, lengths.0, lengths.1);
      history = subst (IsHistory c.self.inside.offered) (sym grows)
          (one_version_more _ _ _ c.self.invariant.history (rw c.deref.ensures at c.insns.ensures.valid) (rw c.deref.ensures at c.insns.ensures.in_range) refl);
      within = c.self.invariant.within;
      few = omega (arith, counted, count, few, lengths.0, c.len-version.ensures, c.if-version-eq-MAX_VERSIONS.false);
      programs_fit = let e = c.self.invariant.programs_fit in omega (arith, e, c.push_reserved.ensures.capacity);
      marks_fit = let e = c.self.invariant.marks_fit in omega (arith, e, c.push_reserved-2.ensures.capacity);
    }
