use Rattle.std.proofs.Common.{◌++◌, refl, sym, ◌∙◌}
use Rattle.pif_script_model.specs.Lines.{plain}
use Rattle.pif_script_model.proofs.PlainLemmas.{at_blank, at_byte, at_end}
use Rattle.pif_story.proofs.plain.append_plain.Goals as goal

pub loop-byte-preserved-then-is_blank : goal.loop-byte-preserved-then-is_blank
loop-byte-preserved-then-is_blank c =
    record {
      same = at_blank (c.args.out.now.items ++ plain c.args.text.now) c.loop-byte.out.items c.args.text.now
          c.loop-byte.byte-index _ c.loop-byte-test.true c.loop-byte.begun c.loop-byte.gap c.loop-byte.invariant.same
          c.loop-byte.invariant.behind (sym c.is_blank.ensures ∙ c.if-is_blank.true);
      behind = λ begun. begun;
    }

pub loop-byte-preserved : goal.loop-byte-preserved
loop-byte-preserved c =
    record {
      same = rw c.in_ok-append_byte.ensures
          (at_byte (c.args.out.now.items ++ plain c.args.text.now) c.loop-byte.out.items c.args.text.now
          c.loop-byte.byte-index _ c.loop-byte-test.true c.loop-byte.begun c.loop-byte.gap c.loop-byte.invariant.same
          (sym c.is_blank.ensures ∙ c.if-is_blank.false));
      behind = λ gap. refl;
    }

pub returns : goal.returns
returns c =
    at_end (c.args.out.now.items ++ plain c.args.text.now) c.loop-byte.out.items c.args.text.now c.loop-byte.byte-index
    c.loop-byte.begun c.loop-byte.gap c.loop-byte.invariant.same c.loop-byte-test.false
