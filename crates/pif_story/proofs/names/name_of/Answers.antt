use Rattle.std.proofs.Common.{◌≡◌, Some, arith, refl, rules}
use Rattle.std.specs.Prelude.{option_copied}
use Rattle.pif_script_model.specs.Lines.{lines_behind}
use Rattle.pif_story.specs.Names.{name_of}
use Rattle.pif_story.proofs.NameLemmas.{name_found, name_other, name_out, name_passed}
use Rattle.pif_story.proofs.names.name_of.Goals as goal

pub lines-init : goal.lines-init
unfolding name_of
lines-init c = refl

pub returns-then-get : goal.returns-then-get
returns-then-get c =
    let same : c.in-Some-naming_of.named ≡ c.args.thread = cc in
    let found : Some c.in-Some-naming_of.name.now ≡ name_of c.args.names.now c.args.thread =
    name_found (name_of c.args.names.now c.args.thread) c.args.thread c.split_line.result.0.now
    (lines_behind (option_copied c.split_line.result.1))
    (rw (c.in-Some.is, c.split_line.ensures.split) at c.lines.invariant) c.in-Some-naming_of.named
    c.in-Some-naming_of.name.now c.in-Some-naming_of.ensures same in
    let e = c.in-Some-naming_of.name-is in
    first_of (cc (found, e), search (rules, found, e), grind (arith, found, e))

pub lines-preserved-else-get : goal.lines-preserved-else-get
lines-preserved-else-get c =
    name_other (name_of c.args.names.now c.args.thread) c.args.thread c.split_line.result.0.now
    (lines_behind (option_copied c.split_line.result.1)) (rw (c.in-Some.is, c.split_line.ensures.split) at c.lines.invariant)
    c.in-Some-naming_of.named c.in-Some-naming_of.name.now c.in-Some-naming_of.ensures (λ e. c.if-get.false cc)

pub lines-preserved : goal.lines-preserved
lines-preserved c =
    name_passed (name_of c.args.names.now c.args.thread) c.args.thread c.split_line.result.0.now
    (lines_behind (option_copied c.split_line.result.1)) (rw (c.in-Some.is, c.split_line.ensures.split) at c.lines.invariant)
    c.in_default-naming_of.ensures

pub returns : goal.returns
returns c = name_out (name_of c.args.names.now c.args.thread) c.args.thread (rw c.in_default.is at c.lines.invariant)
