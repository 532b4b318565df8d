use Rattle.std.proofs.Common.{◌≡◌, ◌==◌, if◌then◌else◌, refl, sym, ap, subst, ◌∙◌, Ok, Err, arith, [], append-nil}
use Rattle.pif_text_model.specs.Traces.{version_in}
use Rattle.std.proofs.lemmas.Result.{err_from_is_err_and}
use Rattle.pif_script.specs.Scanners.{scan_of}
use Rattle.pif_script_model.specs.Scripts.{Answers}
use Rattle.pif_script_model.proofs.ScriptLemmas.{byte_taken-size, byte_taken-long, byte_taken-byte, byte_taken-answered, Takes-from_answer}
use Rattle.pif_script.proofs.scanner.Scanner.take.Goals as goal

pub returns-then-self-ge-MOST_BYTES-clause-answer : goal.returns-then-self-ge-MOST_BYTES-clause-answer
returns-then-self-ge-MOST_BYTES-clause-answer g c = (
  byte_taken-size g.L.Listener.hearing (scan_of c.args.self.now) c.args.byte (omega arith)
      ∙ ap Err (sym c.fault.ensures),
  refl,
)

pub returns-in_err-answer-clause-answer : goal.returns-in_err-answer-clause-answer
returns-in_err-answer-clause-answer g c =
    let p = err_from_is_err_and c.from_residual.result c.from_residual.ensures.1 in
    let a = subst (λ l. Answers g.L.Listener.hearing c.args.self.now.listener c.args.self.now.version l
    c.args.self.now.number c.args.output.now.items c.answer.new.output.items c.answer.new.listener
    (Err c.in_err-answer.field-0.0)) c.as_slice-line.ensures.value c.in_err-answer.ensures.answer in
    rw (p.1, p.2) (Takes-from_answer g.L.Listener.hearing (scan_of c.args.self.now) c.args.byte c.args.output.now.items
    c.answer.new.output.items (scan_of c.args.self.now) c.answer.new.listener c.in_err-answer.field-0.0 (omega arith)
    c.if-byte-eq10.true a)

pub returns-then-byte-eq10-clause-answer : goal.returns-then-byte-eq10-clause-answer
returns-then-byte-eq10-clause-answer g c =
    let a = subst (λ l. Answers g.L.Listener.hearing c.args.self.now.listener c.args.self.now.version l
    c.args.self.now.number c.args.output.now.items c.answer.new.output.items c.answer.new.listener
    (Ok c.in_ok-answer.field-0)) c.as_slice-line.ensures.value c.in_ok-answer.ensures.answer in
    let v = subst (λ l. c.named-self.result
    ≡ (if c.args.self.now.number == 1 then version_in l else c.args.self.now.version)) c.as_slice-line.ensures.value
    c.named-self.ensures in (
      a.0,
      byte_taken-answered g.L.Listener.hearing (scan_of c.args.self.now) c.args.byte a.0 c.answer.new.listener
          c.named-self.result _ (omega arith) c.if-byte-eq10.true a.1 v c.clear.ensures,
      a.2,
    )

pub returns-then-len-ge-MOST_LINE-clause-answer : goal.returns-then-len-ge-MOST_LINE-clause-answer
returns-then-len-ge-MOST_LINE-clause-answer g c = (
  byte_taken-long g.L.Listener.hearing (scan_of c.args.self.now) c.args.byte (omega arith) c.if-byte-eq10.false
      (omega arith) ∙ ap Err (sym c.fault-then-len-ge-MOST_LINE.ensures),
  refl,
)

pub returns-clause-answer : goal.returns-clause-answer
returns-clause-answer g c = (
  [],
  rw c.push.ensures.items (byte_taken-byte g.L.Listener.hearing (scan_of c.args.self.now) c.args.byte (omega arith)
      c.if-byte-eq10.false (omega arith)),
  sym (append-nil c.args.output.now.items),
)
