use Rattle.std.proofs.Common.{◌≡◌, ◌∙◌, ℕ, zero, suc, ◌<◌, ◌≤◌, List, length, take, Bool, true, false, Result, Ok, Err, ap, sym, subst, refl, arith, length-take}
use Rattle.std.proofs.lemmas.Result.{err_from_is_err_and}
use Rattle.std.specs.Prelude.{◌==◌, IfOk}
use Rattle.pif_script.specs.Scanners.{scan_of}
use Rattle.pif_script_model.specs.declared.ending.Stop.{Stop}
use Rattle.pif_script_model.specs.Scripts.{TakesSome}
use Rattle.pif_script_model.proofs.LineLemmas.{TakesSome-byte, TakesSome-ended}
use Rattle.pif_script_model.proofs.ShowingLemmas.{TakesSome-front}
use Rattle.pif_job_run.specs.Shows.{IsPart, front_told, line_told}
use Rattle.pif_job_run.proofs.HearingLemmas.{is_zero, not_zero}
use Rattle.pif_job_run.proofs.showing.read_part.Goals as goal

-- so many of the first bytes of a list
abbrev Within : Result ℕ Stop → List ℕ → Type 0
Within result bs = IfOk result (λ n. (0 < n) × (n ≤ length bs))

within_front : (result : Result ℕ Stop) (m : ℕ) (bs : List ℕ) → Within result (take m bs) → IfOk result (λ n. n ≤ m)
within_front (Ok n) m bs h = omega (arith, h.1, length-take m bs)
within_front (Err e) m bs h = tt

within_all : (result : Result ℕ Stop) (m : ℕ) (bs : List ℕ) → Within result (take m bs)
    → IfOk result (λ n. n ≤ length bs)
within_all (Ok n) m bs h = omega (arith, h.1, length-take m bs)
within_all (Err e) m bs h = tt

is_part : (result : Result ℕ Stop) (m : ℕ) (bs : List ℕ) → (m == 0) ≡ false → Within result (take m bs)
    → IfOk result (λ n. IsPart m n)
is_part (Ok n) zero bs some h = absurd (cc)
is_part (Ok n) (suc m) bs some h = (h.0, omega (arith, h.1, length-take (suc m) bs))
is_part (Err e) m bs some h = tt

pub returns-in_err-take-clause-answer : goal.returns-in_err-take-clause-answer
returns-in_err-take-clause-answer g c =
    let p = err_from_is_err_and c.from_residual.result c.from_residual.ensures.1 in
    let s = scan_of c.args.scanner.now in
    let told = c.tell_line.ensures.told ∙ ap line_told c.line.ensures.value
    ∙ sym (ap (λ (b : Bool). front_told b s.line) (is_zero c.args.plain c.if-plain-eq0.true)) in
    rw (p.1, p.2) (subst (λ old. TakesSome g.L.Listener.hearing s c.args.bytes.now old c.take.new.output.items (scan_of c.take.new.self)
    (Err c.in_err-take.field-0.0)) told
    (TakesSome-ended g.L.Listener.hearing s c.args.bytes.now c.tell_line.new.output.items c.take.new.output.items
    (scan_of c.take.new.self) c.in_err-take.field-0.0 c.requires.some c.in_err-take.ensures.answer))

pub returns-then-plain-eq0-clause-answer : goal.returns-then-plain-eq0-clause-answer
returns-then-plain-eq0-clause-answer g c =
    let s = scan_of c.args.scanner.now in
    let told = c.tell_line.ensures.told ∙ ap line_told c.line.ensures.value
    ∙ sym (ap (λ (b : Bool). front_told b s.line) (is_zero c.args.plain c.if-plain-eq0.true)) in
    subst (λ old. TakesSome g.L.Listener.hearing s c.args.bytes.now old c.take.new.output.items (scan_of c.take.new.self) (Ok 1)) told
    (TakesSome-byte g.L.Listener.hearing s c.args.bytes.now c.tell_line.new.output.items c.take.new.output.items
    (scan_of c.take.new.self) c.in_ok-take.field-0 c.requires.some c.in_ok-take.ensures.answer)

pub returns-clause-answer : goal.returns-clause-answer
returns-clause-answer g c =
    let s = scan_of c.args.scanner.now in
    let told = c.clear.ensures ∙ sym (ap (λ (b : Bool). front_told b s.line) (not_zero c.args.plain c.if-plain-eq0.false)) in
    subst (λ old. TakesSome g.L.Listener.hearing s c.args.bytes.now old c.take_some.new.output.items (scan_of c.take_some.new.self)
    c.take_some.result) told
    (TakesSome-front g.L.Listener.hearing s c.args.bytes.now c.args.plain _ c.take_some.new.output.items
    (scan_of c.take_some.new.self) c.take_some.result c.take_some.ensures.answer
    (within_front c.take_some.result c.args.plain c.args.bytes.now c.take_some.ensures.within))

pub returns-clause-part : goal.returns-clause-part
returns-clause-part g c =
    is_part c.take_some.result c.args.plain c.args.bytes.now (not_zero c.args.plain c.if-plain-eq0.false) c.take_some.ensures.within

pub returns-clause-within : goal.returns-clause-within
returns-clause-within g c =
    within_all c.take_some.result c.args.plain c.args.bytes.now c.take_some.ensures.within
