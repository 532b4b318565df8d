use Rattle.std.proofs.Common.{ℕ, suc, ◌≡◌, ◌∙◌, ◌+◌, ap, arith}
use Rattle.pif_job_parts.specs.Indexes.{numbers_from}
use Rattle.pif_job_parts.proofs.NumberLemmas.{one_more}
use Rattle.pif_job_parts.proofs.numbers.with_next.Goals as goal

pub returns : goal.returns
returns c =
    let more : c.in_ok-checked_add-2.field-0 ≡ suc c.args.run.now.count = omega (arith, c.in_ok-checked_add-2.ensures) in
    let next : c.args.number ≡ c.args.run.now.number + c.args.run.now.count =
    omega (arith, c.in_ok-checked_add.ensures, c.if-branch-number.false) in
    ap (λ (k : ℕ). numbers_from c.args.run.now.number k) more
    ∙ one_more c.args.run.now.number c.args.run.now.count c.args.number next
