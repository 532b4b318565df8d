use Rattle.std.proofs.Common.{◌≡◌, ◌∙◌, ◌+◌, length, arith, ap, subst, sym}
use Rattle.pif_kernel_model.specs.Owners.{Owners, AreSoundOwners}
use Rattle.pif_plain_rtmutex.proofs.BehindLemmas.{IsFirstBehind, asked, behind-none, behind-some, next-first, same-first}
use Rattle.pif_plain_rtmutex.proofs.rt_mutexes.RtMutexes.behind.Goals as goal
use Rattle.pif_plain_rtmutex.proofs.rt_mutexes.RtMutexes.behind.Goals.{then-leads, else-leads}

pub returns-clause-last : goal.returns-clause-last
returns-clause-last c =
    let all : c.loop-u.u ≡ length c.args.self.now.seats = omega (arith, c.len-u-end.ensures, ap (λ (v : Owners). length v.seats) c.self.view_is, c.self.inside.rows.ok) in
    behind-none c.new.result c.args.self.now c.args.t c.loop-u.u c.loop-u.first
    (subst AreSoundOwners c.self.view_is c.self.invariant.sound) all c.requires c.new.ensures.valid c.loop-u.invariant

pub returns-clause-behind : goal.returns-clause-behind
returns-clause-behind c =
    let all : c.loop-u.u ≡ length c.args.self.now.seats = omega (arith, c.len-u-end.ensures, ap (λ (v : Owners). length v.seats) c.self.view_is, c.self.inside.rows.ok) in
    behind-some c.new.result c.args.self.now c.args.t c.loop-u.u c.loop-u.first all c.requires c.new.ensures.valid c.new.ensures.value c.loop-u.invariant

pub loop-u-preserved : goal.loop-u-preserved
loop-u-preserved c =
    let same = asked c.args.self.now c.args.t c.loop-u.u c.loop-u.first c.standing_behind.result
    c.standing_behind-in-loop-u.result c.leads.result c.leads.ensures c.standing_behind.ensures
    c.standing_behind-in-loop-u.ensures in
    elim c.if-leads.branch [
      | then-leads w ↦ subst (IsFirstBehind c.args.self.now c.args.t (c.loop-u.u + 1)) (sym w.first-is)
          (next-first c.args.self.now c.args.t c.loop-u.u c.loop-u.first c.loop-u.invariant (same ∙ w.if-leads.true))
      | else-leads w ↦ subst (IsFirstBehind c.args.self.now c.args.t (c.loop-u.u + 1)) (sym w.first-is)
          (same-first c.args.self.now c.args.t c.loop-u.u c.loop-u.first c.loop-u.invariant (same ∙ w.if-leads.false))
    ]
