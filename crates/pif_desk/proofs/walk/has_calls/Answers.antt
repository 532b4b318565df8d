-- The walk compares the log with the journal, entry by entry.
use Rattle.std.proofs.Common.{◌≡◌, ℕ, take, arith, subst, eqb-true}
use Rattle.std.proofs.lemmas.Bool.{false≢true}
use Rattle.pif_desk.specs.Logs.{log_of, calls_of}
use Rattle.pif_desk.specs.Rooms.{history_of}
use Rattle.pif_desk.specs.Settling.{IsRestOfLogAt}
use Rattle.pif_desk.proofs.Walks.{neither, walk_goes_on, walk_stops, some_left}
use Rattle.pif_desk.proofs.walk.has_calls.Goals as goal

pub returns-then-not-back : goal.returns-then-not-back
returns-then-not-back c =
    let same = log_of c.args.calls.now c.args.ended ≡ calls_of c.args.thread.now (history_of c.args.journal.now) in
    neither false≢true
    (walk_stops c.args.thread.now c.args.journal.now c.loop-at.at c.index-journal-at.result c.within-mark.result
    c.loop-at-test.true c.loop-at.invariant.place c.index-journal-at.is c.within-mark.ensures same
    (IsRestOfLogAt c.args.calls.now c.args.ended c.loop-at.walk) (c.back.ensures.stops c.if-not-back.true c.args.ended)
    c.loop-at.invariant.same)

pub loop-at-preserved : goal.loop-at-preserved
loop-at-preserved c =
    let same = log_of c.args.calls.now c.args.ended ≡ calls_of c.args.thread.now (history_of c.args.journal.now) in
    record {
      within = c.back.ensures.within;
      place = omega (arith, c.loop-at.invariant.place);
      same = walk_goes_on c.args.thread.now c.args.journal.now c.loop-at.at c.index-journal-at.result
          c.within-mark.result
          c.loop-at-test.true c.loop-at.invariant.place c.index-journal-at.is c.within-mark.ensures same
          (IsRestOfLogAt c.args.calls.now c.args.ended c.loop-at.walk)
          (IsRestOfLogAt c.args.calls.now c.args.ended c.back.new.self)
          (c.back.ensures.goes_on c.if-not-back.false c.args.ended) c.loop-at.invariant.same;
    }

pub returns-else-walk-eq0 : goal.returns-else-walk-eq0
returns-else-walk-eq0 c =
    let w = c.loop-at.walk in
    let start : c.loop-at.at ≡ 0 = omega (arith, c.loop-at-test.false) in
    neither (λ e. c.if-walk-eq0.false (eqb-true w.left 0 e))
    (λ h. some_left c.args.calls.now c.args.ended w.left w.reply w.end_seen c.loop-at.invariant.within
    c.if-walk-eq0.false
    (subst (λ (n : ℕ). IsRestOfLogAt c.args.calls.now c.args.ended w (calls_of c.args.thread.now (history_of
    (take n c.args.journal.now)))) start (c.loop-at.invariant.same.0 h)))
