use Rattle.std.proofs.Common.{refl, sym, ◌∙◌, arith, length, length-drop}
use Rattle.std.proofs.lemmas.Bool.Decides.{Decides-eqb}
use Rattle.std.proofs.lemmas.List.{nil_from_length, take_rest}
use Rattle.std.proofs.lemmas.Result.{err_from_is_err_and}
use Rattle.pif_script.specs.Scanners.{scan_of}
use Rattle.pif_script_model.proofs.FeedLemmas.{Feeding-start, Feeding-flushed, Feeding-some, Feeding-unwritten, Feeds-end, Feeds-stopped, Feeds-unheard}
use Rattle.pif_script.proofs.script.feed.Goals as goal

pub loop-rest-init : goal.loop-rest-init
loop-rest-init g c = (
  Feeding-start g.L.Listener.hearing (scan_of c.args.scanner.now) c.args.bytes.now c.args.output.now.items
      (g.W.Write.contents c.args.writer.now) c.requires,
  refl,
)

pub returns-in_err-make_room-clause-answer : goal.returns-in_err-make_room-clause-answer
returns-in_err-make_room-clause-answer g c =
    let p = err_from_is_err_and c.from_residual.result c.from_residual.ensures.1 in
    rw (p.1, p.2) (λ after. Feeding-unwritten g.L.Listener.hearing (scan_of c.args.scanner.now) c.args.bytes.now _
    (scan_of c.loop-rest.scanner) _ c.loop-rest.output.items _ _ after c.in_err-make_room.field-0.0
    c.loop-rest.invariant.0 c.in_err-make_room.ensures.answer)

pub returns-in-Err-Ended-clause-answer : goal.returns-in-Err-Ended-clause-answer
returns-in-Err-Ended-clause-answer g c =
    let s = c.args.bytes.now in
    let rest = c.loop-rest.rest.now in
    let flushed = Feeding-flushed g.L.Listener.hearing (scan_of c.args.scanner.now) s _ (scan_of c.loop-rest.scanner) rest
    c.loop-rest.output.items c.make_room.new.output.items _ _ c.in_ok-make_room.field-0 c.loop-rest.invariant.0
    c.in_ok-make_room.ensures.answer in
    let answer = rw c.in-Err-Ended.field-0-is at c.in-Err-Ended.ensures.answer in
    Feeds-stopped g.L.Listener.hearing (scan_of c.args.scanner.now) s _ (scan_of c.loop-rest.scanner) rest
    c.make_room.new.output.items c.take_some.new.output.items _ _ (scan_of c.take_some.new.self)
    (scan_of c.take_some.new.self) c.in-Err-Ended.end c.stop.result flushed answer
    (rw c.in-Err-Ended.field-0-is at c.stop.ensures)

pub returns-in-Err-NoMemory-clause-answer : goal.returns-in-Err-NoMemory-clause-answer
returns-in-Err-NoMemory-clause-answer g c =
    let s = c.args.bytes.now in
    let rest = c.loop-rest.rest.now in
    let flushed = Feeding-flushed g.L.Listener.hearing (scan_of c.args.scanner.now) s _ (scan_of c.loop-rest.scanner) rest
    c.loop-rest.output.items c.make_room.new.output.items _ _ c.in_ok-make_room.field-0 c.loop-rest.invariant.0
    c.in_ok-make_room.ensures.answer in
    let answer = rw c.in-Err-NoMemory.field-0-is at c.in-Err-NoMemory.ensures.answer in
    Feeds-unheard g.L.Listener.hearing (scan_of c.args.scanner.now) s _ (scan_of c.loop-rest.scanner) rest
    c.make_room.new.output.items c.take_some.new.output.items _ (scan_of c.take_some.new.self)
    (scan_of c.take_some.new.self) flushed answer

pub loop-rest-preserved : goal.loop-rest-preserved
loop-rest-preserved g c =
    let s = c.args.bytes.now in
    let rest = c.loop-rest.rest.now in
    let flushed = Feeding-flushed g.L.Listener.hearing (scan_of c.args.scanner.now) s _ (scan_of c.loop-rest.scanner) rest
    c.loop-rest.output.items c.make_room.new.output.items _ _ c.in_ok-make_room.field-0 c.loop-rest.invariant.0
    c.in_ok-make_room.ensures.answer in
    rw take_rest (
      Feeding-some g.L.Listener.hearing (scan_of c.args.scanner.now) s _ (scan_of c.loop-rest.scanner) rest
          c.make_room.new.output.items c.take_some.new.output.items _ (scan_of c.take_some.new.self) c.in-Ok.count flushed
          c.in-Ok.ensures.answer,
      simp length-drop (omega (arith, c.in-Ok.ensures.taken, c.in-Ok.ensures.within.1, c.loop-rest.invariant.1)),
    )

pub returns-clause-answer : goal.returns-clause-answer
returns-clause-answer g c =
    Feeds-end g.L.Listener.hearing (scan_of c.args.scanner.now) c.args.bytes.now _ (scan_of c.loop-rest.scanner)
    c.loop-rest.rest.now c.loop-rest.output.items _ _ _ c.write_whole.result c.loop-rest.invariant.0
    (nil_from_length c.loop-rest.rest.now ((Decides-eqb (length c.loop-rest.rest.now) 0).0
    (sym c.is_empty.ensures ∙ c.loop-rest-test.false))) c.as_slice.ensures.value c.write_whole.ensures
