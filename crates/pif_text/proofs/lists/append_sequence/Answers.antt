use Rattle.std.proofs.Common.{◌≡◌, ◌++◌, ◌∙◌, Some, None, map, take, ap, arith}
use Rattle.std.specs.List.{slice_get}
use Rattle.pif_text.specs.Json.{name_text, separated}
use Rattle.pif_text.proofs.ListLemmas.{order_comma, order_comma_start, order_on, order_start, take_out}
use Rattle.pif_text.proofs.lists.append_sequence.Goals as goal

pub loop-place-init : goal.loop-place-init
loop-place-init g c =
    let text = name_text c.args.letter in
    let all = g.S.Sequence.members c.args.sequence.now in
    let comma = order_comma_start text all in
    record { text = order_start text all c.args.out.now.items; comma = cc }

pub loop-place-preserved : goal.loop-place-preserved
loop-place-preserved g c =
    let text = name_text c.args.letter in
    let all = g.S.Sequence.members c.args.sequence.now in
    let e : slice_get (g.S.Sequence.members c.args.sequence.now) c.loop-place.place ≡ Some c.in-Some.number = cc in
    let on = order_on text all c.args.out.now.items c.loop-place.out.items c.loop-place.comma.now c.loop-place.place
    c.in-Some.number e c.loop-place.invariant.text c.loop-place.invariant.comma in
    let next = order_comma text all c.loop-place.place c.in-Some.number e in
    record {
      text = rw (c.in_ok-append_name.ensures, c.in_ok-extend_from_slice.ensures.items) on;
      comma = c.as_slice-comma-in-loop-place.ensures ∙ next;
    }

pub returns-in_default : goal.returns-in_default
returns-in_default g c =
    let all = g.S.Sequence.members c.args.sequence.now in
    let e : slice_get (g.S.Sequence.members c.args.sequence.now) c.loop-place.place ≡ None = cc in
    c.loop-place.invariant.text
    ∙ ap (λ ns. c.args.out.now.items ++ separated (map (name_text c.args.letter) ns))
    (take_out all c.loop-place.place c.args.most c.loop-place.auto.place-end e)

pub returns : goal.returns
returns g c =
    let all = g.S.Sequence.members c.args.sequence.now in
    let end : c.loop-place.place ≡ c.args.most = omega (arith, c.loop-place.auto.place-end, c.loop-place-test.false) in
    c.loop-place.invariant.text
    ∙ ap (λ n. c.args.out.now.items ++ separated (map (name_text c.args.letter) (take n all))) end
