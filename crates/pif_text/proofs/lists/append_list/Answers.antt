use Rattle.std.proofs.Common.{◌≡◌, ◌+◌, ◌++◌, ◌∙◌, true, false, sym, ap, arith}
use Rattle.pif_text.specs.Json.{separated}
use Rattle.pif_text.proofs.ListLemmas.{comma_on, comma_start, list_on, list_start, texts_out, texts_to, texts_whole}
use Rattle.pif_text.proofs.lists.append_list.Goals as goal
use Rattle.pif_text.proofs.lists.append_list.Goals.{then-stands+in_ok-extend_from_slice+in_ok-append, else-stands}

pub loop-place-init : goal.loop-place-init
loop-place-init g c =
    let text = g.L.Listed.text c.args.list.now in
    let stands = g.L.Listed.stands c.args.list.now in
    let comma = comma_start text stands in
    record { text = list_start text stands c.args.out.now.items; comma = cc }

pub loop-place-preserved : goal.loop-place-preserved
loop-place-preserved g c =
    let text = g.L.Listed.text c.args.list.now in
    let stands = g.L.Listed.stands c.args.list.now in
    elim c.if-stands.branch [
      | then-stands+in_ok-extend_from_slice+in_ok-append w ↦
          let e : g.L.Listed.stands c.args.list.now (c.loop-place.place + 1) ≡ true
          = sym c.stands.ensures ∙ w.if-stands.true in
          let on = list_on text stands c.args.out.now.items c.loop-place.out.items c.loop-place.comma.now c.loop-place.place
          e c.loop-place.invariant.text c.loop-place.invariant.comma in
          let next = comma_on text stands c.loop-place.place e in
          record {
            text = rw (w.out-is, w.in_ok-append.ensures, w.in_ok-extend_from_slice.ensures.items) on;
            comma = rw w.comma-is (w.as_slice-comma-then-stands.ensures ∙ next);
          }
      | else-stands w ↦
          let e : g.L.Listed.stands c.args.list.now (c.loop-place.place + 1) ≡ false
          = sym c.stands.ensures ∙ w.if-stands.false in
          let same = texts_out text stands c.loop-place.place e in
          record {
            text = rw (w.out-is, same) c.loop-place.invariant.text;
            comma = rw (w.comma-is, same) c.loop-place.invariant.comma;
          }
    ]

pub returns : goal.returns
returns g c =
    let text = g.L.Listed.text c.args.list.now in
    let stands = g.L.Listed.stands c.args.list.now in
    let end : c.loop-place.place ≡ c.args.most = omega (arith, c.loop-place.auto.place-end, c.loop-place-test.false) in
    c.loop-place.invariant.text
    ∙ ap (λ n. c.args.out.now.items ++ separated (texts_to text stands n)) end
    ∙ ap (λ ts. c.args.out.now.items ++ separated ts) (texts_whole text stands c.args.most)
