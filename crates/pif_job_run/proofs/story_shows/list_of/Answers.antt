use Rattle.std.proofs.Common.{◌≡◌, ◌∙◌, ap, arith, map, sym}
use Rattle.pif_text.specs.Json.{numbers}
use Rattle.pif_job_run.specs.Shows.{person_name}
use Rattle.pif_job_run.proofs.NameLemmas.{listed_next, names_none, names_whole}
use Rattle.pif_job_run.proofs.story_shows.list_of.Goals as goal

pub loop-place-init : goal.loop-place-init
loop-place-init c = rw c.new-list.ensures.items (names_none (person_name c.args.names.now))

pub loop-place-preserved : goal.loop-place-preserved
loop-place-preserved c =
    rw c.in_ok-push.ensures.items
    (listed_next _ (person_name c.args.names.now) c.loop-place.list.items c.name_in.result c.loop-place.place
    c.loop-place.invariant c.name_in.ensures)

pub returns : goal.returns
returns c =
    let end : c.loop-place.place ≡ 1024 = omega (arith, c.loop-place.auto.place-end, c.loop-place-test.false) in
    c.loop-place.invariant ∙ ap (λ n. map (person_name c.args.names.now) (numbers n)) end
    ∙ names_whole c.args.names.now (sym c.is_empty.ensures ∙ c.if-is_empty.false)
