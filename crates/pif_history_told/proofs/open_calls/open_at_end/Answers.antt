use Rattle.std.proofs.Common.{◌≡◌, ◌+◌, ◌-◌, ◌<◌, ◌∙◌, ℕ, [], ◌∷◌, ◌++◌, Some, None, Vec, Global, arith, ap, length, subst, sym}
use Rattle.std.specs.List.{flat_map}
use Rattle.std.proofs.lemmas.List.{get_or_read}
use Rattle.pif_history_model.specs.Numbers.{up_to}
use Rattle.pif_history_text.specs.Reading.{heard_of}
use Rattle.pif_history_told.specs.declared.verdicts.Began.{Began}
use Rattle.pif_history_told.specs.Why.{open_of, open_of_thread}
use Rattle.pif_history_told.proofs.OpenTables.{none_before, none_more, some_more}
use Rattle.pif_history_told.proofs.open_calls.open_at_end.Goals as goal
use Rattle.pif_history_told.proofs.open_calls.open_at_end.Goals.{in-Some+in_ok-push-in-Some, in-None}

pub loop-thread-init : goal.loop-thread-init
loop-thread-init c = c.new-open.ensures.items ∙ none_before (heard_of c.args.history.now)

pub loop-thread-preserved : goal.loop-thread-preserved
loop-thread-preserved c =
    let h = heard_of c.args.history.now in
    let t = c.loop-thread.thread in
    let within : t < length c.in_ok-table.table.items = omega (arith, c.loop-thread-test.true, c.len-thread-end.ensures, c.in_ok-table.table.ok.0) in
    let is : c.index.result.now ≡ open_of (Some t) h (length h.shown) =
    get_or_read c.in_ok-table.table.items t c.index.result.now within c.index.ensures None ∙ c.in_ok-table.ensures.1 t within in
    let so_many : t + 1 - 1 ≡ t = omega arith in
    elim c.match-index.branch [
      | in-Some+in_ok-push-in-Some w ↦ ap (λ (v : Vec Began Global). v.items) w.open-is
          ∙ (w.in_ok-push-in-Some.ensures.items
          ∙ subst (λ (k : ℕ). c.loop-thread.open.items ++ w.in-Some.call ∷ [] ≡ flat_map (open_of_thread h) (up_to k)) (sym so_many)
          (some_more h t c.index.result.now w.in-Some.call c.loop-thread.open.items c.loop-thread.auto.thread w.in-Some.is is
          c.loop-thread.invariant))
      | in-None w ↦ ap (λ (v : Vec Began Global). v.items) w.open-is
          ∙ subst (λ (k : ℕ). c.loop-thread.open.items ≡ flat_map (open_of_thread h) (up_to k)) (sym so_many)
          (none_more h t c.index.result.now c.loop-thread.open.items c.loop-thread.auto.thread w.in-None.is is c.loop-thread.invariant)
    ]
