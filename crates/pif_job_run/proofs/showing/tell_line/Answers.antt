use Rattle.std.proofs.Common.{◌≡◌, ℕ, ◌+◌, ◌<◌, ◌++◌, [], ◌∷◌, List, ◌∙◌, ap, sym, get_or, length, length-append, map, take, append_assoc, arith}
use Rattle.std.specs.Prelude.{codes}
use Rattle.std.proofs.lemmas.List.{map_push, take_all, take_more}
use Rattle.pif_script_model.specs.Verdicts.{printable}
use Rattle.pif_job_run.proofs.showing.tell_line.Goals as goal

one_more : (line : List ℕ) (i : ℕ) → i < length line
    → (codes "> " ++ map printable (take i line)) ++ printable (get_or line i 0) ∷ [] ≡ codes "> " ++ map printable (take (i + 1) line)
one_more line i lt =
    append_assoc (codes "> ") (map printable (take i line)) (printable (get_or line i 0) ∷ [])
    ∙ ap (λ l. codes "> " ++ l) (sym (ap (map printable) (take_more line i 0 lt) ∙ map_push printable (take i line) (get_or line i 0)))

pub loop-byte-preserved : goal.loop-byte-preserved
loop-byte-preserved c =
    let line = c.args.line.now in
    let i = c.loop-byte.byte-index in
    let told = c.push.ensures.items ∙ ap (λ l. l ++ c.printable.result ∷ []) c.loop-byte.invariant.0
    ∙ ap (λ b. (codes "> " ++ map printable (take i line)) ++ b ∷ []) c.printable.ensures ∙ one_more line i c.loop-byte-test.true in
    (told, omega (arith, ap length c.push.ensures.items, length-append c.loop-byte.output.items (c.printable.result ∷ []), c.loop-byte.invariant.1))

pub returns-clause-told : goal.returns-clause-told
returns-clause-told c =
    let whole = ap (λ l. codes "> " ++ map printable l) (take_all c.loop-byte.byte-index c.args.line.now c.loop-byte-test.false) in
    c.push-2.ensures.items ∙ ap (λ l. l ++ 10 ∷ []) (c.loop-byte.invariant.0 ∙ whole)
