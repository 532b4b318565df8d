use Rattle.std.proofs.Common.{◌≡◌, ◌∙◌, [], ◌∷◌, ◌++◌, ap}
use Rattle.pif_parts_judged.specs.Following.{span}
use Rattle.pif_parts_judged.proofs.FollowingLemmas.{are_parts, are_verdicts, first_part, last_part}
use Rattle.pif_parts_judged.proofs.following.Judged.whole.Goals as goal

pub returns : goal.returns
returns c = λ limits front lines h len few x.
    let none = c.new-none.result in
    let empty = c.new-none.ensures.items in
    let first : c.span-first.result ≡ span 0 c.args.self.now.count none.items =
    c.span-first.ensures ∙ ap (span 0 c.args.self.now.count) c.as_slice.ensures.value in
    let last : c.span-last.result ≡ span c.args.self.now.count c.args.later c.args.self.now.before.items =
    c.span-last.ensures ∙ ap (span c.args.self.now.count c.args.later) c.as_slice-2.ensures.value in
    c.joined.ensures limits (front ++ lines)
    (first_part limits front lines c.args.self.now h none empty c.args.later len few
    ∷ last_part limits front lines c.args.self.now h none empty c.args.later len few ∷ [])
    (are_parts limits front lines c.args.self.now h none empty c.args.later len few)
    (λ i. first i ∷ last i ∷ [])
    (are_verdicts limits front lines c.args.self.now h none empty c.args.later len few c.args.verdict x)
