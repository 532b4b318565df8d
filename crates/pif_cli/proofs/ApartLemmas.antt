-- Histories that were judged into texts of their own, which are written in their turns.
use Rattle.std.proofs.Common.{◌≡◌, ◌<◌, ◌≤◌, ◌-◌, ◌⊎◌, inl, inr, ℕ, Bool, true, false, List, [], MatchBool, IfSome, OnOk, Option, Some, None, Result, Ok, Err, arith, drop, get_or-take, refl, slice_index_or, subst, sym, take, ap, ◌∙◌}
use Rattle.std.proofs.lemmas.Bool.{cases_lt}
use Rattle.std.proofs.lemmas.List.{get_or-drop, get_or_past, length-take}
use Rattle.std.specs.Borrow.{Bor}
use Rattle.std.specs.Slice.{IsItemAt}
use Rattle.clap.specs.Words.{Text}
use Rattle.pif_script_model.specs.declared.faults.CliFault.{CliFault}
use Rattle.pif_script_model.specs.declared.faults.CliFault.TheVariants as fault
use Rattle.pif_rules_model.specs.declared.rules.Rules.{Rules}
use Rattle.pif_history_text.specs.Histories.{Heard}
use Rattle.pif_history_text.specs.Reading.{ReadsHistory}
use Rattle.pif_job_judge.specs.declared.faults.JudgeFault.{JudgeFault}
use Rattle.pif_job_judge.specs.declared.faults.JudgeFault.TheVariants as judge
use Rattle.pif_job_judge.specs.declared.forms.Form.{Form}
use Rattle.pif_job_judge.specs.declared.forms.Form.TheVariants as form
use Rattle.pif_job_judge.specs.Endings.{result_of}
use Rattle.pif_job_judge.specs.Judging.{Judges, JudgesTo, front_of, heard_allowing}
use Rattle.pif_job_judge.specs.Least.{JudgesLeast, JudgesLeastTo}
use Rattle.pif_cli_words.specs.declared.jobs.Job.{Job}
use Rattle.pif_cli_words.specs.declared.jobs.Job.TheVariants.{Judge}
use Rattle.pif_cli_words.specs.declared.jobs.Judging.{Judging}
use Rattle.pif_story.specs.declared.missing.Note.{Note}
use Rattle.pif_cli.specs.declared.apart.Apart.{Apart}
use Rattle.pif_cli.specs.declared.apart.Apart.TheVariants as apart
use Rattle.pif_cli.specs.declared.apart.Judged.{Judged}
use Rattle.pif_cli_messages.specs.declared.statuses.JobFault.{JobFault}
use Rattle.pif_cli_messages.specs.declared.statuses.JobFault.TheVariants.{Cli}
use Rattle.pif_cli.specs.Apart.{AreApart, IsApart, IsJudged, WritesJudged}
use Rattle.pif_cli.specs.Names.{shown_name}
use Rattle.pif_cli.specs.Words.{Did, DidFile, JudgesAs, JudgesNamed, as_judged, form_of}
use Rattle.pif_cli_messages.specs.Messages.{TellsOf}
use Rattle.pif_cli_messages.specs.Statuses.{job_status}
use Rattle.pif_cli.proofs.AgainLemmas.{Again, again-fault, again-refused, again-text}

abbrev Done : Type 0
Done = Result (Unit {0}) JudgeFault

abbrev unwritten : Done
unwritten = Err (judge.Cli fault.Write)

abbrev refused : Done
refused = Err (judge.Cli fault.NoMemory)

module _ (text : List ℕ) (done : Done) (held holds : Option (List ℕ)) (result : Done)
    (again : Again unwritten refused text done held holds result) where
  -- what was told of a history
  judges-again : (plain : Bool) (shape : Form) (r : Rules) (before after : Option (List ℕ)) (history : Result Heard CliFault) (front : List ℕ)
      → ReadsHistory before after history → Judges plain shape (heard_allowing r history) (Some []) (Some text) front done
      → Judges plain shape (heard_allowing r history) held holds front result
  judges-again plain shape r before after (Ok h) front reads judged =
      elim judged [
        | inl none ↦ inl (again-refused unwritten refused text done held holds result again none.0 none.1)
        | inr told ↦ elim (again-text unwritten refused text done held holds result again _ (result_of told.1) told.3) [
          | inl none ↦ inl none
          | inr written ↦ inr (told.0, told.1, told.2, written)
        ]
      ]
  judges-again plain shape r before after (Err (fault.Script line cause)) front reads judged =
      elim judged [
        | inl none ↦ inl (again-refused unwritten refused text done held holds result again none.0 none.1)
        | inr told ↦ again-text unwritten refused text done held holds result again _ _ told
      ]
  judges-again plain shape r before after (Err fault.Read) front reads judged =
      again-fault unwritten refused text done held holds result again _ judged.0 (λ e. cc) judged.1
  judges-again plain shape r before after (Err fault.NoMemory) front reads judged =
      again-fault unwritten refused text done held holds result again _ judged.0 (λ e. cc) judged.1
  judges-again plain shape r before after (Err fault.Write) front reads judged = absurd reads
  judges-again plain shape r before after (Err (fault.Differs line)) front reads judged = absurd reads

  -- what was told of the rules that it needs
  least-again : (plain : Bool) (a : Rules) (before after : Option (List ℕ)) (front : List ℕ)
      → JudgesLeastTo plain a before after (Some []) (Some text) front done → JudgesLeastTo plain a before after held holds front result
  least-again plain a before after front judged = (judged.0, judged.1, by_history judged.0 judged.1 judged.2)
    where
      by_history : (history : Result Heard CliFault) → ReadsHistory before after history
          → JudgesLeast plain a history (Some []) (Some text) front done → JudgesLeast plain a history held holds front result
      by_history (Ok h) reads told =
          elim told [
            | inl none ↦ inl (again-refused unwritten refused text done held holds result again none.0 none.1)
            | inr t ↦ elim (again-text unwritten refused text done held holds result again _ (result_of t.1) t.3) [
              | inl none ↦ inl none
              | inr written ↦ inr (t.0, t.1, t.2, written)
            ]
          ]
      by_history (Err f) reads told = judges-again plain form.Text a before after (Err f) front reads told

  -- either
  as-again : (asked : Judging) (name : Option (List ℕ)) (before after : Option (List ℕ))
      → JudgesAs asked name before after (Some []) (Some text) done → JudgesAs asked name before after held holds result
  as-again asked name before after = by_test asked.least
    where
      by_test : (b : Bool)
          → MatchBool b (JudgesLeastTo asked.plain asked.allowed before after (Some []) (Some text) (front_of name form.Text) done)
          (JudgesTo asked.plain (form_of asked) asked.allowed before after (Some []) (Some text) (front_of name (form_of asked)) done)
          → MatchBool b (JudgesLeastTo asked.plain asked.allowed before after held holds (front_of name form.Text) result)
          (JudgesTo asked.plain (form_of asked) asked.allowed before after held holds (front_of name (form_of asked)) result)
      by_test true judged = least-again asked.plain asked.allowed before after (front_of name form.Text) judged
      by_test false judged = (
        judged.0,
        judged.1,
        judges-again asked.plain (form_of asked) asked.allowed before after judged.0 (front_of name (form_of asked)) judged.1 judged.2,
      )

-- how a job ends that ended as a history, and the end of the history
as-before : (done : Done) (end : Result (Unit {0}) JobFault) → end ≡ as_judged done → end ≡ Err (Cli fault.Write) → done ≡ unwritten
as-before (Ok x) end is e = cc
as-before (Err (judge.Cli f)) end is e = cc
as-before (Err (judge.Undecided line)) end is e = cc
as-before (Err (judge.PosixAllows line)) end is e = cc
as-before (Err (judge.PosixUndefined line)) end is e = cc
as-before (Err judge.NoCall) end is e = cc
as-before (Err (judge.Log line noted)) end is e = cc

-- what was judged of a history that is told under this name is written again
pub written-again : (asked : Judging) (name : Text) (judged : Judged) (held holds : Option (List ℕ)) (result : Result (Unit {0}) JobFault)
    → (made : IsJudged asked name judged) → WritesJudged judged held holds result
    → JudgesNamed asked name made.0 made.1 held holds result
written-again asked name judged held holds result made written =
    let done : Done = made.2.0 in
    let is : judged.done ≡ as_judged done = made.2.2 in
    elim written [
      | inl none ↦ (
        refused,
        as-again judged.text.items done held holds refused
            (inl (as-before done judged.done is none.0, refl, none.2)) asked _ made.0 made.1 made.2.1,
        none.1,
      )
      | inr w ↦ elim w.1 [
        | inl all ↦ (
          done,
          as-again judged.text.items done held holds done
              (inr (λ e. w.0 (is ∙ ap as_judged e), inl (refl, all.1))) asked _ made.0 made.1 made.2.1,
          all.0 ∙ is,
        )
        | inr part ↦ (
          unwritten,
          as-again judged.text.items done held holds unwritten
              (inr (λ e. w.0 (is ∙ ap as_judged e), inr (refl, part.1))) asked _ made.0 made.1 made.2.1,
          part.0,
        )
      ]
    ]

-- what is found at a place is of the file of this place
apart-at : (job : Job) (names : List Text) (found : List Apart) (i : ℕ) (name : Text) (one : Option (Bor Apart))
    → AreApart job names found → IsItemAt found i one
    → IfSome one (λ x. IsApart job (slice_index_or names i name) x.now)
apart-at job names found i name None are item = tt
apart-at job names found i name (Some one) are item =
    subst (λ (x : Apart). IsApart job (slice_index_or names i name) x) (sym item.1) (are i name one.now item.3.0)

-- what was done with the first files of a list was done with files of the list
pub apart-front : (job : Job) (k : ℕ) (names : List Text) (found : List Apart) → AreApart job (take k names) found
    → AreApart job names found
apart-front job k names found are i name one lt = by_order (cases_lt i k)
  where
    at : Text
    at = slice_index_or names i name

    by_order : ((i < k) ⊎ (k ≤ i)) → IsApart job at (slice_index_or found i one)
    by_order (inl l) =
        subst (λ (x : Text). IsApart job x (slice_index_or found i one)) (get_or-take k names i name l) (are i name one lt)
    by_order (inr m) =
        subst (λ (x : Text). IsApart job x (slice_index_or found i one))
        (get_or_past (take k names) i at (omega (arith, length-take k names))) (are i at one lt)

-- what is found of the file at a place, of those that were taken from an earlier place on
pub apart-ahead : (job : Job) (names : List Text) (begin place : ℕ) (found : List Apart) (name : Text) (one : Option (Bor Apart))
    → begin ≤ place → name ≡ slice_index_or names place name → AreApart job (drop begin names) found
    → IsItemAt found (place - begin) one → IfSome one (λ x. IsApart job name x.now)
apart-ahead job names begin place found name one past is are item =
    let at : slice_index_or (drop begin names) (place - begin) name ≡ name =
    get_or-drop begin names (place - begin) name
    ∙ (ap (λ i. slice_index_or names i name) (omega (arith, past)) ∙ sym is) in
    subst (λ (x : Text). IfSome one (λ (y : Bor Apart). IsApart job x y.now)) at
    (apart-at job (drop begin names) found (place - begin) name one are item)

-- a job that was done has no notes
no-notes : (notes : List Note) (done : Result (Unit {0}) JobFault) → notes ≡ [] → OnOk done (notes ≡ [])
no-notes notes (Ok x) e = e
no-notes notes (Err end) e = tt

-- what was judged of a file, and written in its turn, is what is done in its turn
pub did-judged : (job : Job) (name : Text) (judged : Judged) (held holds errors_held errors_hold : Option (List ℕ))
    (done : Result (Unit {0}) JobFault) (status : ℕ)
    → IsApart job name (apart.Judged judged) → WritesJudged judged held holds done → status ≡ job_status done
    → TellsOf [] done errors_held errors_hold → DidFile job name held holds errors_held errors_hold status
unfolding IsApart
did-judged job name judged held holds errors_held errors_hold done status one written is told =
    let asked : Judging = one.0 in
    let made : IsJudged asked (shown_name name) judged = one.2 in
    let did : Did (Judge asked) name made.0 made.1 held holds errors_held errors_hold status =
    (done, [], written-again asked (shown_name name) judged held holds done made written, no-notes [] done refl, is, told) in
    subst (λ (j : Job). DidFile j name held holds errors_held errors_hold status) (sym one.1) (inl (made.0, made.1, did))
