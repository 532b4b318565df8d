-- Bytes that are taken line by line, and parts that are read.
use Rattle.std.proofs.Common.{◌≡◌, ℕ, ◌+◌, ◌<◌, ◌∙◌, List, [], ◌∷◌, ◌++◌, Some, None, length, take, drop, refl, sym, ap, subst, arith, append_assoc, append-nil, take-append-drop}
use Rattle.std.specs.Prelude.{slice_index}
use Rattle.std.proofs.lemmas.List.{take_more}
use Rattle.pif_history_text.specs.Histories.{Heard}
use Rattle.pif_history_text.specs.Reading.{HasNoFeed}
use Rattle.pif_parts.specs.declared.joining.WholeVerdict.{WholeVerdict}
use Rattle.pif_job_follow.specs.declared.followed.Followed.{Followed}
use Rattle.pif_job_follow.specs.Followed.{IsFollowed, IsReading, JudgesTo, Leads, TakesTo}

-- some of the bytes were taken, and the rest weren't yet
pub record IsTaking (bytes : List ℕ) (old : Followed) (rest : List ℕ) (now : Followed) : Type 0 where
  pub done : List ℕ
  pub split : bytes ≡ done ++ rest
  pub reads : (read : List ℕ) → IsReading read old → IsReading (read ++ done) now

pub taking_first : (bytes : List ℕ) (old : Followed) → IsTaking bytes old bytes old
taking_first bytes old = record {
  done = [];
  split = refl;
  reads = λ read x. subst (λ (bs : List ℕ). IsReading bs old) (sym (append-nil read)) x;
}

-- a line with its LF stands before the rest
line_and_rest : (rest : List ℕ) (plain : ℕ) → plain < length rest → slice_index rest plain ≡ 10
    → rest ≡ (take plain rest ++ 10 ∷ []) ++ drop (plain + 1) rest
line_and_rest rest plain lt e =
    sym (take-append-drop (plain + 1) rest)
    ∙ ap (λ (bs : List ℕ). bs ++ drop (plain + 1) rest)
    (take_more rest plain 0 lt ∙ ap (λ b. take plain rest ++ b ∷ []) e)

pub taking_line : (bytes : List ℕ) (old : Followed) (rest : List ℕ) (now then : Followed) (plain : ℕ) → plain < length rest
    → slice_index rest plain ≡ 10
    → ((read : List ℕ) → IsReading read now → IsReading (read ++ (take plain rest ++ 10 ∷ [])) then)
    → IsTaking bytes old rest now → IsTaking bytes old (drop (plain + 1) rest) then
taking_line bytes old rest now then plain lt e line t = record {
  done = t.done ++ (take plain rest ++ 10 ∷ []);
  split = t.split ∙ ap (λ (bs : List ℕ). t.done ++ bs) (line_and_rest rest plain lt e)
      ∙ sym (append_assoc t.done (take plain rest ++ 10 ∷ []) (drop (plain + 1) rest));
  reads = λ read x.
      subst (λ (bs : List ℕ). IsReading bs then) (append_assoc read t.done (take plain rest ++ 10 ∷ []))
      (line (read ++ t.done) (t.reads read x));
}

-- lines were judged
judged_on : (read : List ℕ) (now then : Followed) → then.line.items ≡ now.line.items
    → ((full : Heard) → IsFollowed full now → IsFollowed full then) → IsReading read now → IsReading read then
judged_on read now then line judged x = record {
  full = x.full;
  followed = judged x.full x.followed;
  leads = subst (λ (bs : List ℕ). Leads read (record { heard = x.full; line = bs })) (sym line) x.leads;
  plain = subst HasNoFeed (sym line) x.plain;
}

pub taking_judged : (bytes : List ℕ) (old : Followed) (rest : List ℕ) (now then : Followed) → then.line.items ≡ now.line.items
    → ((full : Heard) → IsFollowed full now → JudgesTo full then None) → IsTaking bytes old rest now → IsTaking bytes old rest then
taking_judged bytes old rest now then line judged t = record {
  done = t.done;
  split = t.split;
  reads = λ read x. judged_on (read ++ t.done) now then line judged (t.reads read x);
}

pub taking_ends : (bytes : List ℕ) (old : Followed) (rest : List ℕ) (now then : Followed) (v : WholeVerdict)
    → then.line.items ≡ now.line.items → ((full : Heard) → IsFollowed full now → JudgesTo full then (Some v))
    → IsTaking bytes old rest now → (read : List ℕ) → IsReading read old → TakesTo read bytes then (Some v)
unfolding judged_on
taking_ends bytes old rest now then v line judged t read x =
    let y = t.reads read x in
    let z = judged y.full y.followed in (
      t.done,
      rest,
      judged_on (read ++ t.done) now then line (λ full f. (judged full f).0) y,
      t.split,
      z.1,
      z.2,
    )

-- there is no rest
is_nothing : (bs : List ℕ) → length bs ≡ 0 → bs ≡ []
is_nothing [] e = refl
is_nothing (b ∷ bs) e = absurd (omega (arith, e))

pub taking_all : (bytes : List ℕ) (old : Followed) (rest : List ℕ) (now : Followed) → length rest ≡ 0
    → IsTaking bytes old rest now → (read : List ℕ) → IsReading read old → TakesTo read bytes now None
taking_all bytes old rest now none t read x =
    subst (λ (bs : List ℕ). IsReading bs now)
    (ap (λ (bs : List ℕ). read ++ bs) (sym (t.split ∙ ap (λ (bs : List ℕ). t.done ++ bs) (is_nothing rest none) ∙ append-nil t.done)))
    (t.reads read x)
