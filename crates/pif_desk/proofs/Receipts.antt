-- The replies of a thread's calls stand in the history, and their positions rise.
use Rattle.std.proofs.Common.{◌≡◌, ℕ, zero, suc, ◌+◌, ◌<◌, ◌≤◌, Bool, true, false, ◌==◌, List, [], ◌∷◌, ◌++◌, length, reverse, Option, Some, None, IfSome, unwrap_or, refl, sym, ap, ◌∙◌, subst, arith, if◌then◌else◌, eqb-true}
use Rattle.std.specs.Prelude.{slice_get, MatchOption}
use Rattle.std.specs.List.{All}
use Rattle.std.proofs.lemmas.List.{reverse-append, reverse-reverse, length-reverse}
use Rattle.std.proofs.lemmas.List.Elements.{All-nil, All-cons, All-head, All-tail, All-weaker}
use Rattle.pif_model.specs.declared.events.Event.TheVariants.{Begin, Go, End, Tick}
use Rattle.pif_model.specs.declared.events.Seen.{Seen}
use Rattle.pif_model.specs.declared.events.Seen.TheVariants.{Begun, Answered, Ended}
use Rattle.pif_types.specs.declared.requests.Request.{Request}
use Rattle.pif_model.specs.declared.events.Entry.{Entry}
use Rattle.pif_model.specs.declared.events.Entry.TheVariants.{Thread as AddThread, Mutex as AddMutex, Cond as AddCond, Step as Happened}
use Rattle.pif_desk.specs.declared.log.Act.{Act}
use Rattle.pif_desk.specs.declared.log.Act.TheVariants.{Begin as ActBegin, Go as ActGo, End as ActEnd}
use Rattle.pif_nodes_model.proofs.Places.{slice_get-front, slice_get-last}
use Rattle.pif_desk.specs.declared.log.Mark.{Mark}
use Rattle.pif_desk.specs.declared.log.Mark.TheVariants.{Begun as MarkBegun, Answered as MarkAnswered, Ended as MarkEnded, Nothing}
use Rattle.pif_desk.specs.declared.log.Reply.{Reply}
use Rattle.pif_desk.specs.declared.log.Call.{Call}
use Rattle.pif_desk.specs.Logs.{Log, with_reply, new_call, mark_of, mark_in, log_after, calls_of}
use Rattle.pif_desk.specs.Rooms.{ClientState, history_of, IsExact}
use Rattle.pif_desk.specs.Settling.{ReplyStandsIn, Fall, HasReceipts}

-- WHAT AN ENTRY TELLS

-- the answer that is told, if one is
abbrev answer_told : Mark → Option ℕ
answer_told (MarkAnswered a) = Some a
answer_told _ = None

-- only a step of a call tells an answer
answers_only : (act : Act) (seen : Seen) (a : ℕ) → answer_told (mark_of act seen) ≡ Some a
    → (act ≡ ActGo) × (seen ≡ Answered a)
answers_only (ActBegin q) Begun a e = absurd (cc)
answers_only ActGo (Answered b) a e = (refl, ap (λ (o : Option ℕ). Answered (unwrap_or o b)) e)
answers_only ActEnd Ended a e = absurd (cc)
answers_only _ _ a e = absurd (cc)

-- and only of its own thread
own_answers : (own : Bool) (act : Act) (seen : Seen) (a : ℕ)
    → (if own then mark_of act seen else Nothing) ≡ MarkAnswered a → (own ≡ true) × (act ≡ ActGo) × (seen ≡ Answered a)
own_answers true act seen a e = let is = answers_only act seen a (ap answer_told e) in (refl, is.0, is.1)
own_answers false act seen a e = absurd (cc)

no_begin : (q : Request) → ActBegin q ≡ ActGo → ⊥
no_begin q e = absurd (cc)

no_end : ActEnd ≡ ActGo → ⊥
no_end e = absurd (cc)

-- an answer is told of a thread by its answer
pub mark_answered : (t : ℕ) (e : Entry) (a : ℕ) → mark_in t e ≡ MarkAnswered a → e ≡ Happened (Go t) (Answered a)
mark_answered t (AddThread u p) a told = absurd (cc)
mark_answered t (AddMutex m k r) a told = absurd (cc)
mark_answered t (AddCond c m) a told = absurd (cc)
mark_answered t (Happened (Begin u q) seen) a told =
    absurd (no_begin q (own_answers (u == t) (ActBegin q) seen a told).1)
mark_answered t (Happened (Go u) seen) a told =
    let is = own_answers (u == t) ActGo seen a told in
    ap (λ (n : ℕ). Happened (Go n) seen) (eqb-true u t is.0) ∙ ap (λ (y : Seen). Happened (Go t) y) is.2
mark_answered t (Happened (End u) seen) a told = absurd (no_end (own_answers (u == t) ActEnd seen a told).1)
mark_answered t (Happened (Tick n) seen) a told = absurd (cc)

-- REPLIES

-- a call's reply stands in a longer history
ReplyStandsIn-longer : (t : ℕ) (j : List Entry) (e : Entry) (c : Call) → ReplyStandsIn t j c → ReplyStandsIn t (j ++ e ∷ []) c
ReplyStandsIn-longer t j e c h = by_reply c.reply h
  where
    by_reply : (o : Option Reply) → IfSome o (λ r. slice_get j r.at ≡ Some (Happened (Go t) (Answered r.answer)))
        → IfSome o (λ r. slice_get (j ++ e ∷ []) r.at ≡ Some (Happened (Go t) (Answered r.answer)))
    by_reply None h = tt
    by_reply (Some r) h = slice_get-front j (e ∷ []) r.at (Happened (Go t) (Answered r.answer)) h

-- replies stand after one more entry
stand_on : (t : ℕ) (j : List Entry) (e : Entry) (n : ℕ) (l : Log) → n ≡ length j → All (ReplyStandsIn t j) l.calls
    → All (ReplyStandsIn t (j ++ e ∷ [])) (log_after (mark_in t e) n l).calls
stand_on t j e n l place h = by_mark (mark_in t e) refl
  where
    P : Call → Type 0
    P = ReplyStandsIn t (j ++ e ∷ [])

    old : All P l.calls
    old = All-weaker (ReplyStandsIn t j) P (ReplyStandsIn-longer t j e) l.calls h

    replied : (r : Reply) → IfSome (Some r) (λ x. slice_get (j ++ e ∷ []) x.at
        ≡ Some (Happened (Go t) (Answered x.answer)))
        → (cs : List Call) → All P cs → All P (with_reply r cs)
    replied r now [] k = k
    replied r now (c ∷ cs) k = All-cons P _ cs (by_reply c.reply (All-head P c cs k)) (All-tail P c cs k)
      where
        by_reply : (o : Option Reply) → IfSome o (λ x. slice_get (j ++ e ∷ []) x.at
            ≡ Some (Happened (Go t) (Answered x.answer)))
            → IfSome (Some (unwrap_or o r)) (λ x. slice_get (j ++ e ∷ []) x.at
            ≡ Some (Happened (Go t) (Answered x.answer)))
        by_reply None y = now
        by_reply (Some x) y = y

    by_mark : (m : Mark) → mark_in t e ≡ m → All P (log_after m n l).calls
    by_mark (MarkBegun q) told = All-cons P (new_call q) l.calls tt old
    by_mark (MarkAnswered a) told =
        let is : e ≡ Happened (Go t) (Answered a) = mark_answered t e a told in
        replied (record { answer = a; at = n })
        (ap (slice_get (j ++ e ∷ [])) place ∙ slice_get-last j e ∙ ap (λ (x : Entry). Some x) is) l.calls old
    by_mark MarkEnded told = old
    by_mark Nothing told = old

-- the replies of a thread's calls stand in its history
pub replies_stand : (t : ℕ) (h : List Entry) → All (ReplyStandsIn t (reverse h)) (calls_of t h).calls
replies_stand t [] = All-nil (ReplyStandsIn t [])
replies_stand t (e ∷ h) =
    subst (λ (j : List Entry). All (ReplyStandsIn t j) (calls_of t (e ∷ h)).calls) (sym (reverse-append (e ∷ []) h))
    (stand_on t (reverse h) e (length h) (calls_of t h) (sym (length-reverse h)) (replies_stand t h))

-- POSITIONS

Fall-weaker : (n m : ℕ) → n ≤ m → (cs : List Call) → Fall n cs → Fall m cs
Fall-weaker n m le [] h = tt
Fall-weaker n m le (c ∷ cs) h = by_reply c.reply (Fall-weaker n m le cs) h
  where
    by_reply : (o : Option Reply) → (Fall n cs → Fall m cs) → MatchOption o (Fall n cs) (λ r. (r.at < n) × Fall r.at cs)
        → MatchOption o (Fall m cs) (λ r. (r.at < m) × Fall r.at cs)
    by_reply None further h = further h
    by_reply (Some r) further h = (omega (arith, h.0, le), h.1)

-- positions fall after one more entry
fall_on : (m : Mark) (n : ℕ) (l : Log) → Fall n l.calls → Fall (n + 1) (log_after m n l).calls
fall_on (MarkBegun q) n l h = Fall-weaker n (n + 1) (omega arith) l.calls h
fall_on (MarkAnswered a) n l h = by_calls l.calls h
  where
    by_calls : (cs : List Call) → Fall n cs → Fall (n + 1) (with_reply (record { answer = a; at = n }) cs)
    by_calls [] h = tt
    by_calls (c ∷ cs) h = by_reply c.reply h
      where
        by_reply : (o : Option Reply) → MatchOption o (Fall n cs) (λ r. (r.at < n) × Fall r.at cs)
            → ((unwrap_or o (record { answer = a; at = n })).at < n + 1)
            × Fall (unwrap_or o (record { answer = a; at = n })).at cs
        by_reply None h = (omega arith, h)
        by_reply (Some r) h = (omega (arith, h.0), h.1)
fall_on MarkEnded n l h = Fall-weaker n (n + 1) (omega arith) l.calls h
fall_on Nothing n l h = Fall-weaker n (n + 1) (omega arith) l.calls h

pub positions_fall : (t : ℕ) (h : List Entry) → Fall (length h) (calls_of t h).calls
positions_fall t [] = tt
positions_fall t (e ∷ h) =
    subst (λ (n : ℕ). Fall n (calls_of t (e ∷ h)).calls) (let one : length h + 1 ≡ length (e ∷ h) = omega arith in one)
    (fall_on (mark_in t e) (length h) (calls_of t h) (positions_fall t h))

-- CLIENTS

-- a client whose log is just the calls of its thread has its receipts
pub receipts_held : (journal : List Entry) (c : ClientState) → IsExact c journal → HasReceipts c journal
receipts_held journal c exact = record {
  stand = subst (λ (l : Log). All (ReplyStandsIn c.thread journal) l.calls) (sym exact)
      (subst (λ (j : List Entry). All (ReplyStandsIn c.thread j) (calls_of c.thread (history_of journal)).calls)
      (reverse-reverse journal) (replies_stand c.thread (history_of journal)));
  rise = subst (λ (l : Log). Fall (length journal) l.calls) (sym exact)
      (subst (λ (n : ℕ). Fall n (calls_of c.thread (history_of journal)).calls) (length-reverse journal)
      (positions_fall c.thread (history_of journal)));
}
