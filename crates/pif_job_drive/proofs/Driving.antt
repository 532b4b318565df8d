-- The calls of clients that were served.
use Rattle.std.proofs.Common.{◌≡◌, ◌∙◌, ◌+◌, ◌*◌, append-nil, ℕ, Bool, true, false, ◌==◌, eqb-true, List, [], ◌∷◌, ◌++◌, Result, Ok, Err, OnOk, length, count_by, arith, refl, sym, ap, subst, if◌then◌else◌}
use Rattle.std.specs.List.{All, sum_by}
use Rattle.std.proofs.lemmas.List.Elements.{All-head, All-tail}
use Rattle.std.proofs.lemmas.List.Sums.{sum_by-cons}
use Rattle.pif_model.specs.declared.events.Entry.{Entry}
use Rattle.pif_desk.specs.Logs.{Log, calls_of, no_calls}
use Rattle.pif_desk.specs.Rooms.{ClientState, IsExact, history_of}
use Rattle.pif_desk.specs.Settling.{HasOneClientEach, Settles, answered_calls}
use Rattle.pif_job_drive.specs.Driving.{IsDriven, IsServed, pairs, requests_of}

-- clients that were served have 200 answered calls together for each of them
served_sum : (clients : List ClientState) → All (λ c. (m : ℕ) × IsServed m c.log) clients
    → sum_by (λ c. answered_calls c.log) clients ≡ 200 * length clients
served_sum [] h = omega arith
served_sum (c ∷ cs) h =
    let first : answered_calls c.log ≡ 200 = (All-head (λ d. (m : ℕ) × IsServed m d.log) c cs h).1.answered in
    let more = served_sum cs (All-tail (λ d. (m : ℕ) × IsServed m d.log) c cs h) in
    omega (arith, sum_by-cons (λ (d : ClientState). answered_calls d.log) c cs, first, more)

-- the log of a client that had made no call
pub served_from : {A E : Type 0} (r : Result A E) (m : ℕ) (old new : Log) → old ≡ no_calls
    → OnOk r (answered_calls new ≡ answered_calls old + 200)
    → OnOk r (requests_of new ≡ pairs 100 m ++ requests_of old) → OnOk r (IsServed m new)
served_from (Ok x) m old new none answered requests = record {
  answered = answered ∙ ap (λ (l : Log). answered_calls l + 200) none;
  requests = requests ∙ ap (λ (l : Log). pairs 100 m ++ requests_of l) none ∙ append-nil (pairs 100 m);
}
served_from (Err e) m old new none answered requests = tt

-- what holds of all clients holds of a client of a thread that has one
of_thread : (P : ClientState → Type 0) (t : ℕ) (cs : List ClientState) → All P cs
    → count_by (λ c. c.thread == t) cs ≡ 1 → (c : ClientState) × (c.thread ≡ t) × P c
of_thread P t [] all one = absurd (omega (arith, one))
of_thread P t (c ∷ cs) all one =
    by_test (c.thread == t) refl (of_thread P t cs (All-tail P c cs all))
    (sym (sum_by-cons (λ (d : ClientState). if d.thread == t then 1 else 0) c cs) ∙ one)
  where
    by_test : (b : Bool) → (c.thread == t) ≡ b
        → (count_by (λ d. d.thread == t) cs ≡ 1 → (d : ClientState) × (d.thread ≡ t) × P d)
        → (if b then 1 else 0) + count_by (λ d. d.thread == t) cs ≡ 1 → (d : ClientState) × (d.thread ≡ t) × P d
    by_test true e ih k = (c, eqb-true c.thread t e, All-head P c cs all)
    by_test false e ih k = ih (omega (arith, k))

-- a room that settles with clients that were served
pub driven : (clients : List ClientState) (journal : List Entry) (answers : ℕ) → Settles clients journal
    → HasOneClientEach clients journal → answers ≡ sum_by (λ c. answered_calls c.log) clients
    → All (λ c. (m : ℕ) × IsServed m c.log) clients → IsDriven (length clients) journal answers
driven clients journal answers s one_each sum served = record {
  count = sum ∙ served_sum clients served;
  threads = sym s.counted;
  served = λ t added.
      let found = of_thread (λ c. IsExact c journal × ((m : ℕ) × IsServed m c.log)) t clients
      (λ k c l. (s.exact k c l, served k c l)) (one_each t added) in
      let exact = subst (λ (u : ℕ). found.0.log ≡ calls_of u (history_of journal)) found.1 found.2.0 in
      (found.2.1.0, subst (IsServed found.2.1.0) exact found.2.1.1);
}
