-- What is remembered of who was blocked goes on fitting a table: what a change of the table has to keep for it.
use Rattle.std.proofs.Common.{◌≡◌, ◌≢◌, ◌⊎◌, inl, inr, ℕ, Bool, true, false, ◌==◌, length, Some, refl, sym, ap, ◌∙◌, subst, if◌then◌else◌}
use Rattle.std.proofs.lemmas.Bool.{cases_eq, true≢false}
use Rattle.pif_types.specs.declared.requests.Request.{Request}
use Rattle.pif_model.specs.declared.lines.Line.{Line}
use Rattle.pif_model.specs.Posix.{Health, Progress, is_blocked, is_call_blocked, variable_of, on_taking}
use Rattle.pif_model.specs.World.Health.{Fine, Inconsistent, Unusable}
use Rattle.pif_model.specs.PiKernel.{is_parked}
use Rattle.pif_model.specs.Table.{Table, status_at, line_at}
use Rattle.pif_model.specs.Projection.{HistoryVariables, Agrees, call_shown, may_enlist, chooses_on, is_remembered}
use Rattle.pif_model_lemmas.proofs.Waiting.{by_test}

-- a call that is blocked on c after a step, and not parked, was so before
abbrev pub WasBlocked : Bool → (ℕ → Bool) → Bool → (ℕ → Bool) → Type 0
WasBlocked parked blocked parked' blocked' =
    (c : ℕ) → blocked' c ≡ true → parked' ≡ false → (blocked c ≡ true) × (parked ≡ false)

-- the same of u in the tables s and v
abbrev pub WasBlockedIn : Table → Table → ℕ → Type 0
WasBlockedIn s v u = WasBlocked (is_parked (status_at s u)) (λ c. is_call_blocked c (call_shown s u))
    (is_parked (status_at v u)) (λ c. is_call_blocked c (call_shown v u))

-- who is blocked on c in v is parked
abbrev pub AllParked : Table → ℕ → Type 0
AllParked v c = (u : ℕ) → is_call_blocked c (call_shown v u) ≡ true → is_parked (status_at v u) ≡ true

-- from the table s to v, nobody begins a wait; who chooses whom it wakes did so, or all that are blocked are parked;
-- and of those that may be remembered nobody is blocked and not parked who was not
pub record Frames (s v : Table) : Type 0 where
  pub lines : length v.lines ≡ length s.lines
  pub joins : (u : ℕ) → may_enlist (line_at s u) ≡ false → may_enlist (line_at v u) ≡ false
  pub chooses : (a c : ℕ) → c ≢ 0 → chooses_on (line_at v a) ≡ c → (chooses_on (line_at s a) ≡ c) ⊎ AllParked v c
  pub blocked : (u : ℕ) → may_enlist (line_at s u) ≡ false → WasBlockedIn s v u

-- then what fits s fits v
pub framed : {s v : Table} → Frames s v → (x : HistoryVariables) → Agrees s x → Agrees v x
framed {s} {v} f x a = record {
  all = a.all ∙ sym f.lines;
  past = a.past;
  joined = λ t u r. f.joins u (a.joined t u r);
  parked = λ t u c chosen z r b. by_choice t u c z r b (f.chooses t c z chosen);
}
  where
    by_choice : (t u c : ℕ) → c ≢ 0 → is_remembered x t u ≡ true → is_call_blocked c (call_shown v u) ≡ true
        → (chooses_on (line_at s t) ≡ c) ⊎ AllParked v c → is_parked (status_at v u) ≡ true
    by_choice t u c z r b (inr all) = all u b
    by_choice t u c z r b (inl chosen) = by_test (λ p. is_parked (status_at v u) ≡ p → p ≡ true)
        (is_parked (status_at v u)) (λ _ _. refl)
        (λ e _. let w = f.blocked u (a.joined t u r) c b e in
        absurd (true≢false (sym (a.parked t u c chosen z r w.0) ∙ w.1))) refl

-- nothing changes
pub frames_same : (s : Table) → Frames s s
frames_same s = record {
  lines = refl;
  joins = λ u e. e;
  chooses = λ a c z e. inl e;
  blocked = λ u j c b p. (b, p);
}

-- each thread has the same line, the same call and the same status
pub frames_alike : (s v : Table) → length v.lines ≡ length s.lines → ((u : ℕ) → line_at v u ≡ line_at s u)
    → ((u : ℕ) → call_shown v u ≡ call_shown s u) → ((u : ℕ) → status_at v u ≡ status_at s u) → Frames s v
frames_alike s v lines line call status = record {
  lines = lines;
  joins = λ u e. ap may_enlist (line u) ∙ e;
  chooses = λ a c z e. inl (sym (ap chooses_on (line a)) ∙ e);
  blocked = λ u j c b p. (ap (is_call_blocked c) (sym (call u)) ∙ b, sym (ap is_parked (status u)) ∙ p);
}

-- ONE THREAD GOES TO ANOTHER LINE

-- a step from one line to another neither begins a wait nor uses a variable
pub record Follows (l l' : Line) : Type 0 where
  pub joins : may_enlist l ≡ false → may_enlist l' ≡ false
  pub chooses : (c : ℕ) → c ≢ 0 → chooses_on l' ≡ c → chooses_on l ≡ c

-- to a line that is none of a wait's first or a use's last
pub quiet : {l l' : Line} → may_enlist l' ≡ false → chooses_on l' ≡ 0 → Follows l l'
quiet a b = record { joins = λ e. a; chooses = λ c z e. absurd (z (sym e ∙ b)) }

-- if t alone goes to another line, and the others are blocked as they were
pub frames_by : (s v : Table) (t : ℕ) → length v.lines ≡ length s.lines
    → ((u : ℕ) → u ≢ t → line_at v u ≡ line_at s u) → ((u : ℕ) → u ≢ t → WasBlockedIn s v u)
    → Follows (line_at s t) (line_at v t) → (may_enlist (line_at s t) ≡ false → WasBlockedIn s v t) → Frames s v
frames_by s v t lines others blocked follows here = record {
  lines = lines;
  joins = λ u e. joins u e (cases_eq u t);
  chooses = λ a c z e. inl (chooses a c z e (cases_eq a t));
  blocked = λ u j. was u j (cases_eq u t);
}
  where
    joins : (u : ℕ) → may_enlist (line_at s u) ≡ false → (u ≡ t) ⊎ (u ≢ t) → may_enlist (line_at v u) ≡ false
    joins u e (inl q) = ap (λ i. may_enlist (line_at v i)) q
        ∙ follows.joins (ap (λ i. may_enlist (line_at s i)) (sym q) ∙ e)
    joins u e (inr d) = ap may_enlist (others u d) ∙ e

    chooses : (a c : ℕ) → c ≢ 0 → chooses_on (line_at v a) ≡ c → (a ≡ t) ⊎ (a ≢ t) → chooses_on (line_at s a) ≡ c
    chooses a c z e (inl q) = ap (λ i. chooses_on (line_at s i)) q
        ∙ follows.chooses c z (ap (λ i. chooses_on (line_at v i)) (sym q) ∙ e)
    chooses a c z e (inr d) = sym (ap chooses_on (others a d)) ∙ e

    was : (u : ℕ) → may_enlist (line_at s u) ≡ false → (u ≡ t) ⊎ (u ≢ t) → WasBlockedIn s v u
    was u j (inl q) = subst (λ i. WasBlockedIn s v i) (sym q) (here (ap (λ i. may_enlist (line_at s i)) (sym q) ∙ j))
    was u j (inr d) = blocked u d

-- who has the same call and the same status is blocked as it was
pub was_same : (s v : Table) (u : ℕ) → call_shown v u ≡ call_shown s u → status_at v u ≡ status_at s u
    → WasBlockedIn s v u
was_same s v u call status c b p =
    (ap (is_call_blocked c) (sym call) ∙ b, ap is_parked (sym status) ∙ p)

-- whose call is not blocked then was not blocked newly
pub was_not : (s v : Table) (u : ℕ) → ((c : ℕ) → is_call_blocked c (call_shown v u) ≡ false) → WasBlockedIn s v u
was_not s v u n c b p = absurd (true≢false (sym b ∙ n c))

-- a call that has come as far as this is blocked only as its progress says
pub call_unblocked : (q : Request) (p : Progress) → is_blocked p ≡ false → (c : ℕ)
    → is_call_blocked c (Some (record { request = q; progress = p })) ≡ false
call_unblocked q p e c = ap (λ b. if b then variable_of q == c else false) e

-- a call that takes a mutex is not blocked
pub taking_unblocked : (h : Health) → is_blocked (on_taking h) ≡ false
taking_unblocked Fine = refl
taking_unblocked Inconsistent = refl
taking_unblocked Unusable = refl
