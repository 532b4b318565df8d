-- What `finish` and `call` do, step by step, and which entries they add.
use Rattle.std.proofs.Common.{◌≡◌, ℕ, ◌+◌, ◌-◌, ◌<◌, ◌≤◌, suc, zero, List, ◌∷◌, ◌++◌, ◌⊎◌, inl, inr, refl, sym, ap, ◌∙◌, arith}
use Rattle.pif_types.specs.declared.requests.Request.{Request}
use Rattle.pif_types.specs.declared.errors.Refusal.{Refusal}
use Rattle.pif_model.specs.declared.events.Event.TheVariants.{Begin, Go}
use Rattle.pif_model.specs.declared.events.Seen.{Seen}
use Rattle.pif_model.specs.declared.events.Seen.TheVariants.{Begun, Went, Waits, Answered, Ended, Ticked, Refused}
use Rattle.pif_model.specs.declared.events.Entry.{Entry}
use Rattle.pif_model.specs.declared.events.Entry.TheVariants.{Step as Happened}
use Rattle.pif_model.specs.Table.{Table}
use Rattle.pif_model.specs.Lines.{Outcome, event_outcome, goes_on}
use Rattle.pif_model_simulation.specs.Calls.{call_outcome, after_call, after_finish, after_going, steps_before, went}

-- ---- what is chosen by an answer

-- it went
went-seen : {A : Type 0} (x : Seen) (f g : A) → x ≡ Went → ◌≡◌ {A = A} (elim x [ Went ↦ f | _ ↦ g ]) f
went-seen Went f g e = refl
went-seen (Refused r) f g e = cc
went-seen Begun f g e = cc
went-seen Waits f g e = cc
went-seen (Answered a) f g e = cc
went-seen Ended f g e = cc
went-seen Ticked f g e = cc

-- it did not
still-seen : {A : Type 0} (x : Seen) (f g : A) → (x ≡ Went → ⊥) → ◌≡◌ {A = A} (elim x [ Went ↦ f | _ ↦ g ]) g
still-seen Went f g n = absurd (n refl)
still-seen (Refused r) f g n = refl
still-seen Begun f g n = refl
still-seen Waits f g n = refl
still-seen (Answered a) f g n = refl
still-seen Ended f g n = refl
still-seen Ticked f g n = refl

-- it was refused
refused-seen : {A : Type 0} (x : Seen) (f g : A) (r : Refusal) → x ≡ Refused r
    → ◌≡◌ {A = A} (elim x [ Refused r ↦ f | _ ↦ g ]) f
refused-seen (Refused q) f g r e = refl
refused-seen Begun f g r e = cc
refused-seen Went f g r e = cc
refused-seen Waits f g r e = cc
refused-seen (Answered a) f g r e = cc
refused-seen Ended f g r e = cc
refused-seen Ticked f g r e = cc

-- it was not
other-seen : {A : Type 0} (x : Seen) (f g : A) → ((r : Refusal) → x ≡ Refused r → ⊥)
    → ◌≡◌ {A = A} (elim x [ Refused r ↦ f | _ ↦ g ]) g
other-seen (Refused r) f g n = absurd (n r refl)
other-seen Begun f g n = refl
other-seen Went f g n = refl
other-seen Waits f g n = refl
other-seen (Answered a) f g n = refl
other-seen Ended f g n = refl
other-seen Ticked f g n = refl

-- whether an answer is Went
pub is_went : (x : Seen) → (x ≡ Went) ⊎ (x ≡ Went → ⊥)
is_went Went = inl refl
is_went Begun = inr (λ e. cc)
is_went Waits = inr (λ e. cc)
is_went (Answered a) = inr (λ e. cc)
is_went Ended = inr (λ e. cc)
is_went Ticked = inr (λ e. cc)
is_went (Refused r) = inr (λ e. cc)

-- whether it is a refusal
pub is_refused : (x : Seen) → ((r : Refusal) × (x ≡ Refused r)) ⊎ ((r : Refusal) → x ≡ Refused r → ⊥)
is_refused (Refused r) = inl (r, refl)
is_refused Begun = inr (λ r e. cc)
is_refused Went = inr (λ r e. cc)
is_refused Waits = inr (λ r e. cc)
is_refused (Answered a) = inr (λ r e. cc)
is_refused Ended = inr (λ r e. cc)
is_refused Ticked = inr (λ r e. cc)

-- ---- going on

-- it went, and goes on
pub goes_on-went : (more t : ℕ) (s : Table) → (event_outcome (Go t) s).seen ≡ Went
    → goes_on (suc more) t s ≡ goes_on more t (event_outcome (Go t) s).after
unfolding goes_on
goes_on-went more t s e = went-seen (event_outcome (Go t) s).seen _ _ e

-- it did not
pub goes_on-other : (more t : ℕ) (s : Table) → ((event_outcome (Go t) s).seen ≡ Went → ⊥)
    → goes_on more t s ≡ event_outcome (Go t) s
unfolding goes_on
goes_on-other zero t s e = refl
goes_on-other (suc more) t s e = still-seen (event_outcome (Go t) s).seen _ _ e

-- one step further in a loop that counts to 23
pub goes_on-turn : (i t : ℕ) (s u : Table) → i < 23 → (event_outcome (Go t) s).seen ≡ Went
    → u ≡ (event_outcome (Go t) s).after
    → goes_on (23 - (i + 1)) t u ≡ goes_on (23 - i) t s
goes_on-turn i t s u h e f =
    let n : 23 - i ≡ suc (23 - (i + 1)) = omega arith in
    rw f (sym (ap (λ k. goes_on k t s) n ∙ goes_on-went (23 - (i + 1)) t s e))

-- no step more is allowed
pub goes_on-zero : (t : ℕ) (s : Table) → goes_on 0 t s ≡ event_outcome (Go t) s
unfolding goes_on
goes_on-zero t s = refl

-- the last step of that loop
pub goes_on-last : (i t : ℕ) (s : Table) → 23 ≤ i → goes_on (23 - i) t s ≡ event_outcome (Go t) s
goes_on-last i t s h =
    let n : 23 - i ≡ 0 = omega arith in
    ap (λ k. goes_on k t s) n ∙ goes_on-zero t s

-- ---- the entries

-- a step that went is one of those before the last
steps-went : (more t : ℕ) (s : Table) → (event_outcome (Go t) s).seen ≡ Went
    → steps_before (suc more) t s ≡ suc (steps_before more t (event_outcome (Go t) s).after)
unfolding steps_before
steps-went more t s e = went-seen (event_outcome (Go t) s).seen _ _ e

-- another is the last
steps-other : (more t : ℕ) (s : Table) → ((event_outcome (Go t) s).seen ≡ Went → ⊥) → steps_before more t s ≡ 0
unfolding steps_before
steps-other zero t s e = refl
steps-other (suc more) t s e = still-seen (event_outcome (Go t) s).seen _ _ e

-- the entry of a step that went, and those that follow it
pub after_going-went : (more t : ℕ) (s : Table) (h : List Entry) → (event_outcome (Go t) s).seen ≡ Went
    → after_going (suc more) t s h ≡ after_going more t (event_outcome (Go t) s).after (Happened (Go t) Went ∷ h)
unfolding went
after_going-went more t s h e =
    ap (λ (o : Outcome). Happened (Go t) o.seen ∷ went (steps_before (suc more) t s) t h) (goes_on-went more t s e)
    ∙ ap (λ n. Happened (Go t) (goes_on more t (event_outcome (Go t) s).after).seen ∷ went n t h) (steps-went more t s e)

-- the entry of the last step
pub after_going-other : (more t : ℕ) (s : Table) (h : List Entry) → ((event_outcome (Go t) s).seen ≡ Went → ⊥)
    → after_going more t s h ≡ Happened (Go t) (event_outcome (Go t) s).seen ∷ h
unfolding went
after_going-other more t s h e =
    ap (λ (o : Outcome). Happened (Go t) o.seen ∷ went (steps_before more t s) t h) (goes_on-other more t s e)
    ∙ ap (λ n. Happened (Go t) (event_outcome (Go t) s).seen ∷ went n t h) (steps-other more t s e)

-- no step more is allowed
pub after_going-zero : (t : ℕ) (s : Table) (h : List Entry) → after_going 0 t s h ≡ Happened (Go t) (event_outcome (Go t) s).seen ∷ h
unfolding went goes_on steps_before
after_going-zero t s h = refl

-- entries that were there stay as they were
went-below : (n t : ℕ) (h g : List Entry) → went n t (h ++ g) ≡ went n t h ++ g
unfolding went
went-below zero t h g = refl
went-below (suc n) t h g = went-below n t (Happened (Go t) Went ∷ h) g

pub after_going-below : (more t : ℕ) (s : Table) (h g : List Entry) → after_going more t s (h ++ g) ≡ after_going more t s h ++ g
after_going-below more t s h g =
    ap (λ l. Happened (Go t) (goes_on more t s).seen ∷ l) (went-below (steps_before more t s) t h g)

-- ---- a call

-- a call whose begin is refused is answered so
pub call_refused : (t : ℕ) (q : Request) (s : Table) (r : Refusal) → (event_outcome (Begin t q) s).seen ≡ Refused r
    → call_outcome t q s ≡ event_outcome (Begin t q) s
unfolding call_outcome
call_refused t q s r e = refused-seen (event_outcome (Begin t q) s).seen _ _ r e

-- and that is its one entry
pub called-refused : (t : ℕ) (q : Request) (s : Table) (h : List Entry) (r : Refusal)
    → (event_outcome (Begin t q) s).seen ≡ Refused r
    → after_call t q s h ≡ Happened (Begin t q) (event_outcome (Begin t q) s).seen ∷ h
unfolding after_call
called-refused t q s h r e = refused-seen (event_outcome (Begin t q) s).seen _ _ r e

-- another goes on
pub call_other : (t : ℕ) (q : Request) (s : Table)
    → ((r : Refusal) → (event_outcome (Begin t q) s).seen ≡ Refused r → ⊥)
    → call_outcome t q s ≡ goes_on 23 t (event_outcome (Begin t q) s).after
unfolding call_outcome
call_other t q s e = other-seen (event_outcome (Begin t q) s).seen _ _ e

-- and its entries follow that of its begin
pub called-other : (t : ℕ) (q : Request) (s : Table) (h : List Entry)
    → ((r : Refusal) → (event_outcome (Begin t q) s).seen ≡ Refused r → ⊥)
    → after_call t q s h ≡ after_finish t (event_outcome (Begin t q) s).after
    (Happened (Begin t q) (event_outcome (Begin t q) s).seen ∷ h)
unfolding after_call
called-other t q s h e = other-seen (event_outcome (Begin t q) s).seen _ _ e
