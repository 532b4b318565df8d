-- What a change of one mutex leaves to the threads that do not make it: what their lines know outlives it.
use Rattle.std.proofs.Common.{◌≡◌, ◌≢◌, ◌⊎◌, inl, inr, ℕ, ◌<◌, ◌≤◌, Bool, true, false, ◌==◌, nat_lt, List, [], ◌∷◌, length, get_or, sym, ◌∙◌, subst, ap, true≢false, arith, if◌then◌else◌}
use Rattle.std.proofs.lemmas.Bool.{cases_eq}
use Rattle.pif_types.specs.declared.requests.Kind.{Kind}
use Rattle.pif_types.specs.declared.requests.Request.{Request}
use Rattle.pif_types.specs.declared.requests.Request.TheVariants.{Signal, Broadcast, SetPrio}
use Rattle.pif_model.specs.declared.lines.Line.{Line}
use Rattle.pif_model.specs.declared.lines.Line.TheVariants.{Idle, At}
use Rattle.pif_model.specs.declared.lines.Place.{Place}
use Rattle.pif_model.specs.declared.lines.Place.TheVariants.{Wake, SetPriority}
use Rattle.pif_model.specs.declared.lines.WakeStep.TheVariants.{CountUse}
use Rattle.pif_model.specs.declared.lines.Status.{Status}
use Rattle.pif_model.specs.Kinds.{relock_of}
use Rattle.pif_model.specs.Posix.{named_by, variable_of, names_known}
use Rattle.pif_types.specs.Shapes.{names_of}
use Rattle.pif_model.specs.PiKernel.{is_ready, is_living}
use Rattle.pif_model.specs.Table.{Table, Cell, has_mutex, has_cond, bound_to, uses_of, status_at, cell_at}
use Rattle.pif_model.specs.Soundness.{Need, Use, Meets, MeetsAll, needs, belongs, is_using, use_at, CallIsSound, LineIsSound, CountIsSound}
use Rattle.pif_model.specs.Soundness.Need.{MayRun, HasStopped, NotStopped, Owns, OwnsNot, OwnsOnceReady, OwnsOnceHanded, HoldsOnce, MayStop, OfRobust, HealthIs, HealthIsNot, DiedIs, DiedBehindDisorder, IsBound, UsedAtLeast, BelowLimit}
use Rattle.pif_model.specs.Soundness.MayStopFor.{own_normal, orphaned}
use Rattle.pif_model_simulation.proofs.Named.{known_mutex, names_kept, variable_added}

-- what a change of a mutex from c to d, and of who lives, leaves to u, who doesn't make it
pub record Spares (living living' : ℕ → Bool) (u : ℕ) (c d : Cell) : Type 0 where
  pub kind : d.kind ≡ c.kind
  pub robust : d.robust ≡ c.robust
  pub owner : c.word.number ≡ u → d.word.number ≡ u
  pub other : c.word.number ≢ u → d.word.number ≢ u
  -- who owns it finds it as it was
  pub same : c.word.number ≡ u → (d.count ≡ c.count) × (d.word.died ≡ c.word.died) × (d.health ≡ c.health)
  -- a stalled mutex stays that of an owner that has ended
  pub ended : c.robust ≡ false → c.word.number ≢ 0 → living c.word.number ≡ false
      → (d.word.number ≡ c.word.number) × (living' c.word.number ≡ false)

-- a mutex that nobody writes, while everybody lives who lived, spares everybody
pub unwritten : (living : ℕ → Bool) (u : ℕ) (c d : Cell) → d ≡ c → Spares living living u c d
unwritten living u c d e = record {
  kind = ap (λ (x : Cell). x.kind) e;
  robust = ap (λ (x : Cell). x.robust) e;
  owner = λ o. ap (λ (x : Cell). x.word.number) e ∙ o;
  other = λ o p. o (sym (ap (λ (x : Cell). x.word.number) e) ∙ p);
  same = λ o. (ap (λ (x : Cell). x.count) e, ap (λ (x : Cell). x.word.died) e, ap (λ (x : Cell). x.health) e);
  ended = λ r n l. (ap (λ (x : Cell). x.word.number) e, l);
}

-- what an owner knows of count, OWNER_DIED and health outlives what others change
owner_knows : (P : ℕ → Bool → ℕ → Type 0) (l l' : ℕ → Bool) (u : ℕ) (c d : Cell) → Spares l l' u c d
    → (c.word.number ≡ u → P c.count c.word.died c.health) → d.word.number ≡ u → P d.count d.word.died d.health
owner_knows P l l' u c d k h e = go (cases_eq c.word.number u)
  where
    go : (c.word.number ≡ u) ⊎ (c.word.number ≢ u) → P d.count d.word.died d.health
    go (inl own) = let a = k.same own in subst (λ n. P n d.word.died d.health) (sym a.0)
        (subst (λ b. P c.count b d.health) (sym a.1) (subst (λ x. P c.count c.word.died x) (sym a.2) (h own)))
    go (inr not) = absurd (k.other not e)

-- what others change of a variable leaves it bound as it was; it was used as often, or more often
pub record Grows (z z' : Use) : Type 0 where
  pub bound : z'.bound ≡ z.bound
  pub uses : z.uses ≤ z'.uses
  pub signals : z'.signals ≡ z.signals

-- a need outlives what others change
meets_outlives : (l l' : ℕ → Bool) (u : ℕ) (x : Status) (c d : Cell) (z z' : Use) (n : Need) → Spares l l' u c d
    → Grows z z' → Meets l u x c z n → Meets l' u x d z' n
meets_outlives l l' u x c d z z' MayRun k o h = h
meets_outlives l l' u x c d z z' HasStopped k o h = h
meets_outlives l l' u x c d z z' NotStopped k o h = h
meets_outlives l l' u x c d z z' Owns k o h = k.owner h
meets_outlives l l' u x c d z z' OwnsNot k o h = k.other h
meets_outlives l l' u x c d z z' OwnsOnceReady k o h = λ e. k.owner (h e)
meets_outlives l l' u x c d z z' OwnsOnceHanded k o h = ((λ e. k.owner (h.0 e)), λ e. k.other (h.1 e))
meets_outlives l l' u x c d z z' HoldsOnce k o h = owner_knows (λ n b a. n ≡ 1) l l' u c d k h
meets_outlives l l' u x c d z z' MayStop k o (own_normal e n) = own_normal (k.owner e) (ap relock_of k.kind ∙ n)
meets_outlives l l' u x c d z z' MayStop k o (orphaned r n e) =
    let s = k.ended r n e in
    orphaned (k.robust ∙ r) (λ z. n (sym s.0 ∙ z)) (ap l' s.0 ∙ s.1)
meets_outlives l l' u x c d z z' OfRobust k o h = k.robust ∙ h
meets_outlives l l' u x c d z z' (HealthIs a) k o h = owner_knows (λ n b j. j ≡ a) l l' u c d k h
meets_outlives l l' u x c d z z' (HealthIsNot a) k o h = owner_knows (λ n b j. j ≢ a) l l' u c d k h
meets_outlives l l' u x c d z z' (DiedIs a) k o h = owner_knows (λ n b j. b ≡ a) l l' u c d k h
meets_outlives l l' u x c d z z' DiedBehindDisorder k o h = owner_knows (λ n b j. j ≡ 1 → b ≡ true) l l' u c d k h
meets_outlives l l' u x c d z z' IsBound k o h = o.bound ∙ h
meets_outlives l l' u x c d z z' (UsedAtLeast v) k o h = let e = o.uses in omega arith
meets_outlives l l' u x c d z z' (BelowLimit v) k o h = subst (λ n. v < n) (sym o.signals) h

-- and so do all needs of a place
all_outlive : (l l' : ℕ → Bool) (u : ℕ) (x : Status) (c d : Cell) (z z' : Use) (ns : List Need) → Spares l l' u c d
    → Grows z z' → MeetsAll l u x c z ns → MeetsAll l' u x d z' ns
all_outlive l l' u x c d z z' [] k o h = h
all_outlive l l' u x c d z z' (n ∷ ns) k o h =
    (meets_outlives l l' u x c d z z' n k o h.0, all_outlive l l' u x c d z z' ns k o h.1)

-- at the place of a call that names neither, a thread need only be ready
unnamed_needs : (l l' : ℕ → Bool) (u v n : ℕ) (x : Status) (c d : Cell) (z z' : Use) (p : Place)
    → belongs (SetPrio v n) p ≡ true → MeetsAll l u x c z (needs p) → MeetsAll l' u x d z' (needs p)
unnamed_needs l l' u v n x c d z z' SetPriority b h = h
unnamed_needs l l' u v n x c d z z' _ b h = absurd (true≢false (sym b))

-- at a place of signal and broadcast it need only be ready, and know what it has read
using_needs : (l l' : ℕ → Bool) (u : ℕ) (x : Status) (c d : Cell) (z z' : Use) (p : Place) → is_using p ≡ true
    → Grows z z' → MeetsAll l u x c z (needs p) → MeetsAll l' u x d z' (needs p)
using_needs l l' u x c d z z' (Wake (CountUse v)) b o h = (h.0, (subst (λ n. v < n) (sym o.signals) h.1.0, tt))
using_needs l l' u x c d z z' (Wake _) b o h = h
using_needs l l' u x c d z z' _ b o h = absurd (true≢false (sym b))

-- the variables of v in place of those of s: those that were there are, bound as they were, used as often or more
pub record Uses (s v : Table) : Type 0 where
  pub has : (c : ℕ) → has_cond s c ≡ true → has_cond v c ≡ true
  pub bound : (c : ℕ) → (c ≡ 0) ⊎ (has_cond s c ≡ true) → bound_to v c ≡ bound_to s c
  pub uses : (c : ℕ) → uses_of s c ≤ uses_of v c
  pub signals : v.limits.signals ≡ s.limits.signals

-- the same variables
pub same_conds : (s v : Table) → v.conds ≡ s.conds → ((c : ℕ) → uses_of s c ≤ uses_of v c)
    → v.limits.signals ≡ s.limits.signals → Uses s v
same_conds s v a b c = record {
  has = λ i e. ap (λ cs. if i == 0 then false else nat_lt i (length cs)) a ∙ e;
  bound = λ i e. ap (λ cs. get_or cs i 0) a;
  uses = b;
  signals = c;
}

-- and used as often
pub unused : (s v : Table) → v.conds ≡ s.conds → v.words.conds ≡ s.words.conds
    → v.limits.signals ≡ s.limits.signals → Uses s v
unused s v a b c = same_conds s v a (λ i. subst (λ n. uses_of s i ≤ n) (ap (λ us. get_or us i 0) (sym b)) (omega arith))
    c

-- what a call has of its variable
grows : {s v : Table} → Uses s v → (q : Request) → (variable_of q ≡ 0) ⊎ (has_cond s (variable_of q) ≡ true)
    → Grows (use_at s q) (use_at v q)
grows h q known = record {
  bound = ap (λ m. m == named_by q) (h.bound (variable_of q) known);
  uses = h.uses (variable_of q);
  signals = h.signals;
}

module _ (s v : Table) (u : ℕ) (status : status_at v u ≡ status_at s u) (uses : Uses s v)
    (k : (m : ℕ) → has_mutex s m ≡ true → (has_mutex v m ≡ true) × Spares (is_living s.kernel) (is_living v.kernel) u
    (cell_at s m) (cell_at v m)) where
  -- what a call on a mutex rests on
  on_mutex : (q : Request) (p : Place) → (variable_of q ≡ 0) ⊎ (has_cond s (variable_of q) ≡ true)
      → has_mutex s (named_by q) ≡ true
      → MeetsAll (is_living s.kernel) u (status_at s u) (cell_at s (named_by q)) (use_at s q) (needs p)
      → MeetsAll (is_living v.kernel) u (status_at v u) (cell_at v (named_by q)) (use_at v q) (needs p)
  on_mutex q p w e h = subst (λ x. MeetsAll (is_living v.kernel) u x (cell_at v (named_by q)) (use_at v q) (needs p))
      (sym status)
      (all_outlive (is_living s.kernel) (is_living v.kernel) u (status_at s u) (cell_at s (named_by q))
      (cell_at v (named_by q)) (use_at s q) (use_at v q) (needs p) (k (named_by q) e).1 (grows uses q w) h)

  -- and one on a variable alone
  on_variable : (q : Request) (p : Place) → has_cond s (variable_of q) ≡ true → is_using p ≡ true
      → MeetsAll (is_living s.kernel) u (status_at s u) (cell_at s (named_by q)) (use_at s q) (needs p)
      → MeetsAll (is_living v.kernel) u (status_at v u) (cell_at v (named_by q)) (use_at v q) (needs p)
  on_variable q p w b h = subst (λ x. MeetsAll (is_living v.kernel) u x (cell_at v (named_by q)) (use_at v q) (needs p))
      (sym status)
      (using_needs (is_living s.kernel) (is_living v.kernel) u (status_at s u) (cell_at s (named_by q))
      (cell_at v (named_by q)) (use_at s q) (use_at v q) p b (grows uses q (inr w)) h)

  -- what a call rests on: one that names a mutex, a signal or a broadcast, or one that names neither
  needs_spared : (q : Request) (p : Place) → names_known (has_mutex s) (has_cond s) q ≡ true → belongs q p ≡ true
      → MeetsAll (is_living s.kernel) u (status_at s u) (cell_at s (named_by q)) (use_at s q) (needs p)
      → MeetsAll (is_living v.kernel) u (status_at v u) (cell_at v (named_by q)) (use_at v q) (needs p)
  needs_spared (Signal c) p n b h = on_variable (Signal c) p n b h
  needs_spared (Broadcast c) p n b h = on_variable (Broadcast c) p n b h
  needs_spared (SetPrio t r) p n b h =
      subst (λ x. MeetsAll (is_living v.kernel) u x (cell_at v 0) (use_at v (SetPrio t r)) (needs p)) (sym status)
      (unnamed_needs (is_living s.kernel) (is_living v.kernel) u t r (status_at s u) (cell_at s 0)
      (cell_at v 0) (use_at s (SetPrio t r)) (use_at v (SetPrio t r)) p b h)
  needs_spared q p n b h = on_mutex q p (variable_added (has_mutex s) (has_cond s) q n)
      (known_mutex (has_mutex s) (has_cond s) (named_by q) (names_of q).cond n) h

  -- what a call knows outlives what others change
  call_spared : (q : Request) (p : Place) → CallIsSound s u q p → CallIsSound v u q p
  call_spared q p h = record {
    named = names_kept (has_mutex s) (has_cond s) (has_mutex v) (has_cond v) (λ m e. (k m e).0) uses.has q h.named;
    belongs = h.belongs;
    needs = needs_spared q p h.named h.belongs h.needs;
  }

  -- what a line knows outlives what others change
  pub line_spared : (l : Line) → LineIsSound s u l → LineIsSound v u l
  line_spared Idle h = ap is_ready status ∙ h
  line_spared (At q p) h = call_spared q p h

-- a mutex that is held once is held as often as it may be, by whoever owns it
pub held_once : (kind : Kind) (owner count : ℕ) → count ≡ 1 → CountIsSound kind owner count
held_once kind owner count e = record { some = omega arith; few = omega arith; unowned = λ z. e; single = λ z. e }
