-- One condition variable more: the table stays sound, and the POSIX machine gets the same variable.
use Rattle.std.proofs.Common.{◌≡◌, ◌≢◌, ◌⊎◌, inl, inr, ℕ, ◌≤◌, ◌+◌, true, false, ◌==◌, nat_lt, [], ◌∷◌, ◌++◌, length, get_or, refl, sym, ap, ◌∙◌, subst, arith, if◌then◌else◌}
use Rattle.std.proofs.lemmas.Bool.{cases_eq}
use Rattle.std.proofs.lemmas.List.{length_push, get_or_push, ext_get_or}
use Rattle.pif_model.specs.declared.events.Entry.TheVariants.{Cond as AddCond}
use Rattle.pif_model.specs.Posix.{Variable, no_variable}
use Rattle.pif_model.specs.Posix.Step.{cond_added as cond_rule}
use Rattle.pif_model.specs.PiKernel.{is_living}
use Rattle.pif_model.specs.Table.{Table, has_mutex, has_cond, bound_to, uses_of, has_cond_room, cond_added, line_at, cell_at}
use Rattle.pif_model.specs.Projection.{HistoryVariables, variable_shown, world_of}
use Rattle.pif_model.specs.Soundness.{CondIsSound, IsShaped, IsSound}
use Rattle.pif_model_lemmas.proofs.Numbers.{below}
use Rattle.pif_model_simulation.proofs.Kept.{Uses, unwritten, line_spared}
use Rattle.pif_model_simulation.proofs.WeakenedInvariant.{aims, each_thread, each_absent}
use Rattle.pif_model_simulation.proofs.Shown.{variables_shown, variable_seen, is_mutex_seen}
use Rattle.pif_model_simulation.proofs.Steps.{Keeps}
use Rattle.pif_model_simulation.proofs.Agreement.{frames_alike, framed}
use Rattle.pif_model_simulation.proofs.additions.Additions.{pushed_else, more-else, room}
use Rattle.pif_model_simulation.proofs.conditions.Aims.{parked-from_aim, cond-from_parked}

module _ (s : Table) (m : ℕ) (h : IsSound s) (named : has_mutex s m ≡ true) (free : has_cond_room s ≡ true) where
  abbrev n : ℕ
  n = length s.conds

  abbrev v : Table
  v = cond_added m s

  -- to which mutex the others are bound, and the new one
  bound_else : (c : ℕ) → c ≢ n → bound_to v c ≡ bound_to s c
  bound_else c d = pushed_else s.conds m 0 c d

  bound_new : bound_to v n ≡ m
  bound_new = get_or_push s.conds m 0 n refl

  -- the same variables are there
  still : (c : ℕ) → c ≢ n → has_cond v c ≡ has_cond s c
  still c d = ap (λ a. if c == 0 then false else nat_lt c a) (length_push s.conds m) ∙ more-else c n d

  -- a variable that was added is another
  another : (c : ℕ) → has_cond s c ≡ true → c ≢ n
  another c e q = absurd (let l = below c n e in omega (arith, l, q))

  -- and so is place 0
  none_new : (c : ℕ) → c ≡ 0 → c ≢ n
  none_new c e q = absurd (let l = h.all.shape.some_cond in omega (arith, l, q, e))

  -- what calls have of their variables is the same
  same_uses : Uses s v
  same_uses = record {
    has = λ c e. still c (another c e) ∙ e;
    bound = bound;
    uses = λ c. omega arith;
    signals = refl;
  }
    where
      bound : (c : ℕ) → (c ≡ 0) ⊎ (has_cond s c ≡ true) → bound_to v c ≡ bound_to s c
      bound c (inl e) = bound_else c (none_new c e)
      bound c (inr e) = bound_else c (another c e)

  -- each variable is sound
  cond_more : (c : ℕ) → has_cond v c ≡ true → (c ≡ n) ⊎ (c ≢ n) → CondIsSound v c
  cond_more c e (inl q) = subst (CondIsSound v) (sym q) (record {
    bound = ap (has_mutex s) bound_new ∙ named;
    uses = subst (λ j. j ≤ s.limits.signals) (sym (h.all.shape.unmade_conds n (omega arith))) (omega arith);
  })
  cond_more c e (inr d) =
      let b = h.all.conds c (sym (still c d) ∙ e) in
      record { bound = ap (has_mutex s) (bound_else c d) ∙ b.bound; uses = b.uses }

  -- nobody is parked on the new one
  targets : (c j : ℕ) → aims s.kernel c j ≡ true → bound_to v c ≡ j
  targets c j e = bound_else c (another c (cond-from_parked h c (parked-from_aim s.kernel.parked c j e)))
      ∙ h.all.targets c j e

  -- the parts fit together
  shape_more : IsShaped v
  shape_more =
      let b = h.all.shape in
      let long = length_push s.conds m in
      record {
        limits = b.limits;
        within = b.within;
        lines = b.lines;
        timers = b.timers;
        nobody = b.nobody;
        lists = b.lists;
        some_mutex = b.some_mutex;
        few_mutexes = b.few_mutexes;
        no_mutex = b.no_mutex;
        words = b.words;
        healths = b.healths;
        no_word = b.no_word;
        no_health = b.no_health;
        unmade = b.unmade;
        some_cond = omega (arith, long);
        few_conds = (let r = room n s.limits.conds free in omega (arith, long, r));
        no_cond = bound_else 0 (none_new 0 refl) ∙ b.no_cond;
        cond_words = b.cond_words;
        no_cond_word = b.no_cond_word;
        unmade_conds = λ c e. b.unmade_conds c (omega (arith, e, long));
      }

  -- the table is sound
  pub cond_added_sound : IsSound v
  cond_added_sound = record {
    all = record {
      shape = shape_more;
      mutexes = λ j e. (let b = h.all.mutexes j e in record {
        count = b.count;
        stalled = b.stalled;
        owner = b.owner;
        free = b.free;
        clean = b.clean;
        state = b.state;
        contended = b.contended;
      });
      conds = λ c e. cond_more c e (cases_eq c n);
      targets = targets;
      alive = h.all.alive;
      threads = λ u e out. (let b = each_thread h u e in record {
        line = line_spared s v u refl same_uses
            (λ j i. (i, unwritten (is_living s.kernel) u (cell_at s j) (cell_at v j) refl)) (line_at s u) b.line;
        queue = b.queue;
        parked = b.parked;
        list = record { pending = b.list.pending; half_linked = b.list.half_linked; listed = b.list.listed };
        settled = b.settled;
      });
      absent = λ u e out. (let b = each_absent h u e in record { line = b.line; list = b.list });
    };
    kernel = h.kernel;
  }

  -- the world with one variable more
  abbrev new_one : Variable
  new_one = record { mutex = m; uses = 0 }

  pub cond_added_seen : (y : HistoryVariables) → world_of v y ≡ record (world_of s y)
      { variables = (world_of s y).variables ++ new_one ∷ [] }
  cond_added_seen y = λ i. record (world_of s y) { variables = all i }
    where
      long : length (world_of s y).variables ≡ n
      long = variables_shown h.all.shape y

      each : (c : ℕ) → (c ≡ n) ⊎ (c ≢ n)
          → variable_shown v c ≡ get_or ((world_of s y).variables ++ new_one ∷ []) c no_variable
      each c (inl e) = subst (λ j. variable_shown v j
          ≡ get_or ((world_of s y).variables ++ new_one ∷ []) j no_variable) (sym e)
          ((λ i. record { mutex = bound_new i; uses = h.all.shape.unmade_conds n (omega arith) i })
          ∙ sym (get_or_push (world_of s y).variables new_one no_variable n long))
      each c (inr d) = (λ i. record { mutex = bound_else c d i; uses = uses_of s c })
          ∙ sym (pushed_else (world_of s y).variables new_one no_variable c (λ e. d (e ∙ long))
          ∙ variable_seen h.all.shape y c)

      all : (world_of v y).variables ≡ (world_of s y).variables ++ new_one ∷ []
      all = ext_get_or no_variable (world_of v y).variables ((world_of s y).variables ++ new_one ∷ [])
          (variables_shown shape_more y ∙ length_push s.conds m
          ∙ sym (length_push (world_of s y).variables new_one ∙ ap (λ j. j + 1) long))
          (λ c i. variable_seen shape_more y c ∙ each c (cases_eq c n))

  -- to add a variable is an entry of the POSIX machine, and keeps the invariant
  pub cond_added_kept : Keeps s (AddCond n m) v
  cond_added_kept = record {
    sound = cond_added_sound;
    limits = refl;
    shows = λ y a. (
      y,
      framed (frames_alike s v refl (λ u. refl) (λ u. refl) (λ u. refl)) y a,
      cond_rule n m refl (is_mutex_seen h.all.shape y m ∙ named) (sym (variables_shown h.all.shape y))
          (room n s.limits.conds free) (cond_added_seen y),
    );
  }
