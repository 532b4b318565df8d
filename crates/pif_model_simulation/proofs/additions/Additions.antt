-- The empty table, which is sound and shows the empty world; and lists with one more.
use Rattle.std.proofs.Common.{◌≡◌, ◌≢◌, ◌⊎◌, inl, inr, ℕ, zero, suc, ◌<◌, ◌≤◌, ◌+◌, true, false, ◌==◌, nat_lt, List, [], ◌∷◌, ◌++◌, length, get_or, replicate, refl, sym, ◌∙◌, arith, if◌then◌else◌}
use Rattle.std.proofs.lemmas.Bool.{cases_lt, true≢false}
use Rattle.std.proofs.lemmas.Bool.Decides.{nat_tests}
use Rattle.std.proofs.lemmas.List.{length_push, get_or_append_left, get_or_past, get_or-replicate, length-replicate}
use Rattle.pif_types.specs.Bounds.{Bounds, IsWithin}
use Rattle.pif_types.specs.declared.requests.Kind.TheVariants.{Normal}
use Rattle.pif_model.specs.Word.{free_word, free_words, word_at, health_word_at}
use Rattle.pif_model.specs.RobustList.{no_robust_row}
use Rattle.pif_model.specs.PiKernel.{new_kernel}
use Rattle.pif_model.specs.declared.lines.Line.TheVariants.{Idle}
use Rattle.pif_model.specs.Posix.{empty_world, nobody, no_mutex, no_variable, thread_at}
use Rattle.pif_model.specs.Table.{new_table}
use Rattle.pif_model.specs.Projection.{no_history_variables, health_of, places, mutex_shown, world_of}
use Rattle.pif_model.specs.Soundness.{IsShaped, IsSound}
use Rattle.pif_model_lemmas.proofs.Numbers.{above_0, below}
use Rattle.pif_model_lemmas.proofs.kernel.Facts.{living-added}
use Rattle.pif_model_lemmas.proofs.kernel.Kept.{new_kernel_kept}
use Rattle.pif_model_simulation.proofs.Shown.{threads_shown, mutexes_shown, mutex_seen, same_world}

-- THE EMPTY TABLE

-- no number is above 0 and below 1
none_below_1 : (t : ℕ) → (if t == 0 then false else nat_lt t 1) ≡ true → ⊥
none_below_1 t h = above_0 t 1 h (let b = below t 1 h in omega arith)

-- what stands at each place at first
all_same : {A : Type 0} (n m : ℕ) (x : A) → get_or (replicate n x) m x ≡ x
all_same n m x = go (cases_lt m n)
  where
    go : (m < n) ⊎ (n ≤ m) → get_or (replicate n x) m x ≡ x
    go (inl l) = get_or-replicate n m x x l
    go (inr k) = get_or_past (replicate n x) m x (omega (arith, length-replicate n x))

-- nobody has a line at first
no_line : (t : ℕ) → get_or (Idle ∷ []) t Idle ≡ Idle
no_line zero = refl
no_line (suc t) = refl

-- a core to which nothing was added is sound
pub new_sound : (l : Bounds) → IsWithin l → IsSound (new_table l)
new_sound l within = record {
  all = record {
    shape = record {
      limits = refl;
      within = within;
      lines = refl;
      timers = refl;
      nobody = refl;
      lists = length-replicate (l.threads + 1) no_robust_row;
      some_mutex = omega arith;
      few_mutexes = omega arith;
      no_mutex = refl;
      words = length-replicate (l.mutexes + 1) free_word;
      healths = length-replicate (l.mutexes + 1) 0;
      no_word = all_same (l.mutexes + 1) 0 free_word;
      no_health = all_same (l.mutexes + 1) 0 0;
      unmade = λ m e. (all_same (l.mutexes + 1) m free_word, all_same (l.mutexes + 1) m 0, refl);
      some_cond = omega arith;
      few_conds = omega arith;
      no_cond = refl;
      cond_words = length-replicate (l.conds + 1) 0;
      no_cond_word = all_same (l.conds + 1) 0 0;
      unmade_conds = λ c e. all_same (l.conds + 1) c 0;
    };
    mutexes = λ m e. absurd (none_below_1 m e);
    conds = λ c e. absurd (none_below_1 c e);
    targets = λ c m e. absurd (true≢false (sym e));
    alive = λ m e. absurd (none_below_1 m e);
    threads = λ t e out. absurd (none_below_1 t (living-added (new_kernel l) t e));
    absent = λ t e out. record { line = no_line t; list = all_same (l.threads + 1) t no_robust_row };
  };
  kernel = new_kernel_kept l;
}

-- it shows the state in which nothing was added
pub new_seen : (l : Bounds) → IsWithin l → world_of (new_table l) no_history_variables ≡ empty_world l.signals
unfolding places
new_seen l within = same_world (world_of (new_table l) no_history_variables) (empty_world l.signals)
    (threads_shown shape no_history_variables) (λ t i. first_thread t i)
    (mutexes_shown shape no_history_variables) (λ m. mutex_seen shape no_history_variables m ∙ first_mutex m) first_variable refl refl refl
  where
    shape : IsShaped (new_table l)
    shape = (new_sound l within).all.shape

    first_thread : (t : ℕ) → t < length (world_of (new_table l) no_history_variables).threads
        → thread_at (world_of (new_table l) no_history_variables) t ≡ get_or (nobody ∷ []) t nobody
    first_thread zero e = refl
    first_thread (suc t) e = absurd (omega (arith, e, threads_shown shape no_history_variables))

    first_variable : (world_of (new_table l) no_history_variables).variables ≡ no_variable ∷ []
    first_variable = λ i. record { mutex = 0; uses = all_same (l.conds + 1) 0 0 i } ∷ []

    at_first : (m : ℕ) → record {
      kind = Normal;
      robust = false;
      owner = (word_at (free_words l) m).number;
      count = 1;
      health = health_of (health_word_at (free_words l) m) (word_at (free_words l) m).died;
    } ≡ no_mutex
    at_first m =
        let w = all_same (l.mutexes + 1) m free_word in
        let h = all_same (l.mutexes + 1) m 0 in
        (λ i. record {
          kind = Normal;
          robust = false;
          owner = (w i).number;
          count = 1;
          health = health_of (h i)
              (w i).died;
        })

    first_mutex : (m : ℕ) → mutex_shown (new_table l) m ≡ get_or (no_mutex ∷ []) m no_mutex
    first_mutex zero = at_first 0
    first_mutex (suc m) = at_first (suc m)

-- ONE MORE

-- what stands at another place than the last of a list with one more
pub pushed_else : {A : Type 0} (l : List A) (a d : A) (n : ℕ) → n ≢ length l → get_or (l ++ a ∷ []) n d ≡ get_or l n d
pushed_else l a d n e = go (cases_lt n (length l))
  where
    go : (n < length l) ⊎ (length l ≤ n) → get_or (l ++ a ∷ []) n d ≡ get_or l n d
    go (inl k) = get_or_append_left l (a ∷ []) d n k
    go (inr k) = get_or_past (l ++ a ∷ []) n d (let f : n ≢ length l = e in omega (arith, length_push l a))
        ∙ sym (get_or_past l n d k)

-- the test of a number with one more is the same but at that one
pub more-else : (t n : ℕ) → t ≢ n → (if t == 0 then false else nat_lt t (n + 1))
    ≡ (if t == 0 then false else nat_lt t n)
more-else t n e = grind (arith, nat_tests)

-- there is room below a limit
pub room : (n l : ℕ) → (if nat_lt l n then false else true) ≡ true → n ≤ l
room n l h = grind (arith, nat_tests)
