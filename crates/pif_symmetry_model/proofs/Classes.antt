-- States that are the same but for names make up classes: each is like itself, it goes back and on.
use Rattle.std.proofs.Common.{ℕ, ◌≡◌, ◌<◌, ◌∙◌, List, [], ◌∷◌, map, Option, Some, None, refl, sym, ap, subst}
use Rattle.pif_types.specs.declared.requests.Request.{Request}
use Rattle.pif_types.specs.declared.requests.Request.TheVariants.{SetPrio}
use Rattle.pif_model.specs.Posix.{World, Thread, Call, thread_at}
use Rattle.pif_symmetry_model.specs.Renaming.{IsRenamed, Mirrors, renamed_request, renamed_call, renamed_mutex, renamed_waiter, is_wait_among}

-- LISTS

-- two maps, one after the other, that are one
pub map_both : {A B C : Type 0} (h : B → C) (k : A → B) (g : A → C) → ((x : A) → h (k x) ≡ g x) → (xs : List A) → map h (map k xs) ≡ map g xs
map_both h k g e [] = refl
map_both h k g e (x ∷ xs) = λ i. e x i ∷ map_both h k g e xs i

pub map_none : {A : Type 0} (g : A → A) → ((x : A) → g x ≡ x) → (xs : List A) → map g xs ≡ xs
map_none g e [] = refl
map_none g e (x ∷ xs) = λ i. e x i ∷ map_none g e xs i

-- CALLS

pub request_both : (f g : ℕ → ℕ) (q : Request) → renamed_request g (renamed_request f q) ≡ renamed_request (λ t. g (f t)) q
request_both f g (SetPrio t p) = refl
request_both f g q = refl

call_both : (f g : ℕ → ℕ) (c : Option Call) → renamed_call g (renamed_call f c) ≡ renamed_call (λ t. g (f t)) c
call_both f g None = refl
call_both f g (Some x) = λ i. Some (record { request = request_both f g x.request i; progress = x.progress })

-- names that stay
pub request_none : (f : ℕ → ℕ) → ((t : ℕ) → f t ≡ t) → (q : Request) → renamed_request f q ≡ q
request_none f e (SetPrio t p) = λ i. SetPrio (e t i) p
request_none f e q = refl

call_none : (f : ℕ → ℕ) → ((t : ℕ) → f t ≡ t) → (c : Option Call) → renamed_call f c ≡ c
call_none f e None = refl
call_none f e (Some x) = λ i. Some (record { request = request_none f e x.request i; progress = x.progress })

-- EACH IS LIKE ITSELF

pub mirrors_itself : (w : World) → Mirrors (λ t. t) w w
mirrors_itself w = record {
  renaming = record {
    back = λ t. t;
    there = λ t. refl;
    again = λ t. refl;
    nobody = refl;
    below = λ t l. l;
    back_below = λ t l. l;
  };
  thread = λ t. record {
    base = refl;
    living = refl;
    call = sym (call_none (λ z. z) (λ z. refl) (thread_at w t).call);
    timer = refl;
    waits = refl;
    found = λ u wait. refl;
  };
  threads = refl;
  mutexes = sym (map_none (renamed_mutex (λ t. t)) (λ x. refl) w.mutexes);
  waiters = sym (map_none (renamed_waiter (λ t. t)) (λ x. refl) w.waiters);
  variables = refl;
  signals = refl;
  time = refl;
}

-- IT GOES BACK

module _ (f : ℕ → ℕ) (w v : World) (a : Mirrors f w v) where
  abbrev back : ℕ → ℕ
  back = a.renaming.back

  thread_back : (x y : Thread) → IsRenamed f x y → IsRenamed back y x
  thread_back x y e = record {
    base = sym e.base;
    living = sym e.living;
    call = sym (ap (renamed_call back) e.call ∙ call_both f back x.call ∙ call_none (λ t. back (f t)) a.renaming.there x.call);
    timer = sym e.timer;
    waits = sym e.waits;
    found = λ u wait. sym (e.found (back u) wait) ∙ ap (λ z. is_wait_among y.memory.found z wait) (a.renaming.again u);
  }

  pub mirrors_back : Mirrors back v w
  mirrors_back = record {
    renaming = record {
      back = f;
      there = a.renaming.again;
      again = a.renaming.there;
      nobody = ap back (sym a.renaming.nobody) ∙ a.renaming.there 0;
      below = λ t l. subst (λ n. back t < n) (sym a.threads) (a.renaming.back_below t (subst (λ n. t < n) a.threads l));
      back_below = λ t l. subst (λ n. f t < n) (sym a.threads) (a.renaming.below t (subst (λ n. t < n) a.threads l));
    };
    thread = λ t. thread_back (thread_at w (back t)) (thread_at v t)
        (subst (λ z. IsRenamed f (thread_at w (back t)) (thread_at v z)) (a.renaming.again t) (a.thread (back t)));
    threads = sym a.threads;
    mutexes = sym (ap (map (renamed_mutex back)) a.mutexes
        ∙ map_both (renamed_mutex back) (renamed_mutex f) (λ x. x) (λ x i. record x { owner = a.renaming.there x.owner i }) w.mutexes
        ∙ map_none (λ x. x) (λ x. refl) w.mutexes);
    waiters = sym (ap (map (renamed_waiter back)) a.waiters
        ∙ map_both (renamed_waiter back) (renamed_waiter f) (λ x. x) (λ x i. (a.renaming.there x.0 i, x.1)) w.waiters
        ∙ map_none (λ x. x) (λ x. refl) w.waiters);
    variables = sym a.variables;
    signals = sym a.signals;
    time = sym a.time;
  }

-- IT GOES ON

pub mirrors_on : (f g : ℕ → ℕ) (w v u : World) → Mirrors f w v → Mirrors g v u → Mirrors (λ t. g (f t)) w u
mirrors_on f g w v u a b = record {
  renaming = record {
    back = λ t. a.renaming.back (b.renaming.back t);
    there = λ t. ap a.renaming.back (b.renaming.there (f t)) ∙ a.renaming.there t;
    again = λ t. ap g (a.renaming.again (b.renaming.back t)) ∙ b.renaming.again t;
    nobody = ap g a.renaming.nobody ∙ b.renaming.nobody;
    below = λ t l. subst (λ n. g (f t) < n) a.threads (b.renaming.below (f t) (subst (λ n. f t < n) (sym a.threads) (a.renaming.below t l)));
    back_below = λ t l. a.renaming.back_below (b.renaming.back t)
        (subst (λ n. b.renaming.back t < n) a.threads (b.renaming.back_below t (subst (λ n. t < n) (sym a.threads) l)));
  };
  thread = λ t. record {
    base = (b.thread (f t)).base ∙ (a.thread t).base;
    living = (b.thread (f t)).living ∙ (a.thread t).living;
    call = (b.thread (f t)).call ∙ ap (renamed_call g) (a.thread t).call ∙ call_both f g (thread_at w t).call;
    timer = (b.thread (f t)).timer ∙ (a.thread t).timer;
    waits = (b.thread (f t)).waits ∙ (a.thread t).waits;
    found = λ x wait. (b.thread (f t)).found (f x) wait ∙ (a.thread t).found x wait;
  };
  threads = b.threads ∙ a.threads;
  mutexes = b.mutexes ∙ ap (map (renamed_mutex g)) a.mutexes
      ∙ map_both (renamed_mutex g) (renamed_mutex f) (renamed_mutex (λ t. g (f t))) (λ x. refl) w.mutexes;
  waiters = b.waiters ∙ ap (map (renamed_waiter g)) a.waiters
      ∙ map_both (renamed_waiter g) (renamed_waiter f) (renamed_waiter (λ t. g (f t))) (λ x. refl) w.waiters;
  variables = b.variables ∙ a.variables;
  signals = b.signals ∙ a.signals;
  time = b.time ∙ a.time;
}
