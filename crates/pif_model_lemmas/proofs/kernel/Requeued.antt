-- What words and kernel have at each place once a thread was taken from a variable, and once all were.
use Rattle.std.proofs.Common.{◌≡◌, ◌≢◌, ℕ, false, ◌==◌, nat_lt, length, refl, ap, ◌∙◌, if◌then◌else◌, length-set}
use Rattle.pif_model.specs.Word.{taken_word, mark_word, word_at, has_word}
use Rattle.pif_model.specs.PiKernel.{System, seat_at, parkings_without, top_parked, without_parking, after_taking, after_takings}
use Rattle.pif_model.specs.declared.lines.Woken.TheVariants.{Owns as WokenOwns, Again as WokenAgain}
use Rattle.pif_model_lemmas.proofs.kernel.Places.{queued_limits, queued_length, queued_seat_other}
use Rattle.pif_model_lemmas.proofs.kernel.Woken.{woken_limits, woken_length, woken_seat_other, woken_parked, requeued_parked}
use Rattle.pif_model_lemmas.proofs.kernel.Taken.{taking-cases, takings-keep}

-- ONE THREAD

module _ (u m : ℕ) (x : System) where
  -- the system after
  abbrev later : System
  later = after_taking u m x

  -- the number in the word of m
  abbrev number : ℕ
  number = (word_at x.words m).number

  -- the limits are what they were
  pub taking-limits : later.kernel.limits ≡ x.kernel.limits
  taking-limits = taking-cases u m x (λ y. y.kernel.limits ≡ x.kernel.limits)
      (λ e. woken_limits u WokenOwns x.kernel)
      (λ d e. queued_limits u m number (without_parking u x.kernel))
      (λ d e. woken_limits u WokenAgain x.kernel)

  -- as many threads
  pub taking-length : length later.kernel.seats ≡ length x.kernel.seats
  taking-length = taking-cases u m x (λ y. length y.kernel.seats ≡ length x.kernel.seats)
      (λ e. woken_length u WokenOwns x.kernel)
      (λ d e. queued_length u m number (without_parking u x.kernel))
      (λ d e. woken_length u WokenAgain x.kernel)

  -- the other threads are as they were
  pub taking-seat_other : (v : ℕ) → v ≢ u → seat_at later.kernel v ≡ seat_at x.kernel v
  taking-seat_other v n = taking-cases u m x (λ y. seat_at y.kernel v ≡ seat_at x.kernel v)
      (λ e. woken_seat_other u WokenOwns x.kernel v n)
      (λ d e. queued_seat_other u m number (without_parking u x.kernel) v n)
      (λ d e. woken_seat_other u WokenAgain x.kernel v n)

  -- u is not among the parked, and the others are as they were
  pub taking-parked : later.kernel.parked ≡ parkings_without x.kernel.parked u
  taking-parked = taking-cases u m x (λ y. y.kernel.parked ≡ parkings_without x.kernel.parked u)
      (λ e. woken_parked u WokenOwns x.kernel)
      (λ d e. requeued_parked u m number x.kernel)
      (λ d e. woken_parked u WokenAgain x.kernel)

  -- there are as many words
  pub taking-words : length later.words.mutexes ≡ length x.words.mutexes
  taking-words = taking-cases u m x (λ y. length y.words.mutexes ≡ length x.words.mutexes)
      (λ e. length-set x.words.mutexes m (taken_word u (word_at x.words m)))
      (λ d e. length-set x.words.mutexes m (mark_word (word_at x.words m)))
      (λ d e. refl)

  -- the same mutexes have a word
  pub taking-has_word : (i : ℕ) → has_word later.words i ≡ has_word x.words i
  taking-has_word i = ap (λ n. if i == 0 then false else nat_lt i n) taking-words

  -- health words are as they were
  pub taking-healths : later.words.healths ≡ x.words.healths
  taking-healths =
      taking-cases u m x (λ y. y.words.healths ≡ x.words.healths) (λ e. refl) (λ d e. refl) (λ d e. refl)

  -- and so are condition words
  pub taking-conds : later.words.conds ≡ x.words.conds
  taking-conds = taking-cases u m x (λ y. y.words.conds ≡ x.words.conds) (λ e. refl) (λ d e. refl) (λ d e. refl)

-- ALL OF THEM

-- what does not depend on who is taken
module _ (n c m : ℕ) (x : System) where
  -- the system after
  abbrev last : System
  last = after_takings n c m x

  -- the limits are what they were
  pub takings-limits : last.kernel.limits ≡ x.kernel.limits
  takings-limits = takings-keep (λ y. y.kernel.limits ≡ x.kernel.limits) c m
      (λ y e h. taking-limits (top_parked y.kernel c) m y ∙ h) n x refl

  -- as many threads
  pub takings-length : length last.kernel.seats ≡ length x.kernel.seats
  takings-length = takings-keep (λ y. length y.kernel.seats ≡ length x.kernel.seats) c m
      (λ y e h. taking-length (top_parked y.kernel c) m y ∙ h) n x refl

  -- there are as many words
  pub takings-words : length last.words.mutexes ≡ length x.words.mutexes
  takings-words = takings-keep (λ y. length y.words.mutexes ≡ length x.words.mutexes) c m
      (λ y e h. taking-words (top_parked y.kernel c) m y ∙ h) n x refl

  -- health words are as they were
  pub takings-healths : last.words.healths ≡ x.words.healths
  takings-healths = takings-keep (λ y. y.words.healths ≡ x.words.healths) c m
      (λ y e h. taking-healths (top_parked y.kernel c) m y ∙ h) n x refl

  -- and so are condition words
  pub takings-conds : last.words.conds ≡ x.words.conds
  takings-conds = takings-keep (λ y. y.words.conds ≡ x.words.conds) c m
      (λ y e h. taking-conds (top_parked y.kernel c) m y ∙ h) n x refl
