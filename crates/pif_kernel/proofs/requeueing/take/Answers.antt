use Rattle.std.proofs.Common.{◌≡◌, ℕ, sym, ap, ◌∙◌, arith}
use Rattle.pif_model.specs.declared.lines.Status.TheVariants.{Parked}
use Rattle.pif_model.specs.Word.{Words, word_at, set_word, taken_word, mark_word}
use Rattle.pif_model.specs.PiKernel.{Kernel, System, seat_at, is_living, may_queue, without_parking, kernel_after_queueing}
use Rattle.pif_model_lemmas.proofs.kernel.Taken.{may_queue-facts}
use Rattle.pif_word.specs.WordMap.{words_of}
use Rattle.pif_kernel_model.specs.Inside.{kernel_of}
use Rattle.pif_kernel.specs.Systems.{system_of}
use Rattle.pif_kernel.proofs.Answering.{word_seen, number_seen, none_zero, some_value, words_stored}
use Rattle.pif_kernel_model.proofs.CallFacts.{number_below}
use Rattle.pif_kernel_model.proofs.WakeSound.{parked_somewhere, parked_added}
use Rattle.pif_kernel.proofs.TakingSound.{taking_owns, taking_queues, taking_again, again_added, again_ready, again_lives, again_state, again_unreached, again_queued}
use Rattle.pif_kernel.proofs.requeueing.take.Goals.{Start, After-new}
use Rattle.pif_kernel.proofs.requeueing.take.Goals as goal

-- on which variable it is parked
on : (g : _) (c : Start g) → (n : ℕ) × ((seat_at (kernel_of c.args.parts.now) c.args.u).status ≡ Parked n)
on g c = parked_somewhere (seat_at (kernel_of c.args.parts.now) c.args.u).status c.requires.parked

-- the number in the word
number : (g : _) (c : After-new g) → (word_at (words_of c.args.words.now) c.args.m).number ≡ c.number.result
number g c =
    number_seen c.args.words.now c.args.m c.load-word.result c.number.result c.load-word.ensures.value
    c.number.ensures.value

pub taken_word-requires : goal.taken_word-requires
taken_word-requires g c =
    omega (
      arith,
      c.get.ensures.value,
      number_below c.args.parts.now c.requires.sound c.args.u
          (parked_added c.args.parts.now c.args.u c.requires.sound c.requires.parked),
    )

pub queue_on-requires-clause-added : goal.queue_on-requires-clause-added
queue_on-requires-clause-added g c =
    let d = on g (goal.at.queue_on-requires-clause-added g c).Start in
    again_added c.args.words.now c.args.parts.now c.requires.sound c.args.u d.0 c.args.m d.1 c.wake-in-Some.new.self
    c.wake-in-Some.ensures.after

pub queue_on-requires-clause-ready : goal.queue_on-requires-clause-ready
queue_on-requires-clause-ready g c =
    let d = on g (goal.at.queue_on-requires-clause-ready g c).Start in
    again_ready c.args.words.now c.args.parts.now c.requires.sound c.args.u d.0 c.args.m d.1 c.wake-in-Some.new.self
    c.wake-in-Some.ensures.after

pub queue_on-requires-clause-living : goal.queue_on-requires-clause-living
queue_on-requires-clause-living g c =
    let d = on g (goal.at.queue_on-requires-clause-living g c).Start in
    again_lives c.args.words.now c.args.parts.now c.requires.sound c.args.u d.0 c.args.m d.1 c.wake-in-Some.new.self
    c.wake-in-Some.ensures.after c.in-Some.owner
    (may_queue-facts c.args.u c.in-Some.owner (kernel_of c.args.parts.now)
    (sym c.may_queue.ensures ∙ c.if-may_queue.true)).0

pub queue_on-requires-clause-unreached : goal.queue_on-requires-clause-unreached
queue_on-requires-clause-unreached g c =
    let d = on g (goal.at.queue_on-requires-clause-unreached g c).Start in
    again_unreached c.args.words.now c.args.parts.now c.requires.sound c.args.u d.0 c.args.m d.1
    c.wake-in-Some.new.self c.wake-in-Some.ensures.after c.in-Some.owner
    (may_queue-facts c.args.u c.in-Some.owner (kernel_of c.args.parts.now)
    (sym c.may_queue.ensures ∙ c.if-may_queue.true)).1

pub queue_on-requires-clause-state : goal.queue_on-requires-clause-state
queue_on-requires-clause-state g c =
    let a = goal.at.queue_on-requires-clause-state g c in
    let d = on g a.Start in
    let k : Kernel = kernel_of c.args.parts.now in
    let v
    = some_value c.new.result c.number.result c.in-Some.owner c.in-Some.is c.new.ensures.valid c.new.ensures.value in
    let same : (word_at (words_of c.args.words.now) c.args.m).number ≡ c.in-Some.owner = number g a.After-new ∙ sym v.0 in
    again_state c.args.words.now c.args.parts.now c.requires.sound c.args.u d.0 c.args.m d.1 c.wake-in-Some.new.self
    c.wake-in-Some.ensures.after c.in-Some.owner
    (λ z. c.requires.fits.owner z
    (ap (is_living k) same
    ∙ (may_queue-facts c.args.u c.in-Some.owner k (sym c.may_queue.ensures ∙ c.if-may_queue.true)).0) ∙ same)

pub returns-in-None-clause-after : goal.returns-in-None-clause-after
returns-in-None-clause-after g c =
    let a = goal.at.returns-in-None-clause-after g c in
    let ws : Words = words_of c.args.words.now in
    let w : words_of c.store.new.self ≡ set_word ws c.args.m (taken_word c.args.u (word_at ws c.args.m))
    = words_stored c.args.words.now c.store.new.self c.args.m c.taken_word.result c.store.ensures.stored
    ∙ ap (set_word ws c.args.m) (c.taken_word.ensures
    ∙ (λ i. taken_word (c.get.ensures.value i)
    (sym (word_seen c.args.words.now c.args.m c.load-word.result c.load-word.ensures.value) i))) in
    let both : Words → Kernel → System = λ x y. record { words = x; kernel = y } in
    (λ i. both (w i) (c.wake.ensures.after i))
    ∙ sym (taking_owns c.args.u c.args.m (system_of c.args.words.now c.args.parts.now)
    (number g a.After-new ∙ none_zero c.new.result c.number.result c.in-None.is c.new.ensures.valid))

pub returns-in-Some-clause-after : goal.returns-in-Some-clause-after
returns-in-Some-clause-after g c =
    let a = goal.at.returns-in-Some-clause-after g c in
    let d = on g a.Start in
    let ws : Words = words_of c.args.words.now in
    let k : Kernel = kernel_of c.args.parts.now in
    let v
    = some_value c.new.result c.number.result c.in-Some.owner c.in-Some.is c.new.ensures.valid c.new.ensures.value in
    let same : (word_at ws c.args.m).number ≡ c.in-Some.owner = number g a.After-new ∙ sym v.0 in
    let w : words_of c.store-in-Some.new.self ≡ set_word ws c.args.m (mark_word (word_at ws c.args.m))
    = words_stored c.args.words.now c.store-in-Some.new.self c.args.m c.mark_word.result c.store-in-Some.ensures.stored
    ∙ ap (set_word ws c.args.m) (c.mark_word.ensures
    ∙ ap mark_word (sym (word_seen c.args.words.now c.args.m c.load-word.result c.load-word.ensures.value))) in
    let after
    = c.queue_on.ensures.after
    ∙ again_queued c.args.words.now c.args.parts.now c.requires.sound c.args.u d.0 c.args.m d.1 c.wake-in-Some.new.self
    c.wake-in-Some.ensures.after c.in-Some.owner
    ∙ ap (λ (n : ℕ). kernel_after_queueing c.args.u c.args.m n (without_parking c.args.u k)) (sym same) in
    let both : Words → Kernel → System = λ x y. record { words = x; kernel = y } in
    (λ i. both (w i) (after i))
    ∙ sym (taking_queues c.args.u c.args.m (system_of c.args.words.now c.args.parts.now)
    (λ z. absurd (omega (arith, v.1, v.0, same, z)))
    (ap (λ (n : ℕ). may_queue c.args.u n k) same ∙ sym c.may_queue.ensures ∙ c.if-may_queue.true))

pub returns-in-Some-2-clause-after : goal.returns-in-Some-2-clause-after
returns-in-Some-2-clause-after g c =
    let a = goal.at.returns-in-Some-2-clause-after g c in
    let ws : Words = words_of c.args.words.now in
    let k : Kernel = kernel_of c.args.parts.now in
    let v
    = some_value c.new.result c.number.result c.in-Some.owner c.in-Some.is c.new.ensures.valid c.new.ensures.value in
    let same : (word_at ws c.args.m).number ≡ c.in-Some.owner = number g a.After-new ∙ sym v.0 in
    let both : Words → Kernel → System = λ x y. record { words = x; kernel = y } in
    ap (both ws) c.wake-in-Some-2.ensures.after
    ∙ sym (taking_again c.args.u c.args.m (system_of c.args.words.now c.args.parts.now)
    (λ z. absurd (omega (arith, v.1, v.0, same, z)))
    (ap (λ (n : ℕ). may_queue c.args.u n k) same ∙ sym c.may_queue.ensures ∙ c.if-may_queue.false))
