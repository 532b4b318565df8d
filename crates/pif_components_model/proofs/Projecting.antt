-- A step of the machine that is searched is a step of the part of its side, and leaves the part of the other side.
use Rattle.std.proofs.Common.{ℕ, ◌≡◌, ◌∙◌, true, false, refl, sym, ap, subst}
use Rattle.pif_types.specs.Bounds.{Bounds}
use Rattle.pif_model.specs.declared.events.Event.TheVariants as event
use Rattle.pif_model.specs.declared.events.Seen.TheVariants as seen
use Rattle.pif_model.specs.declared.events.Entry.TheVariants as entry
use Rattle.pif_history_model.specs.declared.lines.Line.{Line}
use Rattle.pif_history_model.specs.declared.lines.Line.TheVariants.{End}
use Rattle.pif_history_model.specs.declared.labels.Label.{Label}
use Rattle.pif_history_model.specs.declared.labels.Label.TheVariants.{Shown}
use Rattle.pif_history_model.specs.Lines.{dying_after}
use Rattle.pif_history_model.specs.Plain.{PlainConfiguration, PlainAdvances}
use Rattle.pif_history_model.specs.Plain.PlainAdvances.{moves, ends, enters, sees, has_ended}
use Rattle.pif_history_model.specs.Shown.{IsSeen}
use Rattle.pif_history_model.specs.Shown.IsSeen.{rests as sees_rest, prio as sees_prio, dying as sees_dying}
use Rattle.pif_components_model.specs.Components.{Side, keeps, BeginsBeside}
use Rattle.pif_components_model.specs.Components.Name.{OfThread}
use Rattle.pif_components_model.specs.Sides.{IsPart, LineBeside, steps_on}
use Rattle.pif_components_model.proofs.Frames.{agrees_then, agrees_back}
use Rattle.pif_components_model.proofs.FramedMoves.{passes_move}
use Rattle.pif_components_model.proofs.Reading.{effective_same, living_same}
use Rattle.pif_components_model.proofs.Echoes.{echo_move}
use Rattle.pif_components_model.proofs.Entries.{rests_same}
use Rattle.pif_components_model.proofs.Entering.{split_entry, frame_entry, echo_entry}
use Rattle.pif_components_model.proofs.Steps.{kept, entry_beside, line_among_same, dying_same, dying_apart}

-- the end of a thread begins no call
end_beside : (x : Side) (t : ℕ) → BeginsBeside x (entry.Step (event.End t) seen.Ended)
end_beside x t = λ u q is. absurd (cc)

-- the part has the step too, and is the part behind it
pub record PartSteps (x : Side) (l : Bounds) (p : PlainConfiguration) (y : Label) (n : PlainConfiguration) : Type 0 where
  pub next : PlainConfiguration
  pub step : PlainAdvances l p y next
  pub part : IsPart x n next

module _ (x : Side) (l : Bounds) (s p : PlainConfiguration) (h : IsPart x s p) where
  -- what a line tells of a thread of the side it tells of the part
  seen_same : (k : Line) → keeps x k ≡ true → IsSeen k s.world → IsSeen k p.world
  seen_same k on (sees_rest t e lives rest) =
      let mine : x (OfThread t) ≡ true = sym (ap (keeps x) e) ∙ on in
      sees_rest t e (living_same x s.world p.world h.split h.apart h.agrees t mine ∙ lives) (rests_same x s.world p.world h.agrees t mine ∙ rest)
  seen_same k on (sees_prio t n e lives num) =
      let mine : x (OfThread t) ≡ true = sym (ap (keeps x) e) ∙ on in
      sees_prio t n e (living_same x s.world p.world h.split h.apart h.agrees t mine ∙ lives)
      (effective_same x s.world p.world h.split h.apart h.agrees t mine ∙ num)
  seen_same k on (sees_dying t e lives) =
      let mine : x (OfThread t) ≡ true = sym (ap (keeps x) e) ∙ on in
      sees_dying t e (living_same x s.world p.world h.split h.apart h.agrees t mine ∙ lives)

  -- a step of the side
  pub part_steps : (y : Label) (n : PlainConfiguration) → ((k : Line) → y ≡ Shown k → LineBeside x k) → steps_on x y ≡ true
      → PlainAdvances l s y n → PartSteps x l p y n
  part_steps y n b on (moves t v is move e) =
      let mine : x (OfThread t) ≡ true = sym (ap (steps_on x) is) ∙ on in
      let f = echo_move x s.world p.world h.split h.apart h.agrees t mine move in
      record {
        next = record p { world = f.after };
        step = moves t f.after is f.step refl;
        part = subst (λ (z : PlainConfiguration). IsPart x z (record p { world = f.after })) (sym e) (record {
          agrees = f.agrees;
          split = (passes_move x t s.world h.split move).split;
          apart = (passes_move x t p.world h.apart f.step).split;
          dying = h.dying;
        });
      }
  part_steps y n b on (ends t v is among end e) =
      let mine : x (OfThread t) ≡ true = sym (ap (steps_on x) is) ∙ on in
      let f = echo_entry x l s.world p.world v h.split h.apart h.agrees _ (end_beside x t) mine end in
      record {
        next = record p { world = f.after };
        step = ends t f.after is (h.dying t mine ∙ among) f.step refl;
        part = subst (λ (z : PlainConfiguration). IsPart x z (record p { world = f.after })) (sym e) (record {
          agrees = f.agrees;
          split = split_entry x l s.world v _ h.split (end_beside x t) end;
          apart = split_entry x l p.world f.after _ h.apart (end_beside x t) f.step;
          dying = h.dying;
        });
      }
  part_steps y n b on (enters k e v is of apart step same) =
      let mine : keeps x k ≡ true = sym (ap (steps_on x) is) ∙ on in
      let named = entry_beside x e k of (b k is) in
      let f = echo_entry x l s.world p.world v h.split h.apart h.agrees e named (kept x e k of ∙ mine) step in
      record {
        next = record { world = f.after; dying = dying_after k p.dying };
        step = enters k e f.after is of (line_among_same x s.dying p.dying h.dying k mine ∙ apart) f.step refl;
        part = subst (λ (z : PlainConfiguration). IsPart x z (record { world = f.after; dying = dying_after k p.dying })) (sym same) (record {
          agrees = f.agrees;
          split = split_entry x l s.world v e h.split named step;
          apart = split_entry x l p.world f.after e h.apart named f.step;
          dying = dying_same x s.dying p.dying h.dying k;
        });
      }
  part_steps y n b on (sees k is apart look same) =
      let mine : keeps x k ≡ true = sym (ap (steps_on x) is) ∙ on in
      record {
        next = record p { dying = dying_after k p.dying };
        step = sees k is (line_among_same x s.dying p.dying h.dying k mine ∙ apart) (seen_same k mine look) refl;
        part = subst (λ (z : PlainConfiguration). IsPart x z (record p { dying = dying_after k p.dying })) (sym same) (record {
          agrees = h.agrees;
          split = h.split;
          apart = h.apart;
          dying = dying_same x s.dying p.dying h.dying k;
        });
      }
  part_steps y n b on (has_ended t is among dead same) =
      let mine : x (OfThread t) ≡ true = sym (ap (steps_on x) is) ∙ on in
      record {
        next = record p { dying = dying_after (End t) p.dying };
        step = has_ended t is (h.dying t mine ∙ among) (living_same x s.world p.world h.split h.apart h.agrees t mine ∙ dead) refl;
        part = subst (λ (z : PlainConfiguration). IsPart x z (record p { dying = dying_after (End t) p.dying })) (sym same) (record {
          agrees = h.agrees;
          split = h.split;
          apart = h.apart;
          dying = dying_same x s.dying p.dying h.dying (End t);
        });
      }

  -- a step of the other side
  pub part_stays : (y : Label) (n : PlainConfiguration) → ((k : Line) → y ≡ Shown k → LineBeside x k) → steps_on x y ≡ false
      → PlainAdvances l s y n → IsPart x n p
  part_stays y n b off (moves t v is move e) =
      let f = passes_move x t s.world h.split move in
      subst (λ (z : PlainConfiguration). IsPart x z p) (sym e) (record {
        agrees = agrees_then x (agrees_back x (f.frame (sym (ap (steps_on x) is) ∙ off))) h.agrees;
        split = f.split;
        apart = h.apart;
        dying = h.dying;
      })
  part_stays y n b off (ends t v is among end e) = subst (λ (z : PlainConfiguration). IsPart x z p) (sym e) (record {
    agrees = agrees_then x (agrees_back x (frame_entry x l s.world v _ h.split (end_beside x t) (sym (ap (steps_on x) is) ∙ off) end)) h.agrees;
    split = split_entry x l s.world v _ h.split (end_beside x t) end;
    apart = h.apart;
    dying = h.dying;
  })
  part_stays y n b off (enters k e v is of apart step same) =
      let away : keeps x k ≡ false = sym (ap (steps_on x) is) ∙ off in
      let named = entry_beside x e k of (b k is) in
      subst (λ (z : PlainConfiguration). IsPart x z p) (sym same) (record {
        agrees = agrees_then x (agrees_back x (frame_entry x l s.world v e h.split named (kept x e k of ∙ away) step)) h.agrees;
        split = split_entry x l s.world v e h.split named step;
        apart = h.apart;
        dying = dying_apart x s.dying p.dying h.dying k away;
      })
  part_stays y n b off (sees k is apart look same) = subst (λ (z : PlainConfiguration). IsPart x z p) (sym same) (record {
    agrees = h.agrees;
    split = h.split;
    apart = h.apart;
    dying = dying_apart x s.dying p.dying h.dying k (sym (ap (steps_on x) is) ∙ off);
  })
  part_stays y n b off (has_ended t is among dead same) = subst (λ (z : PlainConfiguration). IsPart x z p) (sym same) (record {
    agrees = h.agrees;
    split = h.split;
    apart = h.apart;
    dying = dying_apart x s.dying p.dying h.dying (End t) (sym (ap (steps_on x) is) ∙ off);
  })
