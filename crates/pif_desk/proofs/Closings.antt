-- A receipt closes the open call of a log.
use Rattle.std.proofs.Common.{◌≡◌, ℕ, Bool, List, [], ◌∷◌, Option, Some, None, is_some, unwrap_or, sym, ap, subst, if◌then◌else◌}
use Rattle.pif_types.specs.declared.requests.Request.{Request}
use Rattle.pif_desk.specs.declared.log.Reply.{Reply}
use Rattle.pif_desk.specs.declared.log.Call.{Call}
use Rattle.pif_desk.specs.Logs.{last_open, new_call, closed_call, with_answer}
use Rattle.pif_desk.specs.Rooms.{ClientState, Closes}

module _ (t thread a at : ℕ) (q : Request) (over : Bool) where
  closes_parts : (calls : List Call) → last_open calls ≡ Some q
      → Closes (record { t = t; request = q; answer = a; at = at })
      (record { thread = thread; log = record { calls = calls; ended = over } })
      (record { thread = thread; log = with_answer a at (record { calls = calls; ended = over }) })
  closes_parts [] e = absurd (cc)
  closes_parts (x ∷ cs) e = by_reply x.reply e
    where
      none-some : None ≡ Some q → ⊥
      none-some d = absurd (cc)

      by_reply : (o : Option Reply) → (if is_some o then None else Some x.request) ≡ Some q
          → Closes (record { t = t; request = q; answer = a; at = at })
          (record {
            thread = thread;
            log = record {
              calls = (record {
                request = x.request;
                reply = o;
              }) ∷ cs;
              ended = over;
            };
          })
          (record {
            thread = thread;
            log = with_answer a at (record {
              calls = (record {
                request = x.request;
                reply = o;
              }) ∷ cs;
              ended = over;
            });
          })
      by_reply (Some r) d = absurd (none-some d)
      by_reply None d =
          let same : x.request ≡ q = ap (λ (o : Option Request). unwrap_or o x.request) d in
          record {
            before = record { thread = thread; log = record { calls = cs; ended = over } };
            was = ap (λ (p : Request). record {
              thread = thread;
              log = record {
                calls = new_call p ∷ cs;
                ended = over;
              };
            }) same;
            now = ap (λ (p : Request). record {
              thread = thread;
              log = record {
                calls = closed_call p (record { answer = a; at = at }) ∷ cs;
                ended = over;
              };
            }) same;
          }

-- a call that was open is closed by its answer
pub closes_last : (c d : ClientState) (t a at : ℕ) (q : Request) → last_open c.log.calls ≡ Some q
    → d ≡ record c { log = with_answer a at c.log } → Closes (record { t = t; request = q; answer = a; at = at }) c d
closes_last c d t a at q last after =
    subst (λ (x : ClientState). Closes (record { t = t; request = q; answer = a; at = at }) c x) (sym after)
    (closes_parts t c.thread a at q c.log.ended c.log.calls last)
