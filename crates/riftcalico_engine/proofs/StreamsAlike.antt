-- A run over a source is one over what it has left and its failures.
use Rattle.std.proofs.Common.{◌≡◌, ℕ, List, Bool, Option, ap, inl, inr, subst}
use Rattle.riftcalico_core.specs.declared.job.Job.{Job}
use Rattle.riftcalico_engine.specs.Outputs.{Ran}
use Rattle.riftcalico_engine.specs.Streams.{IsStreamEnd, IsStreamRun, Unread}
use Rattle.riftcalico_words.specs.Tasks.{Task}

module _ {S W F : Type 0} (left : S → Option (List ℕ)) (reads : S → ℕ) (written : W → Option (List ℕ)) (writes : W → ℕ) (told : F → Option (List ℕ)) (tells : F → ℕ) where
  abbrev seen : S → Unread
  seen s = record { left = left s; failures = reads s }

  end_seen : (j : Job) (going : Bool) (number : ℕ) (refused : Bool) (s s' : S) (w w' : W) (f f' : F) (r : Ran)
      → IsStreamEnd left reads written writes told tells j going number refused s s' w w' f f' r
      → IsStreamEnd (λ (u : Unread). u.left) (λ (u : Unread). u.failures) written writes told tells j going number refused (seen s) (seen s') w w' f f' r
  end_seen j going number refused s s' w w' f f' r (inl over) = inl over
  end_seen j going number refused s s' w w' f f' r (inr (inl unread)) = inr (inl unread)
  end_seen j going number refused s s' w w' f f' r (inr (inr (inl stopped))) = inr (inr (inl stopped))
  end_seen j going number refused s s' w w' f f' r (inr (inr (inr last))) =
      inr (inr (inr (last.0, last.1, ap seen last.2, last.3, last.4)))

  pub run_seen : (t : Task) (j : Job) (going : Bool) (s s' : S) (w w' : W) (f f' : F) (r : Ran) (start : Unread) → seen s ≡ start
      → IsStreamRun left reads written writes told tells t j going s s' w w' f f' r
      → (end : Unread) × IsStreamRun (λ (u : Unread). u.left) (λ (u : Unread). u.failures) written writes told tells t j going start end w w' f f' r
  run_seen t j going s s' w w' f f' r start e run =
      let P : Unread → Type 0 = λ x. IsStreamRun (λ (u : Unread). u.left) (λ (u : Unread). u.failures) written writes told tells t j going x (seen s') w w' f f' r in (
        seen s',
        subst P e (record {
          at = seen run.at;
          sink = run.sink;
          errors = run.errors;
          number = run.number;
          refused = run.refused;
          before = record {
            messages = run.before.messages;
            count = run.before.count;
            are = run.before.are;
            passed = run.before.passed;
          };
          end = end_seen j going _ run.refused run.at s' run.sink w' run.errors f' r run.end;
        }),
      )
