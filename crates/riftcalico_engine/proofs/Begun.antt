-- The program up to what it tells at its end, and with that.
use Rattle.std.proofs.Common.{◌≡◌, ◌⊎◌, ℕ, List, Option, Ok, Err, inl, inr, subst, sym}
use Rattle.riftcalico_core.specs.Faults.{place_file}
use Rattle.riftcalico_engine.proofs.Ending.{line_said, misuse_said, ran_said}
use Rattle.riftcalico_engine.specs.Files.{Opens}
use Rattle.riftcalico_engine.specs.Outputs.{Ran}
use Rattle.riftcalico_engine.specs.Places.{Makes, Puts, Removes}
use Rattle.riftcalico_engine.specs.Programs.{IsNamed, IsProgramDone, IsRunAt}
use Rattle.riftcalico_engine.specs.Steps.Told.{IsNotBegun, IsOutcome, IsSaid}
use Rattle.riftcalico_engine.specs.declared.told.Outcome.{Outcome}
use Rattle.riftcalico_words.specs.Requests.{AskedRequest}
use Rattle.riftcalico_words.specs.Tasks.{Task}

-- where ways join, by what each variable is there
pub joined_three : {A B C : Type 0} (P : A → B → C → Type 0) (a a' : A) (b b' : B) (c c' : C) → a ≡ a' → b ≡ b' → c ≡ c' → P a' b' c' → P a b c
joined_three {A} {B} {C} P a a' b b' c c' p q r h = subst (λ (x : A). P x b c) (sym p) (subst (λ (x : B). P a' x c) (sym q) (subst (λ (x : C). P a' b' x) (sym r) h))

pub joined_five : {A B C D E : Type 0} (P : A → B → C → D → E → Type 0) (a a' : A) (b b' : B) (c c' : C) (d d' : D) (e e' : E) → a ≡ a' → b ≡ b' → c ≡ c' → d ≡ d' → e ≡ e' → P a' b' c' d' e' → P a b c d e
joined_five {A} {B} {C} {D} {E} P a a' b b' c c' d d' e e' p q r s t h =
    subst (λ (x : A). P x b c d e) (sym p) (subst (λ (x : B). P a' x c d e) (sym q) (subst (λ (x : C). P a' b' x d e) (sym r)
    (subst (λ (x : D). P a' b' c' x e) (sym s) (subst (λ (x : E). P a' b' c' d' x) (sym t) h))))

module _ {O A N S W F : Type 0} (opens : Opens O A) (holds : A → Option (List ℕ)) (fails : A → ℕ)
    (makes : Makes O N) (puts : Puts O N) (removes : Removes O N) (holds_new : N → Option (List ℕ)) (fails_new : N → ℕ)
    (left : S → Option (List ℕ)) (reads : S → ℕ) (written : W → Option (List ℕ)) (writes : W → ℕ) (told : F → Option (List ℕ)) (tells : F → ℕ) where
  -- a task was done, which ends so
  pub record IsBegun (asked : AskedRequest) (out : Outcome) (o o' : O) (s s' : S) (w w' : W) (f f' : F) : Type 0 where
    pub task : Task
    pub is_asked : asked ≡ Ok task
    pub by : Ran
    pub ran : IsRunAt opens holds fails makes puts removes holds_new fails_new left reads written writes told tells (place_file task) task o o' s s' w w' f f' by
    pub ended : IsOutcome task by out

  -- or none was begun
  pub record IsNone (asked : AskedRequest) (out : Outcome) (o o' : O) (s s' : S) (w w' : W) (f f' : F) : Type 0 where
    pub ended : IsNotBegun asked out
    pub unopened : o' ≡ o
    pub unread : s' ≡ s
    pub unwritten : w' ≡ w
    pub untold : f' ≡ f

  abbrev pub IsReady : AskedRequest → Outcome → O → O → S → S → W → W → F → F → Type 0
  IsReady asked out o o' s s' w w' f f' = IsBegun asked out o o' s s' w w' f f' ⊎ IsNone asked out o o' s s' w w' f f'

  abbrev Done : AskedRequest → Outcome → O → O → S → S → W → W → F → F → Type 0
  Done asked out o o' s s' w w' f f' =
      IsProgramDone opens holds fails makes puts removes holds_new fails_new left reads written writes told tells asked out.status o o' s s' w w' f f'

  none_done : (asked : AskedRequest) (out : Outcome) (o o' : O) (s s' : S) (w w' : W) (f f' : F) → IsNotBegun asked out → o' ≡ o → s' ≡ s → w' ≡ w → IsSaid told tells out.told f f' →
      Done asked out o o' s s' w w' f f'
  none_done (Ok t) out o o' s s' w w' f f' is a b d said = inr (is.0, line_said told tells out.told _ f f' is.1 said, (a, b, d))
  none_done (Err x) out o o' s s' w w' f f' is a b d said = (misuse_said told tells x out f f' is said, (a, b, d))

  -- what is told then was told
  pub ready_done : (asked : AskedRequest) (out : Outcome) (o o' : O) (s s' : S) (w w' : W) (f mid f' : F) → IsReady asked out o o' s s' w w' f mid → IsSaid told tells out.told mid f' →
      Done asked out o o' s s' w w' f f'
  ready_done asked out o o' s s' w w' f mid f' (inl x) said =
      subst (λ (a : AskedRequest). Done a out o o' s s' w w' f f') (sym x.is_asked) (inl (record {
        by = x.by;
        mid = mid;
        ran = x.ran;
        status_is = x.ended.status_is;
        ended = ran_said told tells x.task x.by out.told mid f' x.ended.told_is said;
      }))
  ready_done asked out o o' s s' w w' f mid f' (inr x) said =
      none_done asked out o o' s s' w w' f f' x.ended x.unopened x.unread x.unwritten (subst (λ (y : F). IsSaid told tells out.told y f') x.untold said)

module _ {O A N : Type 0} (opens : Opens O A) (makes : Makes O N) (puts : Puts O N) (removes : Removes O N) where
  -- the words ask for one task
  pub named_of : (asked : AskedRequest) (t other : Task) (o o' : O) → asked ≡ Ok t → IsNamed opens makes puts removes t o o' → asked ≡ Ok other → IsNamed opens makes puts removes other o o'
  named_of asked t other o o' is named e =
      let same : t ≡ other = cc in
      subst (λ (x : Task). IsNamed opens makes puts removes x o o') same named
