-- One message more was answered to.
use Rattle.std.proofs.Common.{◌≡◌, ◌∙◌, ℕ, suc, List, [], ◌∷◌, ◌++◌, Bool, true, false, ◌||◌, ◌≢◌, ◌⊎◌, Option, Some, None, Ok, Err, length, append_assoc, ap, arith, inl, inr, refl, subst, sym}
use Rattle.std.proofs.lemmas.List.{append-nil, length-append}
use Rattle.std.proofs.lemmas.List.Elements.{All-push}
use Rattle.std.specs.Io.KnownBytes.{Consumes}
use Rattle.capnp_device.specs.Device.{HasFailed}
use Rattle.capnp_device.specs.declared.error.Error.{Error}
use Rattle.capnp_device.specs.declared.error.ErrorKind.{ErrorKind}
use Rattle.capnp_device.specs.declared.error.ErrorKind.TheVariants.{OutOfMemory, ReadFailed, WriteFailed}
use Rattle.capnp_streams.specs.Lengths.{message_length}
use Rattle.riftcalico_core.specs.Jobs.{reads_texts}
use Rattle.riftcalico_core.specs.declared.fault.Blamed.TheVariants.{Input}
use Rattle.riftcalico_core.specs.declared.job.Job.{Job}
use Rattle.capnp_show_engine.specs.Command.{IsTold}
use Rattle.riftcalico_engine.specs.Outputs.{IsAnswered, IsMessageAnsweredTo, Ran}
use Rattle.riftcalico_engine.proofs.Ending.{fault_said}
use Rattle.riftcalico_engine.specs.Steps.Passing.{IsRefusedWith}
use Rattle.riftcalico_engine.specs.Steps.Told.{IsFaultLine, told_bytes}
use Rattle.riftcalico_engine.specs.declared.ended.Ended.TheVariants as ended
use Rattle.riftcalico_engine.specs.declared.told.Told.{Told}
use Rattle.capnp_streams.specs.Next.{IsNextRead, IsNextRefused}
use Rattle.riftcalico_engine.specs.Streams.{AreRead, IsGoneOn, IsMessageUnread, IsSoFar, IsStopped, IsStreamEnd, joined, none_passed, one_more}
use Rattle.capnp_streams.specs.Texts.{no_texts, one_text}
use Rattle.riftcalico_engine.specs.declared.ended.Refusal.{Refusal}
use Rattle.riftcalico_words.specs.Tasks.{Task}

pub joined_more : (ms : List (List ℕ)) (m : List ℕ) → joined (ms ++ m ∷ []) ≡ joined ms ++ m
joined_more [] m = append-nil m
joined_more (first ∷ ms) m = ap (λ (x : List ℕ). first ++ x) (joined_more ms m) ∙ sym (append_assoc first (joined ms) m)

pub consumed_both : (a b c : Option (List ℕ)) (xs ys : List ℕ) → Consumes a b xs → Consumes b c ys → Consumes a c (xs ++ ys)
consumed_both None b c xs ys h k = tt {0}
consumed_both (Some a) None c xs ys h k = absurd h
consumed_both (Some a) (Some b) None xs ys h k = absurd k
consumed_both (Some a) (Some b) (Some c) xs ys h k = h ∙ ap (λ rest. xs ++ rest) k ∙ sym (append_assoc xs ys c)

pub consumed_none : (a : Option (List ℕ)) → Consumes a a []
consumed_none None = tt {0}
consumed_none (Some a) = refl

-- none was read, and one more
none_read : (texts : Bool) (a : Option (List ℕ)) → AreRead texts a a []
none_read false a = record {
  consumed = consumed_none a;
  whole = λ i d inside. absurd (omega (arith, inside));
}
none_read true a = no_texts a

next_read : (texts : Bool) (a b c : Option (List ℕ)) (ms : List (List ℕ)) (m : List ℕ) → AreRead texts a b ms → IsNextRead texts b c m → AreRead texts a c (ms ++ m ∷ [])
next_read false a b c ms m are next = record {
  consumed = subst (λ (x : List ℕ). Consumes a c x) (sym (joined_more ms m)) (consumed_both a b c (joined ms) m are.consumed next.consumed);
  whole = All-push (λ (x : List ℕ). message_length x ≡ Ok (length x)) ms m are.whole next.whole;
}
next_read true a b c ms m are next = one_text a b c ms m are next

pub by_message : {A B : Type 0} (kind : ErrorKind) → (kind ≢ ReadFailed → kind ≢ OutOfMemory → A) → (kind ≡ ReadFailed → B) → ((kind ≡ ReadFailed) × B) ⊎ ((kind ≡ OutOfMemory) ⊎ A)
by_message ReadFailed cut failed = inl (refl, failed refl)
by_message OutOfMemory cut failed = inr (inl refl)
by_message kind cut failed = inr (inr (cut (λ e. cc) (λ e. cc)))

pub or_true : (b : Bool) → true ≡ (b || true)
or_true true = refl
or_true false = refl

module _ {F : Type 0} (told : F → Option (List ℕ)) (tells : F → ℕ) where
  -- nothing was told behind it
  pub quiet_on : (t : Task) (going : Bool) (by : Ran) (f : F) (refused : Bool) → IsAnswered by refused → (refused ≡ true → going ≡ true) → IsGoneOn told tells t going by f f refused
  quiet_on t going (Ok (ended.Answered x)) f refused is may = (refl, sym is, λ e. may (sym is ∙ e))
  quiet_on t going (Ok (ended.Unreadable line)) f refused is may = absurd is
  quiet_on t going (Ok (ended.NamesMeet line)) f refused is may = absurd is
  quiet_on t going (Err x) f refused is may = absurd is

  -- its refusal was
  pub telling_on : (t : Task) (going : Bool) (by : Ran) (m : Told) (f f' : F) → going ≡ true → IsRefusedWith by (λ x. (x.fault.error.kind ≢ WriteFailed) × IsFaultLine t x m) →
      IsTold (told_bytes m) (told f) (told f') (tells f) (tells f') → IsGoneOn told tells t going by f f' true
  telling_on t going (Ok x) m f f' on is said = absurd is
  telling_on t going (Err x) m f f' on is said = (on, refl, is.0, fault_said told tells t x m f f' is.1 said)

module _ {S W F : Type 0} (left : S → Option (List ℕ)) (reads : S → ℕ) (written : W → Option (List ℕ)) (writes : W → ℕ) (told : F → Option (List ℕ)) (tells : F → ℕ) where
  pub none_so_far : (t : Task) (j : Job) (going : Bool) (s : S) (w : W) (f : F) → IsSoFar left reads written writes told tells t j going 0 s s w w f f false
  none_so_far t j going s w f = record {
    messages = [];
    count = refl;
    are = none_read (reads_texts j) (left s);
    passed = none_passed w f;
  }

  pub next_so_far : (t : Task) (j : Job) (going : Bool) (number next : ℕ) (s s' s'' : S) (w w' w'' : W) (f f' mid f'' : F) (some one : Bool) (m : List ℕ) (r : Ran) → next ≡ suc number →
      IsSoFar left reads written writes told tells t j going number s s' w w' f f' some → IsNextRead (reads_texts j) (left s') (left s'') m →
      IsMessageAnsweredTo written writes told tells j (Some next) m w' w'' f' mid r → IsGoneOn told tells t going r mid f'' one →
      IsSoFar left reads written writes told tells t j going next s s'' w w'' f f'' (some || one)
  next_so_far t j going number next s s' s'' w w' w'' f f' mid f'' some one m r e before received answered on =
      let l = length-append before.messages (m ∷ []) in
      let c = before.count in
      let here : next ≡ suc (length before.messages) = e ∙ ap suc (sym c) in
      record {
        messages = before.messages ++ m ∷ [];
        count = omega (arith, l, e, c);
        are = next_read (reads_texts j) (left s) (left s') (left s'') before.messages m before.are received;
        passed = one_more before.messages m w w' w'' f f' f'' some one before.passed (record {
          by = r;
          mid = mid;
          answered = subst (λ (n : ℕ). IsMessageAnsweredTo written writes told tells j (Some n) m w' w'' f' mid r) here answered;
          gone_on = on;
        });
      }

  pub stop_end : (j : Job) (going : Bool) (number next : ℕ) (refused : Bool) (s s' : S) (w w' : W) (f mid f' : F) (bytes given : List ℕ) (r stopped : Ran) → next ≡ suc number →
      IsNextRead (reads_texts j) (left s) (left s') bytes → given ≡ bytes → IsMessageAnsweredTo written writes told tells j (Some next) given w w' f mid r → stopped ≡ r → IsStopped going r → f' ≡ mid →
      IsStreamEnd left reads written writes told tells j going (suc number) refused s s' w w' f f' stopped
  stop_end j going number next refused s s' w w' f mid f' bytes given r stopped here received same answered is stop rest =
      let a = subst (λ (n : ℕ). IsMessageAnsweredTo written writes told tells j (Some n) given w w' f mid r) here answered in
      let b = subst (λ (x : List ℕ). IsMessageAnsweredTo written writes told tells j (Some (suc number)) x w w' f mid r) same a in
      let d = subst (λ (x : F). IsMessageAnsweredTo written writes told tells j (Some (suc number)) bytes w w' f x r) (sym rest) b in
      let e = subst (λ (x : Ran). IsMessageAnsweredTo written writes told tells j (Some (suc number)) bytes w w' f f' x) (sym is) d in
      inr (inr (inl (bytes, received, e, subst (λ (x : Ran). IsStopped going x) (sym is) stop)))

  pub unread_end : (j : Job) (going : Bool) (number next : ℕ) (refused : Bool) (s s' : S) (w : W) (f : F) (x : Refusal) (error : Error) → next ≡ suc number → x.message ≡ Some next →
      x.fault.blamed ≡ Input → x.fault.error ≡ error → (error.kind ≢ ReadFailed → error.kind ≢ OutOfMemory → IsNextRefused (reads_texts j) (left s) (left s') error.kind) →
      (error.kind ≡ ReadFailed → HasFailed (reads s) (reads s')) →
      IsStreamEnd left reads written writes told tells j going (suc number) refused s s' w w f f (Err x)
  unread_end j going number next refused s s' w f x error here message blamed is cut failed =
      inr (inl ((message ∙ ap Some here, (blamed, subst (λ (e : Error). IsMessageUnread (reads_texts j) (left s) (left s') (reads s) (reads s') e.kind) (sym is) (by_message error.kind cut failed))), refl, refl))

  -- where ways join
  pub at_next : (t : Task) (j : Job) (going : Bool) (number : ℕ) (s s' : S) (w w' : W) (f : F) (f' there : F) (refused some : Bool) → f' ≡ there → refused ≡ some →
      IsSoFar left reads written writes told tells t j going number s s' w w' f there some → IsSoFar left reads written writes told tells t j going number s s' w w' f f' refused
  at_next t j going number s s' w w' f f' there refused some e e' so_far =
      subst (λ (x : F). IsSoFar left reads written writes told tells t j going number s s' w w' f x refused) (sym e)
      (subst (λ (b : Bool). IsSoFar left reads written writes told tells t j going number s s' w w' f there b) (sym e') so_far)
