-- Which messages are read, and what was done with them.
use Rattle.std.proofs.Common.{◌≡◌, ◌⊎◌, ℕ, List, [], Bool, true, false, Option, None, inl, inr, refl, subst, sym}
use Rattle.capnp_show_engine.specs.Show.{IsRead}
use Rattle.riftcalico_core.specs.Jobs.{is_packed, wants_input}
use Rattle.riftcalico_core.specs.declared.fault.Blamed.TheVariants as blamed
use Rattle.riftcalico_core.specs.declared.job.Job.{Job}
use Rattle.riftcalico_engine.specs.Outputs.{IsAnsweredTo, IsFault, Ran}
use Rattle.riftcalico_engine.specs.Runs.{IsInputRead, IsInputUnread, IsMessagesRun}
use Rattle.riftcalico_engine.specs.Steps.Stages.{way_of}
use Rattle.riftcalico_engine.specs.Streams.{IsMessagesRead, IsPackedRun, IsStreamRun}
use Rattle.riftcalico_engine.specs.declared.stages.Way.TheVariants as way
use Rattle.riftcalico_words.specs.Tasks.{Task}
use Rattle.riftcalico_words.specs.declared.request.Messages.{Messages}
use Rattle.riftcalico_words.specs.declared.request.Messages.TheVariants as messages

unread_way : (m : Messages) (wanted packed : Bool) → way_of m wanted packed ≡ way.Unread → (m ≡ messages.First) × (wanted ≡ false)
unread_way messages.First true packed e = cc
unread_way messages.First false packed e = (refl, refl)
unread_way messages.Each wanted true e = cc
unread_way messages.Each wanted false e = cc
unread_way messages.EachGoing wanted true e = cc
unread_way messages.EachGoing wanted false e = cc

whole_way : (m : Messages) (wanted packed : Bool) → way_of m wanted packed ≡ way.Whole → (m ≡ messages.First) × (wanted ≡ true)
whole_way messages.First true packed e = (refl, refl)
whole_way messages.First false packed e = cc
whole_way messages.Each wanted true e = cc
whole_way messages.Each wanted false e = cc
whole_way messages.EachGoing wanted true e = cc
whole_way messages.EachGoing wanted false e = cc

-- a stream goes on or not
abbrev IsGoing : Messages → Bool → Type 0
IsGoing m going = ((m ≡ messages.Each) × (going ≡ false)) ⊎ ((m ≡ messages.EachGoing) × (going ≡ true))

each_way : (m : Messages) (wanted packed going : Bool) → way_of m wanted packed ≡ way.Each going → IsGoing m going × (packed ≡ false)
each_way messages.First true packed going e = cc
each_way messages.First false packed going e = cc
each_way messages.Each wanted true going e = cc
each_way messages.Each wanted false going e = (inl (refl, cc), refl)
each_way messages.EachGoing wanted true going e = cc
each_way messages.EachGoing wanted false going e = (inr (refl, cc), refl)

packed_way : (m : Messages) (wanted packed going : Bool) → way_of m wanted packed ≡ way.Packed going → IsGoing m going × (packed ≡ true)
packed_way messages.First true packed going e = cc
packed_way messages.First false packed going e = cc
packed_way messages.Each wanted false going e = cc
packed_way messages.Each wanted true going e = (inl (refl, cc), refl)
packed_way messages.EachGoing wanted false going e = cc
packed_way messages.EachGoing wanted true going e = (inr (refl, cc), refl)

module _ {S W F : Type 0} (left : S → Option (List ℕ)) (reads : S → ℕ) (written : W → Option (List ℕ)) (writes : W → ℕ) (told : F → Option (List ℕ)) (tells : F → ℕ) where
  -- none was read
  pub unread_run : (m : Messages) (t : Task) (j : Job) (s : S) (w w' : W) (f f' : F) (r : Ran) → way_of m (wants_input j) (is_packed j) ≡ way.Unread
      → IsAnsweredTo written writes told tells j None [] w w' f f' r → IsMessagesRun left reads written writes told tells m t j s s w w' f f' r
  unread_run m t j s w w' f f' r e answered =
      let d = unread_way m (wants_input j) (is_packed j) e in
      let read = subst (λ (b : Bool). IsInputRead b (s ≡ s) (left s) (left s) []) (sym d.1) (refl, refl) in
      subst (λ (x : Messages). IsMessagesRun left reads written writes told tells x t j s s w w' f f' r) (sym d.0) (inr ([], read, answered))

  -- all that was there was read as one
  pub whole_run : (m : Messages) (t : Task) (j : Job) (s s' : S) (w w' : W) (f f' : F) (r : Ran) (bytes : List ℕ) → way_of m (wants_input j) (is_packed j) ≡ way.Whole
      → IsRead bytes (left s) (left s') → IsAnsweredTo written writes told tells j None bytes w w' f f' r → IsMessagesRun left reads written writes told tells m t j s s' w w' f f' r
  whole_run m t j s s' w w' f f' r bytes e is answered =
      let d = whole_way m (wants_input j) (is_packed j) e in
      let read = subst (λ (b : Bool). IsInputRead b (s' ≡ s) (left s) (left s') bytes) (sym d.1) is in
      subst (λ (x : Messages). IsMessagesRun left reads written writes told tells x t j s s' w w' f f' r) (sym d.0) (inr (bytes, read, answered))

  -- it couldn't be
  pub whole_unread : (m : Messages) (t : Task) (j : Job) (s s' : S) (w : W) (f : F) (r : Ran) → way_of m (wants_input j) (is_packed j) ≡ way.Whole
      → IsFault r (λ x. (x.blamed ≡ blamed.Input) × IsInputUnread true (reads s) (reads s') x.error.kind) → IsMessagesRun left reads written writes told tells m t j s s' w w f f r
  whole_unread m t j s s' w f r e unread =
      let d = whole_way m (wants_input j) (is_packed j) e in
      let why = subst (λ (b : Bool). IsFault r (λ x. (x.blamed ≡ blamed.Input) × IsInputUnread b (reads s) (reads s') x.error.kind)) (sym d.1) unread in
      subst (λ (x : Messages). IsMessagesRun left reads written writes told tells x t j s s' w w f f r) (sym d.0) (inl (why, refl, refl))

  going_run : (m : Messages) (t : Task) (j : Job) (going : Bool) (s s' : S) (w w' : W) (f f' : F) (r : Ran) → IsGoing m going
      → IsMessagesRead left reads written writes told tells (is_packed j) t j going s s' w w' f f' r → IsMessagesRun left reads written writes told tells m t j s s' w w' f f' r
  going_run m t j going s s' w w' f f' r (inl d) run =
      subst (λ (x : Messages). IsMessagesRun left reads written writes told tells x t j s s' w w' f f' r) (sym d.0)
      (subst (λ (g : Bool). IsMessagesRead left reads written writes told tells (is_packed j) t j g s s' w w' f f' r) d.1 run)
  going_run m t j going s s' w w' f f' r (inr d) run =
      subst (λ (x : Messages). IsMessagesRun left reads written writes told tells x t j s s' w w' f f' r) (sym d.0)
      (subst (λ (g : Bool). IsMessagesRead left reads written writes told tells (is_packed j) t j g s s' w w' f f' r) d.1 run)

  -- messages were read one after another
  pub each_run : (m : Messages) (t : Task) (j : Job) (going : Bool) (s s' : S) (w w' : W) (f f' : F) (r : Ran) → way_of m (wants_input j) (is_packed j) ≡ way.Each going
      → IsStreamRun left reads written writes told tells t j going s s' w w' f f' r → IsMessagesRun left reads written writes told tells m t j s s' w w' f f' r
  each_run m t j going s s' w w' f f' r e run =
      let d = each_way m (wants_input j) (is_packed j) going e in
      going_run m t j going s s' w w' f f' r d.0 (subst (λ (p : Bool). IsMessagesRead left reads written writes told tells p t j going s s' w w' f f' r) (sym d.1) run)

  -- packed ones were
  pub packed_run : (m : Messages) (t : Task) (j : Job) (going : Bool) (s s' : S) (w w' : W) (f f' : F) (r : Ran) → way_of m (wants_input j) (is_packed j) ≡ way.Packed going
      → IsPackedRun left written writes told tells t j going s w w' f f' r → IsMessagesRun left reads written writes told tells m t j s s' w w' f f' r
  packed_run m t j going s s' w w' f f' r e run =
      let d = packed_way m (wants_input j) (is_packed j) going e in
      going_run m t j going s s' w w' f f' r d.0 (subst (λ (p : Bool). IsMessagesRead left reads written writes told tells p t j going s s' w w' f f' r) (sym d.1) run)
