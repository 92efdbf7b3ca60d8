-- Acts one after another.
use Rattle.std.proofs.Common.{ℕ, zero, suc, ◌+◌, ◌<◌, ◌≤◌, ◌≡◌, ◌≢◌, List, [], ◌∷◌, ◌++◌, length, get_or, replicate, take, drop, arith, ap, inl, inr, sym, subst, ◌∙◌}
use Rattle.std.proofs.lemmas.List.{length-take-le}
use Rattle.std.proofs.Math.Seq.{take-add}
use Rattle.capnp_wire.specs.Tree.{StructTree}
use Rattle.capnp_arena.specs.Forest.{struct_from}
use Rattle.capnp_arena.specs.declared.arena.Place.{Place}
use Rattle.capnp_schema.specs.declared.schema.structs.StructSchema.{StructSchema}
use Rattle.capnp_records.specs.Call.{Done, PathStep, Reply as ReplySeen, Source}
use Rattle.capnp_call.specs.declared.calls.Reply.{Reply}
use Rattle.capnp_call.specs.declared.calls.Reply.TheVariants as reply
use Rattle.capnp_edits.specs.Changes.{Append, Edit}
use Rattle.capnp_edit_calls.specs.ActsMade.{ActsMade, AreAppends, both, together, tried}
use Rattle.capnp_edit_calls.specs.Copies.{Copies, CopiesTo}
use Rattle.capnp_edit_calls.specs.EditsMade.{Edits, EditsTo}
use Rattle.capnp_edit_calls.specs.Steps.Next.{IsAppendedAs, IsJoinedAs, IsNextOf, IsTried}
use Rattle.capnp_edit_calls.specs.declared.runs.Joined.{Joined}
use Rattle.capnp_edit_calls.specs.declared.runs.Joined.TheVariants as joined
use Rattle.capnp_edit_calls.specs.declared.acts.Act.{Act}

-- an edit of the struct at a place
pub edits_at : (schema : StructSchema) (p : Place) (path : List PathStep) (edit : Edit) (r : ReplySeen) (before after : List ℕ) →
    Edits schema (struct_from before p.start p.data_words p.pointers) path edit r (struct_from after p.start p.data_words p.pointers) before after →
    EditsTo schema (struct_from before p.start p.data_words p.pointers) path edit r (struct_from after p.start p.data_words p.pointers)
edits_at schema p path edit r before after (inl h) = inl (h.0, ap (λ (bytes : List ℕ). struct_from bytes p.start p.data_words p.pointers) h.1)
edits_at schema p path edit r before after (inr h) = inr h

-- a copy in it
pub copies_at : (schema : StructSchema) (p : Place) (path from : List PathStep) (r : ReplySeen) (before after : List ℕ) →
    Copies schema (struct_from before p.start p.data_words p.pointers) path from r (struct_from after p.start p.data_words p.pointers) before after →
    CopiesTo schema (struct_from before p.start p.data_words p.pointers) path from r (struct_from after p.start p.data_words p.pointers)
copies_at schema p path from r before after (inl h) = inl (h.0, ap (λ (bytes : List ℕ). struct_from bytes p.start p.data_words p.pointers) h.1)
copies_at schema p path from r before after (inr h) = inr h

-- the first act, by itself
first_of : (acts : List Act) (a : Act) → 0 < length acts → a ≡ get_or acts 0 a → take 1 acts ≡ a ∷ []
first_of [] a some is = absurd (omega (arith, some))
first_of (x ∷ acts) a some is = ap (λ y. y ∷ []) (sym is)

pub next_one : (schema : StructSchema) (s s' : StructTree) (acts : List Act) (a : Act) (r : Reply) (before after : List Reply) → 0 < length acts → a ≡ get_or acts 0 a → after ≡ before ++ r ∷ [] → ActsMade schema s (a ∷ []) (r ∷ []) s' → IsNextOf schema s acts 1 before after s'
next_one schema s s' acts a r before after some is put made = record {
  some = omega arith;
  few = omega (arith, some);
  replies = r ∷ [];
  appended = put;
  made = subst (λ (xs : List Act). ActsMade schema s xs (r ∷ []) s') (sym (first_of acts a some is)) made;
}

-- after a try that was refused
tried_first : (schema : StructSchema) (s t u : StructTree) (path : List PathStep) (ss : List Source) (acts : List Act) (n k : ℕ) (r : ReplySeen) (rs : List Reply) → 0 < n → 0 < k → k ≤ length acts → AreAppends path ss (take k acts) →
    r ≢ Done → EditsTo schema s path (Append ss) r t → ActsMade schema t (take n acts) rs u → ActsMade schema s (take n acts) rs u
tried_first schema s t u path ss [] n k r rs some several few appends other edits made = absurd (omega (arith, several, few))
tried_first schema s t u path ss (x ∷ acts) zero k r rs some several few appends other edits made = absurd (omega (arith, some))
tried_first schema s t u path ss (x ∷ acts) (suc n) zero r rs some several few appends other edits made = absurd (omega (arith, several))
tried_first schema s t u path ss (x ∷ acts) (suc n) (suc k) r rs some several few appends other edits made = tried path ss x (take n acts) (take k acts) r rs s t u appends other edits made

pub next_tried : (schema : StructSchema) (s t u : StructTree) (acts : List Act) (n : ℕ) (before after : List Reply) → IsTried schema s acts t → IsNextOf schema t acts n before after u → IsNextOf schema s acts n before after u
next_tried schema s t u acts n before after (inl same) next = subst (λ (x : StructTree). IsNextOf schema x acts n before after u) same next
next_tried schema s t u acts n before after (inr h) next = record {
  some = next.some;
  few = next.few;
  replies = next.replies;
  appended = next.appended;
  made = tried_first schema s t u h.0 h.1 acts n h.2 h.3 next.replies next.some h.4 h.5 h.6 h.7 h.8 next.made;
}

-- acts that were made as one
pub next_all : (schema : StructSchema) (s s' : StructTree) (acts : List Act) (n : ℕ) (before after : List Reply) → 0 < n → n ≤ length acts → after ≡ before ++ replicate n reply.Done → ActsMade schema s (take n acts) (replicate n reply.Done) s' → IsNextOf schema s acts n before after s'
next_all schema s s' acts n before after some few put made = record { some = some; few = few; replies = replicate n reply.Done; appended = put; made = made }

-- appends of values that were made as one
pub all_joined : (schema : StructSchema) (s s' : StructTree) (acts : List Act) (path : List PathStep) (ss : List Source) (n : ℕ) → 0 < n → n ≤ length acts → AreAppends path ss (take n acts) → EditsTo schema s path (Append ss) Done s' → ActsMade schema s (take n acts) (replicate n reply.Done) s'
all_joined schema s s' acts path ss n some few appends edits =
    subst (λ (k : ℕ). ActsMade schema s (take n acts) (replicate k reply.Done) s') (length-take-le n acts few) (together path ss (take n acts) s s' (omega (arith, some, length-take-le n acts few)) appends edits)

-- those so far, and the next
pub acts_more : (schema : StructSchema) (s t u : StructTree) (acts : List Act) (i n : ℕ) (before after : List Reply) → ActsMade schema s (take i acts) before t → IsNextOf schema t (drop i acts) n before after u → ActsMade schema s (take (i + n) acts) after u
acts_more schema s t u acts i n before after h next =
    subst (λ (rs : List Reply). ActsMade schema s (take (i + n) acts) rs u) (sym next.appended)
    (subst (λ (xs : List Act). ActsMade schema s xs (before ++ next.replies) u) (sym (take-add i n acts))
    (both (take i acts) (take n (drop i acts)) before next.replies s t u h next.made))

-- values of the first acts, which were appended at once or not
pub joined_as : (schema : StructSchema) (s s' : StructTree) (acts : List Act) (path : List PathStep) (ss : List Source) (n : ℕ) (j : Joined) → length ss ≡ n → 2 ≤ n → n ≤ length acts → AreAppends path ss (take n acts) → IsAppendedAs schema s path ss j s' → IsJoinedAs schema s acts j s'
joined_as schema s s' acts path ss n (joined.All k) count two few appends h =
    subst (λ (i : ℕ). IsJoinedAs schema s acts (joined.All i) s') (sym (h.0 ∙ count)) (omega (arith, two), few, all_joined schema s s' acts path ss n (omega (arith, two)) few appends h.1)
joined_as schema s s' acts path ss n (joined.Apart k) count two few appends h = (omega (arith, h.0, count, two), inr (path, ss, n, h.1, omega (arith, two), few, appends, h.2, h.3))
