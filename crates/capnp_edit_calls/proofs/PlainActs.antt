-- Acts that are all calls are made as these.
use Rattle.std.specs.Prelude.{⊤}
use Rattle.std.proofs.Common.{ℕ, ◌<◌, ◌≡◌, List, [], ◌∷◌, ◌++◌, length, map, arith, ap, refl, subst, sym}
use Rattle.capnp_wire.specs.Tree.{StructTree}
use Rattle.capnp_schema.specs.Schema.{Schemas}
use Rattle.capnp_schema.specs.StructHandles.{number_of, set_of}
use Rattle.capnp_schema.specs.declared.schema.structs.StructSchema.{StructSchema}
use Rattle.capnp_records.specs.Call.{PathStep, Source}
use Rattle.capnp_call.specs.Runs.{IsCallMade, MakesCalls}
use Rattle.capnp_call.specs.declared.calls.Call.{Call}
use Rattle.capnp_call.specs.declared.calls.Reply.{Reply}
use Rattle.capnp_edit_calls.specs.ActsMade.{ActsMade, AreAppends, both, called, copied, edited, nothing, together, tried}
use Rattle.capnp_edit_calls.specs.declared.acts.Act.{Act}
use Rattle.capnp_edit_calls.specs.declared.acts.Act.TheVariants as act

-- the acts are these calls
abbrev AreCalls : List Act → List Call → Type 0
AreCalls [] [] = ⊤
AreCalls [] (d ∷ calls) = ⊥
AreCalls (act.Call c ∷ acts) [] = ⊥
AreCalls (act.Call c ∷ acts) (d ∷ calls) = (c ≡ d) × AreCalls acts calls
AreCalls (act.Edit e ∷ acts) calls = ⊥
AreCalls (act.Copy k ∷ acts) calls = ⊥

are_calls : (calls : List Call) → AreCalls (map act.Call calls) calls
are_calls [] = tt
are_calls (c ∷ calls) = (refl, are_calls calls)

-- the calls of the first acts and those of the others
record Parts (xs ys : List Act) (calls : List Call) : Type 0 where
  front : List Call
  back : List Call
  whole : calls ≡ front ++ back
  first : AreCalls xs front
  second : AreCalls ys back

parts : (xs ys : List Act) (calls : List Call) → AreCalls (xs ++ ys) calls → Parts xs ys calls
parts [] ys calls h = record { front = []; back = calls; whole = refl; first = tt; second = h }
parts (act.Call c ∷ xs) ys [] h = absurd h
parts (act.Call c ∷ xs) ys (d ∷ calls) h =
    let p = parts xs ys calls h.1 in
    record { front = d ∷ p.front; back = p.back; whole = ap (λ ds. d ∷ ds) p.whole; first = (h.0, p.first); second = p.second }
parts (act.Edit e ∷ xs) ys calls h = absurd h
parts (act.Copy k ∷ xs) ys calls h = absurd h

makes_both : (set : Schemas) (b : ℕ) (s t u : StructTree) (cs ds : List Call) (rs us : List Reply) → MakesCalls set b s cs rs t → MakesCalls set b t ds us u → MakesCalls set b s (cs ++ ds) (rs ++ us) u
unfolding MakesCalls
makes_both set b s t u [] ds [] us h k = subst (λ (x : StructTree). MakesCalls set b x ds us u) h k
makes_both set b s t u [] ds (r ∷ rs) us h k = absurd h
makes_both set b s t u (c ∷ cs) ds [] us h k = absurd h
makes_both set b s t u (c ∷ cs) ds (r ∷ rs) us h k = (h.0, h.1, makes_both set b h.0 t u cs ds rs us h.2 k)

-- one call
makes_one : (set : Schemas) (b : ℕ) (s t : StructTree) (c : Call) (r : Reply) (calls : List Call) → AreCalls (act.Call c ∷ []) calls → IsCallMade set b s c r t → MakesCalls set b s calls (r ∷ []) t
unfolding MakesCalls
makes_one set b s t c r [] h made = absurd h
makes_one set b s t c r (d ∷ []) h made = (t, subst (λ (k : Call). IsCallMade set b s k r t) h.0 made, refl)
makes_one set b s t c r (d ∷ e ∷ calls) h made = absurd h.1

makes_none : (set : Schemas) (b : ℕ) (s : StructTree) (calls : List Call) → AreCalls [] calls → MakesCalls set b s calls [] s
unfolding MakesCalls
makes_none set b s [] h = refl
makes_none set b s (c ∷ calls) h = absurd h

-- no call appends
no_append : {A : Type 0} (path : List PathStep) (ss : List Source) (acts : List Act) (calls : List Call) → 0 < length acts → AreAppends path ss acts → AreCalls acts calls → A
no_append path ss [] calls some appends h = absurd (omega (arith, some))
no_append path [] (act.Call c ∷ acts) calls some appends h = absurd appends
no_append path (s ∷ ss) (act.Call c ∷ acts) calls some appends h = absurd appends.0
no_append path ss (act.Edit e ∷ acts) calls some appends h = absurd h
no_append path ss (act.Copy k ∷ acts) calls some appends h = absurd h

-- an act in front of others that append
no_try : {A : Type 0} (path : List PathStep) (ss : List Source) (a : Act) (more xs : List Act) (calls : List Call) → AreAppends path ss (a ∷ more) → AreCalls (a ∷ xs) calls → A
no_try path [] (act.Call c) more xs calls appends h = absurd appends
no_try path (s ∷ ss) (act.Call c) more xs calls appends h = absurd appends.0
no_try path ss (act.Edit e) more xs calls appends h = absurd h
no_try path ss (act.Copy k) more xs calls appends h = absurd h

module _ (schema : StructSchema) where
  makes : (s s' : StructTree) (acts : List Act) (replies : List Reply) → ActsMade schema s acts replies s' → (calls : List Call) → AreCalls acts calls → MakesCalls (set_of schema) (number_of schema) s calls replies s'
  makes _ _ _ _ (nothing s) calls h = makes_none (set_of schema) (number_of schema) s calls h
  makes _ _ _ _ (called c r s s' made) calls h = makes_one (set_of schema) (number_of schema) s s' c r calls h made
  makes _ _ _ _ (edited e r s s' made) calls h = absurd h
  makes _ _ _ _ (copied k r s s' made) calls h = absurd h
  makes _ _ _ _ (together path ss acts s s' some appends made) calls h = no_append path ss acts calls some appends h
  makes _ _ _ _ (tried path ss a xs more r rs s t u appends other edits made) calls h = no_try path ss a more xs calls appends h
  makes _ _ _ _ (both xs ys rs us s t u first second) calls h =
      let p = parts xs ys calls h in
      subst (λ (ds : List Call). MakesCalls (set_of schema) (number_of schema) s ds (rs ++ us) u) (sym p.whole)
      (makes_both (set_of schema) (number_of schema) s t u p.front p.back rs us (makes s t xs rs first p.front p.first) (makes t u ys us second p.back p.second))

pub plain_made : (schema : StructSchema) (s s' : StructTree) (acts : List Act) (calls : List Call) (replies : List Reply) → acts ≡ map act.Call calls → ActsMade schema s acts replies s' → MakesCalls (set_of schema) (number_of schema) s calls replies s'
plain_made schema s s' acts calls replies e made = makes schema s s' acts replies made calls (subst (λ (xs : List Act). AreCalls xs calls) (sym e) (are_calls calls))
