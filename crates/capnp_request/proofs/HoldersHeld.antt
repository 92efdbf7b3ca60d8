-- Who has a dotted name.
use Rattle.std.proofs.Common.{Vec, ℕ, ◌≡◌, ◌==◌, ◌∙◌, arith, ap, refl, sym, Bool, true, false, not, ◌&&◌, ◌||◌, bytes_eq, List, [], ◌∷◌, Option, Some, None}
use Rattle.std.proofs.lemmas.Bool.Decides.{nat_tests}
use Rattle.std.specs.Global.{Global}
use Rattle.std.specs.HashMap.{get}
use Rattle.capnp_request.specs.Names.{Holder, is_taken}
use Rattle.capnp_request.specs.Steps.NamesMade.{AreHolders, holder_of, one_more}
use Rattle.capnp_request.specs.declared.names.Holder.{Holder as HolderRecord}
use Rattle.capnp_request.specs.declared.names.Names.{Names}

abbrev taken_by : ℕ → Option HolderRecord → Bool
taken_by id None = false
taken_by id (Some h) = h.is_shared || not (h.id == id)

or_false : (b : Bool) → (b || false) ≡ (false || b)
or_false true = refl
or_false false = refl

shared : (s : Bool) (a b c : ℕ) → (not (a == b) || (s || not (c == b))) ≡ ((s || not (c == a)) || not (c == b))
shared true a b c = go (not (a == b)) (not (c == b))
  where
    go : (x y : Bool) → (x || (true || y)) ≡ ((true || not (c == a)) || y)
    go true y = refl
    go false y = refl
shared false a b c = grind (arith, nat_tests)

-- somebody else had it
taken_is : (hs : List Holder) (id : ℕ) (d : List ℕ) → is_taken hs id d ≡ taken_by id (holder_of hs d)
taken_is [] id d = refl
taken_is (h ∷ hs) id d = ap (λ b. (bytes_eq h.dotted d && not (h.id == id)) || b) (taken_is hs id d) ∙ go (bytes_eq h.dotted d)
  where
    by : (o : Option HolderRecord) → (not (h.id == id) || taken_by id o) ≡ taken_by id (Some (one_more h.id o))
    by None = or_false (not (h.id == id))
    by (Some x) = shared x.is_shared h.id id x.id

    go : (q : Bool) → ((q && not (h.id == id)) || taken_by id (holder_of hs d)) ≡ taken_by id (elim q as (λ _. Option HolderRecord) [ true ↦ Some (one_more h.id (holder_of hs d)) | false ↦ holder_of hs d ])
    go true = by (holder_of hs d)
    go false = refl

mark_is : (id : ℕ) (o : Option HolderRecord) → (one_more id o).is_shared ≡ taken_by id o
mark_is id None = refl
mark_is id (Some h) = refl

abbrev pub eq : Vec ℕ Global → Vec ℕ Global → Bool
eq x y = bytes_eq x.items y.items

pub taken_now : (names : Names) (hs : List Holder) (id : ℕ) (key : Vec ℕ Global) (d : List ℕ) (holder : HolderRecord) → AreHolders names hs → key.items ≡ d → holder ≡ one_more id (get eq names.holders key) →
    holder.is_shared ≡ is_taken hs id d
taken_now names hs id key d holder h same is =
    ap (λ (x : HolderRecord). x.is_shared) is ∙ (mark_is id (get eq names.holders key) ∙ (ap (taken_by id) (h.held key ∙ ap (holder_of hs) same) ∙ sym (taken_is hs id d)))
