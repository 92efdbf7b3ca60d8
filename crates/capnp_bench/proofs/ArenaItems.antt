-- An item of a list in one segment stays one, whatever is put into it.
use Rattle.std.proofs.Common.{◌≡◌, ℕ, ◌+◌, ◌*◌, ◌<◌, List, refl, sym, subst, arith, inl, Result, Ok, Err, OnOk, OnErr}
use Rattle.capnp_arena.specs.Forest.{Changes, Forest, PartChanges, Planted}
use Rattle.capnp_arena.specs.Shape.{CompositeIn, Shape, StructIn, shape_at}
use Rattle.capnp_arena.specs.Facts.Calls.{one_by_one, parts_one_by_one, planted}
use Rattle.capnp_arena.specs.Facts.Elements.{IsInElement, element_planted, in_element}
use Rattle.capnp_arena.specs.Facts.Laws.{IsInPointer, in_pointer, in_struct, struct_planted}

same_part : (bytes : List ℕ) (s : Shape) → PartChanges s bytes bytes
same_part bytes s = record { longer = omega arith; stays = λ k l o. refl; grows = λ k o. inl o; tags = λ k t. refl }

-- what a call in the item leaves
pub record IsItemStill (start : ℕ) (old new : List ℕ) : Type 0 where
  pub item : Planted new (StructIn start 2 2)
  pub changes : PartChanges (StructIn start 2 2) old new

pub text_put : {A E : Type 0} (r : Result A E) (start : ℕ) (old new : List ℕ) → Planted old (StructIn start 2 2) → OnOk r (Forest new (start + 2)) → OnOk r (Changes (start + 2) old new) → OnErr r (new ≡ old) → IsItemStill start old new
text_put (Ok x) start old new h f c e =
    let at : start + 2 ≡ start + 2 + 0 = omega arith in
    let q : IsInPointer old new start 2 2 0 = in_pointer old new start 2 2 0 h (omega arith) (subst (Forest new) at f) (subst (λ w. Changes w old new) at c) in
    record { item = q.planted; changes = q.changes }
text_put (Err x) start old new h f c e = subst (IsItemStill start old) (sym e) (record { item = h; changes = same_part old (StructIn start 2 2) })

pub six : (s : Shape) (a b c d e f g : List ℕ) → PartChanges s a b → PartChanges s b c → PartChanges s c d → PartChanges s d e → PartChanges s e f → PartChanges s f g → PartChanges s a g
six s a b c d e f g u v w x y z = parts_one_by_one a b g s u (parts_one_by_one b c g s v (parts_one_by_one c d g s w (parts_one_by_one d e g s x (parts_one_by_one e f g s y z))))

module _ (at tag n i : ℕ) (l : i < n) where
  begins : tag + 1 + i * (2 + 2) ≡ tag + 1 + 4 * i
  begins = omega arith

  pub item_there : (bytes : List ℕ) → Forest bytes at → shape_at bytes at ≡ CompositeIn tag n 2 2 → Planted bytes (StructIn (tag + 1 + 4 * i) 2 2)
  item_there bytes f e = subst (λ k. Planted bytes (StructIn k 2 2)) begins (element_planted tag n 2 2 i l bytes (subst (Planted bytes) e (planted bytes at f)))

  pub list_still : (old new : List ℕ) → Forest old at → shape_at old at ≡ CompositeIn tag n 2 2 → Planted new (StructIn (tag + 1 + 4 * i) 2 2) → PartChanges (StructIn (tag + 1 + 4 * i) 2 2) old new → Forest new at × (shape_at new at ≡ CompositeIn tag n 2 2) × Changes at old new
  list_still old new f e g c =
      let q : IsInElement old new at tag n 2 2 i = in_element old new at tag n 2 2 i f e l (subst (λ k. Planted new (StructIn k 2 2)) (sym begins) g) (subst (λ k. PartChanges (StructIn k 2 2) old new) (sym begins) c) in
      (q.forest, q.place, q.changes)

  -- and one more call after others
  pub list_yet : (first old new : List ℕ) → Changes at first old → Forest old at × (shape_at old at ≡ CompositeIn tag n 2 2) → Planted new (StructIn (tag + 1 + 4 * i) 2 2) → PartChanges (StructIn (tag + 1 + 4 * i) 2 2) old new → Forest new at × (shape_at new at ≡ CompositeIn tag n 2 2) × Changes at first new
  list_yet first old new b f g c =
      let q = list_still old new f.0 f.1 g c in
      (q.0, q.1, one_by_one first old new at b q.2)

-- the root of a message, once the list of its first pointer was made and filled
pub root_still : (a b c : List ℕ) (start : ℕ) → Forest a 0 → shape_at a 0 ≡ StructIn start 0 5 → Changes start a b → Forest c start → Changes start b c → Forest c 0
root_still a b c start f e x g y =
    let at : start ≡ start + 0 + 0 = omega arith in
    let q : IsInPointer a c start 0 5 0 = in_pointer a c start 0 5 0 (struct_planted a 0 start 0 5 f e) (omega arith) (subst (Forest c) at g) (subst (λ w. Changes w a c) at (one_by_one a b c start x y)) in
    (in_struct a c 0 start 0 5 f e q.planted q.changes).forest

-- the same where the root's pointer was left as a builder says
pub root_left : {a c : List ℕ} {at start d p i : ℕ} → Forest a at → shape_at a at ≡ StructIn start d p → IsInPointer a c start d p i → at ≡ 0 → Forest c 0
root_left {a} {c} {at} {start} {d} {p} f e x here = subst (Forest c) here (in_struct a c at start d p f e x.planted x.changes).forest
