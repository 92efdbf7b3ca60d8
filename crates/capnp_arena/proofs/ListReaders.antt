-- A list as it is read by a reader of its pointer.
use Rattle.std.proofs.Common.{◌≡◌, ℕ, ◌+◌, ◌-◌, refl, sym, ap, ◌∙◌, Err, Ok, Result, List, [], ◌∷◌}
use Rattle.capnp_device.specs.declared.error.Error.{Error}
use Rattle.capnp_device.specs.declared.error.ErrorKind.{ErrorKind}
use Rattle.capnp_wire.specs.ElementSizes.{element_size_of}
use Rattle.capnp_wire.specs.Steps.Level.{tree_at_depth}
use Rattle.capnp_wire.specs.Locate.{CompositeAt, ListAt}
use Rattle.capnp_wire.specs.Place.{tree_below}
use Rattle.capnp_wire.specs.Reading.{as_list, empty_list}
use Rattle.capnp_wire.specs.Standing.{list_of, list_read}
use Rattle.capnp_wire.specs.Tree.{Tree}
use Rattle.capnp_wire.specs.Facts.Levels.{below_step}
use Rattle.capnp_wire.specs.declared.list_reader.ListReader.{ListReader}
use Rattle.capnp_wire.specs.declared.size.ElementSize.{ElementSize}
use Rattle.capnp_wire.specs.declared.size.ElementSize.TheVariants.{Void, Bit, Byte, TwoBytes, FourBytes, EightBytes, Pointer, InlineComposite}
use Rattle.capnp_arena.specs.Facts.Forests.{points}
use Rattle.capnp_arena.specs.Facts.Structs.{tree_composite}
use Rattle.capnp_arena.specs.Facts.Words.{target}
use Rattle.capnp_arena.specs.Forest.{Forest, tree}
use Rattle.capnp_arena.specs.Listed.{list_shape, listed_tree}
use Rattle.capnp_arena.specs.Made.{size_number}
use Rattle.capnp_arena.specs.Shape.{Shape, shape_at}
use Rattle.capnp_arena.specs.Steps.Shape.{shape_target}
use Rattle.capnp_arena.specs.declared.list_reads.ListTarget.{ListTarget}
use Rattle.capnp_arena.specs.declared.list_reads.ListTarget.TheVariants as list
use Rattle.capnp_arena.proofs.ListsRead.{plain_size_is, size_is_simple}

-- ---- by the size that the list has ----

nothing_size : (size : ElementSize) → element_size_of (empty_list size) ≡ size
nothing_size Void = refl
nothing_size Bit = refl
nothing_size Byte = refl
nothing_size TwoBytes = refl
nothing_size FourBytes = refl
nothing_size EightBytes = refl
nothing_size Pointer = refl
nothing_size InlineComposite = refl

module _ (f g : List ℕ → ℕ → Tree) (bytes : List ℕ) where
  abbrev at_depth : ℕ → ℕ → ℕ → Tree
  at_depth a size n = tree_at_depth 130 f g (ListAt bytes a size n)

  plain_own : (a n : ℕ) (size : ElementSize) → (size ≡ InlineComposite → ⊥) → as_list size (at_depth a (size_number size) n) 65 ≡ Ok (at_depth a (size_number size) n)
  plain_own a n Void h = refl
  plain_own a n Bit h = refl
  plain_own a n Byte h = refl
  plain_own a n TwoBytes h = refl
  plain_own a n FourBytes h = refl
  plain_own a n EightBytes h = refl
  plain_own a n Pointer h = refl
  plain_own a n InlineComposite h = absurd (h refl)

  structs_own : (a n d p : ℕ) → as_list InlineComposite (tree_at_depth 130 f g (CompositeAt bytes a n d p)) 65 ≡ Ok (tree_at_depth 130 f g (CompositeAt bytes a n d p))
  structs_own a n d p = refl

module _ (bytes : List ℕ) (w : ℕ) (f : Forest bytes w) where
  abbrev cut : Tree
  cut = tree_below 130 (bytes ∷ []) bytes w

  abbrev cut_at : Shape → Tree
  cut_at s = tree_at_depth 130 (tree_below (130 - 1) (bytes ∷ [])) (tree_below (130 - 2) (bytes ∷ [])) (shape_target bytes s)

  below : (s : Shape) → shape_at bytes w ≡ s → cut ≡ cut_at s
  below s e =
      below_step 130 (bytes ∷ []) bytes w
      ∙ ap (tree_at_depth 130 (tree_below (130 - 1) (bytes ∷ [])) (tree_below (130 - 2) (bytes ∷ []))) (target bytes w (shape_at bytes w) (points bytes w f) ∙ ap (shape_target bytes) e)

  pub cut_read : (l : ListTarget) → shape_at bytes w ≡ list_shape l → as_list (element_size_of (listed_tree (tree bytes w) l)) cut 65 ≡ Ok (listed_tree cut l)
  cut_read (list.Nothing size) e =
      ap (λ k. as_list k cut 65) (nothing_size size) ∙ ap (λ t. as_list size t 65) (below (list_shape (list.Nothing size)) e)
  cut_read (list.Plain l) e =
      ap (λ k. as_list k cut 65) (plain_size_is bytes w f l.start l.count l.size (size_is_simple bytes w f l.start l.count l.size e) e)
      ∙ ap (λ t. as_list l.size t 65) (below (list_shape (list.Plain l)) e)
      ∙ plain_own (tree_below (130 - 1) (bytes ∷ [])) (tree_below (130 - 2) (bytes ∷ [])) bytes l.start l.count l.size (size_is_simple bytes w f l.start l.count l.size e)
      ∙ ap Ok (sym (below (list_shape (list.Plain l)) e))
  cut_read (list.Structs l) e =
      ap (λ t. as_list (element_size_of t) cut 65) (tree_composite bytes w l.tag l.count l.data_words l.pointers f e)
      ∙ ap (λ t. as_list InlineComposite t 65) (below (list_shape (list.Structs l)) e)
      ∙ structs_own (tree_below (130 - 1) (bytes ∷ [])) (tree_below (130 - 2) (bytes ∷ [])) bytes (l.tag + 1) l.count l.data_words l.pointers
      ∙ ap Ok (sym (below (list_shape (list.Structs l)) e))

-- ---- what the reader answers ----

pub never : (r : Result ListReader Error) (t : Tree) → list_read r ≡ Ok t → ((l : ListReader) → r ≡ Ok l → ⊥) → ⊥
never (Ok l) t e h = h l refl
never (Err error) t e h = let k : Err error.kind ≡ Ok t = e in cc

abbrev okay : Tree → Result Tree ErrorKind
okay t = Ok t

ok_same : (x y : Tree) → okay x ≡ okay y → x ≡ y
ok_same x y h = cc

pub list_is : (r : Result ListReader Error) (l : ListReader) (t : Tree) → r ≡ Ok l → list_read r ≡ Ok t → list_of l ≡ t
list_is r l t e h = ok_same (list_of l) t (sym (ap list_read e) ∙ h)

-- by what the calls say
pub reader_read : (bytes words : List ℕ) (w : ℕ) (f : Forest bytes w) (l : ListTarget) → shape_at bytes w ≡ list_shape l → (size : ElementSize) → size ≡ element_size_of (listed_tree (tree bytes w) l)
    → words ≡ bytes → (t : Tree) → t ≡ tree_below 130 (words ∷ []) words w → (levels : ℕ) → levels ≡ 65 → (r : Result ListReader Error) → list_read r ≡ as_list size t levels
    → list_read r ≡ Ok (listed_tree (tree_below 130 (bytes ∷ []) bytes w) l)
reader_read bytes words w f l e size a b t c levels d r h =
    h ∙ ap (λ k. as_list k t levels) a
    ∙ ap (λ k. as_list (element_size_of (listed_tree (tree bytes w) l)) k levels) (c ∙ ap (λ x. tree_below 130 (x ∷ []) x w) b)
    ∙ ap (as_list (element_size_of (listed_tree (tree bytes w) l)) (tree_below 130 (bytes ∷ []) bytes w)) d
    ∙ cut_read bytes w f l e
