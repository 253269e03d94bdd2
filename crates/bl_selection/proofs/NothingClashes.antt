-- Under a file's own catalogue, at any width, nothing clashes: each leaf meets the one that it was, and so its own kind.
use Rattle.std.proofs.Common.{◌≡◌, ℕ, zero, suc, ◌<◌, Bool, true, false, cond, All, List, [], ◌∷◌, length, get_or, Option, Some, None, refl, sym, ap, subst, ◌∙◌, arith}
use Rattle.std.specs.Prelude.{◌==◌, option_map, unwrap_or}
use Rattle.std.specs.List.{find}
use Rattle.std.specs.Option.{option_or}
use Rattle.std.specs.Str.{bytes_eq}
use Rattle.std.proofs.Math.Path.{fun_ext}
use Rattle.std.proofs.lemmas.List.{get_or-map, length-map}
use Rattle.std.proofs.lemmas.List.Elements.{All-head, All-tail}
use Rattle.std.proofs.lemmas.Slice.Eq.{bytes_eq-Decides}
use Rattle.bl_num.specs.declared.number.Width.{Width}
use Rattle.bl_format.specs.declared.catalogue.Catalogue.{Catalogue}
use Rattle.bl_format.specs.declared.catalogue.StructEntry.{StructEntry}
use Rattle.bl_format.specs.declared.file.Header.{Header}
use Rattle.bl_format.specs.declared.file.Head.{Head}
use Rattle.bl_format.specs.declared.layout.Kind.{Kind}
use Rattle.bl_format.specs.declared.layout.Kind.TheVariants as kinds
use Rattle.bl_format.specs.Words.{find_map, first_place}
use Rattle.bl_format.specs.Schema.{IsCatalogue}
use Rattle.bl_format.specs.Layout.{NamedLeaf, named_leaves, type_entry, struct_name, struct_named, struct_number, first_fault, HasLayout}
use Rattle.bl_format.specs.Nodes.{File, Accepted}
use Rattle.bl_format.specs.Rewidth.{rewidth}
use Rattle.bl_format.proofs.CatalogueRead.{IsCatalogue-can_be_read}
use Rattle.bl_format.proofs.MemberPasses.{first_fault-none}
use Rattle.bl_format.proofs.RewidthKeeps.{rewidth-structs, rewidth-type_name}
use Rattle.bl_format.proofs.RewidthLeaves.{Outline, outline_of, rewidth-named_leaves}
use Rattle.bl_selection.specs.declared.draft.Draft.{Draft}
use Rattle.bl_selection.specs.declared.draft.Entry.{Entry}
use Rattle.bl_selection.specs.declared.draft.Entry.TheVariants as entries
use Rattle.bl_selection.specs.Fate.{ways_meet, same_type, kinds_clash, source_leaf, clashes, first_clash, direct_member}
use Rattle.bl_selection.specs.Selection.{no_head, index_under, clash_of, selection_clash, whole_selection}
use Rattle.bl_selection.proofs.DraftFacts.{IsSource0, whole-sources}
use Rattle.bl_selection.proofs.OwnFormGraph.{accepted-CanBeRead, accepted-HaveOwnIndex}
use Rattle.bl_selection.proofs.OwnFormNames.{HaveOwnIndex}
use Rattle.bl_selection.proofs.OwnFormWays.{source_leaf-own}
use Rattle.bl_selection.proofs.SameWidth.{rewidth-same}

-- ---- one struct

kinds_alike : (kind : Kind) → kinds_clash true kind kind ≡ false
kinds_alike (kinds.Whole whole) = refl
kinds_alike (kinds.Bits n) = refl
kinds_alike (kinds.Pointer depth t) = refl
kinds_alike kinds.Opaque = refl

-- the test of `clashes` on the leaf that is met
abbrev clash_with : NamedLeaf → Option NamedLeaf → Bool
clash_with y None = false
clash_with y (Some x) = kinds_clash (same_type x y) x.kind y.kind

-- leaves of one outline don't clash
alike : (x y : NamedLeaf) → outline_of y ≡ outline_of x → kinds_clash (same_type x y) x.kind y.kind ≡ false
alike x y same =
    let name : same_type x x ≡ true = (bytes_eq-Decides x.type_name x.type_name).1 refl in
    (λ i. kinds_clash (bytes_eq x.type_name (same i).type_name) x.kind (same i).kind) ∙ ap (λ b. kinds_clash b x.kind x.kind) name ∙ kinds_alike x.kind

-- where no element passes, none is found
pub find-none : {X : Type 0} (p : X → Bool) (xs : List X) → All (λ x. p x ≡ false) xs → find p xs ≡ None
find-none p [] none = refl
find-none p (x ∷ xs) none =
    ap (λ b. cond b (Some x) (find p xs)) (All-head (λ x. p x ≡ false) x xs none) ∙ find-none p xs (All-tail (λ x. p x ≡ false) x xs none)

module _ (c : Catalogue) (v w : Width) (s : ℕ) (is : IsCatalogue c) (no_fault : first_fault c v ≡ None) where
  abbrev xs : List NamedLeaf
  xs = named_leaves c v s

  -- the same leaves at another width
  abbrev ys : List NamedLeaf
  ys = named_leaves (rewidth c v w) w s

  as_many : length ys ≡ length xs
  as_many = sym (length-map ys outline_of) ∙ ap length (rewidth-named_leaves c v w s is no_fault) ∙ length-map xs outline_of

  outline_at : (j : ℕ) (d : NamedLeaf) → j < length ys → outline_of (get_or ys j d) ≡ outline_of (get_or xs j d)
  outline_at j d lt =
      sym (get_or-map outline_of ys j d (outline_of d) lt)
      ∙ ap (λ (os : List Outline). get_or os j (outline_of d)) (rewidth-named_leaves c v w s is no_fault)
      ∙ get_or-map outline_of xs j d (outline_of d) (omega (arith, lt, as_many))

  -- a leaf at another width meets the one that it was
  meets_own : (j : ℕ) (d : NamedLeaf) → j < length ys → source_leaf xs (get_or ys j d) ≡ Some (get_or xs j d)
  meets_own j d lt =
      let same = outline_at j d lt in
      (λ i. find (λ (x : NamedLeaf). ways_meet x.way (same i).way) xs) ∙ source_leaf-own c v s no_fault j d (omega (arith, lt, as_many))

  -- so none clashes
  first_clash-rewidth : first_clash xs ys ≡ None
  unfolding first_clash
  first_clash-rewidth =
      ap (λ o. option_map (λ (y : NamedLeaf). direct_member y.way) o)
      (find-none (clashes xs) ys
      (λ j d lt. ap (clash_with (get_or ys j d)) (meets_own j d lt) ∙ alike (get_or xs j d) (get_or ys j d) (outline_at j d lt)))

-- at another width the structs of all names have the same numbers
pub struct_number-rewidth : (c : Catalogue) (v w : Width) (name : List ℕ) → struct_number (rewidth c v w) name ≡ struct_number c name
unfolding struct_named
struct_number-rewidth c v w name =
    let test : (λ (x : StructEntry). bytes_eq (type_entry (rewidth c v w) x.type_number).name name) ≡ (λ (x : StructEntry). bytes_eq (type_entry c x.type_number).name name) =
    fun_ext (λ (x : StructEntry). ap (λ (text : List ℕ). bytes_eq text name) (rewidth-type_name c v w x.type_number)) in
    λ i. unwrap_or (first_place (test i) (rewidth-structs c v w i)) 0

-- and those of its structs theirs
pub index_under-rewidth : (c : Catalogue) (v w : Width) (s : ℕ) → index_under (rewidth c v w) c s ≡ index_under c c s
index_under-rewidth c v w zero = refl
index_under-rewidth c v w (suc s) = struct_number-rewidth c v w (struct_name c (suc s))

-- ---- all entries

module _ (f : File) (d : Draft) (own : HaveOwnIndex f) (is : IsCatalogue f.catalogue) (no_fault : first_fault f.catalogue f.header.width ≡ None)
    (catalogue : d.catalogue ≡ rewidth f.catalogue f.header.width d.header.width) where
  node_clash : (n : ℕ) → clash_of (f ∷ []) d (entries.Source 0 n) ≡ None
  node_clash n = by_index (x.index == 0)
    where
      x : Head
      x = get_or f.nodes n no_head

      xs : List NamedLeaf
      xs = named_leaves f.catalogue f.header.width x.index

      by_index : (b : Bool) → cond b None (first_clash xs (named_leaves d.catalogue d.header.width (index_under d.catalogue f.catalogue x.index))) ≡ None
      by_index true = refl
      by_index false =
          (λ i. first_clash xs (named_leaves (catalogue i) d.header.width (index_under (catalogue i) f.catalogue x.index)))
          ∙ ap (λ (s : ℕ). first_clash xs (named_leaves (rewidth f.catalogue f.header.width d.header.width) d.header.width s)) (index_under-rewidth f.catalogue f.header.width d.header.width x.index ∙ own n)
          ∙ first_clash-rewidth f.catalogue f.header.width d.header.width x.index is no_fault

  entry_clash : (x : Entry) → IsSource0 x → clash_of (f ∷ []) d x ≡ None
  entry_clash (entries.Source i n) file = ap (λ (k : ℕ). clash_of (f ∷ []) d (entries.Source k n)) file ∙ node_clash n
  entry_clash (entries.Made m) file = refl
  entry_clash (entries.Raw code bytes) file = refl

  entries_clash : (es : List Entry) → All IsSource0 es → find_map (clash_of (f ∷ []) d) es ≡ None
  entries_clash [] all = refl
  entries_clash (x ∷ es) all =
      ap (λ o. option_or o (find_map (clash_of (f ∷ []) d) es)) (entry_clash x (All-head IsSource0 x es all))
      ∙ entries_clash es (All-tail IsSource0 x es all)

  -- in a draft of a file's nodes under the file's own catalogue, at any width, nothing clashes
  pub selection_clash-rewidth : All IsSource0 d.entries → selection_clash (f ∷ []) d ≡ None
  unfolding selection_clash
  selection_clash-rewidth sources = entries_clash d.entries sources

-- so it is in the selection of all nodes of an accepted file, in any form
pub whole_selection-no_clash : (b : List ℕ) (f : File) (h : Header) → All (λ x. x < 256) b → Accepted b f
    → selection_clash (f ∷ []) (whole_selection f h (rewidth f.catalogue f.header.width h.width)) ≡ None
whole_selection-no_clash b f h bytes accepted =
    let c : Catalogue = rewidth f.catalogue f.header.width h.width in
    selection_clash-rewidth f (whole_selection f h c) (accepted-HaveOwnIndex b f bytes accepted)
    (IsCatalogue-can_be_read f.catalogue (accepted-CanBeRead b f bytes accepted))
    (first_fault-none f.catalogue f.header.width accepted.no_layout_fault) refl (whole-sources f h c)

-- and in the file's own
pub own_selection-no_clash : (b : List ℕ) (f : File) → All (λ x. x < 256) b → Accepted b f
    → selection_clash (f ∷ []) (whole_selection f f.header f.catalogue) ≡ None
own_selection-no_clash b f bytes accepted =
    let layout : HasLayout f.catalogue f.header.width = record { can_be_read = accepted-CanBeRead b f bytes accepted; no_fault = accepted.no_layout_fault } in
    subst (λ (c : Catalogue). selection_clash (f ∷ []) (whole_selection f f.header c) ≡ None) (rewidth-same f.catalogue f.header.width layout)
    (whole_selection-no_clash b f f.header bytes accepted)
