-- What a source entry holds fits its node: its pointers name what is in scope, and its fields fit the output's struct.
use Rattle.std.proofs.Common.{◌≡◌, ℕ, suc, ◌+◌, ◌*◌, ◌^◌, ◌≤◌, ◌<◌, All, List, [], ◌∷◌, length, get_or, drop, Option, Some, None, refl, sym, ap, subst, arith, mul-le-mul_right}
use Rattle.std.specs.Prelude.{◌==◌, ◌&&◌, map, option_map, option_and_then}
use Rattle.std.specs.List.{enumerate_from, find}
use Rattle.std.proofs.lemmas.List.{length-take-le, length-drop}
use Rattle.std.proofs.lemmas.List.Elements.{All-nil, All-cons, All-head, All-tail, All-map, All-take, All-drop, All-weaker}
use Rattle.bl_num.specs.Numbers.{pointer_bytes}
use Rattle.bl_format.specs.declared.file.Head.{Head}
use Rattle.bl_format.specs.Words.{part, numbers_below}
use Rattle.bl_format.specs.Layout.{NamedLeaf, named_leaves, struct_length, first_fault}
use Rattle.bl_format.specs.Nodes.{File, payload, group_of}
use Rattle.bl_format.specs.Graph.{Target, Naming, Value, Node, fields, node_elements, file_codes, file_names}
use Rattle.bl_format.proofs.LeafBytes.{length-leaf_bytes}
use Rattle.bl_format.proofs.LeafKinds.{named_leaves-fit}
use Rattle.bl_selection.specs.declared.draft.Draft.{Draft}
use Rattle.bl_selection.specs.declared.draft.MadeTo.{MadeTo}
use Rattle.bl_selection.specs.declared.draft.Override.{Override}
use Rattle.bl_selection.specs.Fate.{carried_value}
use Rattle.bl_selection.specs.Selection.{file_at, node_at, index_under, image_of, target_in_scope, entry_names, entry_at, given_or, override_at, overridden_cells, source_cells, selection_graph}
use Rattle.bl_selection.specs.Written.{address_of}
use Rattle.bl_selection.specs.Fits.{ValueFits, slots, FieldsFit}
use Rattle.bl_selection.specs.GraphFits.{names_for, IsInScope}
use Rattle.bl_selection.proofs.AddressesName.{names_for-in_scope}
use Rattle.bl_selection.proofs.CarriedFits.{IsSource, TargetsFit, carried_value-fits}
use Rattle.bl_selection.proofs.CellsFit.{cells-fit, numbers_below-lt}
use Rattle.bl_selection.proofs.EntriesAsNodes.{IsItsName, IsInScope-target, length-selection_graph}

-- ---- what pointers name

-- each image is an entry, whose made struct has the number of its name
abbrev pub ImagesStand : List File → Draft → Type 0
ImagesStand files d =
    (i n t : ℕ) → image_of d i n ≡ Some t → (t < length d.entries) × IsItsName d.catalogue (entry_at d t)

-- the addresses of all entries fit a pointer
abbrev pub AddressesFit : Draft → Type 0
AddressesFit d = (e : ℕ) → e < length d.entries → address_of (Some e) < 256 ^ pointer_bytes d.header.width

module _ (files : List File) (d : Draft) (images : ImagesStand files d) where
  target-in_scope : (e t : ℕ) (o : Target) → t < length d.entries → IsItsName d.catalogue (entry_at d t)
      → target_in_scope files d e t ≡ o → IsInScope d.catalogue (selection_graph files d) e o
  target-in_scope e t None lt named is = tt
  target-in_scope e t (Some u) lt named is = IsInScope-target files d e t u lt named is

  image-in_scope : (e i m : ℕ) (o : Target) → image_of d i m ≡ o → IsInScope d.catalogue (selection_graph files d) e (option_and_then (target_in_scope files d e) o)
  image-in_scope e i m None is = tt
  image-in_scope e i m (Some t) is =
      let own = images i m t is in
      target-in_scope e t (target_in_scope files d e t) own.0 own.1 refl

  named-in_scope : (e i : ℕ) (o : Target) → IsInScope d.catalogue (selection_graph files d) e (option_and_then (target_in_scope files d e) (option_and_then (image_of d i) o))
  named-in_scope e i None = tt
  named-in_scope e i (Some m) = image-in_scope e i m (image_of d i m) refl

  -- an address in a source's node names what is in scope of the entry
  pub entry_names-in_scope : (e i n address : ℕ) → IsInScope d.catalogue (selection_graph files d) e (entry_names files d e i n address)
  unfolding entry_names
  entry_names-in_scope e i n address =
      named-in_scope e i (file_names (file_at files i) (group_of (file_codes (file_at files i)) n) address)

address_fits : (d : Draft) (nodes : List Node) (e : ℕ) (to : Target) → AddressesFit d → length nodes ≡ length d.entries
    → 0 < 256 ^ pointer_bytes d.header.width → IsInScope d.catalogue nodes e to → address_of to < 256 ^ pointer_bytes d.header.width
address_fits d nodes e None fit same some scope = some
address_fits d nodes e (Some t) fit same some scope = fit t (omega (arith, same, scope.0))

-- so what they name fits
pub entry_names-fit : (files : List File) (d : Draft) (e i n : ℕ) → ImagesStand files d → AddressesFit d → 0 < 256 ^ pointer_bytes d.header.width
    → TargetsFit (names_for d.catalogue (selection_graph files d) e) d.header.width (entry_names files d e i n)
entry_names-fit files d e i n images fit some address =
    let to : Target = entry_names files d e i n address in
    let nodes : List Node = selection_graph files d in
    let scope : IsInScope d.catalogue nodes e to = entry_names-in_scope files d images e i n address in
    (address_fits d nodes e to fit (length-selection_graph files d) some scope, names_for-in_scope d.catalogue nodes e to scope)

-- ---- the elements of a source's node

-- a node's payload holds its elements
abbrev pub HoldsElements : File → Head → Type 0
HoldsElements f x = x.count * struct_length f.catalogue x.index ≤ length (payload f.header f.bytes x)

element_long : (bytes : List ℕ) (size count k : ℕ) → count * size ≤ length bytes → k < count → length (part bytes (k * size) size) ≡ size
element_long bytes size count k within lt =
    let more : suc k * size ≤ count * size = mul-le-mul_right size lt in
    length-take-le size (drop (k * size) bytes) (omega (arith, more, within, length-drop (k * size) bytes))

-- each of its elements has as many bytes as the struct
pub node_elements-long : (f : File) (x : Head) → HoldsElements f x → All (λ bytes. length bytes ≡ struct_length f.catalogue x.index) (node_elements f x)
node_elements-long f x holds =
    let size : ℕ = struct_length f.catalogue x.index in
    let bytes : List ℕ = payload f.header f.bytes x in
    All-map (λ (b : List ℕ). length b ≡ size) (λ (k : ℕ). part bytes (k * size) size) (numbers_below x.count)
    (All-weaker (λ k. k < x.count) (λ k. length (part bytes (k * size) size) ≡ size) (λ k lt. element_long bytes size x.count k holds lt) (numbers_below x.count) (numbers_below-lt x.count))

-- the bytes of an element: as many as the struct has, each below 256
pub record IsElement (size : ℕ) (bytes : List ℕ) : Type 0 where
  pub long : length bytes ≡ size
  pub below : All (λ b. b < 256) bytes

pub node_elements-are : (f : File) (x : Head) → All (λ b. b < 256) f.bytes → HoldsElements f x → All (IsElement (struct_length f.catalogue x.index)) (node_elements f x)
node_elements-are f x all holds =
    let size : ℕ = struct_length f.catalogue x.index in
    let bytes : List ℕ = payload f.header f.bytes x in
    All-map (IsElement size) (λ (k : ℕ). part bytes (k * size) size) (numbers_below x.count)
    (All-weaker (λ k. k < x.count) (λ k. IsElement size (part bytes (k * size) size))
    (λ k lt. record {
      long = element_long bytes size x.count k holds lt;
      below = All-take (λ b. b < 256) size (drop (k * size) bytes) (All-drop (λ b. b < 256) (k * size) bytes (All-take (λ b. b < 256) x.len _ (All-drop (λ b. b < 256) _ f.bytes all)));
    })
    (numbers_below x.count) (numbers_below-lt x.count))

-- ---- what they are carried to

-- where nothing is overridden, nothing is given in the place of a value
pub no_override : (d : Draft) (e p j k : ℕ) → d.overrides ≡ [] → override_at d e p j k ≡ None
no_override d e p j k none =
    ap (λ (os : List Override). option_map (λ (o : Override). o.value) (find (λ (o : Override). o.entry == e && o.part == p && o.leaf == j && o.element == k) os)) none

pub given_or-none : (x : NamedLeaf) (v : Value Target) (o : Option MadeTo) → o ≡ None → given_or x v o ≡ v
given_or-none x v o none = ap (given_or x v) none

module _ (files : List File) (d : Draft) (e i n : ℕ) (names : Naming Target) (null : names 0 ≡ None)
    (targets : TargetsFit names d.header.width (entry_names files d e i n)) (none : d.overrides ≡ [])
    (old : first_fault (file_at files i).catalogue (file_at files i).header.width ≡ None)
    (new : first_fault d.catalogue d.header.width ≡ None) where
  abbrev f : File
  f = file_at files i

  abbrev x : Head
  x = node_at files i n

  -- the number of the struct in the output's catalogue
  abbrev t : ℕ
  t = index_under d.catalogue f.catalogue x.index

  abbrev from : List NamedLeaf
  from = named_leaves f.catalogue f.header.width x.index

  abbrev to : List NamedLeaf
  to = named_leaves d.catalogue d.header.width t

  sources : (bytes : List ℕ) → IsElement (struct_length f.catalogue x.index) bytes → All (IsSource f.header.width bytes) from
  sources bytes is k y lt = record {
    kind = named_leaves-fit f.catalogue f.header.width x.index old k y lt;
    whole = λ j below. length-leaf_bytes f.catalogue f.header.width x.index bytes old is.long k y lt j below;
  }

  element-fits : (p : ℕ) (bytes : List ℕ) → IsElement (struct_length f.catalogue x.index) bytes
      → FieldsFit names (slots to) (fields (overridden_cells d e p t (λ (j : ℕ). carried_value None (entry_names files d e i n) f.header.order from bytes)))
  element-fits p bytes is =
      cells-fit names (λ j y k. given_or y (carried_value None (entry_names files d e i n) f.header.order from bytes y k) (override_at d e p j k)) to
      (λ m y lt j k below.
      let own : NamedLeaf = get_or to m y in
      let value : Value Target = carried_value None (entry_names files d e i n) f.header.order from bytes own k in
      let fits : ValueFits names own.kind own.size value = carried_value-fits names (entry_names files d e i n) f.header.order f.header.width d.header.width null targets from bytes own k is.below (sources bytes is) (named_leaves-fit d.catalogue d.header.width t new m y lt) in
      subst (ValueFits names own.kind own.size) (sym (given_or-none own value (override_at d e p j k) (no_override d e p j k none))) fits)

  elements-fit : (q : ℕ) (bs : List (List ℕ)) → All (IsElement (struct_length f.catalogue x.index)) bs
      → All (FieldsFit names (slots to)) (map fields (map (λ p. overridden_cells d e p.0 t (λ (j : ℕ). carried_value None (entry_names files d e i n) f.header.order from p.1)) (enumerate_from q bs)))
  elements-fit q [] all = All-nil (FieldsFit names (slots to))
  elements-fit q (b ∷ bs) all =
      All-cons (FieldsFit names (slots to)) _ _
      (element-fits q b (All-head (IsElement (struct_length f.catalogue x.index)) b bs all))
      (elements-fit (q + 1) bs (All-tail (IsElement (struct_length f.catalogue x.index)) b bs all))

  -- the fields of a source entry fit the struct of the output
  pub source_fields-fit : All (λ b. b < 256) f.bytes → HoldsElements f x → All (FieldsFit names (slots to)) (map fields (source_cells files d e i n))
  source_fields-fit all holds = elements-fit 0 (node_elements f x) (node_elements-are f x all holds)
