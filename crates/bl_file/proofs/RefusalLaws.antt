-- Each fault that the checks of a file give has its cause in the file's bytes.
use Rattle.std.proofs.Common.{◌≡◌, ◌⊎◌, ◌+◌, ◌≤◌, ℕ, Bool, true, false, cond, List, [], ◌∷◌, length, Option, Some, None, Result, Ok, Err, refl, sym, ap, subst, inl, inr}
use Rattle.std.specs.Prelude.{nat_lt, option_map}
use Rattle.std.specs.Result.{result_err}
use Rattle.std.proofs.lemmas.Bool.{ltb-true}
use Rattle.bl_format.specs.declared.file.Header.{Header}
use Rattle.bl_format.specs.declared.file.Head.{Head}
use Rattle.bl_format.specs.declared.catalogue.Catalogue.{Catalogue}
use Rattle.bl_format.specs.declared.layout.LayoutFault.{LayoutFault}
use Rattle.bl_format.specs.Words.{find_map}
use Rattle.bl_format.specs.Limits.{most_blocks, most_input_bytes}
use Rattle.bl_format.specs.Blocks.{header_of, blocks_of, Reads}
use Rattle.bl_format.specs.Schema.{catalogue_of}
use Rattle.bl_format.specs.Layout.{layout_fault}
use Rattle.bl_format.specs.Nodes.{NodeFault, BadStruct as NoStruct, ShortBlock as TooShort, payload, catalogues_in, nodes_in, node_fault, ReadsCatalogue}
use Rattle.bl_format.proofs.BlocksOf.{reading_of_blocks, blocks_of_few, blocks_of_cause}
use Rattle.bl_file.specs.declared.fault.OpenFault.{OpenFault}
use Rattle.bl_file.specs.declared.fault.OpenFault.TheVariants as faults
use Rattle.bl_file.specs.Opening.{no_header, no_catalogue, header_in, blocks_in, first_payload, catalogue_read, catalogue_in, catalogue_fault, named_fault, fault_of_node, first_of, format_fault, open_fault}
use Rattle.bl_file.specs.Refusals.{HasOpenFault}
use Rattle.bl_file.proofs.Checks.{no_fault, value_of, one_catalogue}

-- ---- a check that gives a fault

-- either the first check gives the fault, or it passes and one of the others does
stops : (check : Option OpenFault) (checks : List (Option OpenFault)) (e : OpenFault) → first_of (check ∷ checks) ≡ Some e
    → (check ≡ Some e) ⊎ ((check ≡ None) × (first_of checks ≡ Some e))
stops None checks e is = inr (refl, is)
stops (Some d) checks e is = inl is

fault_of : {A : Type 0} (f : A → OpenFault) (o : Option A) (e : OpenFault) → option_map f o ≡ Some e → (a : A) × (o ≡ Some a) × (e ≡ f a)
fault_of f None e is = cc
fault_of f (Some a) e is = (a, refl, cc)

error_of : {A E : Type 0} (r : Result A E) (e : E) → result_err r ≡ Some e → r ≡ Err e
error_of (Ok a) e is = cc
error_of (Err d) e is = let same : d ≡ e = cc in ap Err same

-- ---- each check of bytes

module _ (used : ℕ) (b : List ℕ) (e : OpenFault) where
  abbrev h : Header
  h = header_in b

  abbrev blocks : List Head
  blocks = blocks_in b

  abbrev c : Catalogue
  c = catalogue_in b

  abbrev head_check : Option OpenFault
  head_check = option_map faults.Head (result_err (header_of b))

  abbrev block_check : Option OpenFault
  block_check = option_map faults.Block (result_err (blocks_of (header_in b) b))

  abbrev one_check : Option OpenFault
  one_check = catalogue_fault (catalogues_in (blocks_in b))

  abbrev sdna_check : Option OpenFault
  sdna_check = option_map faults.Sdna (result_err (catalogue_read b))

  abbrev layout_check : Option OpenFault
  layout_check = option_map (named_fault (catalogue_in b)) (layout_fault (catalogue_in b) (header_in b).width)

  abbrev node_check : Option OpenFault
  node_check = option_map fault_of_node (find_map (node_fault (catalogue_in b)) (nodes_in (blocks_in b)))

  by_catalogues : Reads b h blocks → length blocks ≤ most_blocks → (xs : List Head) → catalogues_in blocks ≡ xs → catalogue_fault xs ≡ Some e → HasOpenFault used b e
  by_catalogues reads few [] are is =
      let same : faults.NoCatalogue ≡ e = cc in
      subst (HasOpenFault used b) same (record { header = h; blocks = blocks; reads = reads; few = few; fact = are })
  by_catalogues reads few (x ∷ []) are is = cc
  by_catalogues reads few (x ∷ y ∷ ys) are is =
      let same : faults.TwoCatalogues y.at ≡ e = cc in
      subst (HasOpenFault used b) same (record { header = h; blocks = blocks; reads = reads; few = few; fact = rw are refl })

  of_node : ReadsCatalogue b h blocks c → length blocks ≤ most_blocks → layout_fault c h.width ≡ None → (fault : NodeFault) → find_map (node_fault c) (nodes_in blocks) ≡ Some fault → HasOpenFault used b (fault_of_node fault)
  of_node reads few none (NoStruct at) is = record { header = h; blocks = blocks; catalogue = c; reads = reads; few = few; fact = (none, is) }
  of_node reads few none (TooShort at) is = record { header = h; blocks = blocks; catalogue = c; reads = reads; few = few; fact = (none, is) }

  after_layout : ReadsCatalogue b h blocks c → length blocks ≤ most_blocks → layout_fault c h.width ≡ None → (node_check ≡ Some e) ⊎ ((node_check ≡ None) × (first_of [] ≡ Some e)) → HasOpenFault used b e
  after_layout reads few none (inl is) =
      let f = fault_of fault_of_node (find_map (node_fault c) (nodes_in blocks)) e is in
      subst (HasOpenFault used b) (sym f.2) (of_node reads few none f.0 f.1)
  after_layout reads few none (inr rest) = let never = rest.1 in cc

  of_layout : ReadsCatalogue b h blocks c → length blocks ≤ most_blocks → (fault : LayoutFault) → layout_fault c h.width ≡ Some fault → HasOpenFault used b (named_fault c fault)
  unfolding named_fault
  of_layout reads few fault is = record { header = h; blocks = blocks; catalogue = c; reads = reads; few = few; fact = (fault, is, refl) }

  after_catalogue : ReadsCatalogue b h blocks c → length blocks ≤ most_blocks → (layout_check ≡ Some e) ⊎ ((layout_check ≡ None) × (first_of (node_check ∷ []) ≡ Some e)) → HasOpenFault used b e
  after_catalogue reads few (inl is) =
      let f = fault_of (named_fault c) (layout_fault c h.width) e is in
      subst (HasOpenFault used b) (sym f.2) (of_layout reads few f.0 f.1)
  after_catalogue reads few (inr rest) = after_layout reads few (no_fault (named_fault c) (layout_fault c h.width) rest.0) (stops node_check [] e rest.1)

  after_one : header_of b ≡ Ok h → blocks_of h b ≡ Ok blocks → (x : Head) → catalogues_in blocks ≡ x ∷ [] → (sdna_check ≡ Some e) ⊎ ((sdna_check ≡ None) × (first_of (layout_check ∷ node_check ∷ []) ≡ Some e)) → HasOpenFault used b e
  after_one header read x one (inl is) =
      let f = fault_of faults.Sdna (result_err (catalogue_read b)) e is in
      let fails : catalogue_of h.order (payload h b x) ≡ Err f.0 = subst (λ (xs : List Head). catalogue_of h.order (first_payload h b xs) ≡ Err f.0) one (error_of (catalogue_read b) f.0 f.1) in
      subst (HasOpenFault used b) (sym f.2) (record { header = h; blocks = blocks; reads = reading_of_blocks b h blocks header read; few = blocks_of_few b h blocks read; fact = (x, one, fails) })
  after_one header read x one (inr rest) =
      let catalogue = value_of (catalogue_read b) no_catalogue (no_fault faults.Sdna (result_err (catalogue_read b)) rest.0) in
      let own : catalogue_of h.order (payload h b x) ≡ Ok c = subst (λ (xs : List Head). catalogue_of h.order (first_payload h b xs) ≡ Ok c) one catalogue in
      after_catalogue (record { reads = reading_of_blocks b h blocks header read; place = x; one_catalogue = one; catalogue = own }) (blocks_of_few b h blocks read) (stops layout_check (node_check ∷ []) e rest.1)

  after_blocks : header_of b ≡ Ok h → blocks_of h b ≡ Ok blocks → (one_check ≡ Some e) ⊎ ((one_check ≡ None) × (first_of (sdna_check ∷ layout_check ∷ node_check ∷ []) ≡ Some e)) → HasOpenFault used b e
  after_blocks header read (inl is) = by_catalogues (reading_of_blocks b h blocks header read) (blocks_of_few b h blocks read) (catalogues_in blocks) refl is
  after_blocks header read (inr rest) =
      let one = one_catalogue (catalogues_in blocks) rest.0 in
      after_one header read one.0 one.1 (stops sdna_check (layout_check ∷ node_check ∷ []) e rest.1)

  after_header : header_of b ≡ Ok h → (block_check ≡ Some e) ⊎ ((block_check ≡ None) × (first_of (one_check ∷ sdna_check ∷ layout_check ∷ node_check ∷ []) ≡ Some e)) → HasOpenFault used b e
  after_header header (inl is) =
      let f = fault_of faults.Block (result_err (blocks_of h b)) e is in
      subst (HasOpenFault used b) (sym f.2) (h, blocks_of_cause b h f.0 header (error_of (blocks_of h b) f.0 f.1))
  after_header header (inr rest) =
      after_blocks header (value_of (blocks_of h b) [] (no_fault faults.Block (result_err (blocks_of h b)) rest.0)) (stops one_check (sdna_check ∷ layout_check ∷ node_check ∷ []) e rest.1)

  by_header : (head_check ≡ Some e) ⊎ ((head_check ≡ None) × (first_of (block_check ∷ one_check ∷ sdna_check ∷ layout_check ∷ node_check ∷ []) ≡ Some e)) → HasOpenFault used b e
  by_header (inl is) =
      let f = fault_of faults.Head (result_err (header_of b)) e is in
      subst (HasOpenFault used b) (sym f.2) (error_of (header_of b) f.0 f.1)
  by_header (inr rest) =
      after_header (value_of (header_of b) no_header (no_fault faults.Head (result_err (header_of b)) rest.0)) (stops block_check (one_check ∷ sdna_check ∷ layout_check ∷ node_check ∷ []) e rest.1)

  format_refused : format_fault b ≡ Some e → HasOpenFault used b e
  unfolding format_fault
  format_refused is = by_header (stops head_check (block_check ∷ one_check ∷ sdna_check ∷ layout_check ∷ node_check ∷ []) e is)

  by_length : (large : Bool) → nat_lt most_input_bytes (used + length b) ≡ large → cond large (Some (faults.TooLarge (used + length b))) (format_fault b) ≡ Some e → HasOpenFault used b e
  by_length true is gives =
      let same : faults.TooLarge (used + length b) ≡ e = cc in
      subst (HasOpenFault used b) same (refl, ltb-true most_input_bytes (used + length b) is)
  by_length false is gives = format_refused gives

  -- what the checks of a file refuse has the fault that is told
  pub open_refused : open_fault used (Some b) ≡ Some e → HasOpenFault used b e
  unfolding open_fault
  open_refused is = by_length (nat_lt most_input_bytes (used + length b)) refl is
