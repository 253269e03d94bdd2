-- How what is read of some bytes decides their checks.
use Rattle.std.proofs.Common.{◌≡◌, ◌≤◌, ◌<◌, ◌+◌, ℕ, Bool, true, false, List, [], ◌∷◌, length, Option, Some, None, Result, Ok, Err, refl, sym, ap, subst, ◌∙◌, arith}
use Rattle.std.specs.Prelude.{option_map}
use Rattle.std.specs.Result.{result_err, result_unwrap_or}
use Rattle.std.proofs.lemmas.Bool.{le-ltb}
use Rattle.bl_format.specs.declared.file.Header.{Header}
use Rattle.bl_format.specs.declared.file.Head.{Head}
use Rattle.bl_format.specs.declared.catalogue.Catalogue.{Catalogue}
use Rattle.bl_format.specs.Limits.{most_blocks, most_input_bytes}
use Rattle.bl_format.specs.Words.{find_map}
use Rattle.bl_format.specs.Blocks.{header_of, blocks_of}
use Rattle.bl_format.specs.Schema.{catalogue_of}
use Rattle.bl_format.specs.Layout.{layout_fault}
use Rattle.bl_format.specs.Nodes.{File, payload, is_catalogue, catalogues_in, nodes_in, node_fault, Accepted}
use Rattle.bl_format.proofs.BlocksOf.{blocks_of_reading, reading_of_blocks}
use Rattle.bl_file.specs.declared.fault.OpenFault.{OpenFault}
use Rattle.bl_file.specs.declared.fault.OpenFault.TheVariants.{Head as InHead, Block as InBlock, Sdna}
use Rattle.bl_file.specs.Opening.{no_header, no_catalogue, header_in, blocks_in, first_payload, catalogue_read, catalogue_in, file_in, catalogue_fault, named_fault, fault_of_node, first_of, format_fault, open_fault}
use Rattle.bl_file.specs.Outlines.{file_with}
use Rattle.bl_file.specs.Steps.{AreBlocksOf, IsCatalogueOf, IsFileOf}

-- ---- what is read decides the first check that fails

value_is : {A E : Type 0} (r : Result A E) (x other : A) → r ≡ Ok x → result_unwrap_or r other ≡ x
value_is {A = A} {E = E} r x other is = ap (λ (q : Result A E). result_unwrap_or q other) is

-- the header has this fault
pub header_fails : (b : List ℕ) (fault : OpenFault) → option_map InHead (result_err (header_of b)) ≡ Some fault → format_fault b ≡ Some fault
unfolding format_fault
header_fails b fault is = rw is refl

-- the blocks have this fault
pub blocks_fail : (b : List ℕ) (h : Header) (fault : OpenFault) → header_of b ≡ Ok h → option_map InBlock (result_err (blocks_of h b)) ≡ Some fault → format_fault b ≡ Some fault
unfolding format_fault
blocks_fail b h fault header is = rw (header, is) refl

module _ (b : List ℕ) (h : Header) (blocks : List Head) (read : AreBlocksOf h blocks b) where
  -- not one block holds a catalogue
  pub catalogues_fail : (fault : OpenFault) → catalogue_fault (catalogues_in blocks) ≡ Some fault → format_fault b ≡ Some fault
  unfolding format_fault
  catalogues_fail fault is = rw (read.header, read.blocks, is) refl

  -- the one catalogue has this fault
  pub catalogue_fails : (place : Head) (fault : OpenFault) → catalogues_in blocks ≡ place ∷ [] → option_map Sdna (result_err (catalogue_of h.order (payload h b place))) ≡ Some fault → format_fault b ≡ Some fault
  unfolding format_fault
  catalogue_fails place fault one is = rw (read.header, read.blocks, one, is) refl

  -- the layout has this fault
  pub layout_fails : (place : Head) (c : Catalogue) (fault : OpenFault) → catalogues_in blocks ≡ place ∷ [] → catalogue_of h.order (payload h b place) ≡ Ok c → option_map (named_fault c) (layout_fault c h.width) ≡ Some fault → format_fault b ≡ Some fault
  unfolding format_fault
  layout_fails place c fault one catalogue is = rw (read.header, read.blocks, one, catalogue, is) refl

  -- the one catalogue has a layout
  pub layout_passes : (place : Head) (c : Catalogue) → catalogues_in blocks ≡ place ∷ [] → catalogue_of h.order (payload h b place) ≡ Ok c → layout_fault c h.width ≡ None → IsCatalogueOf h blocks c b
  layout_passes place c one catalogue passes = record {
    header = read.header;
    blocks = read.blocks;
    one_catalogue = ap catalogue_fault one;
    catalogue = subst (λ (xs : List Head). catalogue_of h.order (first_payload h b xs) ≡ Ok c) (sym one) catalogue;
    no_layout_fault = passes;
  }

module _ (b : List ℕ) (h : Header) (blocks : List Head) (c : Catalogue) (read : IsCatalogueOf h blocks c b) where
  -- a node has this fault
  pub nodes_fail : (fault : OpenFault) → option_map fault_of_node (find_map (node_fault c) (nodes_in blocks)) ≡ Some fault → format_fault b ≡ Some fault
  unfolding format_fault
  nodes_fail fault is = rw (read.header, read.blocks, read.one_catalogue, read.catalogue, read.no_layout_fault, is) refl

  -- no node has a fault
  pub nodes_pass : option_map fault_of_node (find_map (node_fault c) (nodes_in blocks)) ≡ None → IsFileOf h c (nodes_in blocks) b
  unfolding format_fault
  nodes_pass is =
      let header : header_in b ≡ h = value_is (header_of b) h no_header read.header in
      let are : blocks_in b ≡ blocks = ap (λ (g : Header). result_unwrap_or (blocks_of g b) []) header ∙ value_is (blocks_of h b) blocks [] read.blocks in
      let same : catalogue_read b ≡ catalogue_of h.order (first_payload h b (catalogues_in blocks)) = λ i. catalogue_of (header i).order (first_payload (header i) b (catalogues_in (are i))) in
      let catalogue : catalogue_in b ≡ c = value_is (catalogue_read b) c no_catalogue (same ∙ read.catalogue) in
      record {
        file = λ i. record { header = header i; catalogue = catalogue i; nodes = nodes_in (are i); bytes = b };
        passes = rw (read.header, read.blocks, read.one_catalogue, read.catalogue, read.no_layout_fault, is) refl;
      }

-- ---- a check that passes

pub passes : (check : Option OpenFault) (checks : List (Option OpenFault)) → first_of (check ∷ checks) ≡ None → (check ≡ None) × (first_of checks ≡ None)
passes None checks is = (refl, is)
passes (Some e) checks is = cc

pub no_fault : {A B : Type 0} (f : A → B) (o : Option A) → option_map f o ≡ None → o ≡ None
no_fault f None is = refl
no_fault f (Some a) is = cc

pub value_of : {A E : Type 0} (r : Result A E) (other : A) → result_err r ≡ None → r ≡ Ok (result_unwrap_or r other)
value_of (Ok a) other is = refl
value_of (Err e) other is = cc

pub one_catalogue : (xs : List Head) → catalogue_fault xs ≡ None → (x : Head) × (xs ≡ x ∷ [])
one_catalogue [] is = cc
one_catalogue (x ∷ []) is = (x, refl)
one_catalogue (x ∷ y ∷ ys) is = cc

-- what passes all checks is accepted as the file that it reads as
pub passes-accepted : (b : List ℕ) → format_fault b ≡ None → Accepted b (file_in b)
unfolding format_fault
passes-accepted b all =
    let nodes = nodes_in (blocks_in b) in
    let head_check = option_map InHead (result_err (header_of b)) in
    let block_check = option_map InBlock (result_err (blocks_of (header_in b) b)) in
    let one_check = catalogue_fault (catalogues_in (blocks_in b)) in
    let sdna_check = option_map Sdna (result_err (catalogue_read b)) in
    let layout_check = option_map (named_fault (catalogue_in b)) (layout_fault (catalogue_in b) (header_in b).width) in
    let node_check = option_map fault_of_node (find_map (node_fault (catalogue_in b)) nodes) in
    let first = passes head_check (block_check ∷ one_check ∷ sdna_check ∷ layout_check ∷ node_check ∷ []) all in
    let second = passes block_check (one_check ∷ sdna_check ∷ layout_check ∷ node_check ∷ []) first.1 in
    let third = passes one_check (sdna_check ∷ layout_check ∷ node_check ∷ []) second.1 in
    let fourth = passes sdna_check (layout_check ∷ node_check ∷ []) third.1 in
    let fifth = passes layout_check (node_check ∷ []) fourth.1 in
    let sixth = passes node_check [] fifth.1 in
    let header = value_of (header_of b) no_header (no_fault InHead (result_err (header_of b)) first.0) in
    let read = value_of (blocks_of (header_in b) b) [] (no_fault InBlock (result_err (blocks_of (header_in b) b)) second.0) in
    let one = one_catalogue (catalogues_in (blocks_in b)) third.0 in
    let catalogue = value_of (catalogue_read b) no_catalogue (no_fault Sdna (result_err (catalogue_read b)) fourth.0) in
    record {
      blocks = blocks_in b;
      reads = record {
        reads = reading_of_blocks b (header_in b) (blocks_in b) header read;
        place = one.0;
        one_catalogue = one.1;
        catalogue = subst (λ (xs : List Head). catalogue_of (header_in b).order (first_payload (header_in b) b xs) ≡ Ok (catalogue_in b)) one.1 catalogue;
      };
      no_layout_fault = no_fault (named_fault (catalogue_in b)) (layout_fault (catalogue_in b) (header_in b).width) fifth.0;
      nodes = refl;
      no_node_fault = no_fault fault_of_node (find_map (node_fault (catalogue_in b)) nodes) sixth.0;
      bytes = refl;
    }

-- ---- what is accepted passes

one_more : (is : Bool) (x : Head) (xs : List Head) → is_catalogue x ≡ is → length (nodes_in xs) + length (catalogues_in xs) ≡ length xs → length (nodes_in (x ∷ xs)) + length (catalogues_in (x ∷ xs)) ≡ length (x ∷ xs)
one_more true x xs found rest = rw found (omega (arith, rest))
one_more false x xs node rest = rw node (omega (arith, rest))

-- each block is a node or holds a catalogue
pub all_blocks_counted : (xs : List Head) → length (nodes_in xs) + length (catalogues_in xs) ≡ length xs
all_blocks_counted [] = refl
all_blocks_counted (x ∷ xs) = one_more (is_catalogue x) x xs refl (all_blocks_counted xs)

-- accepted bytes read as the blocks and the catalogue of their file
accepted_reads : (b : List ℕ) (f : File) (is : Accepted b f) → length f.nodes < most_blocks → IsCatalogueOf f.header is.blocks f.catalogue b
accepted_reads b f is few =
    let blocks = is.blocks in
    let reads = is.reads in
    let same : f.nodes ≡ nodes_in blocks = is.nodes in
    let counted : length f.nodes + 1 ≡ length blocks = rw same (subst (λ (xs : List Head). length (nodes_in blocks) + length xs ≡ length blocks) reads.one_catalogue (all_blocks_counted blocks)) in
    let read : blocks_of f.header b ≡ Ok blocks = blocks_of_reading b f.header blocks reads.reads (omega (arith, counted, few)) in
    layout_passes b f.header blocks (record { header = reads.reads.header; blocks = read }) reads.place f.catalogue reads.one_catalogue reads.catalogue is.no_layout_fault

accepted_file : (b : List ℕ) (f : File) (is : Accepted b f) → length f.nodes < most_blocks → IsFileOf f.header f.catalogue (nodes_in is.blocks) b
accepted_file b f is few =
    let faultless : find_map (node_fault f.catalogue) (nodes_in is.blocks) ≡ None = subst (λ (xs : List Head). find_map (node_fault f.catalogue) xs ≡ None) is.nodes is.no_node_fault in
    nodes_pass b f.header is.blocks f.catalogue (accepted_reads b f is few) (ap (option_map fault_of_node) faultless)

-- accepted bytes pass all checks
pub accepted-passes : (b : List ℕ) (f : File) → Accepted b f → length f.nodes < most_blocks → format_fault b ≡ None
accepted-passes b f is few = (accepted_file b f is few).passes

-- and read as the file as which they are accepted
pub accepted-file : (b : List ℕ) (f : File) → Accepted b f → length f.nodes < most_blocks → f ≡ file_in b
accepted-file b f is few =
    let nodes : f.nodes ≡ nodes_in is.blocks = is.nodes in
    let bytes : f.bytes ≡ b = is.bytes in
    let same : ◌≡◌ {A = File} f (file_with f.header f.catalogue (nodes_in is.blocks) b) = λ i. record { header = f.header; catalogue = f.catalogue; nodes = nodes i; bytes = bytes i } in
    same ∙ sym (accepted_file b f is few).file

-- ---- the checks of a file that is held

-- a file that fits is checked by its bytes
pub fits_checked : (used : ℕ) (b : List ℕ) → used + length b ≤ most_input_bytes → open_fault used (Some b) ≡ format_fault b
unfolding open_fault
fits_checked used b small = rw (le-ltb most_input_bytes (used + length b) small) refl
