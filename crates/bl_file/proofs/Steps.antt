-- What each step of opening a file says of the bytes that are held.
use Rattle.std.proofs.Common.{◌≡◌, ◌≤◌, ◌<◌, ◌+◌, ◌*◌, ◌^◌, ℕ, Bool, true, false, List, [], ◌∷◌, length, Option, Some, None, Ok, refl, sym, ap, subst, ◌∙◌, arith, get_or}
use Rattle.std.specs.Prelude.{All, not, option_map}
use Rattle.std.specs.Option.{option_or}
use Rattle.std.specs.Result.{result_err}
use Rattle.std.proofs.lemmas.List.Elements.{All-nil, All-cons, All-head, All-filter, filter_passes}
use Rattle.bl_format.specs.declared.file.Header.{Header}
use Rattle.bl_format.specs.declared.file.Head.{Head}
use Rattle.bl_format.specs.declared.catalogue.Catalogue.{Catalogue}
use Rattle.bl_format.specs.Limits.{most_blocks, most_input_bytes, first_version, last_version}
use Rattle.bl_format.specs.Words.{find_map}
use Rattle.bl_format.specs.Blocks.{header_of, header_size, blocks_of}
use Rattle.bl_format.specs.Schema.{catalogue_of, catalogue_written}
use Rattle.bl_format.specs.Layout.{layout_fault, HasLayout}
use Rattle.bl_format.specs.Nodes.{Mark, payload, is_catalogue, catalogues_in, nodes_in, node_fault, NodeFault, BadStruct, ShortBlock}
use Rattle.bl_format.specs.declared.raw.RawKind.{RawKind}
use Rattle.bl_layout.specs.LaidOut.{LaidOut}
use Rattle.bl_shelf.specs.Told.{Told}
use Rattle.bl_file.specs.declared.fault.OpenFault.{OpenFault}
use Rattle.bl_file.specs.declared.fault.OpenFault.TheVariants as faults
use Rattle.bl_file.specs.Held.{IsHeldAnd}
use Rattle.bl_file.specs.Opening.{catalogue_fault, named_fault, fault_of_node, kinds_in, format_fault}
use Rattle.bl_file.specs.Outlines.{file_with, IsNodeIn, StandsFor}
use Rattle.bl_file.specs.Reading.{IsBlockIn, IsFaultOf, IsHeaderFault, IsBlocksFault}
use Rattle.bl_file.specs.Steps.{IsGiven, IsFormatFault, AreBlocksOf, IsCatalogueOf, IsFileOf, IsSoundFrame}
use Rattle.bl_file.proofs.HeldLemmas.{IsHeldAnd-weaker, IsHeldAnd-both, IsFaultOf-both}
use Rattle.bl_file.proofs.Checks.{header_fails, blocks_fail, catalogues_fail, catalogue_fails, layout_fails, layout_passes, nodes_fail, nodes_pass, passes-accepted, all_blocks_counted}
use Rattle.bl_file.proofs.Given.{given_why}

-- the one catalogue among some blocks is one of them
pub place_in : (h : Header) (size : ℕ) (blocks : List Head) (place : Head) → All (IsBlockIn h size) blocks → catalogues_in blocks ≡ place ∷ [] → IsBlockIn h size place
place_in h size blocks place all one =
    All-head (IsBlockIn h size) place [] (subst (All (IsBlockIn h size)) one (All-filter is_catalogue (IsBlockIn h size) blocks all))

module _ (told : Option Told) (name : List ℕ) where
  -- a header's fault is the first
  pub header_why : (Such : List ℕ → Type 0) (fault : OpenFault) → IsHeldAnd told name Such → IsFaultOf told name IsHeaderFault fault → IsFaultOf told name IsFormatFault fault
  header_why Such fault held is = IsFaultOf-both told name Such IsHeaderFault IsFormatFault fault held is (λ b such why. header_fails b fault why)

  -- the blocks' fault is the first
  pub blocks_why : (h : Header) (fault : OpenFault) → IsHeldAnd told name (λ b. header_of b ≡ Ok h) → IsFaultOf told name (IsBlocksFault h) fault → IsFaultOf told name IsFormatFault fault
  blocks_why h fault header is = IsFaultOf-both told name (λ b. header_of b ≡ Ok h) (IsBlocksFault h) IsFormatFault fault header is (λ b reads why. blocks_fail b h fault reads why)

  -- the header and the blocks are read
  pub blocks_read : (h : Header) (blocks : List Head) → IsHeldAnd told name (λ b. header_of b ≡ Ok h) → IsHeldAnd told name (λ b. blocks_of h b ≡ Ok blocks) → IsHeldAnd told name (AreBlocksOf h blocks)
  blocks_read h blocks header read =
      IsHeldAnd-both told name (λ b. header_of b ≡ Ok h) (λ b. blocks_of h b ≡ Ok blocks) (AreBlocksOf h blocks) header read (λ b reads are. record { header = reads; blocks = are })

  module _ (h : Header) (blocks : List Head) (read : IsHeldAnd told name (AreBlocksOf h blocks)) where
    -- a fault of the number of catalogues is the first
    pub catalogues_why : (fault : OpenFault) → IsGiven (catalogue_fault (catalogues_in blocks)) fault → IsFaultOf told name IsFormatFault fault
    catalogues_why fault is = given_why told name (AreBlocksOf h blocks) IsFormatFault (catalogue_fault (catalogues_in blocks)) fault read is (λ b reads f gives. catalogues_fail b h blocks reads f gives)

    module _ (place : Head) (p : List ℕ) (one : catalogues_in blocks ≡ place ∷ []) (copied : IsHeldAnd told name (λ b. payload h b place ≡ p)) where
      abbrev Such : List ℕ → Type 0
      Such b = AreBlocksOf h blocks b × (payload h b place ≡ p)

      both : IsHeldAnd told name Such
      both = IsHeldAnd-both told name (AreBlocksOf h blocks) (λ b. payload h b place ≡ p) Such read copied (λ b reads is. (reads, is))

      -- a catalogue's fault is the first
      pub catalogue_why : (fault : OpenFault) → IsGiven (option_map faults.Sdna (result_err (catalogue_of h.order p))) fault → IsFaultOf told name IsFormatFault fault
      catalogue_why fault is =
          given_why told name Such IsFormatFault (option_map faults.Sdna (result_err (catalogue_of h.order p))) fault both is (λ b such f gives.
          catalogue_fails b h blocks such.0 place f one (subst (λ q. option_map faults.Sdna (result_err (catalogue_of h.order q)) ≡ Some f) (sym such.1) gives))

      -- a layout's fault is the first
      pub layout_why : (c : Catalogue) (fault : OpenFault) → catalogue_of h.order p ≡ Ok c → IsGiven (option_map (named_fault c) (layout_fault c h.width)) fault → IsFaultOf told name IsFormatFault fault
      layout_why c fault spells is =
          given_why told name Such IsFormatFault (option_map (named_fault c) (layout_fault c h.width)) fault both is (λ b such f gives.
          layout_fails b h blocks such.0 place c f one (ap (catalogue_of h.order) such.1 ∙ spells) gives)

      -- the catalogue is read, and has a layout
      pub layout_read : (c : Catalogue) → catalogue_of h.order p ≡ Ok c → layout_fault c h.width ≡ None → IsHeldAnd told name (IsCatalogueOf h blocks c)
      layout_read c spells passes =
          IsHeldAnd-weaker told name Such (IsCatalogueOf h blocks c) both (λ b such. layout_passes b h blocks such.0 place c one (ap (catalogue_of h.order) such.1 ∙ spells) passes)

-- ---- the nodes

is_false : (x : Bool) → not x ≡ true → x ≡ false
is_false true is = cc
is_false false is = refl

none_each : {X Y : Type 0} (g : X → Option Y) (xs : List X) → find_map g xs ≡ None → All (λ x. g x ≡ None) xs
none_each g [] is = All-nil (λ x. g x ≡ None)
none_each {X} {Y} g (x ∷ xs) is = go (g x) refl is (none_each g xs)
  where
    go : (o : Option Y) → g x ≡ o → option_or o (find_map g xs) ≡ None → (find_map g xs ≡ None → All (λ x. g x ≡ None) xs) → All (λ x. g x ≡ None) (x ∷ xs)
    go None here is later = All-cons (λ x. g x ≡ None) x xs here (later is)
    go (Some y) here is later = absurd (cc)

no_fault : (o : Option NodeFault) → option_map fault_of_node o ≡ None → o ≡ None
no_fault None is = refl
no_fault (Some fault) is = cc

-- a node's fault is one that the check gives
pub node_given : (o : Option NodeFault) (fault : OpenFault) → option_map fault_of_node o ≡ Some fault → IsGiven (option_map fault_of_node o) fault
node_given None fault is = cc
node_given (Some (BadStruct at)) fault is = let same : faults.BadStruct at ≡ fault = cc in subst (λ f. IsGiven (Some (faults.BadStruct at)) f) same refl
node_given (Some (ShortBlock at)) fault is = let same : faults.ShortBlock at ≡ fault = cc in subst (λ f. IsGiven (Some (faults.ShortBlock at)) f) same refl

-- nodes without a fault are nodes of the file
pub nodes_sound : (h : Header) (c : Catalogue) (size : ℕ) (blocks : List Head) → All (IsBlockIn h size) blocks → option_map fault_of_node (find_map (node_fault c) (nodes_in blocks)) ≡ None → All (IsNodeIn h c size) (nodes_in blocks)
nodes_sound h c size blocks all is = λ k d lt.
    let block = All-filter (λ x. not (is_catalogue x)) (IsBlockIn h size) blocks all k d lt in
    let node = filter_passes (λ x. not (is_catalogue x)) blocks k d lt in
    let faultless = none_each (node_fault c) (nodes_in blocks) (no_fault (find_map (node_fault c) (nodes_in blocks)) is) k d lt in
    record {
      behind = block.behind;
      fits = block.fits;
      len = block.len;
      index = block.index;
      count = block.count;
      address = block.address;
      code_len = block.code_len;
      code = block.code;
      no_end = block.no_end;
      no_catalogue = is_false (is_catalogue (get_or (nodes_in blocks) k d)) node;
      no_fault = faultless;
    }

-- nodes stand apart as blocks do
pub nodes_spaced : (h : Header) (blocks : List Head) (size : ℕ) → header_size h + 20 * length blocks ≤ size → 16 * length (nodes_in blocks) ≤ size
nodes_spaced h blocks size spaced = omega (arith, all_blocks_counted blocks, spaced)

-- nodes are no more than blocks
pub nodes_few : (blocks : List Head) (most : ℕ) → length blocks ≤ most → length (nodes_in blocks) ≤ most
nodes_few blocks most few = omega (arith, all_blocks_counted blocks, few)

module _ (told : Option Told) (name : List ℕ) (h : Header) (blocks : List Head) (c : Catalogue) (read : IsHeldAnd told name (IsCatalogueOf h blocks c)) where
  -- a node's fault is the first
  pub nodes_why : (fault : OpenFault) → option_map fault_of_node (find_map (node_fault c) (nodes_in blocks)) ≡ Some fault → IsFaultOf told name IsFormatFault fault
  nodes_why fault is =
      given_why told name (IsCatalogueOf h blocks c) IsFormatFault (option_map fault_of_node (find_map (node_fault c) (nodes_in blocks))) fault read (node_given (find_map (node_fault c) (nodes_in blocks)) fault is)
      (λ b reads f gives. nodes_fail b h blocks c reads f gives)

  -- the file is read
  pub nodes_read : option_map fault_of_node (find_map (node_fault c) (nodes_in blocks)) ≡ None → IsHeldAnd told name (IsFileOf h c (nodes_in blocks))
  nodes_read is = IsHeldAnd-weaker told name (IsCatalogueOf h blocks c) (IsFileOf h c (nodes_in blocks)) read (λ b reads. nodes_pass b h blocks c reads is)

-- ---- the outline

-- an outline stands for the bytes of which it was read
stands_for : (h : Header) (l : LaidOut) (nodes : List Head) (ids : List Bool) (table : List Mark) (kinds : List RawKind) (size : ℕ) (b : List ℕ) → All (λ x. x < 256) b → length b ≡ size → IsFileOf h l.catalogue nodes b
    → kinds ≡ kinds_in (file_with h l.catalogue nodes b) → StandsFor b (record { header = h; layout = l; nodes = nodes; ids = ids; table = table; kinds = kinds; size = size })
stands_for h l nodes ids table kinds size b bytes len read are = record {
  bytes = bytes;
  size = len;
  file = read.file;
  accepted = passes-accepted b read.passes;
  kinds = are ∙ ap kinds_in (sym read.file);
}

-- the same of bytes that are held, with which a payload agrees; `items` and `seen` are the nodes as well
pub outline_stands : (told : Option Told) (name : List ℕ) (Agrees : List ℕ → Type 0) (h : Header) (l : LaidOut) (nodes items seen : List Head) (ids : List Bool) (table : List Mark) (kinds found : List RawKind) (size : ℕ)
    → items ≡ nodes → seen ≡ nodes → kinds ≡ found
    → IsHeldAnd told name Agrees → ((b : List ℕ) → Agrees b → All (λ x. x < 256) b) → ((b : List ℕ) → Agrees b → length b ≡ size) → IsHeldAnd told name (IsFileOf h l.catalogue nodes)
    → IsHeldAnd told name (λ b. found ≡ kinds_in (file_with h l.catalogue seen b)) → IsHeldAnd told name (λ b. StandsFor b (record { header = h; layout = l; nodes = items; ids = ids; table = table; kinds = kinds; size = size }))
outline_stands told name Agrees h l nodes items seen ids table kinds found size same saw are held bytes len read reads =
    let Such : List ℕ → Type 0 = λ b. Agrees b × IsFileOf h l.catalogue nodes b in
    let Stands : List ℕ → Type 0 = λ b. StandsFor b (record { header = h; layout = l; nodes = items; ids = ids; table = table; kinds = kinds; size = size }) in
    let both : IsHeldAnd told name Such = IsHeldAnd-both told name Agrees (IsFileOf h l.catalogue nodes) Such held read (λ b agrees file. (agrees, file)) in
    IsHeldAnd-both told name Such (λ b. found ≡ kinds_in (file_with h l.catalogue seen b)) Stands both reads
    (λ b such kind. stands_for h l items ids table kinds size b (bytes b such.0) (len b such.0) (subst (λ xs. IsFileOf h l.catalogue xs b) (sym same) such.1)
    (are ∙ kind ∙ ap (λ xs. kinds_in (file_with h l.catalogue xs b)) (saw ∙ sym same)))

-- what is accepted passes all checks
pub file_passes : (told : Option Told) (name : List ℕ) (h : Header) (c : Catalogue) (nodes : List Head) → IsHeldAnd told name (IsFileOf h c nodes) → IsHeldAnd told name (λ b. format_fault b ≡ None)
file_passes told name h c nodes read = IsHeldAnd-weaker told name (IsFileOf h c nodes) (λ b. format_fault b ≡ None) read (λ b file. file.passes)

-- ---- what stands between the steps, where `nodes` are those of `blocks` and `seen` are the nodes as well

-- the frame of an outline is sound
pub frame_sound : (h : Header) (l : LaidOut) (blocks nodes seen : List Head) (size : ℕ) → (first_version ≤ h.version) × (h.version ≤ last_version) → l.width ≡ h.width → HasLayout l.catalogue l.width
    → length (catalogue_written h.order l.catalogue) < 2 ^ 31 → length blocks ≤ most_blocks → header_size h + 20 * length blocks ≤ size → size ≤ most_input_bytes → All (IsBlockIn h size) blocks → nodes ≡ nodes_in blocks → seen ≡ nodes
    → None ≡ option_map fault_of_node (find_map (node_fault l.catalogue) seen) → IsSoundFrame h l nodes size
frame_sound h l blocks nodes seen size version width has short few spaced small all are saw none = record {
  version = version;
  width = width;
  has_layout = has;
  short = short;
  few = rw are (nodes_few blocks most_blocks few);
  spaced = rw are (nodes_spaced h blocks size spaced);
  size = small;
  nodes = subst (All (IsNodeIn h l.catalogue size)) (sym are) (nodes_sound h l.catalogue size blocks all (subst (λ xs. option_map fault_of_node (find_map (node_fault l.catalogue) xs) ≡ None) (saw ∙ are) (sym none)));
}

module _ (told now : Option Told) (name name' : List ℕ) (h : Header) (blocks read nodes seen : List Head) (c : Catalogue) (same_told : now ≡ told) (same_name : name' ≡ name) (same : read ≡ blocks) (are : nodes ≡ nodes_in blocks) (saw : seen ≡ nodes) where
  in_blocks : (first : Option OpenFault) → first ≡ option_map fault_of_node (find_map (node_fault c) seen) → option_map fault_of_node (find_map (node_fault c) (nodes_in read)) ≡ first
  in_blocks first is = sym (is ∙ ap (λ xs. option_map fault_of_node (find_map (node_fault c) xs)) (saw ∙ are ∙ ap nodes_in (sym same)))

  -- the file is read
  pub file_read : IsHeldAnd told name (IsCatalogueOf h read c) → None ≡ option_map fault_of_node (find_map (node_fault c) seen) → IsHeldAnd now name' (IsFileOf h c nodes)
  file_read catalogue none =
      let file : IsHeldAnd told name (IsFileOf h c nodes) = subst (λ xs. IsHeldAnd told name (IsFileOf h c xs)) (ap nodes_in same ∙ sym are) (nodes_read told name h read c catalogue (in_blocks None none)) in
      rw (same_told, same_name) file

  -- a node's fault is the first
  pub node_why : (fault : OpenFault) → IsHeldAnd now name' (IsCatalogueOf h read c) → Some fault ≡ option_map fault_of_node (find_map (node_fault c) seen) → IsFaultOf told name IsFormatFault fault
  node_why fault catalogue is =
      let held : IsHeldAnd told name (IsCatalogueOf h read c) = rw (← same_told, ← same_name) catalogue in
      nodes_why told name h read c held fault (in_blocks (Some fault) is)
