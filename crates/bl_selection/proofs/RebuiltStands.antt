-- What is rebuilt of an accepted file under another header and catalogue is written so that it stands: where that
-- catalogue has a layout, and its payload and those of the nodes are short enough.
use Rattle.std.proofs.Common.{◌≡◌, ◌≢◌, ℕ, zero, suc, ◌+◌, ◌*◌, ◌^◌, ◌<◌, ◌≤◌, Bool, true, false, cond, not, All, List, [], ◌∷◌, ◌++◌, length, get_or, drop, Option, Some, None, refl, sym, subst, ◌∙◌, arith, inl, inr, eqb-true}
use Rattle.std.specs.Prelude.{◌==◌, ◌||◌, nat_le, nat_lt, map, flat_map, count_by, codes}
use Rattle.std.specs.List.{enumerate_from}
use Rattle.std.specs.Option.{option_or}
use Rattle.std.proofs.lemmas.Bool.{ltb-false, cases_lt, not-true, ne_eqb, eqb-false, and_parts}
use Rattle.std.proofs.lemmas.List.{length-append, length-map, length-take-le, length-drop}
use Rattle.std.proofs.lemmas.List.Sums.{length-filter, count_by-le-length, sum_by-append}
use Rattle.std.proofs.lemmas.List.Elements.{All-nil, All-cons, All-head, All-tail, All-map, All-filter, All-weaker, filter_passes}
use Rattle.bl_num.specs.declared.number.Width.{Width}
use Rattle.bl_num.specs.declared.number.Width.TheVariants.{Four, Eight}
use Rattle.bl_num.specs.declared.number.Order.{Order}
use Rattle.bl_num.specs.Numbers.{pointer_bytes, bytes_of}
use Rattle.bl_num.proofs.BytesOf.{length-bytes_of}
use Rattle.bl_format.specs.declared.file.Header.{Header}
use Rattle.bl_format.specs.declared.file.Head.{Head}
use Rattle.bl_format.specs.declared.catalogue.Catalogue.{Catalogue}
use Rattle.bl_format.specs.Words.{find_map, numbers_below}
use Rattle.bl_format.specs.Limits.{most_blocks}
use Rattle.bl_format.specs.Blocks.{header_size, head_size, AreBlocks, IsCount, first_version, last_version}
use Rattle.bl_format.specs.Schema.{catalogue_written, struct_written, member_written}
use Rattle.bl_format.specs.Layout.{HasLayout, first_fault, struct_length, struct_name, struct_number}
use Rattle.bl_format.specs.Nodes.{File, NodeFault, BadStruct, ShortBlock, payload, is_catalogue, nodes_in, node_fault, Accepted}
use Rattle.bl_format.specs.declared.catalogue.StructEntry.{StructEntry}
use Rattle.bl_format.proofs.CatalogueFits.{length-catalogue_written}
use Rattle.bl_format.proofs.BlocksOf.{IsBlockOf, block_facts}
use Rattle.bl_format.proofs.MemberPasses.{first_fault-none}
use Rattle.bl_format.proofs.NumbersBelow.{length-numbers_below}
use Rattle.bl_selection.specs.declared.draft.Draft.{Draft}
use Rattle.bl_selection.specs.declared.draft.Entry.{Entry}
use Rattle.bl_selection.specs.declared.draft.Entry.TheVariants as entries
use Rattle.bl_selection.specs.Selection.{no_head, index_under, image_numbered, has_struct, is_kept, kept_nodes, own_images, whole_selection, rebuilt_graph, entry_node, selection_views, selection_graph}
use Rattle.bl_selection.specs.Written.{written_form}
use Rattle.bl_selection.specs.Committed.{IsRebuilt}
use Rattle.bl_selection.specs.GraphFits.{node_payload}
use Rattle.bl_selection.proofs.EntriesAsNodes.{IsItsName}
use Rattle.bl_selection.proofs.NodesBack.{struct_number-named}
use Rattle.bl_selection.proofs.CellsFit.{numbers_below-lt}
use Rattle.bl_selection.proofs.SourcesFit.{ImagesStand, AddressesFit, HoldsElements}
use Rattle.bl_selection.proofs.SelectionFits.{SourceStands, EntryStands, DraftStands, selection_stands}

-- ---- the nodes of an accepted file

-- a node of a file stands there as a block, and no check of it fails
pub record NodeStands (f : File) (x : Head) : Type 0 where
  pub block : IsBlockOf f.header f.bytes x
  pub is_node : is_catalogue x ≡ false
  pub no_fault : node_fault f.catalogue x ≡ None

pub each_of : (h : Header) (b : List ℕ) (at end : ℕ) (xs : List Head) → header_size h ≤ at → AreBlocks h b at xs end → All (IsBlockOf h b) xs
each_of h b at end [] behind stand = All-nil (IsBlockOf h b)
each_of h b at end (x ∷ xs) behind stand =
    All-cons (IsBlockOf h b) x xs (block_facts h b at x behind stand.0) (each_of h b (at + head_size h + x.len) end xs (omega (arith, behind)) stand.1)

-- where nothing is found, no element gives anything
pub none_each : {X Y : Type 0} (g : X → Option Y) (xs : List X) → find_map g xs ≡ None → All (λ x. g x ≡ None) xs
none_each g [] is = All-nil (λ x. g x ≡ None)
none_each {X} {Y} g (x ∷ xs) is = go (g x) refl is (none_each g xs)
  where
    go : (o : Option Y) → g x ≡ o → option_or o (find_map g xs) ≡ None → (find_map g xs ≡ None → All (λ x. g x ≡ None) xs) → All (λ x. g x ≡ None) (x ∷ xs)
    go None here is later = All-cons (λ x. g x ≡ None) x xs here (later is)
    go (Some y) here is later = absurd (cc)

pub nodes_stand : (b : List ℕ) (f : File) → Accepted b f → All (NodeStands f) f.nodes
nodes_stand b f accepted i d lt =
    let reads = accepted.reads.reads in
    let blocks : All (IsBlockOf f.header b) accepted.blocks = each_of f.header b (header_size f.header) reads.end accepted.blocks (omega arith) reads.blocks_stand in
    let same : nodes_in accepted.blocks ≡ f.nodes = sym accepted.nodes in
    let own : All (IsBlockOf f.header b) f.nodes = subst (All (IsBlockOf f.header b)) same (All-filter (λ (x : Head). not (is_catalogue x)) (IsBlockOf f.header b) accepted.blocks blocks) in
    let nodes : All (λ (x : Head). not (is_catalogue x) ≡ true) f.nodes = subst (All (λ (x : Head). not (is_catalogue x) ≡ true)) same (filter_passes (λ (x : Head). not (is_catalogue x)) accepted.blocks) in
    let faultless : All (λ x. node_fault f.catalogue x ≡ None) f.nodes = none_each (node_fault f.catalogue) f.nodes accepted.no_node_fault in
    record {
      block = subst (λ (bytes : List ℕ). IsBlockOf f.header bytes (get_or f.nodes i d)) (sym accepted.bytes) (own i d lt);
      is_node = not-true (is_catalogue (get_or f.nodes i d)) (nodes i d lt);
      no_fault = faultless i d lt;
    }

-- ---- a kept node as an entry

third_passes : (a b c : Bool) (p q : NodeFault) → cond a None (cond b (Some p) (cond c (Some q) None)) ≡ None → a ≡ false → c ≡ false
third_passes true b c p q e is = absurd (cc)
third_passes false true c p q e is = absurd (cc)
third_passes false false true p q e is = absurd (cc)
third_passes false false false p q e is = refl

has_it : (a b : Bool) → (a || not b) ≡ true → a ≡ false → b ≡ false
has_it true b e is = absurd (cc)
has_it false true e is = absurd (cc)
has_it false false e is = refl

pub payload_len : (f : File) (x : Head) → NodeStands f x → length (payload f.header f.bytes x) ≡ x.len
payload_len f x own =
    let fits = own.block.fits in
    length-take-le x.len (drop (x.at + head_size f.header) f.bytes) (omega (arith, fits, length-drop (x.at + head_size f.header) f.bytes))

pub holds_elements : (f : File) (x : Head) → NodeStands f x → x.index ≢ 0 → HoldsElements f x
holds_elements f x own some =
    let enough : nat_lt x.len (x.count * struct_length f.catalogue x.index) ≡ false = third_passes (x.index == 0) (nat_le (length f.catalogue.structs) x.index) (nat_lt x.len (x.count * struct_length f.catalogue x.index)) (BadStruct x.at) (ShortBlock x.at) own.no_fault (ne_eqb x.index 0 some) in
    let le : x.count * struct_length f.catalogue x.index ≤ x.len = ltb-false x.len (x.count * struct_length f.catalogue x.index) enough in
    omega (arith, le, payload_len f x own)

-- a struct node that a catalogue keeps has its struct there at a number other than 0
pub kept_struct : (c : Catalogue) (f : File) (n : ℕ) → is_kept c f n ≡ true → (get_or f.nodes n no_head).index ≢ 0
    → index_under c f.catalogue (get_or f.nodes n no_head).index ≢ 0
unfolding is_kept
kept_struct c f n kept some =
    let x : Head = get_or f.nodes n no_head in
    eqb-false (index_under c f.catalogue x.index) 0 (has_it (x.index == 0) (index_under c f.catalogue x.index == 0) (and_parts (has_struct c f.catalogue x) _ kept).0 (ne_eqb x.index 0 some))

-- ---- numbers

struct_number-short : (c : Catalogue) (name : List ℕ) → length c.structs < 2 ^ 31 → IsCount (struct_number c name)
struct_number-short c name few = by_zero (struct_number c name == 0) refl
  where
    by_zero : (b : Bool) → (struct_number c name == 0) ≡ b → struct_number c name < 2 ^ 31
    by_zero true is = let none : struct_number c name ≡ 0 = eqb-true (struct_number c name) 0 is in omega (arith, none)
    by_zero false is = let within = (struct_number-named c name (eqb-false (struct_number c name) 0 is)).within in omega (arith, within, few)

pub index_under-short : (c from : Catalogue) (s : ℕ) → length c.structs < 2 ^ 31 → IsCount (index_under c from s)
index_under-short c from zero few = omega arith
index_under-short c from (suc s) few = struct_number-short c (struct_name from (suc s)) few

addresses_fit : (w : Width) (e : ℕ) → e < most_blocks → 16 * (e + 1) < 256 ^ pointer_bytes w
addresses_fit Four e few = omega (arith, few)
addresses_fit Eight e few = omega (arith, few)

-- a catalogue has no more structs than its payload has bytes
pub few_structs : (order : Order) (c : Catalogue) → length c.structs ≤ length (catalogue_written order c)
few_structs order c =
    let text : List ℕ = flat_map (struct_written order) c.structs in
    omega (arith, length-catalogue_written order c, each c.structs, length-append (codes "STRC" ++ bytes_of order 4 (length c.structs)) text)
  where
    each : (ss : List StructEntry) → length ss ≤ length (flat_map (struct_written order) ss)
    each [] = omega arith
    each (x ∷ ss) =
        let number : List ℕ = bytes_of order 2 x.type_number in
        let count : List ℕ = bytes_of order 2 (length x.members) in
        let members : List ℕ = flat_map (member_written order) x.members in
        let later = each ss in
        omega (arith, later, length-append (number ++ count ++ members) (flat_map (struct_written order) ss), length-append (number ++ count) members, length-append number count, length-bytes_of order 2 x.type_number)

-- ---- images

-- fewer are kept before a number that is kept than before a later one
kept_before : (kept : ℕ → Bool) (n k : ℕ) → k < n → kept k ≡ true → count_by kept (numbers_below k) < count_by kept (numbers_below n)
kept_before kept zero k lt is = absurd (omega arith)
kept_before kept (suc n) k lt is =
    let step : count_by kept (numbers_below (suc n)) ≡ count_by kept (numbers_below n) + count_by kept (n ∷ []) = sum_by-append _ (numbers_below n) (n ∷ []) in
    elim (cases_lt k n) [
      | inl below ↦ (let less = kept_before kept n k below is in omega (arith, step, less))
      | inr le ↦ (
          let last : k ≡ n = omega arith in
          let one : count_by kept (n ∷ []) ≡ 1 = (let own : kept n ≡ true = subst (λ (m : ℕ). kept m ≡ true) last is in rw own refl) in
          subst (λ (m : ℕ). count_by kept (numbers_below m) < count_by kept (numbers_below (suc n))) (sym last) (omega (arith, step, one)))
    ]

pub at_most : (kept : ℕ → Bool) (n : ℕ) → All (λ v. v ≤ count_by kept (numbers_below n)) (own_images kept n)
at_most kept n =
    All-map (λ v. v ≤ count_by kept (numbers_below n)) (λ (k : ℕ). cond (kept k) (suc (count_by kept (numbers_below k))) 0) (numbers_below n)
    (All-weaker (λ k. k < n) (λ k. cond (kept k) (suc (count_by kept (numbers_below k))) 0 ≤ count_by kept (numbers_below n)) (λ k lt. one k lt (kept k) refl) (numbers_below n) (numbers_below-lt n))
  where
    one : (k : ℕ) → k < n → (b : Bool) → kept k ≡ b → cond b (suc (count_by kept (numbers_below k))) 0 ≤ count_by kept (numbers_below n)
    one k lt true is = kept_before kept n k lt is
    one k lt false is = omega arith

get_or-all : {X : Type 0} (P : X → Type 0) (xs : List X) (k : ℕ) (d : X) → P d → All P xs → P (get_or xs k d)
get_or-all P [] k d own all = own
get_or-all P (x ∷ xs) zero d own all = All-head P x xs all
get_or-all P (x ∷ xs) (suc k) d own all = get_or-all P xs k d own (All-tail P x xs all)

module _ (f : File) (h : Header) (c : Catalogue) where
  abbrev d : Draft
  d = whole_selection f h c

  pub entry_number : length d.entries ≡ count_by (is_kept c f) (numbers_below (length f.nodes))
  entry_number = length-map (kept_nodes c f) _ ∙ length-filter (is_kept c f) (numbers_below (length f.nodes))

  -- all entries are sources
  sources_named : (ns : List ℕ) (t : ℕ) → IsItsName c (get_or (map (entries.Source 0) ns) t (entries.Raw [] []))
  sources_named [] t = tt
  sources_named (n ∷ ns) zero = tt
  sources_named (n ∷ ns) (suc t) = sources_named ns t

  image_within : (v t : ℕ) → v ≤ length d.entries → image_numbered v ≡ Some t → t < length d.entries
  image_within zero t le is = absurd (cc)
  image_within (suc e) t le is = let same : e ≡ t = cc in omega (arith, le, same)

  images_stand : ImagesStand (f ∷ []) d
  images_stand i n t is = (image_within (get_or (get_or d.images i []) n 0) t (each i) is, sources_named (kept_nodes c f) t)
    where
      each : (i : ℕ) → get_or (get_or d.images i []) n 0 ≤ length d.entries
      each zero = get_or-all (λ v. v ≤ length d.entries) (own_images (is_kept c f) (length f.nodes)) n 0 (omega arith) (subst (λ (m : ℕ). All (λ v. v ≤ m) (own_images (is_kept c f) (length f.nodes))) (sym entry_number) (at_most (is_kept c f) (length f.nodes)))
      each (suc i) = omega arith

  pub few_entries : length d.entries ≤ length f.nodes
  few_entries =
      let all : count_by (is_kept c f) (numbers_below (length f.nodes)) ≤ length (numbers_below (length f.nodes)) = count_by-le-length (is_kept c f) (numbers_below (length f.nodes)) in
      omega (arith, entry_number, all, length-numbers_below (length f.nodes))

  addresses_stand : length f.nodes ≤ most_blocks → AddressesFit d
  addresses_stand few e lt = addresses_fit h.width e (omega (arith, few, few_entries, lt))

  -- ---- entries

  -- a node of the file that is kept
  abbrev pub IsKept : ℕ → Type 0
  IsKept n = (n < length f.nodes) × (is_kept c f n ≡ true)

  pub all_kept : All IsKept (kept_nodes c f)
  all_kept i n lt = (
    All-filter (is_kept c f) (λ k. k < length f.nodes) (numbers_below (length f.nodes)) (numbers_below-lt (length f.nodes)) i n lt,
    filter_passes (is_kept c f) (numbers_below (length f.nodes)) i n lt,
  )

  -- the payload of an entry's node is short enough
  abbrev IsShort : ℕ × Entry → Type 0
  IsShort p = IsCount (length (node_payload h c (entry_node (f ∷ []) d (selection_views (f ∷ []) d) p.0 p.1)))

  source_stands : (n : ℕ) → first_fault f.catalogue f.header.width ≡ None → All (λ x. x < 256) f.bytes → All (NodeStands f) f.nodes → IsKept n → SourceStands (f ∷ []) d 0 n
  source_stands n no_fault bytes stand kept =
      let x : Head = get_or f.nodes n no_head in
      let own : NodeStands f x = stand n no_head kept.0 in
      record {
        no_fault = no_fault;
        bytes = bytes;
        len = payload_len f x own;
        holds = holds_elements f x own;
        struct = kept_struct c f n kept.1;
      }

  entry_stands : (e n : ℕ) → first_fault f.catalogue f.header.width ≡ None → All (λ x. x < 256) f.bytes → All (NodeStands f) f.nodes
      → length c.structs < 2 ^ 31 → IsKept n → IsShort (e, entries.Source 0 n) → EntryStands (f ∷ []) d e (entries.Source 0 n)
  entry_stands e n no_fault bytes stand few kept short =
      let x : Head = get_or f.nodes n no_head in
      let own : NodeStands f x = stand n no_head kept.0 in
      record {
        code_len = own.block.code_len;
        code = own.block.code;
        no_end = own.block.no_end;
        no_catalogue = own.is_node;
        len = short;
        index = index_under-short c f.catalogue x.index few;
        count = own.block.count;
        named = tt;
        holds = source_stands n no_fault bytes stand kept;
      }

  entries_stand : (k : ℕ) (ns : List ℕ) → first_fault f.catalogue f.header.width ≡ None → All (λ x. x < 256) f.bytes → All (NodeStands f) f.nodes
      → length c.structs < 2 ^ 31 → All IsKept ns → All IsShort (enumerate_from k (map (entries.Source 0) ns))
      → All (λ p. EntryStands (f ∷ []) d p.0 p.1) (enumerate_from k (map (entries.Source 0) ns))
  entries_stand k [] no_fault bytes stand few kept short = All-nil (λ (p : ℕ × Entry). EntryStands (f ∷ []) d p.0 p.1)
  entries_stand k (n ∷ ns) no_fault bytes stand few kept short =
      let others : List (ℕ × Entry) = enumerate_from (k + 1) (map (entries.Source 0) ns) in
      All-cons (λ (p : ℕ × Entry). EntryStands (f ∷ []) d p.0 p.1) (k, entries.Source 0 n) others
      (entry_stands k n no_fault bytes stand few (All-head IsKept n ns kept) (All-head IsShort (k, entries.Source 0 n) others short))
      (entries_stand (k + 1) ns no_fault bytes stand few (All-tail IsKept n ns kept) (All-tail IsShort (k, entries.Source 0 n) others short))

all_unmapped : {X Y : Type 0} (P : Y → Type 0) (g : X → Y) (xs : List X) → All P (map g xs) → All (λ x. P (g x)) xs
all_unmapped P g [] all = All-nil (λ x. P (g x))
all_unmapped P g (x ∷ xs) all =
    All-cons (λ x. P (g x)) x xs (All-head P (g x) (map g xs) all) (all_unmapped P g xs (All-tail P (g x) (map g xs) all))

-- ---- the law

-- what the output must keep within: the number of blocks, the versions that are read, and 31 bits for the lengths of the
-- catalogue and of each node
pub record RebuiltFits (f : File) (h : Header) (c : Catalogue) : Type 0 where
  pub few : length f.nodes ≤ most_blocks
  pub version : (first_version ≤ h.version) × (h.version ≤ last_version)
  pub layout : HasLayout c h.width
  pub catalogue : IsCount (length (catalogue_written h.order c))
  pub short : All (λ y. IsCount (length (node_payload h c y))) (rebuilt_graph f h c)

-- the selection of all nodes of an accepted file that are kept stands
pub whole_selection-stands : (b : List ℕ) (f : File) (h : Header) (c : Catalogue)
    → All (λ x. x < 256) b → Accepted b f → RebuiltFits f h c → DraftStands (f ∷ []) (whole_selection f h c)
unfolding rebuilt_graph selection_graph
whole_selection-stands b f h c bytes accepted fits =
    let short = fits.catalogue in
    let few : length c.structs < 2 ^ 31 = omega (arith, short, few_structs h.order c) in
    let own : All (λ x. x < 256) f.bytes = subst (All (λ x. x < 256)) (sym accepted.bytes) bytes in
    let no_fault : first_fault f.catalogue f.header.width ≡ None = first_fault-none f.catalogue f.header.width accepted.no_layout_fault in
    let shorts : All (IsShort f h c) (enumerate_from 0 (map (entries.Source 0) (kept_nodes c f))) = all_unmapped (λ y. IsCount (length (node_payload h c y))) _ (enumerate_from 0 (map (entries.Source 0) (kept_nodes c f))) fits.short in
    record {
      version = fits.version;
      layout = fits.layout;
      catalogue = fits.catalogue;
      images = images_stand f h c;
      addresses = addresses_stand f h c fits.few;
      no_overrides = refl;
      each = entries_stand f h c 0 (kept_nodes c f) no_fault own (nodes_stand b f accepted) few (all_kept f h c) shorts;
    }

-- the written form of a rebuilt graph is accepted, and has that graph
pub rebuilt_graph-stands : (b : List ℕ) (f : File) (h : Header) (c : Catalogue)
    → All (λ x. x < 256) b → Accepted b f → RebuiltFits f h c
    → IsRebuilt f h c (written_form h c (rebuilt_graph f h c))
unfolding rebuilt_graph
rebuilt_graph-stands b f h c bytes accepted fits =
    selection_stands (f ∷ []) (whole_selection f h c) (whole_selection-stands b f h c bytes accepted fits)
