-- The payload of a node as it is carried over, by what was read of the source.
use Rattle.std.proofs.Common.{◌≡◌, ◌≢◌, ℕ, zero, suc, ◌+◌, ◌*◌, ◌≤◌, ◌<◌, false, All, List, [], ◌∷◌, ◌++◌, length, take, drop, None, refl, sym, ap, ◌∙◌, arith}
use Rattle.std.specs.Prelude.{◌==◌, flat_map}
use Rattle.std.proofs.lemmas.Bool.{eqb-true, false_from_ne_true}
use Rattle.std.proofs.lemmas.List.{take_all}
use Rattle.std.proofs.Math.Seq.{take-add}
use Rattle.std.proofs.lemmas.List.Elements.{All-take, All-drop}
use Rattle.std.proofs.lemmas.List.Folds.{flat_map-map}
use Rattle.bl_num.specs.declared.number.Order.{Order}
use Rattle.bl_num.specs.declared.number.Width.{Width}
use Rattle.bl_num.specs.declared.number.Form.{Form}
use Rattle.bl_format.specs.declared.file.Header.{Header}
use Rattle.bl_format.specs.declared.raw.RawKind.{RawKind}
use Rattle.bl_format.specs.declared.raw.RawKind.TheVariants as raw
use Rattle.bl_format.specs.Words.{part, numbers_below}
use Rattle.bl_format.specs.Layout.{first_fault}
use Rattle.bl_format.specs.Graph.{Target, Naming, contents_by, form_of, raw_length}
use Rattle.bl_format.specs.Nodes.{pair_length}
use Rattle.bl_format.proofs.CatalogueFits.{length-part}
use Rattle.bl_format.proofs.MemberPasses.{first_fault-none}
use Rattle.bl_selection.specs.Written.{contents_written}
use Rattle.bl_selection.specs.Carried.{carried_element, carried_elements, carried_contents}
use Rattle.bl_selection.proofs.CarriedValues.{length-carried_element}
use Rattle.bl_selection.proofs.NumberedTexts.{texts-same}
use Rattle.bl_ptrarrays.specs.Carried.{header_with, numbers_carried, pair_carried}
use Rattle.bl_ptrarrays.proofs.ContentsCarried.{contents_written-form, carried-bytes, carried-numbers, carried-pair}
use Rattle.bl_ptrarrays.proofs.NumbersCarried.{numbers-same, pair-same}
use Rattle.bl_plan.specs.Steps.{applied}
use Rattle.bl_file.proofs.SightLemmas.{struct_short}
use Rattle.bl_writer.specs.declared.elements.Elements.{Elements}
use Rattle.bl_writer.specs.declared.output.Output.{Output}
use Rattle.bl_writer.specs.declared.nodes.Node.{Node}
use Rattle.bl_writer.specs.Lengths.{is_read_first}
use Rattle.bl_writer.specs.Outputs.{IsOutput, form_in, form_out, number_in, plan_of, source_of, target_of}
use Rattle.bl_writer.specs.Payloads.{AreElementsOf, IsOutputNode, StandIn, StayWhole, elements_carried, payload_place}
use Rattle.bl_writer.proofs.ElementPieces.{orders_same, part_within, element_within, flat_map-next}
use Rattle.bl_writer.proofs.NodeFacts.{node_struct}

-- ---- raw nodes

-- what was read of a raw node and carried is its contents in the other form
pub raw_carried : (names : Naming Target) (o : Output) (x : Node) (from to : Form) (at : ℕ) (read dst b : List ℕ)
    → from ≡ form_of o.from → to ≡ form_of o.header → at ≡ payload_place o.from x.head → length read ≡ x.head.len → read ≡ part b at (length read)
    → dst ≡ contents_written (header_with to) x.kind (contents_by x.kind names from read)
    → dst ≡ carried_contents names (source_of o b) o.header x.kind x.head
raw_carried names o x from to at read dst b from_is to_is place long there is =
    is
    ∙ (λ i. contents_written (header_with (to_is i)) x.kind (contents_by x.kind names (from_is i) read))
    ∙ sym (contents_written-form o.header x.kind (contents_by x.kind names (form_of o.from) read))
    ∙ ap (λ (bytes : List ℕ). contents_written o.header x.kind (contents_by x.kind names (form_of o.from) bytes)) (there ∙ (λ i. part b (place i) (long i)))

-- where it isn't read first, a raw payload is as long as it was
pub raw_length-kept : (o : Output) (kind : RawKind) (len : ℕ) (v w : Width) → is_read_first o kind ≡ false → raw_length kind len v w ≡ len
unfolding is_read_first
raw_length-kept o raw.Bytes len v w is = refl
raw_length-kept o (raw.Numbers n) len v w is = refl
raw_length-kept o raw.Pointers len v w is = absurd (cc)
raw_length-kept o raw.Pair len v w is = refl

module _ (names : Naming Target) (h : Header) (from : Form) (bytes : List ℕ) (all : All (λ b. b < 256) bytes) where
  numbers_kept : (n : ℕ) → from.order ≡ h.order → contents_written h (raw.Numbers n) (contents_by (raw.Numbers n) names from bytes) ≡ bytes
  numbers_kept n same =
      carried-numbers h names from bytes n ∙ ap (λ (order : Order). numbers_carried n order h.order bytes) same ∙ sym (numbers-same bytes all n h.order)

  pair_kept : from.order ≡ h.order → pair_length ≤ length bytes → contents_written h raw.Pair (contents_by raw.Pair names from bytes) ≡ bytes
  pair_kept same room = carried-pair h names from bytes ∙ ap (λ (order : Order). pair_carried order h.order bytes) same ∙ pair-same bytes all h.order room

  -- and its contents are written as they were read
  pub contents_same : (o : Output) (kind : RawKind) → is_read_first o kind ≡ false → from.order ≡ o.from.order → h.order ≡ o.header.order
      → (kind ≡ raw.Pair → pair_length ≤ length bytes) → contents_written h kind (contents_by kind names from bytes) ≡ bytes
  unfolding is_read_first
  contents_same o raw.Bytes is source target pair = carried-bytes h names from bytes
  contents_same o (raw.Numbers n) is source target pair = numbers_kept n (source ∙ orders_same o.from.order o.header.order is ∙ sym target)
  contents_same o raw.Pointers is source target pair = absurd (cc)
  contents_same o raw.Pair is source target pair = pair_kept (source ∙ orders_same o.from.order o.header.order is ∙ sym target) (pair refl)

-- so what was read of it is what is written
pub raw_read : (names : Naming Target) (o : Output) (x : Node) (at : ℕ) (dst b : List ℕ) → is_read_first o x.kind ≡ false → All (λ y. y < 256) b
    → (x.kind ≡ raw.Pair → pair_length ≤ x.head.len) → at ≡ payload_place o.from x.head → length dst ≡ x.head.len → dst ≡ part b at (length dst)
    → dst ≡ carried_contents names (source_of o b) o.header x.kind x.head
raw_read names o x at dst b is bytes pair place long there =
    let own : List ℕ = part b (payload_place o.from x.head) x.head.len in
    let same : dst ≡ own = there ∙ (λ i. part b (place i) (long i)) in
    let whole : length own ≡ x.head.len = ap length (sym same) ∙ long in
    same ∙ sym (contents_same names o.header (form_of o.from) own (All-take (λ y. y < 256) x.head.len (drop (payload_place o.from x.head) b) (All-drop (λ y. y < 256) (payload_place o.from x.head) b bytes))
    o x.kind is refl refl (λ kind. let room = pair kind in omega (arith, room, whole)))

-- ---- struct nodes

-- elements side by side are all of their bytes
pub all_parts : (xs : List ℕ) (len n : ℕ) → flat_map (λ e. part xs (e * len) len) (numbers_below n) ≡ take (n * len) xs
all_parts xs len zero = let none : 0 ≡ 0 * len = omega arith in ap (λ (m : ℕ). take m xs) none
all_parts xs len (suc n) =
    let next : n + 1 ≡ suc n = omega arith in
    let sum : n * len + len ≡ suc n * len = omega arith in
    ap (λ (m : ℕ). flat_map (λ e. part xs (e * len) len) (numbers_below m)) (sym next) ∙ flat_map-next (λ e. part xs (e * len) len) n
    ∙ ap (λ (t : List ℕ). t ++ part xs (n * len) len) (all_parts xs len n) ∙ sym (take-add (n * len) len xs) ∙ ap (λ (m : ℕ). take m xs) sum

part_below : (xs : List ℕ) (at n : ℕ) → All (λ y. y < 256) xs → All (λ y. y < 256) (part xs at n)
part_below xs at n all = All-take (λ y. y < 256) n (drop at xs) (All-drop (λ y. y < 256) at xs all)

-- elements that stay as they are
pub whole_carried : (names : Naming Target) (e : Elements) (src : List ℕ) → StayWhole e → All (λ y. y < 256) src → length src ≡ e.count * e.len
    → src ≡ elements_carried names e e.count src
whole_carried names e src whole bytes long =
    sym (take_all (e.count * e.len) src (omega (arith, long))) ∙ sym (all_parts src e.len e.count)
    ∙ texts-same (λ k. part src (k * e.len) e.len) (λ k. applied e.plan.now names e.from e.to (part src (k * e.len) e.len) e.to_len) e.count
    (λ k lt.
    let inside : k * e.len + e.len ≤ e.count * e.len = element_within k e.count e.len lt in
    sym (whole.stays names (part src (k * e.len) e.len) (length-part src (k * e.len) e.len (omega (arith, inside, long))) (part_below src (k * e.len) e.len bytes)))

nothing : (xs : List ℕ) → length xs ≡ 0 → xs ≡ []
nothing [] is = refl
nothing (x ∷ xs) is = absurd (omega (arith, is))

none_of : (f : ℕ → List ℕ) (n : ℕ) → ((k : ℕ) → k < n → f k ≡ []) → flat_map f (numbers_below n) ≡ []
none_of f n empty = texts-same f (λ k. []) n empty ∙ all_parts [] 0 n ∙ (let none : n * 0 ≡ 0 = omega arith in ap (λ (m : ℕ). take {A = ℕ} m []) none)

module _ (names : Naming Target) (o : Output) (size : ℕ) (x : Node) (e : Elements) (output : IsOutput o size) (node : IsOutputNode o size x)
    (some : x.head.index ≢ 0) (are : AreElementsOf o x.head e) where
  -- the bytes of an element in the source
  abbrev len : ℕ
  len = (form_in o x.head.index).size

  struct_is : (x.head.index < length o.source.now.catalogue.structs) × (x.head.count * len ≤ x.head.len)
  struct_is = node_struct o.source.now.catalogue x.head node.node.no_fault (false_from_ne_true (x.head.index == 0) (λ raw. some (eqb-true x.head.index 0 raw)))

  -- all of them have as many bytes as the count of the head says
  all_len : e.count * e.len ≡ x.head.count * len
  all_len = λ i. are.count i * are.len i

  pub stand : StandIn e size
  stand = record {
    fits = rw (are.len, are.to_len, are.plan) (node.planned some).1.fits;
    short = let short = struct_short o.source.now.catalogue o.from.width x.head.index output.source_layout in omega (arith, are.len, short);
    to_short = let short = struct_short (target_of o) o.header.width (number_in o x.head.index) output.has_layout in omega (arith, are.to_len, short);
    inside = let fits = node.node.fits in let le = struct_is.1 in omega (arith, are.at, all_len, fits, le);
    small = let small = output.small in omega (arith, small);
  }

  module _ (b : List ℕ) (bytes : All (λ y. y < 256) b) (long : length b ≡ size) where
    -- element k of the source
    abbrev own : ℕ → List ℕ
    own k = part (part b (payload_place o.from x.head) x.head.len) (k * len) len

    own_is : (k : ℕ) → k < x.head.count → own k ≡ part b (payload_place o.from x.head + k * len) len
    own_is k lt =
        let inside : k * len + len ≤ x.head.count * len = element_within k x.head.count len lt in
        let le = struct_is.1 in
        part_within b (payload_place o.from x.head) x.head.len (k * len) len (omega (arith, inside, le))

    own_long : (k : ℕ) → k < x.head.count → length (own k) ≡ len
    own_long k lt =
        let inside : k * len + len ≤ x.head.count * len = element_within k x.head.count len lt in
        let le = struct_is.1 in
        let fits = node.node.fits in
        ap length (own_is k lt) ∙ length-part b (payload_place o.from x.head + k * len) len (omega (arith, inside, le, fits, long))

    -- what is carried of a node, element by element
    carried_is : carried_elements names (source_of o b) o.header (target_of o) x.head
        ≡ flat_map (λ k. carried_element names (form_in o x.head.index) (form_out o x.head.index) (own k)) (numbers_below x.head.count)
    carried_is = flat_map-map (carried_element names (form_in o x.head.index) (form_out o x.head.index)) own (numbers_below x.head.count)

    -- elements that were read and carried by their plan are those of the node
    pub elements_written : (dst : List ℕ) → dst ≡ elements_carried names e e.count (part b e.at (e.count * e.len))
        → dst ≡ carried_elements names (source_of o b) o.header (target_of o) x.head
    elements_written dst is =
        is
        ∙ (λ i. flat_map (λ k. applied (are.plan i) names (are.from i) (are.to i) (part (part b (are.at i) (are.count i * are.len i)) (k * are.len i) (are.len i)) (are.to_len i)) (numbers_below (are.count i)))
        ∙ texts-same _ (λ k. carried_element names (form_in o x.head.index) (form_out o x.head.index) (own k)) x.head.count
        (λ k lt.
        let inside : k * len + len ≤ x.head.count * len = element_within k x.head.count len lt in
        ap (λ (src : List ℕ). applied (plan_of o x.head.index) names o.from.order o.header.order src (form_out o x.head.index).size)
        (part_within b (payload_place o.from x.head) (x.head.count * len) (k * len) len inside ∙ sym (own_is k lt))
        ∙ (node.planned some).1.carries names (own k) (own_long k lt) (part_below (part b (payload_place o.from x.head) x.head.len) (k * len) len (part_below b (payload_place o.from x.head) x.head.len bytes)))
        ∙ sym carried_is

    -- so are those that stay as they are
    pub elements_read : (dst : List ℕ) → StayWhole e → length dst ≡ x.head.count * (form_out o x.head.index).size → dst ≡ part b e.at (length dst)
        → dst ≡ carried_elements names (source_of o b) o.header (target_of o) x.head
    elements_read dst whole dst_long there =
        let same : length dst ≡ e.count * e.len = dst_long ∙ (λ i. sym are.count i * (sym are.to_len ∙ whole.len) i) in
        let stands : part b e.at (length dst) ≡ part b e.at (e.count * e.len) = ap (λ (n : ℕ). part b e.at n) same in
        let read : dst ≡ part b e.at (e.count * e.len) = there ∙ stands in
        elements_written dst
        (read ∙ whole_carried names e (part b e.at (e.count * e.len)) whole (part_below b e.at (e.count * e.len) bytes) (ap length (sym read) ∙ same))

    -- and elements of no bytes have none together
    pub elements_empty : (dst : List ℕ) → (form_out o x.head.index).size ≡ 0 → length dst ≡ x.head.count * (form_out o x.head.index).size
        → dst ≡ carried_elements names (source_of o b) o.header (target_of o) x.head
    elements_empty dst none dst_long =
        let old : first_fault o.source.now.catalogue o.from.width ≡ None = first_fault-none o.source.now.catalogue o.from.width output.source_layout.no_fault in
        let new : first_fault (target_of o) o.header.width ≡ None = first_fault-none (target_of o) o.header.width output.has_layout.no_fault in
        nothing dst (dst_long ∙ ap (λ (n : ℕ). x.head.count * n) none ∙ omega arith)
        ∙ sym (carried_is ∙ none_of (λ k. carried_element names (form_in o x.head.index) (form_out o x.head.index) (own k)) x.head.count
        (λ k lt. nothing _ (length-carried_element names o.from.order o.header.order o.source.now.catalogue (target_of o) o.from.width o.header.width x.head.index (number_in o x.head.index) (own k) old new (own_long k lt) ∙ none)))
