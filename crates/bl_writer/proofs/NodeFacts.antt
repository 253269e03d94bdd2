-- What is so of the nodes of an output.
use Rattle.std.proofs.Common.{◌≡◌, ℕ, ◌*◌, ◌≤◌, ◌<◌, Bool, true, false, cond, List, length, get_or, Some, None, refl, ap, ◌∙◌, arith}
use Rattle.std.specs.Prelude.{◌==◌, map, nat_le, nat_lt}
use Rattle.std.proofs.lemmas.Bool.{leb-false, ltb-false}
use Rattle.std.proofs.lemmas.List.{length-map}
use Rattle.std.proofs.lemmas.List.Elements.{All-weaker}
use Rattle.bl_format.specs.declared.file.Header.{Header}
use Rattle.bl_format.specs.declared.file.Head.{Head}
use Rattle.bl_format.specs.declared.catalogue.Catalogue.{Catalogue}
use Rattle.bl_format.specs.Limits.{most_input_bytes}
use Rattle.bl_format.specs.Words.{numbers_below}
use Rattle.bl_format.specs.Layout.{struct_length, struct_numbers}
use Rattle.bl_format.proofs.NumbersBelow.{length-numbers_below, get_or-by}
use Rattle.bl_format.specs.Nodes.{BadStruct, ShortBlock, node_fault}
use Rattle.bl_selection.specs.Selection.{no_head}
use Rattle.bl_file.specs.Outlines.{IsNodeIn}
use Rattle.bl_writer.specs.declared.output.Output.{Output}
use Rattle.bl_writer.specs.declared.nodes.Node.{Node}
use Rattle.bl_writer.specs.Outputs.{IsOutput, node_of, number_in}
use Rattle.bl_writer.specs.Payloads.{IsOutputNode}

-- each node can be written
pub output_node : (o : Output) (size k : ℕ) → IsOutput o size → k < length o.nodes.now → IsOutputNode o size (node_of o k)
output_node o size k is lt = record { node = is.nodes k no_head lt; planned = is.planned k no_head lt; pair = is.pairs k }

pub node_most : (h : Header) (c : Catalogue) (size : ℕ) (x : Head) → size ≤ most_input_bytes → IsNodeIn h c size x → IsNodeIn h c most_input_bytes x
node_most h c size x le node = record {
  behind = node.behind;
  fits = let fits = node.fits in omega (arith, fits, le);
  len = node.len;
  index = node.index;
  count = node.count;
  address = node.address;
  code_len = node.code_len;
  code = node.code;
  no_end = node.no_end;
  no_catalogue = node.no_catalogue;
  no_fault = node.no_fault;
}

-- so is a node
pub IsOutputNode-most : (o : Output) (size : ℕ) (x : Node) → size ≤ most_input_bytes → IsOutputNode o size x → IsOutputNode o most_input_bytes x
IsOutputNode-most o size x le node = record {
  node = node_most o.from o.source.now.catalogue size x.head le node.node;
  planned = node.planned;
  pair = node.pair;
}

-- an output of a source is one of the longest source
pub IsOutput-most : (o : Output) (size : ℕ) → IsOutput o size → IsOutput o most_input_bytes
IsOutput-most o size is = record {
  version = is.version;
  width = is.width;
  has_layout = is.has_layout;
  short = is.short;
  source_width = is.source_width;
  source_layout = is.source_layout;
  numbers = is.numbers;
  plans = is.plans;
  planned = is.planned;
  few = is.few;
  small = omega arith;
  nodes = All-weaker (IsNodeIn o.from o.source.now.catalogue size) (IsNodeIn o.from o.source.now.catalogue most_input_bytes)
      (λ x node. node_most o.from o.source.now.catalogue size x is.small node) o.nodes.now is.nodes;
  kinds = is.kinds;
  pairs = is.pairs;
}

-- the checks of a node as tests
passed : (raw wide short : Bool) (at : ℕ)
    → cond raw None (cond wide (Some (BadStruct at)) (cond short (Some (ShortBlock at)) None)) ≡ None → raw ≡ false
    → (wide ≡ false) × (short ≡ false)
passed true wide short at is other = absurd (cc)
passed false true short at is other = absurd (cc)
passed false false true at is other = absurd (cc)
passed false false false at is other = (refl, refl)

-- a struct node without a fault has the number of a struct, and its elements fit its payload
pub node_struct : (c : Catalogue) (x : Head) → node_fault c x ≡ None → (x.index == 0) ≡ false
    → (x.index < length c.structs) × (x.count * struct_length c x.index ≤ x.len)
node_struct c x none other =
    let tests = passed (x.index == 0) (nat_le (length c.structs) x.index) (nat_lt x.len (x.count * struct_length c x.index)) x.at none other in
    let index = leb-false (length c.structs) x.index tests.0 in
    let fits = ltb-false x.len (x.count * struct_length c x.index) tests.1 in
    (omega (arith, index), omega (arith, fits))

-- ---- numbers of structs

-- each struct has a place among the numbers
pub numbers_long : (o : Output) (s : ℕ) (numbers : List ℕ) → numbers ≡ map (number_in o) (struct_numbers o.source.now.catalogue)
    → s < length o.source.now.catalogue.structs → s < length numbers
numbers_long o s numbers are lt =
    let n : ℕ = length o.source.now.catalogue.structs in
    let long : length numbers ≡ n = ap length are ∙ length-map (numbers_below n) (number_in o) ∙ length-numbers_below n in
    omega (arith, long, lt)

-- at which its own stands
pub number_at : (o : Output) (s d : ℕ) (numbers : List ℕ) → numbers ≡ map (number_in o) (struct_numbers o.source.now.catalogue)
    → s < length o.source.now.catalogue.structs → get_or numbers s d ≡ number_in o s
number_at o s d numbers are lt =
    let n : ℕ = length o.source.now.catalogue.structs in
    ap (λ (xs : List ℕ). get_or xs s d) are ∙ get_or-by (number_in o) n s d lt
