-- What is written of a node's payload, part by part. This project's own.
use Rattle.std.specs.Prelude.{◌≡◌, ◌≤◌, ◌<◌, ◌^◌, ℕ, ◌+◌, ◌-◌, ◌*◌, min, All, List, flat_map, length}
use Rattle.bl_format.specs.declared.file.Header.{Header}
use Rattle.bl_format.specs.declared.file.Head.{Head}
use Rattle.bl_format.specs.declared.raw.RawKind.TheVariants.{Pair}
use Rattle.bl_format.specs.Words.{part, numbers_below}
use Rattle.bl_format.specs.Blocks.{head_size}
use Rattle.bl_format.specs.Graph.{Target, Naming}
use Rattle.bl_format.specs.Nodes.{pair_length}
use Rattle.bl_plan.specs.Steps.{applied, PlanFits}
use Rattle.bl_selection.specs.Carried.{carried_payload}
use Rattle.bl_file.specs.Outlines.{IsNodeIn}
use Rattle.bl_writer.specs.declared.elements.Elements.{Elements}
use Rattle.bl_writer.specs.declared.output.Output.{Output}
use Rattle.bl_writer.specs.declared.nodes.Node.{Node}
use Rattle.bl_writer.specs.Outputs.{IsPlanned, plan_of, form_in, form_out, source_of, target_of}

-- the place of a node's payload, behind its head
abbrev pub payload_place : Header → Head → ℕ
payload_place h x = x.at + head_size h

-- ---- elements of structs

-- the first n of some elements side by side, each by a plan
abbrev pub elements_carried : Naming Target → Elements → ℕ → List ℕ → List ℕ
elements_carried names x n src =
    flat_map (λ e. applied x.plan.now names x.from x.to (part src (e * x.len) x.len) x.to_len) (numbers_below n)

-- elements stand in so many bytes of a file, and their plan reads and writes elements as long as they are
pub record StandIn (x : Elements) (size : ℕ) : Type 0 where
  pub fits : PlanFits x.len x.to_len x.plan.now
  pub short : x.len < 2 ^ 16
  pub to_short : x.to_len < 2 ^ 16
  pub inside : x.at + x.count * x.len ≤ size
  pub small : size < 2 ^ 63

-- the elements behind some that are done, so many of them at most
abbrev pub piece_at : Elements → ℕ → ℕ → Elements
piece_at x done most = record {
  plan = x.plan;
  from = x.from;
  to = x.to;
  len = x.len;
  to_len = x.to_len;
  at = x.at + done * x.len;
  count = min most (x.count - done);
}

-- by their plan each element stays as it is, byte by byte
pub record StayWhole (x : Elements) : Type 0 where
  pub len : x.to_len ≡ x.len
  pub stays : (names : Naming Target) (src : List ℕ) → length src ≡ x.len → All (λ b. b < 256) src
      → applied x.plan.now names x.from x.to src x.to_len ≡ src

-- elements are those of a struct node of an output
pub record AreElementsOf (o : Output) (x : Head) (e : Elements) : Type 0 where
  pub plan : e.plan.now ≡ plan_of o x.index
  pub from : e.from ≡ o.from.order
  pub to : e.to ≡ o.header.order
  pub len : e.len ≡ (form_in o x.index).size
  pub to_len : e.to_len ≡ (form_out o x.index).size
  pub at : e.at ≡ payload_place o.from x
  pub count : e.count ≡ x.count

-- ---- nodes

-- a node of an output stands whole in a source of so many bytes, and can be written
pub record IsOutputNode (o : Output) (size : ℕ) (x : Node) : Type 0 where
  pub node : IsNodeIn o.from o.source.now.catalogue size x.head
  pub planned : IsPlanned o x.head
  pub pair : x.kind ≡ Pair → pair_length ≤ x.head.len

-- the payload of a node as it is written, by the source's bytes
abbrev pub payload_bytes : Naming Target → Output → List ℕ → Node → List ℕ
payload_bytes names o b x = carried_payload names (source_of o b) o.header (target_of o) x.kind x.head
