-- What a file is converted to: with no option the written form of its own graph; and under any options, where the new
-- lengths fit, no float becomes another number, and the output passes no limit, the rebuilt graph under the target's header
-- and catalogue, in its written form.
use Rattle.std.proofs.Common.{◌≡◌, ℕ, ◌<◌, ◌≤◌, All, List, [], ◌∷◌, length, Option, Some, None, refl, sym, ap, subst, ◌∙◌}
use Rattle.std.specs.Prelude.{unwrap_or, IfSome}
use Rattle.bl_format.specs.declared.catalogue.Catalogue.{Catalogue}
use Rattle.bl_format.specs.declared.file.Header.{Header}
use Rattle.bl_num.specs.declared.number.Order.{Order}
use Rattle.bl_num.specs.declared.number.Width.{Width}
use Rattle.bl_format.specs.Limits.{most_blocks}
use Rattle.bl_format.specs.Blocks.{first_version, last_version}
use Rattle.bl_format.specs.Layout.{HasLayout}
use Rattle.bl_format.specs.Nodes.{File, Accepted}
use Rattle.bl_format.specs.Rewidth.{rewidth, rewidth_fault}
use Rattle.bl_format.proofs.HeaderFacts.{header_facts}
use Rattle.bl_format.proofs.RewidthHasLayout.{rewidth-HasLayout}
use Rattle.bl_selection.specs.Selection.{whole_selection, rebuilt_graph}
use Rattle.bl_selection.specs.Written.{written_form}
use Rattle.bl_selection.specs.Committed.{AcceptedIfGiven, IsConverted, IsRebuilt, KeepsFloats, target_header, target_catalogue}
use Rattle.bl_selection.specs.OutputSizes.{output_fault}
use Rattle.bl_selection.proofs.NothingClashes.{own_selection-no_clash}
use Rattle.bl_selection.proofs.OwnFormGraph.{accepted-CanBeRead}
use Rattle.bl_selection.proofs.RebuiltSizes.{rebuilt_graph-within_limits}
use Rattle.bl_selection.proofs.SameWidth.{rewidth-same}

-- the written form of a file's own graph is what the file is converted to with no option
pub own_form-converted : (b new : List ℕ) (f : File) → All (λ x. x < 256) b → Accepted b f → IsRebuilt f f.header f.catalogue new → IsConverted b None None None new
own_form-converted b new f bytes accepted rebuilt =
    let layout : HasLayout f.catalogue f.header.width = record { can_be_read = accepted-CanBeRead b f bytes accepted; no_fault = accepted.no_layout_fault } in
    let same = sym (rewidth-same f.catalogue f.header.width layout) in
    record {
      file = f;
      accepted = accepted;
      like_file = None;
      likewise = (refl, tt);
      no_clash = subst (λ (c : Catalogue). KeepsFloats f f.header c) same (own_selection-no_clash b f bytes accepted);
      stands = subst (λ (c : Catalogue). IsRebuilt f f.header c new) same rebuilt;
    }

-- a file whose version and catalogue an output can have
record CanBeTarget (g : File) : Type 0 where
  version : (first_version ≤ g.header.version) × (g.header.version ≤ last_version)
  layout : HasLayout g.catalogue g.header.width

accepted-target : (b : List ℕ) (g : File) → All (λ x. x < 256) b → Accepted b g → CanBeTarget g
accepted-target b g bytes accepted =
    let facts = header_facts b g.header accepted.reads.reads.header in
    record {
      version = (facts.oldest, facts.newest);
      layout = record { can_be_read = accepted-CanBeRead b g bytes accepted; no_fault = accepted.no_layout_fault };
    }

given-target : (f : File) (like : Option File) → CanBeTarget f → IfSome like (λ g. Accepted g.bytes g) → IfSome like (λ g. All (λ x. x < 256) g.bytes)
    → CanBeTarget (unwrap_or like f)
given-target f None own accepted bytes = own
given-target f (Some g) own accepted bytes = accepted-target g.bytes g bytes accepted

-- what is rebuilt of a file under the options' header and catalogue is what the file is converted to
pub converted-within_limits : (b : List ℕ) (like : Option (List ℕ)) (f : File) (like_file : Option File) (width : Option Width) (order : Option Order)
    → All (λ x. x < 256) b → Accepted b f → AcceptedIfGiven like like_file → IfSome like_file (λ g. All (λ x. x < 256) g.bytes)
    → length f.nodes ≤ most_blocks
    → KeepsFloats f (target_header f like_file width order) (target_catalogue f like_file width)
    → rewidth_fault (unwrap_or like_file f).catalogue (unwrap_or like_file f).header.width (unwrap_or width f.header.width) ≡ None
    → output_fault (f ∷ []) (whole_selection f (target_header f like_file width order) (target_catalogue f like_file width)) ≡ None
    → IsConverted b like width order
    (written_form (target_header f like_file width order) (target_catalogue f like_file width) (rebuilt_graph f (target_header f like_file width order) (target_catalogue f like_file width)))
converted-within_limits b like f like_file width order bytes accepted likewise given few no_clash fits none =
    let target : CanBeTarget (unwrap_or like_file f) = given-target f like_file (accepted-target b f bytes accepted) likewise.1 given in
    let from : File = unwrap_or like_file f in
    let layout : HasLayout (target_catalogue f like_file width) (unwrap_or width f.header.width) =
    rewidth-HasLayout from.catalogue from.header.width (unwrap_or width f.header.width) target.layout fits in
    record {
      file = f;
      accepted = accepted;
      like_file = like_file;
      likewise = likewise;
      no_clash = no_clash;
      stands = rebuilt_graph-within_limits b f (target_header f like_file width order) (target_catalogue f like_file width) bytes accepted few target.version layout none;
    }

-- a file is converted under a catalogue of its own width as it stands: where no float becomes another number, and the output
-- passes no limit
pub converted-same_width : (b c : List ℕ) (f g : File) → All (λ x. x < 256) b → All (λ x. x < 256) c → Accepted b f → Accepted c g → length f.nodes ≤ most_blocks
    → f.header.width ≡ g.header.width
    → KeepsFloats f (record f.header { version = g.header.version }) g.catalogue
    → output_fault (f ∷ []) (whole_selection f (record f.header { version = g.header.version }) g.catalogue) ≡ None
    → IsConverted b (Some c) None None
    (written_form (record f.header { version = g.header.version }) g.catalogue (rebuilt_graph f (record f.header { version = g.header.version }) g.catalogue))
converted-same_width b c f g bytes bytes' accepted accepted' few same no_clash none =
    let h : Header = record f.header { version = g.header.version } in
    let target : CanBeTarget g = accepted-target c g bytes' accepted' in
    let kept : target_catalogue f (Some g) None ≡ g.catalogue =
    ap (rewidth g.catalogue g.header.width) same ∙ rewidth-same g.catalogue g.header.width target.layout in
    record {
      file = f;
      accepted = accepted;
      like_file = Some g;
      likewise = (ap Some accepted'.bytes, subst (λ (x : List ℕ). Accepted x g) (sym accepted'.bytes) accepted');
      no_clash = subst (KeepsFloats f h) (sym kept) no_clash;
      stands = subst (λ (x : Catalogue). IsRebuilt f h x (written_form h g.catalogue (rebuilt_graph f h g.catalogue))) (sym kept)
          (rebuilt_graph-within_limits b f h g.catalogue bytes accepted few target.version
          (subst (HasLayout g.catalogue) (sym same) target.layout) none);
    }
