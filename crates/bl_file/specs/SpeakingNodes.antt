-- A struct node that says anything of raw nodes, as it is read. This project's own.
use Rattle.std.specs.Prelude.{◌≡◌, ◌≢◌, ℕ, All}
use Rattle.bl_format.specs.Layout.{struct_length}
use Rattle.bl_file.specs.declared.node_views.SpeakingNode.{SpeakingNode}
use Rattle.bl_file.specs.Outlines.{IsNodeIn}
use Rattle.bl_file.specs.Speakers.{IsHeard}

-- it stands whole in a file of so many bytes, it isn't raw, and what says anything stands in its struct
pub record IsSpeakingNode (x : SpeakingNode) (size : ℕ) : Type 0 where
  pub width : x.sight.now.layout.now.width ≡ x.sight.now.header.now.width
  pub node : IsNodeIn x.sight.now.header.now x.sight.now.layout.now.catalogue size x.head.now
  pub index : x.head.now.index ≢ 0
  pub heard : All (IsHeard (struct_length x.sight.now.layout.now.catalogue x.head.now.index)) x.speakers.now
